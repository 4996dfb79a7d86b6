-- The end of an error of the CAN interface: which bits of the error register it clears (CiA 301,
-- 7.2.7.1 and 7.5.2.2).
use Rattle.std.specs.Prelude.{ℕ, zero, suc, ◌==◌, ◌-◌, ◌&&◌, ◌||◌, not, if◌then◌else◌, Bool, true, false, bit_and, bit_or, List, ◌∷◌, length, slice_index, Option, Some, None}
use Rattle.std.specs.Option.{option_map_or}
use Rattle.co_value.specs.Keys.{same_key}
use Rattle.co_profile.specs.Keys.{error_register_key}
use Rattle.co_node_model.specs.declared.app_answer.AppAnswer.{AppAnswer}
use Rattle.co_node_model.specs.declared.app_answer.AppAnswer.TheVariants as app
use Rattle.co_node_model.specs.Inputs.{AppView, Written, EventOn, ChangedAt, Raised, Cleared, InputView, Inputs, Framed, Ticked, Applied}
use Rattle.co_node_model.specs.Moments.{Constants}
use Rattle.co_node_model.specs.Device.{app_after}
use Rattle.co_node_model.specs.Ticks.{after_ticks}
use Rattle.co_node_device.specs.declared.seen.Seen.{Seen}
use Rattle.co_node_device.specs.Lasts.{last_losses, last_seen}
use Rattle.bafokun.specs.declared.ending.Ending.{Ending}
use Rattle.bafokun.specs.declared.held.Held.{Held}
use Rattle.bafokun.specs.declared.handle.Handle.{Handle}
use Rattle.bafokun.specs.Changes.{reset_seen}

-- after the build and after a reset: no error is known
abbrev pub no_error : Ending
no_error = record { communication = false; generic = true }

-- bit 4 of the error register, communication error, isn't set
abbrev pub lacks_communication : ℕ → Bool
lacks_communication bits = bit_and bits 0x10 == 0

-- no bit but bit 0, generic error, is set
abbrev pub is_generic : ℕ → Bool
is_generic bits = bit_and bits 0xFE == 0

-- ---- what one input does

-- an error of the application with these bits: those that it has stay; bit 0 stays for its own sake
-- if the error has no other
abbrev pub with_error : ℕ → Ending → Ending
with_error bits e = record { communication = e.communication && lacks_communication bits; generic = e.generic && not (is_generic bits) }

-- the application cleared these bits, whichever error set them
abbrev pub with_cleared : ℕ → Ending → Ending
with_cleared bits e =
    record { communication = e.communication && lacks_communication bits; generic = e.generic || not (bit_and bits 1 == 0) }

-- the application wrote these bytes into the error register: they stay
abbrev pub with_written : List ℕ → Ending
with_written bytes = record { communication = false; generic = bit_and (slice_index bytes 0) 1 == 0 }

-- an event of the application that was done
abbrev pub by_event : AppView → Ending → Ending
by_event (Written key bytes) e = if same_key key error_register_key then with_written bytes else e
by_event (EventOn n) e = e
by_event (ChangedAt key) e = e
by_event (Raised code bits manufacturer) e = with_error bits e
by_event (Cleared bits) e = with_cleared bits e

-- an event of the application, by its answer
abbrev pub by_answer : AppAnswer → AppView → Ending → Ending
by_answer app.None event e = e
by_answer app.Done event e = by_event event e
by_answer (app.Refused code) event e = e

-- heartbeats were lost: an error with bit 4 each (8130h)
abbrev pub by_losses : List ℕ → Ending → Ending
by_losses subs e = if length subs == 0 then e else record e { communication = false }

-- a reset, if one is seen: the error register has its default
abbrev pub by_seen : Seen → Ending → Ending
by_seen s e = option_map_or (λ area. no_error) (reset_seen s) e

-- one more input
abbrev pub by_input : Constants → Inputs → InputView → Ending → Ending
by_input k before (Framed frame) e = by_seen (last_seen k (Framed frame ∷ before)) e
by_input k before Ticked e = by_losses (last_losses k (Ticked ∷ before)) e
by_input k before (Applied event) e = by_answer (app_after k (Applied event ∷ before)) event e

-- so many ticks
abbrev pub by_ticks : Constants → Inputs → ℕ → Ending → Ending
by_ticks k before zero e = e
by_ticks k before (suc n) e = by_input k (after_ticks n before) Ticked (by_ticks k before n e)

-- a change of the CAN controller, by the error register before it: error active again, no bit 4 is
-- left that errors of the CAN interface alone have set; error passive or recovered from bus-off,
-- they alone have set bit 4 if it wasn't set
abbrev pub by_change : ℕ → ℕ → Ending → Ending
by_change change register e =
    if change == 0 then record e { communication = false }
    else if change == 1 then record e { communication = e.communication || lacks_communication register }
    else if change == 3 then record e { communication = e.communication || lacks_communication register }
    else e

-- ---- what ends at error active: bits of an error register

-- bit 4, if errors of the CAN interface alone have set it
abbrev pub ended_communication : Ending → ℕ
ended_communication e = if e.communication then 0x10 else 0

-- and bit 0, if no other bit is left then and no error is known that has it alone
abbrev pub ended_bits : Ending → ℕ → ℕ
ended_bits e register =
    if e.generic && is_generic (bit_and register (255 - ended_communication e))
    then bit_or (ended_communication e) 1
    else ended_communication e

-- ---- of a device

-- what ends of a held device
abbrev pub ending_in : Option Held → Ending
ending_in None = no_error
ending_in (Some held) = held.ending

-- what ends of a place's device
abbrev pub ending_of : Handle → Ending
ending_of place = ending_in place.seal.value
