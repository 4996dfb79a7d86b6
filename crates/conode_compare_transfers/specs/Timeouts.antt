-- When the SDO server of a device times out, where that is known (CiA 301, 7.2.4.3.17: 05040000h).
-- CiA 301 doesn't say after which time, nor that it has to.
use Rattle.std.specs.Prelude.{ℕ, ◌+◌, ◌-◌, ◌*◌, ◌==◌, nat_lt, Bool, true, false, ◌&&◌, ◌||◌, if◌then◌else◌, Option, Some, None, option_and_then}
use Rattle.std.specs.Option.{option_or}
use Rattle.co_frame_aborts.specs.AbortCodes.{timed_out}
use Rattle.co_value.specs.declared.key.Key.{Key}
use Rattle.conode_explain_transfers.specs.declared.channel.Heard.{Heard}
use Rattle.conode_explain_transfers.specs.declared.ended.Ended.{Ended}
use Rattle.conode_explain_transfers.specs.declared.ended.Ending.{Ending}
use Rattle.conode_explain_transfers.specs.declared.ended.Ending.TheVariants.{Aborted}
use Rattle.conode_explain_transfers.specs.declared.kinds.Side.{Side}
use Rattle.conode_explain_transfers.specs.declared.kinds.Side.TheVariants.{Client, Server}
use Rattle.conode_explain_transfers.specs.declared.kinds.What.{What}
use Rattle.conode_explain_transfers.specs.declared.kinds.What.TheVariants.{Part, Segment, OutOfSequence}
use Rattle.conode_compare_transfers.specs.declared.breach.Breach.{Breach}
use Rattle.conode_compare_transfers.specs.declared.breach.Breach.TheVariants.{Early}
use Rattle.conode_compare_transfers.specs.declared.dialogue.Exchange.{Exchange}
use Rattle.conode_compare_transfers.specs.Times.{micros_of}

-- so many percent of so many ms, in microseconds
abbrev pub drift_of : ℕ → ℕ → ℕ
drift_of drift millis = (millis * drift) * 10

-- ---- before the timeout

-- `time`: how long the server awaits the client's next frame, in ms; with 0 it never times out. The
-- tolerance is in ms, the drift of its clock in percent.
abbrev pub is_early : ℕ → ℕ → ℕ → ℕ → Bool
is_early tolerance drift time waited =
    (time == 0) || nat_lt waited ((micros_of time - micros_of tolerance) - drift_of drift time)

-- the device gives up a transfer, since it timed out
abbrev pub times_out : Ending → Bool
times_out (Aborted Server code) = code.0 == timed_out
times_out other = false

abbrev pub early_breach : ℕ → ℕ → Key → ℕ → ℕ → Option Breach
early_breach tolerance drift key waited time = if is_early tolerance drift time waited then Some (Early key waited time) else None

abbrev pub early_end : ℕ → ℕ → Option ℕ → Option ℕ → Ended → Option Breach
early_end tolerance drift time awaited ended =
    if times_out ended.ending
    then option_and_then (λ waited. option_and_then (early_breach tolerance drift ended.key waited) time) awaited
    else None

-- `abort-early`: the device aborts a transfer as timed out while it awaits the client's next frame,
-- and it awaited that for less than its time, where this is known
abbrev pub early_abort : ℕ → ℕ → Option ℕ → Exchange → Option Breach
early_abort tolerance drift time exchange = option_and_then (early_end tolerance drift time exchange.awaited) exchange.heard.ended

-- ---- after the timeout

abbrev pub is_late : ℕ → ℕ → ℕ → ℕ → Bool
is_late tolerance drift time waited =
    nat_lt 0 time && nat_lt (micros_of time + micros_of tolerance + drift_of drift time) waited

-- a frame that goes on with the open transfer
abbrev pub goes_on_with : What → Bool
goes_on_with Part = true
goes_on_with (Segment number) = true
goes_on_with (OutOfSequence number awaited) = true
goes_on_with other = false

-- How long the device had awaited the client's newest frame in the open transfer, until it answers
-- that: of a sub-block the first segment. `awaited`: how long before this frame.
unfoldable pub resumed_after : Side → What → Option ℕ → Option ℕ → Option ℕ
resumed_after Client what awaited resumed = if goes_on_with what then option_or awaited resumed else None
resumed_after Server what awaited resumed = None

-- the entry of a transfer that ends otherwise than by an abort
abbrev pub served_end : Key → Ending → Option Key
served_end key (Aborted side code) = None
served_end key ending = Some key

abbrev pub served_in : Option Key → Option Ended → Option Key
served_in of None = of
served_in of (Some ended) = served_end ended.key ended.ending

-- the entry of the transfer that a frame of the device goes on with, or ends otherwise than by an abort
unfoldable pub served_key : Heard → Option Key
served_key heard = if goes_on_with heard.what then served_in heard.of heard.ended else None
