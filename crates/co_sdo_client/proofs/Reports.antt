-- How worked transfers are written: frames as hexadecimal digits, and what a client sends, how it stands and the bytes it gives.
use Rattle.std.proofs.Common.{ℕ, List, [], ◌∷◌, map, reverse}
use Rattle.std.specs.Prelude.{Bool, ◌+◌, ◌-◌, ◌*◌, nat_lt, if◌then◌else◌}
use Rattle.co_sdo_client.specs.declared.mode.Mode.{Mode}
use Rattle.co_sdo_client.specs.declared.state.ClientState.{ClientState}
use Rattle.co_sdo_client.specs.declared.state.ClientState.TheVariants.{Waiting, Done, Failed}
use Rattle.co_sdo_client.specs.Calls.{Download, Upload, Call, Event, Answered, message_bytes}
use Rattle.co_sdo_client.specs.Outcomes.{outcome, all_asked, result}

-- ---- what is asked and shown

-- calls for 2001:00, with a time of 3 ms
abbrev pub download : Mode → List ℕ → Bool → Call
download mode bytes tells = record { key = record { index = 0x2001; sub = 0 }; mode = mode; time = 3; job = Download bytes tells }

abbrev pub upload : Mode → ℕ → Call
upload mode cap = record { key = record { index = 0x2001; sub = 0 }; mode = mode; time = 3; job = Upload cap }

-- frames are written as hexadecimal digits
abbrev pub digit : ℕ → ℕ
digit code = if nat_lt code 65 then code - 48 else code - 55

abbrev pub hex : List ℕ → List ℕ
hex [] = []
hex (high ∷ []) = []
hex (high ∷ low ∷ digits) = (16 * digit high + digit low) ∷ hex digits

-- an answer
abbrev pub a : List ℕ → Event
a digits = Answered (hex digits)

pub record Report : Type 0 where
  pub sent : List (List ℕ)
  pub state : ClientState
  pub value : List ℕ

-- all that a client sends, its state and its value after events, the first one first
abbrev pub report : Call → List Event → Report
report call events = record {
  sent = map message_bytes (all_asked call (reverse events));
  state = outcome call (reverse events);
  value = result call (reverse events);
}

abbrev pub waiting : List (List ℕ) → Report
waiting sent = record { sent = map hex sent; state = Waiting; value = [] }

abbrev pub done : List (List ℕ) → List ℕ → Report
done sent value = record { sent = map hex sent; state = Done; value = value }

abbrev pub failed : ℕ → List (List ℕ) → Report
failed code sent = record { sent = map hex sent; state = Failed (record { 0 = code }); value = [] }
