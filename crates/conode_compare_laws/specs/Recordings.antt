-- The recording of a device: what a recorder hears of it, over all that may come to it.
use Rattle.std.specs.Prelude.{ℕ, ◌+◌, ◌≤◌, List, [], ◌∷◌, ◌++◌, map}
use Rattle.co_frame.specs.FrameContent.{FrameContent}
use Rattle.co_node_model.specs.Inputs.{InputView, Inputs, Framed, Ticked, Applied}
use Rattle.co_node_model.specs.Moments.{Constants}
use Rattle.co_node_model.specs.Device.{prescribed}
use Rattle.co_node_model.specs.Heartbeats.{boot_up}

-- an input of a device, and when it comes, in microseconds
pub record Stamped : Type 0 where
  pub micros : ℕ
  pub input : InputView

-- a data frame of a recording, with its stamp in microseconds
pub record Recorded : Type 0 where
  pub micros : ℕ
  pub frame : FrameContent

abbrev pub with_stamp : ℕ → FrameContent → Recorded
with_stamp micros frame = record { micros = micros; frame = frame }

-- frames at one time
abbrev pub stamped : ℕ → List FrameContent → List Recorded
stamped micros frames = map (with_stamp micros) frames

-- the frame that an input is; a tick, 1 ms, and an event of the application are none
abbrev pub frame_of : InputView → List FrameContent
frame_of (Framed frame) = frame ∷ []
frame_of Ticked = []
frame_of (Applied event) = []

-- what is heard at an input that comes after these: the frame that it is, then the frames that the
-- device sends at it
abbrev pub heard_at : Constants → Inputs → Stamped → List Recorded
heard_at k before s = stamped s.micros (frame_of s.input ++ prescribed k before s.input)

-- at inputs one after another, the first one first
abbrev pub heard_from : Constants → Inputs → List Stamped → List Recorded
heard_from k before [] = []
heard_from k before (s ∷ later) = heard_at k before s ++ heard_from k (s.input ∷ before) later

-- all that is heard of a device from its boot-up on, which has the stamp of the first input; the
-- stamps are whatever the recorder says
abbrev pub recording : Constants → List Stamped → List Recorded
recording k [] = []
recording k (s ∷ later) = with_stamp s.micros (boot_up k) ∷ heard_from k [] (s ∷ later)

-- ---- stamps that ticks allow

-- how many microseconds an input takes: a tick is 1 ms
abbrev pub elapsed : InputView → ℕ
elapsed (Framed frame) = 0
elapsed Ticked = 1000
elapsed (Applied event) = 0

-- after a stamp none comes later than the ticks since have it
abbrev pub AreInTime : ℕ → List Stamped → Type 0
AreInTime last [] = Unit {0}
AreInTime last (s ∷ later) = (s.micros ≤ last + elapsed s.input) × AreInTime s.micros later

-- from the first input on, no stamp is later than the ticks have it
abbrev pub AreTimed : List Stamped → Type 0
AreTimed [] = Unit {0}
AreTimed (s ∷ later) = AreInTime s.micros later

-- after a stamp none comes earlier than the ticks since have it
abbrev pub AreSpaced : ℕ → List Stamped → Type 0
AreSpaced last [] = Unit {0}
AreSpaced last (s ∷ later) = (last + elapsed s.input ≤ s.micros) × AreSpaced s.micros later

-- from the first input on, no stamp is earlier than the ticks have it
abbrev pub AreUnhurried : List Stamped → Type 0
AreUnhurried [] = Unit {0}
AreUnhurried (s ∷ later) = AreSpaced s.micros later
