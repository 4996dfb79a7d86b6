-- What a recording showed so far: stamps, in microseconds, and interfaces.
use Rattle.std.specs.Prelude.{ℕ, Bool, true, false, not, ◌&&◌, ◌||◌, if◌then◌else◌, List, []}
use Rattle.std.specs.Str.{bytes_eq}
use Rattle.conode_explain_text.specs.declared.so_far.Times.{Times}

pub record SoFar : Type 0 where
  -- whether a frame came
  pub started : Bool
  -- the stamps of the first frame, and of the last one
  pub first : ℕ
  pub last : ℕ
  -- the interface of the first frame, and whether a frame of another one came
  pub interface : List ℕ
  pub several : Bool

-- no frame came
abbrev pub nothing_seen : SoFar
nothing_seen = record { started = false; first = 0; last = 0; interface = []; several = false }

-- the times of a frame with this stamp: the first frame comes at the first stamp, right after
-- itself
abbrev pub times_at : SoFar → ℕ → Times
times_at so_far micros =
    if so_far.started then record { first = so_far.first; before = so_far.last; now = micros }
    else record { first = micros; before = micros; now = micros }

-- a line names its interface where another one came before, or where this is another one than the
-- first
abbrev pub shows_interface : SoFar → List ℕ → Bool
shows_interface so_far name = so_far.several || (so_far.started && not (bytes_eq so_far.interface name))

-- what was seen, and a frame with this stamp and this interface
abbrev pub seen_with : SoFar → ℕ → List ℕ → SoFar
seen_with so_far micros name =
    if so_far.started then record so_far { last = micros; several = shows_interface so_far name }
    else record { started = true; first = micros; last = micros; interface = name; several = false }
