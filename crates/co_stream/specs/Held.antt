-- What is held of a reader's bytes.
use Rattle.std.specs.Prelude.{ℕ, Bool, false, List, [], Option}
use Rattle.co_stream.specs.Readings.{known_bytes}

-- the last line that was taken, and the bytes after it
pub record Taken : Type 0 where
  pub line : List ℕ
  pub rest : List ℕ

-- the same, and whether the reader has come to its end
pub record Held : Type 0 where
  pub line : List ℕ
  pub rest : List ℕ
  pub ended : Bool

-- nothing was read yet
abbrev pub nothing_held : Held
nothing_held = record { line = []; rest = []; ended = false }

-- the bytes after the lines so far, where they are known
abbrev pub to_come : Held → Option (List ℕ) → Option (List ℕ)
to_come held remaining = known_bytes held.ended held.rest remaining
