-- The read calls of a reader, counted.
use Rattle.std.specs.Prelude.{ℕ, Bool}

-- the counter of read calls, as contracts see it
pub record Asked : Type 0 where
  -- remaining read calls
  pub left : ℕ
  -- whether one failed; an interruption by a signal is no failure
  pub failed : Bool
