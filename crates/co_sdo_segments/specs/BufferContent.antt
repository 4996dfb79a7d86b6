-- What contracts see of a buffer.
use Rattle.std.specs.Prelude.{ℕ, List}

-- the bytes in a buffer, and its room in bytes
pub record BufferContent : Type 0 where
  pub bytes : List ℕ
  pub room : ℕ
