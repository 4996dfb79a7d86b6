-- What contracts see of a frame (CiA 301, 6.2).
use Rattle.std.specs.Prelude.{ℕ, ◌<◌, ◌≤◌, List, length}

-- an identifier and data bytes
pub record FrameContent : Type 0 where
  pub id : ℕ
  pub bytes : List ℕ

-- an identifier of 11 bits, and at most eight bytes
abbrev pub IsFrame : FrameContent → Type 0
IsFrame frame = (frame.id < 2048) × (length frame.bytes ≤ 8)
