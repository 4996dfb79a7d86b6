-- A CAN frame for C, and the frames that are put into an array of C.
use Rattle.std.specs.Prelude.{◌≡◌, ℕ, ◌-◌, ◌<◌, ◌≤◌, List, ◌++◌, length, take, replicate, slice_index_or}
use Rattle.co_frame.specs.FrameContent.{FrameContent}
use Rattle.bafokun.specs.declared.frames.CanFrame.{CanFrame}

-- the form of a frame for C: its identifier, the number of its data bytes, and these; the bytes
-- after them are 0
abbrev pub c_frame : FrameContent → CanFrame
c_frame f = record { id = f.id; length = length f.bytes; bytes = f.bytes ++ replicate (8 - length f.bytes) 0 }

-- the frame of C's form
abbrev pub content_of : CanFrame → FrameContent
content_of f = record { id = f.id; bytes = take f.length f.bytes }

-- C's form is a CAN frame: an identifier of 11 bits, and at most eight data bytes
abbrev pub IsCan : CanFrame → Type 0
IsCan f = (f.id < 2048) × (f.length ≤ 8)

-- the array has the frames, as many as it has room for; the rest is unchanged
pub record ArePut (frames : List FrameContent) (before after : List CanFrame) : Type 0 where
  pub room : length after ≡ length before
  pub put : (i : ℕ) (f : FrameContent) (c : CanFrame) → i < length frames → i < length before
      → slice_index_or after i c ≡ c_frame (slice_index_or frames i f)
  pub kept : (i : ℕ) (c : CanFrame) → length frames ≤ i → slice_index_or after i c ≡ slice_index_or before i c
