-- What a node sends in one step.
use Rattle.std.specs.Prelude.{ℕ, ◌+◌, ◌≤◌}
use Rattle.arrayvec.specs.ArrayVec.{ArrayVec, array_vec_len}
use Rattle.co_frame.specs.FrameContent.{FrameContent}

-- the room of an outbox: 512 TPDOs, a heartbeat and one frame more
abbrev pub outbox_room : ℕ
outbox_room = 514

-- an outbox has room for this many more frames
abbrev pub HasRoomFor : ℕ → ArrayVec FrameContent → Type 0
HasRoomFor frames outbox = array_vec_len outbox + frames ≤ outbox_room
