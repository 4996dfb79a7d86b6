-- The frames of many inputs.
use Rattle.std.specs.Prelude.{ℕ, ◌+◌, ◌<◌, ◌≤◌, List, [], ◌∷◌, ◌++◌, length}
use Rattle.co_frame.specs.FrameContent.{FrameContent}

-- the recorded frames, for each input the number of frames up to its end, and the room for frames
-- and inputs
pub record Recorded : Type 0 where
  pub frames : List FrameContent
  pub ends : List ℕ
  pub frame_room : ℕ
  pub input_room : ℕ

-- there is room for one more input with `frames` frames
pub record HasRoom (frames : ℕ) (r : Recorded) : Type 0 where
  pub input : length r.ends < r.input_room
  pub sent : length r.frames + frames ≤ r.frame_room

-- one more input with these frames
abbrev pub with_input : List FrameContent → Recorded → Recorded
with_input frames r = record r {
  frames = r.frames ++ frames;
  ends = r.ends ++ (length r.frames + length frames) ∷ [];
}
