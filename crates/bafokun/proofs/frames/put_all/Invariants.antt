use Rattle.std.proofs.Common.{◌≡◌, ◌≤◌, ◌<◌, ℕ, length, get_or}
use Rattle.co_frame.specs.FrameContent.{FrameContent}
use Rattle.bafokun.specs.declared.frames.CanFrame.{CanFrame}
use Rattle.bafokun.specs.Frames.{c_frame}
use Rattle.bafokun.proofs.frames.put_all.Given as goal

-- the places before the index have their frames, the others what they had
abbrev pub invariant-loop-i : goal.invariant-loop-i
invariant-loop-i l = record {
  room : length l.places ≡ length l.fn.places;
  put : (j : ℕ) (f : FrameContent) (c : CanFrame) → j < l.i → get_or l.places j c ≡ c_frame (get_or l.frames j f);
  kept : (j : ℕ) (c : CanFrame) → l.i ≤ j → get_or l.places j c ≡ get_or l.fn.places j c;
}
