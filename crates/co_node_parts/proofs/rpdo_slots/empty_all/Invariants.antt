use Rattle.std.proofs.Common.{◌≡◌, ℕ, ◌<◌, ◌≤◌, get_or}
use Rattle.std.specs.Prelude.{Option, None}
use Rattle.co_frame.specs.FrameContent.{FrameContent}
use Rattle.co_node_parts.proofs.rpdo_slots.empty_all.Given as goal

-- the slots before the index are empty, the others are as they were
abbrev pub invariant-loop-k : goal.invariant-loop-k
invariant-loop-k l = record {
  done : (j : ℕ) (d : Option FrameContent) → j < l.k → get_or l.slots j d ≡ None;
  rest : (j : ℕ) (d : Option FrameContent) → l.k ≤ j → get_or l.slots j d ≡ get_or l.fn.slots j d;
}
