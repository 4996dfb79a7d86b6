use Rattle.std.proofs.Common.{◌≡◌, ℕ, ◌≤◌, ◌<◌, ◌+◌, ◌*◌, ◌++◌, length, map, take}
use Rattle.co_node_model.specs.Inputs.{Inputs, input_view}
use Rattle.co_node_model.specs.Moments.{Constants}
use Rattle.co_node_model.specs.Device.{after_all, all_frames}
use Rattle.co_node.specs.Held.{HoldsWithin}
use Rattle.co_node.specs.Memory.{memory_of}
use Rattle.co_node.specs.Nodes.{Stands}
use Rattle.co_node.specs.Records.{HasRoom}
use Rattle.co_node.specs.Runs.{all_ends, most_frames, recorded_after}
use Rattle.co_node.proofs.node.Node.run.Given as goal

-- after the inputs so far
abbrev pub invariant-loop-input : goal.invariant-loop-input
invariant-loop-input l = record {
  count : l.taken ≡ length l.yielded;
  within : l.taken ≤ length l.inputs;
  frame_room : l.kept.frame_room ≡ l.fn.kept.frame_room;
  input_room : l.kept.input_room ≡ l.fn.kept.input_room;
  frames : (k : Constants) (before : Inputs) → Stands k l.fn.self before →
      l.kept.frames ≡ l.fn.kept.frames ++ all_frames k before (take l.taken (map input_view l.inputs));
  ends : (k : Constants) (before : Inputs) → Stands k l.fn.self before →
      l.kept.ends ≡ l.fn.kept.ends ++ all_ends k before (length l.fn.kept.frames) (take l.taken (map input_view l.inputs));
  few : (k : Constants) (before : Inputs) → Stands k l.fn.self before →
      length l.kept.frames ≤ length l.fn.kept.frames + l.taken * most_frames k;
  held : (k : Constants) (before : Inputs) → Stands k l.fn.self before → (n : ℕ) → n ≤ l.taken →
      HoldsWithin k (after_all before (take n (map input_view l.inputs)));
  roomy : (k : Constants) (before : Inputs) → Stands k l.fn.self before → (n : ℕ) → n < l.taken →
      HasRoom (most_frames k) (recorded_after k before (take n (map input_view l.inputs)) l.fn.kept);
  memory : (k : Constants) (before : Inputs) → Stands k l.fn.self before → memory_of l.self ≡ memory_of l.fn.self;
  stands : (k : Constants) (before : Inputs) → Stands k l.fn.self before →
      Stands k l.self (after_all before (take l.taken (map input_view l.inputs)));
}
