use Rattle.std.proofs.Common.{◌≡◌, List, ◌++◌, take}
use Rattle.co_sdo_client.specs.Calls.{Call, Event}
use Rattle.co_sdo_client.specs.Standing.{ClientStands}
use Rattle.co_node_model.specs.Loop.{asked_after, events_after}
use Rattle.conode_device.proofs.frames.take_frames.Given as goal

-- after the frames so far
abbrev pub invariant-loop-frame : goal.invariant-loop-frame
invariant-loop-frame l = record {
  stands : (call : Call) (events : List Event) → ClientStands call events l.fn.client →
      ClientStands call (events_after l.fn.client.answer events (take l.frame-index l.frames)) l.client;
  asked : (call : Call) (events : List Event) → ClientStands call events l.fn.client →
      l.waiting.items ≡ l.fn.waiting.items ++ asked_after l.fn.client.request l.fn.client.answer call events (take l.frame-index l.frames);
  request : l.client.request ≡ l.fn.client.request;
  answer : l.client.answer ≡ l.fn.client.answer;
}
