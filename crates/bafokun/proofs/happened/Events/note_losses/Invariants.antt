-- The losses before the index are noted.
use Rattle.std.proofs.Common.{◌≡◌, take}
use Rattle.co_node_model.specs.Inputs.{Inputs}
use Rattle.co_node_model.specs.Moments.{Constants}
use Rattle.co_node_model.specs.Device.{contents_of}
use Rattle.co_node.specs.Nodes.{Stands}
use Rattle.bafokun.specs.Happened.{with_losses}
use Rattle.bafokun.proofs.happened.Events.note_losses.Given as goal

abbrev pub invariant-loop-i : goal.invariant-loop-i
invariant-loop-i l =
    (k : Constants) (before : Inputs) → Stands k l.node before
    → l.self ≡ with_losses (contents_of k before) (take l.i l.lost) l.fn.self
