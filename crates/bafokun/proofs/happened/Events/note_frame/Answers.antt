use Rattle.co_node_model.specs.Inputs.{Framed}
use Rattle.bafokun.proofs.Added.{framed}
use Rattle.bafokun.proofs.StateKept.{state_kept}
use Rattle.bafokun.proofs.happened.Events.note_frame.Goals as goal

pub returns : goal.returns
returns c = λ k past frame other seen.
    framed k past frame _ _ _
    (state_kept k past frame (c.device_by_kind.ensures.state k past) (c.state_by_kind.ensures k past (Framed frame)) other)
    seen c.note_seen.ensures
