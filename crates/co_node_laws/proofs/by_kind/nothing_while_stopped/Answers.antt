use Rattle.std.proofs.Common.{sym, ◌∙◌}
use Rattle.co_node_laws.proofs.ByKindLaws.{silent_device, silent_frames}
use Rattle.co_node_laws.proofs.by_kind.nothing_while_stopped.Goals as goal

pub returns-clause-frames : goal.returns-clause-frames
returns-clause-frames c = λ k inputs input stopped is.
    c.device_by_kind.ensures.frames k inputs input ∙ silent_frames k inputs input (sym (c.device_by_kind.ensures.state k inputs) ∙ stopped) is

pub returns-clause-device : goal.returns-clause-device
returns-clause-device c = λ k inputs input stopped is.
    silent_device k inputs input (sym (c.device_by_kind.ensures.state k inputs) ∙ stopped) is
