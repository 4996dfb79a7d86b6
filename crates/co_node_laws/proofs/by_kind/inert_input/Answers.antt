use Rattle.std.proofs.Common.{false, ap, sym, ◌∙◌, ◌∷◌}
use Rattle.std.proofs.lemmas.List.{append-nil}
use Rattle.co_node_model.specs.Emergencies.{emergency_frames}
use Rattle.co_node_laws.specs.ByKind.{device_after, device_of, frames_of, kind_of}
use Rattle.co_node_laws.specs.Devices.{emergency_at_end}
use Rattle.co_node_laws.proofs.ByKindLaws.{inert}
use Rattle.co_node_laws.proofs.by_kind.inert_input.Goals as goal

pub returns-clause-frames : goal.returns-clause-frames
returns-clause-frames c = λ k inputs input is.
    let sent = emergency_at_end false (device_of k inputs) in
    c.device_by_kind.ensures.frames k inputs input
    ∙ ap frames_of (inert k (kind_of k (device_of k inputs) input) (device_of k inputs) is)
    ∙ append-nil (emergency_frames (device_of k inputs).entries sent)
    ∙ ap (λ entries. emergency_frames entries sent) (sym (c.device_by_kind.ensures.entries k inputs))

pub returns-clause-state : goal.returns-clause-state
returns-clause-state c = λ k inputs input is.
    c.device_by_kind.ensures.state k (input ∷ inputs)
    ∙ ap (λ o. (device_after o).state) (inert k (kind_of k (device_of k inputs) input) (device_of k inputs) is)
    ∙ sym (c.device_by_kind.ensures.state k inputs)

pub returns-clause-entries : goal.returns-clause-entries
returns-clause-entries c = λ k inputs input is.
    c.device_by_kind.ensures.entries k (input ∷ inputs)
    ∙ ap (λ o. (device_after o).entries) (inert k (kind_of k (device_of k inputs) input) (device_of k inputs) is)
    ∙ sym (c.device_by_kind.ensures.entries k inputs)

pub returns-clause-device : goal.returns-clause-device
returns-clause-device c = λ k inputs input is. ap device_after (inert k (kind_of k (device_of k inputs) input) (device_of k inputs) is)
