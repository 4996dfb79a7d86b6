use Rattle.std.proofs.Common.{false, ap, sym, ◌∙◌, ◌∷◌}
use Rattle.std.proofs.lemmas.List.{append-nil}
use Rattle.co_node_model.specs.Emergencies.{emergency_frames}
use Rattle.co_node_laws.specs.ByKind.{Heard, device_of}
use Rattle.co_node_laws.specs.Devices.{emergency_at_end}
use Rattle.co_node_laws.proofs.ByKindLaws.{device_by, frames_by}
use Rattle.co_node_laws.proofs.by_kind.heartbeat_of_another.Goals as goal

pub returns-clause-frames : goal.returns-clause-frames
returns-clause-frames call = λ k inputs input c is.
    let sent = emergency_at_end false (device_of k inputs) in
    call.device_by_kind.ensures.frames k inputs input ∙ frames_by k inputs input (Heard c) is
    ∙ append-nil (emergency_frames (device_of k inputs).entries sent)
    ∙ ap (λ entries. emergency_frames entries sent) (sym (call.device_by_kind.ensures.entries k inputs))

pub returns-clause-state : goal.returns-clause-state
returns-clause-state call = λ k inputs input c is.
    call.device_by_kind.ensures.state k (input ∷ inputs)
    ∙ ap (λ d. d.state) (device_by k inputs input (Heard c) is)
    ∙ sym (call.device_by_kind.ensures.state k inputs)

pub returns-clause-entries : goal.returns-clause-entries
returns-clause-entries call = λ k inputs input c is.
    call.device_by_kind.ensures.entries k (input ∷ inputs)
    ∙ ap (λ d. d.entries) (device_by k inputs input (Heard c) is)
    ∙ sym (call.device_by_kind.ensures.entries k inputs)

pub returns-clause-device : goal.returns-clause-device
returns-clause-device call = λ k inputs input c is. device_by k inputs input (Heard c) is
