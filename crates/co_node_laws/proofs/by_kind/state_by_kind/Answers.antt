use Rattle.std.proofs.Common.{◌∙◌, ◌∷◌}
use Rattle.co_node_laws.proofs.ByKindLaws.{state_is_by}
use Rattle.co_node_laws.proofs.by_kind.state_by_kind.Goals as goal

pub returns : goal.returns
returns c = λ k inputs input. c.device_by_kind.ensures.state k (input ∷ inputs) ∙ state_is_by k inputs input
