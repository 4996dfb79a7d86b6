use Rattle.conode_compare_laws.proofs.BuiltBytes.{keeps_identity}
use Rattle.conode_compare_laws.proofs.value_laws.keeps_identity.Goals as goal

pub returns : goal.returns
returns c = λ plan k inputs built never. keeps_identity c.set_is_permitted.ensures plan k built inputs never
