use Rattle.co_pdo.proofs.Parts.{parts_join}
use Rattle.co_pdo.proofs.data.parts_joined.Goals as goal

pub returns : goal.returns
returns c = parts_join
