use Rattle.co_pdo.proofs.Written.{kept_below}
use Rattle.co_pdo.proofs.laws.written_from_2000.Goals as goal

pub returns : goal.returns
returns c = kept_below
