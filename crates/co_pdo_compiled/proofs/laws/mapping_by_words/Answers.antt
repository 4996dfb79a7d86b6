use Rattle.co_pdo_compiled.proofs.Parameters.{same_mapping}
use Rattle.co_pdo_compiled.proofs.laws.mapping_by_words.Goals as goal

pub returns : goal.returns
returns c = same_mapping
