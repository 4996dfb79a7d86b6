use Rattle.co_value.proofs.Bytes.{has_one_spelling}
use Rattle.co_value.proofs.value.one_spelling.Goals as goal

pub returns : goal.returns
returns c = has_one_spelling
