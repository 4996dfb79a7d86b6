use Rattle.conode_explain_values.proofs.RealLaws.{digits-read}
use Rattle.conode_explain_values.proofs.reals.real_digits_are_read.Goals as goal

pub returns : goal.returns
returns c = digits-read
