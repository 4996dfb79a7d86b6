use Rattle.conode_compare_laws.proofs.AnswerBegins.{begins_other}
use Rattle.conode_compare_laws.proofs.answer_laws.begins_other.Goals as goal

pub returns : goal.returns
returns c = begins_other
