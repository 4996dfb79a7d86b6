use Rattle.conode_compare_laws.proofs.AnswerInputs.{no_answer_differences}
use Rattle.conode_compare_laws.proofs.answer_laws.no_answer_differences.Goals as goal

pub returns : goal.returns
returns c = λ k subject rows inputs is bytes answers control apart aside other.
    no_answer_differences k subject rows inputs is answers control bytes (c.sends_aside.ensures k inputs aside) (c.sends_other.ensures k inputs other)
    (λ all. (c.stays_apart.ensures k all apart).sync) other.channels aside.channels
