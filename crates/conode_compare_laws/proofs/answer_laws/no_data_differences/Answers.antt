use Rattle.conode_compare_laws.proofs.AnswerDataInputs.{no_data_differences}
use Rattle.conode_compare_laws.proofs.answer_laws.no_data_differences.Goals as goal

pub returns : goal.returns
returns c = λ k subject rows inputs is bytes held answers apart aside other.
    no_data_differences k subject rows inputs is answers bytes held (c.sends_other.ensures k inputs other) (λ all. (c.stays_apart.ensures k all apart).sync) other.channels aside.channels
