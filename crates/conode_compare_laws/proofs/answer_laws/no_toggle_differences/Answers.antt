use Rattle.conode_compare_laws.proofs.AnswerToggleRuns.{no_toggle_differences}
use Rattle.conode_compare_laws.proofs.answer_laws.no_toggle_differences.Goals as goal

pub returns : goal.returns
returns c = λ k subject rows inputs is answers apart aside other.
    no_toggle_differences k subject rows inputs is answers (c.sends_other.ensures k inputs other) (λ all. (c.stays_apart.ensures k all apart).sync) other.channels aside.channels
