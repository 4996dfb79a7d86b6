use Rattle.conode_explain_services.specs.Guardings.{guarding_answer_words}
use Rattle.conode_explain_services.proofs.guardings.push_answer.Goals as goal

pub returns : goal.returns
unfolding guarding_answer_words
returns c = rw (c.state_words.ensures, c.toggle_text.ensures, c.awaited_text.ensures, c.awaited_of.ensures) at c.push_filled.ensures
