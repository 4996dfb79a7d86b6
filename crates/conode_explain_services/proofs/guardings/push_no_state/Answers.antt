use Rattle.conode_explain_services.specs.Guardings.{no_state_words}
use Rattle.conode_explain_services.proofs.guardings.push_no_state.Goals as goal

pub returns : goal.returns
unfolding no_state_words
returns c = rw (c.set_toggle_text.ensures, c.why_none.ensures) at c.push_filled.ensures
