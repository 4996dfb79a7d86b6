use Rattle.conode_compare_laws.proofs.Heard.{no_state_differences}
use Rattle.conode_compare_laws.proofs.states.no_state_differences.Goals as goal

pub returns : goal.returns
returns c = record {
  sent = no_state_differences;
  begun = λ k subject rows inputs is foreign begins. no_state_differences k subject rows inputs is foreign (c.sends_aside.ensures k inputs begins);
}
