use Rattle.conode_compare_laws.proofs.HeldBytes.{all_dictionaries}
use Rattle.conode_compare_laws.proofs.entries.stays_dictionary.Goals as goal

pub returns : goal.returns
returns c = record {
  held = λ k inputs is bytes writes. (all_dictionaries c.set_is_permitted.ensures k inputs bytes writes is).0;
  filled = λ k inputs is bytes writes. (all_dictionaries c.set_is_permitted.ensures k inputs bytes writes is).1;
}
