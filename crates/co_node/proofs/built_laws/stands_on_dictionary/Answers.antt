use Rattle.co_node.proofs.Dictionaries.{stand_on}
use Rattle.co_node.proofs.built_laws.stands_on_dictionary.Goals as goal

pub returns : goal.returns
returns c = stand_on
