use Rattle.co_node_laws.proofs.SetExactly.{set, refused, incomplete, ignored}
use Rattle.co_node_laws.proofs.kinds.set_exactly.Goals as goal

pub returns-clause-set : goal.returns-clause-set
returns-clause-set c = set

pub returns-clause-refused : goal.returns-clause-refused
returns-clause-refused c = refused

pub returns-clause-incomplete : goal.returns-clause-incomplete
returns-clause-incomplete c = incomplete

pub returns-clause-ignored : goal.returns-clause-ignored
returns-clause-ignored c = ignored
