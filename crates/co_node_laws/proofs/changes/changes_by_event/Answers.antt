use Rattle.co_node_laws.proofs.Kept.{event_done, event_refused}
use Rattle.co_node_laws.proofs.changes.changes_by_event.Goals as goal

pub returns-clause-done : goal.returns-clause-done
returns-clause-done c = event_done

pub returns-clause-refused : goal.returns-clause-refused
returns-clause-refused c = event_refused
