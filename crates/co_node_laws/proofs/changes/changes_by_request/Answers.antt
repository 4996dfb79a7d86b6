use Rattle.co_node_laws.proofs.Kept.{request_running, request_stopped}
use Rattle.co_node_laws.proofs.changes.changes_by_request.Goals as goal

pub returns-clause-running : goal.returns-clause-running
returns-clause-running c = request_running

pub returns-clause-stopped : goal.returns-clause-stopped
returns-clause-stopped c = request_stopped
