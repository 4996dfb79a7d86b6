use Rattle.co_node.proofs.SetByFrames.{by_events, by_requests, by_ticks, none_stopped}
use Rattle.co_node.proofs.set_laws.set_by_kind.Goals as goal

pub returns-clause-requests : goal.returns-clause-requests
returns-clause-requests c = by_requests

pub returns-clause-stopped : goal.returns-clause-stopped
returns-clause-stopped c = none_stopped

pub returns-clause-ticks : goal.returns-clause-ticks
returns-clause-ticks c = by_ticks

pub returns-clause-events : goal.returns-clause-events
returns-clause-events c = by_events
