use Rattle.std.proofs.Common.{ap}
use Rattle.co_node_laws.specs.Calls.{is_asked}
use Rattle.co_node_device.proofs.tpdos.take_turn.Goals as goal

pub returns-in-StartAll-clause-after : goal.returns-in-StartAll-clause-after
returns-in-StartAll-clause-after g c = λ history given current.
    rw c.in-StartAll.is (c.start_all.ensures.after history given)

pub returns-in-Start-clause-after : goal.returns-in-Start-clause-after
returns-in-Start-clause-after g c = λ history given current.
    rw c.in-Start.is (c.start.ensures.after history given)

pub returns-in-Sync-clause-after : goal.returns-in-Sync-clause-after
returns-in-Sync-clause-after g c = λ history given current.
    rw c.in-Sync.is (c.on_sync.ensures.after history given (current (ap is_asked c.in-Sync.is)))

pub returns-in-Asked-clause-after : goal.returns-in-Asked-clause-after
returns-in-Asked-clause-after g c = λ history given current.
    rw c.in-Asked.is (c.take_asked.ensures.after history given (current (ap is_asked c.in-Asked.is)))

pub returns-in-Tick-clause-after : goal.returns-in-Tick-clause-after
returns-in-Tick-clause-after g c = λ history given current.
    rw c.in-Tick.is (c.on_tick.ensures.after history given (current (ap is_asked c.in-Tick.is)))
