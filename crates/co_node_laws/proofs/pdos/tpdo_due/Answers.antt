use Rattle.co_node_laws.proofs.TpdoDistances.{at_sync, at_tick, at_event, elsewhere, at_timer}
use Rattle.co_node_laws.proofs.pdos.tpdo_due.Goals as goal

pub returns-clause-at_sync : goal.returns-clause-at_sync
returns-clause-at_sync c = λ k inputs input counter. at_sync k c.args.number inputs input counter c.get.ensures.small

pub returns-clause-at_tick : goal.returns-clause-at_tick
returns-clause-at_tick c = λ k inputs input. at_tick k c.args.number inputs input c.get.ensures.small

pub returns-clause-at_event : goal.returns-clause-at_event
returns-clause-at_event c = λ k inputs input asked. at_event k c.args.number inputs input asked c.get.ensures.small

pub returns-clause-elsewhere : goal.returns-clause-elsewhere
returns-clause-elsewhere c = elsewhere

pub returns-clause-at_timer : goal.returns-clause-at_timer
returns-clause-at_timer c = λ k inputs. at_timer k c.args.number inputs c.get.ensures.small
