use Rattle.co_node_laws.proofs.ValuesNow.{period_now}
use Rattle.co_node_laws.proofs.HeartbeatDistances.{at_tick, at_reset, elsewhere}
use Rattle.co_node_laws.proofs.distances.heartbeat_due.Goals as goal

pub returns-clause-at_tick : goal.returns-clause-at_tick
returns-clause-at_tick c = at_tick

pub returns-clause-reset : goal.returns-clause-reset
returns-clause-reset c = at_reset

pub returns-clause-elsewhere : goal.returns-clause-elsewhere
returns-clause-elsewhere c = elsewhere

pub returns-clause-period : goal.returns-clause-period
returns-clause-period c = period_now (record {
  by_sdo = c.own_rule_law.ensures.by_sdo;
  by_application = c.own_rule_law.ensures.by_application;
  inhibit_time = c.invalid_pdo_law.ensures.inhibit_time;
  mapping = c.invalid_pdo_law.ensures.mapping;
  permitted = c.set_is_permitted.ensures;
  by_rpdo = c.written_from_2000.ensures;
})
