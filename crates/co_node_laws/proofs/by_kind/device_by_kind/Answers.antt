use Rattle.std.proofs.Common.{ap}
use Rattle.co_sdo.specs.Events.{held_on}
use Rattle.co_node_model.specs.Moments.{channels}
use Rattle.co_node_laws.proofs.ByKind.{frames_are, state_is, entries_are, transfers_are}
use Rattle.co_node_laws.proofs.by_kind.device_by_kind.Goals as goal

pub returns-clause-frames : goal.returns-clause-frames
returns-clause-frames c = frames_are (record {
  by_sdo = c.own_rule_law.ensures.by_sdo;
  by_application = c.own_rule_law.ensures.by_application;
  inhibit_time = c.invalid_pdo_law.ensures.inhibit_time;
  mapping = c.invalid_pdo_law.ensures.mapping;
  permitted = c.set_is_permitted.ensures;
  by_rpdo = c.written_from_2000.ensures;
})

pub returns-clause-state : goal.returns-clause-state
returns-clause-state c = state_is (record {
  by_sdo = c.own_rule_law.ensures.by_sdo;
  by_application = c.own_rule_law.ensures.by_application;
  inhibit_time = c.invalid_pdo_law.ensures.inhibit_time;
  mapping = c.invalid_pdo_law.ensures.mapping;
  permitted = c.set_is_permitted.ensures;
  by_rpdo = c.written_from_2000.ensures;
})

pub returns-clause-entries : goal.returns-clause-entries
returns-clause-entries c = entries_are (record {
  by_sdo = c.own_rule_law.ensures.by_sdo;
  by_application = c.own_rule_law.ensures.by_application;
  inhibit_time = c.invalid_pdo_law.ensures.inhibit_time;
  mapping = c.invalid_pdo_law.ensures.mapping;
  permitted = c.set_is_permitted.ensures;
  by_rpdo = c.written_from_2000.ensures;
})

pub returns-clause-held : goal.returns-clause-held
returns-clause-held c = λ k inputs j. ap (λ logs. held_on (channels k) logs j) (transfers_are (record {
  by_sdo = c.own_rule_law.ensures.by_sdo;
  by_application = c.own_rule_law.ensures.by_application;
  inhibit_time = c.invalid_pdo_law.ensures.inhibit_time;
  mapping = c.invalid_pdo_law.ensures.mapping;
  permitted = c.set_is_permitted.ensures;
  by_rpdo = c.written_from_2000.ensures;
}) k inputs)
