use Rattle.co_node_laws.proofs.Apart.{stays}
use Rattle.co_node_laws.proofs.identifiers.stays_apart.Goals as goal

pub returns : goal.returns
returns c = stays (record {
  by_sdo = c.own_rule_law.ensures.by_sdo;
  by_application = c.own_rule_law.ensures.by_application;
  inhibit_time = c.invalid_pdo_law.ensures.inhibit_time;
  mapping = c.invalid_pdo_law.ensures.mapping;
  permitted = c.set_is_permitted.ensures;
  by_rpdo = c.written_from_2000.ensures;
})
