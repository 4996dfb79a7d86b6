use Rattle.co_node_laws.proofs.Below.{Below}
use Rattle.co_node_laws.proofs.KeptMappings.{kept_mappings, mappings_after}
use Rattle.co_node_laws.proofs.rpdos.mappings_kept.Goals as goal

below : goal.After-set_is_permitted → Below
below c = record {
  by_sdo = c.own_rule_law.ensures.by_sdo;
  by_application = c.own_rule_law.ensures.by_application;
  inhibit_time = c.invalid_pdo_law.ensures.inhibit_time;
  mapping = c.invalid_pdo_law.ensures.mapping;
  permitted = c.set_is_permitted.ensures;
  by_rpdo = c.written_from_2000.ensures;
}

pub returns-clause-before : goal.returns-clause-before
returns-clause-before c = kept_mappings (below c)

pub returns-clause-after : goal.returns-clause-after
returns-clause-after c = mappings_after (below c)
