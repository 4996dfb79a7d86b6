use Rattle.co_node_laws.proofs.Below.{Below}
use Rattle.co_node_laws.proofs.KeptAddresses.{kept_rpdos, kept_sync}
use Rattle.co_node_laws.proofs.rpdos.addresses_kept.Goals as goal

below : goal.After-set_is_permitted → Below
below c = record {
  by_sdo = c.own_rule_law.ensures.by_sdo;
  by_application = c.own_rule_law.ensures.by_application;
  inhibit_time = c.invalid_pdo_law.ensures.inhibit_time;
  mapping = c.invalid_pdo_law.ensures.mapping;
  permitted = c.set_is_permitted.ensures;
  by_rpdo = c.written_from_2000.ensures;
}

pub returns-clause-sync : goal.returns-clause-sync
returns-clause-sync c = kept_sync (below c)

pub returns-clause-rpdos : goal.returns-clause-rpdos
returns-clause-rpdos c = kept_rpdos (below c)
