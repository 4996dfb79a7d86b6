use Rattle.std.proofs.Common.{[], refl}
use Rattle.conode_compare_laws.proofs.TpdoKept.{all_keep, begins_as_built}
use Rattle.conode_compare_laws.proofs.tpdo_built.keeps_tpdos.Goals as goal

pub returns : goal.returns
returns c = λ plan k inputs built unset. all_keep (record {
  by_sdo = c.own_rule_law.ensures.by_sdo;
  by_application = c.own_rule_law.ensures.by_application;
  inhibit_time = c.invalid_pdo_law.ensures.inhibit_time;
  mapping = c.invalid_pdo_law.ensures.mapping;
  permitted = c.set_is_permitted.ensures;
  by_rpdo = c.written_from_2000.ensures;
}) k inputs [] (λ key on. begins_as_built plan k built key) unset (λ key on. refl)
