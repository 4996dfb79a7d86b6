use Rattle.std.proofs.Common.{[], refl}
use Rattle.conode_compare_laws.proofs.PeriodsKept.{all_first}
use Rattle.conode_compare_laws.proofs.TpdoKept.{begins_as_built}
use Rattle.conode_compare_laws.proofs.kept_times.keeps_inhibit.Goals as goal

pub returns : goal.returns
returns c = λ plan k inputs built first. all_first (record {
  by_sdo = c.own_rule_law.ensures.by_sdo;
  by_application = c.own_rule_law.ensures.by_application;
  inhibit_time = c.invalid_pdo_law.ensures.inhibit_time;
  mapping = c.invalid_pdo_law.ensures.mapping;
  permitted = c.set_is_permitted.ensures;
  by_rpdo = c.written_from_2000.ensures;
}) k (begins_as_built plan k built) inputs [] first refl
