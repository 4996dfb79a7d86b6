use Rattle.std.proofs.Common.{[], refl}
use Rattle.co_profile.specs.Keys.{producer_key}
use Rattle.conode_compare_laws.proofs.PeriodsKept.{all_follow, all_keep}
use Rattle.conode_compare_laws.proofs.SheetTimes.{constant_held}
use Rattle.conode_compare_laws.proofs.TpdoKept.{begins_as_built}
use Rattle.conode_compare_laws.proofs.kept_times.follows_period.Goals as goal

pub returns : goal.returns
returns c = record {
  follow = λ plan k clients inputs built by. all_follow (record {
    by_sdo = c.own_rule_law.ensures.by_sdo;
    by_application = c.own_rule_law.ensures.by_application;
    inhibit_time = c.invalid_pdo_law.ensures.inhibit_time;
    mapping = c.invalid_pdo_law.ensures.mapping;
    permitted = c.set_is_permitted.ensures;
    by_rpdo = c.written_from_2000.ensures;
  }) k (begins_as_built plan k built) clients inputs [] by;
  keep = λ plan k inputs built constant. all_keep (record {
    by_sdo = c.own_rule_law.ensures.by_sdo;
    by_application = c.own_rule_law.ensures.by_application;
    inhibit_time = c.invalid_pdo_law.ensures.inhibit_time;
    mapping = c.invalid_pdo_law.ensures.mapping;
    permitted = c.set_is_permitted.ensures;
    by_rpdo = c.written_from_2000.ensures;
  }) k (begins_as_built plan k built) (constant_held plan k built producer_key constant) inputs [] refl;
}
