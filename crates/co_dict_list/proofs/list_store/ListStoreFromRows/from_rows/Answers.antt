-- The entries are in the order of the rows.
use Rattle.std.proofs.Common.{◌≡◌, List, true, ap, ◌∙◌, sym, subst}
use Rattle.co_value.specs.declared.key.Key.{Key}
use Rattle.co_dict_build.specs.ListedEntries.{keys_in, are_increasing}
use Rattle.co_dict_build.specs.Capacities.{limits_view}
use Rattle.co_dict_build.proofs.Plans.{keys_built, keys_increase}
use Rattle.co_dict_list.proofs.list_store.ListStoreFromRows.from_rows.Goals as goal

pub invariant_of-result-clause-increasing : goal.invariant_of-result-clause-increasing
invariant_of-result-clause-increasing c =
    subst (λ (keys : List Key). are_increasing keys ≡ true) (sym (ap keys_in c.in_ok-entries.ensures ∙ keys_built c.args.node_id (limits_view c.args.limits.now) c.args.rows.now)) (keys_increase c.args.rows.now c.requires.increase)
