use Rattle.std.proofs.Common.{◌∙◌, arith}
use Rattle.co_dict_build.specs.StoredEntries.{entry_views, are_entries}
use Rattle.co_dict_build.proofs.Numbering.{places_same, placed_small}
use Rattle.co_dict_list.proofs.list_store.ListStoreObjectStore.place.Goals as goal

pub returns-in_err-at : goal.returns-in_err-at
returns-in_err-at c = c.from_residual.ensures ∙ c.in_err-at.ensures ∙ places_same c.args.self.now.node_id c.args.self.now.dummies (entry_views c.args.self.now.entries.items) c.args.key

-- keys are of 24 bits, so that a place is too
pub overflow_cast-result : goal.overflow_cast-result
overflow_cast-result c =
    let small = placed_small (entry_views c.args.self.now.entries.items) (are_entries c.args.self.now.entries.items) c.args.self.now.increasing c.args.key c.in_ok-at.at c.in_ok-at.ensures in
    omega (arith, small)

pub returns : goal.returns
returns c = c.in_ok-at.ensures ∙ places_same c.args.self.now.node_id c.args.self.now.dummies (entry_views c.args.self.now.entries.items) c.args.key
