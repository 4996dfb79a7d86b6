use Rattle.std.proofs.Common.{Some, ap, ◌∙◌}
use Rattle.std.specs.Option.{option_map}
use Rattle.co_dict_build.specs.StoredEntries.{entry_view, entry_views}
use Rattle.co_dict_build.proofs.Places.{part_at-place, part_at-no_place}
use Rattle.co_dict_list.proofs.Views.{view_at}
use Rattle.co_dict_list.proofs.list_store.ListStoreObjectStore.bytes.Goals as goal

pub returns-in_err-at : goal.returns-in_err-at
returns-in_err-at c = ap (option_map (λ bytes. bytes.now)) c.from_residual.ensures ∙ part_at-no_place (λ e. e.bytes) (entry_views c.args.self.now.entries.items) c.args.key c.in_err-at.ensures

pub returns : goal.returns
returns c =
    let entries = c.args.self.now.entries.items in
    let e = c.index.result.now in
    ap Some c.bytes.ensures ∙ ap (λ v. Some v.bytes) (view_at entries c.in_ok-at.at e c.index.ensures) ∙ part_at-place (λ e. e.bytes) (entry_views entries) c.args.key c.in_ok-at.at (entry_view e) c.in_ok-at.ensures
