use Rattle.std.proofs.Common.{length, ap, ◌∙◌}
use Rattle.co_dict.specs.Rows.{fits}
use Rattle.co_dict_build.specs.ListedEntries.{ListedEntry, contents_in}
use Rattle.co_dict_build.specs.StoredEntries.{entry_view, entry_views}
use Rattle.co_dict_build.proofs.Places.{fits_at-place, takes-no_place}
use Rattle.co_dict_build.proofs.Changes.{fixed_parts, fixed_parts-with_bytes, contents_in-with_bytes, same_description, still_increasing}
use Rattle.co_dict_list.proofs.Views.{view_at, views-filled}
use Rattle.co_dict_list.proofs.list_store.ListStoreObjectStore.set.Goals as goal

pub unreachable-requires : goal.unreachable-requires
unreachable-requires c = takes-no_place (entry_views c.args.self.now.entries.items) c.args.key (length c.args.bytes.now) c.requires c.in_default.ensures

pub fill-requires : goal.fill-requires
fill-requires c =
    let entries = c.args.self.now.entries.items in
    let e = c.index_mut.result.now in
    ap (λ (v : ListedEntry). fits v.row (length c.args.bytes.now)) (view_at entries c.in-Some.at e c.index_mut.ensures.value)
    ∙ fits_at-place (entry_views entries) c.args.key c.in-Some.at (entry_view e) (length c.args.bytes.now) c.requires c.in-Some.ensures

pub invariant_of-self-clause-increasing : goal.invariant_of-self-clause-increasing
invariant_of-self-clause-increasing c =
    let entries = c.args.self.now.entries.items in
    let filled = views-filled entries c.in-Some.at c.index_mut.result.now c.fill.new.self c.args.bytes.now c.index_mut.ensures.value c.fill.ensures in
    still_increasing (entry_views entries) _ (ap fixed_parts filled ∙ fixed_parts-with_bytes (entry_views entries) c.in-Some.at _ c.args.bytes.now) c.args.self.now.increasing

pub returns-clause-contents : goal.returns-clause-contents
returns-clause-contents c =
    let entries = c.args.self.now.entries.items in
    ap contents_in (views-filled entries c.in-Some.at c.index_mut.result.now c.fill.new.self c.args.bytes.now c.index_mut.ensures.value c.fill.ensures)
    ∙ contents_in-with_bytes (entry_views entries) c.in-Some.at _ c.args.key c.args.bytes.now c.in-Some.ensures

pub returns-clause-description : goal.returns-clause-description
returns-clause-description c =
    let entries = c.args.self.now.entries.items in
    let filled = views-filled entries c.in-Some.at c.index_mut.result.now c.fill.new.self c.args.bytes.now c.index_mut.ensures.value c.fill.ensures in
    same_description _ _ (entry_views entries) _ (ap fixed_parts filled ∙ fixed_parts-with_bytes (entry_views entries) c.in-Some.at _ c.args.bytes.now)
