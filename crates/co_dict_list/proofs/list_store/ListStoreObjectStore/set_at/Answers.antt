use Rattle.std.proofs.Common.{◌<◌, length, ap, ◌∙◌}
use Rattle.co_dict.specs.Rows.{fits}
use Rattle.co_dict_build.specs.ListedEntries.{ListedEntry, contents_in}
use Rattle.co_dict_build.specs.StoredEntries.{entry_view, entry_views}
use Rattle.co_dict_build.proofs.Numbering.{within_by_place, fits_by_place, written_by_place}
use Rattle.co_dict_build.proofs.Changes.{fixed_parts, fixed_parts-with_bytes, same_description, still_increasing}
use Rattle.co_dict_list.proofs.Views.{view_at, views-filled}
use Rattle.co_dict_list.proofs.list_store.ListStoreObjectStore.set_at.Goals as goal

pub fill-requires : goal.fill-requires
fill-requires c =
    let store = c.args.self.now in
    let entries = entry_views store.entries.items in
    let e = c.index_mut.result.now in
    ap (λ (v : ListedEntry). fits v.row (length c.args.bytes.now)) (view_at store.entries.items c.args.place e c.index_mut.ensures.value)
    ∙ fits_by_place entries store.increasing store.node_id store.dummies c.args.place (entry_view e) (length c.args.bytes.now)
    (within_by_place store.node_id store.dummies entries c.args.place (length c.args.bytes.now) c.requires) c.requires

pub invariant_of-self-clause-increasing : goal.invariant_of-self-clause-increasing
invariant_of-self-clause-increasing c =
    let entries = c.args.self.now.entries.items in
    let filled = views-filled entries c.args.place c.index_mut.result.now c.fill.new.self c.args.bytes.now c.index_mut.ensures.value c.fill.ensures in
    still_increasing (entry_views entries) _ (ap fixed_parts filled ∙ fixed_parts-with_bytes (entry_views entries) c.args.place _ c.args.bytes.now) c.args.self.now.increasing

pub returns-clause-contents : goal.returns-clause-contents
returns-clause-contents c =
    let store = c.args.self.now in
    let entries = entry_views store.entries.items in
    let within : c.args.place < length entries = within_by_place store.node_id store.dummies entries c.args.place (length c.args.bytes.now) c.requires in
    ap contents_in (views-filled store.entries.items c.args.place c.index_mut.result.now c.fill.new.self c.args.bytes.now c.index_mut.ensures.value c.fill.ensures)
    ∙ written_by_place entries store.increasing store.node_id store.dummies c.args.place _ c.args.bytes.now within

pub returns-clause-description : goal.returns-clause-description
returns-clause-description c =
    let entries = c.args.self.now.entries.items in
    let filled = views-filled entries c.args.place c.index_mut.result.now c.fill.new.self c.args.bytes.now c.index_mut.ensures.value c.fill.ensures in
    same_description _ _ (entry_views entries) _ (ap fixed_parts filled ∙ fixed_parts-with_bytes (entry_views entries) c.args.place _ c.args.bytes.now)
