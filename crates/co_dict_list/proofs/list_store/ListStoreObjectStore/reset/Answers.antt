use Rattle.std.proofs.Common.{ap, ◌∙◌, arith}
use Rattle.co_dict_build.specs.ListedEntries.{contents_in}
use Rattle.co_dict_build.specs.StoredEntries.{entry_views}
use Rattle.co_dict_build.proofs.Changes.{reset_none, fixed_parts, fixed_parts-reset, contents_in-reset, same_description, still_increasing}
use Rattle.co_dict_list.proofs.Views.{views-reset_one, views-reset_all}
use Rattle.co_dict_list.proofs.list_store.ListStoreObjectStore.reset.Goals as goal

pub loop-entry-init : goal.loop-entry-init
loop-entry-init c = reset_none c.args.area (entry_views c.deref_mut-entry-items.result.now)

pub loop-entry-preserved : goal.loop-entry-preserved
loop-entry-preserved c =
    views-reset_one c.args.area (entry_views c.deref_mut-entry-items.result.now) c.loop-entry.entry-items c.loop-entry.entry-index c.entry-item.result c.reset.new.self (omega (arith, c.loop-entry.auto.entry-items))
    c.loop-entry.invariant c.reset.ensures

pub invariant_of-self-clause-increasing : goal.invariant_of-self-clause-increasing
invariant_of-self-clause-increasing c =
    let reset = views-reset_all c.args.area c.args.self.now.entries _ _ _ c.deref_mut-entry-items.ensures.value c.deref_mut-entry-items.ensures.len c.loop-entry.auto.entry-items c.loop-entry-test.false c.loop-entry.invariant in
    still_increasing (entry_views c.args.self.now.entries.items) _ (ap fixed_parts reset ∙ fixed_parts-reset c.args.area (entry_views c.args.self.now.entries.items)) c.args.self.now.increasing

pub returns-clause-contents : goal.returns-clause-contents
returns-clause-contents c =
    ap contents_in (views-reset_all c.args.area c.args.self.now.entries _ _ _ c.deref_mut-entry-items.ensures.value c.deref_mut-entry-items.ensures.len c.loop-entry.auto.entry-items c.loop-entry-test.false c.loop-entry.invariant)
    ∙ contents_in-reset c.args.area (entry_views c.args.self.now.entries.items)

pub returns-clause-description : goal.returns-clause-description
returns-clause-description c =
    let reset = views-reset_all c.args.area c.args.self.now.entries _ _ _ c.deref_mut-entry-items.ensures.value c.deref_mut-entry-items.ensures.len c.loop-entry.auto.entry-items c.loop-entry-test.false c.loop-entry.invariant in
    same_description _ _ (entry_views c.args.self.now.entries.items) _ (ap fixed_parts reset ∙ fixed_parts-reset c.args.area (entry_views c.args.self.now.entries.items))
