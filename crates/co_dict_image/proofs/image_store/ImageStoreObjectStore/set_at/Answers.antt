use Rattle.std.proofs.Common.{◌<◌, Bool, List, length, ap, ◌∙◌, subst}
use Rattle.co_dict_build.specs.ListedEntries.{ListedEntry, contents_in, description_in}
use Rattle.co_dict_build.proofs.Changes.{fixed_parts, fixed_parts-with_bytes, same_description}
use Rattle.co_dict_build.proofs.Numbering.{within_by_place, fits_by_place, written_by_place}
use Rattle.co_dict_image.specs.Images.{entries_of}
use Rattle.co_dict_image.proofs.Entries.{blank, entries_increase, entries_len}
use Rattle.co_dict_image.proofs.image_store.ImageStoreObjectStore.set_at.Goals as goal

abbrev none : ListedEntry
none = blank (record { index = 0; sub = 0 })

pub put-requires-clause-within : goal.put-requires-clause-within
put-requires-clause-within c =
    let s = c.args.self.now in
    subst (λ n. c.args.place < n) (entries_len s.values.items.items s.initial.items.items s.slots.items.items) (within_by_place s.node_id s.dummies (entries_of s) c.args.place (length c.args.bytes.now) c.requires)

pub put-requires-clause-fitting : goal.put-requires-clause-fitting
put-requires-clause-fitting c d =
    let s = c.args.self.now in
    fits_by_place (entries_of s) (entries_increase s.values.items.items s.initial.items.items s.slots.items.items s.increasing) s.node_id s.dummies c.args.place d (length c.args.bytes.now)
    (within_by_place s.node_id s.dummies (entries_of s) c.args.place (length c.args.bytes.now) c.requires) c.requires

pub returns-clause-contents : goal.returns-clause-contents
returns-clause-contents c =
    let s = c.args.self.now in
    ap contents_in (c.put.ensures.entries none)
    ∙ written_by_place (entries_of s) (entries_increase s.values.items.items s.initial.items.items s.slots.items.items s.increasing) s.node_id s.dummies c.args.place none c.args.bytes.now
    (within_by_place s.node_id s.dummies (entries_of s) c.args.place (length c.args.bytes.now) c.requires)

pub returns-clause-description : goal.returns-clause-description
returns-clause-description c =
    let s = c.args.self.now in
    let after = c.put.new.self in
    ap (λ node. description_in node after.dummies (entries_of after)) c.put.ensures.node
    ∙ ap (λ (dummies : List Bool). description_in s.node_id dummies (entries_of after)) c.put.ensures.dummies
    ∙ same_description s.node_id s.dummies (entries_of s) (entries_of after) (ap fixed_parts (c.put.ensures.entries none) ∙ fixed_parts-with_bytes (entries_of s) c.args.place none c.args.bytes.now)
