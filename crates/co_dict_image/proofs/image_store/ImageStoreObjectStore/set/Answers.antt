use Rattle.std.proofs.Common.{Bool, List, length, ap, ◌∙◌}
use Rattle.co_dict_build.specs.ListedEntries.{contents_in, description_in}
use Rattle.co_dict_build.proofs.Places.{fits_at-place, takes-no_place}
use Rattle.co_dict_build.proofs.Changes.{fixed_parts, fixed_parts-with_bytes, contents_in-with_bytes, same_description}
use Rattle.co_dict_image.specs.Images.{entries_of}
use Rattle.co_dict_image.proofs.Entries.{blank, number_is_place, slot_within}
use Rattle.co_dict_image.proofs.image_store.ImageStoreObjectStore.set.Goals as goal

pub unreachable-requires : goal.unreachable-requires
unreachable-requires c =
    let s = c.args.self.now in
    takes-no_place (entries_of s) c.args.key (length c.args.bytes.now) c.requires (c.in_default.ensures ∙ number_is_place s.values.items.items s.initial.items.items s.slots.items.items c.args.key)

pub put-requires-clause-within : goal.put-requires-clause-within
put-requires-clause-within c = slot_within c.args.self.now.slots.items.items c.args.key c.in-Some.at c.in-Some.ensures

pub put-requires-clause-fitting : goal.put-requires-clause-fitting
put-requires-clause-fitting c d =
    let s = c.args.self.now in
    fits_at-place (entries_of s) c.args.key c.in-Some.at d (length c.args.bytes.now) c.requires (c.in-Some.ensures ∙ number_is_place s.values.items.items s.initial.items.items s.slots.items.items c.args.key)

pub returns-clause-contents : goal.returns-clause-contents
returns-clause-contents c =
    let s = c.args.self.now in
    ap contents_in (c.put.ensures.entries (blank c.args.key))
    ∙ contents_in-with_bytes (entries_of s) c.in-Some.at (blank c.args.key) c.args.key c.args.bytes.now (c.in-Some.ensures ∙ number_is_place s.values.items.items s.initial.items.items s.slots.items.items c.args.key)

pub returns-clause-description : goal.returns-clause-description
returns-clause-description c =
    let s = c.args.self.now in
    let after = c.put.new.self in
    ap (λ node. description_in node after.dummies (entries_of after)) c.put.ensures.node
    ∙ ap (λ (dummies : List Bool). description_in s.node_id dummies (entries_of after)) c.put.ensures.dummies
    ∙ same_description s.node_id s.dummies (entries_of s) (entries_of after) (ap fixed_parts (c.put.ensures.entries (blank c.args.key)) ∙ fixed_parts-with_bytes (entries_of s) c.in-Some.at (blank c.args.key) c.args.bytes.now)
