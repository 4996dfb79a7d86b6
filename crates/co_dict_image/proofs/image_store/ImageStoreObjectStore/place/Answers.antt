use Rattle.std.proofs.Common.{◌∙◌, arith}
use Rattle.co_dict_build.proofs.Numbering.{places_same, placed_small}
use Rattle.co_dict_image.specs.Images.{entries_of}
use Rattle.co_dict_image.specs.LawfulImages.{are_entries}
use Rattle.co_dict_image.proofs.Entries.{number_is_place, entries_increase}
use Rattle.co_dict_image.proofs.image_store.ImageStoreObjectStore.place.Goals as goal

pub returns-in_err-at : goal.returns-in_err-at
returns-in_err-at c =
    let s = c.args.self.now in
    c.from_residual.ensures ∙ c.in_err-at.ensures ∙ number_is_place s.values.items.items s.initial.items.items s.slots.items.items c.args.key ∙ places_same s.node_id s.dummies (entries_of s) c.args.key

-- keys are of 24 bits, so that a place is too
pub overflow_cast-result : goal.overflow_cast-result
overflow_cast-result c =
    let s = c.args.self.now in
    let small = placed_small (entries_of s) (are_entries s.values.items.items s.initial.items.items s.slots.items.items s.lined s.same s.bytes s.initial_bytes) (entries_increase s.values.items.items s.initial.items.items s.slots.items.items s.increasing) c.args.key c.in_ok-at.at
    (c.in_ok-at.ensures ∙ number_is_place s.values.items.items s.initial.items.items s.slots.items.items c.args.key) in
    omega (arith, small)

pub returns : goal.returns
returns c =
    let s = c.args.self.now in
    c.in_ok-at.ensures ∙ number_is_place s.values.items.items s.initial.items.items s.slots.items.items c.args.key ∙ places_same s.node_id s.dummies (entries_of s) c.args.key
