use Rattle.std.proofs.Common.{◌≡◌, ℕ, List, fold, max, sym, ap, ◌∙◌}
use Rattle.std.proofs.lemmas.List.Folds.{fold-map}
use Rattle.co_dict_build.specs.ListedEntries.{ListedEntry}
use Rattle.co_dict_build.proofs.GreatestCapacity.{most_is, most_of}
use Rattle.co_dict_image.specs.declared.slot.Slot.{Slot}
use Rattle.co_dict_image.specs.Images.{entries_of}
use Rattle.co_dict_image.specs.Slots.{entry_in, entries_in}
use Rattle.co_dict_image.proofs.Entries.{entries_increase}
use Rattle.co_dict_image.proofs.image_store.ImageStoreObjectStore.greatest_capacity.Goals as goal

-- the greatest capacity in a list of slots
abbrev most_in : List Slot → ℕ
most_in slots = fold (λ most (s : Slot). max most s.row.capacity) 0 slots

most_of_entries : (values initial : List ℕ) (slots : List Slot) → most_in slots ≡ most_of 0 (entries_in values initial slots)
most_of_entries values initial slots = sym (fold-map (λ most (e : ListedEntry). max most e.row.capacity) (entry_in values initial) 0 slots)

pub returns : goal.returns
returns c =
    let s = c.args.self.now in
    c.greatest_capacity.ensures ∙ ap most_in c.deref.ensures.value ∙ most_of_entries s.values.items.items s.initial.items.items s.slots.items.items
    ∙ most_is s.node_id s.dummies (entries_of s) (entries_increase s.values.items.items s.initial.items.items s.slots.items.items s.increasing)
