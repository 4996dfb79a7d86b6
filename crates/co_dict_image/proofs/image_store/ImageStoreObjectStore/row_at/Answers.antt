use Rattle.std.proofs.Common.{◌≡◌, ◌<◌, List, length, get_or, Some, sym, ap, ◌∙◌, subst, arith}
use Rattle.std.proofs.lemmas.Bool.Decides.{nat_tests}
use Rattle.co_dict_build.proofs.Numbering.{part_by_place}
use Rattle.co_dict_image.specs.declared.slot.Slot.{Slot}
use Rattle.co_dict_image.specs.Slots.{entry_in}
use Rattle.co_dict_image.specs.Images.{entries_of}
use Rattle.co_dict_image.proofs.Entries.{entries_increase, entries_len}
use Rattle.co_dict_image.proofs.Puts.{entry_at_slot}
use Rattle.co_dict_image.proofs.image_store.ImageStoreObjectStore.row_at.Goals as goal

pub returns : goal.returns
returns c =
    let s = c.args.self.now in
    let slot = c.in_ok-slot.slot.now in
    let found = c.in_ok-slot.ensures.lookup in
    let inside : c.args.place < length s.slots.items.items = subst (λ (l : List Slot). c.args.place < length l) c.deref.ensures.value (grind (arith, nat_tests, found.0)) in
    let is : slot ≡ get_or s.slots.items.items c.args.place slot = found.1 ∙ ap (λ (l : List Slot). get_or l c.args.place slot) c.deref.ensures.value in
    ap (λ v. Some v.row) (entry_at_slot s.values.items.items s.initial.items.items s.slots.items.items c.args.place slot is)
    ∙ part_by_place (entries_of s) (entries_increase s.values.items.items s.initial.items.items s.slots.items.items s.increasing) (λ e. e.row) c.args.place (entry_in s.values.items.items s.initial.items.items slot)
    (subst (λ n. c.args.place < n) (sym (entries_len s.values.items.items s.initial.items.items s.slots.items.items)) inside)
