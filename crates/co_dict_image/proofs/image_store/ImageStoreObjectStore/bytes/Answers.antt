use Rattle.std.proofs.Common.{◌≤◌, ◌+◌, ℕ, List, length, take, Some, sym, ap, ◌∙◌, subst}
use Rattle.std.specs.Prelude.{drop}
use Rattle.std.specs.Option.{option_map}
use Rattle.co_dict_build.proofs.Places.{part_at-place, part_at-no_place}
use Rattle.co_dict_image.specs.Slots.{entry_in}
use Rattle.co_dict_image.specs.Images.{entries_of}
use Rattle.co_dict_image.proofs.Entries.{number_is_place, slot_within}
use Rattle.co_dict_image.proofs.Puts.{entry_at_slot, room_at}
use Rattle.co_dict_image.proofs.image_store.ImageStoreObjectStore.bytes.Goals as goal

pub returns-in_err-at : goal.returns-in_err-at
returns-in_err-at c =
    let s = c.args.self.now in
    ap (option_map (λ bytes. bytes.now)) c.from_residual.ensures
    ∙ part_at-no_place (λ e. e.bytes) (entries_of s) c.args.key (c.in_err-at.ensures ∙ number_is_place s.values.items.items s.initial.items.items s.slots.items.items c.args.key)

pub bytes-requires : goal.bytes-requires
bytes-requires c =
    let s = c.args.self.now in
    let slot = c.index.result.now in
    subst (λ (l : List ℕ). slot.start + slot.row.capacity ≤ length l) (sym c.deref.ensures.value)
    (room_at s.values.items.items s.slots.items.items c.in_ok-at.at slot s.lined (slot_within s.slots.items.items c.args.key c.in_ok-at.at c.in_ok-at.ensures) c.index.ensures)

pub returns : goal.returns
returns c =
    let s = c.args.self.now in
    let slot = c.index.result.now in
    ap Some (c.bytes.ensures ∙ ap (λ (l : List ℕ). take slot.size (drop slot.start l)) c.deref.ensures.value)
    ∙ ap (λ v. Some v.bytes) (entry_at_slot s.values.items.items s.initial.items.items s.slots.items.items c.in_ok-at.at slot c.index.ensures)
    ∙ part_at-place (λ e. e.bytes) (entries_of s) c.args.key c.in_ok-at.at (entry_in s.values.items.items s.initial.items.items slot) (c.in_ok-at.ensures ∙ number_is_place s.values.items.items s.initial.items.items s.slots.items.items c.args.key)
