use Rattle.std.proofs.Common.{◌≡◌, ◌<◌, List, length, get_or, Some, sym, ap, ◌∙◌, subst, arith}
use Rattle.std.specs.Prelude.{slice_get}
use Rattle.std.specs.Option.{option_map}
use Rattle.std.proofs.lemmas.Bool.Decides.{nat_tests}
use Rattle.std.proofs.lemmas.Option.{slice_get-get_or, slice_get-map}
use Rattle.co_value.specs.declared.key.Key.{Key}
use Rattle.co_dict_image.specs.declared.slot.Slot.{Slot}
use Rattle.co_dict_image.proofs.Entries.{keys_same}
use Rattle.co_dict_image.proofs.image_store.ImageStore.key_at.Goals as goal

pub returns : goal.returns
returns c =
    let s = c.args.self.now in
    let slot = c.in_ok-slot.slot.now in
    let found = c.in_ok-slot.ensures.lookup in
    let inside : c.args.place < length s.slots.items.items = subst (λ (l : List Slot). c.args.place < length l) c.deref.ensures.value (grind (arith, nat_tests, found.0)) in
    let is : slot ≡ get_or s.slots.items.items c.args.place slot = found.1 ∙ ap (λ (l : List Slot). get_or l c.args.place slot) c.deref.ensures.value in
    ap (λ (s : Slot). Some s.key) is
    ∙ sym (ap (option_map (λ (s : Slot). s.key)) (slice_get-get_or s.slots.items.items c.args.place slot inside))
    ∙ sym (slice_get-map (λ (s : Slot). s.key) s.slots.items.items c.args.place)
    ∙ sym (ap (λ (keys : List Key). slice_get keys c.args.place) (keys_same s.values.items.items s.initial.items.items s.slots.items.items))
