use Rattle.std.proofs.Common.{◌≡◌, true, List, ℕ, length, sym, ap, ◌∙◌, subst}
use Rattle.co_value.specs.Numbers.{AreBytes}
use Rattle.co_dict_build.specs.Capacities.{limits_view}
use Rattle.co_dict_build.specs.ListedEntries.{are_increasing}
use Rattle.co_dict_image.specs.declared.slot.Slot.{Slot}
use Rattle.co_dict_image.specs.Slots.{are_lined, keys_of}
use Rattle.co_dict_image.proofs.Appends.{rows_increase}
use Rattle.co_dict_image.proofs.image_store.ImageStoreFromRows.from_rows.Goals as goal

pub of-requires : goal.of-requires
of-requires c =
    subst (λ (l : List Slot). are_increasing (keys_of l) ≡ true) (sym c.deref.ensures.value)
    (rows_increase c.args.node_id (limits_view c.args.limits.now) c.args.rows.now c.in_ok-image.image.initial.items c.in_ok-image.image.slots.items c.in_ok-image.ensures.entries c.requires.increase)

pub invariant_of-result-clause-numbered : goal.invariant_of-result-clause-numbered
invariant_of-result-clause-numbered c = c.in_ok-numbers.ensures ∙ ap keys_of (c.deref.ensures.value ∙ sym c.into_boxed_slice.ensures.items)

pub invariant_of-result-clause-increasing : goal.invariant_of-result-clause-increasing
invariant_of-result-clause-increasing c =
    subst (λ (l : List Slot). are_increasing (keys_of l) ≡ true) (sym c.into_boxed_slice.ensures.items)
    (rows_increase c.args.node_id (limits_view c.args.limits.now) c.args.rows.now c.in_ok-image.image.initial.items c.in_ok-image.image.slots.items c.in_ok-image.ensures.entries c.requires.increase)

pub invariant_of-result-clause-lined : goal.invariant_of-result-clause-lined
invariant_of-result-clause-lined c =
    let same : c.in_ok-values.values.items.items ≡ c.in_ok-image.image.initial.items = c.in_ok-values.ensures.ok ∙ c.deref-2.ensures.value in
    subst (λ (l : List Slot). are_lined 0 l (length c.in_ok-values.values.items.items) ≡ true) (sym c.into_boxed_slice.ensures.items)
    (subst (λ (l : List ℕ). are_lined 0 c.in_ok-image.image.slots.items (length l) ≡ true) (sym same) c.in_ok-image.ensures.lined)

pub invariant_of-result-clause-same : goal.invariant_of-result-clause-same
invariant_of-result-clause-same c =
    let same : c.in_ok-values.values.items.items ≡ c.in_ok-image.image.initial.items = c.in_ok-values.ensures.ok ∙ c.deref-2.ensures.value in
    ap length (c.into_boxed_slice-2.ensures.items ∙ sym same)

pub invariant_of-result-clause-bytes : goal.invariant_of-result-clause-bytes
invariant_of-result-clause-bytes c =
    let same : c.in_ok-values.values.items.items ≡ c.in_ok-image.image.initial.items = c.in_ok-values.ensures.ok ∙ c.deref-2.ensures.value in
    subst AreBytes (sym same) c.in_ok-image.ensures.bytes

pub invariant_of-result-clause-initial_bytes : goal.invariant_of-result-clause-initial_bytes
invariant_of-result-clause-initial_bytes c = subst AreBytes (sym c.into_boxed_slice-2.ensures.items) c.in_ok-image.ensures.bytes
