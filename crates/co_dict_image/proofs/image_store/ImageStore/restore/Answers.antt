use Rattle.std.proofs.Common.{◌≤◌, ◌+◌, length, List, ℕ, take, sym, ap, ◌∙◌, subst}
use Rattle.std.specs.Prelude.{drop}
use Rattle.std.proofs.lemmas.List.{get_or-map}
use Rattle.co_value.specs.Numbers.{AreBytes}
use Rattle.co_dict_build.specs.ListedEntries.{ListedEntry}
use Rattle.co_dict_image.specs.declared.slot.Slot.{Slot}
use Rattle.co_dict_image.specs.Slots.{entry_in, entries_in}
use Rattle.co_dict_image.specs.Images.{filled_at}
use Rattle.co_dict_image.proofs.Rooms.{bytes_part}
use Rattle.co_dict_image.proofs.Puts.{room_at, is_put, lined_put, keys_put, increasing_put, same_put, bytes_put, entries_put}
use Rattle.co_dict_image.proofs.image_store.ImageStore.restore.Goals as goal

pub restore-requires-clause-same : goal.restore-requires-clause-same
restore-requires-clause-same c = ap length c.deref.ensures.value ∙ c.args.self.now.same ∙ sym (ap length c.deref_mut.ensures.value)

pub restore-requires-clause-room : goal.restore-requires-clause-room
restore-requires-clause-room c =
    let store = c.args.self.now in
    let slot = c.index_mut.result.now in
    subst (λ (l : List ℕ). slot.start + slot.row.capacity ≤ length l) (sym c.deref_mut.ensures.value) (room_at store.values.items.items store.slots.items.items c.args.at slot store.lined c.requires.within c.index_mut.ensures.value)

pub invariant_of-self-clause-lined : goal.invariant_of-self-clause-lined
invariant_of-self-clause-lined c =
    let store = c.args.self.now in
    let p = is_put store.values.items store.slots.items.items c.args.at c.deref_mut.ensures.value c.deref_mut.ensures.len store.lined c.requires.within c.index_mut.ensures.value c.restore.ensures in
    lined_put p

pub invariant_of-self-clause-bytes : goal.invariant_of-self-clause-bytes
invariant_of-self-clause-bytes c =
    let store = c.args.self.now in
    let p = is_put store.values.items store.slots.items.items c.args.at c.deref_mut.ensures.value c.deref_mut.ensures.len store.lined c.requires.within c.index_mut.ensures.value c.restore.ensures in
    bytes_put p store.bytes (subst (λ (l : List ℕ). AreBytes (take c.index_mut.result.now.initial_size (drop c.index_mut.result.now.start l))) (sym c.deref.ensures.value) (bytes_part c.index_mut.result.now.initial_size c.index_mut.result.now.start store.initial.items.items store.initial_bytes))

pub invariant_of-self-clause-same : goal.invariant_of-self-clause-same
invariant_of-self-clause-same c =
    let store = c.args.self.now in
    let p = is_put store.values.items store.slots.items.items c.args.at c.deref_mut.ensures.value c.deref_mut.ensures.len store.lined c.requires.within c.index_mut.ensures.value c.restore.ensures in
    same_put p store.initial.items.items store.same

pub invariant_of-self-clause-increasing : goal.invariant_of-self-clause-increasing
invariant_of-self-clause-increasing c =
    let store = c.args.self.now in
    let p = is_put store.values.items store.slots.items.items c.args.at c.deref_mut.ensures.value c.deref_mut.ensures.len store.lined c.requires.within c.index_mut.ensures.value c.restore.ensures in
    increasing_put p store.increasing

pub invariant_of-self-clause-numbered : goal.invariant_of-self-clause-numbered
invariant_of-self-clause-numbered c =
    let store = c.args.self.now in
    let p = is_put store.values.items store.slots.items.items c.args.at c.deref_mut.ensures.value c.deref_mut.ensures.len store.lined c.requires.within c.index_mut.ensures.value c.restore.ensures in
    store.numbered ∙ sym (keys_put p)

pub returns-clause-entries : goal.returns-clause-entries
returns-clause-entries c =
    let store = c.args.self.now in
    let p = is_put store.values.items store.slots.items.items c.args.at c.deref_mut.ensures.value c.deref_mut.ensures.len store.lined c.requires.within c.index_mut.ensures.value c.restore.ensures in
    λ d. entries_put p store.initial.items.items d ∙ ap (filled_at (entries_in store.values.items.items store.initial.items.items store.slots.items.items) c.args.at d) (ap (λ (l : List ℕ). take c.index_mut.result.now.initial_size (drop c.index_mut.result.now.start l)) c.deref.ensures.value ∙ ap (λ (s : Slot). (entry_in store.values.items.items store.initial.items.items s).initial) c.index_mut.ensures.value ∙ ap (λ (e : ListedEntry). e.initial) (sym (get_or-map (entry_in store.values.items.items store.initial.items.items) store.slots.items.items c.args.at c.index_mut.result.now d c.requires.within)))

pub returns-clause-keys : goal.returns-clause-keys
returns-clause-keys c =
    let store = c.args.self.now in
    let p = is_put store.values.items store.slots.items.items c.args.at c.deref_mut.ensures.value c.deref_mut.ensures.len store.lined c.requires.within c.index_mut.ensures.value c.restore.ensures in
    keys_put p
