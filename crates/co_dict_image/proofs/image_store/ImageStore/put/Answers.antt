use Rattle.std.proofs.Common.{◌≤◌, ◌+◌, length, List, ℕ, sym, ap, ◌∙◌, subst}
use Rattle.std.proofs.lemmas.List.{get_or-map}
use Rattle.co_dict.specs.Rows.{fits}
use Rattle.co_dict_build.specs.ListedEntries.{ListedEntry}
use Rattle.co_dict_build.proofs.EntryBytes.{are_bytes}
use Rattle.co_dict_image.specs.declared.slot.Slot.{Slot}
use Rattle.co_dict_image.specs.Slots.{entry_in}
use Rattle.co_dict_image.proofs.Puts.{room_at, is_put, lined_put, keys_put, increasing_put, same_put, bytes_put, entries_put}
use Rattle.co_dict_image.proofs.image_store.ImageStore.put.Goals as goal

pub fill-requires-clause-fitting : goal.fill-requires-clause-fitting
fill-requires-clause-fitting c =
    let store = c.args.self.now in
    let slot = c.index_mut.result.now in
    ap (λ (s : Slot). fits s.row (length c.args.bytes.now)) c.index_mut.ensures.value
    ∙ ap (λ (e : ListedEntry). fits e.row (length c.args.bytes.now)) (sym (get_or-map (entry_in store.values.items.items store.initial.items.items) store.slots.items.items c.args.at slot (entry_in store.values.items.items store.initial.items.items slot) c.requires.within))
    ∙ c.requires.fitting (entry_in store.values.items.items store.initial.items.items slot)

pub fill-requires-clause-room : goal.fill-requires-clause-room
fill-requires-clause-room c =
    let store = c.args.self.now in
    let slot = c.index_mut.result.now in
    subst (λ (l : List ℕ). slot.start + slot.row.capacity ≤ length l) (sym c.deref_mut.ensures.value) (room_at store.values.items.items store.slots.items.items c.args.at slot store.lined c.requires.within c.index_mut.ensures.value)

pub invariant_of-self-clause-lined : goal.invariant_of-self-clause-lined
invariant_of-self-clause-lined c =
    let store = c.args.self.now in
    let p = is_put store.values.items store.slots.items.items c.args.at c.deref_mut.ensures.value c.deref_mut.ensures.len store.lined c.requires.within c.index_mut.ensures.value c.fill.ensures in
    lined_put p

pub invariant_of-self-clause-bytes : goal.invariant_of-self-clause-bytes
invariant_of-self-clause-bytes c =
    let store = c.args.self.now in
    let p = is_put store.values.items store.slots.items.items c.args.at c.deref_mut.ensures.value c.deref_mut.ensures.len store.lined c.requires.within c.index_mut.ensures.value c.fill.ensures in
    bytes_put p store.bytes (are_bytes _ c.type_inv.bytes)

pub invariant_of-self-clause-same : goal.invariant_of-self-clause-same
invariant_of-self-clause-same c =
    let store = c.args.self.now in
    let p = is_put store.values.items store.slots.items.items c.args.at c.deref_mut.ensures.value c.deref_mut.ensures.len store.lined c.requires.within c.index_mut.ensures.value c.fill.ensures in
    same_put p store.initial.items.items store.same

pub invariant_of-self-clause-increasing : goal.invariant_of-self-clause-increasing
invariant_of-self-clause-increasing c =
    let store = c.args.self.now in
    let p = is_put store.values.items store.slots.items.items c.args.at c.deref_mut.ensures.value c.deref_mut.ensures.len store.lined c.requires.within c.index_mut.ensures.value c.fill.ensures in
    increasing_put p store.increasing

pub invariant_of-self-clause-numbered : goal.invariant_of-self-clause-numbered
invariant_of-self-clause-numbered c =
    let store = c.args.self.now in
    let p = is_put store.values.items store.slots.items.items c.args.at c.deref_mut.ensures.value c.deref_mut.ensures.len store.lined c.requires.within c.index_mut.ensures.value c.fill.ensures in
    store.numbered ∙ sym (keys_put p)

pub returns-clause-entries : goal.returns-clause-entries
returns-clause-entries c =
    let store = c.args.self.now in
    let p = is_put store.values.items store.slots.items.items c.args.at c.deref_mut.ensures.value c.deref_mut.ensures.len store.lined c.requires.within c.index_mut.ensures.value c.fill.ensures in
    λ d. entries_put p store.initial.items.items d

pub returns-clause-keys : goal.returns-clause-keys
returns-clause-keys c =
    let store = c.args.self.now in
    let p = is_put store.values.items store.slots.items.items c.args.at c.deref_mut.ensures.value c.deref_mut.ensures.len store.lined c.requires.within c.index_mut.ensures.value c.fill.ensures in
    keys_put p
