-- A device keeps the memory that it has: what stands by the same constants has lists of the same lengths.
use Rattle.std.proofs.Common.{◌≡◌, ℕ, zero, suc, ◌+◌, ◌<◌, ◌≤◌, true, eqb, List, [], ◌∷◌, length, map, get_or, Some, Option, sym, ap, ◌∙◌, subst, arith}
use Rattle.std.specs.Prelude.{slice_get}
use Rattle.std.specs.Option.{option_and_then}
use Rattle.std.proofs.lemmas.List.{length-map, get_or-map}
use Rattle.std.proofs.lemmas.Option.{same_Some}
use Rattle.std.proofs.lemmas.Bool.{and_parts, eqb-true}
use Rattle.co_dict.specs.declared.row.Row.{Row}
use Rattle.co_dict.specs.declared.side.Side.{Side}
use Rattle.co_dict.specs.declared.side.Side.TheVariants.{Rpdo, Tpdo}
use Rattle.co_dict.specs.Stores.{Description}
use Rattle.co_dict_build.specs.ListedEntries.{ListedEntry}
use Rattle.co_dict_build.proofs.Numbering.{part_by_place}
use Rattle.co_dict_image.specs.declared.slot.Slot.{Slot}
use Rattle.co_dict_image.specs.declared.image_store.ImageStore.{ImageStore}
use Rattle.co_dict_image.specs.Slots.{are_lined, entry_in}
use Rattle.co_dict_image.specs.Images.{entries_of}
use Rattle.co_dict_image.proofs.Entries.{entries_increase, entries_len}
use Rattle.co_pdo.specs.declared.tpdo.Tpdo.{Tpdo as Counted}
use Rattle.co_pdo.specs.Schedules.{History, IsScheduleAfter, Timetable}
use Rattle.co_pdo.specs.Tpdos.{places_of, tpdos_of}
use Rattle.co_sdo.specs.Channels.{ChannelSettings}
use Rattle.co_node_model.specs.Inputs.{Inputs}
use Rattle.co_node_model.specs.Moments.{Constants}
use Rattle.co_node_device.specs.MappingTables.{Covers}
use Rattle.co_node.specs.declared.node.Node.{Node}
use Rattle.co_node.specs.Memory.{memory_of}
use Rattle.co_node.specs.Nodes.{Stands, description_of}

-- ---- the image of a dictionary

-- lines of rooms end at one place where slot by slot the rooms are as large
ends_same : (at : ℕ) (s t : List Slot) (m n : ℕ) → length s ≡ length t → ((i : ℕ) (d : Slot) → i < length s → (get_or s i d).row.capacity ≡ (get_or t i d).row.capacity)
    → are_lined at s m ≡ true → are_lined at t n ≡ true → m ≡ n
ends_same at [] [] m n same each l r = sym (eqb-true at m l) ∙ eqb-true at n r
ends_same at [] (y ∷ t) m n same each l r = absurd (omega (arith, same))
ends_same at (x ∷ s) [] m n same each l r = absurd (omega (arith, same))
ends_same at (x ∷ s) (y ∷ t) m n same each l r =
    let room : x.row.capacity ≡ y.row.capacity = each 0 x (omega arith) in
    ends_same (at + x.row.capacity) s t m n (omega (arith, same)) (λ i d below. each (suc i) d (omega (arith, below)))
    (and_parts (eqb x.start at) (are_lined (at + x.row.capacity) s m) l).1
    (subst (λ (c : ℕ). are_lined (at + c) t n ≡ true) (sym room) (and_parts (eqb y.start at) (are_lined (at + y.row.capacity) t n) r).1)

-- the row at a place, by what never changes of the dictionary
abbrev row_in : Description → ℕ → Option Row
row_in d at = option_and_then d.rows (slice_get d.keys at)

module _ (store : ImageStore) where
  many : length store.slots.items.items ≡ length (description_of store).keys
  many = sym (entries_len store.values.items.items store.initial.items.items store.slots.items.items) ∙ sym (length-map (entries_of store) (λ (e : ListedEntry). e.key))

  row_here : (i : ℕ) (d : Slot) → i < length store.slots.items.items → Some (get_or store.slots.items.items i d).row ≡ row_in (description_of store) i
  row_here i d below =
      let v = store.values.items.items in
      let n = store.initial.items.items in
      let s = store.slots.items.items in
      ap (λ (e : ListedEntry). Some e.row) (sym (get_or-map (entry_in v n) s i d (entry_in v n d) below))
      ∙ part_by_place (entries_of store) (entries_increase v n s store.increasing) (λ e. e.row) i (entry_in v n d) (subst (λ m. i < m) (sym (entries_len v n s)) below)

module _ (a b : ImageStore) (same : description_of a ≡ description_of b) where
  same_entries : length a.slots.items.items ≡ length b.slots.items.items
  same_entries = many a ∙ ap (λ (d : Description). length d.keys) same ∙ sym (many b)

  same_rooms : (i : ℕ) (d : Slot) → i < length a.slots.items.items → (get_or a.slots.items.items i d).row.capacity ≡ (get_or b.slots.items.items i d).row.capacity
  same_rooms i d below =
      ap (λ (r : Row). r.capacity) (same_Some _ _ (row_here a i d below ∙ ap (λ (d : Description). row_in d i) same ∙ sym (row_here b i d (subst (λ m. i < m) same_entries below))))

  same_values : length a.values.items.items ≡ length b.values.items.items
  same_values = ends_same 0 a.slots.items.items b.slots.items.items _ _ same_entries same_rooms a.lined b.lined

-- ---- the compiled mappings and the schedule

same_count : (side : Side) (d : Description) (m n : ℕ) → m ≤ 512 → n ≤ 512 → Covers side d m → Covers side d n → m ≤ n
same_count side d zero n few less one other = omega arith
same_count side d (suc m) n few less one other = let below : m < n = other.all m (omega (arith, few)) (one.last m (omega arith)) in omega arith

counts_same : (side : Side) (d : Description) (m n : ℕ) → m ≤ 512 → n ≤ 512 → Covers side d m → Covers side d n → m ≡ n
counts_same side d m n few less one other =
    let up : m ≤ n = same_count side d m n few less one other in
    let down : n ≤ m = same_count side d n m less few other one in
    omega arith

scheduled : (d : Description) (s : Timetable) (history : History) → IsScheduleAfter d s history → length s.tpdos ≡ length (tpdos_of d.rows)
scheduled d s history after = sym (length-map s.tpdos (λ (t : Counted). t.number)) ∙ ap length after.numbers

placed : (d : Description) (s : Timetable) (history : History) → IsScheduleAfter d s history → length s.places ≡ length (tpdos_of d.rows)
placed d s history after = ap length after.places ∙ length-map (tpdos_of d.rows) (places_of d)

-- ---- a device

pub memory_kept : (k : Constants) (before after : Inputs) (old new : Node) → Stands k old before → Stands k new after → memory_of new ≡ memory_of old
memory_kept k before after old new was is =
    let d : Description = description_of new.device.store in
    let e : Description = description_of old.device.store in
    let same : d ≡ e = is.description ∙ sym was.description in
    let entries = same_entries new.device.store old.device.store same in
    let values = same_values new.device.store old.device.store same in
    let initial : length new.device.store.initial.items.items ≡ length old.device.store.initial.items.items = new.device.store.same ∙ values ∙ sym old.device.store.same in
    let buffers = ap (map (λ (c : ChannelSettings). c.greatest + 889)) (is.channels.settings ∙ sym was.channels.settings) in
    let rpdos = counts_same Rpdo d _ _ is.mappings.rpdos.few was.mappings.rpdos.few is.mappings.rpdos.covers
    (subst (λ (d : Description). Covers Rpdo d (length old.device.parts.mappings.rpdos)) (sym same) was.mappings.rpdos.covers) in
    let tpdos = counts_same Tpdo d _ _ is.mappings.tpdos.few was.mappings.tpdos.few is.mappings.tpdos.covers
    (subst (λ (d : Description). Covers Tpdo d (length old.device.parts.mappings.tpdos)) (sym same) was.mappings.tpdos.covers) in
    let waiting = counts_same Rpdo d _ _ is.slots.few was.slots.few is.slots.covers
    (subst (λ (d : Description). Covers Rpdo d (length old.device.parts.slots.slots)) (sym same) was.slots.covers) in
    let taken = is.slots.stand.room ∙ waiting ∙ sym was.slots.stand.room in
    let counted = scheduled d _ _ is.schedule ∙ ap (λ (d : Description). length (tpdos_of d.rows)) same ∙ sym (scheduled e _ _ was.schedule) in
    let places = placed d _ _ is.schedule ∙ ap (λ (d : Description). length (tpdos_of d.rows)) same ∙ sym (placed e _ _ was.schedule) in
    cc
