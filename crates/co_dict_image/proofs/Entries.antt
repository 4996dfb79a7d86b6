-- The entries of an image, by key and by place.
use Rattle.std.proofs.Common.{◌≡◌, ◌<◌, ◌+◌, ℕ, true, false, List, [], ◌∷◌, length, get_or, Some, cond, refl, sym, ap, ◌∙◌, subst}
use Rattle.std.specs.Prelude.{position, pos}
use Rattle.std.proofs.lemmas.List.{length-map, set-get_or}
use Rattle.std.proofs.lemmas.List.Quantifiers.{position-Some}
use Rattle.co_value.specs.declared.key.Key.{Key}
use Rattle.co_value.specs.declared.data_type.DataType.TheVariants.{Unsigned8}
use Rattle.co_value.specs.Keys.{same_key}
use Rattle.co_profile.specs.declared.access.Access.TheVariants.{Rw}
use Rattle.co_dict.specs.declared.area.Area.{Area}
use Rattle.co_dict.specs.Rows.{is_in_area}
use Rattle.co_dict_build.specs.ListedEntries.{ListedEntry, keys_in, are_increasing}
use Rattle.co_dict_build.proofs.Places.{place_of}
use Rattle.co_dict_build.proofs.Numbering.{places_same}
use Rattle.co_dict_build.proofs.Changes.{AreResetUpTo, reset_one}
use Rattle.co_dict_image.specs.declared.slot.Slot.{Slot}
use Rattle.co_dict_image.specs.Slots.{entry_in, entries_in, keys_of}
use Rattle.co_dict_image.specs.Images.{filled_at}

-- an entry to read past the end of a list
abbrev pub blank : Key → ListedEntry
blank key = record { key = key; row = record { data_type = Unsigned8; access = Rw; low = pos 0; high = pos 0; capacity = 1; mappable = false }; bytes = []; initial = [] }

-- the keys of the entries are those of the slots
pub keys_same : (values initial : List ℕ) (slots : List Slot) → keys_in (entries_in values initial slots) ≡ keys_of slots
keys_same values initial [] = refl
keys_same values initial (slot ∷ slots) = ap (λ (keys : List Key). slot.key ∷ keys) (keys_same values initial slots)

pub entries_increase : (values initial : List ℕ) (slots : List Slot) → are_increasing (keys_of slots) ≡ true → are_increasing (keys_in (entries_in values initial slots)) ≡ true
entries_increase values initial slots h = ap are_increasing (keys_same values initial slots) ∙ h

-- the number of a key is the place of its entry
pub number_is_place : (values initial : List ℕ) (slots : List Slot) (key : Key) → position (same_key key) (keys_of slots) ≡ place_of (entries_in values initial slots) key
number_is_place values initial slots key = ap (position (same_key key)) (sym (keys_same values initial slots)) ∙ sym (places_same 0 [] (entries_in values initial slots) key)

pub slot_within : (slots : List Slot) (key : Key) (at : ℕ) → Some at ≡ position (same_key key) (keys_of slots) → at < length slots
slot_within slots key at h = subst (λ n. at < n) (length-map slots (λ (s : Slot). s.key)) (position-Some (same_key key) (keys_of slots) at key (sym h)).0

-- as many entries as slots
pub entries_len : (values initial : List ℕ) (slots : List Slot) → length (entries_in values initial slots) ≡ length slots
entries_len values initial slots = length-map slots (entry_in values initial)

-- ---- a reset, entry by entry

pub reset_restored : (area : Area) (before now after : List ListedEntry) (at : ℕ) (d : ListedEntry) → at < length now → AreResetUpTo area before now at → is_in_area area (get_or now at d).key ≡ true
    → after ≡ filled_at now at d (get_or now at d).initial → AreResetUpTo area before after (at + 1)
reset_restored area before now after at d within up_to inside is =
    subst (λ (es : List ListedEntry). AreResetUpTo area before es (at + 1)) (sym is)
    (reset_one area before now at d (record (get_or now at d) { bytes = (get_or now at d).initial }) within up_to
    (sym (ap (λ b. let e : ListedEntry = record (get_or now at d) { bytes = cond b (get_or now at d).initial (get_or now at d).bytes } in e) inside)))

pub reset_passed : (area : Area) (before now : List ListedEntry) (at : ℕ) (d : ListedEntry) → at < length now → AreResetUpTo area before now at → is_in_area area (get_or now at d).key ≡ false
    → AreResetUpTo area before now (at + 1)
reset_passed area before now at d within up_to outside =
    subst (λ (es : List ListedEntry). AreResetUpTo area before es (at + 1)) (set-get_or now at d)
    (reset_one area before now at d (get_or now at d) within up_to
    (sym (ap (λ b. let e : ListedEntry = record (get_or now at d) { bytes = cond b (get_or now at d).initial (get_or now at d).bytes } in e) outside)))

pub slots_len : (after before : List Slot) → keys_of after ≡ keys_of before → length after ≡ length before
slots_len after before same = sym (length-map after (λ (s : Slot). s.key)) ∙ ap length same ∙ length-map before (λ (s : Slot). s.key)
