-- What a change of bytes makes of a list of entries, and what it leaves.
use Rattle.std.proofs.Common.{◌≡◌, ℕ, zero, suc, ◌+◌, ◌<◌, ◌≤◌, ◌≢◌, Bool, true, false, cond, eqb, List, [], ◌∷◌, length, get_or, set, map, Option, Some, None, refl, sym, ap, ◌∙◌, subst, arith}
use Rattle.std.specs.Prelude.{find}
use Rattle.std.specs.Option.{option_map}
use Rattle.std.proofs.lemmas.Bool.{eqb-true}
use Rattle.std.proofs.lemmas.Bool.Decides.{nat_tests}
use Rattle.std.proofs.lemmas.List.{get_or_default, get_or-set_same, get_or-set_other}
use Rattle.std.proofs.Math.Seq.{map-set_same}
use Rattle.std.proofs.lemmas.List.Quantifiers.{position-Some}
use Rattle.co_value.specs.declared.key.Key.{Key}
use Rattle.co_value.specs.Keys.{same_key}
use Rattle.co_dict.specs.declared.row.Row.{Row}
use Rattle.co_dict.specs.declared.area.Area.{Area}
use Rattle.co_dict.specs.Rows.{written, restored, is_in_area}
use Rattle.co_dict.specs.Stores.{Description}
use Rattle.co_dict_build.specs.ListedEntries.{ListedEntry, entry_at, contents_in, initial_in, keys_in, are_increasing, description_in, reset_entry}
use Rattle.co_dict_build.specs.LawfulLists.{equal_keys}
use Rattle.co_dict_build.proofs.Places.{place_of}

-- ---- what the bytes leave as it is

-- an entry without its bytes
abbrev pub Fixed : Type 0
Fixed = Key × Row × List ℕ

abbrev pub fixed_part : ListedEntry → Fixed
fixed_part e = (e.key, e.row, e.initial)

abbrev pub fixed_parts : List ListedEntry → List Fixed
fixed_parts entries = map fixed_part entries

-- a dictionary, by its entries without their bytes
abbrev fixed_description : ℕ → List Bool → List Fixed → Description
fixed_description node dummies fixed = record {
  node = node;
  rows = λ key. option_map (λ (f : Fixed). f.1) (find (λ (f : Fixed). same_key key f.0) fixed);
  initial = λ key. option_map (λ (f : Fixed). f.2) (find (λ (f : Fixed). same_key key f.0) fixed);
  dummies = (description_in node dummies []).dummies;
  keys = map (λ (f : Fixed). f.0) fixed;
}

part_found : {A : Type 0} (part : Fixed → A) (key : Key) (entries : List ListedEntry)
    → option_map (λ e. part (fixed_part e)) (entry_at entries key) ≡ option_map part (find (λ (f : Fixed). same_key key f.0) (fixed_parts entries))
part_found part key [] = refl
part_found part key (e ∷ entries) = by_test (same_key key e.key) (part_found part key entries)
  where
    by_test : (b : Bool) → option_map (λ e. part (fixed_part e)) (entry_at entries key) ≡ option_map part (find (λ (f : Fixed). same_key key f.0) (fixed_parts entries))
        → option_map (λ e. part (fixed_part e)) (cond b (Some e) (entry_at entries key)) ≡ option_map part (cond b (Some (fixed_part e)) (find (λ (f : Fixed). same_key key f.0) (fixed_parts entries)))
    by_test true later = refl
    by_test false later = later

fixed_keys : (entries : List ListedEntry) → keys_in entries ≡ map (λ (f : Fixed). f.0) (fixed_parts entries)
fixed_keys [] = refl
fixed_keys (e ∷ entries) = ap (λ keys. e.key ∷ keys) (fixed_keys entries)

description_fixed : (node : ℕ) (dummies : List Bool) (entries : List ListedEntry) → description_in node dummies entries ≡ fixed_description node dummies (fixed_parts entries)
description_fixed node dummies entries = λ j. record {
  node = node;
  rows = λ key. part_found (λ f. f.1) key entries j;
  initial = λ key. part_found (λ f. f.2) key entries j;
  dummies = (description_in node dummies []).dummies;
  keys = fixed_keys entries j;
}

-- entries that differ in their bytes alone make the same dictionary
pub same_description : (node : ℕ) (dummies : List Bool) (before after : List ListedEntry) → fixed_parts after ≡ fixed_parts before → description_in node dummies after ≡ description_in node dummies before
same_description node dummies before after same = description_fixed node dummies after ∙ ap (fixed_description node dummies) same ∙ sym (description_fixed node dummies before)

pub same_keys : (before after : List ListedEntry) → fixed_parts after ≡ fixed_parts before → keys_in after ≡ keys_in before
same_keys before after same = fixed_keys after ∙ ap (map (λ (f : Fixed). f.0)) same ∙ sym (fixed_keys before)

pub still_increasing : (before after : List ListedEntry) → fixed_parts after ≡ fixed_parts before → are_increasing (keys_in before) ≡ true → are_increasing (keys_in after) ≡ true
still_increasing before after same increasing = ap are_increasing (same_keys before after same) ∙ increasing

-- ---- one entry changed

-- the entries, of which the one at a place has other bytes
abbrev pub with_bytes : List ListedEntry → ℕ → ListedEntry → List ℕ → List ListedEntry
with_bytes entries at d bytes = set entries at (record (get_or entries at d) { bytes = bytes })

pub fixed_parts-with_bytes : (entries : List ListedEntry) (at : ℕ) (d : ListedEntry) (bytes : List ℕ) → fixed_parts (with_bytes entries at d bytes) ≡ fixed_parts entries
fixed_parts-with_bytes entries at d bytes = map-set_same fixed_part entries at (record (get_or entries at d) { bytes = bytes }) d refl

here : (b : Bool) (x y : ListedEntry) (bytes : List ℕ) (rest : Option ListedEntry) → x.bytes ≡ bytes
    → option_map (λ (e : ListedEntry). e.bytes) (cond b (Some x) rest) ≡ cond b (Some bytes) (option_map (λ (e : ListedEntry). e.bytes) (cond b (Some y) rest))
here true x y bytes rest h = ap Some h
here false x y bytes rest h = refl

later : (b c : Bool) (x : ListedEntry) (bytes : List ℕ) (rest rest' : Option ListedEntry) → (b ≡ true → c ≡ false)
    → option_map (λ (e : ListedEntry). e.bytes) rest' ≡ cond c (Some bytes) (option_map (λ (e : ListedEntry). e.bytes) rest)
    → option_map (λ (e : ListedEntry). e.bytes) (cond b (Some x) rest') ≡ cond c (Some bytes) (option_map (λ (e : ListedEntry). e.bytes) (cond b (Some x) rest))
later true c x bytes rest rest' other h = sym (ap (λ c. cond c (Some bytes) (Some x.bytes)) (other refl))
later false c x bytes rest rest' other h = h

-- a key that one key is the same as is not the same as another one
other_key : (q key key' : Key) → same_key key key' ≡ false → same_key q key' ≡ true → same_key q key ≡ false
other_key q key key' other same = by_same (same_key q key) refl
  where
    by_same : (b : Bool) → same_key q key ≡ b → b ≡ false
    by_same false h = refl
    by_same true h = sym (subst (λ k. same_key k key' ≡ true) (equal_keys q key h) same) ∙ other

contents_at-set : (entries : List ListedEntry) (at : ℕ) (e d : ListedEntry) (key : Key) (bytes : List ℕ)
    → at < length entries → same_key key (get_or entries at d).key ≡ true → ((k : ℕ) → k < at → same_key key (get_or entries k d).key ≡ false)
    → e.key ≡ key → e.bytes ≡ bytes
    → (q : Key) → contents_in (set entries at e) q ≡ cond (same_key q key) (Some bytes) (contents_in entries q)
contents_at-set [] at e d key bytes within first before key_is bytes_are q = absurd (omega arith)
contents_at-set (e' ∷ entries) zero e d key bytes within first before key_is bytes_are q =
    ap (λ (k : Key). option_map (λ (e : ListedEntry). e.bytes) (cond (same_key q k) (Some e) (entry_at entries q))) key_is
    ∙ here (same_key q key) e e' bytes (entry_at entries q) bytes_are
    ∙ ap (λ (k : Key). cond (same_key q key) (Some bytes) (option_map (λ (e : ListedEntry). e.bytes) (cond (same_key q k) (Some e') (entry_at entries q)))) (equal_keys key e'.key first)
contents_at-set (e' ∷ entries) (suc at) e d key bytes within first before key_is bytes_are q =
    later (same_key q e'.key) (same_key q key) e' bytes (entry_at entries q) (entry_at (set entries at e) q)
    (other_key q key e'.key (before 0 (omega arith)))
    (contents_at-set entries at e d key bytes (omega arith) first (λ k lt. before (suc k) (omega arith)) key_is bytes_are q)

-- the bytes of the entry at the place of a key are written
pub contents_in-with_bytes : (entries : List ListedEntry) (at : ℕ) (d : ListedEntry) (key : Key) (bytes : List ℕ) → Some at ≡ place_of entries key → contents_in (with_bytes entries at d bytes) ≡ written (contents_in entries) key bytes
contents_in-with_bytes entries at d key bytes place =
    let first = position-Some (λ entry. same_key key entry.key) entries at d (sym place) in
    λ j. λ q. contents_at-set entries at (record (get_or entries at d) { bytes = bytes }) d key bytes first.0 first.1 first.2 (sym (equal_keys key (get_or entries at d).key first.1)) refl q j

-- ---- an area reset

pub fixed_parts-reset : (area : Area) (entries : List ListedEntry) → fixed_parts (map (reset_entry area) entries) ≡ fixed_parts entries
fixed_parts-reset area [] = refl
fixed_parts-reset area (e ∷ entries) = ap (λ fs. fixed_part e ∷ fs) (fixed_parts-reset area entries)

none_either : (b : Bool) → let none : Option (List ℕ) = None in none ≡ cond b none none
none_either true = refl
none_either false = refl

contents_at-reset : (area : Area) (entries : List ListedEntry) (q : Key) → contents_in (map (reset_entry area) entries) q ≡ cond (is_in_area area q) (initial_in entries q) (contents_in entries q)
contents_at-reset area [] q = none_either (is_in_area area q)
contents_at-reset area (e ∷ entries) q = by_same (same_key q e.key) refl (contents_at-reset area entries q)
  where
    either : (b : Bool) → Some (cond b e.initial e.bytes) ≡ cond b (Some e.initial) (Some e.bytes)
    either true = refl
    either false = refl

    by_same : (b : Bool) → same_key q e.key ≡ b → contents_in (map (reset_entry area) entries) q ≡ cond (is_in_area area q) (initial_in entries q) (contents_in entries q)
        → option_map (λ (e : ListedEntry). e.bytes) (cond b (Some (reset_entry area e)) (entry_at (map (reset_entry area) entries) q))
        ≡ cond (is_in_area area q) (option_map (λ (e : ListedEntry). e.initial) (cond b (Some e) (entry_at entries q))) (option_map (λ (e : ListedEntry). e.bytes) (cond b (Some e) (entry_at entries q)))
    by_same true same rest = subst (λ k. Some (cond (is_in_area area k) e.initial e.bytes) ≡ cond (is_in_area area q) (Some e.initial) (Some e.bytes)) (equal_keys q e.key same) (either (is_in_area area q))
    by_same false other rest = rest

pub contents_in-reset : (area : Area) (entries : List ListedEntry) → contents_in (map (reset_entry area) entries) ≡ restored area (initial_in entries) (contents_in entries)
contents_in-reset area entries = λ j. λ q. contents_at-reset area entries q j

-- the entries up to an index are reset, and the others are as they were
pub record AreResetUpTo (area : Area) (before now : List ListedEntry) (index : ℕ) : Type 0 where
  pub done : (k : ℕ) (d : ListedEntry) → k < index → get_or now k d ≡ reset_entry area (get_or before k d)
  pub left : (k : ℕ) (d : ListedEntry) → index ≤ k → get_or now k d ≡ get_or before k d

pub reset_none : (area : Area) (before : List ListedEntry) → AreResetUpTo area before before 0
reset_none area before = record { done = λ k d lt. absurd (omega arith); left = λ k d le. refl }

pub reset_one : (area : Area) (before now : List ListedEntry) (index : ℕ) (e e' : ListedEntry) → index < length now → AreResetUpTo area before now index
    → e' ≡ reset_entry area (get_or now index e) → AreResetUpTo area before (set now index e') (index + 1)
reset_one area before now index e e' within up_to reset = record {
  done = λ k d lt. by_place k d lt (eqb k index) refl;
  left = λ k d le. let other : k ≢ index = omega arith in get_or-set_other now index k e' d other ∙ up_to.left k d (omega arith);
}
  where
    at_index : (d : ListedEntry) → get_or (set now index e') index d ≡ reset_entry area (get_or before index d)
    at_index d =
        get_or-set_same now index e' d within ∙ reset
        ∙ ap (λ (x : ListedEntry). reset_entry area x) (get_or_default now index e d within ∙ up_to.left index d (omega arith))

    by_place : (k : ℕ) (d : ListedEntry) → k < index + 1 → (b : Bool) → eqb k index ≡ b → get_or (set now index e') k d ≡ reset_entry area (get_or before k d)
    by_place k d lt true same = subst (λ (k : ℕ). get_or (set now index e') k d ≡ reset_entry area (get_or before k d)) (sym (eqb-true k index same)) (at_index d)
    by_place k d lt false other =
        let differs : k ≢ index = grind (arith, nat_tests) in
        get_or-set_other now index k e' d differs ∙ up_to.done k d (omega arith)

-- past the last entry all are reset
all_reset : (area : Area) (before now : List ListedEntry) → length now ≡ length before
    → ((k : ℕ) (d : ListedEntry) → k < length before → get_or now k d ≡ reset_entry area (get_or before k d)) → now ≡ map (reset_entry area) before
all_reset area [] [] same each = refl
all_reset area [] (e' ∷ now) same each = absurd (omega arith)
all_reset area (e ∷ before) [] same each = absurd (omega arith)
all_reset area (e ∷ before) (e' ∷ now) same each =
    ap (λ v. v ∷ now) (each 0 e (omega arith))
    ∙ ap (λ vs. reset_entry area e ∷ vs) (all_reset area before now (omega arith) (λ k d lt. each (suc k) d (omega arith)))

pub reset_all : (area : Area) (before now : List ListedEntry) (index : ℕ) → length now ≡ length before → length before ≤ index → AreResetUpTo area before now index → now ≡ map (reset_entry area) before
reset_all area before now index same past up_to = all_reset area before now same (λ k d lt. up_to.done k d (omega arith))
