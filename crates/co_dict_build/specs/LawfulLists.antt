-- A list of entries is a dictionary.
use Rattle.std.proofs.Common.{◌≡◌, ◌≤◌, ◌<◌, ◌-◌, ℕ, zero, suc, Bool, true, false, cond, ◌&&◌, ◌||◌, eqb, List, [], ◌∷◌, length, Option, Some, None, refl, sym, ap, ◌∙◌, subst, arith}
use Rattle.std.specs.Prelude.{is_some, nat_le, slice_get, unwrap_or}
use Rattle.std.specs.Option.{option_map}
use Rattle.std.specs.List.{list_any, AllByRecursion}
use Rattle.std.proofs.lemmas.Bool.{and_parts, eqb-true, false≢true}
use Rattle.std.proofs.lemmas.Bool.Decides.{nat_tests}
use Rattle.std.proofs.lemmas.Option.{none-some, same_Some}
use Rattle.co_value.specs.declared.key.Key.{Key}
use Rattle.co_value.specs.Keys.{same_key}
use Rattle.co_value.specs.Numbers.{AreBytes}
use Rattle.co_dict.specs.declared.row.Row.{Row}
use Rattle.co_dict.specs.Rows.{fits}
use Rattle.co_dict.specs.Stores.{IsFilled, IsDescription, IsDictionary, IsKey, HasLimits}
use Rattle.co_dict_build.specs.ListedEntries.{ListedEntry, IsEntry, entry_at, rows_in, contents_in, keys_in, description_in, HasWidth, HasFixedType}

-- keys that are the same are equal
pub equal_keys : (a b : Key) → same_key a b ≡ true → a ≡ b
equal_keys a b same =
    let index : a.index ≡ b.index = eqb-true _ _ (and_parts (eqb a.index b.index) (eqb a.sub b.sub) same).0 in
    let sub : a.sub ≡ b.sub = eqb-true _ _ (and_parts (eqb a.index b.index) (eqb a.sub b.sub) same).1 in
    let key : ℕ → ℕ → Key = λ i s. record { index = i; sub = s } in
    ap (λ i. key i a.sub) index ∙ ap (λ s. key b.index s) sub

-- an entry that a list has at a key
record IsFound (entries : List ListedEntry) (key : Key) (e : ListedEntry) : Type 0 where
  found : entry_at entries key ≡ Some e
  key_is : e.key ≡ key
  is_entry : IsEntry e

found_in : (entries : List ListedEntry) → AllByRecursion IsEntry entries → (key : Key) (e : ListedEntry) → entry_at entries key ≡ Some e → IsFound entries key e
found_in [] all key e h = absurd (none-some e h)
found_in (first ∷ entries) all key e h = by_test (same_key key first.key) refl h (found_in entries all.1 key e)
  where
    by_test : (b : Bool) → same_key key first.key ≡ b → cond b (Some first) (entry_at entries key) ≡ Some e → (entry_at entries key ≡ Some e → IsFound entries key e) → IsFound (first ∷ entries) key e
    by_test true same h later =
        let is : first ≡ e = same_Some first e h in
        record {
          found = ap (λ b. cond b (Some first) (entry_at entries key)) same ∙ h;
          key_is = sym (equal_keys key e.key (subst (λ (e : ListedEntry). same_key key e.key ≡ true) is same));
          is_entry = subst IsEntry is all.0;
        }
    by_test false other h later =
        let rest = later h in record { found = ap (λ b. cond b (Some first) (entry_at entries key)) other ∙ rest.found; key_is = rest.key_is; is_entry = rest.is_entry }

mapped : {A B : Type 0} (f : A → B) (o : Option A) (y : B) → option_map f o ≡ Some y → (x : A) × (o ≡ Some x)
mapped f None y h = absurd (none-some y h)
mapped f (Some x) y h = (x, refl)

module _ (entries : List ListedEntry) (all : AllByRecursion IsEntry entries) where
  -- the entry that a row or bytes are of
  with_part : {A : Type 0} (part : ListedEntry → A) (key : Key) (x : A) → option_map part (entry_at entries key) ≡ Some x → (e : ListedEntry) × IsFound entries key e × (part e ≡ x)
  with_part part key x h =
      let m = mapped part (entry_at entries key) x h in
      (m.0, found_in entries all key m.0 m.1, same_Some (part m.0) x (sym (ap (option_map part) m.1) ∙ h))

  -- what holds of the key and the row of each entry holds of each row of the list
  of_row : (P : Key → Row → Type 0) → ((e : ListedEntry) → IsEntry e → P e.key e.row) → (key : Key) (row : Row) → rows_in entries key ≡ Some row → P key row
  of_row P each key row h =
      let f = with_part (λ e. e.row) key row h in
      subst (P key) f.2 (subst (λ k. P k f.0.row) f.1.key_is (each f.0 f.1.is_entry))

pub list_has : (entries : List ListedEntry) (key : Key) → is_some (rows_in entries key) ≡ list_any (same_key key) (keys_in entries)
list_has [] key = refl
list_has (e ∷ entries) key = by_test (same_key key e.key) (list_has entries key)
  where
    by_test : (b : Bool) → is_some (rows_in entries key) ≡ list_any (same_key key) (keys_in entries)
        → is_some (option_map (λ (e : ListedEntry). e.row) (cond b (Some e) (entry_at entries key))) ≡ (b || list_any (same_key key) (keys_in entries))
    by_test true later = refl
    by_test false later = later

some_mapped : {A B C : Type 0} (f : A → B) (g : A → C) (o : Option A) → is_some (option_map f o) ≡ is_some (option_map g o)
some_mapped f g None = refl
some_mapped f g (Some x) = refl

-- the bytes, or the initial bytes, of the entries fit them
filled : (part : ListedEntry → List ℕ) → ((e : ListedEntry) → IsEntry e → fits e.row (length (part e)) ≡ true) → ((e : ListedEntry) → IsEntry e → AreBytes (part e))
    → (entries : List ListedEntry) → AllByRecursion IsEntry entries → IsFilled (rows_in entries) (λ key. option_map part (entry_at entries key))
filled part fit are entries all = record {
  present = λ key. some_mapped part (λ e. e.row) (entry_at entries key);
  fitting = λ key row bytes r h.
      let f = with_part entries all (λ e. e.row) key row r in
      let b : part f.0 ≡ bytes = same_Some (part f.0) bytes (sym (ap (option_map part) f.1.found) ∙ h) in
      subst (λ r. fits r (length bytes) ≡ true) f.2 (subst (λ bs. fits f.0.row (length bs) ≡ true) b (fit f.0 f.1.is_entry));
  bytes = λ key bytes h.
      let f = with_part entries all part key bytes h in
      subst AreBytes f.2 (are f.0 f.1.is_entry);
}

-- a flag that is set is one of the list
set_within : (flags : List Bool) (i : ℕ) → unwrap_or (slice_get flags i) false ≡ true → i < length flags
set_within [] i h = absurd (false≢true h)
set_within (flag ∷ flags) zero h = omega arith
set_within (flag ∷ flags) (suc i) h = let within = set_within flags i h in omega arith

dummy_range : (dummies : List Bool) → length dummies ≡ 6 → (index : ℕ) → (nat_le 2 index && unwrap_or (slice_get dummies (index - 2)) false) ≡ true → (2 ≤ index) × (index ≤ 7)
dummy_range dummies six index h =
    let from : 2 ≤ index = grind (arith, nat_tests, (and_parts (nat_le 2 index) (unwrap_or (slice_get dummies (index - 2)) false) h).0) in
    let within = set_within dummies (index - 2) (and_parts (nat_le 2 index) (unwrap_or (slice_get dummies (index - 2)) false) h).1 in
    (from, omega arith)

module _ (node : ℕ) (dummies : List Bool) (entries : List ListedEntry) (all : AllByRecursion IsEntry entries) (first : 1 ≤ node) (last : node ≤ 127) (six : length dummies ≡ 6) where
  described : IsDescription (description_in node dummies entries)
  described = record {
    first_node = first;
    last_node = last;
    finite = list_has entries;
    width = λ key row width r h. of_row entries all (λ k r. HasWidth r) (λ e is. is.width) key row r width h;
    fixed = λ key row t r h. of_row entries all HasFixedType (λ e is. is.fixed) key row r t h;
    key = of_row entries all (λ k r. IsKey k) (λ e is. is.key);
    from_1000 = of_row entries all (λ k r. 0x1000 ≤ k.index) (λ e is. is.from_1000);
    capacity = of_row entries all (λ k r. r.capacity ≤ 65535) (λ e is. is.capacity);
    limits = of_row entries all (λ k r. HasLimits r) (λ e is. is.limits);
    dummies = dummy_range dummies six;
  }

  pub lawful_list : IsDictionary (description_in node dummies entries) (contents_in entries)
  lawful_list = record {
    description = described;
    initially = filled (λ e. e.initial) (λ e is. is.initially) (λ e is. is.initial_bytes) entries all;
    filled = filled (λ e. e.bytes) (λ e is. is.fitting) (λ e is. is.bytes) entries all;
  }
