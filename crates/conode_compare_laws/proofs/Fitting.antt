-- The bytes of each entry fit it, whatever changes them: writes by SDO and by the application, errors, the data of RPDOs, and a reset to
-- what fits.
use Rattle.std.proofs.Common.{◌≡◌, ℕ, ◌-◌, ◌*◌, ◌≤◌, Bool, true, false, not, List, [], ◌∷◌, length, take, drop, Option, Some, None, refl, ap, sym, ◌∙◌, subst, arith}
use Rattle.std.specs.Prelude.{if◌then◌else◌, ◌==◌, ◌&&◌, ◌||◌, nat_le, nat_lt, is_none, is_some, option_and_then, option_map, unwrap_or}
use Rattle.std.specs.List.{cons_option, filter_map, list_all, prefix_len, range_with_len}
use Rattle.std.specs.Option.{option_map_or}
use Rattle.std.proofs.lemmas.Bool.{and_parts, eq-eqb, eqb-true, or_parts}
use Rattle.std.proofs.lemmas.Bool.Decides.{nat_tests}
use Rattle.std.proofs.lemmas.List.{length-drop, length-take, length-take-le}
use Rattle.std.proofs.lemmas.List.FromFn.{length-range_with_len}
use Rattle.std.proofs.lemmas.List.Sums.{sum_by-cons}
use Rattle.co_value.specs.declared.data_type.DataType.{DataType}
use Rattle.co_value.specs.declared.data_type.DataType.TheVariants.{Unsigned8, Unsigned32}
use Rattle.co_value.specs.declared.key.Key.{Key}
use Rattle.co_value.specs.Keys.{same_key, same_key-is}
use Rattle.co_value.specs.Numbers.{low_bytes}
use Rattle.co_value.specs.Types.{width_of}
use Rattle.co_profile.specs.FixedTypes.{fixed_type_of}
use Rattle.co_profile.specs.Keys.{error_register_key}
use Rattle.co_dict.specs.declared.area.Area.{Area}
use Rattle.co_dict.specs.declared.row.Row.{Row}
use Rattle.co_dict.specs.declared.side.Side.{Side}
use Rattle.co_dict.specs.ErrorField.{error_key, error_room, moved_bytes, moved_down, next_count, pushed}
use Rattle.co_dict.specs.MappingCounts.{counted_words}
use Rattle.co_dict.specs.MappingWords.{entry_width, mapped_bits, mapped_key, mapping_width, may_be_mapped, usable_dummy, word_width}
use Rattle.co_dict.specs.Objects.{has_object, has_sub, subs_present}
use Rattle.co_dict.specs.OwnRules.{own_refusal}
use Rattle.co_dict.specs.Refusals.{first_of, first_refusal, refused_if}
use Rattle.co_dict.specs.Rows.{Contents, Rows, fits, is_in_area, restored, takes, with_number, written}
use Rattle.co_dict.specs.Stores.{Description, IsFilled}
use Rattle.co_dict.specs.WriteRefusals.{app_refusal, is_constant, is_read_only, is_sdo_parameter, limit_refusal, size_refusal, total_refusal}
use Rattle.co_dict.proofs.PushLemmas.{sub_present}
use Rattle.co_sdo.specs.Refused.{completion_refusal}
use Rattle.co_sdo.proofs.RefusalLemmas.{first_none, not_refused, second_none}
use Rattle.co_pdo.specs.declared.mapping.Mapped.{Mapped}
use Rattle.co_pdo.specs.declared.mapping.Mapped.TheVariants.{Dummy, Entry}
use Rattle.co_pdo.specs.Images.{any_outside, contents_after, with_parts, written_in_order}
use Rattle.co_pdo.specs.Mappings.{all_there, count_of, has_pdo, is_good_count, is_there, mapped_by, mapped_words, mapping_index, mapping_of, total_of, width_in}

-- ---- an entry with its bytes

-- both are there, and the bytes fit; or neither is
abbrev pub FitsAt : Option Row → Option (List ℕ) → Type 0
FitsAt None None = Unit {0}
FitsAt None (Some bytes) = ⊥
FitsAt (Some row) None = ⊥
FitsAt (Some row) (Some bytes) = fits row (length bytes) ≡ true

pub record AreFitted (rows : Rows) (contents : Contents) : Type 0 where
  pub entry : (key : Key) → FitsAt (rows key) (contents key)

fits_by : (row : Option Row) (bytes : Option (List ℕ)) → is_some bytes ≡ is_some row → ((r : Row) (b : List ℕ) → row ≡ Some r → bytes ≡ Some b → fits r (length b) ≡ true) → FitsAt row bytes
fits_by None None same h = tt
fits_by None (Some b) same h = absurd (cc)
fits_by (Some r) None same h = absurd (cc)
fits_by (Some r) (Some b) same h = h r b refl refl

pub of_filled : (rows : Rows) (c : Contents) → IsFilled rows c → AreFitted rows c
of_filled rows c filled = record { entry = λ key. fits_by (rows key) (c key) (filled.present key) (λ r b. filled.fitting key r b) }

present_by : (row : Option Row) (bytes : Option (List ℕ)) → FitsAt row bytes → is_some bytes ≡ is_some row
present_by None None h = refl
present_by None (Some b) h = absurd h
present_by (Some r) None h = absurd h
present_by (Some r) (Some b) h = refl

pub present : (rows : Rows) (c : Contents) (key : Key) → AreFitted rows c → is_some (c key) ≡ is_some (rows key)
present rows c key h = present_by (rows key) (c key) (h.entry key)

pub fitting : (rows : Rows) (c : Contents) (key : Key) (row : Row) (bytes : List ℕ) → AreFitted rows c → rows key ≡ Some row → c key ≡ Some bytes → fits row (length bytes) ≡ true
fitting rows c key row bytes h r b = subst (λ o. FitsAt o (Some bytes)) r (subst (FitsAt (rows key)) b (h.entry key))

-- an entry takes so many bytes
takes_fits : (row : Option Row) (bytes : List ℕ) → option_map_or (λ r. fits r (length bytes)) row false ≡ true → FitsAt row (Some bytes)
takes_fits None bytes h = absurd (cc)
takes_fits (Some r) bytes h = h

pub written_fits : (rows : Rows) (c : Contents) (key : Key) (bytes : List ℕ) → takes rows key (length bytes) ≡ true → AreFitted rows c → AreFitted rows (written c key bytes)
written_fits rows c key bytes room h = record { entry = λ other. by other (same_key other key) refl }
  where
    by : (other : Key) (same : Bool) → same_key other key ≡ same → FitsAt (rows other) (if same then Some bytes else c other)
    by other true e = takes_fits (rows other) bytes (ap (λ k. takes rows k (length bytes)) (same_key-is other key e) ∙ room)
    by other false e = h.entry other

-- ---- rows that are there with a width

pub record HasWidth (o : Option Row) (w : ℕ) : Type 0 where
  pub row : Row
  pub is : o ≡ Some row
  pub width : width_of row.data_type ≡ Some w

type_width : (o : Option ℕ) (w : ℕ) → option_map_or (λ v. v == w) o false ≡ true → o ≡ Some w
type_width None w h = absurd (cc)
type_width (Some v) w h = ap Some (eqb-true v w h)

pub row_width : (o : Option Row) (w : ℕ) → option_map_or (λ row. option_map_or (λ v. v == w) (width_of row.data_type) false) o false ≡ true → HasWidth o w
row_width None w h = absurd (cc)
row_width (Some row) w h = record { row = row; is = refl; width = type_width (width_of row.data_type) w h }

pub fits_width : (row : Row) (n w : ℕ) → width_of row.data_type ≡ Some w → fits row n ≡ true → n ≡ w
fits_width row n w width h =
    let test : (n == w) ≡ true = sym (ap (λ o. option_map_or (λ v. n == v) o (nat_le n row.capacity)) width) ∙ h in
    eqb-true n w test

wide_fits : (row : Row) (w : ℕ) → width_of row.data_type ≡ Some w → fits row w ≡ true
wide_fits row w width = ap (λ o. option_map_or (λ v. w == v) o (nat_le w row.capacity)) width ∙ eq-eqb w w refl

takes_wide : (o : Option Row) (w : ℕ) → HasWidth o w → option_map_or (λ r. fits r w) o false ≡ true
takes_wide o w h = ap (λ x. option_map_or (λ r. fits r w) x false) h.is ∙ wide_fits h.row w h.width

bytes_wide_in : (row : Row) (o : Option (List ℕ)) (w : ℕ) → width_of row.data_type ≡ Some w → FitsAt (Some row) o → length (unwrap_or o []) ≡ w
bytes_wide_in row None w width h = absurd h
bytes_wide_in row (Some bytes) w width h = fits_width row (length bytes) w width h

-- its bytes are as many
pub bytes_wide : (rows : Rows) (c : Contents) (key : Key) (w : ℕ) → AreFitted rows c → HasWidth (rows key) w → length (unwrap_or (c key) []) ≡ w
bytes_wide rows c key w h r = bytes_wide_in r.row (c key) w r.width (subst (λ o. FitsAt o (c key)) r.is (h.entry key))

-- they fit another one of this width
other_fits : (a b : Row) (o : Option (List ℕ)) (w : ℕ) → width_of a.data_type ≡ Some w → width_of b.data_type ≡ Some w → FitsAt (Some a) o → FitsAt (Some b) o
other_fits a b None w x y h = h
other_fits a b (Some bytes) w x y h = ap (fits b) (fits_width a (length bytes) w x h) ∙ wide_fits b w y

same_width_fits : (a b : Option Row) (o : Option (List ℕ)) (w : ℕ) → HasWidth a w → HasWidth b w → FitsAt a o → FitsAt b o
same_width_fits a b o w x y h = subst (λ r. FitsAt r o) (sym y.is) (other_fits x.row y.row o w x.width y.width (subst (λ r. FitsAt r o) x.is h))

-- ---- what holds of the rows of a dictionary: fixed types, and widths

pub record HaveTypes (rows : Rows) : Type 0 where
  pub fixed : (key : Key) (row : Row) (t : DataType) → rows key ≡ Some row → fixed_type_of key ≡ Some t → row.data_type ≡ t
  pub width : (key : Key) (row : Row) (width : ℕ) → rows key ≡ Some row → width_of row.data_type ≡ Some width → row.capacity ≡ width

there_is : (o : Option Row) → is_some o ≡ true → (row : Row) × (o ≡ Some row)
there_is None h = absurd (cc)
there_is (Some row) h = (row, refl)

pub fixed_width : (rows : Rows) (key : Key) (t : DataType) (w : ℕ) → HaveTypes rows → fixed_type_of key ≡ Some t → width_of t ≡ Some w → is_some (rows key) ≡ true → HasWidth (rows key) w
fixed_width rows key t w types is wide there =
    let found = there_is (rows key) there in
    record { row = found.0; is = found.1; width = ap width_of (types.fixed key found.0 t found.1 is) ∙ wide }

-- ---- errors

pub register_fits : (rows : Rows) (c : Contents) (n : ℕ) → HaveTypes rows → AreFitted rows c → AreFitted rows (with_number rows error_register_key n c)
register_fits rows c n types h = by (is_some (rows error_register_key)) refl
  where
    by : (b : Bool) → is_some (rows error_register_key) ≡ b → AreFitted rows (if b then written c error_register_key (low_bytes 1 n) else c)
    by true there = written_fits rows c error_register_key (low_bytes 1 n) (takes_wide (rows error_register_key) 1 (fixed_width rows error_register_key Unsigned8 1 types refl refl there)) h
    by false there = h

pub error_type : (sub : ℕ) → 1 ≤ sub → sub ≤ 254 → fixed_type_of (error_key sub) ≡ Some Unsigned32
error_type sub low high = grind (arith, nat_tests)

pub no_more : (rows : Rows) (index most : ℕ) → subs_present rows index most ≤ most
unfolding subs_present
no_more rows index most =
    let taken = length-take (prefix_len (has_sub rows index) (range_with_len 1 most)) (range_with_len 1 most) in
    let all = length-range_with_len 1 most in
    omega (arith, taken, all)

room_low : (there : Bool) (present : ℕ) → nat_lt 0 (if there then present else 0) ≡ true → (there ≡ true) × ((if there then present else 0) ≤ present)
room_low true present h = (refl, omega arith)
room_low false present h = absurd (cc)

pub moved_key : (key : Key) → (key.index == 0x1003) ≡ true → error_key key.sub ≡ key
moved_key key same =
    let at : ℕ → Key = λ index. record { index = index; sub = key.sub } in
    ap at (sym (eqb-true key.index 0x1003 same))

module _ (rows : Rows) (types : HaveTypes rows) where
  error_width : (sub : ℕ) → 1 ≤ sub → sub ≤ subs_present rows 0x1003 254 → HasWidth (rows (error_key sub)) 4
  error_width sub low high =
      let few = no_more rows 0x1003 254 in
      fixed_width rows (error_key sub) Unsigned32 4 types (error_type sub low (omega (arith, high, few))) refl (sub_present rows 0x1003 254 sub low high)

  moved_at : (c : Contents) (first : List ℕ) (sub : ℕ) → length first ≡ 4 → 1 ≤ sub → sub ≤ subs_present rows 0x1003 254 → AreFitted rows c → FitsAt (rows (error_key sub)) (moved_bytes c first sub)
  moved_at c first sub four low high h = by (sub == 1) refl
    where
      by : (b : Bool) → (sub == 1) ≡ b → FitsAt (rows (error_key sub)) (if b then Some first else c (error_key (sub - 1)))
      by true e = takes_fits (rows (error_key sub)) first (ap (λ n. takes rows (error_key sub) n) four ∙ takes_wide (rows (error_key sub)) 4 (error_width sub low high))
      by false e =
          let above : 1 ≤ sub - 1 = grind (arith, nat_tests) in
          same_width_fits (rows (error_key (sub - 1))) (rows (error_key sub)) (c (error_key (sub - 1))) 4 (error_width (sub - 1) above (omega (arith, high))) (error_width sub low high) (h.entry (error_key (sub - 1)))

  moved_fits : (c : Contents) (first : List ℕ) (last : ℕ) → length first ≡ 4 → last ≤ subs_present rows 0x1003 254 → AreFitted rows c → AreFitted rows (moved_down c first last)
  moved_fits c first last four most h = record { entry = λ key. by key ((key.index == 0x1003) && nat_le 1 key.sub && nat_le key.sub last) refl }
    where
      by : (key : Key) (b : Bool) → ((key.index == 0x1003) && nat_le 1 key.sub && nat_le key.sub last) ≡ b → FitsAt (rows key) (if b then moved_bytes c first key.sub else c key)
      by key false e = h.entry key
      by key true e =
          let both = and_parts ((key.index == 0x1003) && nat_le 1 key.sub) (nat_le key.sub last) e in
          let index = and_parts (key.index == 0x1003) (nat_le 1 key.sub) both.0 in
          let low : 1 ≤ key.sub = grind (arith, nat_tests, index.1) in
          let high : key.sub ≤ last = grind (arith, nat_tests, both.1) in
          subst (λ k. FitsAt (rows k) (moved_bytes c first key.sub)) (moved_key key index.0) (moved_at c first key.sub four low (omega (arith, high, most)) h)

  pub pushed_fits : (c : Contents) (code : ℕ) → AreFitted rows c → AreFitted rows (pushed rows code c)
  pushed_fits c code h = by (nat_lt 0 (error_room rows)) refl
    where
      by : (b : Bool) → nat_lt 0 (error_room rows) ≡ b
          → AreFitted rows (if b then written (moved_down c (low_bytes 4 code) (error_room rows)) (error_key 0) (low_bytes 1 (next_count c (error_room rows))) else c)
      by false e = h
      by true e =
          let room = room_low (has_sub rows 0x1003 0) (subs_present rows 0x1003 254) e in
          written_fits rows (moved_down c (low_bytes 4 code) (error_room rows)) (error_key 0) (low_bytes 1 (next_count c (error_room rows)))
          (takes_wide (rows (error_key 0)) 1 (fixed_width rows (error_key 0) Unsigned8 1 types refl refl room.0)) (moved_fits c (low_bytes 4 code) (error_room rows) refl room.1 h)

-- ---- what is mapped is there

there_of_row : (side : Side) (index : ℕ) (o : Option Row) (w : ℕ) → option_and_then (λ row. if may_be_mapped side index row then width_of row.data_type else None) o ≡ Some w
    → option_map_or (λ row. option_map_or (λ v. v == w) (width_of row.data_type) false) o false ≡ true
there_of_row side index None w e = absurd (cc)
there_of_row side index (Some row) w e = by (may_be_mapped side index row) e
  where
    by : (b : Bool) → (if b then width_of row.data_type else None) ≡ Some w → option_map_or (λ v. v == w) (width_of row.data_type) false ≡ true
    by true h = ap (λ o. option_map_or (λ v. v == w) o false) h ∙ eq-eqb w w refl
    by false h = absurd (cc)

same_width : (bits w : ℕ) (o : Option ℕ) → option_and_then (λ width. if bits == 8 * width then Some width else None) o ≡ Some w → o ≡ Some w
same_width bits w None e = absurd (cc)
same_width bits w (Some v) e = by (bits == 8 * v) e
  where
    by : (b : Bool) → (if b then Some v else None) ≡ Some w → Some v ≡ Some w
    by true h = h
    by false h = absurd (cc)

-- what a mapping has passes a test that each dummy entry passes, and each entry that may be mapped
module _ (side : Side) (d : Description) (test : Mapped → Bool) (dummy : (w : ℕ) → test (Dummy w) ≡ true) (entry : (key : Key) (w : ℕ) → entry_width side d.rows key ≡ Some w → test (Entry key w) ≡ true) where
  word_passes : (word : ℕ) → option_map_or test (mapped_by side d word) true ≡ true
  word_passes word = by (word_width side d word) refl (is_some (usable_dummy side d.dummies (mapped_key word).index)) refl
    where
      by : (o : Option ℕ) → word_width side d word ≡ o → (b : Bool) → is_some (usable_dummy side d.dummies (mapped_key word).index) ≡ b
          → option_map_or test (option_map (λ width. if b then Dummy width else Entry (mapped_key word) width) o) true ≡ true
      by None e b h = refl
      by (Some w) e true h = dummy w
      by (Some w) e false h =
          let mapping : mapping_width side d (mapped_key word) ≡ Some w = same_width (mapped_bits word) w (mapping_width side d (mapped_key word)) e in
          let own : mapping_width side d (mapped_key word) ≡ entry_width side d.rows (mapped_key word) =
          ap (λ t. if t then (if (mapped_key word).sub == 0 then usable_dummy side d.dummies (mapped_key word).index else None) else entry_width side d.rows (mapped_key word)) h in
          entry (mapped_key word) w (sym own ∙ mapping)

  words_pass : (words : List ℕ) → list_all test (filter_map (mapped_by side d) words) ≡ true
  words_pass [] = refl
  words_pass (word ∷ words) = by (mapped_by side d word) (word_passes word) (words_pass words)
    where
      by : (o : Option Mapped) → option_map_or test o true ≡ true → list_all test (filter_map (mapped_by side d) words) ≡ true → list_all test (cons_option o (filter_map (mapped_by side d) words)) ≡ true
      by None h more = more
      by (Some m) h more = ap (λ b. b && list_all test (filter_map (mapped_by side d) words)) h ∙ more

  pub mapping_passes : (c : Contents) (n : ℕ) → list_all test (mapping_of side d c n) ≡ true
  mapping_passes c n = by (has_pdo side d.rows n && is_good_count side d c n)
    where
      by : (b : Bool) → list_all test (if b then mapped_words side d c (mapping_index side n) (count_of side c n) else []) ≡ true
      by true = words_pass (counted_words c (mapping_index side n) (count_of side c n))
      by false = refl

pub mapping_there : (side : Side) (d : Description) (c : Contents) (n : ℕ) → all_there d.rows (mapping_of side d c n) ≡ true
mapping_there side d c n = mapping_passes side d (is_there d.rows) (λ w. refl) (λ key w is. there_of_row side key.index (d.rows key) w is) c n

-- ---- data of RPDOs

in_order_fits : (rows : Rows) (mapping : List Mapped) (bytes : List ℕ) (c : Contents) → all_there rows mapping ≡ true → total_of mapping ≤ length bytes → AreFitted rows c → AreFitted rows (written_in_order c (with_parts mapping bytes))
in_order_fits rows [] bytes c there long h = h
in_order_fits rows (Dummy w ∷ mapping) bytes c there long h =
    let all = sum_by-cons width_in (Dummy w) mapping in
    let rest = length-drop w bytes in
    in_order_fits rows mapping (drop w bytes) c there (omega (arith, all, rest, long)) h
in_order_fits rows (Entry key w ∷ mapping) bytes c there long h =
    let all = sum_by-cons width_in (Entry key w) mapping in
    let rest = length-drop w bytes in
    let both = and_parts (is_there rows (Entry key w)) (all_there rows mapping) there in
    let size : length (take w bytes) ≡ w = length-take-le w bytes (omega (arith, all, long)) in
    let room : takes rows key (length (take w bytes)) ≡ true = ap (λ n. takes rows key n) size ∙ takes_wide (rows key) w (row_width (rows key) w both.0) in
    in_order_fits rows mapping (drop w bytes) (written c key (take w bytes)) both.1 (omega (arith, all, rest, long)) (written_fits rows c key (take w bytes) room h)

pub data_fits : (rows : Rows) (mapping : List Mapped) (bytes : List ℕ) (c : Contents) → all_there rows mapping ≡ true → AreFitted rows c → AreFitted rows (contents_after rows mapping bytes c)
data_fits rows mapping bytes c there h = by (nat_lt (length bytes) (total_of mapping) || any_outside rows mapping bytes) refl
  where
    by : (b : Bool) → (nat_lt (length bytes) (total_of mapping) || any_outside rows mapping bytes) ≡ b → AreFitted rows (if b then c else written_in_order c (with_parts mapping bytes))
    by true e = h
    by false e =
        let short = or_parts (nat_lt (length bytes) (total_of mapping)) (any_outside rows mapping bytes) e in
        let long : total_of mapping ≤ length bytes = grind (arith, nat_tests, short.0) in
        in_order_fits rows mapping bytes c there long h

-- ---- a reset

pub reset_fits : (rows : Rows) (area : Area) (initial c : Contents) → AreFitted rows initial → AreFitted rows c → AreFitted rows (restored area initial c)
reset_fits rows area initial c begins h = record { entry = λ key. by key (is_in_area area key) }
  where
    by : (key : Key) (b : Bool) → FitsAt (rows key) (if b then initial key else c key)
    by key true = begins.entry key
    by key false = h.entry key

-- ---- what isn't refused fits

fits_row : (row : Row) (size : ℕ) (width : Option ℕ) → ((w : ℕ) → width ≡ Some w → row.capacity ≡ w) → nat_lt row.capacity size ≡ false → nat_lt size (unwrap_or width 0) ≡ false
    → option_map_or (λ w. size == w) width (nat_le size row.capacity) ≡ true
fits_row row size None is above below = grind (arith, nat_tests)
fits_row row size (Some w) is above below = let e : row.capacity ≡ w = is w refl in grind (arith, nat_tests)

sized : (r : Row) (size : ℕ) (rest : List (Option ℕ)) → ((w : ℕ) → width_of r.data_type ≡ Some w → r.capacity ≡ w) → first_refusal (size_refusal r size ∷ rest) ≡ None → fits r size ≡ true
sized r size rest is h =
    let fine : size_refusal r size ≡ None = first_none (size_refusal r size) (first_refusal rest) h in
    let above : nat_lt r.capacity size ≡ false = not_refused _ _ (first_none _ _ fine) in
    let below : nat_lt size (unwrap_or (width_of r.data_type) 0) ≡ false = not_refused _ 0x06070013 (first_none _ _ (second_none (refused_if (nat_lt r.capacity size) 0x06070012) _ fine)) in
    fits_row r size (width_of r.data_type) is above below

sdo_by : (row : Option Row) (found : Bool) (indicated : Option ℕ) (size : ℕ) (a b : Row → Option ℕ) (rest : Row → List (Option ℕ)) (c1 c2 : ℕ)
    → ((r : Row) (w : ℕ) → row ≡ Some r → width_of r.data_type ≡ Some w → r.capacity ≡ w)
    → first_of (first_refusal (refused_if (not found) c1 ∷ refused_if (is_none row) c2 ∷ []))
    (option_and_then (λ r. first_refusal (a r ∷ b r ∷ option_and_then (λ n. total_refusal n size) indicated ∷ first_refusal (size_refusal r size ∷ rest r) ∷ [])) row) ≡ None
    → option_map_or (λ r. fits r size) row false ≡ true
sdo_by None true indicated size a b rest c1 c2 is h = absurd (cc)
sdo_by None false indicated size a b rest c1 c2 is h = absurd (cc)
sdo_by (Some r) false indicated size a b rest c1 c2 is h = absurd (cc)
sdo_by (Some r) true indicated size a b rest c1 c2 is h =
    let later = second_none (b r) _ (second_none (a r) _ h) in
    sized r size (rest r) (λ w. is r w refl) (first_none (first_refusal (size_refusal r size ∷ rest r)) None (second_none (option_and_then (λ n. total_refusal n size) indicated) _ later))

pub sdo_takes : (d : Description) (c : Contents) (key : Key) (indicated : Option ℕ) (bytes : List ℕ) → HaveTypes d.rows → completion_refusal d c key indicated bytes ≡ None → takes d.rows key (length bytes) ≡ true
unfolding completion_refusal
sdo_takes d c key indicated bytes types h =
    sdo_by (d.rows key) (has_object d.rows key.index) indicated (length bytes) (λ row. refused_if (is_read_only row.access || is_sdo_parameter key.index) 0x06010002) (λ row. option_and_then (size_refusal row) indicated)
    (λ row. limit_refusal row bytes ∷ own_refusal d c key bytes ∷ []) 0x06020000 0x06090011 (λ r w. types.width key r w) h

app_by : (row : Option Row) (found : Bool) (size : ℕ) (a : Row → Option ℕ) (rest : Row → List (Option ℕ)) (c1 c2 : ℕ)
    → ((r : Row) (w : ℕ) → row ≡ Some r → width_of r.data_type ≡ Some w → r.capacity ≡ w)
    → first_of (first_refusal (refused_if (not found) c1 ∷ refused_if (is_none row) c2 ∷ [])) (option_and_then (λ r. first_refusal (a r ∷ first_refusal (size_refusal r size ∷ rest r) ∷ [])) row) ≡ None
    → option_map_or (λ r. fits r size) row false ≡ true
app_by None true size a rest c1 c2 is h = absurd (cc)
app_by None false size a rest c1 c2 is h = absurd (cc)
app_by (Some r) false size a rest c1 c2 is h = absurd (cc)
app_by (Some r) true size a rest c1 c2 is h = sized r size (rest r) (λ w. is r w refl) (first_none (first_refusal (size_refusal r size ∷ rest r)) None (second_none (a r) _ h))

pub app_takes : (d : Description) (c : Contents) (key : Key) (bytes : List ℕ) → HaveTypes d.rows → app_refusal d c key bytes ≡ None → takes d.rows key (length bytes) ≡ true
app_takes d c key bytes types h =
    app_by (d.rows key) (has_object d.rows key.index) (length bytes) (λ row. refused_if (is_constant row.access || is_sdo_parameter key.index) 0x06010002)
    (λ row. limit_refusal row bytes ∷ own_refusal d c key bytes ∷ []) 0x06020000 0x06090011 (λ r w. types.width key r w) h
