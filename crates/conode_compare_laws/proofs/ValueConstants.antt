-- Of a device that is built from a data sheet each value that is compared with the sheet is the sheet's: the number of an entry that is held,
-- and the text of one that is const.
use Rattle.std.proofs.Common.{◌≡◌, ℕ, ◌+◌, ◌-◌, ◌%◌, ◌^◌, ◌<◌, ◌≤◌, Bool, true, false, not, List, [], ◌∷◌, map, length, take, Option, Some, None, refl, sym, ap, ◌∙◌, ◌⊎◌, inl, inr, subst, lit<, arith, pos}
use Rattle.std.specs.Prelude.{if◌then◌else◌, ◌==◌, ◌&&◌, ◌||◌, ◌≤ℤ◌, nat_le, is_some, bytes_eq, unwrap_or, IfSome}
use Rattle.std.specs.List.{All}
use Rattle.std.specs.Option.{option_map_or}
use Rattle.std.proofs.lemmas.Bool.{and_parts, eqb-true, false≢true, or_parts}
use Rattle.std.proofs.lemmas.Bool.Decides.{nat_tests}
use Rattle.std.proofs.lemmas.Int.{ints}
use Rattle.std.proofs.lemmas.List.{get_or_past, take_all}
use Rattle.std.proofs.lemmas.Slice.Eq.{bytes_eq-Decides}
use Rattle.co_value.specs.declared.data_type.DataType.{DataType}
use Rattle.co_value.specs.declared.data_type.DataType.TheVariants.{Boolean, Integer8, Integer16, Integer24, Integer32, Integer40, Integer48, Integer56, Integer64, Unsigned8, Unsigned16, Unsigned24, Unsigned32, Unsigned40, Unsigned48, Unsigned56, Unsigned64, VisibleString, OctetString, Domain}
use Rattle.co_value.specs.declared.key.Key.{Key}
use Rattle.co_value.specs.Keys.{same_key, same_key-is}
use Rattle.co_value.specs.Numbers.{bytes_of, low_bytes, unsigned_of}
use Rattle.co_value.specs.Types.{InRange, width_of}
use Rattle.co_value.proofs.Bytes.{unsigned_of-low_bytes}
use Rattle.co_profile.specs.FixedTypes.{fixed_type_of}
use Rattle.co_profile.specs.Keys.{error_register_key}
use Rattle.co_profile.specs.declared.access.Access.{Access}
use Rattle.co_profile.specs.declared.access.Access.TheVariants.{Constant}
use Rattle.co_dict.specs.ErrorField.{error_key}
use Rattle.co_dict.specs.Rows.{Contents}
use Rattle.co_dict.specs.SdoChannels.{answer_key, request_key}
use Rattle.co_dict.specs.Stores.{IsDictionary}
use Rattle.co_dict.specs.WriteRefusals as dictionary
use Rattle.co_dict.specs.declared.row.Row.{Row as DictionaryRow}
use Rattle.co_dict_build.specs.Built.{Plan, built_contents, built_description, entry_of}
use Rattle.co_dict_build.specs.BuildFaults.{value_out_of_range}
use Rattle.co_dict_build.specs.Capacities.{Limits, default_bytes}
use Rattle.co_dict_build.specs.InitialBytes.{initial_at, initial_number, initial_of}
use Rattle.co_dict_build.specs.ListedEntries.{contents_in}
use Rattle.co_dict_build.proofs.Readiness.{ready}
use Rattle.co_sheet.specs.Content.{Row}
use Rattle.co_sheet.specs.Limits.{Default, absent, is_numeric, node_id, number, pairs, text}
use Rattle.co_sheet.specs.SheetLaws.{IsSheetRow}
use Rattle.co_sheet_changes.specs.Names.{row_at}
use Rattle.conode_explain_transfers.specs.declared.ended.Ended.{Ended}
use Rattle.conode_explain_transfers.specs.declared.kinds.Direction.TheVariants.{Upload}
use Rattle.conode_compare_pdos.specs.SheetNumbers.{number_of}
use Rattle.conode_compare_values.specs.declared.mismatch.Mismatch.{Mismatch}
use Rattle.conode_compare_values.specs.declared.mismatch.Mismatch.TheVariants.{AboveLimit, BelowLimit, BeyondRoom, ConstText, ReadRefused, ReadServed, ValueConst, Written}
use Rattle.conode_compare_values.specs.SheetValues.{begins_with, byte_of, constant_mismatch, held_number, is_boolean, is_comparable, is_constant, is_held, is_held_text, is_its_own, is_other_boolean, is_other_number, is_other_text, is_other_value, is_version, is_visible, profile_in, shown_number, text_mismatch, text_with, value_by, value_mismatch}
use Rattle.conode_compare_nmt.specs.declared.finding.Finding.{Finding}
use Rattle.conode_compare_nmt.specs.declared.finding.Finding.TheVariants.{Value}
use Rattle.conode_compare_nmt.specs.declared.limits.Subject.{Subject}
use Rattle.conode_compare_rules.specs.Answers.{is_exact, value_finding}
use Rattle.conode_compare_laws.specs.IdentityEntries.{is_identity}
use Rattle.conode_compare_laws.specs.ValueFindings.{of_constants}
use Rattle.conode_compare_laws.proofs.ConstantEntries as entries
use Rattle.conode_compare_laws.proofs.Fitting.{error_type, moved_key}
use Rattle.conode_compare_laws.proofs.BuiltBytes.{is_error, is_fixed}
use Rattle.conode_compare_laws.proofs.ReadAllowed.{Any}
use Rattle.conode_compare_laws.proofs.SheetNumbers.{IsFound, default_is, row_found, same_back}
use Rattle.conode_compare_laws.proofs.ValueAllowed.{row_built}
use Rattle.conode_compare_laws.proofs.ValueLengths.{IsNumber, had_of, number_of as number_shown}
use Rattle.conode_compare_laws.proofs.ValueMismatches.{Passes, is_refusal, is_served, is_write, known_none, number_none, uploads_none}
use Rattle.conode_compare_laws.proofs.ValueOnly.{is_value}
use Rattle.conode_compare_laws.proofs.ValueShown.{IsShown}
use Rattle.conode_compare_laws.proofs.ValueUploads.{HadBytes, Picks}
use Rattle.conode_compare_laws.proofs.ValueWrites.{shown_of}

-- ---- the number that an entry begins with

small : (w n top : ℕ) → pos n ≤ℤ pos top → top < 256 ^ w → unsigned_of (low_bytes w n) ≡ n
small w n top high below = unsigned_of-low_bytes w n (omega (arith, ints))

-- of each numeric type a number of the sheet that isn't below 0 is that of its bytes
number_back : (t : DataType) (n : ℕ) → InRange t (pos n) → unsigned_of (bytes_of t (pos n)) ≡ n
number_back Boolean n range = small 1 n 1 range.1 (lit< tt)
number_back Integer8 n range = small 1 n (2 ^ 7 - 1) range.1 (lit< tt)
number_back Integer16 n range = small 2 n (2 ^ 15 - 1) range.1 (lit< tt)
number_back Integer24 n range = small 3 n (2 ^ 23 - 1) range.1 (lit< tt)
number_back Integer32 n range = small 4 n (2 ^ 31 - 1) range.1 (lit< tt)
number_back Integer40 n range = small 5 n (2 ^ 39 - 1) range.1 (lit< tt)
number_back Integer48 n range = small 6 n (2 ^ 47 - 1) range.1 (lit< tt)
number_back Integer56 n range = small 7 n (2 ^ 55 - 1) range.1 (lit< tt)
number_back Integer64 n range = small 8 n (2 ^ 63 - 1) range.1 (lit< tt)
number_back Unsigned8 n range = small 1 n (2 ^ 8 - 1) range.1 (lit< tt)
number_back Unsigned16 n range = small 2 n (2 ^ 16 - 1) range.1 (lit< tt)
number_back Unsigned24 n range = small 3 n (2 ^ 24 - 1) range.1 (lit< tt)
number_back Unsigned32 n range = small 4 n (2 ^ 32 - 1) range.1 (lit< tt)
number_back Unsigned40 n range = small 5 n (2 ^ 40 - 1) range.1 (lit< tt)
number_back Unsigned48 n range = small 6 n (2 ^ 48 - 1) range.1 (lit< tt)
number_back Unsigned56 n range = small 7 n (2 ^ 56 - 1) range.1 (lit< tt)
number_back Unsigned64 n range = small 8 n (2 ^ 64 - 1) range.1 (lit< tt)
number_back VisibleString n range = absurd range.0
number_back OctetString n range = absurd range.0
number_back Domain n range = absurd range.0

numeric_initial : (node : ℕ) (row : Row) (t : DataType) → is_numeric t ≡ true → initial_at node row t ≡ bytes_of t (initial_number node row)
numeric_initial node row VisibleString h = absurd (false≢true h)
numeric_initial node row OctetString h = absurd (false≢true h)
numeric_initial node row Domain h = absurd (false≢true h)
numeric_initial node row t h = refl

-- an entry whose number is held is none of the first SDO channel
outside : (index sub : ℕ) (constant b : Bool) → (index == 0x1200) ≡ b
    → (if index == 0x1018 then (sub == 1) || ((sub == 2) || ((sub == 0) && constant)) else (index == 0x1000) || (constant && not (is_its_own index))) ≡ true → b ≡ false
outside index sub constant false is h = refl
outside index sub constant true is h =
    absurd (false≢true (sym (none constant) ∙ subst (λ i. (if i == 0x1018 then (sub == 1) || ((sub == 2) || ((sub == 0) && constant)) else (i == 0x1000) || (constant && not (is_its_own i))) ≡ true) (eqb-true index 0x1200 is) h))
  where
    none : (c : Bool) → (c && false) ≡ false
    none true = refl
    none false = refl

module _ (node : ℕ) (key : Key) (row : Row) (last : node ≤ 127) (found : IsFound node key row) where
  initial_held : (n : ℕ) → is_held row ≡ true → number_of node row.default ≡ Some n → initial_number node row ≡ pos n
  initial_held n held is =
      let off : (row.key.index == 0x1200) ≡ false = outside row.key.index row.key.sub (is_constant row.access) (row.key.index == 0x1200) refl held in
      let asks : same_key row.key (request_key 0) ≡ false = ap (λ b. b && (row.key.sub == 1)) off in
      let answers : same_key row.key (answer_key 0) ≡ false = ap (λ b. b && (row.key.sub == 2)) off in
      rw (asks, answers) (default_is node row row.default n is)

  number_held : (n : ℕ) → is_numeric row.data_type ≡ true → is_held row ≡ true → number_of node row.default ≡ Some n → unsigned_of (initial_of node row) ≡ n
  number_held n numeric held is =
      let initial : initial_number node row ≡ pos n = initial_held n held is in
      let range : InRange row.data_type (initial_number node row) = (ready node row last found.sheet found.inside).number numeric in
      ap unsigned_of (numeric_initial node row row.data_type numeric ∙ ap (bytes_of row.data_type) initial)
      ∙ number_back row.data_type n (subst (InRange row.data_type) initial range)

-- ---- the bytes of an entry of the sheet

bytes_built : (node : ℕ) (limits : Limits) (rows : List Row) (key : Key) (row : Row) → row_at rows key ≡ Some row → contents_in (map (entry_of node limits) rows) key ≡ Some (initial_of node row)
bytes_built node limits [] key row h = absurd (cc)
bytes_built node limits (r ∷ rows) key row h = by (same_key r.key key) refl h (bytes_built node limits rows key row)
  where
    by : (b : Bool) → same_key r.key key ≡ b → (if b then Some r else row_at rows key) ≡ Some row
        → (row_at rows key ≡ Some row → contents_in (map (entry_of node limits) rows) key ≡ Some (initial_of node row))
        → contents_in (map (entry_of node limits) (r ∷ rows)) key ≡ Some (initial_of node row)
    by true is g later = rw (same_back r.key key true is) (let same : r ≡ row = cc in ap (λ x. Some (initial_of node x)) same)
    by false is g later = rw (same_back r.key key false is) (later g)

-- the entries that are compared have the bytes with which the device was built
pub record HoldsSheet (plan : Plan) (contents : Contents) : Type 0 where
  pub lawful : IsDictionary (built_description plan) contents
  pub fixed : (key : Key) → is_fixed (built_description plan).rows key ≡ true → contents key ≡ built_contents plan key
  pub identity : (key : Key) → is_identity key ≡ true → contents key ≡ built_contents plan key

-- ---- which they are

is_off : (b : Bool) → not b ≡ true → b ≡ false
is_off false h = refl
is_off true h = absurd (false≢true h)

-- what isn't the device's own is no error
own_error : (key : Key) → is_its_own key.index ≡ false → is_error key ≡ false
own_error key off =
    let first = or_parts (key.index == 0x1001) ((key.index == 0x1003) || (key.index == 0x1200)) off in
    let second = or_parts (key.index == 0x1003) (key.index == 0x1200) first.1 in
    let register : (key.index == 0x1001) ≡ false = first.0 in
    let errors : (key.index == 0x1003) ≡ false = second.0 in
    rw (register, errors) refl

other_error : (key : Key) → (key.index == 0x1018) ≡ true → is_error key ≡ false
other_error key on =
    let register : (key.index == 0x1001) ≡ false = grind (arith, nat_tests) in
    let errors : (key.index == 0x1003) ≡ false = grind (arith, nat_tests) in
    rw (register, errors) refl

-- an entry whose number is held is of the identity, or const and no error
held_either : (row : Row) → is_held row ≡ true → (is_identity row.key ≡ true) ⊎ ((is_constant row.access ≡ true) × (is_error row.key ≡ false))
held_either row h = by (row.key.index == 0x1018) refl (row.key.sub == 1) (row.key.sub == 2) (row.key.index == 0x1000) refl refl refl h
  where
    by : (a : Bool) → (row.key.index == 0x1018) ≡ a → (b c d : Bool) → (row.key.sub == 1) ≡ b → (row.key.sub == 2) ≡ c → (row.key.index == 0x1000) ≡ d
        → (if a then b || (c || ((row.key.sub == 0) && is_constant row.access)) else d || (is_constant row.access && not (is_its_own row.key.index))) ≡ true
        → (is_identity row.key ≡ true) ⊎ ((is_constant row.access ≡ true) × (is_error row.key ≡ false))
    by true is true c d x y z g = inl (let device : (row.key.index == 0x1000) ≡ false = grind (arith, nat_tests) in rw (device, is, x) refl)
    by true is false true d x y z g = inl (let device : (row.key.index == 0x1000) ≡ false = grind (arith, nat_tests) in rw (device, is, x, y) refl)
    by true is false false d x y z g = inr ((and_parts (row.key.sub == 0) (is_constant row.access) g).1, other_error row.key is)
    by false is b c true x y z g = inl (rw z refl)
    by false is b c false x y z g =
        let both = and_parts (is_constant row.access) (not (is_its_own row.key.index)) g in
        inr (both.0, own_error row.key (is_off (is_its_own row.key.index) both.1))

same_access : (access : Access) → is_constant access ≡ true → dictionary.is_constant access ≡ true
same_access Constant h = refl
same_access _ h = absurd (false≢true h)

fixed_of : (plan : Plan) (row : Row) (key : Key) → row_at plan.rows key ≡ Some row → is_constant row.access ≡ true → is_error key ≡ false → is_fixed (built_description plan).rows key ≡ true
fixed_of plan row key is on off =
    let held : entries.is_held (built_description plan).rows key ≡ true =
    ap (λ (o : Option DictionaryRow). option_map_or (λ (r : DictionaryRow). dictionary.is_constant r.access) o true) (row_built plan.node plan.limits plan.rows key row is) ∙ same_access row.access on in
    ap (λ b. not b && entries.is_held (built_description plan).rows key) off ∙ held

-- its bytes
begun_bytes : (plan : Plan) (row : Row) (key : Key) (contents : Contents) (got : List ℕ) → row_at plan.rows key ≡ Some row → contents key ≡ built_contents plan key → got ≡ unwrap_or (contents key) [] → got ≡ initial_of plan.node row
begun_bytes plan row key contents got is same had = had ∙ ap (λ (o : Option (List ℕ)). unwrap_or o []) (same ∙ bytes_built plan.node plan.limits plan.rows key row is)

held_bytes : (plan : Plan) (row : Row) (key : Key) (contents : Contents) → row_at plan.rows key ≡ Some row → row.key ≡ key → HoldsSheet plan contents → is_held row ≡ true → contents key ≡ built_contents plan key
held_bytes plan row key contents is at h held = elim (held_either row held) [
  | inl on ↦ h.identity key (ap is_identity (sym at) ∙ on)
  | inr on ↦ h.fixed key (fixed_of plan row key is on.0 (ap is_error (sym at) ∙ on.1))
]

-- ---- numbers

-- no number is another than itself
other_boolean : (n : ℕ) (b : Bool) → (n == 0) ≡ b → (if b then n % 2 == 1 else n == 0) ≡ false
other_boolean n true is = ap (λ x. x % 2 == 1) (eqb-true n 0 is)
other_boolean n false is = is

self : (n : ℕ) → (n == n) ≡ true
self n = grind (arith, nat_tests)

same_number : (t : DataType) (n : ℕ) → is_other_number t n n ≡ false
same_number t n = by (is_boolean t)
  where
    by : (b : Bool) → (if b then is_other_boolean n n else not (n == n)) ≡ false
    by true = other_boolean n (n == 0) refl
    by false = ap not (self n)

same_value : (row : Row) (n : ℕ) → is_other_value row n n ≡ false
same_value row n = by (row.key.index == 0x1000)
  where
    by : (b : Bool) → (if b then not (profile_in n == profile_in n) else is_other_number row.data_type n n) ≡ false
    by true = ap not (self (profile_in n))
    by false = same_number row.data_type n

constant_none : (row : Row) (shown held : Option ℕ) → ((n : ℕ) → held ≡ Some n → shown ≡ Some n) → constant_mismatch row shown held ≡ None
constant_none row None held h = refl
constant_none row (Some s) None h = refl
constant_none row (Some s) (Some n) h =
    let some : Some s ≡ Some n = h n refl in
    let same : s ≡ n = cc in
    ap (λ b. if b then Some (ValueConst row.key s n) else None) (ap (λ x. is_other_value row x n) same ∙ same_value row n)

shown_whole : (w : ℕ) (bytes : List ℕ) → w ≤ 8 → length bytes ≡ w → shown_number w bytes ≡ Some (unsigned_of bytes)
shown_whole w bytes few long =
    let a : nat_le w 8 ≡ true = grind (arith, nat_tests) in
    let b : nat_le w (length bytes) ≡ true = grind (arith, nat_tests) in
    let c : nat_le (length bytes) (w + 6) ≡ true = grind (arith, nat_tests) in
    rw (a, b, c) (ap (λ x. Some (unsigned_of x)) (take_all w bytes (omega arith)))

held_some : (node : ℕ) (row : Row) (n : ℕ) → held_number node row ≡ Some n → (is_held row ≡ true) × (number_of node row.default ≡ Some n)
held_some node row n h = by (is_held row) h
  where
    by : (b : Bool) → (if b then number_of node row.default else None) ≡ Some n → (b ≡ true) × (number_of node row.default ≡ Some n)
    by true g = (refl, g)
    by false g = absurd (cc)

-- ---- texts

-- a text that is compared is no other one than itself
same_text : (exact : Bool) (bytes : List ℕ) → is_other_text exact bytes bytes ≡ false
same_text exact bytes =
    let long : nat_le (length bytes) (length bytes) ≡ true = grind (arith, nat_tests) in
    let whole : take (length bytes) bytes ≡ bytes = take_all (length bytes) bytes (omega arith) in
    let same : bytes_eq (take (length bytes) bytes) bytes ≡ true = ap (λ x. bytes_eq x bytes) whole ∙ (bytes_eq-Decides bytes bytes).1 refl in
    let begins : begins_with bytes bytes ≡ true = ap (λ b. b && bytes_eq (take (length bytes) bytes) bytes) long ∙ same in
    let past : byte_of bytes (length bytes) ≡ 0 = get_or_past bytes (length bytes) 0 (omega arith) in
    let ends : is_visible (byte_of bytes (length bytes)) ≡ false = ap is_visible past in
    ap (λ b. not (byte_of bytes 0 == 0x20) && (not b || (exact && is_visible (byte_of bytes (length bytes))))) begins
    ∙ ap (λ b. not (byte_of bytes 0 == 0x20) && (exact && b)) ends ∙ none (not (byte_of bytes 0 == 0x20)) exact
  where
    none : (x y : Bool) → (x && (y && false)) ≡ false
    none true true = refl
    none true false = refl
    none false y = refl

text_none : (row : Row) (exact : Bool) (default : Default) (shown : List ℕ) → ((bytes : List ℕ) → default ≡ text bytes → is_held_text row ≡ true → is_comparable bytes ≡ true → shown ≡ bytes) → text_with row exact default shown ≡ None
text_none row exact absent shown h = refl
text_none row exact (number n) shown h = refl
text_none row exact (node_id n) shown h = refl
text_none row exact (pairs digits) shown h = refl
text_none row exact (text bytes) shown h = by (is_held_text row) refl (is_comparable bytes) refl
  where
    by : (a : Bool) → is_held_text row ≡ a → (b : Bool) → is_comparable bytes ≡ b → (if a && (b && is_other_text exact bytes shown) then Some (ConstText row.key) else None) ≡ None
    by false x b y = refl
    by true x false y = refl
    by true x true y = ap (λ b. if b then Some (ConstText row.key) else None) (ap (is_other_text exact bytes) (h bytes refl x y) ∙ same_text exact bytes)

-- an entry of errors is no text
error_numeric : (key : Key) → is_error key ≡ true → (fixed_type_of key ≡ Some Unsigned8) ⊎ (fixed_type_of key ≡ Some Unsigned32)
error_numeric key on = by ((key.index == 0x1001) && (key.sub == 0)) refl on
  where
    field : (key.index == 0x1003) ≡ true → nat_le key.sub 254 ≡ true → (b : Bool) → (key.sub == 0) ≡ b → (fixed_type_of key ≡ Some Unsigned8) ⊎ (fixed_type_of key ≡ Some Unsigned32)
    field index few true first = inl (subst (λ (x : Key). fixed_type_of x ≡ Some Unsigned8) (ap error_key (sym (eqb-true key.sub 0 first)) ∙ moved_key key index) refl)
    field index few false later =
        let low : 1 ≤ key.sub = grind (arith, nat_tests) in
        let high : key.sub ≤ 254 = grind (arith, nat_tests) in
        inr (subst (λ (x : Key). fixed_type_of x ≡ Some Unsigned32) (moved_key key index) (error_type key.sub low high))

    by : (b : Bool) → ((key.index == 0x1001) && (key.sub == 0)) ≡ b → (b || ((key.index == 0x1003) && nat_le key.sub 254)) ≡ true → (fixed_type_of key ≡ Some Unsigned8) ⊎ (fixed_type_of key ≡ Some Unsigned32)
    by true is h = inl (subst (λ (x : Key). fixed_type_of x ≡ Some Unsigned8) (sym (same_key-is key error_register_key is)) refl)
    by false is h = let both = and_parts (key.index == 0x1003) (nat_le key.sub 254) h in field both.0 both.1 (key.sub == 0) refl

text_no_error : (row : Row) → IsSheetRow row → row.data_type ≡ VisibleString → is_error row.key ≡ false
text_no_error row lawful is = by (is_error row.key) refl
  where
    by : (b : Bool) → is_error row.key ≡ b → b ≡ false
    by false on = refl
    by true on = elim (error_numeric row.key on) [
      | inl fixed ↦ absurd (let e : VisibleString ≡ Unsigned8 = sym is ∙ lawful.fixed_type Unsigned8 fixed in cc)
      | inr fixed ↦ absurd (let e : VisibleString ≡ Unsigned32 = sym is ∙ lawful.fixed_type Unsigned32 fixed in cc)
    ]

-- ---- what is found

pub no_constant : (finding : Finding) → is_value finding ≡ false → of_constants (Some finding) ≡ []
no_constant (Value mismatch) off = absurd (false≢true (sym off))
no_constant _ off = refl

constants_writes : Passes of_constants refl is_write
constants_writes (Written key) h = refl
constants_writes (AboveLimit key) h = refl
constants_writes (BelowLimit key) h = refl
constants_writes (BeyondRoom key came room) h = refl
constants_writes _ h = absurd (false≢true h)

constants_refusals : Passes of_constants refl is_refusal
constants_refusals (ReadRefused key code) h = refl
constants_refusals _ h = absurd (false≢true h)

constants_served : Passes of_constants refl is_served
constants_served (ReadServed key) h = refl
constants_served _ h = absurd (false≢true h)

nothing_of : (m : Option Mismatch) → m ≡ None → of_constants (value_finding m) ≡ []
nothing_of m none = ap (λ (o : Option Mismatch). of_constants (value_finding o)) none

-- what is shown of a text of the sheet
module _ (plan : Plan) (row : Row) (e : Ended) (got : List ℕ) (is : row_at plan.rows e.key ≡ Some row) (found : IsFound plan.node e.key row) (h : HadBytes (HoldsSheet plan) e.key got) (shows : IsShown e got) where
  text_shown : (bytes : List ℕ) → row.default ≡ text bytes → is_held_text row ≡ true → is_comparable bytes ≡ true → e.first.items ≡ bytes
  text_shown bytes default held compared =
      let string : row.data_type ≡ VisibleString = found.sheet.text_at_string bytes default in
      let constant : is_constant row.access ≡ true = (and_parts (is_constant row.access) (not (is_version row.key)) held).0 in
      let off : is_error e.key ≡ false = ap is_error (sym found.key_is) ∙ text_no_error row found.sheet string in
      let same : h.contents e.key ≡ built_contents plan e.key = h.held.fixed e.key (fixed_of plan row e.key is constant off) in
      let whole : got ≡ bytes = begun_bytes plan row e.key h.contents got is same h.is ∙ ap (initial_at plan.node row) string ∙ ap default_bytes default in
      let few : nat_le (length bytes) 64 ≡ true = (and_parts (nat_le (length bytes) 64) _ compared).0 in
      shows.first ∙ ap (take 64) whole ∙ take_all 64 bytes (grind (arith, nat_tests))

  text_found : (node : ℕ) (exact : Bool) → width_of row.data_type ≡ None → of_constants (value_finding (value_mismatch node row exact e)) ≡ []
  unfolding value_mismatch
  text_found node exact wide =
      subst (λ width. of_constants (value_finding (value_by node row exact e width)) ≡ []) (sym wide)
      (nothing_of (text_mismatch row exact e.first.items) (text_none row exact row.default e.first.items text_shown))

  number_found : (last : plan.node ≤ 127) (exact : Bool) (w : ℕ) → width_of row.data_type ≡ Some w → IsNumber e got w → of_constants (value_finding (value_mismatch plan.node row exact e)) ≡ []
  number_found last exact w wide i =
      number_none of_constants refl plan.node row exact e w wide i.at_once i.bytes (ap length i.first ∙ i.got_long)
      (nothing_of (constant_mismatch row (shown_number w e.first.items) (held_number plan.node row)) (constant_none row (shown_number w e.first.items) (held_number plan.node row) shown))
    where
      shown : (n : ℕ) → held_number plan.node row ≡ Some n → shown_number w e.first.items ≡ Some n
      shown n held =
          let both = held_some plan.node row n held in
          let begun : got ≡ initial_of plan.node row = begun_bytes plan row e.key h.contents got is (held_bytes plan row e.key h.contents is found.key_is h.held both.0) h.is in
          let numeric : is_numeric row.data_type ≡ true = ap is_some wide in
          ap (shown_number w) i.first ∙ shown_whole w got i.few i.got_long ∙ ap (λ x. Some (unsigned_of x)) begun
          ∙ ap Some (number_held plan.node e.key row last found n numeric both.0 both.1)

-- `value-const`
pub constant_picks : (plan : Plan) (subject : Subject) → subject.node ≡ plan.node → plan.node ≤ 127 → All IsSheetRow plan.rows → value_out_of_range plan.node plan.rows ≡ None → Picks (HoldsSheet plan) Any of_constants subject plan.rows
constant_picks plan subject same last lawful inside frame e got n shown small had =
    known_none of_constants refl subject plan.rows frame e
    (λ row is. uploads_none of_constants refl subject.node subject.facts.modular subject.rooms row _ e constants_writes constants_refusals constants_served
    (λ crc up done. by row is (subst (λ (o : Option Row). IfSome o (IsFound plan.node e.key)) is (row_found plan.node plan.rows e.key lawful inside)) (shown_of e got crc done shown) (had_of (HoldsSheet plan) Any e got n crc up done had).0 up (width_of row.data_type) refl))
  where
    by : (row : Row) → row_at plan.rows e.key ≡ Some row → IsFound plan.node e.key row → IsShown e got → HadBytes (HoldsSheet plan) e.key got → e.direction ≡ Upload → (o : Option ℕ) → width_of row.data_type ≡ o
        → of_constants (value_finding (value_mismatch subject.node row (is_exact e.protocol frame) e)) ≡ []
    by row is found shows h up None wide = text_found plan row e got is found h shows subject.node (is_exact e.protocol frame) wide
    by row is found shows h up (Some w) wide =
        subst (λ node. of_constants (value_finding (value_mismatch node row (is_exact e.protocol frame) e)) ≡ []) (sym same)
        (number_found plan row e got is found h shows last (is_exact e.protocol frame) w wide (number_shown plan row e got w h.contents is wide h.held.lawful h.is shows up small))
