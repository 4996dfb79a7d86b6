-- What the code finds of an entry and of an object.
use Rattle.std.proofs.Common.{◌≡◌, ℕ, Bool, true, false, not, ◌&&◌, Option, Some, List, [], ◌∷◌, ◌++◌, Result, Ok, Err, refl, sym, ap, ◌∙◌, codes, eqb, OnOk}
use Rattle.std.specs.Prelude.{unwrap_or}
use Rattle.std.specs.Result.{result_ok}
use Rattle.std.specs.List.{list_any}
use Rattle.std.specs.Option.{option_map_or}
use Rattle.std.proofs.lemmas.List.{append_assoc}
use Rattle.co_value.specs.declared.data_type.DataType.{DataType}
use Rattle.co_value.specs.declared.data_type.DataType.TheVariants.{VisibleString, OctetString, Domain}
use Rattle.co_sheet_text.specs.declared.numeral.NumeralFault.{NumeralFault}
use Rattle.co_sheet_text.specs.Sections.{Property, TextSection, property_at}
use Rattle.co_sheet_rows.specs.declared.fault.FaultKind.TheVariants.{BadDefault, BadType, MissingSub0}
use Rattle.co_sheet_rows.specs.declared.fault.SheetFault.{SheetFault}
use Rattle.co_sheet.specs.Faults.{fault_at}
use Rattle.co_sheet.specs.ObjectLists.{is_one_of}
use Rattle.co_sheet.specs.Entries.{compound_codes, object_code, ListedObject, Entry, sub_indices, type_code, data_type_of}
use Rattle.co_sheet.specs.Limits.{Default, absent, number, node_id, text, pairs, is_numeric, is_in_type, at_most, numeric_default, stated_default}
use Rattle.co_sheet.specs.Checks.{fault_if, at_key, numeral_fault, unread, unread_default, unread_number, is_bad_type, bad_type, type_line, left_out_type}
use Rattle.co_sheet_faults.specs.Soundness.{unless, is_compact, is_data_type_at_fault, sound_high}
use Rattle.co_sheet_faults.specs.AllChecks.{default_found_at, is_default_at_fault, sub_index_0_found, of_sound_type}
use Rattle.co_sheet_faults.specs.private.Collected.{default_collected, type_collected}
use Rattle.co_sheet_faults.specs.private.EntryParts.{AreLimits, is_beyond}
use Rattle.co_sheet_faults.specs.declared.entries.Limits.{Limits}
use Rattle.co_sheet_faults.proofs.ListCodeLemmas.{found-if}

-- a data type at fault
type-found : (e : Entry) → bad_type e ≡ fault_if (is_data_type_at_fault e) BadType (type_line e)
type-found e = ap (λ b. fault_if b BadType (type_line e)) (sym (found-if (option_map_or (is_bad_type e) (type_code e) false) BadType (type_line e)))

-- what of a type is found, by whether it is at fault
pub type-bad : (e : Entry) → is_data_type_at_fault e ≡ true → type_collected e ≡ at_key unread_number (codes "DataType") e.section ++ fault_at (type_line e) BadType ∷ []
type-bad e h =
    let same = ap (λ b. fault_if b BadType (type_line e)) h in
    ap (λ (fs : List SheetFault). at_key unread_number (codes "DataType") e.section ++ (fs ++ of_sound_type left_out_type e)) (type-found e ∙ same)
    ∙ ap (λ b. at_key unread_number (codes "DataType") e.section ++ (fault_at (type_line e) BadType ∷ unless b (left_out_type e))) h

pub type-good : (e : Entry) → is_data_type_at_fault e ≡ false → type_collected e ≡ at_key unread_number (codes "DataType") e.section ++ left_out_type e
type-good e h =
    let same = ap (λ b. fault_if b BadType (type_line e)) h in
    ap (λ (fs : List SheetFault). at_key unread_number (codes "DataType") e.section ++ (fs ++ of_sound_type left_out_type e)) (type-found e ∙ same)
    ∙ ap (λ b. at_key unread_number (codes "DataType") e.section ++ unless b (left_out_type e)) h

-- two steps, one after the other
pub added : (now mid old first more all : List SheetFault) → now ≡ mid ++ more → mid ≡ old ++ first → all ≡ first ++ more → now ≡ old ++ all
added now mid old first more all e h is = e ∙ ap (λ l. l ++ more) h ∙ append_assoc old first more ∙ ap (λ l. old ++ l) (sym is)

-- six steps
pub six-added : (f0 f1 f2 f3 f4 f5 f6 a b c d e f all : List SheetFault) → f1 ≡ f0 ++ a → f2 ≡ f1 ++ b → f3 ≡ f2 ++ c → f4 ≡ f3 ++ d → f5 ≡ f4 ++ e → f6 ≡ f5 ++ f
    → all ≡ a ++ (b ++ ((c ++ d) ++ (e ++ f))) → f6 ≡ f0 ++ all
six-added f0 f1 f2 f3 f4 f5 f6 a b c d e f all h1 h2 h3 h4 h5 h6 is =
    added f6 f1 f0 a (b ++ ((c ++ d) ++ (e ++ f))) all
    (added f6 f2 f1 b ((c ++ d) ++ (e ++ f)) (b ++ ((c ++ d) ++ (e ++ f)))
    (added f6 f4 f2 (c ++ d) (e ++ f) ((c ++ d) ++ (e ++ f)) (added f6 f5 f4 e f (e ++ f) h6 h5 refl) (added f4 f3 f2 c d (c ++ d) h4 h3 refl) refl) h2 refl) h1 is

pub on-ok : {X E : Type 0} (r : Result X E) {P Q : Type 0} → (P → Q) → OnOk r P → OnOk r Q
on-ok (Ok x) f p = f p
on-ok (Err e) f p = tt

-- sub-index 0, where neither CompactSubObj nor another object type stands in for it
pub sub-0-found : (sections : List TextSection) (o : ListedObject) (has : Bool) → is_compact o.section ≡ false → is_one_of compound_codes (object_code o.section) ≡ true
    → has ≡ list_any (λ e. eqb e.key.sub 0) (sub_indices sections o.index) → sub_index_0_found sections o ≡ fault_if (not has) MissingSub0 o.section.line
sub-0-found sections o has whole compound is = rw (whole, compound, ← is) refl

-- ---- a default of a numeric type

stated : (t : DataType) (k : Property) (default : Default) → is_numeric t ≡ true → numeric_default t k.value ≡ Ok default → stated_default t k ≡ default
stated VisibleString k default numeric read = absurd (cc)
stated OctetString k default numeric read = absurd (cc)
stated Domain k default numeric read = absurd (cc)
stated t k default numeric read = ap (λ r. unwrap_or (result_ok r) absent) read

unstated : (t : DataType) (k : Property) (fault : NumeralFault) → is_numeric t ≡ true → numeric_default t k.value ≡ Err fault → stated_default t k ≡ absent
unstated VisibleString k fault numeric read = absurd (cc)
unstated OctetString k fault numeric read = absurd (cc)
unstated Domain k fault numeric read = absurd (cc)
unstated t k fault numeric read = ap (λ (r : Result Default NumeralFault). unwrap_or (result_ok r) absent) read

beyond : (t : DataType) (e : Entry) (limits : Limits) (default : Default) → AreLimits t e limits → is_default_at_fault t e default ≡ is_beyond t limits.low limits.high default
beyond t e limits (number value) h =
    ap (λ low. not (is_in_type t value && at_most low (Some value) && at_most (Some value) (sound_high t e))) (sym h.low)
    ∙ ap (λ high. not (is_in_type t value && at_most limits.low (Some value) && at_most (Some value) high)) (sym h.high)
beyond t e limits (pairs digits) h = refl
beyond t e limits absent h = refl
beyond t e limits (node_id n) h = refl
beyond t e limits (text bytes) h = refl

-- what is found of one that can be read, and of one that can't be
pub default-read : (name : List ℕ) (t : DataType) (e : Entry) (k : Property) (limits : Limits) (default : Default) → is_numeric t ≡ true → data_type_of e ≡ Some t → AreLimits t e limits
    → property_at name e.section ≡ Some k → numeric_default t k.value ≡ Ok default → default_collected name t e ≡ fault_if (is_beyond t limits.low limits.high default) BadDefault k.line
default-read name t e k limits default numeric typed are_limits here read =
    ap (λ (o : Option Property). option_map_or (unread_default t) o [] ++ option_map_or (default_found_at e) o []) here
    ∙ ap (λ (r : Result Default NumeralFault). unread r k.line ++ default_found_at e k) read
    ∙ ap (λ (o : Option DataType). fault_if (option_map_or (λ u. is_default_at_fault u e (stated_default u k)) o false) BadDefault k.line) typed
    ∙ ap (λ d. fault_if (is_default_at_fault t e d) BadDefault k.line) (stated t k default numeric read)
    ∙ ap (λ b. fault_if b BadDefault k.line) (beyond t e limits default are_limits)

pub default-unread : (name : List ℕ) (t : DataType) (e : Entry) (k : Property) (fault : NumeralFault) → is_numeric t ≡ true → data_type_of e ≡ Some t
    → property_at name e.section ≡ Some k → numeric_default t k.value ≡ Err fault → default_collected name t e ≡ fault_at k.line (numeral_fault fault) ∷ []
default-unread name t e k fault numeric typed here read =
    ap (λ (o : Option Property). option_map_or (unread_default t) o [] ++ option_map_or (default_found_at e) o []) here
    ∙ ap (λ (r : Result Default NumeralFault). unread r k.line ++ default_found_at e k) read
    ∙ ap (λ (o : Option DataType). fault_at k.line (numeral_fault fault) ∷ fault_if (option_map_or (λ u. is_default_at_fault u e (stated_default u k)) o false) BadDefault k.line) typed
    ∙ ap (λ d. fault_at k.line (numeral_fault fault) ∷ fault_if (is_default_at_fault t e d) BadDefault k.line) (unstated t k fault numeric read)
