-- An entry without its defaults at fault.
use Rattle.std.proofs.Common.{◌≡◌, ℕ, Bool, true, false, cond, not, ◌||◌, List, [], ◌++◌, Option, Some, None, refl, sym, ap, ◌∙◌, ℤ, Result, Ok, Err}
use Rattle.std.specs.Prelude.{◌&&◌, codes, unwrap_or}
use Rattle.std.specs.List.{list_any}
use Rattle.std.specs.Option.{option_map_or}
use Rattle.std.specs.Result.{result_ok}
use Rattle.co_value.specs.declared.data_type.DataType.{DataType}
use Rattle.co_value.specs.declared.data_type.DataType.TheVariants.{VisibleString, OctetString, Domain}
use Rattle.co_sheet_text.specs.declared.numeral.NumeralFault.{NumeralFault}
use Rattle.co_sheet_rows.specs.declared.fault.FaultKind.TheVariants.{BadLimits, BadDefault}
use Rattle.co_sheet_rows.specs.declared.fault.SheetFault.{SheetFault}
use Rattle.co_sheet_text.specs.Text.{same_name}
use Rattle.co_sheet_text.specs.Sections.{Property, TextSection}
use Rattle.co_sheet_text.specs.SectionLaws.{IsParsed}
use Rattle.co_sheet.specs.Entries.{Entry, data_type_of}
use Rattle.co_sheet.specs.Limits.{Default, absent, numeric_default, is_numeric, low_limit, high_limit, at_most, default_with, stated_default}
use Rattle.co_sheet.specs.Checks.{fault_if, in_numeric, is_low_first, unread, unread_default, unread_limits}
use Rattle.co_sheet_faults.specs.Soundness.{sound_entries, is_data_type_at_fault, is_outside, sound_low, sound_high}
use Rattle.co_sheet_faults.specs.AllChecks.{of_sound_type, limits_found, default_found, is_default_at_fault}
use Rattle.co_sheet_faults.proofs.ElementLemmas.{In, found-by}
use Rattle.co_sheet_faults.proofs.CutChecks.{Cut, cut_entry, key-cut, IsApart, entry-same}
use Rattle.co_sheet_faults.proofs.CutEntries.{is_on, bad_lines, bad-at, kept, key-kept}
use Rattle.co_sheet_faults.proofs.CutProperties.{first-named, second-named, defaults-at, hit-first, hit-second, apart-lines}
use Rattle.co_sheet_faults.proofs.CutLimits.{limit_in, unread_by, AreLeft, typed-none, typed-all, numeric-none, numeric-at, default-test, test_of, test-same, default_by, default-same, low_at, high_at, default_at, value_at, low_of, high_of, first_at}

-- ---- without its defaults at fault

abbrev pub defaults_cut : List TextSection → Cut
defaults_cut ss = record { bad = bad_lines (of_sound_type default_found) ss; first = codes "DefaultValue"; second = codes "ParameterValue" }

pub defaults-apart : (ss : List TextSection) → IsApart (defaults_cut ss)
defaults-apart ss = record { object_type = refl; compact = refl; compact_pdo = refl; data_type = refl; access = refl; mapping = refl }

default-numeric : (t : DataType) (value : List ℕ) → is_numeric t ≡ true → default_with t value ≡ result_ok (numeric_default t value)
default-numeric VisibleString value h = absurd (cc)
default-numeric OctetString value h = absurd (cc)
default-numeric Domain value h = absurd (cc)
default-numeric t value h = refl

read-result : (t : DataType) (e : Entry) (r : Result Default NumeralFault) (line : ℕ) → is_default_at_fault t e (unwrap_or (result_ok r) absent) ≡ true → unread r line ≡ []
read-result t e (Ok d) line h = refl
read-result t e (Err fault) line h = absurd (cc)

-- a default at fault can be read
read-default : (t : DataType) (e : Entry) (k : Property) → is_numeric t ≡ true → is_default_at_fault t e (stated_default t k) ≡ true → unread_default t k ≡ []
read-default t e k n h =
    read-result t e (numeric_default t k.value) k.line
    (ap (λ (o : Option Default). is_default_at_fault t e (unwrap_or o absent)) (sym (default-numeric t k.value n)) ∙ h)

left-test : (bad : ℕ → Bool) (test : Property → Bool) (k : Property) (b : Bool) → bad k.line ≡ b → test k ≡ b → option_map_or (λ j. fault_if (test j) BadDefault j.line) (cond (bad k.line) None (Some k)) [] ≡ []
left-test bad test k true is h = ap (λ c. option_map_or (λ j. fault_if (test j) BadDefault j.line) (cond c None (Some k)) []) is
left-test bad test k false is h =
    ap (λ c. option_map_or (λ j. fault_if (test j) BadDefault j.line) (cond c None (Some k)) []) is ∙ ap (λ c. fault_if c BadDefault k.line) h

left-option : (bad : ℕ → Bool) (test : Property → Bool) (o : Option Property) → ((k : Property) → o ≡ Some k → bad k.line ≡ test k) → option_map_or (λ j. fault_if (test j) BadDefault j.line) (kept bad o) [] ≡ []
left-option bad test None h = refl
left-option bad test (Some k) h = left-test bad test k (test k) (h k refl) refl

read-test : (bad : ℕ → Bool) (found : Property → List SheetFault) (k : Property) (b : Bool) → bad k.line ≡ b → (b ≡ true → found k ≡ []) → option_map_or found (cond (bad k.line) None (Some k)) [] ≡ found k
read-test bad found k true is h = ap (λ c. option_map_or found (cond c None (Some k)) []) is ∙ sym (h refl)
read-test bad found k false is h = ap (λ c. option_map_or found (cond c None (Some k)) []) is

read-option : (bad : ℕ → Bool) (found : Property → List SheetFault) (o : Option Property) → ((k : Property) → o ≡ Some k → bad k.line ≡ true → found k ≡ []) → option_map_or found (kept bad o) [] ≡ option_map_or found o []
read-option bad found None h = refl
read-option bad found (Some k) h = read-test bad found k (bad k.line) refl (h k refl)

record DefaultsBad (c : Cut) (e : Entry) : Type 0 where
  pub default : (k : Property) → default_at e ≡ Some k → c.bad k.line ≡ test_of e k
  pub value : (k : Property) → value_at e ≡ Some k → c.bad k.line ≡ test_of e k

defaults-bad : (ss : List TextSection) → IsParsed ss → (e : Entry) → In e (sound_entries ss) → is_data_type_at_fault e ≡ false → DefaultsBad (defaults_cut ss) e
defaults-bad ss parsed e in_e typed =
    let check = of_sound_type default_found in
    let default = codes "DefaultValue" in
    let value = codes "ParameterValue" in
    let whole : check e ≡ default_by (test_of e) (default_at e) (value_at e) = typed-all default_found e typed in
    record {
      default = λ k is.
          bad-at default value check defaults-at ss parsed.lines_rise e in_e k (found-by (λ j. same_name j.name default) e.section.properties k is).among
          ∙ ap (λ (fs : List SheetFault). list_any (is_on k.line) fs) whole
          ∙ hit-first (test_of e) (test_of e) BadDefault k (default_at e) (value_at e) is (λ j is_j. apart-lines ss parsed e in_e default value refl k j is is_j);
      value = λ k is.
          bad-at default value check defaults-at ss parsed.lines_rise e in_e k (found-by (λ j. same_name j.name value) e.section.properties k is).among
          ∙ ap (λ (fs : List SheetFault). list_any (is_on k.line) fs) whole
          ∙ hit-second (test_of e) (test_of e) BadDefault k (default_at e) (value_at e) is (λ j is_j. apart-lines ss parsed e in_e value default refl k j is is_j);
    }

abbrev DefaultsLeft : List TextSection → Entry → Type 0
DefaultsLeft ss e = AreLeft (defaults_cut ss) e (of_sound_type (in_numeric limits_found) e) []

-- what the limits give stays
record LimitsSame (e f : Entry) : Type 0 where
  pub low : low_at f ≡ low_at e
  pub high : high_at f ≡ high_at e

low-same : (t : DataType) (e f : Entry) → LimitsSame e f → low_limit t f ≡ low_limit t e
low-same t e f same = ap (λ (o : Option Property). cond (is_numeric t) (limit_in t o) None) same.low

high-same : (t : DataType) (e f : Entry) → LimitsSame e f → high_limit t f ≡ high_limit t e
high-same t e f same = ap (λ (o : Option Property). cond (is_numeric t) (limit_in t o) None) same.high

found-same : (t : DataType) (e f : Entry) → LimitsSame e f → limits_found t f ≡ limits_found t e
found-same t e f same =
    let by_parts : Option ℤ → Option ℤ → Option Property → Option Property → List SheetFault = λ low high ol oh.
    option_map_or (λ k. fault_if (is_outside t low) BadLimits k.line) ol [] ++ option_map_or (λ k. fault_if (is_outside t high || (not (at_most low high) && not (is_low_first ol oh && is_outside t low))) BadLimits k.line) oh [] in
    ap (λ (v : Option ℤ). by_parts v (high_limit t f) (low_at f) (high_at f)) (low-same t e f same)
    ∙ ap (λ (v : Option ℤ). by_parts (low_limit t e) v (low_at f) (high_at f)) (high-same t e f same)
    ∙ ap (λ (o : Option Property). by_parts (low_limit t e) (high_limit t e) o (high_at f)) same.low
    ∙ ap (λ (o : Option Property). by_parts (low_limit t e) (high_limit t e) (low_at e) o) same.high

sound-low-same : (t : DataType) (e f : Entry) → LimitsSame e f → sound_low t f ≡ sound_low t e
sound-low-same t e f same = ap (λ (v : Option ℤ). low_of t v) (low-same t e f same)

sound-high-same : (t : DataType) (e f : Entry) → LimitsSame e f → sound_high t f ≡ sound_high t e
sound-high-same t e f same =
    ap (λ (v : Option ℤ). high_of t (first_at f) v (high_limit t f)) (low-same t e f same)
    ∙ ap (λ (v : Option ℤ). high_of t (first_at f) (low_limit t e) v) (high-same t e f same)
    ∙ ap (λ (o : Option Property). high_of t (is_low_first o (high_at f)) (low_limit t e) (high_limit t e)) same.low
    ∙ ap (λ (o : Option Property). high_of t (is_low_first (low_at e) o) (low_limit t e) (high_limit t e)) same.high

numeric-pair : (found : DataType → Entry → List SheetFault) (e f : Entry) (o : Option DataType) → data_type_of f ≡ o → data_type_of e ≡ o → ((t : DataType) → o ≡ Some t → is_numeric t ≡ true → found t f ≡ found t e) → in_numeric found f ≡ in_numeric found e
numeric-pair found e f None is_f is_e same = numeric-none found f is_f ∙ sym (numeric-none found e is_e)
numeric-pair found e f (Some t) is_f is_e same = pair-by (is_numeric t) refl
  where
    pair-by : (b : Bool) → is_numeric t ≡ b → in_numeric found f ≡ in_numeric found e
    pair-by true n = numeric-at found f t true is_f n ∙ same t refl n ∙ sym (numeric-at found e t true is_e n)
    pair-by false n = numeric-at found f t false is_f n ∙ sym (numeric-at found e t false is_e n)

defaults-unread : (ss : List TextSection) → IsParsed ss → (e : Entry) → In e (sound_entries ss) → DefaultsBad (defaults_cut ss) e → LimitsSame e (cut_entry (defaults_cut ss) e) → (t : DataType) → data_type_of e ≡ Some t → is_numeric t ≡ true
    → unread_limits t (cut_entry (defaults_cut ss) e) ≡ unread_limits t e
defaults-unread ss parsed e in_e bad same t is_t n =
    let c = defaults_cut ss in
    let f = cut_entry c e in
    let default = codes "DefaultValue" in
    let value = codes "ParameterValue" in
    let at_type : (k : Property) → test_of e k ≡ true → unread_default t k ≡ [] = λ k h.
    read-default t e k n (sym (ap (λ (o : Option DataType). option_map_or (λ u. is_default_at_fault u e (stated_default u k)) o false) is_t) ∙ h) in
    let by_parts : Option Property → Option Property → Option Property → Option Property → List SheetFault = λ ol oh dv pv.
    unread_by t ol oh (option_map_or (unread_default t) dv [] ++ option_map_or (unread_default t) pv []) in
    let defaults : option_map_or (unread_default t) (default_at f) [] ≡ option_map_or (unread_default t) (default_at e) [] =
    ap (λ (o : Option Property). option_map_or (unread_default t) o []) (key-kept c default (λ k h. first-named _ (same_name k.name value) h) ss parsed e in_e)
    ∙ read-option c.bad (unread_default t) (default_at e) (λ k is h. at_type k (sym (bad.default k is) ∙ h)) in
    let values : option_map_or (unread_default t) (value_at f) [] ≡ option_map_or (unread_default t) (value_at e) [] =
    ap (λ (o : Option Property). option_map_or (unread_default t) o []) (key-kept c value (λ k h. second-named (same_name k.name default) _ h) ss parsed e in_e)
    ∙ read-option c.bad (unread_default t) (value_at e) (λ k is h. at_type k (sym (bad.value k is) ∙ h)) in
    ap (λ (o : Option Property). by_parts o (high_at f) (default_at f) (value_at f)) same.low
    ∙ ap (λ (o : Option Property). by_parts (low_at e) o (default_at f) (value_at f)) same.high
    ∙ ap (λ (fs : List SheetFault). unread_by t (low_at e) (high_at e) (fs ++ option_map_or (unread_default t) (value_at f) [])) defaults
    ∙ ap (λ (fs : List SheetFault). unread_by t (low_at e) (high_at e) (option_map_or (unread_default t) (default_at e) [] ++ fs)) values

defaults-cases : (ss : List TextSection) → IsParsed ss → (e : Entry) → In e (sound_entries ss) → (bad : Bool) → is_data_type_at_fault e ≡ bad → DefaultsLeft ss e
defaults-cases ss parsed e in_e true typed =
    let c = defaults_cut ss in
    let f = cut_entry c e in
    let typed_f = (entry-same c (defaults-apart ss) e).is_type_bad ∙ typed in
    record {
      unread = typed-none (in_numeric unread_limits) f typed_f ∙ sym (typed-none (in_numeric unread_limits) e typed);
      limits = typed-none (in_numeric limits_found) f typed_f ∙ sym (typed-none (in_numeric limits_found) e typed);
      defaults = typed-none default_found f typed_f;
    }
defaults-cases ss parsed e in_e false typed =
    let c = defaults_cut ss in
    let f = cut_entry c e in
    let kept_same = entry-same c (defaults-apart ss) e in
    let typed_f = kept_same.is_type_bad ∙ typed in
    let same : LimitsSame e f = record { low = key-cut c (codes "LowLimit") refl e.section; high = key-cut c (codes "HighLimit") refl e.section } in
    let bad = defaults-bad ss parsed e in_e typed in
    let default = codes "DefaultValue" in
    let value = codes "ParameterValue" in
    let test : (k : Property) → test_of f k ≡ test_of e k = λ k.
    test-same f e k (data_type_of e) kept_same.data_type refl (λ t is_t. default-test t f e (stated_default t k) (sound-low-same t e f same) (sound-high-same t e f same)) in
    record {
      unread = typed-all (in_numeric unread_limits) f typed_f
          ∙ numeric-pair unread_limits e f (data_type_of e) kept_same.data_type refl (λ t is_t n. defaults-unread ss parsed e in_e bad same t is_t n)
          ∙ sym (typed-all (in_numeric unread_limits) e typed);
      limits = typed-all (in_numeric limits_found) f typed_f
          ∙ numeric-pair limits_found e f (data_type_of e) kept_same.data_type refl (λ t is_t n. found-same t e f same)
          ∙ sym (typed-all (in_numeric limits_found) e typed);
      defaults = typed-all default_found f typed_f
          ∙ default-same (test_of f) (test_of e) (default_at f) (value_at f) test
          ∙ ap (λ (o : Option Property). default_by (test_of e) o (value_at f)) (key-kept c default (λ k h. first-named _ (same_name k.name value) h) ss parsed e in_e)
          ∙ ap (λ (o : Option Property). default_by (test_of e) (kept c.bad (default_at e)) o) (key-kept c value (λ k h. second-named (same_name k.name default) _ h) ss parsed e in_e)
          ∙ ap (λ (fs : List SheetFault). fs ++ option_map_or (λ k. fault_if (test_of e k) BadDefault k.line) (kept c.bad (value_at e)) []) (left-option c.bad (test_of e) (default_at e) bad.default)
          ∙ left-option c.bad (test_of e) (value_at e) bad.value;
    }

pub defaults-left : (ss : List TextSection) → IsParsed ss → (e : Entry) → In e (sound_entries ss) → DefaultsLeft ss e
defaults-left ss parsed e in_e = defaults-cases ss parsed e in_e (is_data_type_at_fault e) refl
