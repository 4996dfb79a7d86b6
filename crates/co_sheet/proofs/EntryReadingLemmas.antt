-- What is read of an entry, key by key.
use Rattle.std.proofs.Common.{◌≡◌, ℕ, Bool, true, false, cond, not, ◌&&◌, ◌||◌, List, [], ◌++◌, Option, Some, None, Result, Ok, Err, refl, sym, ap, ◌∙◌, subst, codes, ℤ, eqb, eqb-true}
use Rattle.std.specs.Prelude.{is_none, option_map, option_and_then, unwrap_or, ok_or}
use Rattle.std.specs.Option.{option_map_or, option_or}
use Rattle.std.specs.Result.{result_ok, result_err, IfOk}
use Rattle.co_value.specs.declared.data_type.DataType.{DataType}
use Rattle.co_value.specs.declared.data_type.DataType.TheVariants.{VisibleString, OctetString, Domain}
use Rattle.co_value.specs.Types.{code_of, least_of, greatest_of}
use Rattle.co_sheet.specs.declared.checks.entries.Limit.{Limit}
use Rattle.co_sheet.specs.declared.checks.entries.Stated.{Stated}
use Rattle.co_sheet.specs.declared.checks.entries.Values.{Values}
use Rattle.co_sheet_rows.specs.declared.fault.FaultKind.TheVariants.{MissingKey, LeftOutType, BadLimits, BadDefault}
use Rattle.co_sheet_rows.specs.declared.fault.SheetFault.{SheetFault}
use Rattle.co_sheet.specs.declared.checks.findings.Finding.{Finding}
use Rattle.co_sheet_text.specs.Sections.{Property, property_at}
use Rattle.co_sheet_text.specs.Properties.{property_number}
use Rattle.co_sheet.specs.ObjectLists.{is_one_of}
use Rattle.co_profile.specs.FixedTypes.{fixed_type_of}
use Rattle.co_sheet.specs.Entries.{Entry, is_domain, data_type_with, type_code, data_type_of}
use Rattle.co_sheet.specs.Limits.{is_in_type, Default, absent, number, node_id, text, pairs, number_at_type, numeric_default, is_numeric, limit_at, low_limit, high_limit, at_most, default_with, stated_default}
use Rattle.co_sheet.specs.Checks.{fault_if, at_key, is_low_first, missing_key, unread_limit, unread_defaults, unread_limits, limit_outside, bad_limits, is_bad_default, bad_default_at, bad_default, in_numeric, left_out_codes, type_line, is_bad_type, bad_type, left_out_type, bad_access, unread_entry_numbers}
use Rattle.co_sheet.specs.Accepted.{least_fault}
use Rattle.co_sheet.specs.private.LeastFaults.{earlier}
use Rattle.co_sheet.specs.private.Findings.{found_by, checked}
use Rattle.co_sheet.specs.private.EntryReadings.{IsNumberAt, IsLimitAt, IsDefaultAt, IsStatedAt, value_of, preset_of, limits_found, type_finding, value_finding, entry_finding, AreValues, is_outside, default_found, defaults_found}
use Rattle.co_sheet.specs.Views.{default_view}
use Rattle.co_sheet.proofs.LeastLemmas.{least-two}

-- ---- keys that are there

present_cases : (domain no_type no_access : Bool) (line : ℕ) → least_fault (fault_if (not domain && (no_type || no_access)) MissingKey line) ≡ None → (no_type || no_access) ≡ true → domain ≡ true
present_cases true no_type no_access line h k = refl
present_cases false true no_access line h k = absurd (cc)
present_cases false false true line h k = absurd (cc)
present_cases false false false line h k = absurd (cc)

-- only a DOMAIN may do without
pub no_type-domain : (e : Entry) → least_fault (missing_key e) ≡ None → property_at (codes "DataType") e.section ≡ None → is_domain e ≡ true
no_type-domain e h k =
    present_cases (is_domain e) (is_none (property_at (codes "DataType") e.section)) (is_none (property_at (codes "AccessType") e.section)) e.section.line h (rw k refl)

or_true : (b : Bool) → (b || true) ≡ true
or_true true = refl
or_true false = refl

pub no_access-domain : (e : Entry) → least_fault (missing_key e) ≡ None → property_at (codes "AccessType") e.section ≡ None → is_domain e ≡ true
no_access-domain e h k =
    present_cases (is_domain e) (is_none (property_at (codes "DataType") e.section)) (is_none (property_at (codes "AccessType") e.section)) e.section.line h (rw k (or_true (is_none (property_at (codes "DataType") e.section))))

-- ---- numbers

pub number-read : (key : Option Property) (found : Option ℕ) → IsNumberAt key found → option_and_then property_number key ≡ found
number-read None None h = refl
number-read None (Some n) h = absurd h
number-read (Some key) None h = absurd h
number-read (Some key) (Some n) h = ap result_ok h

-- ---- limits and defaults

pub limit-read : (name : List ℕ) (t : DataType) (e : Entry) (limit : Option Limit) → is_numeric t ≡ true → IsLimitAt t (property_at name e.section) limit → limit_at name t e ≡ value_of limit
limit-read name t e limit numeric h = rw numeric (cases (property_at name e.section) limit h)
  where
    cases : (key : Option Property) (l : Option Limit) → IsLimitAt t key l → option_and_then (λ (k : Property). result_ok (number_at_type t k.value)) key ≡ value_of l
    cases None None h = refl
    cases None (Some l) h = absurd h
    cases (Some k) None h = absurd h
    cases (Some k) (Some l) h = ap result_ok h.0

found_cases : (t : DataType) (low_key high_key : Option Property) (low high : Option Limit) (low_value high_value : Option ℤ) → low_value ≡ value_of low → high_value ≡ value_of high
    → IsLimitAt t low_key low → IsLimitAt t high_key high
    → option_map_or (limit_outside t low_value) low_key [] ++ option_map_or (limit_outside t high_value) high_key []
    ++ option_map_or (λ (k : Property). fault_if (not (at_most (option_or low_value (least_of t)) (option_or high_value (greatest_of t))) && not (is_low_first low_key high_key && not (option_map_or (is_in_type t) low_value true))) BadLimits k.line) (option_or high_key low_key) []
    ≡ limits_found t low high
found_cases t None None None None low_value high_value l h p q = refl
found_cases t (Some k) None (Some low) None low_value high_value l h p q = rw (l, h, p.1) refl
found_cases t None (Some k) None (Some high) low_value high_value l h p q = rw (l, h, q.1) refl
found_cases t (Some j) (Some k) (Some low) (Some high) low_value high_value l h p q = rw (l, h, p.1, q.1) refl
found_cases t None high_key (Some low) high low_value high_value l h p q = absurd p
found_cases t (Some k) high_key None high low_value high_value l h p q = absurd p
found_cases t low_key None low (Some high) low_value high_value l h p q = absurd q
found_cases t low_key (Some k) low None low_value high_value l h p q = absurd q

pub limits-read : (t : DataType) (e : Entry) (low high : Option Limit) → is_numeric t ≡ true → IsLimitAt t (property_at (codes "LowLimit") e.section) low → IsLimitAt t (property_at (codes "HighLimit") e.section) high
    → bad_limits t e ≡ limits_found t low high
limits-read t e low high numeric p q =
    found_cases t (property_at (codes "LowLimit") e.section) (property_at (codes "HighLimit") e.section) low high (limit_at (codes "LowLimit") t e) (limit_at (codes "HighLimit") t e)
    (limit-read (codes "LowLimit") t e low numeric p) (limit-read (codes "HighLimit") t e high numeric q) p q

numeric-form : (t : DataType) (value : List ℕ) → is_numeric t ≡ true → default_with t value ≡ result_ok (numeric_default t value)
numeric-form VisibleString value h = absurd (cc)
numeric-form OctetString value h = absurd (cc)
numeric-form Domain value h = absurd (cc)
numeric-form t value h = refl

-- what is read of a numeric type is what is stated
numeric-stated : (t : DataType) (key : Option Property) (stated : Option Stated) → is_numeric t ≡ true → IsDefaultAt t key stated → IsStatedAt t key stated
numeric-stated t None None numeric h = tt
numeric-stated t None (Some s) numeric h = absurd h
numeric-stated t (Some k) None numeric h = absurd h
numeric-stated t (Some k) (Some s) numeric h = (ap (λ o. unwrap_or o absent) (numeric-form t k.value numeric ∙ ap result_ok h.0), h.1)

-- ParameterValue's, or where it is absent DefaultValue's
default-read : (t : DataType) (default_key parameter_key : Option Property) (default parameter : Option Stated) → IsStatedAt t default_key default → IsStatedAt t parameter_key parameter
    → option_map_or (stated_default t) (option_or parameter_key default_key) absent ≡ preset_of (option_or parameter default)
default-read t None None None None h p = refl
default-read t (Some k) None (Some s) None h p = h.0
default-read t default_key (Some k) default (Some s) h p = p.0
default-read t None None (Some s) None h p = absurd h
default-read t (Some k) None None None h p = absurd h
default-read t default_key None default (Some s) h p = absurd p
default-read t default_key (Some k) default None h p = absurd p

-- ---- types

left_out_cases : (n : ℕ) (a b c d e : Bool) → eqb 0x08 n ≡ a → eqb 0x0B n ≡ b → eqb 0x0C n ≡ c → eqb 0x0D n ≡ d → eqb 0x11 n ≡ e → (a || (b || (c || (d || (e || false))))) ≡ true → data_type_with n ≡ None
left_out_cases n true b c d e p q r s t h = subst (λ k. data_type_with k ≡ None) (eqb-true 0x08 n p) refl
left_out_cases n false true c d e p q r s t h = subst (λ k. data_type_with k ≡ None) (eqb-true 0x0B n q) refl
left_out_cases n false false true d e p q r s t h = subst (λ k. data_type_with k ≡ None) (eqb-true 0x0C n r) refl
left_out_cases n false false false true e p q r s t h = subst (λ k. data_type_with k ≡ None) (eqb-true 0x0D n s) refl
left_out_cases n false false false false true p q r s t h = subst (λ k. data_type_with k ≡ None) (eqb-true 0x11 n t) refl
left_out_cases n false false false false false p q r s t h = absurd (cc)

-- no type that is left out is supported
left_out-none : (n : ℕ) → is_one_of left_out_codes (Some n) ≡ true → data_type_with n ≡ None
left_out-none n h = left_out_cases n (eqb 0x08 n) (eqb 0x0B n) (eqb 0x0C n) (eqb 0x0D n) (eqb 0x11 n) refl refl refl refl refl h

support_cases : (o : Option DataType) (left_out : Bool) (other third : Bool) (line : ℕ) → (((is_none o && not left_out) || other) || third) ≡ false → (left_out ≡ true → o ≡ None)
    → option_or (option_map (found_by 13) (least_fault (fault_if left_out LeftOutType line))) None ≡ result_err (ok_or o (found_by 13 (record { kind = LeftOutType; line = line })))
support_cases None true other third line h k = refl
support_cases None false other third line h k = absurd (cc)
support_cases (Some t) true other third line h k = let none = k refl in absurd (cc)
support_cases (Some t) false other third line h k = refl

-- a code that is not bad is of a type, or of one that is left out
pub type-read : (e : Entry) (code line : ℕ) → type_code e ≡ Some code → line ≡ type_line e → is_bad_type e code ≡ false
    → type_finding e ≡ result_err (ok_or (data_type_with code) (found_by 13 (record { kind = LeftOutType; line = line })))
type-read e code line is at good =
    let left_out = is_one_of left_out_codes (Some code) in
    let domain = is_domain e && not (eqb code (code_of Domain)) in
    let fixed = option_map_or (λ t. not (eqb code (code_of t))) (fixed_type_of e.key) false in
    rw (is, good, sym at) (support_cases (data_type_with code) left_out domain fixed line good (left_out-none code))

-- ---- what is found first

or_two : (a b r : Option Finding) → option_or (option_or a (option_or b None)) r ≡ option_or a (option_or b r)
or_two (Some x) b r = refl
or_two None (Some y) r = refl
or_two None None r = refl

-- step by step, as the reading goes
pub entry-steps : (e : Entry) (m n a : Option SheetFault) (t v : Option Finding) → m ≡ least_fault (missing_key e) → n ≡ least_fault (unread_entry_numbers e)
    → t ≡ type_finding e → a ≡ least_fault (bad_access e) → v ≡ value_finding e
    → option_or (option_map (found_by 10) m) (option_or (option_map (found_by 11) n) (option_or t (option_or (option_map (found_by 14) a) v))) ≡ entry_finding e
entry-steps e m n a t v p q r s w =
    let rest = option_or (option_map (found_by 14) (least_fault (bad_access e))) (value_finding e) in
    rw (p, q, r, s, w)
    (ap (λ o. option_or (option_map (found_by 10) (least_fault (missing_key e))) (option_or (option_map (found_by 11) (least_fault (unread_entry_numbers e))) o))
    (or_two (option_map (found_by 12) (least_fault (bad_type e))) (option_map (found_by 13) (least_fault (left_out_type e))) rest))

pub value-steps : (e : Entry) (u l d : Option SheetFault) → u ≡ least_fault (in_numeric unread_limits e) → l ≡ least_fault (in_numeric bad_limits e) → d ≡ least_fault (bad_default e)
    → option_or (option_map (found_by 15) u) (option_or (option_map (found_by 16) l) (option_or (option_map (found_by 17) d) None)) ≡ value_finding e
value-steps e u l d p q r = rw (p, q, r) refl

-- where it stops
pub stops : (g : Finding) (o rest : Option Finding) → Some g ≡ o → Some g ≡ option_or o rest
stops g o rest h = ap (λ p. option_or p rest) h

-- ---- limits

-- what is found at two keys
pub both-keys : (found : Property → List SheetFault) (name other : List ℕ) (e : Entry) (of_first of_second : Option SheetFault)
    → of_first ≡ least_fault (at_key found name e.section) → of_second ≡ least_fault (at_key found other e.section)
    → earlier of_first of_second ≡ least_fault (at_key found name e.section ++ at_key found other e.section)
both-keys found name other e of_first of_second h k =
    least-two (at_key found name e.section) (at_key found other e.section) of_first of_second (earlier of_first of_second) refl h k

-- what of_limits and of_defaults find is what can't be read
pub unread-read : (t : DataType) (e : Entry) (of_limits of_defaults : Option SheetFault)
    → of_limits ≡ least_fault (at_key (unread_limit t) (codes "LowLimit") e.section ++ at_key (unread_limit t) (codes "HighLimit") e.section)
    → of_defaults ≡ least_fault (unread_defaults t e)
    → earlier of_limits of_defaults ≡ least_fault (unread_limits t e)
unread-read t e of_limits of_defaults l d =
    least-two (at_key (unread_limit t) (codes "LowLimit") e.section ++ at_key (unread_limit t) (codes "HighLimit") e.section) (unread_defaults t e) of_limits of_defaults (earlier of_limits of_defaults) refl l d

-- what is read of a numeric type
numeric_is : (t : DataType) (e : Entry) (found : DataType → Entry → List SheetFault) → data_type_of e ≡ Some t → is_numeric t ≡ true → in_numeric found e ≡ found t e
numeric_is t e found is numeric = ap (λ o. option_map_or (λ u. cond (is_numeric u) (found u e) []) o []) is ∙ ap (λ b. cond b (found t e) []) numeric

pub numeric-unread : (t : DataType) (e : Entry) → data_type_of e ≡ Some t → is_numeric t ≡ true → least_fault (unread_limits t e) ≡ least_fault (in_numeric unread_limits e)
numeric-unread t e is numeric = ap least_fault (sym (numeric_is t e unread_limits is numeric))

-- what is wrong with a default, and with both
default_cases : (t : DataType) (e : Entry) (low high : Option ℤ) (d : Default) → low_limit t e ≡ low → high_limit t e ≡ high → is_bad_default t e d ≡ is_outside t low high d
default_cases t e low high (number value) l h = rw (l, h) refl
default_cases t e low high (pairs digits) l h = refl
default_cases t e low high absent l h = refl
default_cases t e low high (node_id n) l h = refl
default_cases t e low high (text bytes) l h = refl

module _ (t : DataType) (e : Entry) (values : Values) (is : data_type_of e ≡ Some t) (low : low_limit t e ≡ value_of values.low) (high : high_limit t e ≡ value_of values.high) where
  stated_cases : (key : Option Property) (stated : Option Stated) → IsStatedAt t key stated → option_map_or (bad_default_at e) key [] ≡ option_map_or (default_found t values) stated []
  stated_cases None None h = refl
  stated_cases None (Some s) h = absurd h
  stated_cases (Some k) None h = absurd h
  stated_cases (Some k) (Some s) h =
      ap (λ o. fault_if (option_map_or (λ u. is_bad_default u e (stated_default u k)) o false) BadDefault k.line) is
      ∙ ap (λ d. fault_if (is_bad_default t e d) BadDefault k.line) h.0
      ∙ ap (λ b. fault_if b BadDefault k.line) (default_cases t e (value_of values.low) (value_of values.high) (default_view s.preset) low high)
      ∙ ap (fault_if (is_outside t (value_of values.low) (value_of values.high) (default_view s.preset)) BadDefault) h.1

  bad-read : IsStatedAt t (property_at (codes "DefaultValue") e.section) values.default → IsStatedAt t (property_at (codes "ParameterValue") e.section) values.parameter → bad_default e ≡ defaults_found t values
  bad-read h p =
      ap (λ fs. fs ++ option_map_or (bad_default_at e) (property_at (codes "ParameterValue") e.section) []) (stated_cases (property_at (codes "DefaultValue") e.section) values.default h)
      ∙ ap (λ fs. option_map_or (default_found t values) values.default [] ++ fs) (stated_cases (property_at (codes "ParameterValue") e.section) values.parameter p)

pub numeric-values : (t : DataType) (e : Entry) (values : Values) → data_type_of e ≡ Some t → is_numeric t ≡ true
    → IsLimitAt t (property_at (codes "LowLimit") e.section) values.low → IsLimitAt t (property_at (codes "HighLimit") e.section) values.high
    → IsDefaultAt t (property_at (codes "DefaultValue") e.section) values.default → IsDefaultAt t (property_at (codes "ParameterValue") e.section) values.parameter
    → AreValues t e values
numeric-values t e values is numeric low high default parameter =
    let low_same = limit-read (codes "LowLimit") t e values.low numeric low in
    let high_same = limit-read (codes "HighLimit") t e values.high numeric high in
    let default_stated = numeric-stated t (property_at (codes "DefaultValue") e.section) values.default numeric default in
    let parameter_stated = numeric-stated t (property_at (codes "ParameterValue") e.section) values.parameter numeric parameter in
    record {
      low = low_same;
      high = high_same;
      default = default-read t (property_at (codes "DefaultValue") e.section) (property_at (codes "ParameterValue") e.section) values.default values.parameter default_stated parameter_stated;
      limits = numeric_is t e bad_limits is numeric ∙ limits-read t e values.low values.high numeric low high;
      defaults = bad-read t e values is low_same high_same default_stated parameter_stated;
    }

-- what is read of a string or a domain
pub text-values : (t : DataType) (e : Entry) (default parameter : Option Stated) → data_type_of e ≡ Some t → is_numeric t ≡ false
    → IsStatedAt t (property_at (codes "DefaultValue") e.section) default → IsStatedAt t (property_at (codes "ParameterValue") e.section) parameter
    → AreValues t e (record { low = None; high = None; default = default; parameter = parameter })
text-values t e default parameter is other of_default of_parameter =
    let values : Values = record { low = None; high = None; default = default; parameter = parameter } in
    let low : low_limit t e ≡ None = rw other refl in
    let high : high_limit t e ≡ None = rw other refl in
    record {
      low = low;
      high = high;
      default = default-read t (property_at (codes "DefaultValue") e.section) (property_at (codes "ParameterValue") e.section) default parameter of_default of_parameter;
      limits = ap (λ o. option_map_or (λ u. cond (is_numeric u) (bad_limits u e) []) o []) is ∙ ap (λ b. cond b (bad_limits t e) []) other;
      defaults = bad-read t e values is low high of_default of_parameter;
    }

-- ---- results

pub at_ok : {X E : Type 0} (P : X → Type 0) (r : Result X E) (x : X) → r ≡ Ok x → IfOk r P → P x
at_ok P r x is h = subst (λ s. IfOk s P) is h

pub checked-ok : {X : Type 0} (check : ℕ) (r : Result X SheetFault) (x : X) → Ok x ≡ checked check r → r ≡ Ok x
checked-ok check (Ok y) x h = let same : y ≡ x = cc in ap Ok same
checked-ok check (Err f) x h = absurd (cc)

pub checked-err : {X : Type 0} (check : ℕ) (r : Result X SheetFault) (g : Finding) → Err g ≡ checked check r → Some g ≡ option_map (found_by check) (result_err r)
checked-err check (Ok y) g h = absurd (cc)
checked-err check (Err f) g h = let same : g ≡ found_by check f = cc in ap Some same
