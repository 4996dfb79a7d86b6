-- An entry without its limits at fault.
use Rattle.std.proofs.Common.{◌≡◌, ℕ, Bool, true, false, cond, not, ◌||◌, List, [], ◌++◌, Option, Some, None, refl, sym, ap, ◌∙◌, subst, ℤ, Result, Ok, Err}
use Rattle.std.specs.Prelude.{◌&&◌, codes, option_and_then}
use Rattle.std.specs.List.{list_any}
use Rattle.std.specs.Option.{option_map_or}
use Rattle.std.specs.Result.{result_ok}
use Rattle.co_value.specs.declared.data_type.DataType.{DataType}
use Rattle.co_sheet_text.specs.declared.numeral.NumeralFault.{NumeralFault}
use Rattle.co_sheet_rows.specs.declared.fault.FaultKind.{FaultKind}
use Rattle.co_sheet_rows.specs.declared.fault.FaultKind.TheVariants.{BadLimits, BadDefault}
use Rattle.co_sheet_rows.specs.declared.fault.SheetFault.{SheetFault}
use Rattle.co_sheet_text.specs.Text.{same_name}
use Rattle.co_sheet_text.specs.Sections.{Property, TextSection, property_at}
use Rattle.co_sheet_text.specs.SectionLaws.{IsParsed}
use Rattle.co_sheet.specs.Entries.{Entry, data_type_of}
use Rattle.co_sheet.specs.Limits.{Default, number, pairs, absent, node_id, text, number_at_type, is_numeric, low_limit, high_limit, at_most, stated_default}
use Rattle.co_sheet.specs.Checks.{fault_if, in_numeric, is_low_first, unread, unread_limit, unread_default, unread_limits}
use Rattle.co_sheet_faults.specs.Soundness.{unless, sound_entries, is_data_type_at_fault, is_outside, sound_low, sound_high}
use Rattle.co_sheet_faults.specs.AllChecks.{of_sound_type, limits_found, default_found, is_default_at_fault}
use Rattle.co_sheet_faults.proofs.ElementLemmas.{same-some, In, found-by}
use Rattle.co_sheet_faults.proofs.CutChecks.{Cut, cut_entry, key-cut, IsApart, entry-same}
use Rattle.co_sheet_faults.proofs.CutEntries.{is_on, bad_lines, bad-at, kept, key-kept}
use Rattle.co_sheet_faults.proofs.CutProperties.{first-named, second-named, limits-at, hit-first, hit-second, apart-lines}

-- ---- limits at fault are as if they were absent

abbrev pub limit_in : DataType → Option Property → Option ℤ
limit_in t o = option_and_then (λ k. result_ok (number_at_type t k.value)) o

abbrev low_bad : DataType → Option Property → Bool
low_bad t ol = is_outside t (limit_in t ol)

abbrev high_bad : DataType → Option Property → Option Property → Bool
high_bad t ol oh = is_outside t (limit_in t oh) || (not (at_most (limit_in t ol) (limit_in t oh)) && not (is_low_first ol oh && low_bad t ol))

limit-none : (t : DataType) (b : Bool) (o : Option Property) → limit_in t (cond b None o) ≡ cond b None (limit_in t o)
limit-none t true o = refl
limit-none t false o = refl

low-left : (t : DataType) (b : Bool) (o : Option Property) → low_bad t o ≡ b → low_bad t (cond b None o) ≡ false
low-left t true o h = refl
low-left t false o h = h

most-none : (v : Option ℤ) → at_most v None ≡ true
most-none None = refl
most-none (Some v) = refl

first-false : (a b : Bool) → (a || b) ≡ false → a ≡ false
first-false true b h = absurd (cc)
first-false false b h = refl

high-left : (t : DataType) (low b : Bool) (ol oh : Option Property) → high_bad t ol oh ≡ b → high_bad t (cond low None ol) (cond b None oh) ≡ false
high-left t low true ol oh h =
    ap (λ c. not c && not (is_low_first (cond low None ol) None && low_bad t (cond low None ol))) (most-none (limit_in t (cond low None ol)))
high-left t true false ol oh h =
    ap (λ c. c || false) (first-false (is_outside t (limit_in t oh)) (not (at_most (limit_in t ol) (limit_in t oh)) && not (is_low_first ol oh && low_bad t ol)) h)
high-left t false false ol oh h = h

-- a limit at fault can be read
read-limit : (r : Result ℤ NumeralFault) (line : ℕ) (test : Option ℤ → Bool) → test None ≡ false → test (result_ok r) ≡ true → unread r line ≡ []
read-limit (Ok v) line test none h = refl
read-limit (Err f) line test none h = absurd (cc)

read-cases : (t : DataType) (o : Option Property) (test : Option ℤ → Bool) (b : Bool) → test None ≡ false → test (limit_in t o) ≡ b → option_map_or (unread_limit t) (cond b None o) [] ≡ option_map_or (unread_limit t) o []
read-cases t None test true none h = refl
read-cases t (Some k) test true none h = sym (read-limit (number_at_type t k.value) k.line test none h)
read-cases t o test false none h = refl

high-none : (v : Option ℤ) → not (at_most v None) ≡ false
high-none v = ap (λ c. not c) (most-none v)

none-found : (b : Bool) (kind : FaultKind) (o : Option Property) → b ≡ false → option_map_or (λ k. fault_if b kind k.line) o [] ≡ []
none-found b kind None h = refl
none-found b kind (Some k) h = ap (λ c. fault_if c kind k.line) h

kept-as : (bad : ℕ → Bool) (b : Bool) (o : Option Property) → ((k : Property) → o ≡ Some k → bad k.line ≡ b) → kept bad o ≡ cond b None o
kept-as bad true None h = refl
kept-as bad false None h = refl
kept-as bad b (Some k) h = ap (λ c. cond c None (Some k)) (h k refl)

-- what a limit's checks find of an entry, by its properties: the numbers that can't be read, the limits, and what a default is held against
abbrev pub unread_by : DataType → Option Property → Option Property → List SheetFault → List SheetFault
unread_by t ol oh defaults = option_map_or (unread_limit t) ol [] ++ option_map_or (unread_limit t) oh [] ++ defaults

abbrev limits_by : DataType → Option Property → Option Property → List SheetFault
limits_by t ol oh =
    option_map_or (λ k. fault_if (low_bad t ol) BadLimits k.line) ol [] ++ option_map_or (λ k. fault_if (high_bad t ol oh) BadLimits k.line) oh []

record IsLeft (t : DataType) (ol oh nl nh : Option Property) : Type 0 where
  pub unread : (defaults : List SheetFault) → unread_by t nl nh defaults ≡ unread_by t ol oh defaults
  pub none : limits_by t nl nh ≡ []
  pub low : cond (low_bad t nl) None (limit_in t nl) ≡ cond (low_bad t ol) None (limit_in t ol)
  pub high : cond (high_bad t nl nh) None (limit_in t nh) ≡ cond (high_bad t ol oh) None (limit_in t oh)

left : (t : DataType) (ol oh nl nh : Option Property) → nl ≡ cond (low_bad t ol) None ol → nh ≡ cond (high_bad t ol oh) None oh → IsLeft t ol oh nl nh
left t ol oh nl nh is_low is_high =
    let cl = cond (low_bad t ol) None ol in
    let ch = cond (high_bad t ol oh) None oh in
    let low_good = low-left t (low_bad t ol) ol refl in
    let high_good = high-left t (low_bad t ol) (high_bad t ol oh) ol oh refl in
    subst (λ (q : Option Property). IsLeft t ol oh q nh) (sym is_low)
    (subst (λ (q : Option Property). IsLeft t ol oh cl q) (sym is_high)
    (record {
      unread = λ defaults.
          ap (λ (fs : List SheetFault). fs ++ option_map_or (unread_limit t) ch [] ++ defaults) (read-cases t ol (is_outside t) (low_bad t ol) refl refl)
          ∙ ap (λ (fs : List SheetFault). option_map_or (unread_limit t) ol [] ++ fs ++ defaults)
          (read-cases t oh (λ v. is_outside t v || (not (at_most (limit_in t ol) v) && not (is_low_first ol oh && low_bad t ol))) (high_bad t ol oh)
          (ap (λ c. c && not (is_low_first ol oh && low_bad t ol)) (high-none (limit_in t ol))) refl);
      none =
          ap (λ (fs : List SheetFault). fs ++ option_map_or (λ k. fault_if (high_bad t cl ch) BadLimits k.line) ch []) (none-found (low_bad t cl) BadLimits cl low_good)
          ∙ none-found (high_bad t cl ch) BadLimits ch high_good;
      low = ap (λ (b : Bool). cond b None (limit_in t cl)) low_good ∙ limit-none t (low_bad t ol) ol;
      high = ap (λ (b : Bool). cond b None (limit_in t ch)) high_good ∙ limit-none t (high_bad t ol oh) oh;
    }))

-- ---- of an entry, without its limits at fault

pub record AreLeft (c : Cut) (e : Entry) (limits_after defaults_after : List SheetFault) : Type 0 where
  pub unread : of_sound_type (in_numeric unread_limits) (cut_entry c e) ≡ of_sound_type (in_numeric unread_limits) e
  pub limits : of_sound_type (in_numeric limits_found) (cut_entry c e) ≡ limits_after
  pub defaults : of_sound_type default_found (cut_entry c e) ≡ defaults_after

pub typed-none : (found : Entry → List SheetFault) (e : Entry) → is_data_type_at_fault e ≡ true → of_sound_type found e ≡ []
typed-none found e h = ap (λ (b : Bool). unless b (found e)) h

pub typed-all : (found : Entry → List SheetFault) (e : Entry) → is_data_type_at_fault e ≡ false → of_sound_type found e ≡ found e
typed-all found e h = ap (λ (b : Bool). unless b (found e)) h

pub numeric-none : (found : DataType → Entry → List SheetFault) (e : Entry) → data_type_of e ≡ None → in_numeric found e ≡ []
numeric-none found e h = ap (λ (o : Option DataType). option_map_or (λ t. cond (is_numeric t) (found t e) []) o []) h

pub numeric-at : (found : DataType → Entry → List SheetFault) (e : Entry) (t : DataType) (b : Bool) → data_type_of e ≡ Some t → is_numeric t ≡ b → in_numeric found e ≡ cond b (found t e) []
numeric-at found e t b h n =
    ap (λ (o : Option DataType). option_map_or (λ u. cond (is_numeric u) (found u e) []) o []) h ∙ ap (λ (c : Bool). cond c (found t e) []) n

-- a default's fault, by the limits that it is held against
pub default-test : (t : DataType) (e f : Entry) (d : Default) → sound_low t e ≡ sound_low t f
    → sound_high t e ≡ sound_high t f → is_default_at_fault t e d ≡ is_default_at_fault t f d
default-test t e f (number v) low high = rw (low, high) refl
default-test t e f (pairs digits) low high = refl
default-test t e f absent low high = refl
default-test t e f (node_id n) low high = refl
default-test t e f (text bytes) low high = refl

abbrev pub test_of : Entry → Property → Bool
test_of e k = option_map_or (λ t. is_default_at_fault t e (stated_default t k)) (data_type_of e) false

pub test-same : (e f : Entry) (k : Property) (o : Option DataType) → data_type_of e ≡ o → data_type_of f ≡ o → ((t : DataType) → o ≡ Some t → is_default_at_fault t e (stated_default t k) ≡ is_default_at_fault t f (stated_default t k))
    → test_of e k ≡ test_of f k
test-same e f k None is_e is_f same = rw (is_e, is_f) refl
test-same e f k (Some t) is_e is_f same =
    ap (λ (o : Option DataType). option_map_or (λ u. is_default_at_fault u e (stated_default u k)) o false) is_e
    ∙ same t refl
    ∙ sym (ap (λ (o : Option DataType). option_map_or (λ u. is_default_at_fault u f (stated_default u k)) o false) is_f)

abbrev pub default_by : (Property → Bool) → Option Property → Option Property → List SheetFault
default_by test dv pv = option_map_or (λ k. fault_if (test k) BadDefault k.line) dv [] ++ option_map_or (λ k. fault_if (test k) BadDefault k.line) pv []

option-same : (f g : Property → List SheetFault) (o : Option Property) → ((k : Property) → f k ≡ g k) → option_map_or f o [] ≡ option_map_or g o []
option-same f g None h = refl
option-same f g (Some k) h = h k

pub default-same : (test other : Property → Bool) (dv pv : Option Property) → ((k : Property) → test k ≡ other k) → default_by test dv pv ≡ default_by other dv pv
default-same test other dv pv h =
    let by : (k : Property) → fault_if (test k) BadDefault k.line ≡ fault_if (other k) BadDefault k.line = λ k. ap (λ b. fault_if b BadDefault k.line) (h k) in
    ap (λ (l : List SheetFault). l ++ option_map_or (λ k. fault_if (test k) BadDefault k.line) pv []) (option-same _ _ dv by)
    ∙ ap (λ (l : List SheetFault). option_map_or (λ k. fault_if (other k) BadDefault k.line) dv [] ++ l) (option-same _ _ pv by)

-- ---- the limits of an entry

abbrev pub low_at : Entry → Option Property
low_at e = property_at (codes "LowLimit") e.section

abbrev pub high_at : Entry → Option Property
high_at e = property_at (codes "HighLimit") e.section

abbrev pub default_at : Entry → Option Property
default_at e = property_at (codes "DefaultValue") e.section

abbrev pub value_at : Entry → Option Property
value_at e = property_at (codes "ParameterValue") e.section

low-numeric : (t : DataType) (e : Entry) → is_numeric t ≡ true → low_limit t e ≡ limit_in t (low_at e)
low-numeric t e h = ap (λ b. cond b (limit_in t (low_at e)) None) h

high-numeric : (t : DataType) (e : Entry) → is_numeric t ≡ true → high_limit t e ≡ limit_in t (high_at e)
high-numeric t e h = ap (λ b. cond b (limit_in t (high_at e)) None) h

low-text : (t : DataType) (e : Entry) → is_numeric t ≡ false → low_limit t e ≡ None
low-text t e h = ap (λ b. cond b (limit_in t (low_at e)) None) h

high-text : (t : DataType) (e : Entry) → is_numeric t ≡ false → high_limit t e ≡ None
high-text t e h = ap (λ b. cond b (limit_in t (high_at e)) None) h

abbrev pub low_of : DataType → Option ℤ → Option ℤ
low_of t low = cond (is_outside t low) None low

abbrev pub high_of : DataType → Bool → Option ℤ → Option ℤ → Option ℤ
high_of t first low high = cond (is_outside t high || (not (at_most low high) && not (first && is_outside t low))) None high

-- LowLimit is on an earlier line than HighLimit
abbrev pub first_at : Entry → Bool
first_at e = is_low_first (low_at e) (high_at e)

abbrev found_with : DataType → Option ℤ → Option ℤ → Entry → List SheetFault
found_with t low high e =
    option_map_or (λ k. fault_if (is_outside t low) BadLimits k.line) (low_at e) []
    ++ option_map_or (λ k. fault_if (is_outside t high || (not (at_most low high) && not (first_at e && is_outside t low))) BadLimits k.line) (high_at e) []

limits-numeric : (t : DataType) (e : Entry) → is_numeric t ≡ true → limits_found t e ≡ limits_by t (low_at e) (high_at e)
limits-numeric t e h =
    ap (λ (v : Option ℤ). found_with t v (high_limit t e) e) (low-numeric t e h)
    ∙ ap (λ (v : Option ℤ). found_with t (limit_in t (low_at e)) v e) (high-numeric t e h)

sound-low-numeric : (t : DataType) (e : Entry) → is_numeric t ≡ true → sound_low t e ≡ cond (low_bad t (low_at e)) None (limit_in t (low_at e))
sound-low-numeric t e h = ap (λ (v : Option ℤ). low_of t v) (low-numeric t e h)

sound-high-numeric : (t : DataType) (e : Entry) → is_numeric t ≡ true → sound_high t e ≡ cond (high_bad t (low_at e) (high_at e)) None (limit_in t (high_at e))
sound-high-numeric t e h =
    ap (λ (v : Option ℤ). high_of t (first_at e) v (high_limit t e)) (low-numeric t e h) ∙ ap (λ (v : Option ℤ). high_of t (first_at e) (limit_in t (low_at e)) v) (high-numeric t e h)

sound-low-text : (t : DataType) (e : Entry) → is_numeric t ≡ false → sound_low t e ≡ None
sound-low-text t e h = ap (λ (v : Option ℤ). low_of t v) (low-text t e h)

sound-high-text : (t : DataType) (e : Entry) → is_numeric t ≡ false → sound_high t e ≡ None
sound-high-text t e h =
    ap (λ (v : Option ℤ). high_of t (first_at e) v (high_limit t e)) (low-text t e h) ∙ ap (λ (v : Option ℤ). high_of t (first_at e) None v) (high-text t e h)

-- ---- without its limits at fault

abbrev pub limits_cut : List TextSection → Cut
limits_cut ss = record { bad = bad_lines (of_sound_type (in_numeric limits_found)) ss; first = codes "LowLimit"; second = codes "HighLimit" }

pub limits-apart : (ss : List TextSection) → IsApart (limits_cut ss)
limits-apart ss = record { object_type = refl; compact = refl; compact_pdo = refl; data_type = refl; access = refl; mapping = refl }

abbrev LimitsLeft : List TextSection → Entry → Type 0
LimitsLeft ss e = AreLeft (limits_cut ss) e [] (of_sound_type default_found e)

limits-numeric-left : (ss : List TextSection) → IsParsed ss → (e : Entry) → In e (sound_entries ss) → is_data_type_at_fault e ≡ false → (t : DataType) → data_type_of e ≡ Some t → is_numeric t ≡ true
    → IsLeft t (low_at e) (high_at e) (low_at (cut_entry (limits_cut ss) e)) (high_at (cut_entry (limits_cut ss) e))
limits-numeric-left ss parsed e in_e typed t is_t n =
    let c = limits_cut ss in
    let check = of_sound_type (in_numeric limits_found) in
    let low = codes "LowLimit" in
    let high = codes "HighLimit" in
    let ol = low_at e in
    let oh = high_at e in
    let whole : check e ≡ limits_by t ol oh = typed-all (in_numeric limits_found) e typed ∙ numeric-at limits_found e t true is_t n ∙ limits-numeric t e n in
    let bad_low : (k : Property) → ol ≡ Some k → c.bad k.line ≡ low_bad t ol = λ k is.
    bad-at low high check limits-at ss parsed.lines_rise e in_e k (found-by (λ j. same_name j.name low) e.section.properties k is).among
    ∙ ap (λ (fs : List SheetFault). list_any (is_on k.line) fs) whole
    ∙ hit-first (λ j. low_bad t ol) (λ j. high_bad t ol oh) BadLimits k ol oh is (λ j is_j. apart-lines ss parsed e in_e low high refl k j is is_j) in
    let bad_high : (k : Property) → oh ≡ Some k → c.bad k.line ≡ high_bad t ol oh = λ k is.
    bad-at low high check limits-at ss parsed.lines_rise e in_e k (found-by (λ j. same_name j.name high) e.section.properties k is).among
    ∙ ap (λ (fs : List SheetFault). list_any (is_on k.line) fs) whole
    ∙ hit-second (λ j. high_bad t ol oh) (λ j. low_bad t ol) BadLimits k ol oh is (λ j is_j. apart-lines ss parsed e in_e high low refl k j is is_j) in
    left t ol oh (low_at (cut_entry c e)) (high_at (cut_entry c e))
    (key-kept c low (λ k h. first-named _ (same_name k.name high) h) ss parsed e in_e ∙ kept-as c.bad (low_bad t ol) ol bad_low)
    (key-kept c high (λ k h. second-named (same_name k.name low) _ h) ss parsed e in_e ∙ kept-as c.bad (high_bad t ol oh) oh bad_high)

limits-typed : (ss : List TextSection) → IsParsed ss → (e : Entry) → In e (sound_entries ss) → is_data_type_at_fault e ≡ false → (t : DataType) → data_type_of e ≡ Some t → (b : Bool) → is_numeric t ≡ b → LimitsLeft ss e
limits-typed ss parsed e in_e typed t is_t b n =
    let c = limits_cut ss in
    let f = cut_entry c e in
    let same = entry-same c (limits-apart ss) e in
    let typed_f = same.is_type_bad ∙ typed in
    let is_f = same.data_type ∙ is_t in
    let default = key-cut c (codes "DefaultValue") refl e.section in
    let value = key-cut c (codes "ParameterValue") refl e.section in
    limits-by-number ss e t b n typed typed_f is_t is_f default value (λ numeric. limits-numeric-left ss parsed e in_e typed t is_t numeric)
  where
    limits-by-number : (ss : List TextSection) (e : Entry) (t : DataType) (b : Bool) → is_numeric t ≡ b → is_data_type_at_fault e ≡ false → is_data_type_at_fault (cut_entry (limits_cut ss) e) ≡ false
        → data_type_of e ≡ Some t → data_type_of (cut_entry (limits_cut ss) e) ≡ Some t
        → default_at (cut_entry (limits_cut ss) e) ≡ default_at e → value_at (cut_entry (limits_cut ss) e) ≡ value_at e
        → (is_numeric t ≡ true → IsLeft t (low_at e) (high_at e) (low_at (cut_entry (limits_cut ss) e)) (high_at (cut_entry (limits_cut ss) e))) → LimitsLeft ss e
    limits-by-number ss e t false n typed typed_f is_t is_f default value left_of =
        let f = cut_entry (limits_cut ss) e in
        let test : (k : Property) → test_of f k ≡ test_of e k = λ k.
        test-same f e k (Some t) is_f is_t (λ u is_u. let same_type = same-some t u is_u in
        subst (λ (v : DataType). is_default_at_fault v f (stated_default v k) ≡ is_default_at_fault v e (stated_default v k)) same_type
        (default-test t f e (stated_default t k) (sound-low-text t f n ∙ sym (sound-low-text t e n)) (sound-high-text t f n ∙ sym (sound-high-text t e n)))) in
        record {
          unread = typed-all (in_numeric unread_limits) f typed_f ∙ numeric-at unread_limits f t false is_f n ∙ sym (typed-all (in_numeric unread_limits) e typed ∙ numeric-at unread_limits e t false is_t n);
          limits = typed-all (in_numeric limits_found) f typed_f ∙ numeric-at limits_found f t false is_f n;
          defaults = typed-all default_found f typed_f
              ∙ default-same (test_of f) (test_of e) (default_at f) (value_at f) test
              ∙ ap (λ (o : Option Property). default_by (test_of e) o (value_at f)) default
              ∙ ap (λ (o : Option Property). default_by (test_of e) (default_at e) o) value
              ∙ sym (typed-all default_found e typed);
        }
    limits-by-number ss e t true n typed typed_f is_t is_f default value left_of =
        let f = cut_entry (limits_cut ss) e in
        let l = left_of n in
        let test : (k : Property) → test_of f k ≡ test_of e k = λ k.
        test-same f e k (Some t) is_f is_t (λ u is_u. let same_type = same-some t u is_u in
        subst (λ (v : DataType). is_default_at_fault v f (stated_default v k) ≡ is_default_at_fault v e (stated_default v k)) same_type
        (default-test t f e (stated_default t k) (sound-low-numeric t f n ∙ l.low ∙ sym (sound-low-numeric t e n)) (sound-high-numeric t f n ∙ l.high ∙ sym (sound-high-numeric t e n)))) in
        let defaults_of : Option Property → Option Property → List SheetFault = λ dv pv. option_map_or (unread_default t) dv [] ++ option_map_or (unread_default t) pv [] in
        record {
          unread = typed-all (in_numeric unread_limits) f typed_f ∙ numeric-at unread_limits f t true is_f n
              ∙ l.unread (defaults_of (default_at f) (value_at f))
              ∙ ap (λ (o : Option Property). unread_by t (low_at e) (high_at e) (defaults_of o (value_at f))) default
              ∙ ap (λ (o : Option Property). unread_by t (low_at e) (high_at e) (defaults_of (default_at e) o)) value
              ∙ sym (typed-all (in_numeric unread_limits) e typed ∙ numeric-at unread_limits e t true is_t n);
          limits = typed-all (in_numeric limits_found) f typed_f ∙ numeric-at limits_found f t true is_f n ∙ limits-numeric t f n ∙ l.none;
          defaults = typed-all default_found f typed_f
              ∙ default-same (test_of f) (test_of e) (default_at f) (value_at f) test
              ∙ ap (λ (o : Option Property). default_by (test_of e) o (value_at f)) default
              ∙ ap (λ (o : Option Property). default_by (test_of e) (default_at e) o) value
              ∙ sym (typed-all default_found e typed);
        }

limits-cases : (ss : List TextSection) → IsParsed ss → (e : Entry) → In e (sound_entries ss) → (bad : Bool) (o : Option DataType) → is_data_type_at_fault e ≡ bad → data_type_of e ≡ o → LimitsLeft ss e
limits-cases ss parsed e in_e true o typed is_t =
    let c = limits_cut ss in
    let f = cut_entry c e in
    let typed_f = (entry-same c (limits-apart ss) e).is_type_bad ∙ typed in
    record {
      unread = typed-none (in_numeric unread_limits) f typed_f ∙ sym (typed-none (in_numeric unread_limits) e typed);
      limits = typed-none (in_numeric limits_found) f typed_f;
      defaults = typed-none default_found f typed_f ∙ sym (typed-none default_found e typed);
    }
limits-cases ss parsed e in_e false None typed is_t =
    let c = limits_cut ss in
    let f = cut_entry c e in
    let same = entry-same c (limits-apart ss) e in
    let typed_f = same.is_type_bad ∙ typed in
    let is_f = same.data_type ∙ is_t in
    let default = key-cut c (codes "DefaultValue") refl e.section in
    let value = key-cut c (codes "ParameterValue") refl e.section in
    record {
      unread = typed-all (in_numeric unread_limits) f typed_f ∙ numeric-none unread_limits f is_f ∙ sym (typed-all (in_numeric unread_limits) e typed ∙ numeric-none unread_limits e is_t);
      limits = typed-all (in_numeric limits_found) f typed_f ∙ numeric-none limits_found f is_f;
      defaults = typed-all default_found f typed_f
          ∙ default-same (test_of f) (test_of e) (default_at f) (value_at f) (λ k. test-same f e k None is_f is_t (λ t is_t2. absurd (cc)))
          ∙ ap (λ (o : Option Property). default_by (test_of e) o (value_at f)) default
          ∙ ap (λ (o : Option Property). default_by (test_of e) (default_at e) o) value
          ∙ sym (typed-all default_found e typed);
    }
limits-cases ss parsed e in_e false (Some t) typed is_t = limits-typed ss parsed e in_e typed t is_t (is_numeric t) refl

pub limits-left : (ss : List TextSection) → IsParsed ss → (e : Entry) → In e (sound_entries ss) → LimitsLeft ss e
limits-left ss parsed e in_e = limits-cases ss parsed e in_e (is_data_type_at_fault e) (data_type_of e) refl refl
