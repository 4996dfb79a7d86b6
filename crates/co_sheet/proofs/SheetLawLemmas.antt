-- What every sheet keeps follows where no line is at fault and no check finds anything.
use Rattle.std.proofs.Common.{◌≡◌, ℕ, Bool, true, false, cond, not, ◌&&◌, ◌||◌, if◌then◌else◌, List, [], ◌∷◌, ◌++◌, Option, Some, None, Result, Ok, Err, refl, sym, ap, ◌∙◌, subst, arith, map, eqb, ltb, IfSome, IsSomeAnd, ◌≤◌, length, pos, eqb-true, ltb-true, leb, ℤ, ◌≤ℤ◌, int_le, codes}
use Rattle.std.proofs.lemmas.Int.{ints}
use Rattle.std.proofs.lemmas.Bool.Decides.{nat_tests}
use Rattle.std.proofs.lemmas.Bool.{and_parts}
use Rattle.std.specs.Prelude.{is_none, flat_map, filter_map, option_map, option_and_then, unwrap_or}
use Rattle.std.specs.List.{list_any, AllByRecursion, before_first, after_first}
use Rattle.std.specs.Option.{option_map_or, option_or}
use Rattle.std.specs.Result.{result_ok}
use Rattle.std.proofs.lemmas.List.Elements.{All-from_recursion}
use Rattle.co_value.specs.declared.data_type.DataType.{DataType}
use Rattle.co_value.specs.declared.data_type.DataType.TheVariants.{Boolean, Integer8, Integer16, Integer24, Integer32, Integer40, Integer48, Integer56, Integer64, Unsigned8, Unsigned16, Unsigned24, Unsigned32, Unsigned40, Unsigned48, Unsigned56, Unsigned64, VisibleString, OctetString, Domain}
use Rattle.co_value.specs.Types.{code_of, least_of, greatest_of, InRange}
use Rattle.co_profile.specs.declared.access.Access.{Access}
use Rattle.co_sheet_rows.specs.declared.fault.FaultKind.TheVariants.{BadLimits, BadDefault, BadType, MissingMandatory}
use Rattle.co_sheet_rows.specs.declared.fault.SheetFault.{SheetFault}
use Rattle.co_sheet_text.specs.declared.numeral.NumeralFault.{NumeralFault}
use Rattle.co_sheet_text.specs.Text.{trim, same_name}
use Rattle.co_sheet_text.specs.declared.section_kind.SectionKind.TheVariants.{DeviceCommissioning}
use Rattle.co_sheet_text.specs.Properties.{property_number}
use Rattle.co_sheet_text.specs.Sections.{Property, TextSection, property_at, section_at}
use Rattle.co_sheet_text.specs.Numerals.{result_map, unsigned_number}
use Rattle.co_sheet.specs.ObjectLists.{is_one_of, Listing, listings, is_listed}
use Rattle.co_profile.specs.FixedTypes.{fixed_type_of}
use Rattle.co_sheet.specs.Entries.{is_domain, listed_objects, Entry, entries_of, data_type_with, type_code, data_type_of, access_of}
use Rattle.co_sheet.specs.Limits.{Default, absent, number, node_id, text, pairs, number_at_type, is_node_id, is_plus, node_id_sum, numeric_default, is_numeric, limit_at, low_limit, high_limit, at_most, is_in_type, is_in_limits, stated_default, value_property}
use Rattle.co_sheet.specs.Commissioning.{node_id_with, node_id_of}
use Rattle.co_sheet.specs.Checks.{left_out_codes, fault_if, at_key, is_bad_type, bad_type, type_line, in_numeric, limit_outside, is_low_first, rests_on_low, limits_crossed, bad_limits, is_bad_default, bad_default_at, bad_default, checks}
use Rattle.co_sheet.specs.Accepted.{first_found}
use Rattle.co_value.specs.Keys.{is_key_before, same_key}
use Rattle.co_sheet.specs.Content.{Row, row_with, row_of, insert_before, in_order, ObjectRow, object_row_of, rows_in, objects_in, content_of}
use Rattle.co_sheet_text.specs.SectionLaws.{AllDiffer, ValuesShort, IsParsed}
use Rattle.co_sheet.specs.SheetLaws.{limit_or, IsWithinRow, IsSheetRow, has_object, IsSheetContent, KeepsEntries}
use Rattle.co_sheet.proofs.TypeLemmas.{data_type_with-code_of}
use Rattle.co_sheet.proofs.AcceptedLemmas.{FindsNothing, finds-nothing, no_fault, both-empty, two-empty, denied, objects-all, listed-all}
use Rattle.co_sheet.proofs.EachEntryLemmas.{found_all, cons_all, entries-short, entries-from}
use Rattle.co_sheet.proofs.KeyLemmas.{listings-differ, entries-differ, increase, numbers_ordered, keys_ordered}

-- ---- numbers of a type

pub from_test : (x y : ℤ) → int_le x y ≡ true → x ≤ℤ y
from_test x y h = grind (arith, ints)

between : (low high value : ℤ) → (int_le low value && int_le value high) ≡ true → (low ≤ℤ value) × (value ≤ℤ high)
between low high value h =
    let parts = and_parts (int_le low value) (int_le value high) h in
    (from_test low value parts.0, from_test value high parts.1)

-- what the test of a numeric type says
in_range : (t : DataType) (value : ℤ) → is_numeric t ≡ true → is_in_type t value ≡ true → InRange t value
in_range Boolean value numeric h = between _ _ value h
in_range Integer8 value numeric h = between _ _ value h
in_range Integer16 value numeric h = between _ _ value h
in_range Integer24 value numeric h = between _ _ value h
in_range Integer32 value numeric h = between _ _ value h
in_range Integer40 value numeric h = between _ _ value h
in_range Integer48 value numeric h = between _ _ value h
in_range Integer56 value numeric h = between _ _ value h
in_range Integer64 value numeric h = between _ _ value h
in_range Unsigned8 value numeric h = between _ _ value h
in_range Unsigned16 value numeric h = between _ _ value h
in_range Unsigned24 value numeric h = between _ _ value h
in_range Unsigned32 value numeric h = between _ _ value h
in_range Unsigned40 value numeric h = between _ _ value h
in_range Unsigned48 value numeric h = between _ _ value h
in_range Unsigned56 value numeric h = between _ _ value h
in_range Unsigned64 value numeric h = between _ _ value h
in_range VisibleString value numeric h = absurd (cc)
in_range OctetString value numeric h = absurd (cc)
in_range Domain value numeric h = absurd (cc)

-- the ends of a numeric type are its numbers; other types have none
record HaveEnds (t : DataType) : Type 0 where
  least : InRange t (limit_or None (least_of t))
  greatest : InRange t (limit_or None (greatest_of t))

ends : (t : DataType) → is_numeric t ≡ true → HaveEnds t
ends Boolean h = record { least = (from_test _ _ refl, from_test _ _ refl); greatest = (from_test _ _ refl, from_test _ _ refl) }
ends Integer8 h = record { least = (from_test _ _ refl, from_test _ _ refl); greatest = (from_test _ _ refl, from_test _ _ refl) }
ends Integer16 h = record { least = (from_test _ _ refl, from_test _ _ refl); greatest = (from_test _ _ refl, from_test _ _ refl) }
ends Integer24 h = record { least = (from_test _ _ refl, from_test _ _ refl); greatest = (from_test _ _ refl, from_test _ _ refl) }
ends Integer32 h = record { least = (from_test _ _ refl, from_test _ _ refl); greatest = (from_test _ _ refl, from_test _ _ refl) }
ends Integer40 h = record { least = (from_test _ _ refl, from_test _ _ refl); greatest = (from_test _ _ refl, from_test _ _ refl) }
ends Integer48 h = record { least = (from_test _ _ refl, from_test _ _ refl); greatest = (from_test _ _ refl, from_test _ _ refl) }
ends Integer56 h = record { least = (from_test _ _ refl, from_test _ _ refl); greatest = (from_test _ _ refl, from_test _ _ refl) }
ends Integer64 h = record { least = (from_test _ _ refl, from_test _ _ refl); greatest = (from_test _ _ refl, from_test _ _ refl) }
ends Unsigned8 h = record { least = (from_test _ _ refl, from_test _ _ refl); greatest = (from_test _ _ refl, from_test _ _ refl) }
ends Unsigned16 h = record { least = (from_test _ _ refl, from_test _ _ refl); greatest = (from_test _ _ refl, from_test _ _ refl) }
ends Unsigned24 h = record { least = (from_test _ _ refl, from_test _ _ refl); greatest = (from_test _ _ refl, from_test _ _ refl) }
ends Unsigned32 h = record { least = (from_test _ _ refl, from_test _ _ refl); greatest = (from_test _ _ refl, from_test _ _ refl) }
ends Unsigned40 h = record { least = (from_test _ _ refl, from_test _ _ refl); greatest = (from_test _ _ refl, from_test _ _ refl) }
ends Unsigned48 h = record { least = (from_test _ _ refl, from_test _ _ refl); greatest = (from_test _ _ refl, from_test _ _ refl) }
ends Unsigned56 h = record { least = (from_test _ _ refl, from_test _ _ refl); greatest = (from_test _ _ refl, from_test _ _ refl) }
ends Unsigned64 h = record { least = (from_test _ _ refl, from_test _ _ refl); greatest = (from_test _ _ refl, from_test _ _ refl) }
ends VisibleString h = absurd (cc)
ends OctetString h = absurd (cc)
ends Domain h = absurd (cc)

no_ends : (t : DataType) → is_numeric t ≡ false → (least_of t ≡ None) × (greatest_of t ≡ None)
no_ends VisibleString h = (refl, refl)
no_ends OctetString h = (refl, refl)
no_ends Domain h = (refl, refl)
no_ends t h = absurd (cc)

-- a number of a type is between its ends
from_low : (t : DataType) (value : ℤ) → InRange t value → limit_or None (least_of t) ≤ℤ value
from_low t value h = below_end (least_of t) h.0
  where
    below_end : (end : Option ℤ) → IsSomeAnd end (λ e. e ≤ℤ value) → limit_or None end ≤ℤ value
    below_end None h = absurd h
    below_end (Some e) h = h

to_high : (t : DataType) (value : ℤ) → InRange t value → value ≤ℤ limit_or None (greatest_of t)
to_high t value h = above_end (greatest_of t) h.1
  where
    above_end : (end : Option ℤ) → IsSomeAnd end (λ e. value ≤ℤ e) → value ≤ℤ limit_or None end
    above_end None h = absurd h
    above_end (Some e) h = h

-- a limit that is stated is the one that counts
stated_low : (t : DataType) (value : ℤ) → InRange t value → limit_or (Some value) (least_of t) ≡ value
stated_low t value h = at_end (least_of t) h.0
  where
    at_end : (end : Option ℤ) → IsSomeAnd end (λ e. e ≤ℤ value) → limit_or (Some value) end ≡ value
    at_end None h = absurd h
    at_end (Some e) h = refl

stated_high : (t : DataType) (value : ℤ) → InRange t value → limit_or (Some value) (greatest_of t) ≡ value
stated_high t value h = at_end (greatest_of t) h.1
  where
    at_end : (end : Option ℤ) → IsSomeAnd end (λ e. value ≤ℤ e) → limit_or (Some value) end ≡ value
    at_end None h = absurd h
    at_end (Some e) h = refl

low-in-type : (t : DataType) (low : Option ℤ) → is_numeric t ≡ true → IfSome low (InRange t) → InRange t (limit_or low (least_of t))
low-in-type t None numeric h = (ends t numeric).least
low-in-type t (Some value) numeric h = subst (InRange t) (sym (stated_low t value h)) h

high-in-type : (t : DataType) (high : Option ℤ) → is_numeric t ≡ true → IfSome high (InRange t) → InRange t (limit_or high (greatest_of t))
high-in-type t None numeric h = (ends t numeric).greatest
high-in-type t (Some value) numeric h = subst (InRange t) (sym (stated_high t value h)) h

-- the smallest number is at most the greatest
numeric-order : (t : DataType) (low high : Option ℤ) → is_numeric t ≡ true → IfSome low (InRange t) → IfSome high (InRange t) → IfSome low (λ a. IfSome high (λ b. a ≤ℤ b))
    → limit_or low (least_of t) ≤ℤ limit_or high (greatest_of t)
numeric-order t None None numeric h k order = from_low t (limit_or None (greatest_of t)) (ends t numeric).greatest
numeric-order t None (Some b) numeric h k order = subst (λ v. limit_or None (least_of t) ≤ℤ v) (sym (stated_high t b k)) (from_low t b k)
numeric-order t (Some a) None numeric h k order = subst (λ v. v ≤ℤ limit_or None (greatest_of t)) (sym (stated_low t a h)) (to_high t a h)
numeric-order t (Some a) (Some b) numeric h k order =
    subst (λ v. limit_or (Some a) (least_of t) ≤ℤ v) (sym (stated_high t b k)) (subst (λ v. v ≤ℤ b) (sym (stated_low t a h)) order)

order-kept : (t : DataType) (low high : Option ℤ) (numeric : Bool) → is_numeric t ≡ numeric → IfSome low (InRange t) → IfSome high (InRange t) → IfSome low (λ a. IfSome high (λ b. a ≤ℤ b))
    → limit_or low (least_of t) ≤ℤ limit_or high (greatest_of t)
order-kept t low high true is h k order = numeric-order t low high is h k order
order-kept t low high false is h k order =
    let none = no_ends t is in
    rw (none.0, none.1) (from_test (pos 0) (pos 0) refl)

-- ---- limits

-- a string or a domain has none
no_limit : (name : List ℕ) (t : DataType) (e : Entry) → is_numeric t ≡ false → limit_at name t e ≡ None
no_limit name t e h = rw h refl

inside_cases : (t : DataType) (limit : Option ℤ) (k : Property) → is_numeric t ≡ true → limit_outside t limit k ≡ [] → IfSome limit (InRange t)
inside_cases t None k numeric h = tt
inside_cases t (Some value) k numeric h = in_range t value numeric (denied (is_in_type t value) (no_fault _ BadLimits k.line h))

-- a limit that is stated is a number of the type
inside : (t : DataType) (found : Property → Option ℤ) (o : Option Property) → is_numeric t ≡ true → option_map_or (limit_outside t (option_and_then found o)) o [] ≡ [] → IfSome (option_and_then found o) (InRange t)
inside t found None numeric h = tt
inside t found (Some k) numeric h = inside_cases t (found k) k numeric h

order_cases : (low high least greatest : Option ℤ) → at_most (option_or low least) (option_or high greatest) ≡ true → IfSome low (λ a. IfSome high (λ b. a ≤ℤ b))
order_cases None high least greatest h = tt
order_cases (Some a) None least greatest h = tt
order_cases (Some a) (Some b) least greatest h = from_test a b h

none_above : (low : Option ℤ) → IfSome low (λ a. IfSome None (λ (b : ℤ). a ≤ℤ b))
none_above None = tt
none_above (Some a) = tt

-- a test that fails beside one that passes
fails_alone : (a rests : Bool) → rests ≡ false → (a && not rests) ≡ false → a ≡ false
fails_alone false rests is h = refl
fails_alone true false is h = absurd (cc)
fails_alone true true is h = absurd (cc)

-- two limits that are stated are in order
in_limit_order : (low : Option ℤ) (found : Property → Option ℤ) (least greatest : Option ℤ) (high_key low_key : Option Property) (rests : Bool) → rests ≡ false
    → option_map_or (λ (k : Property). fault_if (not (at_most (option_or low least) (option_or (option_and_then found high_key) greatest)) && not rests) BadLimits k.line) (option_or high_key low_key) [] ≡ []
    → IfSome low (λ a. IfSome (option_and_then found high_key) (λ b. a ≤ℤ b))
in_limit_order low found least greatest None low_key rests is h = none_above low
in_limit_order low found least greatest (Some k) low_key rests is h = order_cases low (found k) least greatest (denied _ (fails_alone _ rests is (no_fault _ BadLimits k.line h)))

-- what is found of both limits rests on no LowLimit that is good
good_low : (t : DataType) (limit : Option ℤ) (low_key high_key : Option Property) → option_map_or (limit_outside t limit) low_key [] ≡ [] → (is_low_first low_key high_key && not (option_map_or (is_in_type t) limit true)) ≡ false
good_low t limit None None h = refl
good_low t limit None (Some k) h = refl
good_low t limit (Some l) high_key h = and_fails (is_low_first (Some l) high_key) _ (no_fault _ BadLimits l.line h)
  where
    and_fails : (a b : Bool) → b ≡ false → (a && b) ≡ false
    and_fails true b is = is
    and_fails false b is = refl

-- what the limits of a row keep
pub record AreLimits (t : DataType) (low high : Option ℤ) : Type 0 where
  pub low_in_type : IfSome low (InRange t)
  pub high_in_type : IfSome high (InRange t)
  pub in_order : IfSome low (λ a. IfSome high (λ b. a ≤ℤ b))

abbrev limit_in : List ℕ → DataType → Entry → Bool → Option ℤ
limit_in name t e numeric = if numeric then option_and_then (λ k. result_ok (number_at_type t k.value)) (property_at name e.section) else None

limits_cases : (t : DataType) (e : Entry) (numeric : Bool) → is_numeric t ≡ numeric → cond numeric (bad_limits t e) [] ≡ []
    → AreLimits t (limit_in (codes "LowLimit") t e numeric) (limit_in (codes "HighLimit") t e numeric)
limits_cases t e false is h = record { low_in_type = tt; high_in_type = tt; in_order = tt }
limits_cases t e true is h =
    let found : Property → Option ℤ = λ k. result_ok (number_at_type t k.value) in
    let low_key = property_at (codes "LowLimit") e.section in
    let high_key = property_at (codes "HighLimit") e.section in
    let low : low_limit t e ≡ option_and_then found low_key = rw is refl in
    let high : high_limit t e ≡ option_and_then found high_key = rw is refl in
    let crossed = option_map_or (limits_crossed t e) (option_or high_key low_key) [] in
    let above = at_key (limit_outside t (high_limit t e)) (codes "HighLimit") e.section in
    let below = at_key (limit_outside t (low_limit t e)) (codes "LowLimit") e.section in
    let parts = both-empty (below ++ above) crossed h in
    let ends = both-empty below above parts.0 in
    record {
      low_in_type = inside t found low_key is (ap (λ l. option_map_or (limit_outside t l) low_key []) (sym low) ∙ ends.0);
      high_in_type = inside t found high_key is (ap (λ l. option_map_or (limit_outside t l) high_key []) (sym high) ∙ ends.1);
      in_order = in_limit_order (option_and_then found low_key) found (least_of t) (greatest_of t) high_key low_key (rests_on_low t e) (good_low t (low_limit t e) low_key high_key ends.0)
          (ap (λ l. option_map_or (λ (k : Property). fault_if (not (at_most (option_or l (least_of t)) (option_or (option_and_then found high_key) (greatest_of t))) && not (rests_on_low t e)) BadLimits k.line) (option_or high_key low_key) []) (sym low)
          ∙ ap (λ u. option_map_or (λ (k : Property). fault_if (not (at_most (option_or (low_limit t e) (least_of t)) (option_or u (greatest_of t))) && not (rests_on_low t e)) BadLimits k.line) (option_or high_key low_key) []) (sym high)
          ∙ parts.1);
    }

limits-kept : (t : DataType) (e : Entry) → cond (is_numeric t) (bad_limits t e) [] ≡ [] → AreLimits t (low_limit t e) (high_limit t e)
limits-kept t e h = limits_cases t e (is_numeric t) refl h

-- ---- defaults

-- the form of a default of a numeric type
abbrev IsNumericForm : Default → Type 0
IsNumericForm absent = Unit {0}
IsNumericForm (number value) = Unit {0}
IsNumericForm (node_id n) = Unit {0}
IsNumericForm (text bytes) = ⊥
IsNumericForm (pairs digits) = ⊥

from_node_id : (r : Result ℕ NumeralFault) → IsNumericForm (unwrap_or (result_ok (result_map node_id r)) absent)
from_node_id (Ok n) = tt
from_node_id (Err e) = tt

from_number : (r : Result ℤ NumeralFault) → IsNumericForm (unwrap_or (result_ok (result_map number r)) absent)
from_number (Ok n) = tt
from_number (Err e) = tt

from_sum : (a b : Bool) (left right : List ℕ)
    → IsNumericForm (unwrap_or (result_ok (cond a (result_map node_id (unsigned_number right)) (cond b (result_map node_id (unsigned_number left)) (Err NumeralFault.Malformed)))) absent)
from_sum true b left right = from_node_id (unsigned_number right)
from_sum false true left right = from_node_id (unsigned_number left)
from_sum false false left right = tt

from_value : (a b : Bool) (t : DataType) (value left right : List ℕ)
    → IsNumericForm (unwrap_or (result_ok (cond a (Ok (node_id 0)) (cond b (node_id_sum left right) (result_map number (number_at_type t value))))) absent)
from_value true b t value left right = tt
from_value false true t value left right = from_sum (is_node_id left) (is_node_id right) left right
from_value false false t value left right = from_number (number_at_type t value)

numeric-form : (t : DataType) (value : List ℕ) → IsNumericForm (unwrap_or (result_ok (numeric_default t value)) absent)
numeric-form t value =
    from_value (is_node_id value) (list_any is_plus value) t value (trim (before_first is_plus value)) (trim (after_first is_plus value))

-- the form of a default of a type
abbrev IsForm : DataType → Default → Type 0
IsForm t absent = Unit {0}
IsForm t (number value) = is_numeric t ≡ true
IsForm t (node_id n) = is_numeric t ≡ true
IsForm t (text bytes) = t ≡ VisibleString
IsForm t (pairs digits) = t ≡ OctetString

of_numeric : (t : DataType) (d : Default) → is_numeric t ≡ true → IsNumericForm d → IsForm t d
of_numeric t absent h form = tt
of_numeric t (number value) h form = h
of_numeric t (node_id n) h form = h
of_numeric t (text bytes) h form = absurd form
of_numeric t (pairs digits) h form = absurd form

default-form : (t : DataType) (o : Option Property) → IsForm t (option_map_or (stated_default t) o absent)
default-form t None = tt
default-form VisibleString (Some k) = refl
default-form OctetString (Some k) = refl
default-form Domain (Some k) = tt
default-form Boolean (Some k) = of_numeric Boolean _ refl (numeric-form Boolean k.value)
default-form Integer8 (Some k) = of_numeric Integer8 _ refl (numeric-form Integer8 k.value)
default-form Integer16 (Some k) = of_numeric Integer16 _ refl (numeric-form Integer16 k.value)
default-form Integer24 (Some k) = of_numeric Integer24 _ refl (numeric-form Integer24 k.value)
default-form Integer32 (Some k) = of_numeric Integer32 _ refl (numeric-form Integer32 k.value)
default-form Integer40 (Some k) = of_numeric Integer40 _ refl (numeric-form Integer40 k.value)
default-form Integer48 (Some k) = of_numeric Integer48 _ refl (numeric-form Integer48 k.value)
default-form Integer56 (Some k) = of_numeric Integer56 _ refl (numeric-form Integer56 k.value)
default-form Integer64 (Some k) = of_numeric Integer64 _ refl (numeric-form Integer64 k.value)
default-form Unsigned8 (Some k) = of_numeric Unsigned8 _ refl (numeric-form Unsigned8 k.value)
default-form Unsigned16 (Some k) = of_numeric Unsigned16 _ refl (numeric-form Unsigned16 k.value)
default-form Unsigned24 (Some k) = of_numeric Unsigned24 _ refl (numeric-form Unsigned24 k.value)
default-form Unsigned32 (Some k) = of_numeric Unsigned32 _ refl (numeric-form Unsigned32 k.value)
default-form Unsigned40 (Some k) = of_numeric Unsigned40 _ refl (numeric-form Unsigned40 k.value)
default-form Unsigned48 (Some k) = of_numeric Unsigned48 _ refl (numeric-form Unsigned48 k.value)
default-form Unsigned56 (Some k) = of_numeric Unsigned56 _ refl (numeric-form Unsigned56 k.value)
default-form Unsigned64 (Some k) = of_numeric Unsigned64 _ refl (numeric-form Unsigned64 k.value)

domain-absent : (o : Option Property) → option_map_or (stated_default Domain) o absent ≡ absent
domain-absent None = refl
domain-absent (Some k) = refl

default_cases : (t : DataType) (e : Entry) (o : Option Property) → data_type_of e ≡ Some t → option_map_or (bad_default_at e) o [] ≡ []
    → is_bad_default t e (option_map_or (stated_default t) o absent) ≡ false
default_cases t e None is h = refl
default_cases t e (Some k) is h =
    no_fault _ BadDefault k.line (ap (λ o. fault_if (option_map_or (λ u. is_bad_default u e (stated_default u k)) o false) BadDefault k.line) (sym is) ∙ h)

-- of two properties the one that counts
default_chosen : (t : DataType) (e : Entry) (first second : Option Property) → is_bad_default t e (option_map_or (stated_default t) first absent) ≡ false → is_bad_default t e (option_map_or (stated_default t) second absent) ≡ false
    → is_bad_default t e (option_map_or (stated_default t) (option_or first second) absent) ≡ false
default_chosen t e None second h k = k
default_chosen t e (Some first) second h k = h

either : {X : Type 0} (P : X → Type 0) (first second : Option X) → IfSome first P → IfSome second P → IfSome (option_or first second) P
either P None second h k = k
either P (Some first) second h k = h

above_low-kept : (limit : Option ℤ) (value : ℤ) → at_most limit (Some value) ≡ true → IfSome limit (λ low. low ≤ℤ value)
above_low-kept None value h = tt
above_low-kept (Some low) value h = from_test low value h

below_high-kept : (limit : Option ℤ) (value : ℤ) → at_most (Some value) limit ≡ true → IfSome limit (λ high. value ≤ℤ high)
below_high-kept None value h = tt
below_high-kept (Some high) value h = from_test value high h

within : (t : DataType) (e : Entry) (access : Access) (value : ℤ) → is_numeric t ≡ true → is_in_limits t e value ≡ true → IsWithinRow (row_with e t access) value
within t e access value numeric h =
    let last = and_parts (is_in_type t value && at_most (low_limit t e) (Some value)) (at_most (Some value) (high_limit t e)) h in
    let first = and_parts (is_in_type t value) (at_most (low_limit t e) (Some value)) last.0 in
    record {
      in_type = in_range t value numeric first.0;
      above_low = above_low-kept (low_limit t e) value first.1;
      below_high = below_high-kept (high_limit t e) value last.1;
    }

-- a default that a value states is as short as the value
abbrev IsShort : Default → Type 0
IsShort absent = Unit {0}
IsShort (number value) = Unit {0}
IsShort (node_id n) = Unit {0}
IsShort (text bytes) = length bytes ≤ 512
IsShort (pairs digits) = length digits ≤ 512

numeric_short : (d : Default) → IsNumericForm d → IsShort d
numeric_short absent form = tt
numeric_short (number value) form = tt
numeric_short (node_id n) form = tt
numeric_short (text bytes) form = absurd form
numeric_short (pairs digits) form = absurd form

default-short : (t : DataType) (o : Option Property) → IfSome o (λ k. length k.value ≤ 512) → IsShort (option_map_or (stated_default t) o absent)
default-short t None h = tt
default-short VisibleString (Some k) h = h
default-short OctetString (Some k) h = h
default-short Domain (Some k) h = tt
default-short Boolean (Some k) h = numeric_short _ (numeric-form Boolean k.value)
default-short Integer8 (Some k) h = numeric_short _ (numeric-form Integer8 k.value)
default-short Integer16 (Some k) h = numeric_short _ (numeric-form Integer16 k.value)
default-short Integer24 (Some k) h = numeric_short _ (numeric-form Integer24 k.value)
default-short Integer32 (Some k) h = numeric_short _ (numeric-form Integer32 k.value)
default-short Integer40 (Some k) h = numeric_short _ (numeric-form Integer40 k.value)
default-short Integer48 (Some k) h = numeric_short _ (numeric-form Integer48 k.value)
default-short Integer56 (Some k) h = numeric_short _ (numeric-form Integer56 k.value)
default-short Integer64 (Some k) h = numeric_short _ (numeric-form Integer64 k.value)
default-short Unsigned8 (Some k) h = numeric_short _ (numeric-form Unsigned8 k.value)
default-short Unsigned16 (Some k) h = numeric_short _ (numeric-form Unsigned16 k.value)
default-short Unsigned24 (Some k) h = numeric_short _ (numeric-form Unsigned24 k.value)
default-short Unsigned32 (Some k) h = numeric_short _ (numeric-form Unsigned32 k.value)
default-short Unsigned40 (Some k) h = numeric_short _ (numeric-form Unsigned40 k.value)
default-short Unsigned48 (Some k) h = numeric_short _ (numeric-form Unsigned48 k.value)
default-short Unsigned56 (Some k) h = numeric_short _ (numeric-form Unsigned56 k.value)
default-short Unsigned64 (Some k) h = numeric_short _ (numeric-form Unsigned64 k.value)

-- ---- fixed types

third_false : (a b c : Bool) → ((a || b) || c) ≡ false → c ≡ false
third_false true b c h = absurd (cc)
third_false false true c h = absurd (cc)
third_false false false c h = h

fixed_cases : (e : Entry) (code : Option ℕ) (line : ℕ) (t fixed : DataType) → option_and_then data_type_with code ≡ Some t → fixed_type_of e.key ≡ Some fixed
    → fault_if (option_map_or (is_bad_type e) code false) BadType line ≡ [] → t ≡ fixed
fixed_cases e None line t fixed is at_key good = absurd (cc)
fixed_cases e (Some code) line t fixed is at_key good =
    let none = is_none (data_type_with code) && not (is_one_of left_out_codes (Some code)) in
    let not_domain = is_domain e && not (eqb code (code_of Domain)) in
    let other = third_false none not_domain (option_map_or (λ u. not (eqb code (code_of u))) (fixed_type_of e.key) false) (no_fault _ BadType line good) in
    let apart : not (eqb code (code_of fixed)) ≡ false = ap (λ o. option_map_or (λ u. not (eqb code (code_of u))) o false) (sym at_key) ∙ other in
    let same : code ≡ code_of fixed = eqb-true code (code_of fixed) (denied _ apart) in
    let both_types : ◌≡◌ {A = Option DataType} (Some t) (Some fixed) = sym is ∙ ap data_type_with same ∙ data_type_with-code_of fixed in
    cc

-- ---- a row

-- what the checks that its laws need find in an entry
abbrev found_in : Entry → List SheetFault
found_in e = bad_type e ++ (in_numeric bad_limits e ++ bad_default e)

row_laws : (e : Entry) (t : DataType) (access : Access) → data_type_of e ≡ Some t → 0x1000 ≤ e.key.index → ValuesShort e.section → found_in e ≡ [] → IsSheetRow (row_with e t access)
row_laws e t access is from values none =
    let default_key = property_at (codes "DefaultValue") e.section in
    let parts = both-empty (bad_type e) (in_numeric bad_limits e ++ bad_default e) none in
    let rest = both-empty (in_numeric bad_limits e) (bad_default e) parts.1 in
    let limits_good : cond (is_numeric t) (bad_limits t e) [] ≡ [] = ap (λ o. option_map_or (λ u. cond (is_numeric u) (bad_limits u e) []) o []) (sym is) ∙ rest.0 in
    let limits = limits-kept t e limits_good in
    let parameter_key = property_at (codes "ParameterValue") e.section in
    let value_key = value_property e in
    let defaults_good = both-empty (option_map_or (bad_default_at e) default_key []) (option_map_or (bad_default_at e) parameter_key []) rest.1 in
    let good = default_chosen t e parameter_key default_key (default_cases t e parameter_key is defaults_good.1) (default_cases t e default_key is defaults_good.0) in
    let form = default-form t value_key in
    let short_at : (name : List ℕ) → IfSome (property_at name e.section) (λ k. length k.value ≤ 512) = λ name. found_all (λ (k : Property). length k.value ≤ 512) (λ k. same_name k.name name) e.section.properties values in
    let short = default-short t value_key (either (λ (k : Property). length k.value ≤ 512) parameter_key default_key (short_at (codes "ParameterValue")) (short_at (codes "DefaultValue"))) in
    record {
      from_1000 = from;
      low_in_type = limits.low_in_type;
      high_in_type = limits.high_in_type;
      limits_in_order = limits.in_order;
      lowest_in_type = λ h. low-in-type t (low_limit t e) h limits.low_in_type;
      highest_in_type = λ h. high-in-type t (high_limit t e) h limits.high_in_type;
      lowest_to_highest = order-kept t (low_limit t e) (high_limit t e) (is_numeric t) refl limits.low_in_type limits.high_in_type limits.in_order;
      no_low = λ h. no_limit (codes "LowLimit") t e h;
      no_high = λ h. no_limit (codes "HighLimit") t e h;
      number_within = λ value h. within t e access value (subst (IsForm t) h form) (denied _ (subst (λ d. is_bad_default t e d ≡ false) h good));
      node_id_numeric = λ n h. subst (IsForm t) h form;
      text_at_string = λ bytes h. subst (IsForm t) h form;
      pairs_at_octets = λ digits h. subst (IsForm t) h form;
      pairs_paired = λ digits h. denied _ (subst (λ d. is_bad_default t e d ≡ false) h good);
      pairs_digits = λ digits h. (and_parts _ _ (denied _ (subst (λ d. is_bad_default t e d ≡ false) h good))).1;
      text_short = λ bytes h. subst IsShort h short;
      pairs_short = λ digits h. subst IsShort h short;
      domain_absent = λ h. ap (λ u. option_map_or (stated_default u) value_key absent) h ∙ domain-absent value_key;
      fixed_type = λ fixed h. fixed_cases e (type_code e) (type_line e) t fixed is h parts.0;
    }

row_cases : (e : Entry) (t : Option DataType) (access : Option Access) → data_type_of e ≡ t → 0x1000 ≤ e.key.index → ValuesShort e.section → found_in e ≡ [] → IfSome (option_and_then (λ u. option_map (row_with e u) access) t) IsSheetRow
row_cases e None access is from values none = tt
row_cases e (Some t) None is from values none = tt
row_cases e (Some t) (Some access) is from values none = row_laws e t access is from values none

each-row : (es : List Entry) → AllByRecursion (λ (e : Entry). 0x1000 ≤ e.key.index) es → AllByRecursion (λ (e : Entry). ValuesShort e.section) es → flat_map found_in es ≡ [] → AllByRecursion IsSheetRow (filter_map row_of es)
each-row [] from values none = tt
each-row (e ∷ es) from values none =
    let apart = both-empty (found_in e) (flat_map found_in es) none in
    cons_all IsSheetRow (row_of e) (filter_map row_of es) (row_cases e (data_type_of e) (access_of e) refl from.0 values.0 apart.0) (each-row es from.1 values.1 apart.1)

insert_all : {X : Type 0} (P : X → Type 0) (lt : X → X → Bool) (x : X) (ys : List X) → P x → AllByRecursion P ys → AllByRecursion P (insert_before lt x ys)
insert_all P lt x [] h all = (h, tt)
insert_all P lt x (y ∷ ys) h all =
    elim (lt y x) as (λ b. AllByRecursion P (cond b (y ∷ insert_before lt x ys) (x ∷ y ∷ ys))) [ true ↦ (all.0, insert_all P lt x ys h all.1) | false ↦ (h, all) ]

in_order_all : {X : Type 0} (P : X → Type 0) (lt : X → X → Bool) (xs : List X) → AllByRecursion P xs → AllByRecursion P (in_order lt xs)
in_order_all P lt [] all = tt
in_order_all P lt (x ∷ xs) all = insert_all P lt x (in_order lt xs) all.0 (in_order_all P lt xs all.1)

-- ---- the mandatory objects

abbrev any_at : ℕ → List ObjectRow → Bool
any_at index objects = list_any (λ (o : ObjectRow). eqb o.index index) objects

or_swap : (a b c : Bool) → (a || (b || c)) ≡ (b || (a || c))
or_swap true true c = refl
or_swap true false c = refl
or_swap false true c = refl
or_swap false false c = refl

any-insert : (index : ℕ) (lt : ObjectRow → ObjectRow → Bool) (x : ObjectRow) (ys : List ObjectRow) → any_at index (insert_before lt x ys) ≡ any_at index (x ∷ ys)
any-insert index lt x [] = refl
any-insert index lt x (y ∷ ys) =
    elim (lt y x) as (λ b. any_at index (cond b (y ∷ insert_before lt x ys) (x ∷ y ∷ ys)) ≡ any_at index (x ∷ y ∷ ys))
    [ true ↦ ap (λ b. eqb y.index index || b) (any-insert index lt x ys) ∙ or_swap (eqb y.index index) (eqb x.index index) (any_at index ys) | false ↦ refl ]

any-in_order : (index : ℕ) (lt : ObjectRow → ObjectRow → Bool) (xs : List ObjectRow) → any_at index (in_order lt xs) ≡ any_at index xs
any-in_order index lt [] = refl
any-in_order index lt (x ∷ xs) = any-insert index lt x (in_order lt xs) ∙ ap (λ b. eqb x.index index || b) (any-in_order index lt xs)

any-map : {X : Type 0} (f : X → ℕ) (index : ℕ) (xs : List X) → list_any (λ x. eqb (f x) index) xs ≡ list_any (λ n. eqb n index) (map f xs)
any-map f index [] = refl
any-map f index (x ∷ xs) = ap (λ b. eqb (f x) index || b) (any-map f index xs)

has-listed : (sections : List TextSection) (index : ℕ) → FindsNothing sections → is_listed sections index ≡ true → has_object (objects_in sections) index ≡ true
has-listed sections index nothing h =
    let objects = filter_map object_row_of (listed_objects sections) in
    any-in_order index (λ o p. ltb o.index p.index) objects
    ∙ any-map (λ (o : ObjectRow). o.index) index objects
    ∙ ap (list_any (λ n. eqb n index)) (objects-all sections nothing)
    ∙ sym (any-map (λ (l : Listing). l.index) index (listings sections))
    ∙ h

three : (a b c : Bool) → (a && (b && (c && true))) ≡ true → (a ≡ true) × (b ≡ true) × (c ≡ true)
three true true true h = (refl, refl, refl)
three true true false h = absurd (cc)
three true false c h = absurd (cc)
three false b c h = absurd (cc)

-- ---- the node-ID

node_id_within : (n : ℕ) (a b : Bool) → leb 1 n ≡ a → leb n 127 ≡ b → IfSome (cond (a && b) (Some n) None) (λ id. (1 ≤ id) × (id ≤ 127))
node_id_within n true true h k = (grind (arith, nat_tests), grind (arith, nat_tests))
node_id_within n true false h k = tt
node_id_within n false b h k = tt

number_within : (o : Option ℕ) → IfSome (option_and_then node_id_with o) (λ id. (1 ≤ id) × (id ≤ 127))
number_within None = tt
number_within (Some n) = node_id_within n (leb 1 n) (leb n 127) refl refl

property_within : (o : Option Property) → IfSome (option_and_then node_id_of o) (λ id. (1 ≤ id) × (id ≤ 127))
property_within None = tt
property_within (Some k) = number_within (property_number k)

node_id-range : (o : Option TextSection) → IfSome (option_and_then (λ s. option_and_then node_id_of (property_at (codes "NodeID") s)) o) (λ id. (1 ≤ id) × (id ≤ 127))
node_id-range None = tt
node_id-range (Some s) = property_within (property_at (codes "NodeID") s)

-- ---- a sheet

pub content_laws : (sections : List TextSection) → IsParsed sections → KeepsEntries sections → first_found checks sections ≡ None → IsSheetContent (content_of sections)
content_laws sections parsed kept found =
    let nothing = finds-nothing sections found in
    let entries = entries_of sections in
    let listed = listings-differ sections parsed nothing.listed_twice in
    let indices : AllDiffer eqb (map (λ o. o.index) (listed_objects sections)) = subst (AllDiffer eqb) (sym (listed-all sections nothing)) listed in
    let object_indices : AllDiffer eqb (map (λ o. o.index) (filter_map object_row_of (listed_objects sections))) = subst (AllDiffer eqb) (sym (objects-all sections nothing)) listed in
    let keys : AllDiffer same_key (map (λ r. r.key) (filter_map row_of entries)) = subst (AllDiffer same_key) (sym kept) (entries-differ sections parsed indices) in
    let last = two-empty (in_numeric bad_limits) bad_default entries nothing.bad_limits nothing.bad_default in
    let found_none = two-empty bad_type (λ e. in_numeric bad_limits e ++ bad_default e) entries nothing.bad_type last in
    let values_short = entries-short sections parsed.values_short in
    let mandatory = three (is_listed sections 0x1000) (is_listed sections 0x1001) (is_listed sections 0x1018) (denied _ (no_fault _ MissingMandatory 0 nothing.missing_mandatory)) in
    record {
      each_row = All-from_recursion IsSheetRow (rows_in sections) (in_order_all IsSheetRow (λ r s. is_key_before r.key s.key) (filter_map row_of entries) (each-row entries (entries-from sections) values_short found_none));
      keys_increase = increase (λ (r : Row). r.key) is_key_before same_key keys_ordered (filter_map row_of entries) keys;
      indices_increase = λ i j d h k. ltb-true _ _ (increase (λ (o : ObjectRow). o.index) ltb eqb numbers_ordered (filter_map object_row_of (listed_objects sections)) object_indices i j d h k);
      has_1000 = has-listed sections 0x1000 nothing mandatory.0;
      has_1001 = has-listed sections 0x1001 nothing mandatory.1;
      has_1018 = has-listed sections 0x1018 nothing mandatory.2;
      node_id_range = node_id-range (section_at DeviceCommissioning sections);
    }
