-- What every sheet keeps, at rows, contents and sections that keep it and at others that break one law each.
use Rattle.std.proofs.Common.{◌≡◌, ℕ, false, true, List, [], ◌∷◌, Option, Some, None, refl, sym, subst, arith, ℤ, pos, neg_ℤ, codes, lit<, ◌≤◌, length, lit≤, replicate}
use Rattle.std.proofs.lemmas.Int.{ints}
use Rattle.std.specs.List.{list_all}
use Rattle.co_sheet_text.specs.Names.{is_hexadecimal_digit}
use Rattle.std.specs.Prelude.{AllPairs}
use Rattle.std.proofs.lemmas.List.Elements.{All-from_recursion}
use Rattle.std.proofs.lemmas.List.Kept.{AllPairs-cons}
use Rattle.co_profile.specs.FixedTypes.{fixed_type_of}
use Rattle.co_value.specs.declared.data_type.DataType.{DataType}
use Rattle.co_value.specs.declared.data_type.DataType.TheVariants.{Integer8, Unsigned8, Unsigned32, VisibleString, OctetString, Domain}
use Rattle.co_profile.specs.declared.access.Access.TheVariants.{Rw}
use Rattle.co_sheet_rows.specs.declared.object.ObjectType.TheVariants.{Var}
use Rattle.co_sheet.specs.Limits.{Default, absent, number, node_id, text, pairs, is_pairs}
use Rattle.co_sheet.specs.Content.{Row, ObjectRow, SheetContent}
use Rattle.co_sheet.specs.SheetLaws.{low_of, high_of, IsWithinRow, IsSheetRow, IsRowBefore, IsObjectBefore, IsSheetContent}
use Rattle.co_sheet.proofs.SheetLawLemmas.{from_test}

-- an entry of an index that nothing fixes
abbrev row : DataType → Option ℤ → Option ℤ → Default → Row
row t low high default = record {
  key = record { index = 0x2000; sub = 0 };
  data_type = t;
  access = Rw;
  low = low;
  high = high;
  default = default;
  mappable = false;
  name = None;
  line = 1;
}

-- an entry of a communication object
abbrev row_at : ℕ → ℕ → DataType → Row
row_at index sub t = record (row t None None absent) { key = record { index = index; sub = sub } }

-- ---- the ends of what an entry may hold

stated_ends : (low_of (row Integer8 (Some (pos 1)) (Some (pos 2)) absent) ≡ pos 1) × (high_of (row Integer8 (Some (pos 1)) (Some (pos 2)) absent) ≡ pos 2)
stated_ends = (refl, refl)

ends_of_type : (low_of (row Integer8 None None absent) ≡ neg_ℤ (pos 128)) × (high_of (row Integer8 None None absent) ≡ pos 127)
ends_of_type = (refl, refl)

no_ends : (low_of (row VisibleString None None absent) ≡ pos 0) × (high_of (row VisibleString None None absent) ≡ pos 0)
no_ends = (refl, refl)

-- ---- rows that keep the laws

-- limits at the ends of the type, and a default at its high limit
limited_row : IsSheetRow (row Integer8 (Some (neg_ℤ (pos 128))) (Some (pos 127)) (number (pos 127)))
limited_row = record {
  from_1000 = lit≤ tt;
  low_in_type = (from_test _ _ refl, from_test _ _ refl);
  high_in_type = (from_test _ _ refl, from_test _ _ refl);
  limits_in_order = from_test _ _ refl;
  lowest_in_type = λ h. (from_test _ _ refl, from_test _ _ refl);
  highest_in_type = λ h. (from_test _ _ refl, from_test _ _ refl);
  lowest_to_highest = from_test _ _ refl;
  no_low = λ h. absurd (cc);
  no_high = λ h. absurd (cc);
  number_within = λ value h. let same : value ≡ pos 127 = cc in subst (IsWithinRow _) (sym same) within_127;
  node_id_numeric = λ n h. absurd (cc);
  text_at_string = λ bytes h. absurd (cc);
  pairs_at_octets = λ digits h. absurd (cc);
  pairs_paired = λ digits h. absurd (cc);
  pairs_digits = λ digits h. absurd (cc);
  text_short = λ bytes h. absurd (cc);
  pairs_short = λ digits h. absurd (cc);
  domain_absent = λ h. absurd (cc);
  fixed_type = λ t h. absurd (cc);
}
  where
    within_127 : IsWithinRow (row Integer8 (Some (neg_ℤ (pos 128))) (Some (pos 127)) (number (pos 127))) (pos 127)
    within_127 = record {
      in_type = (from_test _ _ refl, from_test _ _ refl);
      above_low = from_test _ _ refl;
      below_high = from_test _ _ refl;
    }

-- an OCTET_STRING of two bytes
octets_row : IsSheetRow (row OctetString None None (pairs (codes "0aFF")))
octets_row = record {
  from_1000 = lit≤ tt;
  low_in_type = tt;
  high_in_type = tt;
  limits_in_order = tt;
  lowest_in_type = λ h. absurd (cc);
  highest_in_type = λ h. absurd (cc);
  lowest_to_highest = from_test _ _ refl;
  no_low = λ h. refl;
  no_high = λ h. refl;
  number_within = λ value h. absurd (cc);
  node_id_numeric = λ n h. absurd (cc);
  text_at_string = λ bytes h. absurd (cc);
  pairs_at_octets = λ digits h. refl;
  pairs_paired = λ digits h. let same : digits ≡ codes "0aFF" = cc in subst (λ d. is_pairs d ≡ true) (sym same) refl;
  pairs_digits = λ digits h. let same : digits ≡ codes "0aFF" = cc in subst (λ d. list_all is_hexadecimal_digit d ≡ true) (sym same) refl;
  text_short = λ bytes h. absurd (cc);
  pairs_short = λ digits h. let same : digits ≡ codes "0aFF" = cc in subst (λ d. length d ≤ 512) (sym same) (lit≤ tt);
  domain_absent = λ h. absurd (cc);
  fixed_type = λ t h. absurd (cc);
}

-- an UNSIGNED8 without limits and default; the error register has that type
plain_row : (index sub : ℕ) → 0x1000 ≤ index → ((fixed : DataType) → fixed_type_of (record { index = index; sub = sub }) ≡ Some fixed → Unsigned8 ≡ fixed) → IsSheetRow (row_at index sub Unsigned8)
plain_row index sub from fixed = record {
  from_1000 = from;
  low_in_type = tt;
  high_in_type = tt;
  limits_in_order = tt;
  lowest_in_type = λ h. (from_test _ _ refl, from_test _ _ refl);
  highest_in_type = λ h. (from_test _ _ refl, from_test _ _ refl);
  lowest_to_highest = from_test _ _ refl;
  no_low = λ h. refl;
  no_high = λ h. refl;
  number_within = λ value h. absurd (cc);
  node_id_numeric = λ n h. absurd (cc);
  text_at_string = λ bytes h. absurd (cc);
  pairs_at_octets = λ digits h. absurd (cc);
  pairs_paired = λ digits h. absurd (cc);
  pairs_digits = λ digits h. absurd (cc);
  text_short = λ bytes h. absurd (cc);
  pairs_short = λ digits h. absurd (cc);
  domain_absent = λ h. refl;
  fixed_type = fixed;
}

fixed_row : IsSheetRow (row_at 0x1001 0 Unsigned8)
fixed_row = plain_row 0x1001 0 (lit≤ tt) (λ fixed h. cc)

-- ---- rows that break one

dummy_entry : IsSheetRow (row_at 0x0FFF 0 Unsigned8) → ⊥
dummy_entry laws = let h = laws.from_1000 in omega arith

low_above_type : IsSheetRow (row Unsigned8 (Some (pos 256)) None absent) → ⊥
low_above_type laws = let h = laws.low_in_type.1 in grind (arith, ints)

low_below_type : IsSheetRow (row Unsigned8 (Some (neg_ℤ (pos 1))) None absent) → ⊥
low_below_type laws = let h = laws.low_in_type.0 in grind (arith, ints)

high_above_type : IsSheetRow (row Integer8 None (Some (pos 128)) absent) → ⊥
high_above_type laws = let h = laws.high_in_type.1 in grind (arith, ints)

limits_crossed : IsSheetRow (row Unsigned8 (Some (pos 2)) (Some (pos 1)) absent) → ⊥
limits_crossed laws = let h = laws.limits_in_order in grind (arith, ints)

lowest_outside_type : IsSheetRow (row Unsigned8 (Some (pos 256)) (Some (pos 256)) absent) → ⊥
lowest_outside_type laws = let h = (laws.lowest_in_type refl).1 in grind (arith, ints)

highest_outside_type : IsSheetRow (row Integer8 None (Some (pos 128)) absent) → ⊥
highest_outside_type laws = let h = (laws.highest_in_type refl).1 in grind (arith, ints)

lowest_above_highest : IsSheetRow (row Unsigned8 None (Some (neg_ℤ (pos 1))) absent) → ⊥
lowest_above_highest laws = let h = laws.lowest_to_highest in grind (arith, ints)

low_of_string : IsSheetRow (row VisibleString (Some (pos 0)) None absent) → ⊥
low_of_string laws = let h = laws.no_low refl in cc

high_of_domain : IsSheetRow (row Domain None (Some (pos 0)) absent) → ⊥
high_of_domain laws = let h = laws.no_high refl in cc

number_outside_type : IsSheetRow (row Unsigned8 None None (number (pos 256))) → ⊥
number_outside_type laws = let h = (laws.number_within (pos 256) refl).in_type.1 in grind (arith, ints)

number_below_low : IsSheetRow (row Unsigned8 (Some (pos 2)) None (number (pos 1))) → ⊥
number_below_low laws = let h = (laws.number_within (pos 1) refl).above_low in grind (arith, ints)

number_above_high : IsSheetRow (row Unsigned8 None (Some (pos 1)) (number (pos 2))) → ⊥
number_above_high laws = let h = (laws.number_within (pos 2) refl).below_high in grind (arith, ints)

number_of_string : IsSheetRow (row VisibleString None None (number (pos 0))) → ⊥
number_of_string laws = (laws.number_within (pos 0) refl).in_type.0

node_id_of_string : IsSheetRow (row OctetString None None (node_id 5)) → ⊥
node_id_of_string laws = let h = laws.node_id_numeric 5 refl in cc

text_of_octets : IsSheetRow (row OctetString None None (text (codes "00"))) → ⊥
text_of_octets laws = let h = laws.text_at_string (codes "00") refl in cc

pairs_of_string : IsSheetRow (row VisibleString None None (pairs (codes "00"))) → ⊥
pairs_of_string laws = let h = laws.pairs_at_octets (codes "00") refl in cc

odd_pairs : IsSheetRow (row OctetString None None (pairs (codes "0aF"))) → ⊥
odd_pairs laws = let h = laws.pairs_paired (codes "0aF") refl in cc

other_digits : IsSheetRow (row OctetString None None (pairs (codes "0x"))) → ⊥
other_digits laws = let h = laws.pairs_digits (codes "0x") refl in cc

long_text : IsSheetRow (row VisibleString None None (text (replicate 513 97))) → ⊥
long_text laws = let h = laws.text_short (replicate 513 97) refl in omega arith

long_pairs : IsSheetRow (row OctetString None None (pairs (replicate 514 48))) → ⊥
long_pairs laws = let h = laws.pairs_short (replicate 514 48) refl in omega arith

text_of_domain : IsSheetRow (row Domain None None (text [])) → ⊥
text_of_domain laws = let h = laws.domain_absent refl in cc

other_fixed_type : IsSheetRow (row_at 0x1000 0 Unsigned8) → ⊥
other_fixed_type laws = let h = laws.fixed_type Unsigned32 refl in cc

-- ---- contents

abbrev object : ℕ → ObjectRow
object index = record { index = index; object_type = Var; name = None; line = 1 }

abbrev content : List ObjectRow → List Row → SheetContent
content objects rows = record { objects = objects; rows = rows; sections = []; notes = []; dummies = []; node_id = None }

abbrev mandatory : List ObjectRow
mandatory = object 0x1000 ∷ object 0x1001 ∷ object 0x1018 ∷ []

of_two : {X : Type 0} (R : X → X → Type 0) (x y : X) → R x y → AllPairs R (x ∷ y ∷ [])
of_two R x y h = AllPairs-cons R x (y ∷ []) (All-from_recursion (R x) (y ∷ []) (h, tt)) (of_one R y)
  where
    of_none : {X : Type 0} (R : X → X → Type 0) → AllPairs R []
    of_none R = λ i j d h k. absurd (omega arith)

    of_one : {X : Type 0} (R : X → X → Type 0) (x : X) → AllPairs R (x ∷ [])
    of_one R x = AllPairs-cons R x [] (All-from_recursion (R x) [] tt) (of_none R)

of_three : {X : Type 0} (R : X → X → Type 0) (x y z : X) → R x y → R x z → R y z → AllPairs R (x ∷ y ∷ z ∷ [])
of_three R x y z h k l = AllPairs-cons R x (y ∷ z ∷ []) (All-from_recursion (R x) (y ∷ z ∷ []) (h, (k, tt))) (of_two R y z l)

-- the mandatory objects, and two entries in the order of their keys
kept : IsSheetContent (content mandatory (row_at 0x1001 0 Unsigned8 ∷ row_at 0x2000 0 Unsigned8 ∷ []))
kept = record {
  each_row = All-from_recursion IsSheetRow (row_at 0x1001 0 Unsigned8 ∷ row_at 0x2000 0 Unsigned8 ∷ [])
      (fixed_row, (plain_row 0x2000 0 (lit≤ tt) (λ fixed h. absurd (cc)), tt));
  keys_increase = of_two IsRowBefore (row_at 0x1001 0 Unsigned8) (row_at 0x2000 0 Unsigned8) refl;
  indices_increase = of_three IsObjectBefore (object 0x1000) (object 0x1001) (object 0x1018) (lit< tt) (lit< tt) (lit< tt);
  has_1000 = refl;
  has_1001 = refl;
  has_1018 = refl;
  node_id_range = tt;
}

-- with a node-ID
abbrev content_of_node : ℕ → SheetContent
content_of_node id = record (content mandatory []) { node_id = Some id }

kept_of_node : (id : ℕ) → 1 ≤ id → id ≤ 127 → IsSheetContent (content_of_node id)
kept_of_node id h k = record {
  each_row = All-from_recursion IsSheetRow [] tt;
  keys_increase = λ i j d h k. absurd (omega arith);
  indices_increase = of_three IsObjectBefore (object 0x1000) (object 0x1001) (object 0x1018) (lit< tt) (lit< tt) (lit< tt);
  has_1000 = refl;
  has_1001 = refl;
  has_1018 = refl;
  node_id_range = (h, k);
}

node_id_0 : IsSheetContent (content_of_node 0) → ⊥
node_id_0 laws = let h = laws.node_id_range.0 in omega arith

node_id_128 : IsSheetContent (content_of_node 128) → ⊥
node_id_128 laws = let h = laws.node_id_range.1 in omega arith

bad_row : IsSheetContent (content mandatory (row_at 0x1000 0 Unsigned8 ∷ [])) → ⊥
bad_row laws = other_fixed_type (laws.each_row 0 (row_at 0x1000 0 Unsigned8) (lit< tt))

keys_swapped : IsSheetContent (content mandatory (row_at 0x2000 1 Unsigned8 ∷ row_at 0x2000 0 Unsigned8 ∷ [])) → ⊥
keys_swapped laws = let h = laws.keys_increase 0 1 (row_at 0 0 Unsigned8) (lit< tt) (lit< tt) in cc

indices_swapped : IsSheetContent (content mandatory (row_at 0x2001 0 Unsigned8 ∷ row_at 0x2000 1 Unsigned8 ∷ [])) → ⊥
indices_swapped laws = let h = laws.keys_increase 0 1 (row_at 0 0 Unsigned8) (lit< tt) (lit< tt) in cc

key_twice : IsSheetContent (content mandatory (row_at 0x2000 0 Unsigned8 ∷ row_at 0x2000 0 Unsigned8 ∷ [])) → ⊥
key_twice laws = let h = laws.keys_increase 0 1 (row_at 0 0 Unsigned8) (lit< tt) (lit< tt) in cc

object_twice : IsSheetContent (content (object 0x1000 ∷ mandatory) []) → ⊥
object_twice laws = let h = laws.indices_increase 0 1 (object 0) (lit< tt) (lit< tt) in omega arith

no_1000 : IsSheetContent (content (object 0x1001 ∷ object 0x1018 ∷ []) []) → ⊥
no_1000 laws = let h = laws.has_1000 in cc

no_1001 : IsSheetContent (content (object 0x1000 ∷ object 0x1018 ∷ []) []) → ⊥
no_1001 laws = let h = laws.has_1001 in cc

no_1018 : IsSheetContent (content (object 0x1000 ∷ object 0x1001 ∷ []) []) → ⊥
no_1018 laws = let h = laws.has_1018 in cc
