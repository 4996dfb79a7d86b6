-- Words and tables, computed from their definitions.
use Rattle.std.proofs.Common.{◌≡◌, codes, refl, Some, None, Ok, Err, true, false}
use Rattle.std.specs.Prelude.{pos, neg_ℤ}
use Rattle.co_value.specs.declared.data_type.DataType.TheVariants.{Integer8, Unsigned64}
use Rattle.co_sheet_rows.specs.declared.object.ObjectType.TheVariants.{Record}
use Rattle.co_profile.specs.declared.access.Access.TheVariants.{Rww, Constant}
use Rattle.co_sheet_text.specs.declared.numeral.NumeralFault.TheVariants.{Malformed, Ambiguous}
use Rattle.co_sheet.specs.Entries.{data_type_with, object_type_with, access_with}
use Rattle.co_sheet.specs.Limits.{numeric_default, is_pairs, number, node_id}

-- ---- types, objects and access

type_1b : data_type_with 0x1B ≡ Some Unsigned64
type_1b = refl

type_of_three_bytes : data_type_with 0x10005 ≡ None
type_of_three_bytes = refl

object_type_9 : object_type_with 9 ≡ Some Record
object_type_9 = refl

object_type_5 : object_type_with 5 ≡ None
object_type_5 = refl

object_type_of_five_bytes : object_type_with 0x100000007 ≡ None
object_type_of_five_bytes = refl

access_in_capitals : access_with (codes "RWW") ≡ Some Rww
access_in_capitals = refl

access_of_constant : access_with (codes "const") ≡ Some Constant
access_of_constant = refl

no_access : access_with (codes "rx") ≡ None
no_access = refl

-- ---- defaults

default_of_two_s_complement : numeric_default Integer8 (codes "0xFF") ≡ Ok (number (neg_ℤ (pos 1)))
default_of_two_s_complement = refl

default_of_node_id : numeric_default Integer8 (codes "$nodeid") ≡ Ok (node_id 0)
default_of_node_id = refl

blanks_round_plus : numeric_default Integer8 (codes "$NODEID \t+ 0x180") ≡ Ok (node_id 0x180)
blanks_round_plus = refl

number_first : numeric_default Integer8 (codes "0xFF+$NODEID") ≡ Ok (node_id 0xFF)
number_first = refl

ambiguous_sum : numeric_default Integer8 (codes "$NODEID+010") ≡ Err Ambiguous
ambiguous_sum = refl

sum_with_sign : numeric_default Integer8 (codes "$NODEID+-0") ≡ Err Malformed
sum_with_sign = refl

node_id_twice : numeric_default Integer8 (codes "$NODEID+$NODEID") ≡ Err Malformed
node_id_twice = refl

nothing_before_plus : numeric_default Integer8 (codes "+$NODEID") ≡ Err Malformed
nothing_before_plus = refl

pairs_in_any_case : is_pairs (codes "0aFF") ≡ true
pairs_in_any_case = refl

odd_digits : is_pairs (codes "0aF") ≡ false
odd_digits = refl

pairs_with_blank : is_pairs (codes "0a F") ≡ false
pairs_with_blank = refl
