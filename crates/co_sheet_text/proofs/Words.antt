-- Words, lines and numbers, computed from their definitions.
use Rattle.std.proofs.Common.{◌≡◌, [], codes, refl, true, false}
use Rattle.std.specs.Prelude.{pos, neg_ℤ}
use Rattle.co_value.specs.declared.data_type.DataType.TheVariants.{Integer16, Integer64, Unsigned16}
use Rattle.co_sheet_text.specs.declared.section_kind.SectionKind.TheVariants.{MandatoryObjects, OptionalObjects, DummyUsage, DeviceInfo, DeviceCommissioning, Object, SubIndex, PassedOver}
use Rattle.co_sheet_text.specs.declared.numeral.Numeral.TheVariants.{Hexadecimal}
use Rattle.co_sheet_text.specs.Text.{trim, same_name}
use Rattle.co_sheet_text.specs.Names.{kind_of, is_read_name}
use Rattle.co_sheet_text.specs.Sections.{form_of, skipped, section_line, unclosed, name_value, malformed}
use Rattle.co_sheet_text.specs.Numerals.{value_at}

-- ---- blanks and cuts

blanks_at_both_ends : trim (codes " \ta b\t ") ≡ codes "a b"
blanks_at_both_ends = refl

blanks_alone : trim (codes " \t") ≡ []
blanks_alone = refl

carriage_return_is_no_blank : trim (codes "\ra\r") ≡ codes "\ra\r"
carriage_return_is_no_blank = refl

names_in_any_case : same_name (codes "NodeId") (codes "nODEiD") ≡ true
names_in_any_case = refl

names_of_other_lengths : same_name (codes "x") (codes "xx") ≡ false
names_of_other_lengths = refl

letters_alone_have_case : same_name (codes "[") (codes "{") ≡ false
letters_alone_have_case = refl

-- ---- lines

blank_line : form_of (trim (codes " \t")) ≡ skipped
blank_line = refl

comment : form_of (trim (codes " ; x = 1")) ≡ skipped
comment = refl

section : form_of (trim (codes "\t[ 1000 ] ; x")) ≡ section_line (codes "1000")
section = refl

section_without_name : form_of (trim (codes "[]")) ≡ section_line []
section_without_name = refl

section_without_bracket : form_of (trim (codes "[1000")) ≡ unclosed
section_without_bracket = refl

first_equals_cuts : form_of (trim (codes " DataType\t= 7 = 8 ")) ≡ name_value (codes "DataType") (codes "7 = 8")
first_equals_cuts = refl

empty_value : form_of (trim (codes "DataType=")) ≡ name_value (codes "DataType") []
empty_value = refl

empty_key : form_of (trim (codes " = 5")) ≡ malformed
empty_key = refl

no_equals : form_of (trim (codes "x")) ≡ malformed
no_equals = refl

-- ---- section names

list_in_any_case : kind_of (codes "mandatoryOBJECTS") ≡ MandatoryObjects
list_in_any_case = refl

dummy_usage : kind_of (codes "DummyUsage") ≡ DummyUsage
dummy_usage = refl

commissioning : kind_of (codes "DeviceComissioning") ≡ DeviceCommissioning
commissioning = refl

commissioning_with_mm : kind_of (codes "deviceCOMMISSIONING") ≡ DeviceCommissioning
commissioning_with_mm = refl

commissioning_with_one_s : kind_of (codes "DeviceComisioning") ≡ PassedOver
commissioning_with_one_s = refl

object : kind_of (codes "1000") ≡ Object 0x1000
object = refl

three_digits : kind_of (codes "fFf") ≡ Object 0xFFF
three_digits = refl

five_digits : kind_of (codes "01000") ≡ PassedOver
five_digits = refl

prefix : kind_of (codes "0x1000") ≡ PassedOver
prefix = refl

sub_index : kind_of (codes "1018Sub0A") ≡ SubIndex (record { index = 0x1018; sub = 10 })
sub_index = refl

two_digits_of_sub_index : kind_of (codes "1018sub10") ≡ SubIndex (record { index = 0x1018; sub = 16 })
two_digits_of_sub_index = refl

five_digits_of_index : kind_of (codes "01018sub1") ≡ PassedOver
five_digits_of_index = refl

no_index : kind_of (codes "sub1") ≡ PassedOver
no_index = refl

three_digits_of_sub_index : kind_of (codes "1018sub001") ≡ PassedOver
three_digits_of_sub_index = refl

blank_in_name : kind_of (codes "1018 sub1") ≡ PassedOver
blank_in_name = refl

no_name : kind_of [] ≡ PassedOver
no_name = refl

-- ---- keys that are read

count_of_list : is_read_name OptionalObjects (codes "supportedobjects") ≡ true
count_of_list = refl

place_of_list : is_read_name OptionalObjects (codes "10") ≡ true
place_of_list = refl

place_with_zero : is_read_name OptionalObjects (codes "01") ≡ false
place_with_zero = refl

place_zero : is_read_name OptionalObjects (codes "0") ≡ false
place_zero = refl

key_of_object : is_read_name (Object 5) (codes "PARAMETERNAME") ≡ true
key_of_object = refl

place_in_object : is_read_name (Object 5) (codes "1") ≡ false
place_in_object = refl

last_dummy : is_read_name DummyUsage (codes "dummy0007") ≡ true
last_dummy = refl

dummy_1 : is_read_name DummyUsage (codes "Dummy0001") ≡ false
dummy_1 = refl

compact_pdo : is_read_name DeviceInfo (codes "CompactPDO") ≡ true
compact_pdo = refl

parameter_value : is_read_name (Object 5) (codes "ParameterValue") ≡ true
parameter_value = refl

parameter_value_of_sub_index : is_read_name (SubIndex (record { index = 5; sub = 1 })) (codes "parametervalue") ≡ true
parameter_value_of_sub_index = refl

parameter_value_elsewhere : is_read_name DeviceCommissioning (codes "ParameterValue") ≡ false
parameter_value_elsewhere = refl

node_id : is_read_name DeviceCommissioning (codes "NodeId") ≡ true
node_id = refl

other_key_of_commissioning : is_read_name DeviceCommissioning (codes "NodeName") ≡ false
other_key_of_commissioning = refl

node_id_elsewhere : is_read_name DeviceInfo (codes "NodeID") ≡ false
node_id_elsewhere = refl

key_of_section_passed_over : is_read_name PassedOver (codes "DataType") ≡ false
key_of_section_passed_over = refl

-- ---- numbers at a type

greatest_of_16_bits : value_at Integer16 (Hexadecimal 0x7FFF) ≡ pos 32767
greatest_of_16_bits = refl

least_of_16_bits : value_at Integer16 (Hexadecimal 0x8000) ≡ neg_ℤ (pos 32768)
least_of_16_bits = refl

seventeen_bits : value_at Integer16 (Hexadecimal 0x10000) ≡ pos 65536
seventeen_bits = refl

unsigned_16_bits : value_at Unsigned16 (Hexadecimal 0x8000) ≡ pos 32768
unsigned_16_bits = refl

all_ones : value_at Integer64 (Hexadecimal 0xFFFFFFFFFFFFFFFF) ≡ neg_ℤ (pos 1)
all_ones = refl
