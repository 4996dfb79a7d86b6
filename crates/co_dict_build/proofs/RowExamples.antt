-- Worked examples, computed from the definitions: the room, the limits and the first bytes of single rows of a sheet.
use Rattle.std.proofs.Common.{◌≡◌, ℕ, List, [], ◌∷◌, refl, codes, Some, None, Option}
use Rattle.std.specs.Prelude.{ℤ, pos, negsuc, false}
use Rattle.co_value.specs.declared.key.Key.{Key}
use Rattle.co_value.specs.declared.data_type.DataType.{DataType}
use Rattle.co_value.specs.declared.data_type.DataType.TheVariants.{Boolean, Integer8, Integer16, Unsigned8, Unsigned16, Unsigned32, VisibleString, OctetString, Domain}
use Rattle.co_profile.specs.declared.access.Access.{Access}
use Rattle.co_profile.specs.declared.access.Access.TheVariants.{Ro, Wo, Rw, Rwr, Rww, Constant}
use Rattle.co_sheet.specs.Limits.{Default, absent, number, node_id, text, pairs}
use Rattle.co_sheet.specs.Content.{Row as SheetRow}
use Rattle.co_dict_build.specs.Capacities.{Limits, capacity_of}
use Rattle.co_sheet.specs.SheetLaws.{low_of, high_of}
use Rattle.co_dict_build.specs.InitialBytes.{initial_of}

abbrev key : ℕ → ℕ → Key
key index sub = record { index = index; sub = sub }

-- a row with a default and without limits
abbrev row : ℕ → ℕ → DataType → Access → Default → SheetRow
row index sub t access default = record { key = key index sub; data_type = t; access = access; low = None; high = None; default = default; mappable = false; name = None; line = 0 }

-- a number at 2000:00 that may be written, with a low and a high limit
abbrev limited : DataType → Option ℤ → Option ℤ → Default → SheetRow
limited t low high default = record { key = key 0x2000 0; data_type = t; access = Rw; low = low; high = high; default = default; mappable = false; name = None; line = 0 }

-- 16 bytes for a string, 889 for a domain
abbrev usual : Limits
usual = record { strings = 16; domains = 889; own = [] }

abbrev with_own : List (Key × ℕ) → Limits
with_own own = record { strings = 16; domains = 889; own = own }

-- ---- capacities

number_has_its_width : capacity_of usual (row 0x2000 0 Unsigned32 Rw absent) ≡ 4
number_has_its_width = refl

bool_has_one_byte : capacity_of usual (row 0x2000 0 Boolean Rw absent) ≡ 1
bool_has_one_byte = refl

own_limit_of_a_number_is_passed_over : capacity_of (with_own ((key 0x2000 0, 9) ∷ [])) (row 0x2000 0 Unsigned16 Rw absent) ≡ 2
own_limit_of_a_number_is_passed_over = refl

string_has_the_limit : capacity_of usual (row 0x2001 0 VisibleString Rw absent) ≡ 16
string_has_the_limit = refl

shorter_default_keeps_the_limit : capacity_of usual (row 0x2001 0 VisibleString Rw (text (codes "abc"))) ≡ 16
shorter_default_keeps_the_limit = refl

default_of_17_makes_room : capacity_of usual (row 0x2001 0 VisibleString Rw (text (codes "0123456789abcdefg"))) ≡ 17
default_of_17_makes_room = refl

pairs_count_once : capacity_of (record { strings = 1; domains = 0; own = [] }) (row 0x2001 0 OctetString Wo (pairs (codes "0A0b"))) ≡ 2
pairs_count_once = refl

ro_string_has_its_default : capacity_of usual (row 0x2001 0 VisibleString Ro (text (codes "abc"))) ≡ 3
ro_string_has_its_default = refl

const_string_has_its_default : capacity_of usual (row 0x2001 0 OctetString Constant (pairs (codes "0a"))) ≡ 1
const_string_has_its_default = refl

ro_string_without_default_is_empty : capacity_of usual (row 0x2001 0 VisibleString Ro absent) ≡ 0
ro_string_without_default_is_empty = refl

wo_string_has_the_limit : capacity_of usual (row 0x2001 0 VisibleString Wo absent) ≡ 16
wo_string_has_the_limit = refl

rwr_string_has_the_limit : capacity_of usual (row 0x2001 0 VisibleString Rwr absent) ≡ 16
rwr_string_has_the_limit = refl

rww_string_has_the_limit : capacity_of usual (row 0x2001 0 VisibleString Rww absent) ≡ 16
rww_string_has_the_limit = refl

own_limit_goes_first : capacity_of (with_own ((key 0x2001 0, 5) ∷ [])) (row 0x2001 0 VisibleString Rw absent) ≡ 5
own_limit_goes_first = refl

own_limit_of_another_sub_index : capacity_of (with_own ((key 0x2001 1, 5) ∷ [])) (row 0x2001 0 VisibleString Rw absent) ≡ 16
own_limit_of_another_sub_index = refl

of_equal_keys_the_first : capacity_of (with_own ((key 0x2001 0, 5) ∷ (key 0x2001 0, 7) ∷ [])) (row 0x2001 0 VisibleString Rw absent) ≡ 5
of_equal_keys_the_first = refl

own_limit_below_the_default : capacity_of (with_own ((key 0x2001 0, 0) ∷ [])) (row 0x2001 0 VisibleString Rw (text (codes "abc"))) ≡ 3
own_limit_below_the_default = refl

own_limit_enlarges_no_ro_string : capacity_of (with_own ((key 0x2001 0, 9) ∷ [])) (row 0x2001 0 VisibleString Ro (text (codes "abc"))) ≡ 3
own_limit_enlarges_no_ro_string = refl

domain_has_the_limit : capacity_of usual (row 0x2100 0 Domain Rw absent) ≡ 889
domain_has_the_limit = refl

ro_domain_has_the_limit : capacity_of usual (row 0x2100 0 Domain Ro absent) ≡ 889
ro_domain_has_the_limit = refl

own_limit_of_a_domain : capacity_of (with_own ((key 0x2100 0, 2667) ∷ [])) (row 0x2100 0 Domain Rw absent) ≡ 2667
own_limit_of_a_domain = refl

-- ---- limits

low_of_a_type : low_of (limited Integer16 None None absent) ≡ negsuc 32767
low_of_a_type = refl

high_of_a_type : high_of (limited Integer16 None None absent) ≡ pos 32767
high_of_a_type = refl

high_of_a_bool : high_of (limited Boolean None None absent) ≡ pos 1
high_of_a_bool = refl

stated_low : low_of (limited Integer16 (Some (negsuc 4)) None absent) ≡ negsuc 4
stated_low = refl

stated_high : high_of (limited Unsigned16 None (Some (pos 1000)) absent) ≡ pos 1000
stated_high = refl

low_beside_a_stated_high : low_of (limited Unsigned16 None (Some (pos 1000)) absent) ≡ pos 0
low_beside_a_stated_high = refl

low_of_a_string : low_of (row 0x2001 0 VisibleString Rw absent) ≡ pos 0
low_of_a_string = refl

high_of_a_domain : high_of (row 0x2100 0 Domain Rw absent) ≡ pos 0
high_of_a_domain = refl

-- ---- initial bytes, with node-ID 5 or 127

sum_at_node_127 : initial_of 127 (row 0x1800 1 Unsigned32 Rw (node_id 0x180)) ≡ 0xFF ∷ 0x01 ∷ 0 ∷ 0 ∷ []
sum_at_node_127 = refl

node_id_alone : initial_of 5 (row 0x2000 0 Unsigned8 Rw (node_id 0)) ≡ 5 ∷ []
node_id_alone = refl

stated_number : initial_of 5 (row 0x2000 0 Integer16 Rw (number (negsuc 1))) ≡ 0xFE ∷ 0xFF ∷ []
stated_number = refl

no_default_is_0 : initial_of 5 (limited Integer16 None None absent) ≡ 0 ∷ 0 ∷ []
no_default_is_0 = refl

low_limit_0_holds_0 : initial_of 5 (limited Unsigned8 (Some (pos 0)) None absent) ≡ 0 ∷ []
low_limit_0_holds_0 = refl

low_limit_1_holds_1 : initial_of 5 (limited Unsigned8 (Some (pos 1)) (Some (pos 9)) absent) ≡ 1 ∷ []
low_limit_1_holds_1 = refl

high_limit_0_holds_0 : initial_of 5 (limited Integer8 (Some (negsuc 8)) (Some (pos 0)) absent) ≡ 0 ∷ []
high_limit_0_holds_0 = refl

high_limit_below_0_is_held : initial_of 5 (limited Integer8 (Some (negsuc 8)) (Some (negsuc 0)) absent) ≡ 0xFF ∷ []
high_limit_below_0_is_held = refl

string_without_default : initial_of 5 (row 0x2001 0 VisibleString Rw absent) ≡ []
string_without_default = refl

string_with_default : initial_of 5 (row 0x2001 0 VisibleString Rw (text (codes "4Fz"))) ≡ codes "4Fz"
string_with_default = refl

pairs_of_digits : initial_of 5 (row 0x2001 0 OctetString Rw (pairs (codes "0aF09B"))) ≡ 0x0A ∷ 0xF0 ∷ 0x9B ∷ []
pairs_of_digits = refl

domain_is_empty : initial_of 5 (row 0x2100 0 Domain Rw absent) ≡ []
domain_is_empty = refl

request_identifier : initial_of 5 (row 0x1200 1 Unsigned32 Ro (number (pos 0x123))) ≡ 0x05 ∷ 0x06 ∷ 0 ∷ 0 ∷ []
request_identifier = refl

answer_identifier : initial_of 127 (row 0x1200 2 Unsigned32 Ro (node_id 0x600)) ≡ 0xFF ∷ 0x05 ∷ 0 ∷ 0 ∷ []
answer_identifier = refl

number_of_sub_indices : initial_of 5 (row 0x1200 0 Unsigned8 Ro (number (pos 2))) ≡ 2 ∷ []
number_of_sub_indices = refl

second_channel_as_stated : initial_of 5 (row 0x1201 1 Unsigned32 Ro (number (pos 0x680))) ≡ 0x80 ∷ 0x06 ∷ 0 ∷ 0 ∷ []
second_channel_as_stated = refl
