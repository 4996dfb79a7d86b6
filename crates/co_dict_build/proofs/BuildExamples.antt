-- Worked examples, computed from the definitions: each fault of a dictionary on both sides of its edges.
use Rattle.std.proofs.Common.{◌≡◌, ℕ, ◌++◌, List, [], ◌∷◌, refl, codes, Some, None, Option, true, false}
use Rattle.std.specs.Prelude.{ℤ, pos, replicate}
use Rattle.std.specs.Fmt.{digits}
use Rattle.co_value.specs.declared.key.Key.{Key}
use Rattle.co_value.specs.declared.data_type.DataType.{DataType}
use Rattle.co_value.specs.declared.data_type.DataType.TheVariants.{Integer8, Unsigned8, Unsigned16, Unsigned32, Domain}
use Rattle.co_profile.specs.declared.access.Access.TheVariants.{Rw}
use Rattle.co_sheet.specs.Limits.{Default, absent, number, node_id}
use Rattle.co_sheet.specs.Content.{Row as SheetRow}
use Rattle.co_dict_build.specs.declared.build_fault.BuildFault.{BuildFault}
use Rattle.co_dict_build.specs.declared.build_fault.BuildFault.TheVariants.{NodeId, ValueRange, BadCobId, PdoPair, BadMapping, TooMany, Memory}
use Rattle.co_text.specs.Printed.{digits_text}
use Rattle.co_dict_build.specs.BuildFaultTexts.{fault_text}
use Rattle.co_dict.specs.SdoChannels.{is_sdo_id}
use Rattle.co_dict.specs.Objects.{has_object, subs_present}
use Rattle.co_dict_build.specs.BuildFaults.{build_fault, is_used_before, is_too_many, is_communication, is_mapping}

abbrev key : ℕ → ℕ → Key
key index sub = record { index = index; sub = sub }

-- a row that may be written and mapped, with a default and without limits
abbrev row : ℕ → ℕ → DataType → Default → SheetRow
row index sub t default = record { key = key index sub; data_type = t; access = Rw; low = None; high = None; default = default; mappable = true; name = None; line = 0 }

-- 2000:00 with limits
abbrev limited : DataType → Option ℤ → Option ℤ → Default → SheetRow
limited t low high default = record { key = key 0x2000 0; data_type = t; access = Rw; low = low; high = high; default = default; mappable = true; name = None; line = 0 }

-- a COB-ID or mapping word, and a count
abbrev word : ℕ → ℕ → ℕ → SheetRow
word index sub value = row index sub Unsigned32 (number (pos value))

abbrev count : ℕ → ℕ → SheetRow
count index value = row index 0 Unsigned8 (number (pos value))

-- the fault of rows for a node-ID, with 16 bytes for a string and 65,535 for a domain, and without dummy entries
abbrev fault_for : ℕ → List SheetRow → Option BuildFault
fault_for node rows = build_fault (record { node = node; limits = record { strings = 16; domains = 65535; own = [] }; rows = rows; dummies = [] })

-- for node-ID 5
abbrev fault_of : List SheetRow → Option BuildFault
fault_of rows = fault_for 5 rows

-- an RPDO, 1400h and 1600h, and a TPDO, 1800h and 1A00h, with a word, a count and a mapping word, and 2002:00
abbrev rpdo_and_tpdo : ℕ → ℕ → ℕ → ℕ → ℕ → ℕ → List SheetRow
rpdo_and_tpdo rpdo r mapped_in tpdo t mapped_out =
    count 0x1400 2 ∷ word 0x1400 1 rpdo ∷ row 0x1400 2 Unsigned8 absent
    ∷ count 0x1600 r ∷ word 0x1600 1 mapped_in
    ∷ count 0x1800 2 ∷ word 0x1800 1 tpdo ∷ row 0x1800 2 Unsigned8 absent
    ∷ count 0x1A00 t ∷ word 0x1A00 1 mapped_out
    ∷ row 0x2002 0 Unsigned32 absent ∷ row 0x2003 0 Unsigned16 absent ∷ []

-- a TPDO with a word, and nothing mapped
abbrev tpdo : ℕ → List SheetRow
tpdo cob_id = count 0x1800 2 ∷ word 0x1800 1 cob_id ∷ row 0x1800 2 Unsigned8 absent ∷ count 0x1A00 0 ∷ word 0x1A00 1 0 ∷ []

-- SDO channel 1, with the words of its requests and its answers
abbrev channel_1 : ℕ → ℕ → List SheetRow
channel_1 request answer = count 0x1201 2 ∷ word 0x1201 1 request ∷ word 0x1201 2 answer ∷ []

abbrev channel_2 : ℕ → ℕ → List SheetRow
channel_2 request answer = count 0x1202 2 ∷ word 0x1202 1 request ∷ word 0x1202 2 answer ∷ []

-- ---- 1, NodeId

node_id_0 : fault_for 0 [] ≡ Some NodeId
unfolding is_sdo_id has_object subs_present is_used_before
node_id_0 = refl

node_id_1 : fault_for 1 [] ≡ None
unfolding is_sdo_id has_object subs_present is_used_before
node_id_1 = refl

node_127 : fault_for 127 [] ≡ None
unfolding is_sdo_id has_object subs_present is_used_before
node_127 = refl

node_128 : fault_for 128 [] ≡ Some NodeId
unfolding is_sdo_id has_object subs_present is_used_before
node_128 = refl

-- ---- 2, ValueRange

sum_of_255 : fault_of (limited Unsigned8 None None (node_id 250) ∷ []) ≡ None
unfolding is_sdo_id has_object subs_present is_used_before
sum_of_255 = refl

sum_of_256 : fault_of (limited Unsigned8 None None (node_id 251) ∷ []) ≡ Some (ValueRange (key 0x2000 0))
unfolding is_sdo_id has_object subs_present is_used_before
sum_of_256 = refl

sum_of_127_in_8_bits : fault_of (limited Integer8 None None (node_id 122) ∷ []) ≡ None
unfolding is_sdo_id has_object subs_present is_used_before
sum_of_127_in_8_bits = refl

sum_of_128_in_8_bits : fault_of (limited Integer8 None None (node_id 123) ∷ []) ≡ Some (ValueRange (key 0x2000 0))
unfolding is_sdo_id has_object subs_present is_used_before
sum_of_128_in_8_bits = refl

sum_at_the_high_limit : fault_of (limited Unsigned16 None (Some (pos 1000)) (node_id 995) ∷ []) ≡ None
unfolding is_sdo_id has_object subs_present is_used_before
sum_at_the_high_limit = refl

sum_above_the_high_limit : fault_of (limited Unsigned16 None (Some (pos 1000)) (node_id 996) ∷ []) ≡ Some (ValueRange (key 0x2000 0))
unfolding is_sdo_id has_object subs_present is_used_before
sum_above_the_high_limit = refl

sum_at_the_low_limit : fault_of (limited Unsigned16 (Some (pos 10)) None (node_id 5) ∷ []) ≡ None
unfolding is_sdo_id has_object subs_present is_used_before
sum_at_the_low_limit = refl

sum_below_the_low_limit : fault_of (limited Unsigned16 (Some (pos 10)) None (node_id 4) ∷ []) ≡ Some (ValueRange (key 0x2000 0))
unfolding is_sdo_id has_object subs_present is_used_before
sum_below_the_low_limit = refl

same_sum_for_node_1 : fault_for 1 (limited Unsigned16 None (Some (pos 1000)) (node_id 999) ∷ []) ≡ None
unfolding is_sdo_id has_object subs_present is_used_before
same_sum_for_node_1 = refl

same_sum_for_node_5 : fault_for 5 (limited Unsigned16 None (Some (pos 1000)) (node_id 999) ∷ []) ≡ Some (ValueRange (key 0x2000 0))
unfolding is_sdo_id has_object subs_present is_used_before
same_sum_for_node_5 = refl

sum_at_a_fixed_word : fault_of (row 0x1200 1 Unsigned32 (node_id 0xFFFFFFFF) ∷ []) ≡ Some (ValueRange (key 0x1200 1))
unfolding is_sdo_id has_object subs_present is_used_before
sum_at_a_fixed_word = refl

smaller_of_two_keys : fault_of (row 0x2000 1 Unsigned8 (node_id 251) ∷ row 0x2000 2 Unsigned8 (node_id 252) ∷ []) ≡ Some (ValueRange (key 0x2000 1))
unfolding is_sdo_id has_object subs_present is_used_before
smaller_of_two_keys = refl

other_number_is_no_sum : fault_of (limited Unsigned8 None None (number (pos 300)) ∷ []) ≡ None
unfolding is_sdo_id has_object subs_present is_used_before
other_number_is_no_sum = refl

-- ---- 3, BadCobId

pdo_word_0 : fault_of (tpdo 0) ≡ None
unfolding is_sdo_id has_object subs_present is_used_before
pdo_word_0 = refl

pdo_word_7F : fault_of (tpdo 0x7F) ≡ Some (BadCobId (key 0x1800 1))
unfolding is_sdo_id has_object subs_present is_used_before
pdo_word_7F = refl

pdo_word_80 : fault_of (tpdo 0x80) ≡ None
unfolding is_sdo_id has_object subs_present is_used_before
pdo_word_80 = refl

pdo_word_100 : fault_of (tpdo 0x100) ≡ None
unfolding is_sdo_id has_object subs_present is_used_before
pdo_word_100 = refl

pdo_word_101 : fault_of (tpdo 0x101) ≡ Some (BadCobId (key 0x1800 1))
unfolding is_sdo_id has_object subs_present is_used_before
pdo_word_101 = refl

pdo_word_180 : fault_of (tpdo 0x180) ≡ Some (BadCobId (key 0x1800 1))
unfolding is_sdo_id has_object subs_present is_used_before
pdo_word_180 = refl

pdo_word_181 : fault_of (tpdo 0x181) ≡ None
unfolding is_sdo_id has_object subs_present is_used_before
pdo_word_181 = refl

pdo_word_580 : fault_of (tpdo 0x580) ≡ None
unfolding is_sdo_id has_object subs_present is_used_before
pdo_word_580 = refl

pdo_word_581 : fault_of (tpdo 0x581) ≡ Some (BadCobId (key 0x1800 1))
unfolding is_sdo_id has_object subs_present is_used_before
pdo_word_581 = refl

pdo_word_600 : fault_of (tpdo 0x600) ≡ None
unfolding is_sdo_id has_object subs_present is_used_before
pdo_word_600 = refl

pdo_word_601 : fault_of (tpdo 0x601) ≡ Some (BadCobId (key 0x1800 1))
unfolding is_sdo_id has_object subs_present is_used_before
pdo_word_601 = refl

pdo_word_6DF : fault_of (tpdo 0x6DF) ≡ None
unfolding is_sdo_id has_object subs_present is_used_before
pdo_word_6DF = refl

pdo_word_6E0 : fault_of (tpdo 0x6E0) ≡ Some (BadCobId (key 0x1800 1))
unfolding is_sdo_id has_object subs_present is_used_before
pdo_word_6E0 = refl

pdo_word_with_bit_11 : fault_of (tpdo 0x985) ≡ Some (BadCobId (key 0x1800 1))
unfolding is_sdo_id has_object subs_present is_used_before
pdo_word_with_bit_11 = refl

pdo_word_with_bit_29 : fault_of (tpdo 0x20000185) ≡ Some (BadCobId (key 0x1800 1))
unfolding is_sdo_id has_object subs_present is_used_before
pdo_word_with_bit_29 = refl

pdo_word_with_bit_30 : fault_of (tpdo 0x40000185) ≡ None
unfolding is_sdo_id has_object subs_present is_used_before
pdo_word_with_bit_30 = refl

pdo_word_with_bit_31 : fault_of (tpdo 0x80000101) ≡ None
unfolding is_sdo_id has_object subs_present is_used_before
pdo_word_with_bit_31 = refl

pdo_word_for_node_127 : fault_for 127 (count 0x1800 2 ∷ row 0x1800 1 Unsigned32 (node_id 0x180) ∷ row 0x1800 2 Unsigned8 absent ∷ count 0x1A00 0 ∷ []) ≡ None
unfolding is_sdo_id has_object subs_present is_used_before
pdo_word_for_node_127 = refl

emergency_85 : fault_of (word 0x1014 0 0x85 ∷ []) ≡ None
unfolding is_sdo_id has_object subs_present is_used_before
emergency_85 = refl

emergency_0 : fault_of (word 0x1014 0 0 ∷ []) ≡ None
unfolding is_sdo_id has_object subs_present is_used_before
emergency_0 = refl

emergency_105 : fault_of (word 0x1014 0 0x105 ∷ []) ≡ Some (BadCobId (key 0x1014 0))
unfolding is_sdo_id has_object subs_present is_used_before
emergency_105 = refl

emergency_with_bit_11 : fault_of (word 0x1014 0 0x885 ∷ []) ≡ Some (BadCobId (key 0x1014 0))
unfolding is_sdo_id has_object subs_present is_used_before
emergency_with_bit_11 = refl

emergency_with_bit_31 : fault_of (word 0x1014 0 0x80000000 ∷ []) ≡ None
unfolding is_sdo_id has_object subs_present is_used_before
emergency_with_bit_31 = refl

sync_80 : fault_of (word 0x1005 0 0x80 ∷ []) ≡ None
unfolding is_sdo_id has_object subs_present is_used_before
sync_80 = refl

sync_0 : fault_of (word 0x1005 0 0 ∷ []) ≡ None
unfolding is_sdo_id has_object subs_present is_used_before
sync_0 = refl

sync_7F : fault_of (word 0x1005 0 0x7F ∷ []) ≡ Some (BadCobId (key 0x1005 0))
unfolding is_sdo_id has_object subs_present is_used_before
sync_7F = refl

sync_with_bit_30 : fault_of (word 0x1005 0 0x40000080 ∷ []) ≡ Some (BadCobId (key 0x1005 0))
unfolding is_sdo_id has_object subs_present is_used_before
sync_with_bit_30 = refl

sync_with_bit_31 : fault_of (word 0x1005 0 0x80000080 ∷ []) ≡ None
unfolding is_sdo_id has_object subs_present is_used_before
sync_with_bit_31 = refl

sync_bit_31_alone : fault_of (word 0x1005 0 0x80000000 ∷ []) ≡ Some (BadCobId (key 0x1005 0))
unfolding is_sdo_id has_object subs_present is_used_before
sync_bit_31_alone = refl

channel_680_681 : fault_of (channel_1 0x680 0x681) ≡ None
unfolding is_sdo_id has_object subs_present is_used_before
channel_680_681 = refl

channel_with_one_identifier : fault_of (channel_1 0x680 0x680) ≡ Some (BadCobId (key 0x1201 2))
unfolding is_sdo_id has_object subs_present is_used_before
channel_with_one_identifier = refl

channel_with_a_default_request : fault_of (channel_1 0x605 0x681) ≡ Some (BadCobId (key 0x1201 1))
unfolding is_sdo_id has_object subs_present is_used_before
channel_with_a_default_request = refl

channel_with_a_default_answer : fault_of (channel_1 0x680 0x585) ≡ Some (BadCobId (key 0x1201 2))
unfolding is_sdo_id has_object subs_present is_used_before
channel_with_a_default_answer = refl

channel_with_another_nodes_request : fault_of (channel_1 0x606 0x681) ≡ None
unfolding is_sdo_id has_object subs_present is_used_before
channel_with_another_nodes_request = refl

channel_request_180 : fault_of (channel_1 0x180 0x681) ≡ Some (BadCobId (key 0x1201 1))
unfolding is_sdo_id has_object subs_present is_used_before
channel_request_180 = refl

channel_request_181 : fault_of (channel_1 0x181 0x681) ≡ None
unfolding is_sdo_id has_object subs_present is_used_before
channel_request_181 = refl

channel_answer_6E0 : fault_of (channel_1 0x680 0x6E0) ≡ Some (BadCobId (key 0x1201 2))
unfolding is_sdo_id has_object subs_present is_used_before
channel_answer_6E0 = refl

channel_with_bit_11 : fault_of (channel_1 0xE80 0x681) ≡ Some (BadCobId (key 0x1201 1))
unfolding is_sdo_id has_object subs_present is_used_before
channel_with_bit_11 = refl

channel_with_bit_30 : fault_of (channel_1 0x40000680 0x681) ≡ None
unfolding is_sdo_id has_object subs_present is_used_before
channel_with_bit_30 = refl

channel_that_does_not_exist : fault_of (channel_1 0x180 0x80000681) ≡ None
unfolding is_sdo_id has_object subs_present is_used_before
channel_that_does_not_exist = refl

channel_without_answer : fault_of (channel_1 0x180 0) ≡ None
unfolding is_sdo_id has_object subs_present is_used_before
channel_without_answer = refl

two_channels : fault_of (channel_1 0x680 0x681 ++ channel_2 0x682 0x683) ≡ None
unfolding is_sdo_id has_object subs_present is_used_before
two_channels = refl

two_channels_with_one_request : fault_of (channel_1 0x680 0x681 ++ channel_2 0x680 0x683) ≡ Some (BadCobId (key 0x1202 1))
unfolding is_sdo_id has_object subs_present is_used_before
two_channels_with_one_request = refl

two_channels_with_one_answer : fault_of (channel_1 0x680 0x681 ++ channel_2 0x682 0x681) ≡ Some (BadCobId (key 0x1202 2))
unfolding is_sdo_id has_object subs_present is_used_before
two_channels_with_one_answer = refl

second_channel_does_not_exist : fault_of (channel_1 0x680 0x681 ++ channel_2 0x680 0x80000683) ≡ None
unfolding is_sdo_id has_object subs_present is_used_before
second_channel_does_not_exist = refl

pdo_with_a_channels_identifier : fault_of (channel_1 0x680 0x681 ++ tpdo 0x681) ≡ Some (BadCobId (key 0x1800 1))
unfolding is_sdo_id has_object subs_present is_used_before
pdo_with_a_channels_identifier = refl

pdo_beside_a_channel : fault_of (channel_1 0x680 0x681 ++ tpdo 0x682) ≡ None
unfolding is_sdo_id has_object subs_present is_used_before
pdo_beside_a_channel = refl

smaller_of_two_words : fault_of (word 0x1005 0 0x7F ∷ word 0x1014 0 0x7F ∷ []) ≡ Some (BadCobId (key 0x1005 0))
unfolding is_sdo_id has_object subs_present is_used_before
smaller_of_two_words = refl

value_range_goes_first : fault_of (word 0x1005 0 0x7F ∷ row 0x2000 1 Unsigned8 (node_id 251) ∷ []) ≡ Some (ValueRange (key 0x2000 1))
unfolding is_sdo_id has_object subs_present is_used_before
value_range_goes_first = refl

-- ---- 4, PdoPair

communication_13FF : is_communication 0x13FF ≡ false
communication_13FF = refl

mapping_13FF : is_mapping 0x13FF ≡ false
mapping_13FF = refl

communication_1400 : is_communication 0x1400 ≡ true
communication_1400 = refl

mapping_1400 : is_mapping 0x1400 ≡ false
mapping_1400 = refl

communication_15FF : is_communication 0x15FF ≡ true
communication_15FF = refl

mapping_15FF : is_mapping 0x15FF ≡ false
mapping_15FF = refl

communication_1600 : is_communication 0x1600 ≡ false
communication_1600 = refl

mapping_1600 : is_mapping 0x1600 ≡ true
mapping_1600 = refl

communication_17FF : is_communication 0x17FF ≡ false
communication_17FF = refl

mapping_17FF : is_mapping 0x17FF ≡ true
mapping_17FF = refl

communication_1800 : is_communication 0x1800 ≡ true
communication_1800 = refl

mapping_1800 : is_mapping 0x1800 ≡ false
mapping_1800 = refl

communication_19FF : is_communication 0x19FF ≡ true
communication_19FF = refl

mapping_19FF : is_mapping 0x19FF ≡ false
mapping_19FF = refl

communication_1A00 : is_communication 0x1A00 ≡ false
communication_1A00 = refl

mapping_1A00 : is_mapping 0x1A00 ≡ true
mapping_1A00 = refl

communication_1BFF : is_communication 0x1BFF ≡ false
communication_1BFF = refl

mapping_1BFF : is_mapping 0x1BFF ≡ true
mapping_1BFF = refl

communication_1C00 : is_communication 0x1C00 ≡ false
communication_1C00 = refl

mapping_1C00 : is_mapping 0x1C00 ≡ false
mapping_1C00 = refl

whole_tpdo : fault_of (tpdo 0) ≡ None
unfolding is_sdo_id has_object subs_present is_used_before
whole_tpdo = refl

communication_without_mapping : fault_of (count 0x1800 2 ∷ word 0x1800 1 0 ∷ row 0x1800 2 Unsigned8 absent ∷ []) ≡ Some (PdoPair 0x1800)
unfolding is_sdo_id has_object subs_present is_used_before
communication_without_mapping = refl

mapping_without_communication : fault_of (count 0x1A00 0 ∷ []) ≡ Some (PdoPair 0x1A00)
unfolding is_sdo_id has_object subs_present is_used_before
mapping_without_communication = refl

rpdo_mapping_without_communication : fault_of (count 0x1600 0 ∷ []) ≡ Some (PdoPair 0x1600)
unfolding is_sdo_id has_object subs_present is_used_before
rpdo_mapping_without_communication = refl

mapping_of_the_other_side : fault_of (count 0x1400 2 ∷ word 0x1400 1 0 ∷ row 0x1400 2 Unsigned8 absent ∷ count 0x1A00 0 ∷ []) ≡ Some (PdoPair 0x1400)
unfolding is_sdo_id has_object subs_present is_used_before
mapping_of_the_other_side = refl

mapping_of_the_next_pdo : fault_of (count 0x1800 2 ∷ word 0x1800 1 0 ∷ row 0x1800 2 Unsigned8 absent ∷ count 0x1A01 0 ∷ []) ≡ Some (PdoPair 0x1800)
unfolding is_sdo_id has_object subs_present is_used_before
mapping_of_the_next_pdo = refl

communication_without_word : fault_of (count 0x1800 2 ∷ row 0x1800 2 Unsigned8 absent ∷ count 0x1A00 0 ∷ []) ≡ Some (PdoPair 0x1800)
unfolding is_sdo_id has_object subs_present is_used_before
communication_without_word = refl

communication_without_type : fault_of (count 0x1800 2 ∷ word 0x1800 1 0 ∷ count 0x1A00 0 ∷ []) ≡ Some (PdoPair 0x1800)
unfolding is_sdo_id has_object subs_present is_used_before
communication_without_type = refl

mapping_without_count : fault_of (count 0x1800 2 ∷ word 0x1800 1 0 ∷ row 0x1800 2 Unsigned8 absent ∷ word 0x1A00 1 0 ∷ []) ≡ Some (PdoPair 0x1A00)
unfolding is_sdo_id has_object subs_present is_used_before
mapping_without_count = refl

bad_cob_id_goes_first : fault_of (count 0x1400 2 ∷ count 0x1800 2 ∷ word 0x1800 1 0x7F ∷ []) ≡ Some (BadCobId (key 0x1800 1))
unfolding is_sdo_id has_object subs_present is_used_before
bad_cob_id_goes_first = refl

-- ---- 5, BadMapping

mapped_both_ways : fault_of (rpdo_and_tpdo 0 1 0x20020020 0 1 0x20030010) ≡ None
unfolding is_sdo_id has_object subs_present is_used_before
mapped_both_ways = refl

nothing_mapped : fault_of (rpdo_and_tpdo 0 0 0x20090020 0 0 0x20090020) ≡ None
unfolding is_sdo_id has_object subs_present is_used_before
nothing_mapped = refl

two_of_one_word : fault_of (rpdo_and_tpdo 0 2 0x20020020 0 1 0x20030010) ≡ Some (BadMapping (key 0x1600 0))
unfolding is_sdo_id has_object subs_present is_used_before
two_of_one_word = refl

mapped_object_absent : fault_of (rpdo_and_tpdo 0 1 0x20020020 0 1 0x20040010) ≡ Some (BadMapping (key 0x1A00 0))
unfolding is_sdo_id has_object subs_present is_used_before
mapped_object_absent = refl

mapped_length_too_short : fault_of (rpdo_and_tpdo 0 1 0x20020010 0 1 0x20030010) ≡ Some (BadMapping (key 0x1600 0))
unfolding is_sdo_id has_object subs_present is_used_before
mapped_length_too_short = refl

word_0_counted : fault_of (rpdo_and_tpdo 0 1 0x20020020 0 1 0) ≡ Some (BadMapping (key 0x1A00 0))
unfolding is_sdo_id has_object subs_present is_used_before
word_0_counted = refl

mapping_of_a_pdo_that_is_not_valid : fault_of (rpdo_and_tpdo 0x80000205 1 0x20020020 0x80000185 1 0x20040010) ≡ Some (BadMapping (key 0x1A00 0))
unfolding is_sdo_id has_object subs_present is_used_before
mapping_of_a_pdo_that_is_not_valid = refl

rpdo_maps_no_object_below_2000 : fault_of (rpdo_and_tpdo 0 1 0x18000008 0 0 0) ≡ Some (BadMapping (key 0x1600 0))
unfolding is_sdo_id has_object subs_present is_used_before
rpdo_maps_no_object_below_2000 = refl

tpdo_maps_objects_below_2000 : fault_of (rpdo_and_tpdo 0 0 0 0 1 0x18000008) ≡ None
unfolding is_sdo_id has_object subs_present is_used_before
tpdo_maps_objects_below_2000 = refl

unusable_dummy : fault_of (rpdo_and_tpdo 0 1 0x00050008 0 0 0) ≡ Some (BadMapping (key 0x1600 0))
unfolding is_sdo_id has_object subs_present is_used_before
unusable_dummy = refl

usable_dummy : build_fault (record { node = 5; limits = record { strings = 0; domains = 0; own = [] }; rows = rpdo_and_tpdo 0 1 0x00050008 0 0 0; dummies = false ∷ false ∷ false ∷ true ∷ false ∷ false ∷ [] }) ≡ None
unfolding is_sdo_id has_object subs_present is_used_before
usable_dummy = refl

eight_bytes_mapped : fault_of (count 0x1400 2 ∷ word 0x1400 1 0 ∷ row 0x1400 2 Unsigned8 absent ∷ count 0x1600 2 ∷ word 0x1600 1 0x20020020 ∷ word 0x1600 2 0x20020020 ∷ row 0x2002 0 Unsigned32 absent ∷ []) ≡ None
unfolding is_sdo_id has_object subs_present is_used_before
eight_bytes_mapped = refl

ten_bytes_mapped : fault_of (count 0x1400 2 ∷ word 0x1400 1 0 ∷ row 0x1400 2 Unsigned8 absent ∷ count 0x1600 3 ∷ word 0x1600 1 0x20020020 ∷ word 0x1600 2 0x20020020 ∷ word 0x1600 3 0x20030010 ∷ row 0x2002 0 Unsigned32 absent ∷ row 0x2003 0 Unsigned16 absent ∷ []) ≡ Some (BadMapping (key 0x1600 0))
unfolding is_sdo_id has_object subs_present is_used_before
ten_bytes_mapped = refl

pdo_pair_goes_first : fault_of (count 0x1400 2 ∷ word 0x1400 1 0 ∷ row 0x1400 2 Unsigned8 absent ∷ count 0x1600 1 ∷ word 0x1600 1 0 ∷ count 0x1A00 0 ∷ []) ≡ Some (PdoPair 0x1A00)
unfolding is_sdo_id has_object subs_present is_used_before
pdo_pair_goes_first = refl

-- ---- 6, TooMany

as_many_entries : is_too_many 16384 0 ≡ false
as_many_entries = refl

an_entry_more : is_too_many 16385 0 ≡ true
an_entry_more = refl

as_much_room : is_too_many 0 16777216 ≡ false
as_much_room = refl

a_byte_more : is_too_many 0 16777217 ≡ true
a_byte_more = refl

-- the entries of a small sheet, and as many domains
abbrev with_domains : ℕ → List SheetRow
with_domains domains = row 0x1000 0 Unsigned32 (number (pos 0x191)) ∷ row 0x1001 0 Unsigned8 absent ∷ count 0x1018 1 ∷ row 0x1018 1 Unsigned32 absent
    ∷ replicate domains (row 0x2100 0 Domain absent)

room_for_256_domains : fault_of (with_domains 256) ≡ None
unfolding is_sdo_id has_object subs_present is_used_before
room_for_256_domains = refl

no_room_for_257_domains : fault_of (with_domains 257) ≡ Some TooMany
unfolding is_sdo_id has_object subs_present is_used_before
no_room_for_257_domains = refl

bad_cob_id_goes_before_too_many : fault_of (word 0x1005 0 0x7F ∷ with_domains 257) ≡ Some (BadCobId (key 0x1005 0))
unfolding is_sdo_id has_object subs_present is_used_before
bad_cob_id_goes_before_too_many = refl

-- ---- printed lines

text_of_NodeId : fault_text NodeId ≡ codes "build fault 1 NodeId"
unfolding digits
text_of_NodeId = refl

text_of_ValueRange : fault_text (ValueRange (key 0x2003 0)) ≡ codes "build fault 2 ValueRange 2003:00"
unfolding digits digits_text
text_of_ValueRange = refl

text_of_BadCobId : fault_text (BadCobId (key 0x1800 1)) ≡ codes "build fault 3 BadCobId 1800:01"
unfolding digits digits_text
text_of_BadCobId = refl

text_of_PdoPair : fault_text (PdoPair 0x1A01) ≡ codes "build fault 4 PdoPair 1A01"
unfolding digits digits_text
text_of_PdoPair = refl

text_of_BadMapping : fault_text (BadMapping (key 0x1BFF 0xFE)) ≡ codes "build fault 5 BadMapping 1BFF:FE"
unfolding digits digits_text
text_of_BadMapping = refl

text_of_TooMany : fault_text TooMany ≡ codes "build fault 6 TooMany"
unfolding digits
text_of_TooMany = refl

text_of_Memory : fault_text Memory ≡ codes "build fault 7 Memory"
unfolding digits
text_of_Memory = refl
