-- Worked examples, computed from the definitions: all faults of a dictionary, what is left out, and each reason of a mapping.
use Rattle.std.proofs.Common.{◌≡◌, ℕ, ◌++◌, List, [], ◌∷◌, map, refl, None, true, false}
use Rattle.std.specs.Prelude.{Bool, pos}
use Rattle.co_value.specs.declared.key.Key.{Key}
use Rattle.co_value.specs.declared.data_type.DataType.{DataType}
use Rattle.co_value.specs.declared.data_type.DataType.TheVariants.{Boolean, Unsigned8, Unsigned16, Unsigned32, Unsigned64, VisibleString}
use Rattle.co_profile.specs.declared.access.Access.{Access}
use Rattle.co_profile.specs.declared.access.Access.TheVariants.{Ro, Wo, Rw}
use Rattle.co_sheet.specs.Limits.{Default, absent, number, node_id}
use Rattle.co_sheet.specs.Content.{Row as SheetRow}
use Rattle.co_dict.specs.SdoChannels.{is_sdo_id}
use Rattle.co_dict.specs.Objects.{has_object, subs_present}
use Rattle.co_dict_build.specs.declared.build_fault.BuildFault.{BuildFault}
use Rattle.co_dict_build.specs.declared.build_fault.BuildFault.TheVariants.{NodeId, ValueRange, BadCobId, PdoPair, BadMapping}
use Rattle.co_dict_build.specs.Built.{Plan}
use Rattle.co_dict_build.specs.BuildFaults.{is_used_before}
use Rattle.co_dict_faults.specs.declared.mapping_fault.MappingFault.{MappingFault}
use Rattle.co_dict_faults.specs.declared.mapping_fault.MappingReason.{MappingReason}
use Rattle.co_dict_faults.specs.declared.mapping_fault.MappingReason.TheVariants.{CountsMore, TooLong, Multiplexed, Missing, Zero, NoEntry, NotMappable, NoNumber, BelowProfile, WrongAccess, OneBit, WrongLength}
use Rattle.co_dict_faults.specs.MappingReasons.{has_from}
use Rattle.co_dict_faults.specs.AllBuildFaults.{build_faults_of, mapping_faults_of}

abbrev key : ℕ → ℕ → Key
key index sub = record { index = index; sub = sub }

abbrev entry : ℕ → ℕ → DataType → Access → Bool → Default → SheetRow
entry index sub t access mappable default = record { key = key index sub; data_type = t; access = access; low = None; high = None; default = default; mappable = mappable; name = None; line = 0 }

-- a row that may be written and mapped; a COB-ID or mapping word, and a count
abbrev row : ℕ → ℕ → DataType → Default → SheetRow
row index sub t default = entry index sub t Rw true default

abbrev word : ℕ → ℕ → ℕ → SheetRow
word index sub value = row index sub Unsigned32 (number (pos value))

abbrev count : ℕ → ℕ → SheetRow
count index value = row index 0 Unsigned8 (number (pos value))

abbrev plan : ℕ → List SheetRow → Plan
plan node rows = record { node = node; limits = record { strings = 16; domains = 65535; own = [] }; rows = rows; dummies = [] }

-- for node-ID 5
abbrev faults : List SheetRow → List BuildFault
faults rows = build_faults_of (plan 5 rows)

abbrev reasons : List SheetRow → List MappingFault
reasons rows = mapping_faults_of (plan 5 rows)

abbrev at : ℕ → ℕ → MappingReason → MappingFault
at index sub reason = record { key = key index sub; reason = reason }

-- a PDO's communication parameter with a word, at 1400h and at 1800h
abbrev communication : ℕ → ℕ → List SheetRow
communication index cob_id = count index 2 ∷ word index 1 cob_id ∷ row index 2 Unsigned8 absent ∷ []

-- an RPDO that maps one word, and 2002:00 and others to map
abbrev rpdo : ℕ → List SheetRow
rpdo mapped =
    communication 0x1400 0x205 ++ count 0x1600 1 ∷ word 0x1600 1 mapped
    ∷ row 0x2002 0 Unsigned32 absent ∷ entry 0x2003 0 Unsigned16 Ro true absent
    ∷ entry 0x2004 0 Unsigned8 Rw false absent ∷ row 0x2005 0 VisibleString absent ∷ row 0x2006 0 Boolean absent ∷ []

-- a TPDO that counts so many, with these rows of its mapping
abbrev tpdo : ℕ → List SheetRow → List SheetRow
tpdo n words =
    communication 0x1800 0x185 ++ count 0x1A00 n ∷ words
    ++ row 0x2002 0 Unsigned32 absent ∷ row 0x2003 0 Unsigned64 absent ∷ entry 0x2004 0 Unsigned8 Wo true absent ∷ []

-- ---- all faults

node_id_0 : build_faults_of (plan 0 (row 0x2000 0 Unsigned8 (node_id 251) ∷ [])) ≡ NodeId ∷ []
unfolding is_sdo_id has_object subs_present is_used_before has_from
node_id_0 = refl

no_fault : faults (tpdo 1 (word 0x1A00 1 0x20020020 ∷ [])) ≡ []
unfolding is_sdo_id has_object subs_present is_used_before has_from
no_fault = refl

each_sum : faults (row 0x2000 1 Unsigned8 (node_id 251) ∷ row 0x2000 2 Unsigned8 (node_id 250) ∷ row 0x2000 3 Unsigned8 (node_id 252) ∷ [])
    ≡ ValueRange (key 0x2000 1) ∷ ValueRange (key 0x2000 3) ∷ []
unfolding is_sdo_id has_object subs_present is_used_before has_from
each_sum = refl

each_word_and_object : faults (communication 0x1400 0x7F ++ count 0x1401 2 ∷ row 0x1401 2 Unsigned8 absent ∷ communication 0x1800 0x601 ++ count 0x1A00 0 ∷ [])
    ≡ BadCobId (key 0x1400 1) ∷ BadCobId (key 0x1800 1) ∷ PdoPair 0x1400 ∷ PdoPair 0x1401 ∷ []
unfolding is_sdo_id has_object subs_present is_used_before has_from
each_word_and_object = refl

each_mapping : faults (communication 0x1400 0x205 ++ count 0x1600 1 ∷ word 0x1600 1 0 ∷ communication 0x1800 0x185 ++ count 0x1A00 2 ∷ word 0x1A00 1 0 ∷ [])
    ≡ BadMapping (key 0x1600 0) ∷ BadMapping (key 0x1A00 0) ∷ []
unfolding is_sdo_id has_object subs_present is_used_before has_from
each_mapping = refl

-- ---- what rests on a sum out of range

word_is_a_sum : faults (count 0x1800 2 ∷ row 0x1800 1 Unsigned32 (node_id 0xFFFFFFFF) ∷ row 0x1800 2 Unsigned8 absent ∷ count 0x1A00 0 ∷ [])
    ≡ ValueRange (key 0x1800 1) ∷ []
unfolding is_sdo_id has_object subs_present is_used_before has_from
word_is_a_sum = refl

count_is_a_sum : faults (communication 0x1800 0x185 ++ row 0x1A00 0 Unsigned8 (node_id 251) ∷ word 0x1A00 1 0 ∷ [])
    ≡ ValueRange (key 0x1A00 0) ∷ []
unfolding is_sdo_id has_object subs_present is_used_before has_from
count_is_a_sum = refl

-- ---- why a word can't be mapped

mapped : reasons (rpdo 0x20020020) ≡ []
unfolding is_sdo_id has_object subs_present is_used_before has_from
mapped = refl

zero_word : reasons (rpdo 0) ≡ at 0x1600 1 Zero ∷ []
unfolding is_sdo_id has_object subs_present is_used_before has_from
zero_word = refl

no_such_entry : reasons (rpdo 0x20020120) ≡ at 0x1600 1 NoEntry ∷ []
unfolding is_sdo_id has_object subs_present is_used_before has_from
no_such_entry = refl

read_only : reasons (rpdo 0x20030010) ≡ at 0x1600 1 WrongAccess ∷ []
unfolding is_sdo_id has_object subs_present is_used_before has_from
read_only = refl

not_mappable : reasons (rpdo 0x20040008) ≡ at 0x1600 1 NotMappable ∷ []
unfolding is_sdo_id has_object subs_present is_used_before has_from
not_mappable = refl

a_string : reasons (rpdo 0x20050008) ≡ at 0x1600 1 NoNumber ∷ []
unfolding is_sdo_id has_object subs_present is_used_before has_from
a_string = refl

below_2000 : reasons (rpdo 0x14000208) ≡ at 0x1600 1 BelowProfile ∷ []
unfolding is_sdo_id has_object subs_present is_used_before has_from
below_2000 = refl

one_bit : reasons (rpdo 0x20060001) ≡ at 0x1600 1 OneBit ∷ []
unfolding is_sdo_id has_object subs_present is_used_before has_from
one_bit = refl

eight_bits : reasons (rpdo 0x20060008) ≡ []
unfolding is_sdo_id has_object subs_present is_used_before has_from
eight_bits = refl

two_bits : reasons (rpdo 0x20060002) ≡ at 0x1600 1 WrongLength ∷ []
unfolding is_sdo_id has_object subs_present is_used_before has_from
two_bits = refl

one_bit_of_32 : reasons (rpdo 0x20020001) ≡ at 0x1600 1 WrongLength ∷ []
unfolding is_sdo_id has_object subs_present is_used_before has_from
one_bit_of_32 = refl

write_only : reasons (tpdo 1 (word 0x1A00 1 0x20040008 ∷ [])) ≡ at 0x1A00 1 WrongAccess ∷ []
unfolding is_sdo_id has_object subs_present is_used_before has_from
write_only = refl

-- ---- each word, and the count

each_word_at_fault : reasons (tpdo 3 (word 0x1A00 1 0 ∷ word 0x1A00 2 0x20020020 ∷ word 0x1A00 3 0x20020021 ∷ []))
    ≡ at 0x1A00 1 Zero ∷ at 0x1A00 3 WrongLength ∷ []
unfolding is_sdo_id has_object subs_present is_used_before has_from
each_word_at_fault = refl

past_the_count : reasons (tpdo 1 (word 0x1A00 1 0x20020020 ∷ word 0x1A00 2 0 ∷ [])) ≡ []
unfolding is_sdo_id has_object subs_present is_used_before has_from
past_the_count = refl

a_gap : reasons (tpdo 3 (word 0x1A00 1 0x20020020 ∷ word 0x1A00 3 0x20020020 ∷ [])) ≡ at 0x1A00 2 Missing ∷ []
unfolding is_sdo_id has_object subs_present is_used_before has_from
a_gap = refl

counts_more : reasons (tpdo 2 (word 0x1A00 1 0x20020020 ∷ [])) ≡ at 0x1A00 0 CountsMore ∷ []
unfolding is_sdo_id has_object subs_present is_used_before has_from
counts_more = refl

-- FEh and FFh count nothing, whatever words there are; FDh is a count
multiplexed : map (λ n. reasons (tpdo n (word 0x1A00 1 0x20020020 ∷ word 0x1A00 2 0 ∷ []))) (0xFD ∷ 0xFE ∷ 0xFF ∷ [])
    ≡ (at 0x1A00 2 Zero ∷ at 0x1A00 0 CountsMore ∷ []) ∷ (at 0x1A00 0 Multiplexed ∷ []) ∷ (at 0x1A00 0 Multiplexed ∷ []) ∷ []
unfolding is_sdo_id has_object subs_present is_used_before has_from
multiplexed = refl

bits_64 : reasons (tpdo 1 (word 0x1A00 1 0x20030040 ∷ [])) ≡ []
unfolding is_sdo_id has_object subs_present is_used_before has_from
bits_64 = refl

bits_96 : reasons (tpdo 2 (word 0x1A00 1 0x20030040 ∷ word 0x1A00 2 0x20020020 ∷ [])) ≡ at 0x1A00 0 (TooLong 96) ∷ []
unfolding is_sdo_id has_object subs_present is_used_before has_from
bits_96 = refl
