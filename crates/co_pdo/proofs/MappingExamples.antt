-- What PDOs of the dictionary's example device map, computed from the definitions.
use Rattle.std.proofs.Common.{◌≡◌, ℕ, true, false, Some, None, [], ◌∷◌, refl}
use Rattle.co_dict.specs.declared.side.Side.TheVariants.{Rpdo, Tpdo}
use Rattle.co_dict.specs.Rows.{Contents}
use Rattle.co_dict.specs.Stores.{Description}
use Rattle.co_dict.specs.Objects.{subs_present}
use Rattle.co_dict.proofs.ExampleDevice.{at, device, nothing, with_u8, with_u32}
use Rattle.co_pdo.specs.declared.mapping.Mapped.TheVariants.{Entry, Dummy}
use Rattle.co_pdo.specs.Mappings.{mapped_by, mapping_of, total_of, all_there}

-- RPDO 0 with a count and two words
abbrev rpdo : ℕ → ℕ → ℕ → Contents
rpdo count first second = with_u8 0x1600 0 count (with_u32 0x1600 1 first (with_u32 0x1600 2 second nothing))

-- TPDO 0 with a count and two words
abbrev tpdo : ℕ → ℕ → ℕ → Contents
tpdo count first second = with_u8 0x1A00 0 count (with_u32 0x1A00 1 first (with_u32 0x1A00 2 second nothing))

-- ---- words

an_entry : mapped_by Rpdo device 0x2002_0020 ≡ Some (Entry (at 0x2002 0) 4)
an_entry = refl

a_sub_index : mapped_by Tpdo device 0x2006_0108 ≡ Some (Entry (at 0x2006 1) 1)
a_sub_index = refl

dummy_of_2_bytes : mapped_by Rpdo device 0x0003_0010 ≡ Some (Dummy 2)
dummy_of_2_bytes = refl

dummy_of_1_byte : mapped_by Rpdo device 0x0005_0008 ≡ Some (Dummy 1)
dummy_of_1_byte = refl

dummy_of_another_width : mapped_by Rpdo device 0x0005_0010 ≡ None
dummy_of_another_width = refl

dummy_that_is_not_allowed : mapped_by Rpdo device 0x0006_0010 ≡ None
dummy_that_is_not_allowed = refl

no_dummy_in_a_tpdo : mapped_by Tpdo device 0x0005_0008 ≡ None
no_dummy_in_a_tpdo = refl

-- each dummy entry, where the data sheet allows all of them
abbrev all_dummies : Description
all_dummies = record device { dummies = λ index. true }

dummy_0002 : mapped_by Rpdo all_dummies 0x0002_0008 ≡ Some (Dummy 1)
dummy_0002 = refl

dummy_0003 : mapped_by Rpdo all_dummies 0x0003_0010 ≡ Some (Dummy 2)
dummy_0003 = refl

dummy_0004 : mapped_by Rpdo all_dummies 0x0004_0020 ≡ Some (Dummy 4)
dummy_0004 = refl

dummy_0005 : mapped_by Rpdo all_dummies 0x0005_0008 ≡ Some (Dummy 1)
dummy_0005 = refl

dummy_0006 : mapped_by Rpdo all_dummies 0x0006_0010 ≡ Some (Dummy 2)
dummy_0006 = refl

dummy_0007 : mapped_by Rpdo all_dummies 0x0007_0020 ≡ Some (Dummy 4)
dummy_0007 = refl

-- ---- mappings

two_entries : mapping_of Rpdo device (rpdo 2 0x2002_0020 0x2003_0010) 0 ≡ Entry (at 0x2002 0) 4 ∷ Entry (at 0x2003 0) 2 ∷ []
unfolding subs_present
two_entries = refl

an_entry_and_a_dummy : mapping_of Rpdo device (rpdo 2 0x0003_0010 0x2003_0010) 0 ≡ Dummy 2 ∷ Entry (at 0x2003 0) 2 ∷ []
unfolding subs_present
an_entry_and_a_dummy = refl

one_of_two : mapping_of Rpdo device (rpdo 1 0x2002_0020 0x2003_0010) 0 ≡ Entry (at 0x2002 0) 4 ∷ []
unfolding subs_present
one_of_two = refl

count_0 : mapping_of Rpdo device (rpdo 0 0x2002_0020 0x2003_0010) 0 ≡ []
unfolding subs_present
count_0 = refl

-- more words than are there
count_3 : mapping_of Rpdo device (rpdo 3 0x2002_0020 0x2003_0010) 0 ≡ []
unfolding subs_present
count_3 = refl

a_word_of_0 : mapping_of Rpdo device (rpdo 2 0x2002_0020 0) 0 ≡ []
unfolding subs_present
a_word_of_0 = refl

-- one entry twice is 8 bytes
twice : mapping_of Rpdo device (rpdo 2 0x2002_0020 0x2002_0020) 0 ≡ Entry (at 0x2002 0) 4 ∷ Entry (at 0x2002 0) 4 ∷ []
unfolding subs_present
twice = refl

eight_bytes : total_of (Entry (at 0x2002 0) 4 ∷ Entry (at 0x2002 0) 4 ∷ []) ≡ 8
eight_bytes = refl

no_such_pdo : mapping_of Rpdo device (rpdo 2 0x2002_0020 0x2003_0010) 1 ≡ []
unfolding subs_present
no_such_pdo = refl

of_a_tpdo : mapping_of Tpdo device (tpdo 2 0x2006_0108 0x2002_0020) 0 ≡ Entry (at 0x2006 1) 1 ∷ Entry (at 0x2002 0) 4 ∷ []
unfolding subs_present
of_a_tpdo = refl

-- ---- entries that are there

there : all_there device.rows (Entry (at 0x2002 0) 4 ∷ Dummy 2 ∷ []) ≡ true
there = refl

of_another_width : all_there device.rows (Entry (at 0x2002 0) 2 ∷ []) ≡ false
of_another_width = refl

absent : all_there device.rows (Dummy 2 ∷ Entry (at 0x3000 0) 2 ∷ []) ≡ false
absent = refl

not_numeric : all_there device.rows (Entry (at 0x2007 0) 1 ∷ []) ≡ false
not_numeric = refl
