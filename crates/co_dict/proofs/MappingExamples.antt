-- Mapping words and their count, computed from the definitions over the example device.
use Rattle.std.proofs.Common.{◌≡◌, refl, Some, None, true, false}
use Rattle.co_dict.specs.declared.side.Side.TheVariants.{Rpdo, Tpdo}
use Rattle.co_dict.specs.Rows.{Contents}
use Rattle.co_dict.specs.Objects.{has_object, missing_entry, subs_present}
use Rattle.co_dict.specs.MappingWords.{mapped_key, mapped_bits, dummy_width, word_width, word_refusal}
use Rattle.co_dict.specs.MappingCounts.{count_refusal}
use Rattle.co_dict.proofs.ExampleDevice.{searches, at, rows, device, nothing, with_u32}

-- ---- objects

object : has_object rows 0x2006 ≡ true
unfolding searches
object = refl

no_object : has_object rows 0x3000 ≡ false
unfolding searches
no_object = refl

missing_object : missing_entry rows (at 0x3000 0) ≡ Some 0x0602_0000
unfolding searches
missing_object = refl

missing_sub_index : missing_entry rows (at 0x1018 5) ≡ Some 0x0609_0011
unfolding searches
missing_sub_index = refl

nothing_missing : missing_entry rows (at 0x1018 0) ≡ None
unfolding searches
nothing_missing = refl

-- 1600:03 is absent, so 1600:04 isn't counted
subs_up_to_a_gap : subs_present rows 0x1600 64 ≡ 2
unfolding searches
subs_up_to_a_gap = refl

subs_at_most : subs_present rows 0x1600 1 ≡ 1
unfolding searches
subs_at_most = refl

no_subs : subs_present rows 0x2002 64 ≡ 0
unfolding searches
no_subs = refl

-- ---- words

key_of_a_word : mapped_key 0x2006_0410 ≡ at 0x2006 4
key_of_a_word = refl

length_of_a_word : mapped_bits 0x2006_0410 ≡ 16
length_of_a_word = refl

entry : word_width Rpdo device 0x2002_0020 ≡ Some 4
entry = refl

transmitted_entry : word_width Tpdo device 0x2002_0020 ≡ Some 4
transmitted_entry = refl

shorter_length : word_refusal Rpdo device 0x2002_001F ≡ Some 0x0604_0041
unfolding searches
shorter_length = refl

longer_length : word_refusal Rpdo device 0x2002_0021 ≡ Some 0x0604_0041
unfolding searches
longer_length = refl

boolean_as_a_byte : word_width Tpdo device 0x2008_0008 ≡ Some 1
boolean_as_a_byte = refl

boolean_as_a_bit : word_width Tpdo device 0x2008_0001 ≡ None
boolean_as_a_bit = refl

-- entries of the communication profile are transmitted alone
received_1FFF : word_refusal Rpdo device 0x1FFF_0008 ≡ Some 0x0604_0041
unfolding searches
received_1FFF = refl

transmitted_1FFF : word_width Tpdo device 0x1FFF_0008 ≡ Some 1
transmitted_1FFF = refl

received_2000 : word_width Rpdo device 0x2000_0008 ≡ Some 1
received_2000 = refl

-- access
received_wo : word_width Rpdo device 0x2004_0010 ≡ Some 2
received_wo = refl

transmitted_wo : word_refusal Tpdo device 0x2004_0010 ≡ Some 0x0604_0041
unfolding searches
transmitted_wo = refl

received_ro : word_width Rpdo device 0x2006_0108 ≡ None
received_ro = refl

transmitted_ro : word_width Tpdo device 0x2006_0108 ≡ Some 1
transmitted_ro = refl

received_rwr : word_width Rpdo device 0x2006_0208 ≡ None
received_rwr = refl

transmitted_rwr : word_width Tpdo device 0x2006_0208 ≡ Some 1
transmitted_rwr = refl

received_rww : word_width Rpdo device 0x2006_0308 ≡ Some 1
received_rww = refl

transmitted_rww : word_width Tpdo device 0x2006_0308 ≡ None
transmitted_rww = refl

received_const : word_width Rpdo device 0x2006_0408 ≡ None
received_const = refl

transmitted_const : word_width Tpdo device 0x2006_0408 ≡ Some 1
transmitted_const = refl

not_mappable : word_refusal Tpdo device 0x1000_0020 ≡ Some 0x0604_0041
unfolding searches
not_mappable = refl

text : word_refusal Tpdo device 0x2007_0008 ≡ Some 0x0604_0041
unfolding searches
text = refl

absent_object : word_refusal Tpdo device 0x3000_0008 ≡ Some 0x0602_0000
unfolding searches
absent_object = refl

absent_sub_index : word_refusal Tpdo device 0x2002_0120 ≡ Some 0x0609_0011
unfolding searches
absent_sub_index = refl

word_0 : word_refusal Rpdo device 0 ≡ Some 0x0602_0000
unfolding searches
word_0 = refl

-- dummies
dummy : word_width Rpdo device 0x0003_0010 ≡ Some 2
dummy = refl

dummy_5 : word_width Rpdo device 0x0005_0008 ≡ Some 1
dummy_5 = refl

dummy_of_another_length : word_refusal Rpdo device 0x0003_0008 ≡ Some 0x0604_0041
unfolding searches
dummy_of_another_length = refl

dummy_sub_index : word_refusal Rpdo device 0x0003_0110 ≡ Some 0x0609_0011
unfolding searches
dummy_sub_index = refl

unusable_dummy : word_refusal Rpdo device 0x0002_0008 ≡ Some 0x0602_0000
unfolding searches
unusable_dummy = refl

transmitted_dummy : word_refusal Tpdo device 0x0003_0010 ≡ Some 0x0602_0000
unfolding searches
transmitted_dummy = refl

no_dummy_1 : dummy_width 1 ≡ None
no_dummy_1 = refl

dummy_2 : dummy_width 2 ≡ Some 1
dummy_2 = refl

dummy_4 : dummy_width 4 ≡ Some 4
dummy_4 = refl

dummy_6 : dummy_width 6 ≡ Some 2
dummy_6 = refl

dummy_7 : dummy_width 7 ≡ Some 4
dummy_7 = refl

no_dummy_8 : dummy_width 8 ≡ None
no_dummy_8 = refl

-- ---- counts

-- 1A00h with four bytes, two bytes and two more
abbrev mapped : Contents
mapped = with_u32 0x1A00 1 0x2002_0020 (with_u32 0x1A00 2 0x2003_0010 (with_u32 0x1A00 3 0x2003_0010 nothing))

no_words : count_refusal Tpdo device mapped 0x1A00 0 ≡ None
unfolding searches
no_words = refl

eight_bytes : count_refusal Tpdo device mapped 0x1A00 3 ≡ None
unfolding searches
eight_bytes = refl

more_than_the_words : count_refusal Tpdo device mapped 0x1A00 4 ≡ Some 0x0609_0030
unfolding searches
more_than_the_words = refl

more_than_64 : count_refusal Tpdo device mapped 0x1A00 65 ≡ Some 0x0609_0030
unfolding searches
more_than_64 = refl

nine_bytes : count_refusal Tpdo device (with_u32 0x1A00 1 0x2002_0020 (with_u32 0x1A00 2 0x2002_0020 (with_u32 0x1A00 3 0x2006_0108 nothing))) 0x1A00 3 ≡ Some 0x0604_0042
unfolding searches
nine_bytes = refl

word_0_is_counted : count_refusal Tpdo device (with_u32 0x1A00 1 0x2002_0020 nothing) 0x1A00 2 ≡ Some 0x0604_0041
unfolding searches
word_0_is_counted = refl

word_past_the_count : count_refusal Tpdo device (with_u32 0x1A00 1 0x2002_0020 nothing) 0x1A00 1 ≡ None
unfolding searches
word_past_the_count = refl

absent_object_is_counted : count_refusal Tpdo device (with_u32 0x1A00 1 0x3000_0020 nothing) 0x1A00 1 ≡ Some 0x0604_0041
unfolding searches
absent_object_is_counted = refl

twelve_bytes : count_refusal Tpdo device (with_u32 0x1A00 1 0x2002_0020 (with_u32 0x1A00 2 0x2002_0020 (with_u32 0x1A00 3 0x2002_0020 nothing))) 0x1A00 3 ≡ Some 0x0604_0042
unfolding searches
twelve_bytes = refl

-- each word is looked at before the bytes are added
long_and_bad : count_refusal Tpdo device (with_u32 0x1A00 1 0x2002_0020 (with_u32 0x1A00 2 0x2002_0020 (with_u32 0x1A00 3 0x2004_0010 nothing))) 0x1A00 3 ≡ Some 0x0604_0041
unfolding searches
long_and_bad = refl
