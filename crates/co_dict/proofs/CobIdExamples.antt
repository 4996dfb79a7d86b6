-- COB-ID words, computed from the definitions: both sides of each edge of what is free and what is good.
use Rattle.std.proofs.Common.{◌≡◌, ℕ, refl, None, true, false}
use Rattle.co_value.specs.declared.key.Key.{Key}
use Rattle.co_value.specs.Numbers.{low_bytes}
use Rattle.co_dict.specs.Rows.{Contents, written}
use Rattle.co_dict.specs.CobIds.{identifier_of, has_bit_31, is_valid, has_11_bits, is_restricted, is_default_sdo}
use Rattle.co_dict.specs.SdoChannels.{request_key, answer_key, is_channel, request_id, answer_id}
use Rattle.co_dict.specs.FreeIds.{is_free, is_good_word, is_good_sync_word}
use Rattle.co_dict.proofs.ExampleDevice.{searches}

-- no entry at all
abbrev pub nothing : Contents
nothing = λ key. None

-- the contents with a word of 32 bits more
abbrev pub with_word : Key → ℕ → Contents → Contents
with_word key word contents = written contents key (low_bytes 4 word)

-- channel 1 with these two words
abbrev pub channel_1 : ℕ → ℕ → Contents
channel_1 request answer = with_word (request_key 1) request (with_word (answer_key 1) answer nothing)

identifier : identifier_of 0x4000_0FFF ≡ 0x7FF
identifier = refl

identifier_past : identifier_of 0x800 ≡ 0
identifier_past = refl

bit_31 : has_bit_31 0x8000_0000 ≡ true
bit_31 = refl

no_bit_31 : has_bit_31 0x7FFF_FFFF ≡ false
no_bit_31 = refl

valid : is_valid 0x7FFF_FFFF ≡ true
valid = refl

smallest_valid : is_valid 1 ≡ true
smallest_valid = refl

zero_is_not_valid : is_valid 0 ≡ false
zero_is_not_valid = refl

bit_31_is_not_valid : is_valid 0x8000_0001 ≡ false
bit_31_is_not_valid = refl

-- bit 30 and the identifier are not looked at, bits 29 and 11 are
bits_30_and_10 : has_11_bits 0xC000_07FF ≡ true
bits_30_and_10 = refl

bit_29 : has_11_bits 0x2000_0181 ≡ false
bit_29 = refl

bit_11 : has_11_bits 0x0000_0800 ≡ false
bit_11 = refl

-- what no word may have
nmt : is_restricted 0 ≡ true
nmt = refl

below_sync : is_restricted 0x7F ≡ true
below_sync = refl

sync : is_restricted 0x80 ≡ false
sync = refl

identifier_100 : is_restricted 0x100 ≡ false
identifier_100 = refl

identifier_101 : is_restricted 0x101 ≡ true
identifier_101 = refl

identifier_180 : is_restricted 0x180 ≡ true
identifier_180 = refl

identifier_181 : is_restricted 0x181 ≡ false
identifier_181 = refl

identifier_6DF : is_restricted 0x6DF ≡ false
identifier_6DF = refl

identifier_6E0 : is_restricted 0x6E0 ≡ true
identifier_6E0 = refl

identifier_7FF : is_restricted 0x7FF ≡ true
identifier_7FF = refl

identifier_580 : is_default_sdo 0x580 ≡ false
identifier_580 = refl

identifier_581 : is_default_sdo 0x581 ≡ true
identifier_581 = refl

identifier_5FF : is_default_sdo 0x5FF ≡ true
identifier_5FF = refl

identifier_600 : is_default_sdo 0x600 ≡ false
identifier_600 = refl

identifier_601 : is_default_sdo 0x601 ≡ true
identifier_601 = refl

identifier_67F : is_default_sdo 0x67F ≡ true
identifier_67F = refl

identifier_680 : is_default_sdo 0x680 ≡ false
identifier_680 = refl

-- channels
channel_0 : is_channel nothing 0 ≡ true
channel_0 = refl

requests_of_channel_0 : request_id 5 (channel_1 0x680 0x681) 0 ≡ 0x605
requests_of_channel_0 = refl

answers_of_channel_0 : answer_id 5 (channel_1 0x680 0x681) 0 ≡ 0x585
answers_of_channel_0 = refl

channel_1_exists : is_channel (channel_1 0x680 0x681) 1 ≡ true
channel_1_exists = refl

channel_1_is_absent : is_channel nothing 1 ≡ false
channel_1_is_absent = refl

without_answers : is_channel (with_word (request_key 1) 0x680 nothing) 1 ≡ false
without_answers = refl

without_requests : is_channel (with_word (answer_key 1) 0x681 nothing) 1 ≡ false
without_requests = refl

request_word_0 : is_channel (channel_1 0 0x681) 1 ≡ false
request_word_0 = refl

answer_word_0 : is_channel (channel_1 0x680 0) 1 ≡ false
answer_word_0 = refl

request_with_bit_31 : is_channel (channel_1 0x8000_0680 0x681) 1 ≡ false
request_with_bit_31 = refl

answer_with_bit_31 : is_channel (channel_1 0x680 0x8000_0681) 1 ≡ false
answer_with_bit_31 = refl

-- bits 30 to 11 take no channel away
high_bits : is_channel (channel_1 0x7FFF_FE80 0x681) 1 ≡ true
high_bits = refl

request_id_of_high_bits : request_id 5 (channel_1 0x7FFF_FE80 0x681) 1 ≡ 0x680
request_id_of_high_bits = refl

last_channel : is_channel (with_word (request_key 127) 0x680 (with_word (answer_key 127) 0x681 nothing)) 127 ≡ true
last_channel = refl

no_channel_128 : is_channel (with_word (request_key 128) 0x680 (with_word (answer_key 128) 0x681 nothing)) 128 ≡ false
no_channel_128 = refl

answers_of_channel_1 : answer_id 5 (channel_1 0x680 0x681) 1 ≡ 0x681
answers_of_channel_1 = refl

-- free identifiers
request_of_channel_1_is_taken : is_free 5 (channel_1 0x680 0x681) 0x680 ≡ false
unfolding searches
request_of_channel_1_is_taken = refl

answer_of_channel_1_is_taken : is_free 5 (channel_1 0x680 0x681) 0x681 ≡ false
unfolding searches
answer_of_channel_1_is_taken = refl

next_to_channel_1 : is_free 5 (channel_1 0x680 0x681) 0x682 ≡ true
unfolding searches
next_to_channel_1 = refl

absent_channel_takes_none : is_free 5 (channel_1 0x680 0x8000_0681) 0x680 ≡ true
unfolding searches
absent_channel_takes_none = refl

channel_of_an_unusual_word : is_free 5 (channel_1 0x300 0x2000_0301) 0x301 ≡ false
unfolding searches
channel_of_an_unusual_word = refl

last_channel_takes : is_free 5 (with_word (request_key 127) 0x680 (with_word (answer_key 127) 0x681 nothing)) 0x681 ≡ false
unfolding searches
last_channel_takes = refl

restricted_is_not_free : is_free 5 nothing 0x101 ≡ false
unfolding searches
restricted_is_not_free = refl

default_sdo_is_not_free : is_free 5 nothing 0x67F ≡ false
unfolding searches
default_sdo_is_not_free = refl

-- words of PDOs and the emergency
good : is_good_word 5 nothing 0x185 ≡ true
unfolding searches
good = refl

good_with_bit_30 : is_good_word 5 nothing 0x4000_0185 ≡ true
unfolding searches
good_with_bit_30 = refl

good_with_bit_31 : is_good_word 5 nothing 0xBFFF_FFFF ≡ true
unfolding searches
good_with_bit_31 = refl

bad_identifier : is_good_word 5 nothing 0x180 ≡ false
unfolding searches
bad_identifier = refl

bad_bit_29 : is_good_word 5 nothing 0x2000_0185 ≡ false
unfolding searches
bad_bit_29 = refl

zero_is_not_good : is_good_word 5 nothing 0 ≡ false
unfolding searches
zero_is_not_good = refl

-- words of SYNC
good_sync : is_good_sync_word 5 nothing 0x80 ≡ true
unfolding searches
good_sync = refl

good_sync_with_bit_31 : is_good_sync_word 5 nothing 0x8000_0080 ≡ true
unfolding searches
good_sync_with_bit_31 = refl

sync_producer : is_good_sync_word 5 nothing 0x4000_0080 ≡ false
unfolding searches
sync_producer = refl

sync_of_29_bits : is_good_sync_word 5 nothing 0x2000_0080 ≡ false
unfolding searches
sync_of_29_bits = refl

sync_bit_11 : is_good_sync_word 5 nothing 0x0880 ≡ false
unfolding searches
sync_bit_11 = refl

bad_sync_identifier : is_good_sync_word 5 nothing 0x7F ≡ false
unfolding searches
bad_sync_identifier = refl

bit_31_alone_is_not_good : is_good_sync_word 5 nothing 0x8000_0000 ≡ false
unfolding searches
bit_31_alone_is_not_good = refl
