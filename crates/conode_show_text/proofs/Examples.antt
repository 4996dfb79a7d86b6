-- What is shown, evaluated: each text once, and both sides of each edge.
use Rattle.std.proofs.Common.{◌≡◌, ℕ, [], ◌∷◌, ◌++◌, List, Some, None, true, false, refl, pos, negsuc}
use Rattle.std.specs.Prelude.{codes, map, replicate}
use Rattle.std.specs.Fmt.{digits}
use Rattle.std.specs.Str.{is_utf8, chars}
use lib.Utf8.{encode}
use Rattle.co_text.specs.Printed.{digits_text}
use Rattle.conode_text.specs.Unseen.{code_text}
use Rattle.conode_json.specs.Characters.{characters_of, windows_1252}
use Rattle.co_value.specs.declared.data_type.DataType.TheVariants.{Boolean, Integer8, Integer16, Unsigned8, Unsigned16, Unsigned32, VisibleString, OctetString}
use Rattle.conode_show_text.specs.declared.format.Format.TheVariants.{Text, Markdown}
use Rattle.conode_show_text.specs.declared.meaning.Meaning.TheVariants.{PdoCobId, CobId, SyncCobId, SyncPeriod, SyncWindow, SyncOverflow, TimeCobId, Transmission, Reception, PdoInhibit, EventTimer, EmcyInhibit, Consumer, Producer, Mapped}
use Rattle.conode_show_text.specs.Numbers.{hex_text, in_parentheses, number_text}
use Rattle.conode_lint_text.specs.Characters.{shown}
use Rattle.conode_show_text.specs.Texts.{plain_text}
use Rattle.conode_show_text.specs.Layout.{Part, placed, line_of}
use Rattle.conode_show_text.specs.declared.values.Word.{Word}
use Rattle.conode_show_text.specs.Values.{sum_text, known_text, quoted, value_text, unnumbered_text, value_number, limit_in_type, word_of}
use Rattle.conode_show_text.specs.CobIds.{identifier_text, cob_id_text, pdo_cob_id_text, sync_text, time_cob_id_text}
use Rattle.conode_show_text.specs.Meanings.{meaning_text, word_text, transmission_text, reception_text, counted_syncs, micros_text, millis_text, overflow_text, time_text, consumer_text, mapped_text}
use Rattle.conode_show_text.specs.Pdos.{type_meaning}
use Rattle.conode_show_text.specs.Entries.{type_name}

-- ---- numbers

one_digit : number_text 1 (pos 9) ≡ codes "9"
unfolding number_text digits
one_digit = refl

two_digits : number_text 1 (pos 10) ≡ codes "10 (Ah)"
unfolding number_text in_parentheses hex_text digits
two_digits = refl

sixteen_bits : number_text 2 (pos 1000) ≡ codes "1000 (3E8h)"
unfolding number_text in_parentheses hex_text digits
sixteen_bits = refl

negative : number_text 2 (negsuc 99) ≡ codes "-100 (FF9Ch)"
unfolding number_text in_parentheses hex_text digits
negative = refl

-- the least number of the type, and one that it doesn't have
least : number_text 1 (negsuc 127) ≡ codes "-128 (80h)"
unfolding number_text in_parentheses hex_text digits
least = refl

below_least : number_text 1 (negsuc 128) ≡ codes "-129"
unfolding number_text in_parentheses digits
below_least = refl

minus_one : number_text 1 (negsuc 0) ≡ codes "-1 (FFh)"
unfolding number_text in_parentheses hex_text digits
minus_one = refl

-- ---- values

decimal_value : value_text None (Some Unsigned16) (codes "1000") ≡ codes "1000 (3E8h)"
unfolding value_text known_text number_text in_parentheses hex_text digits
decimal_value = refl

hexadecimal_negative : value_text None (Some Integer16) (codes "0xFF9C") ≡ codes "-100 (FF9Ch)"
unfolding value_text known_text number_text in_parentheses hex_text digits
hexadecimal_negative = refl

sum_without_node : value_text None (Some Unsigned32) (codes "$NODEID+0x600") ≡ codes "$NODEID+600h"
unfolding value_text known_text sum_text hex_text digits
sum_without_node = refl

sum_of_node : value_text (Some 5) (Some Unsigned32) (codes "0x600 + $nodeid") ≡ codes "$NODEID+600h = 1541 (605h)"
unfolding value_text known_text sum_text number_text in_parentheses hex_text digits
sum_of_node = refl

-- on both sides of 10, whose digits differ
sums_in_both_bases : map (λ node. value_text (Some node) (Some Unsigned8) (codes "$NODEID+1")) (8 ∷ 9 ∷ []) ≡ codes "$NODEID+1h = 9" ∷ codes "$NODEID+1h = 10 (Ah)" ∷ []
unfolding value_text known_text sum_text number_text in_parentheses hex_text digits
sums_in_both_bases = refl

-- the greatest number of a type, and the next one, which is none of it
sums_in_type : map (λ node. value_text (Some node) (Some Unsigned16) (codes "$NODEID+0xFFFE")) (1 ∷ 2 ∷ []) ≡ codes "$NODEID+FFFEh = 65535 (FFFFh)" ∷ codes "$NODEID+FFFEh" ∷ []
unfolding value_text known_text sum_text number_text in_parentheses hex_text digits
sums_in_type = refl

signed_sums : map (λ node. value_text (Some node) (Some Integer8) (codes "$NODEID+0x7A")) (5 ∷ 6 ∷ []) ≡ codes "$NODEID+7Ah = 127 (7Fh)" ∷ codes "$NODEID+7Ah" ∷ []
unfolding value_text known_text sum_text number_text in_parentheses hex_text digits
signed_sums = refl

truth_sums : map (λ node. value_text (Some node) (Some Boolean) (codes "$NODEID")) (1 ∷ 2 ∷ []) ≡ codes "$NODEID = 1" ∷ codes "$NODEID" ∷ []
unfolding value_text known_text sum_text number_text in_parentheses hex_text digits
truth_sums = refl

-- of an INTEGER8, in both forms, and of an UNSIGNED8
numbers_in_type : map (value_number None (Some Integer8)) (codes "127" ∷ codes "128" ∷ codes "-128" ∷ codes "-129" ∷ codes "0xFF" ∷ codes "0xFFFFFFFF" ∷ []) ≡ Some (pos 127) ∷ None ∷ Some (negsuc 127) ∷ None ∷ Some (negsuc 0) ∷ None ∷ []
numbers_in_type = refl

limits_in_type : map (limit_in_type (Some Unsigned8)) (codes "255" ∷ codes "256" ∷ codes "-1" ∷ codes "x" ∷ []) ∷ map (limit_in_type None) (codes "255" ∷ []) ∷ [] ≡ (Some (pos 255) ∷ None ∷ None ∷ None ∷ []) ∷ (None ∷ []) ∷ []
limits_in_type = refl

numbers_of_sums : value_number (Some 1) (Some Unsigned16) (codes "$NODEID+0xFFFE") ∷ value_number (Some 2) (Some Unsigned16) (codes "$NODEID+0xFFFE") ∷ value_number None (Some Unsigned16) (codes "$NODEID+0xFFFE") ∷ []
    ≡ Some (pos 65535) ∷ None ∷ None ∷ []
numbers_of_sums = refl

node_alone : value_text (Some 5) (Some Unsigned8) (codes "$NODEID") ≡ codes "$NODEID = 5"
unfolding value_text known_text sum_text number_text hex_text digits
node_alone = refl

no_number : value_text None (Some Unsigned8) (codes "010") ≡ codes "010"
unfolding value_text known_text plain_text shown characters_of is_utf8 chars encode
no_number = refl

string : value_text None (Some VisibleString) (codes "a b") ≡ codes "\"a b\""
unfolding value_text unnumbered_text quoted plain_text shown characters_of is_utf8 chars encode
string = refl

octets : value_text None (Some OctetString) (codes "00A1FF") ≡ codes "00A1FF"
unfolding value_text unnumbered_text plain_text shown characters_of is_utf8 chars encode
octets = refl

-- ---- texts

with_control : plain_text (codes "a\tb") ≡ codes "a\\tb"
unfolding plain_text shown characters_of is_utf8 chars encode digits_text
with_control = refl

-- the first and the last control character, the no-break space, and what is beside them: U+001F, U+0020;
-- U+007E, U+007F, U+0080, U+009F, U+00A0, U+00A1
edges : plain_text (31 ∷ 32 ∷ 126 ∷ 127 ∷ 0xC2 ∷ 0x80 ∷ 0xC2 ∷ 0x9F ∷ 0xC2 ∷ 0xA0 ∷ 0xC2 ∷ 0xA1 ∷ []) ≡ codes "\\x1F ~\\x7F\\x80\\x9F\\xA0" ++ 0xC2 ∷ 0xA1 ∷ []
unfolding plain_text shown code_text characters_of is_utf8 chars encode digits_text
edges = refl

-- U+202E, which turns the text around, and U+2070, a digit that is seen; U+00AD, U+061C and U+E0041, which can't
-- be seen
turning : plain_text (97 ∷ 0xE2 ∷ 0x80 ∷ 0xAE ∷ 0xE2 ∷ 0x81 ∷ 0xB0 ∷ []) ≡ codes "a\\u202E" ++ 0xE2 ∷ 0x81 ∷ 0xB0 ∷ []
unfolding plain_text shown code_text characters_of is_utf8 chars encode digits_text
turning = refl

hidden : plain_text (0xC2 ∷ 0xAD ∷ 0xD8 ∷ 0x9C ∷ 0xF3 ∷ 0xA0 ∷ 0x81 ∷ 0x81 ∷ []) ≡ codes "\\xAD\\u061C\\U000E0041"
unfolding plain_text shown code_text characters_of is_utf8 chars encode digits_text
hidden = refl

-- no UTF-8: a letter, the euro sign, and a byte that Windows-1252 leaves open
from_windows : plain_text (77 ∷ 0xFC ∷ 0x80 ∷ 0x9D ∷ []) ≡ 77 ∷ 0xC3 ∷ 0xBC ∷ 0xE2 ∷ 0x82 ∷ 0xAC ∷ codes "\\x9D"
unfolding plain_text shown code_text characters_of windows_1252 is_utf8 chars encode digits_text
from_windows = refl

umlaut : plain_text (77 ∷ 0xC3 ∷ 0xBC ∷ []) ≡ 77 ∷ 0xC3 ∷ 0xBC ∷ []
unfolding plain_text shown characters_of is_utf8 chars encode
umlaut = refl

-- ---- lines

abbrev part : ℕ → List ℕ → Part
part column text = record { column = column; text = text }

columns_kept : line_of Text (part 0 (codes "a") ∷ part 4 (codes "b") ∷ part 6 [] ∷ part 8 (codes "c") ∷ []) ≡ codes "a   b   c\n"
unfolding placed
columns_kept = refl

column_passed : line_of Text (part 0 (codes "abcd") ∷ part 4 (codes "b") ∷ part 5 (codes "c") ∷ []) ≡ codes "abcd b c\n"
unfolding placed
column_passed = refl

characters_counted : line_of Text (part 0 (0xC3 ∷ 0xBC ∷ []) ∷ part 2 (codes "b") ∷ []) ≡ 0xC3 ∷ 0xBC ∷ codes " b\n"
unfolding placed
characters_counted = refl

first_indented : line_of Text (part 0 [] ∷ part 2 (codes "b") ∷ []) ≡ codes "  b\n"
unfolding placed
first_indented = refl

table_row : line_of Markdown (part 0 (codes "a|b&c") ∷ part 2 [] ∷ part 4 (codes "$d~") ∷ []) ≡ codes "| a\\|b\\&c |  | \\$d\\~ |\n"
unfolding placed
table_row = refl

-- ---- words of the communication profile

abbrev word : ℕ → Word
word number = record { relative = false; number = number }

abbrev relative : ℕ → Word
relative number = record { relative = true; number = number }

-- ---- COB-IDs of PDOs

pdo_enabled : meaning_text PdoCobId (word 0x185) ≡ codes "185h, enabled"
unfolding pdo_cob_id_text cob_id_text identifier_text hex_text digits
pdo_enabled = refl

pdo_disabled : meaning_text PdoCobId (word 0xC0000185) ≡ codes "185h, disabled, no RTR"
unfolding pdo_cob_id_text cob_id_text identifier_text hex_text digits
pdo_disabled = refl

pdo_extended : meaning_text PdoCobId (word 0x20012345) ≡ codes "12345h, 29-bit, enabled"
unfolding pdo_cob_id_text cob_id_text identifier_text hex_text digits
pdo_extended = refl

-- the greatest identifier of 11 bits, one bit more with and without bit 29, and bit 28
greatest_base : meaning_text PdoCobId (word 0x7FF) ≡ codes "7FFh, enabled"
unfolding pdo_cob_id_text cob_id_text identifier_text hex_text digits
greatest_base = refl

past_base : meaning_text PdoCobId (word 0x800) ≡ codes "800h, over 11 bits, enabled"
unfolding pdo_cob_id_text cob_id_text identifier_text hex_text digits
past_base = refl

extended_past_base : meaning_text PdoCobId (word 0x20000800) ≡ codes "800h, 29-bit, enabled"
unfolding pdo_cob_id_text cob_id_text identifier_text hex_text digits
extended_past_base = refl

reserved_bits : meaning_text PdoCobId (word 0x1085) ≡ codes "1085h, over 11 bits, enabled"
unfolding pdo_cob_id_text cob_id_text identifier_text hex_text digits
reserved_bits = refl

all_reserved_bits : meaning_text PdoCobId (word 0x9FFFF800) ≡ codes "1FFFF800h, over 11 bits, disabled"
unfolding pdo_cob_id_text cob_id_text identifier_text hex_text digits
all_reserved_bits = refl

-- identifier 0 of 11 bits is that of NMT: with bits 31 and 30, of 29 bits, one more, and where a node-ID is added
pdo_zero : meaning_text PdoCobId (word 0) ≡ codes "0h, not used"
unfolding pdo_cob_id_text cob_id_text identifier_text hex_text digits
pdo_zero = refl

pdo_zero_disabled : meaning_text PdoCobId (word 0x80000000) ≡ codes "0h, disabled"
unfolding pdo_cob_id_text cob_id_text identifier_text hex_text digits
pdo_zero_disabled = refl

pdo_zero_bit_30 : meaning_text PdoCobId (word 0x40000000) ≡ codes "0h, not used, no RTR"
unfolding pdo_cob_id_text cob_id_text identifier_text hex_text digits
pdo_zero_bit_30 = refl

pdo_zero_extended : meaning_text PdoCobId (word 0x20000000) ≡ codes "0h, 29-bit, enabled"
unfolding pdo_cob_id_text cob_id_text identifier_text hex_text digits
pdo_zero_extended = refl

pdo_one : meaning_text PdoCobId (word 1) ≡ codes "1h, enabled"
unfolding pdo_cob_id_text cob_id_text identifier_text hex_text digits
pdo_one = refl

pdo_node_alone : word_text PdoCobId (relative 0) ≡ codes "$NODEID+0h, enabled"
unfolding word_text pdo_cob_id_text cob_id_text identifier_text hex_text digits
pdo_node_alone = refl

-- ---- a sum with a node-ID that isn't known: of a COB-ID with its words, any other alone

emcy_relative : word_text CobId (relative 0x80) ≡ codes "$NODEID+80h, enabled"
unfolding word_text cob_id_text identifier_text hex_text digits
emcy_relative = refl

sync_relative : word_text SyncCobId (relative 0x40000080) ≡ codes "$NODEID+80h, produced"
unfolding word_text sync_text identifier_text hex_text digits
sync_relative = refl

time_relative : word_text TimeCobId (relative 0x80000100) ≡ codes "$NODEID+100h, consumed"
unfolding word_text time_cob_id_text identifier_text hex_text digits
time_relative = refl

others_relative : map (λ meaning. word_text meaning (relative 0x5005F)) (SyncPeriod ∷ SyncWindow ∷ SyncOverflow ∷ Transmission ∷ Reception ∷ PdoInhibit ∷ EventTimer ∷ EmcyInhibit ∷ Consumer ∷ Producer ∷ Mapped ∷ [])
    ≡ replicate 11 (codes "$NODEID+5005Fh")
unfolding word_text hex_text digits
others_relative = refl

producer_relative : word_text Producer (relative 0) ≡ codes "$NODEID"
unfolding word_text
producer_relative = refl

-- ---- COB-IDs of EMCY and SDO channels

emcy_bit_30 : meaning_text CobId (word 0x40000085) ≡ codes "85h, enabled"
unfolding cob_id_text identifier_text hex_text digits
emcy_bit_30 = refl

channel_zero : meaning_text CobId (word 0) ≡ codes "0h, not used"
unfolding cob_id_text identifier_text hex_text digits
channel_zero = refl

channel_disabled : meaning_text CobId (word 0x80000000) ≡ codes "0h, disabled"
unfolding cob_id_text identifier_text hex_text digits
channel_disabled = refl

-- ---- that of SYNC, whose bit 31 says nothing

sync_consumed : meaning_text SyncCobId (word 0x80) ≡ codes "80h, not produced"
unfolding sync_text identifier_text hex_text digits
sync_consumed = refl

sync_produced : meaning_text SyncCobId (word 0x40000080) ≡ codes "80h, produced"
unfolding sync_text identifier_text hex_text digits
sync_produced = refl

sync_bit_31 : meaning_text SyncCobId (word 0x80000080) ≡ codes "80h, not produced"
unfolding sync_text identifier_text hex_text digits
sync_bit_31 = refl

sync_zero : meaning_text SyncCobId (word 0) ≡ codes "0h, not used"
unfolding sync_text identifier_text hex_text digits
sync_zero = refl

sync_zero_bits : meaning_text SyncCobId (word 0xC0000000) ≡ codes "0h, not used"
unfolding sync_text identifier_text hex_text digits
sync_zero_bits = refl

sync_reserved_bits : meaning_text SyncCobId (word 0x40000880) ≡ codes "880h, over 11 bits, produced"
unfolding sync_text identifier_text hex_text digits
sync_reserved_bits = refl

-- ---- words of at most 32 bits

greatest_word : word_of None (codes "0xFFFFFFFF") ≡ Some (word 0xFFFFFFFF)
greatest_word = refl

past_word : word_of None (codes "0x100000185") ≡ None
past_word = refl

greatest_addend : word_of None (codes "$NODEID+0xFFFFFFFF") ≡ Some (relative 0xFFFFFFFF)
greatest_addend = refl

past_addend : word_of None (codes "$NODEID+0x100000000") ≡ None
past_addend = refl

greatest_sum : word_of (Some 1) (codes "$NODEID+0xFFFFFFFE") ≡ Some (word 0xFFFFFFFF)
greatest_sum = refl

past_sum : word_of (Some 2) (codes "$NODEID+0xFFFFFFFE") ≡ None
past_sum = refl

-- ---- transmission types

type_0 : meaning_text Transmission (word 0) ≡ codes "0: synchronous, acyclic"
unfolding transmission_text
type_0 = refl

type_1 : meaning_text Transmission (word 1) ≡ codes "1: every SYNC"
unfolding transmission_text
type_1 = refl

type_2 : meaning_text Transmission (word 2) ≡ codes "2: every 2 SYNCs"
unfolding transmission_text counted_syncs digits
type_2 = refl

type_240 : meaning_text Transmission (word 240) ≡ codes "240: every 240 SYNCs"
unfolding transmission_text counted_syncs digits
type_240 = refl

type_241 : meaning_text Transmission (word 241) ≡ codes "241: reserved"
unfolding transmission_text counted_syncs digits
type_241 = refl

type_251 : meaning_text Transmission (word 251) ≡ codes "251: reserved"
unfolding transmission_text counted_syncs digits
type_251 = refl

type_252 : meaning_text Transmission (word 252) ≡ codes "252: remote, synchronous"
unfolding transmission_text
type_252 = refl

type_253 : meaning_text Transmission (word 253) ≡ codes "253: remote, event-driven"
unfolding transmission_text
type_253 = refl

type_254 : meaning_text Transmission (word 254) ≡ codes "254: event-driven, manufacturer"
unfolding transmission_text
type_254 = refl

type_255 : meaning_text Transmission (word 255) ≡ codes "255: event-driven, device profile"
unfolding transmission_text
type_255 = refl

type_256 : meaning_text Transmission (word 256) ≡ codes "256: reserved"
unfolding transmission_text counted_syncs digits
type_256 = refl

-- ---- transmission types of RPDOs

reception_0 : meaning_text Reception (word 0) ≡ codes "0: with the next SYNC"
unfolding reception_text digits
reception_0 = refl

reception_240 : meaning_text Reception (word 240) ≡ codes "240: with the next SYNC"
unfolding reception_text digits
reception_240 = refl

reception_241 : meaning_text Reception (word 241) ≡ codes "241: reserved"
unfolding reception_text digits
reception_241 = refl

reception_253 : meaning_text Reception (word 253) ≡ codes "253: reserved"
unfolding reception_text digits
reception_253 = refl

reception_254 : meaning_text Reception (word 254) ≡ codes "254: event-driven, manufacturer"
unfolding reception_text transmission_text
reception_254 = refl

reception_255 : meaning_text Reception (word 255) ≡ codes "255: event-driven, device profile"
unfolding reception_text transmission_text
reception_255 = refl

reception_256 : meaning_text Reception (word 256) ≡ codes "256: reserved"
unfolding reception_text digits
reception_256 = refl

-- the first and the last RPDO, the first TPDO
meaning_of_rpdo : type_meaning 0x1400 ≡ Reception
unfolding type_meaning
meaning_of_rpdo = refl

meaning_of_last_rpdo : type_meaning 0x15FF ≡ Reception
unfolding type_meaning
meaning_of_last_rpdo = refl

meaning_of_tpdo : type_meaning 0x1800 ≡ Transmission
unfolding type_meaning
meaning_of_tpdo = refl

-- ---- times

inhibit_off : meaning_text PdoInhibit (word 0) ≡ []
unfolding time_text
inhibit_off = refl

inhibit : meaning_text PdoInhibit (word 105) ≡ codes "10.5 ms"
unfolding time_text millis_text digits
inhibit = refl

timer_off : meaning_text EventTimer (word 0) ≡ []
unfolding time_text
timer_off = refl

timer : meaning_text EventTimer (word 100) ≡ codes "100 ms"
unfolding time_text millis_text digits
timer = refl

emcy_inhibit_off : meaning_text EmcyInhibit (word 0) ≡ codes "none"
unfolding time_text
emcy_inhibit_off = refl

emcy_inhibit : meaning_text EmcyInhibit (word 1) ≡ codes "0.1 ms"
unfolding time_text millis_text digits
emcy_inhibit = refl

producer_off : meaning_text Producer (word 0) ≡ codes "off"
unfolding time_text
producer_off = refl

producer : meaning_text Producer (word 500) ≡ codes "every 500 ms"
unfolding time_text millis_text digits
producer = refl

-- ---- SYNC and TIME

no_period : meaning_text SyncPeriod (word 0) ≡ codes "none"
unfolding micros_text
no_period = refl

one_micro : meaning_text SyncPeriod (word 1) ≡ codes "every 0.001 ms"
unfolding micros_text digits
one_micro = refl

period : meaning_text SyncPeriod (word 12345) ≡ codes "every 12.345 ms"
unfolding micros_text digits
period = refl

no_window : meaning_text SyncWindow (word 0) ≡ codes "none"
unfolding micros_text
no_window = refl

window : meaning_text SyncWindow (word 2050) ≡ codes "2.050 ms"
unfolding micros_text digits
window = refl

no_counter : meaning_text SyncOverflow (word 0) ≡ codes "no counter"
unfolding overflow_text
no_counter = refl

overflow_1 : meaning_text SyncOverflow (word 1) ≡ codes "1: reserved"
unfolding overflow_text digits
overflow_1 = refl

overflow_2 : meaning_text SyncOverflow (word 2) ≡ codes "counter from 1 to 2"
unfolding overflow_text digits
overflow_2 = refl

overflow_240 : meaning_text SyncOverflow (word 240) ≡ codes "counter from 1 to 240"
unfolding overflow_text digits
overflow_240 = refl

overflow_241 : meaning_text SyncOverflow (word 241) ≡ codes "241: reserved"
unfolding overflow_text digits
overflow_241 = refl

time_of_nobody : meaning_text TimeCobId (word 0x100) ≡ codes "100h, not used"
unfolding time_cob_id_text identifier_text hex_text digits
time_of_nobody = refl

time_consumed : meaning_text TimeCobId (word 0x80000100) ≡ codes "100h, consumed"
unfolding time_cob_id_text identifier_text hex_text digits
time_consumed = refl

time_produced : meaning_text TimeCobId (word 0x40000100) ≡ codes "100h, produced"
unfolding time_cob_id_text identifier_text hex_text digits
time_produced = refl

time_both : meaning_text TimeCobId (word 0xE0012345) ≡ codes "12345h, 29-bit, consumed and produced"
unfolding time_cob_id_text identifier_text hex_text digits
time_both = refl

time_zero : meaning_text TimeCobId (word 0xC0000000) ≡ codes "0h, not used"
unfolding time_cob_id_text identifier_text hex_text digits
time_zero = refl

-- ---- heartbeat consumers: node-IDs 0, 1, 127 and 128, no time, reserved bits

consumer_node_0 : meaning_text Consumer (word 0x000001F4) ≡ codes "not used"
unfolding consumer_text
consumer_node_0 = refl

consumer_node_1 : meaning_text Consumer (word 0x00010001) ≡ codes "node 1, within 1 ms"
unfolding consumer_text digits
consumer_node_1 = refl

consumer_node_127 : meaning_text Consumer (word 0x007FFFFF) ≡ codes "node 127, within 65535 ms"
unfolding consumer_text digits
consumer_node_127 = refl

consumer_node_128 : meaning_text Consumer (word 0x00800064) ≡ codes "not used"
unfolding consumer_text
consumer_node_128 = refl

consumer_node_255 : meaning_text Consumer (word 0x00FF0064) ≡ codes "not used"
unfolding consumer_text
consumer_node_255 = refl

consumer_without_time : meaning_text Consumer (word 0x00050000) ≡ codes "not used"
unfolding consumer_text
consumer_without_time = refl

consumer_bit_24 : meaning_text Consumer (word 0x01050064) ≡ codes "node 5, within 100 ms, bits 31 to 24 set"
unfolding consumer_text digits
consumer_bit_24 = refl

mapped : meaning_text Mapped (word 0x64010210) ≡ codes "6401:02, 16 bits"
unfolding mapped_text digits digits_text
mapped = refl

mapped_bit : meaning_text Mapped (word 0x62200101) ≡ codes "6220:01, 1 bit"
unfolding mapped_text digits digits_text
mapped_bit = refl

mapped_nothing : meaning_text Mapped (word 0x62200100) ≡ codes "6220:01, 0 bits"
unfolding mapped_text digits digits_text
mapped_nothing = refl

mapped_two_bits : meaning_text Mapped (word 0x62200102) ≡ codes "6220:01, 2 bits"
unfolding mapped_text digits digits_text
mapped_two_bits = refl

-- ---- names of types

known_type : type_name 0x1B ≡ codes "UNSIGNED64"
unfolding type_name
known_type = refl

other_type : type_name 0x40 ≡ codes "type 40h"
unfolding type_name hex_text digits
other_type = refl
