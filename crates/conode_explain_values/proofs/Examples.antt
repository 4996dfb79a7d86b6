-- The text of values, evaluated on both sides of each edge.
use Rattle.std.proofs.Common.{◌≡◌, true, false, [], ◌∷◌, refl, Some, None, map}
use Rattle.std.specs.Prelude.{codes}
use Rattle.std.specs.Fmt.{digits}
use lib.Utf8.{encode}
use Rattle.co_text.specs.Printed.{digits_text}
use Rattle.co_value.specs.declared.data_type.DataType.TheVariants.{Boolean, Integer8, Integer16, Integer24, Integer64, Unsigned8, Unsigned16, Unsigned24, Unsigned64, VisibleString, OctetString, Domain}
use Rattle.conode_text.specs.Unseen.{code_text}
use Rattle.conode_explain_text.specs.Dates.{date_in_year, date_of, day_of_year, year_of_cycle}
use Rattle.conode_explain_text.specs.Stamps.{date_text, time_of_day_text}
use Rattle.conode_explain_values.specs.declared.value_type.ValueType.TheVariants.{Plain, Real32, Real64, UnicodeString, TimeOfDay, TimeDifference}
use Rattle.conode_explain_values.specs.Numbers.{number_text}
use Rattle.conode_explain_values.specs.Times.{difference_text, moment_text, ms_text}
use Rattle.conode_explain_values.specs.Types.{type_of}
use Rattle.conode_explain_values.specs.Unicode.{characters_text, is_escaped, pair_text, unit_text}
use Rattle.conode_explain_values.specs.Values.{value_text}

-- ---- types

originals : map (λ code. type_of (Some code) Unsigned64) (codes "0x0008" ∷ codes "0x000B" ∷ codes "0x000C" ∷ codes "0x000D" ∷ codes "0x0011" ∷ codes "0x0009" ∷ codes "0xB" ∷ [])
    ≡ Real32 ∷ UnicodeString ∷ TimeOfDay ∷ TimeDifference ∷ Real64 ∷ Plain Unsigned64 ∷ Plain Unsigned64 ∷ []
originals = refl

of_the_sheet : type_of None Integer8 ≡ Plain Integer8
of_the_sheet = refl

-- ---- numbers

is_off : value_text (Plain Boolean) 1 (0 ∷ []) ≡ codes "false"
unfolding value_text number_text digits
is_off = refl

is_on : value_text (Plain Boolean) 8 (1 ∷ []) ≡ codes "true"
unfolding value_text number_text digits
is_on = refl

neither : value_text (Plain Boolean) 8 (2 ∷ []) ≡ codes "2"
unfolding value_text number_text digits
neither = refl

two_bits : value_text (Plain Boolean) 2 (1 ∷ []) ≡ codes "01 (2 of 8 bits)"
unfolding value_text number_text digits digits_text
two_bits = refl

greatest8 : value_text (Plain Integer8) 8 (0x7F ∷ []) ≡ codes "127"
unfolding value_text number_text digits
greatest8 = refl

least8 : value_text (Plain Integer8) 8 (0x80 ∷ []) ≡ codes "-128"
unfolding value_text number_text digits
least8 = refl

minus_one : value_text (Plain Integer24) 24 (0xFF ∷ 0xFF ∷ 0xFF ∷ []) ≡ codes "-1"
unfolding value_text number_text digits
minus_one = refl

least64 : value_text (Plain Integer64) 64 (0 ∷ 0 ∷ 0 ∷ 0 ∷ 0 ∷ 0 ∷ 0 ∷ 0x80 ∷ []) ≡ codes "-9223372036854775808"
unfolding value_text number_text digits
least64 = refl

greatest64 : value_text (Plain Unsigned64) 64 (0xFF ∷ 0xFF ∷ 0xFF ∷ 0xFF ∷ 0xFF ∷ 0xFF ∷ 0xFF ∷ 0xFF ∷ []) ≡ codes "18446744073709551615"
unfolding value_text number_text digits
greatest64 = refl

thousand : value_text (Plain Unsigned16) 16 (0xE8 ∷ 0x03 ∷ []) ≡ codes "1000"
unfolding value_text number_text digits
thousand = refl

-- ---- another number of bits than the type has

too_few : value_text (Plain Integer16) 8 (0xE8 ∷ []) ≡ codes "E8 (8 of 16 bits)"
unfolding value_text number_text digits digits_text
too_few = refl

too_many : value_text (Plain Unsigned8) 12 (0xE8 ∷ 0x03 ∷ []) ≡ codes "E803 (12 of 8 bits)"
unfolding value_text number_text digits digits_text
too_many = refl

one_of_sixteen : value_text (Plain Unsigned16) 1 (1 ∷ []) ≡ codes "01 (1 of 16 bits)"
unfolding value_text number_text digits digits_text
one_of_sixteen = refl

no_bits : value_text (Plain Unsigned24) 0 [] ≡ codes "- (0 of 24 bits)"
unfolding value_text number_text digits digits_text
no_bits = refl

short_real : value_text Real32 16 (0 ∷ 0x80 ∷ []) ≡ codes "0080 (16 of 32 bits)"
unfolding value_text number_text digits digits_text
short_real = refl

-- ---- bytes and characters

letters : value_text (Plain VisibleString) 24 (0x54 ∷ 0x53 ∷ 0x31 ∷ []) ≡ codes "\"TS1\""
unfolding value_text
letters = refl

edges : value_text (Plain VisibleString) 48 (0x1F ∷ 0x20 ∷ 0x7E ∷ 0x7F ∷ 0x22 ∷ 0x5C ∷ []) ≡ codes "\"\\x1F ~\\x7F\\x22\\x5C\""
unfolding value_text digits_text
edges = refl

half_a_letter : value_text (Plain VisibleString) 4 (5 ∷ []) ≡ codes "05 (4 bits)"
unfolding value_text digits digits_text
half_a_letter = refl

octets : value_text (Plain OctetString) 16 (0x0A ∷ 0xFF ∷ []) ≡ codes "0AFF"
unfolding value_text digits_text
octets = refl

no_domain : value_text (Plain Domain) 0 [] ≡ codes "-"
unfolding value_text
no_domain = refl

-- ä, and 1F600h in two units
unicode : value_text UnicodeString 48 (0xE4 ∷ 0x00 ∷ 0x3D ∷ 0xD8 ∷ 0x00 ∷ 0xDE ∷ []) ≡ 0x22 ∷ 0xC3 ∷ 0xA4 ∷ 0xF0 ∷ 0x9F ∷ 0x98 ∷ 0x80 ∷ 0x22 ∷ []
unfolding value_text characters_text pair_text unit_text encode
unicode = refl

-- the two units of a pair in the other order, and the quote
alone : value_text UnicodeString 48 (0x00 ∷ 0xDE ∷ 0x3D ∷ 0xD8 ∷ 0x22 ∷ 0x00 ∷ []) ≡ codes "\"\\uDE00\\uD83D\\u0022\""
unfolding value_text characters_text pair_text unit_text digits_text encode
alone = refl

-- of an odd number of bytes the last one
odd_bytes : value_text UnicodeString 24 (0x41 ∷ 0x00 ∷ 0x4F ∷ []) ∷ value_text UnicodeString 8 (0x41 ∷ []) ∷ value_text UnicodeString 0 [] ∷ []
    ≡ codes "\"A\\x4F\"" ∷ codes "\"\\x41\"" ∷ codes "\"\"" ∷ []
unfolding value_text characters_text pair_text unit_text digits_text encode
odd_bytes = refl

-- both sides of each range that is escaped
escaped : map is_escaped (0x1F ∷ 0x7F ∷ 0xA0 ∷ 0xAD ∷ 0x61C ∷ 0x2000 ∷ 0xD800 ∷ 0xDFFF ∷ 0xFEFF ∷ [])
    ≡ true ∷ true ∷ true ∷ true ∷ true ∷ true ∷ true ∷ true ∷ true ∷ []
escaped = refl

not_escaped : map is_escaped (0x20 ∷ 0x7E ∷ 0xA1 ∷ 0xAE ∷ 0x61B ∷ 0x1FFF ∷ 0xD7FF ∷ 0xE000 ∷ 0xFEFE ∷ [])
    ≡ false ∷ false ∷ false ∷ false ∷ false ∷ false ∷ false ∷ false ∷ false ∷ []
not_escaped = refl

-- from right to left (U+202E)
turned_around : value_text UnicodeString 32 (0x2E ∷ 0x20 ∷ 0x41 ∷ 0x00 ∷ []) ≡ codes "\"\\u202EA\""
unfolding value_text characters_text pair_text unit_text digits_text encode
turned_around = refl

-- a tag (U+E0041) in two units
tag : value_text UnicodeString 48 (0x40 ∷ 0xDB ∷ 0x41 ∷ 0xDC ∷ 0x41 ∷ 0x00 ∷ []) ≡ codes "\"\\U000E0041A\""
unfolding value_text characters_text pair_text unit_text code_text digits_text encode
tag = refl

-- ---- times

begin : value_text TimeOfDay 48 (0 ∷ 0 ∷ 0 ∷ 0 ∷ 0 ∷ 0 ∷ []) ≡ codes "1984-01-01 00:00:00.000"
unfolding value_text moment_text ms_text date_of date_in_year day_of_year year_of_cycle date_text time_of_day_text digits digits_text
begin = refl

-- 86,399,999 ms, and bits that don't count; day 14,610 is 1 January 2024
late : value_text TimeOfDay 48 (0xFF ∷ 0x5B ∷ 0x26 ∷ 0xF5 ∷ 0x12 ∷ 0x39 ∷ []) ≡ codes "2024-01-01 23:59:59.999"
unfolding value_text moment_text ms_text date_of date_in_year day_of_year year_of_cycle date_text time_of_day_text digits digits_text
late = refl

-- one ms later it is past the end of the day; the bits that don't count don't
past_the_day : value_text TimeOfDay 48 (0x00 ∷ 0x5C ∷ 0x26 ∷ 0xF5 ∷ 0x12 ∷ 0x39 ∷ [])
    ≡ codes "2024-01-01 24:00:00.000 (past the end of the day)"
unfolding value_text moment_text ms_text date_of date_in_year day_of_year year_of_cycle date_text time_of_day_text digits digits_text
past_the_day = refl

difference : value_text TimeDifference 48 (0xE9 ∷ 0x03 ∷ 0 ∷ 0 ∷ 2 ∷ 1 ∷ []) ≡ codes "258 d 00:00:01.001"
unfolding value_text difference_text ms_text time_of_day_text digits digits_text
difference = refl

short_time : value_text TimeOfDay 32 (0 ∷ 0 ∷ 0 ∷ 0 ∷ []) ≡ codes "00000000 (32 of 48 bits)"
unfolding value_text digits digits_text
short_time = refl
