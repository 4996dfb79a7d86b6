-- Parts of lines, evaluated: both sides of each edge.
use Rattle.std.proofs.Common.{◌≡◌, ◌-◌, ◌^◌, ℕ, List, [], ◌∷◌, ◌++◌, Option, Some, None, true, false, refl}
use Rattle.std.specs.Prelude.{codes}
use Rattle.conode_record.specs.declared.content.Direction.TheVariants.{Received, Sent}
use Rattle.conode_record.specs.declared.fields.Identifier.TheVariants.{Base, Extended}
use Rattle.conode_record.specs.declared.numbers.Base.TheVariants.{Hexadecimal, Decimal}
use Rattle.conode_record.specs.Numbers.{byte_of, millis_in, moment_at, moved, number_in, seconds_in}
use Rattle.conode_record.specs.Parts.{bytes_at, channel_at, count_at, direction_at, extended_id, fd_length, name_at, short_id}
use Rattle.conode_record.specs.Words.{is_over, next_is, word_at}
use Rattle.conode_record.proofs.OnLines.{parts_on_lines}

-- ---- words

a_word : word_at (codes " 605 8") ≡ Some (codes "605", codes " 8")
unfolding parts_on_lines
a_word = refl

a_word_after_a_tab : word_at (9 ∷ codes "605") ≡ Some (codes "605", [])
unfolding parts_on_lines
a_word_after_a_tab = refl

a_word_in_colour : word_at (27 ∷ codes "[31mcan0" ++ 27 ∷ codes "[0m 605") ≡ Some (codes "can0", 27 ∷ codes "[0m 605")
unfolding parts_on_lines
a_word_in_colour = refl

blanks_and_colours_alone : word_at (32 ∷ 27 ∷ codes "[0m ") ≡ None
unfolding parts_on_lines
blanks_and_colours_alone = refl

another_word_first : next_is (codes "remote") (codes " request") ≡ false
unfolding parts_on_lines
another_word_first = refl

a_word_is_left : is_over (codes " x") ≡ false
unfolding parts_on_lines
a_word_is_left = refl

-- ---- stamps

millis_whole : millis_in (codes "12") ≡ Some 12000
unfolding parts_on_lines
millis_whole = refl

millis_with_tenths : millis_in (codes "1059.9") ≡ Some 1059900
unfolding parts_on_lines
millis_with_tenths = refl

millis_with_micros : millis_in (codes "1283.231") ≡ Some 1283231
unfolding parts_on_lines
millis_with_micros = refl

millis_below_a_microsecond : millis_in (codes "0.1239") ≡ Some 123
unfolding parts_on_lines
millis_below_a_microsecond = refl

millis_with_a_point : millis_in (codes "1.") ≡ Some 1000
unfolding parts_on_lines
millis_with_a_point = refl

millis_without_digits : millis_in (codes ".5") ≡ None
unfolding parts_on_lines
millis_without_digits = refl

millis_with_a_comma : millis_in (codes "1,5") ≡ None
unfolding parts_on_lines
millis_with_a_comma = refl

millis_with_a_sign : millis_in (codes "-1.5") ≡ None
unfolding parts_on_lines
millis_with_a_sign = refl

millis_of_12_digits : millis_in (codes "999999999999.999") ≡ Some 999999999999999
unfolding parts_on_lines
millis_of_12_digits = refl

millis_of_13_digits : millis_in (codes "1000000000000.0") ≡ None
unfolding parts_on_lines
millis_of_13_digits = refl

seconds_whole : seconds_in (codes "3") ≡ Some 3000000
unfolding parts_on_lines
seconds_whole = refl

seconds_with_micros : seconds_in (codes "0.002367") ≡ Some 2367
unfolding parts_on_lines
seconds_with_micros = refl

seconds_of_four_digits : seconds_in (codes "0.0023") ≡ Some 2300
unfolding parts_on_lines
seconds_of_four_digits = refl

seconds_below_a_microsecond : seconds_in (codes "1.000000999") ≡ Some 1000000
unfolding parts_on_lines
seconds_below_a_microsecond = refl

seconds_of_12_digits : seconds_in (codes "999999999999.999999") ≡ Some 999999999999999999
unfolding parts_on_lines
seconds_of_12_digits = refl

seconds_of_13_digits : seconds_in (codes "1000000000000") ≡ None
unfolding parts_on_lines
seconds_of_13_digits = refl

seconds_and_a_letter : seconds_in (codes "1.5s") ≡ None
unfolding parts_on_lines
seconds_and_a_letter = refl

a_stamp_for_itself : moved false 5 3 ≡ Some 3
unfolding parts_on_lines
a_stamp_for_itself = refl

a_stamp_counted_on : moved true 5 3 ≡ Some 8
unfolding parts_on_lines
a_stamp_counted_on = refl

the_last_moment : moved true (10 ^ 18 - 2) 1 ≡ Some (10 ^ 18 - 1)
unfolding parts_on_lines
the_last_moment = refl

past_the_last_moment : moved true (10 ^ 18 - 1) 1 ≡ None
unfolding parts_on_lines
past_the_last_moment = refl

-- ---- dates, as `date -u -d '2023-11-14 22:13:20' +%s` counts them

first_date : moment_at (codes "(1970-01-01 00:00:00.000000) x") ≡ Some (0, codes " x")
unfolding parts_on_lines
first_date = refl

a_date : moment_at (codes "(2023-11-14 22:13:20.250000)") ≡ Some (1700000000250000, [])
unfolding parts_on_lines
a_date = refl

a_leap_day : moment_at (codes "(2000-02-29 00:00:00.000000)") ≡ Some (951782400000000, [])
unfolding parts_on_lines
a_leap_day = refl

after_a_leap_day : moment_at (codes "(2000-03-01 00:00:00.000000)") ≡ Some (951868800000000, [])
unfolding parts_on_lines
after_a_leap_day = refl

end_of_a_year : moment_at (codes "(1999-12-31 23:59:59.999999)") ≡ Some (946684799999999, [])
unfolding parts_on_lines
end_of_a_year = refl

a_century_without_leap_day : moment_at (codes "(2100-03-01 00:00:00.000000)") ≡ Some (4107542400000000, [])
unfolding parts_on_lines
a_century_without_leap_day = refl

a_leap_second : moment_at (codes "(2016-12-31 23:59:60.000000)") ≡ Some (1483228800000000, [])
unfolding parts_on_lines
a_leap_second = refl

last_year : moment_at (codes "(9999-12-31 23:59:59.000000)") ≡ Some (253402300799000000, [])
unfolding parts_on_lines
last_year = refl

before_1970 : moment_at (codes "(1969-12-31 23:59:59.000000)") ≡ None
unfolding parts_on_lines
before_1970 = refl

month_0 : moment_at (codes "(2023-00-14 22:13:20.250000)") ≡ None
unfolding parts_on_lines
month_0 = refl

month_13 : moment_at (codes "(2023-13-14 22:13:20.250000)") ≡ None
unfolding parts_on_lines
month_13 = refl

day_0 : moment_at (codes "(2023-11-00 22:13:20.250000)") ≡ None
unfolding parts_on_lines
day_0 = refl

day_32 : moment_at (codes "(2023-11-32 22:13:20.250000)") ≡ None
unfolding parts_on_lines
day_32 = refl

hour_24 : moment_at (codes "(2023-11-14 24:13:20.250000)") ≡ None
unfolding parts_on_lines
hour_24 = refl

minute_60 : moment_at (codes "(2023-11-14 22:60:20.250000)") ≡ None
unfolding parts_on_lines
minute_60 = refl

second_61 : moment_at (codes "(2023-11-14 22:13:61.250000)") ≡ None
unfolding parts_on_lines
second_61 = refl

date_with_millis : moment_at (codes "(2023-11-14 22:13:20.250)") ≡ None
unfolding parts_on_lines
date_with_millis = refl

-- ---- identifiers, bytes and lengths

hex_without_zeros : number_in Hexadecimal (codes "7fF") ≡ Some 0x7FF
unfolding parts_on_lines
hex_without_zeros = refl

hex_of_8_digits : number_in Hexadecimal (codes "FFFFFFFF") ≡ Some 0xFFFFFFFF
unfolding parts_on_lines
hex_of_8_digits = refl

hex_of_9_digits : number_in Hexadecimal (codes "000000001") ≡ None
unfolding parts_on_lines
hex_of_9_digits = refl

hex_of_no_digit : number_in Hexadecimal [] ≡ None
unfolding parts_on_lines
hex_of_no_digit = refl

hex_with_another_letter : number_in Hexadecimal (codes "18G") ≡ None
unfolding parts_on_lines
hex_with_another_letter = refl

greatest_decimal : number_in Decimal (codes "4294967295") ≡ Some 4294967295
unfolding parts_on_lines
greatest_decimal = refl

decimal_above : number_in Decimal (codes "4294967296") ≡ None
unfolding parts_on_lines
decimal_above = refl

decimal_with_a_hex_digit : number_in Decimal (codes "1A") ≡ None
unfolding parts_on_lines
decimal_with_a_hex_digit = refl

greatest_hex_byte : byte_of Hexadecimal (codes "fF") ≡ Some 255
unfolding parts_on_lines
greatest_hex_byte = refl

hex_byte_of_one_digit : byte_of Hexadecimal (codes "F") ≡ None
unfolding parts_on_lines
hex_byte_of_one_digit = refl

hex_byte_of_three_digits : byte_of Hexadecimal (codes "0FF") ≡ None
unfolding parts_on_lines
hex_byte_of_three_digits = refl

greatest_decimal_byte : byte_of Decimal (codes "255") ≡ Some 255
unfolding parts_on_lines
greatest_decimal_byte = refl

decimal_byte_above : byte_of Decimal (codes "256") ≡ None
unfolding parts_on_lines
decimal_byte_above = refl

least_decimal_byte : byte_of Decimal (codes "0") ≡ Some 0
unfolding parts_on_lines
least_decimal_byte = refl

greatest_short : short_id 0x7FF ≡ Some (Base 0x7FF)
unfolding parts_on_lines
greatest_short = refl

short_above : short_id 0x800 ≡ None
unfolding parts_on_lines
short_above = refl

greatest_extended : extended_id 0x1FFFFFFF ≡ Some (Extended 0x1FFFFFFF)
unfolding parts_on_lines
greatest_extended = refl

extended_above : extended_id 0x20000000 ≡ None
unfolding parts_on_lines
extended_above = refl

two_bytes : bytes_at Hexadecimal 2 (codes " 01 fe 03") ≡ Some (0x01 ∷ 0xFE ∷ [], codes " 03")
unfolding parts_on_lines
two_bytes = refl

one_byte_of_two : bytes_at Hexadecimal 2 (codes " 01") ≡ None
unfolding parts_on_lines
one_byte_of_two = refl

a_word_that_is_no_byte : bytes_at Hexadecimal 2 (codes " 01 x") ≡ None
unfolding parts_on_lines
a_word_that_is_no_byte = refl

no_bytes : bytes_at Decimal 0 (codes " 01") ≡ Some ([], codes " 01")
unfolding parts_on_lines
no_bytes = refl

name_of_15 : name_at (codes " 0123456789abcde 1") ≡ Some (codes "0123456789abcde", codes " 1")
unfolding parts_on_lines
name_of_15 = refl

name_of_16 : name_at (codes " 0123456789abcdef 1") ≡ None
unfolding parts_on_lines
name_of_16 = refl

channel_0 : channel_at (codes " 0 1") ≡ None
unfolding parts_on_lines
channel_0 = refl

channel_1 : channel_at (codes " 1 1") ≡ Some (1, codes " 1")
unfolding parts_on_lines
channel_1 = refl

channel_255 : channel_at (codes " 255") ≡ Some (255, [])
unfolding parts_on_lines
channel_255 = refl

channel_256 : channel_at (codes " 256") ≡ None
unfolding parts_on_lines
channel_256 = refl

received : direction_at (codes " Rx d") ≡ Some (Received, codes " d")
unfolding parts_on_lines
received = refl

sent : direction_at (codes " Tx d") ≡ Some (Sent, codes " d")
unfolding parts_on_lines
sent = refl

a_request_to_send : direction_at (codes " TxRq d") ≡ None
unfolding parts_on_lines
a_request_to_send = refl

as_many_as_the_most : count_at 8 (codes " 8 1") ≡ Some (8, codes " 1")
unfolding parts_on_lines
as_many_as_the_most = refl

one_more : count_at 8 (codes " 9") ≡ None
unfolding parts_on_lines
one_more = refl

fd_code_8 : fd_length 8 ≡ 8
unfolding parts_on_lines
fd_code_8 = refl

fd_code_9 : fd_length 9 ≡ 12
unfolding parts_on_lines
fd_code_9 = refl

fd_code_10 : fd_length 10 ≡ 16
unfolding parts_on_lines
fd_code_10 = refl

fd_code_11 : fd_length 11 ≡ 20
unfolding parts_on_lines
fd_code_11 = refl

fd_code_12 : fd_length 12 ≡ 24
unfolding parts_on_lines
fd_code_12 = refl

fd_code_13 : fd_length 13 ≡ 32
unfolding parts_on_lines
fd_code_13 = refl

fd_code_14 : fd_length 14 ≡ 48
unfolding parts_on_lines
fd_code_14 = refl

fd_code_15 : fd_length 15 ≡ 64
unfolding parts_on_lines
fd_code_15 = refl
