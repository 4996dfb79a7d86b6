-- Why reading and writing are refused, computed from the definitions: each refusal, and which of two comes first.
use Rattle.std.proofs.Common.{◌≡◌, ℕ, refl, Some, None, Option, List, replicate, false}
use Rattle.std.specs.Prelude.{if◌then◌else◌, ◌==◌}
use Rattle.co_value.specs.Numbers.{low_bytes}
use Rattle.co_value.specs.declared.data_type.DataType.TheVariants.{Unsigned32}
use Rattle.co_profile.specs.declared.access.Access.TheVariants.{Rw}
use Rattle.co_dict.specs.Rows.{Rows, Contents}
use Rattle.co_dict.specs.ErrorField.{error_room, pushed}
use Rattle.co_dict.specs.ReadRefusals.{reading_refusal}
use Rattle.co_dict.specs.WriteRefusals.{initiate_refusal, writing_refusal, app_refusal}
use Rattle.co_dict.proofs.ExampleDevice.{searches, at, rows, device, number_row, nothing, with_u8, with_u32}

-- a write of a number by SDO without an indicated size, and by the application
abbrev sdo : Contents → ℕ → ℕ → ℕ → ℕ → Option ℕ
sdo contents index sub width number = writing_refusal device contents (at index sub) None (low_bytes width number)

abbrev app : Contents → ℕ → ℕ → ℕ → ℕ → Option ℕ
app contents index sub width number = app_refusal device contents (at index sub) (low_bytes width number)

-- so many bytes
abbrev bytes : ℕ → List ℕ
bytes count = replicate count 0x41

-- ---- reading

reads : reading_refusal rows nothing (at 0x1000 0) ≡ None
unfolding searches
reads = refl

reads_what_is_written : reading_refusal rows nothing (at 0x2004 0) ≡ Some 0x0601_0001
unfolding searches
reads_what_is_written = refl

reads_an_absent_object : reading_refusal rows nothing (at 0x3000 0) ≡ Some 0x0602_0000
unfolding searches
reads_an_absent_object = refl

reads_an_absent_sub_index : reading_refusal rows nothing (at 0x1018 5) ≡ Some 0x0609_0011
unfolding searches
reads_an_absent_sub_index = refl

reads_no_error : reading_refusal rows (with_u8 0x1003 0 0 nothing) (at 0x1003 1) ≡ Some 0x0800_0024
unfolding searches
reads_no_error = refl

reads_an_error : reading_refusal rows (with_u8 0x1003 0 1 nothing) (at 0x1003 1) ≡ None
unfolding searches
reads_an_error = refl

reads_past_the_errors : reading_refusal rows (with_u8 0x1003 0 1 nothing) (at 0x1003 2) ≡ Some 0x0800_0024
unfolding searches
reads_past_the_errors = refl

reads_the_number_of_errors : reading_refusal rows (with_u8 0x1003 0 0 nothing) (at 0x1003 0) ≡ None
unfolding searches
reads_the_number_of_errors = refl

-- ---- a write begins

begins : initiate_refusal rows (at 0x2001 0) (Some 16) ≡ None
unfolding searches
begins = refl

begins_too_long : initiate_refusal rows (at 0x2001 0) (Some 17) ≡ Some 0x0607_0012
unfolding searches
begins_too_long = refl

begins_without_a_size : initiate_refusal rows (at 0x2001 0) None ≡ None
unfolding searches
begins_without_a_size = refl

begins_empty : initiate_refusal rows (at 0x2001 0) (Some 0) ≡ None
unfolding searches
begins_empty = refl

begins_a_number_too_short : initiate_refusal rows (at 0x2003 0) (Some 1) ≡ Some 0x0607_0013
unfolding searches
begins_a_number_too_short = refl

begins_a_number : initiate_refusal rows (at 0x2003 0) (Some 2) ≡ None
unfolding searches
begins_a_number = refl

begins_a_number_too_long : initiate_refusal rows (at 0x2003 0) (Some 3) ≡ Some 0x0607_0012
unfolding searches
begins_a_number_too_long = refl

begins_what_is_read : initiate_refusal rows (at 0x1000 0) None ≡ Some 0x0601_0002
unfolding searches
begins_what_is_read = refl

begins_a_constant : initiate_refusal rows (at 0x2006 4) None ≡ Some 0x0601_0002
unfolding searches
begins_a_constant = refl

begins_an_sdo_parameter : initiate_refusal rows (at 0x1201 1) None ≡ Some 0x0601_0002
unfolding searches
begins_an_sdo_parameter = refl

begins_an_absent_object : initiate_refusal rows (at 0x3000 0) (Some 900) ≡ Some 0x0602_0000
unfolding searches
begins_an_absent_object = refl

begins_an_absent_sub_index : initiate_refusal rows (at 0x1018 5) (Some 900) ≡ Some 0x0609_0011
unfolding searches
begins_an_absent_sub_index = refl

-- the right is looked at before the size
begins_what_is_read_too_long : initiate_refusal rows (at 0x1000 0) (Some 5) ≡ Some 0x0601_0002
unfolding searches
begins_what_is_read_too_long = refl

-- ---- a write completes

writes : sdo nothing 0x2003 0 2 1000 ≡ None
unfolding searches
writes = refl

writes_above_the_limit : sdo nothing 0x2003 0 2 1001 ≡ Some 0x0609_0031
unfolding searches
writes_above_the_limit = refl

writes_too_short : sdo nothing 0x2003 0 1 1 ≡ Some 0x0607_0013
unfolding searches
writes_too_short = refl

-- the length is looked at before the limits
writes_above_the_limit_too_long : sdo nothing 0x2003 0 3 1001 ≡ Some 0x0607_0012
unfolding searches
writes_above_the_limit_too_long = refl

writes_the_low_limit : sdo nothing 0x2005 0 2 0xFFF6 ≡ None
unfolding searches
writes_the_low_limit = refl

writes_below_the_limit : sdo nothing 0x2005 0 2 0xFFF5 ≡ Some 0x0609_0032
unfolding searches
writes_below_the_limit = refl

writes_the_high_limit : sdo nothing 0x2005 0 2 10 ≡ None
unfolding searches
writes_the_high_limit = refl

writes_past_the_high_limit : sdo nothing 0x2005 0 2 11 ≡ Some 0x0609_0031
unfolding searches
writes_past_the_high_limit = refl

writes_a_boolean : sdo nothing 0x2008 0 1 1 ≡ None
unfolding searches
writes_a_boolean = refl

writes_no_boolean : sdo nothing 0x2008 0 1 2 ≡ Some 0x0609_0031
unfolding searches
writes_no_boolean = refl

writes_a_text : writing_refusal device nothing (at 0x2001 0) None (bytes 16) ≡ None
unfolding searches
writes_a_text = refl

writes_a_long_text : writing_refusal device nothing (at 0x2001 0) None (bytes 17) ≡ Some 0x0607_0012
unfolding searches
writes_a_long_text = refl

writes_no_bytes : writing_refusal device nothing (at 0x2100 0) None (bytes 0) ≡ None
unfolding searches
writes_no_bytes = refl

writes_a_number_without_bytes : writing_refusal device nothing (at 0x2008 0) None (bytes 0) ≡ Some 0x0607_0013
unfolding searches
writes_a_number_without_bytes = refl

-- the total is compared with the indicated size, and both with the entry
writes_as_indicated : writing_refusal device nothing (at 0x2001 0) (Some 10) (bytes 10) ≡ None
unfolding searches
writes_as_indicated = refl

writes_more_than_indicated : writing_refusal device nothing (at 0x2001 0) (Some 10) (bytes 11) ≡ Some 0x0607_0012
unfolding searches
writes_more_than_indicated = refl

writes_less_than_indicated : writing_refusal device nothing (at 0x2001 0) (Some 10) (bytes 9) ≡ Some 0x0607_0013
unfolding searches
writes_less_than_indicated = refl

-- an indicated size that doesn't fit is refused whatever comes
indicates_too_much : writing_refusal device nothing (at 0x2001 0) (Some 17) (bytes 10) ≡ Some 0x0607_0012
unfolding searches
indicates_too_much = refl

-- a limit is looked at before the own rule, and the own rule after everything else
writes_an_own_rule : sdo nothing 0x1800 2 1 0xFC ≡ Some 0x0609_0030
unfolding searches
writes_an_own_rule = refl

writes_an_own_rule_too_long : sdo nothing 0x1800 2 2 0xFC ≡ Some 0x0607_0012
unfolding searches
writes_an_own_rule_too_long = refl

writes_what_is_read_above_its_room : sdo nothing 0x1000 0 5 1 ≡ Some 0x0601_0002
unfolding searches
writes_what_is_read_above_its_room = refl

stores_parameters : sdo nothing 0x1010 1 4 0x6576_6173 ≡ Some 0x0800_0020
unfolding searches
stores_parameters = refl

-- ---- a write by the application

app_writes_what_is_read : app nothing 0x1000 0 4 1 ≡ None
unfolding searches
app_writes_what_is_read = refl

app_writes_a_constant : app nothing 0x2006 4 1 1 ≡ Some 0x0601_0002
unfolding searches
app_writes_a_constant = refl

app_writes_an_sdo_parameter : app nothing 0x1201 1 4 0x680 ≡ Some 0x0601_0002
unfolding searches
app_writes_an_sdo_parameter = refl

app_writes_an_absent_object : app nothing 0x3000 0 1 1 ≡ Some 0x0602_0000
unfolding searches
app_writes_an_absent_object = refl

app_writes_an_absent_sub_index : app nothing 0x1018 5 1 1 ≡ Some 0x0609_0011
unfolding searches
app_writes_an_absent_sub_index = refl

app_writes_too_short : app nothing 0x1000 0 3 1 ≡ Some 0x0607_0013
unfolding searches
app_writes_too_short = refl

app_writes_above_the_limit : app nothing 0x2003 0 2 1001 ≡ Some 0x0609_0031
unfolding searches
app_writes_above_the_limit = refl

app_writes_an_own_rule : app nothing 0x1003 0 1 1 ≡ Some 0x0609_0030
unfolding searches
app_writes_an_own_rule = refl

-- ---- remapping an RPDO

abbrev mapped : Contents
mapped = with_u32 0x1400 1 0x205 (with_u8 0x1600 0 1 (with_u32 0x1600 1 0x2002_0020 nothing))

abbrev taken_out : Contents
taken_out = with_u32 0x1400 1 0x8000_0205 mapped

abbrev uncounted : Contents
uncounted = with_u8 0x1600 0 0 taken_out

abbrev remapped : Contents
remapped = with_u32 0x1600 1 0x2003_0010 uncounted

remaps_while_valid : sdo mapped 0x1600 0 1 0 ≡ Some 0x0800_0022
unfolding searches
remaps_while_valid = refl

takes_it_out : sdo mapped 0x1400 1 4 0x8000_0205 ≡ None
unfolding searches
takes_it_out = refl

uncounts : sdo taken_out 0x1600 0 1 0 ≡ None
unfolding searches
uncounts = refl

maps_another_entry : sdo uncounted 0x1600 1 4 0x2003_0010 ≡ None
unfolding searches
maps_another_entry = refl

counts_again : sdo remapped 0x1600 0 1 1 ≡ None
unfolding searches
counts_again = refl

takes_it_in : sdo (with_u8 0x1600 0 1 remapped) 0x1400 1 4 0x205 ≡ None
unfolding searches
takes_it_in = refl

-- ---- heartbeat consumers

consumes : sdo nothing 0x1016 1 4 0x0007_0064 ≡ None
unfolding searches
consumes = refl

consumes_twice : sdo (with_u32 0x1016 1 0x0007_0064 nothing) 0x1016 2 4 0x0007_00C8 ≡ Some 0x0604_0043
unfolding searches
consumes_twice = refl

-- ---- the error list

abbrev no_errors : Contents
no_errors = with_u8 0x1003 0 0 (with_u32 0x1003 1 0 (with_u32 0x1003 2 0 nothing))

abbrev one_error : Contents
one_error = pushed rows 0x8130 no_errors

abbrev three_errors : Contents
three_errors = pushed rows 0x8220 (pushed rows 0x8210 one_error)

room : error_room rows ≡ 2
unfolding searches
room = refl

-- 1003:FF is never an error
abbrev every_row : Rows
every_row key = Some (number_row Unsigned32 Rw false)

greatest_room : error_room every_row ≡ 254
unfolding searches
greatest_room = refl

-- without 1003:00, and without 1003:01, nothing is kept
abbrev without : ℕ → Rows
without sub = λ key. if key.sub == sub then None else every_row key

room_without_a_number : error_room (without 0) ≡ 0
unfolding searches
room_without_a_number = refl

room_without_a_first_error : error_room (without 1) ≡ 0
unfolding searches
room_without_a_first_error = refl

number_without_room : pushed (without 1) 0x8130 no_errors (at 0x1003 0) ≡ Some (low_bytes 1 0)
unfolding searches
number_without_room = refl

errors_without_a_number : pushed (without 0) 0x8130 no_errors (at 0x1003 1) ≡ Some (low_bytes 4 0)
unfolding searches
errors_without_a_number = refl

past_the_greatest_room : pushed every_row 0x8130 (with_u32 0x1003 0xFF 7 nothing) (at 0x1003 0xFF) ≡ Some (low_bytes 4 7)
unfolding searches
past_the_greatest_room = refl

full_number : pushed every_row 0x8130 (with_u8 0x1003 0 254 nothing) (at 0x1003 0) ≡ Some (low_bytes 1 254)
unfolding searches
full_number = refl

number_of_one : one_error (at 0x1003 0) ≡ Some (low_bytes 1 1)
unfolding searches
number_of_one = refl

first_of_one : one_error (at 0x1003 1) ≡ Some (low_bytes 4 0x8130)
unfolding searches
first_of_one = refl

-- the bytes of an entry that is above the number move, too
second_of_one : one_error (at 0x1003 2) ≡ Some (low_bytes 4 0)
unfolding searches
second_of_one = refl

number_of_three : three_errors (at 0x1003 0) ≡ Some (low_bytes 1 2)
unfolding searches
number_of_three = refl

first_of_three : three_errors (at 0x1003 1) ≡ Some (low_bytes 4 0x8220)
unfolding searches
first_of_three = refl

second_of_three : three_errors (at 0x1003 2) ≡ Some (low_bytes 4 0x8210)
unfolding searches
second_of_three = refl

beside_the_list : pushed rows 0x8130 (with_u32 0x1003 3 7 no_errors) (at 0x1003 3) ≡ Some (low_bytes 4 7)
unfolding searches
beside_the_list = refl

sets_the_number_of_errors : sdo one_error 0x1003 0 1 1 ≡ Some 0x0609_0030
unfolding searches
sets_the_number_of_errors = refl

clears_the_errors : sdo one_error 0x1003 0 1 0 ≡ None
unfolding searches
clears_the_errors = refl

reads_the_error : reading_refusal rows one_error (at 0x1003 1) ≡ None
unfolding searches
reads_the_error = refl

reads_after_clearing : reading_refusal rows (with_u8 0x1003 0 0 one_error) (at 0x1003 1) ≡ Some 0x0800_0024
unfolding searches
reads_after_clearing = refl

-- after clearing the old entry's bytes move down with the next error
error_after_clearing : pushed rows 0x8210 (with_u8 0x1003 0 0 one_error) (at 0x1003 2) ≡ Some (low_bytes 4 0x8130)
unfolding searches
error_after_clearing = refl
