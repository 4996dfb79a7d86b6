-- The end of a transfer, compared with the row of its entry in the data sheet (CiA 301, 7.4 and
-- 7.2.4.3; CiA 306).
use Rattle.std.specs.Prelude.{ℕ, ◌+◌, ◌-◌, ◌/◌, ◌%◌, ℤ, pos, ◌==◌, int_lt, nat_lt, nat_le, max, Bool, true, false, not, ◌&&◌, ◌||◌, if◌then◌else◌, List, length, take, slice_index, bytes_eq, Option, Some, None, option_map, option_and_then}
use Rattle.std.specs.List.{list_all}
use Rattle.std.specs.Option.{option_map_or, option_or}
use Rattle.co_frame_aborts.specs.declared.abort_code.AbortCode.{AbortCode}
use Rattle.co_frame_aborts.specs.AbortCodes.{write_only, object_missing, sub_index_missing}
use Rattle.co_profile.specs.declared.access.Access.{Access}
use Rattle.co_profile.specs.declared.access.Access.TheVariants.{Ro, Wo, Constant}
use Rattle.co_profile.specs.Indices.{device_type, error_field, error_register, identity, restore_parameters, sdo_server, store_parameters}
use Rattle.co_sheet.specs.Content.{Row}
use Rattle.co_sheet.specs.Limits.{Default, text, pairs}
use Rattle.co_value.specs.declared.data_type.DataType.{DataType}
use Rattle.co_value.specs.declared.data_type.DataType.TheVariants.{Boolean, VisibleString, OctetString, Domain}
use Rattle.co_value.specs.declared.key.Key.{Key}
use Rattle.co_value.specs.Numbers as numbers
use Rattle.co_value.specs.Numbers.{unsigned_of}
use Rattle.co_value.specs.Types.{width_of}
use Rattle.co_sheet_changes.specs.Names.{row_at}
use Rattle.conode_explain_transfers.specs.declared.ended.Ended.{Ended}
use Rattle.conode_explain_transfers.specs.declared.ended.Ending.{Ending}
use Rattle.conode_explain_transfers.specs.declared.ended.Ending.TheVariants.{Done, Aborted}
use Rattle.conode_explain_transfers.specs.declared.kinds.Direction.{Direction}
use Rattle.conode_explain_transfers.specs.declared.kinds.Direction.TheVariants.{Download, Upload}
use Rattle.conode_explain_transfers.specs.declared.kinds.Protocol.{Protocol}
use Rattle.conode_explain_transfers.specs.declared.kinds.Protocol.TheVariants.{Expedited, Segmented, Block}
use Rattle.conode_explain_transfers.specs.declared.kinds.Side.TheVariants.{Server}
use Rattle.conode_compare_pdos.specs.SheetNumbers.{number_of}
use Rattle.conode_compare_values.specs.declared.mismatch.Mismatch.{Mismatch}
use Rattle.conode_compare_values.specs.declared.mismatch.Mismatch.TheVariants.{ValueLength, ValueConst, ConstText, ReadRefused, ReadServed, Written, AboveLimit, BelowLimit, BeyondRoom}
use Rattle.conode_compare_values.specs.declared.rooms.Rooms.{Rooms}

-- ---- values

abbrev pub is_constant : Access → Bool
is_constant Constant = true
is_constant other = false

-- The error register and the errors, which the device changes, and the COB-IDs of its first SDO channel,
-- which follow from its node-ID (CiA 301, 7.5.2.2, 7.5.2.4 and 7.5.2.33): its own, whatever the sheet says.
abbrev pub is_its_own : ℕ → Bool
is_its_own index = (index == error_register) || ((index == error_field) || (index == sdo_server.0))

-- Values that are compared with the data sheet: the device type, vendor-ID and product code, and
-- what never changes. The revision and serial number of a device are its own.
abbrev pub is_held : Row → Bool
is_held row =
    if row.key.index == identity
    then (row.key.sub == 1) || ((row.key.sub == 2) || ((row.key.sub == 0) && is_constant row.access))
    else (row.key.index == device_type) || (is_constant row.access && not (is_its_own row.key.index))

abbrev pub held_number : ℕ → Row → Option ℕ
held_number node row = if is_held row then number_of node row.default else None

-- So many bytes have room for the value, and for up to six more: expedited without a size there are
-- four, and of a last segment with n = 0 seven, however many count.
abbrev pub has_room : ℕ → ℕ → Bool
has_room width count = nat_le width count && nat_le count (width + 6)

-- the number that the first bytes are, up to eight
abbrev pub shown_number : ℕ → List ℕ → Option ℕ
shown_number width bytes =
    if nat_le width 8 && has_room width (length bytes) then Some (unsigned_of (take width bytes)) else None

abbrev pub is_boolean : DataType → Bool
is_boolean Boolean = true
is_boolean other = false

-- Of the byte of a BOOLEAN only one bit may count: it is another than 0 if that bit is set, and another
-- than 1 if no bit is.
abbrev pub is_other_boolean : ℕ → ℕ → Bool
is_other_boolean shown held = if held == 0 then shown % 2 == 1 else shown == 0

abbrev pub is_other_number : DataType → ℕ → ℕ → Bool
is_other_number type shown held = if is_boolean type then is_other_boolean shown held else not (shown == held)

-- The device profile, the lower 16 bits of the device type. The upper ones are additional information of
-- that profile, as which kinds of inputs are plugged in, or of which kind a drive is (CiA 301, 7.5.2.1).
abbrev pub profile_in : ℕ → ℕ
profile_in word = word % 0x10000

abbrev pub is_other_value : Row → ℕ → ℕ → Bool
is_other_value row shown held =
    if row.key.index == device_type then not (profile_in shown == profile_in held) else is_other_number row.data_type shown held

-- `value-const`: another number than the data sheet's
abbrev pub constant_mismatch : Row → Option ℕ → Option ℕ → Option Mismatch
constant_mismatch row None held = None
constant_mismatch row (Some shown) None = None
constant_mismatch row (Some shown) (Some held) =
    if is_other_value row shown held then Some (ValueConst row.key shown held) else None

-- `value-length`: a number has as many bytes as its type, where their number is indicated; one of
-- more than four isn't expedited
abbrev pub number_mismatch : ℕ → Row → Bool → List ℕ → ℕ → Option Mismatch
number_mismatch node row indicated bytes width =
    if nat_lt 4 width || (indicated && not (width == length bytes)) then Some (ValueLength row.key (length bytes) width)
    else constant_mismatch row (shown_number width bytes) (held_number node row)

-- in segments or blocks; where the number of bytes is known exactly, it is the type's
abbrev pub has_width : Bool → ℕ → ℕ → Bool
has_width exact width count = if exact then width == count else has_room width count

abbrev pub long_mismatch : ℕ → Row → Bool → ℕ → List ℕ → ℕ → Option Mismatch
long_mismatch node row exact count bytes width =
    if has_width exact width count then constant_mismatch row (shown_number width bytes) (held_number node row)
    else Some (ValueLength row.key count width)

-- by the protocol, of so many bytes, the first of which are these
abbrev pub width_mismatch : ℕ → Row → Bool → Protocol → ℕ → List ℕ → ℕ → Option Mismatch
width_mismatch node row exact Expedited count bytes width = number_mismatch node row exact bytes width
width_mismatch node row exact other count bytes width = long_mismatch node row exact count bytes width

-- ---- texts

-- 1008h to 100Ah: the device's name, the versions of hardware and software
abbrev pub is_version : Key → Bool
is_version key = nat_le 0x1008 key.index && nat_le key.index 0x100A

-- a visible character, and a blank or one
abbrev pub is_visible : ℕ → Bool
is_visible byte = nat_lt 0x20 byte && nat_lt byte 0x7F

abbrev pub is_printed : ℕ → Bool
is_printed byte = nat_le 0x20 byte && nat_lt byte 0x7F

abbrev pub byte_of : List ℕ → ℕ → ℕ
byte_of bytes place = slice_index bytes place

-- neither of the quotes, which may be meant to be left out
abbrev pub is_first : ℕ → Bool
is_first byte = is_visible byte && (not (byte == 0x22) && not (byte == 0x27))

-- a text of the data sheet that is compared: of up to 64 characters, since so many bytes of a transfer
-- are kept
abbrev pub is_comparable : List ℕ → Bool
is_comparable bytes = nat_le (length bytes) 64 && (list_all is_printed bytes && is_first (byte_of bytes 0))

abbrev pub begins_with : List ℕ → List ℕ → Bool
begins_with bytes shown = nat_le (length bytes) (length shown) && bytes_eq (take (length bytes) shown) bytes

-- Another text is shown: one that begins otherwise, or goes on with a visible character. A data sheet
-- has no blanks at either end, and a device may add zeros.
abbrev pub is_other_text : Bool → List ℕ → List ℕ → Bool
is_other_text exact bytes shown =
    not (byte_of shown 0 == 0x20) && (not (begins_with bytes shown) || (exact && is_visible (byte_of shown (length bytes))))

abbrev pub is_held_text : Row → Bool
is_held_text row = is_constant row.access && not (is_version row.key)

-- `value-const`: another text than the data sheet's
abbrev pub text_with : Row → Bool → Default → List ℕ → Option Mismatch
text_with row exact (text bytes) shown =
    if is_held_text row && (is_comparable bytes && is_other_text exact bytes shown) then Some (ConstText row.key) else None
text_with row exact default shown = None

abbrev pub text_mismatch : Row → Bool → List ℕ → Option Mismatch
text_mismatch row exact shown = text_with row exact row.default shown

-- ---- refusals

abbrev pub is_readable : Access → Bool
is_readable Wo = false
is_readable other = true

abbrev pub is_read_only : Access → Bool
is_read_only Ro = true
is_read_only Constant = true
is_read_only other = false

-- Each object has its sub-index 0, and the identity a vendor-ID (CiA 301, 7.5.2.21). Another sub-index
-- may be missing where the number of them varies.
abbrev pub is_mandatory : Key → Bool
is_mandatory key = (key.sub == 0) || ((key.index == identity) && (key.sub == 1))

-- a code that says that the entry can't be read at all
abbrev pub denies : Key → ℕ → Bool
denies key code = (code == write_only) || (is_mandatory key && ((code == object_missing) || (code == sub_index_missing)))

-- `access-read`: the data sheet has the entry as readable; modules decide which entries a modular
-- device has
abbrev pub refused_mismatch : Bool → Row → AbortCode → Option Mismatch
refused_mismatch modular row code =
    if not modular && (denies row.key code.0 && is_readable row.access) then Some (ReadRefused row.key code) else None

-- ---- downloads

-- Limits that can be meant: a sole one isn't below 0, since HighLimit=0xFFFF of an INTEGER16 may be
-- meant as none; and two leave a number.
abbrev pub binds : Option ℤ → Option ℤ → Bool
binds (Some low) (Some high) = not (int_lt high low)
binds (Some low) None = not (int_lt low (pos 0))
binds None (Some high) = not (int_lt high (pos 0))
binds None None = false

-- CiA 301 and 302 say which values entries below 2000h have; a sheet's limits may leave out some of
-- them, as bit 31 of a COB-ID. Of the byte of a BOOLEAN only one bit may count.
abbrev pub has_limits : Row → Bool
has_limits row = nat_le 0x2000 row.key.index && (not (is_boolean row.data_type) && binds row.low row.high)

abbrev pub is_above : Option ℤ → ℤ → Bool
is_above limit value = option_map_or (λ high. int_lt high value) limit false

abbrev pub is_below : Option ℤ → ℤ → Bool
is_below limit value = option_map_or (λ low. int_lt value low) limit false

-- `access-limits`: a number beyond the data sheet's limits
abbrev pub limit_mismatch : Row → ℤ → Option Mismatch
limit_mismatch row value =
    if is_above row.high value then Some (AboveLimit row.key)
    else (if is_below row.low value then Some (BelowLimit row.key) else None)

-- of bytes as many as the type has
abbrev pub is_number : Row → List ℕ → Bool
is_number row bytes = option_map_or (λ width. width == length bytes) (width_of row.data_type) false

abbrev pub beyond_mismatch : Row → List ℕ → Option Mismatch
beyond_mismatch row bytes =
    if has_limits row && is_number row bytes then limit_mismatch row (numbers.number_of row.data_type bytes) else None

-- a number that isn't beyond the limits of its entry, whether they can be meant or not
abbrev pub is_within : Row → List ℕ → Bool
is_within row bytes =
    is_number row bytes
    && not (is_above row.high (numbers.number_of row.data_type bytes) || is_below row.low (numbers.number_of row.data_type bytes))

-- 1003:00, which a client writes 0 to, to empty the list of errors (CiA 301, 7.5.2.4), whatever the sheet says
abbrev pub is_error_count : Key → Bool
is_error_count key = (key.index == error_field) && (key.sub == 0)

-- the data sheet has the entry as read only, and CiA 301 has it so, or leaves it to the sheet
abbrev pub is_closed : Row → Bool
is_closed row = is_read_only row.access && not (is_error_count row.key)

-- `access-write`
abbrev pub written_mismatch : Row → List ℕ → Option Mismatch
written_mismatch row bytes = if is_closed row then Some (Written row.key) else beyond_mismatch row bytes

-- ---- room

-- how many bytes a string's default has: those of its text, or of its pairs of hexadecimal digits
abbrev pub default_length : Default → ℕ
default_length (text bytes) = length bytes
default_length (pairs digits) = length digits / 2
default_length other = 0

-- where a room is given: a string has it, or its default's length where that is longer; a DOMAIN has
-- it; a number has its type's
abbrev pub room_by : Rooms → Row → DataType → Option ℕ
room_by rooms row VisibleString = option_map (max (default_length row.default)) rooms.strings
room_by rooms row OctetString = option_map (max (default_length row.default)) rooms.strings
room_by rooms row Domain = rooms.domains
room_by rooms row numeric = None

-- Of an entry that can be written. Below 2000h a DOMAIN has a room of its own, as that of a program
-- (1F50h).
abbrev pub room_of : Rooms → Row → Option ℕ
room_of rooms row =
    if nat_le 0x2000 row.key.index && not (is_read_only row.access) then room_by rooms row row.data_type else None

-- So many bytes of a download count at least. A last segment with n = 0 has seven, of which up to six
-- may not; of four in one frame, where the size may not be indicated, none may.
abbrev pub least_bytes : Protocol → ℕ → ℕ
least_bytes Block count = count
least_bytes Segmented count = if count % 7 == 0 then count - 6 else count
least_bytes protocol count = if nat_lt count 4 then count else 0

-- `access-limits`: more bytes were written than there is room for
abbrev pub over_room : Row → Protocol → ℕ → ℕ → Option Mismatch
over_room row protocol count room = if nat_lt room (least_bytes protocol count) then Some (BeyondRoom row.key count room) else None

abbrev pub room_mismatch : Rooms → Row → Protocol → ℕ → Option Mismatch
room_mismatch rooms row protocol count = option_and_then (over_room row protocol count) (room_of rooms row)

-- ---- the end of a transfer

-- by the width of the entry's type, if it is a number's
abbrev pub value_by : ℕ → Row → Bool → Ended → Option ℕ → Option Mismatch
value_by node row exact ended (Some width) = width_mismatch node row exact ended.protocol ended.bytes ended.first.items width
value_by node row exact ended None = text_mismatch row exact ended.first.items

unfoldable pub value_mismatch : ℕ → Row → Bool → Ended → Option Mismatch
value_mismatch node row exact ended = value_by node row exact ended (width_of row.data_type)

-- Modules decide what the device type of a modular device is.
abbrev pub is_by_modules : Mismatch → Bool
is_by_modules (ValueConst key shown held) = key.index == device_type
is_by_modules other = false

abbrev pub unless_modules : Bool → Option Mismatch → Option Mismatch
unless_modules modular None = None
unless_modules modular (Some mismatch) = if modular && is_by_modules mismatch then None else Some mismatch

-- 1010h and 1011h, of which a client reads what the device can store and restore (CiA 301, 7.5.2.13 and 7.5.2.14),
-- whatever the sheet says
abbrev pub is_stored : ℕ → Bool
is_stored index = (index == store_parameters) || (index == restore_parameters)

-- `access-read`: the data sheet has the entry as write only
abbrev pub served_mismatch : Bool → Row → Option Mismatch
served_mismatch modular row = if modular || is_stored row.key.index then None else Some (ReadServed row.key)

-- of an upload that is done; whether the device is modular
abbrev pub read_mismatch : ℕ → Bool → Row → Bool → Ended → Option Mismatch
read_mismatch node modular row exact ended =
    if is_readable row.access then unless_modules modular (value_mismatch node row exact ended) else served_mismatch modular row

-- The bytes of a number that was written: in one frame there are four where their number isn't
-- indicated, and as many count as the type has.
abbrev pub first_bytes : ℕ → List ℕ → List ℕ
first_bytes width bytes = if (length bytes == 4) && nat_lt width 4 then take width bytes else bytes

abbrev pub written_bytes : DataType → Protocol → List ℕ → List ℕ
written_bytes type Expedited bytes = option_map_or (λ width. first_bytes width bytes) (width_of type) bytes
written_bytes type other bytes = bytes

-- of a download that is done: a number has no room that is given, and a string no limits
abbrev pub download_mismatch : Rooms → Row → Ended → Option Mismatch
download_mismatch rooms row ended =
    option_or (written_mismatch row (written_bytes row.data_type ended.protocol ended.first.items)) (room_mismatch rooms row ended.protocol ended.bytes)

-- of a device with a node-ID; whether it is modular; the rooms that are given; whether the number of
-- bytes of an upload is known exactly
abbrev pub mismatch_by : ℕ → Bool → Rooms → Row → Bool → Ended → Direction → Ending → Option Mismatch
mismatch_by node modular rooms row exact ended Upload (Done crc) = read_mismatch node modular row exact ended
mismatch_by node modular rooms row exact ended Download (Done crc) = download_mismatch rooms row ended
mismatch_by node modular rooms row exact ended Upload (Aborted Server code) = refused_mismatch modular row code
mismatch_by node modular rooms row exact ended direction ending = None

unfoldable pub row_mismatch : ℕ → Bool → Rooms → Row → Bool → Ended → Option Mismatch
row_mismatch node modular rooms row exact ended =
    mismatch_by node modular rooms row exact ended ended.direction ended.ending

-- of an entry that the data sheet has
unfoldable pub mismatch_at : ℕ → Bool → Rooms → List Row → Bool → Ended → Option Mismatch
mismatch_at node modular rooms rows exact ended =
    option_and_then (λ row. row_mismatch node modular rooms row exact ended) (row_at rows ended.key)
