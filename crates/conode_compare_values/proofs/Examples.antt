-- What of a transfer's end differs from the data sheet and what doesn't, on both sides of each edge, computed from the definitions.
use Rattle.std.proofs.Common.{◌≡◌, ℕ, ◌-◌, Bool, true, false, List, [], ◌∷◌, length, map, replicate, Option, Some, None, refl}
use Rattle.std.specs.Prelude.{ℤ, pos, neg_ℤ}
use Rattle.co_profile.specs.declared.access.Access.{Access}
use Rattle.co_profile.specs.declared.access.Access.TheVariants.{Ro, Wo, Rw, Constant}
use Rattle.co_sheet.specs.Content.{Row}
use Rattle.co_sheet.specs.Limits.{Default, absent, number, node_id, text, pairs}
use Rattle.co_value.specs.declared.data_type.DataType.{DataType}
use Rattle.co_value.specs.declared.data_type.DataType.TheVariants.{Boolean, Integer16, Integer24, Integer64, Unsigned8, Unsigned16, Unsigned32, Unsigned40, Unsigned64, VisibleString, OctetString, Domain}
use Rattle.co_value.specs.declared.key.Key.{Key}
use Rattle.conode_explain_transfers.specs.declared.ended.Ended.{Ended}
use Rattle.conode_explain_transfers.specs.declared.ended.Ending.{Ending}
use Rattle.conode_explain_transfers.specs.declared.ended.Ending.TheVariants.{Done, Aborted}
use Rattle.conode_explain_transfers.specs.declared.kinds.Direction.{Direction}
use Rattle.conode_explain_transfers.specs.declared.kinds.Direction.TheVariants.{Download, Upload}
use Rattle.conode_explain_transfers.specs.declared.kinds.Protocol.{Protocol}
use Rattle.conode_explain_transfers.specs.declared.kinds.Protocol.TheVariants.{Expedited, Segmented, Block}
use Rattle.conode_explain_transfers.specs.declared.kinds.Side.TheVariants.{Server}
use Rattle.conode_compare_values.specs.declared.mismatch.Mismatch.{Mismatch}
use Rattle.conode_compare_values.specs.declared.mismatch.Mismatch.TheVariants.{ValueLength, ValueConst, ConstText, ReadRefused, ReadServed, Written, AboveLimit, BelowLimit, BeyondRoom}
use Rattle.conode_compare_values.specs.declared.rooms.Rooms.{Rooms}
use Rattle.conode_compare_values.specs.SheetValues.{binds, refused_mismatch, row_mismatch, value_mismatch, written_mismatch}

abbrev key : ℕ → ℕ → Key
key index sub = record { index = index; sub = sub }

-- ---- values

abbrev row : ℕ → ℕ → DataType → Access → Default → Row
row index sub data_type access default = record {
  key = record { index = index; sub = sub };
  data_type = data_type;
  access = access;
  low = None;
  high = None;
  default = default;
  mappable = false;
  name = None;
  line = 1;
}

-- an upload of so many bytes, the first of which are these
abbrev read : Row → Bool → Protocol → ℕ → List ℕ → Option Mismatch
read entry exact protocol count bytes = value_mismatch 5 entry exact (record {
  key = entry.key;
  direction = Upload;
  protocol = protocol;
  bytes = count;
  first = record { items = bytes };
  frames = 2;
  begun = 1;
  newest = 1;
  end = 2;
  ending = Done false;
  fault = None;
})

abbrev upload : Row → Bool → List ℕ → Option Mismatch
upload entry exact bytes = read entry exact Expedited (length bytes) bytes

same_const : upload (row 0x2000 0 Unsigned16 Constant (number (pos 258))) true (2 ∷ 1 ∷ []) ≡ None
unfolding value_mismatch
same_const = refl

other_const : upload (row 0x2000 0 Unsigned16 Constant (number (pos 258))) true (3 ∷ 1 ∷ []) ≡ Some (ValueConst (key 0x2000 0) 259 258)
unfolding value_mismatch
other_const = refl

-- the error register, the errors and the first SDO channel are the device's own, whatever the sheet says
own_values : map (λ index. upload (row index 0 Unsigned8 Constant (number (pos 1))) true (2 ∷ [])) (0x1001 ∷ 0x1002 ∷ 0x1003 ∷ 0x1200 ∷ 0x1201 ∷ [])
    ≡ None ∷ Some (ValueConst (key 0x1002 0) 2 1) ∷ None ∷ None ∷ Some (ValueConst (key 0x1201 0) 2 1) ∷ []
unfolding value_mismatch
own_values = refl

-- a BOOLEAN: of 1 in the sheet 0 alone is another; of 0 what has its lowest bit set
boolean_of_1 : map (λ shown. upload (row 0x2000 0 Boolean Constant (number (pos 1))) true (shown ∷ [])) (0 ∷ 1 ∷ 2 ∷ 0xFF ∷ [])
    ≡ Some (ValueConst (key 0x2000 0) 0 1) ∷ None ∷ None ∷ None ∷ []
unfolding value_mismatch
boolean_of_1 = refl

boolean_of_0 : map (λ shown. upload (row 0x2000 0 Boolean Constant (number (pos 0))) true (shown ∷ [])) (0 ∷ 1 ∷ 2 ∷ 0xFF ∷ [])
    ≡ None ∷ Some (ValueConst (key 0x2000 0) 1 0) ∷ None ∷ Some (ValueConst (key 0x2000 0) 0xFF 0) ∷ []
unfolding value_mismatch
boolean_of_0 = refl

-- without its size the first bytes count
no_size : upload (row 0x2000 0 Unsigned16 Constant (number (pos 258))) false (2 ∷ 1 ∷ 9 ∷ 9 ∷ []) ≡ None
unfolding value_mismatch
no_size = refl

other_length : upload (row 0x2000 0 Unsigned16 Rw absent) true (2 ∷ 1 ∷ 0 ∷ 0 ∷ []) ≡ Some (ValueLength (key 0x2000 0) 4 2)
unfolding value_mismatch
other_length = refl

wide : upload (row 0x2000 0 Unsigned40 Rw absent) false (1 ∷ 0 ∷ 0 ∷ 0 ∷ []) ≡ Some (ValueLength (key 0x2000 0) 4 5)
unfolding value_mismatch
wide = refl

no_text : upload (row 0x1008 0 VisibleString Constant absent) true (65 ∷ []) ≡ None
unfolding value_mismatch
no_text = refl

not_const : upload (row 0x2000 0 Unsigned8 Rw (number (pos 1))) true (2 ∷ []) ≡ None
unfolding value_mismatch
not_const = refl

node_added : upload (row 0x2000 0 Unsigned8 Constant (node_id 1)) true (6 ∷ []) ≡ None
unfolding value_mismatch
node_added = refl

device_type : upload (row 0x1000 0 Unsigned8 Ro (number (pos 1))) true (2 ∷ []) ≡ Some (ValueConst (key 0x1000 0) 2 1)
unfolding value_mismatch
device_type = refl

-- Of F0191h in the sheet the lower 16 bits are compared: 10191h, 191h; F0190h, F8191h. Of another entry all are.
abbrev profile : List ℕ → Option Mismatch
profile bytes = upload (row 0x1000 0 Unsigned32 Ro (number (pos 0xF0191))) true bytes

abbrev other_profile : ℕ → Option Mismatch
other_profile shown = Some (ValueConst (key 0x1000 0) shown 0xF0191)

profiles : map profile ((0x91 ∷ 1 ∷ 0xF ∷ 0 ∷ []) ∷ (0x91 ∷ 1 ∷ 1 ∷ 0 ∷ []) ∷ (0x91 ∷ 1 ∷ 0 ∷ 0xFF ∷ []) ∷ (0x90 ∷ 1 ∷ 0xF ∷ 0 ∷ []) ∷ (0x91 ∷ 0x81 ∷ 0xF ∷ 0 ∷ []) ∷ [])
    ≡ None ∷ None ∷ None ∷ other_profile 0xF0190 ∷ other_profile 0xF8191 ∷ []
unfolding value_mismatch
profiles = refl

other_words : map (λ index. upload (row index 0 Unsigned32 Constant (number (pos 0xF0191))) true (0x91 ∷ 1 ∷ 0xE ∷ 0 ∷ [])) (0x1000 ∷ 0x1002 ∷ [])
    ≡ None ∷ Some (ValueConst (key 0x1002 0) 0xE0191 0xF0191) ∷ []
unfolding value_mismatch
other_words = refl

product : upload (row 0x1018 2 Unsigned8 Ro (number (pos 1))) true (2 ∷ []) ≡ Some (ValueConst (key 0x1018 2) 2 1)
unfolding value_mismatch
product = refl

revision : upload (row 0x1018 3 Unsigned8 Constant (number (pos 1))) true (2 ∷ []) ≡ None
unfolding value_mismatch
revision = refl

-- the number of sub-indices of the identity, where it never changes
identity_count : map (λ access. upload (row 0x1018 0 Unsigned8 access (number (pos 4))) true (3 ∷ [])) (Constant ∷ Ro ∷ []) ≡ Some (ValueConst (key 0x1018 0) 3 4) ∷ None ∷ []
unfolding value_mismatch
identity_count = refl

-- ---- in segments and blocks

abbrev long : Row
long = row 0x2000 0 Unsigned64 Constant (number (pos 258))

-- 102h and 0100000000000102h
long_const : map (λ last. read long true Segmented 8 (2 ∷ 1 ∷ 0 ∷ 0 ∷ 0 ∷ 0 ∷ 0 ∷ last ∷ [])) (0 ∷ 1 ∷ []) ≡ None ∷ Some (ValueConst (key 0x2000 0) 0x0100000000000102 258) ∷ []
unfolding value_mismatch
long_const = refl

in_blocks : map (λ last. read long true Block 8 (2 ∷ 1 ∷ 0 ∷ 0 ∷ 0 ∷ 0 ∷ 0 ∷ last ∷ [])) (0 ∷ 1 ∷ []) ≡ None ∷ Some (ValueConst (key 0x2000 0) 0x0100000000000102 258) ∷ []
unfolding value_mismatch
in_blocks = refl

too_few : map (λ exact. read long exact Segmented 7 (2 ∷ 1 ∷ 0 ∷ 0 ∷ 0 ∷ 0 ∷ 0 ∷ [])) (true ∷ false ∷ []) ≡ Some (ValueLength (key 0x2000 0) 7 8) ∷ Some (ValueLength (key 0x2000 0) 7 8) ∷ []
unfolding value_mismatch
too_few = refl

-- a last segment with n = 0 has seven bytes, of which one is the number; eight bytes aren't a number of one byte
abbrev short : Row
short = row 0x2000 0 Unsigned8 Constant (number (pos 2))

padded : map (λ count. read short false Segmented count (2 ∷ replicate (count - 1) 9)) (7 ∷ 8 ∷ []) ≡ None ∷ Some (ValueLength (key 0x2000 0) 8 1) ∷ []
unfolding value_mismatch
padded = refl

padded_other : read short false Segmented 7 (3 ∷ replicate 6 9) ≡ Some (ValueConst (key 0x2000 0) 3 2)
unfolding value_mismatch
padded_other = refl

-- n is 6, and 5
exact : read short true Segmented 1 (2 ∷ []) ≡ None
unfolding value_mismatch
exact = refl

exact_other : read short true Segmented 2 (2 ∷ 9 ∷ []) ≡ Some (ValueLength (key 0x2000 0) 2 1)
unfolding value_mismatch
exact_other = refl

-- of an entry that may change the length is compared
may_change : map (λ count. read (row 0x2000 0 Unsigned16 Rw (number (pos 1))) true Block count (replicate count 7)) (2 ∷ 300 ∷ []) ≡ None ∷ Some (ValueLength (key 0x2000 0) 300 2) ∷ []
unfolding value_mismatch
may_change = refl

-- ---- texts

-- the sheet has "PT"
abbrev named : Row
named = row 0x2005 0 VisibleString Constant (text (0x50 ∷ 0x54 ∷ []))

abbrev shows : Row → Bool → List ℕ → Option Mismatch
shows entry exact bytes = read entry exact Segmented (length bytes) bytes

abbrev other : Option Mismatch
other = Some (ConstText (key 0x2005 0))

-- "PT", "PU", "P", and nothing
texts : map (shows named true) ((0x50 ∷ 0x54 ∷ []) ∷ (0x50 ∷ 0x55 ∷ []) ∷ (0x50 ∷ []) ∷ [] ∷ []) ≡ None ∷ other ∷ other ∷ other ∷ []
unfolding value_mismatch
texts = refl

-- "PT" with a zero, a blank, and "!" after it; "PT!" where one byte may not count
going_on : map (λ byte. shows named true (0x50 ∷ 0x54 ∷ byte ∷ [])) (0 ∷ 0x20 ∷ 0x21 ∷ 0x7E ∷ 0x7F ∷ []) ≡ None ∷ None ∷ other ∷ other ∷ None ∷ []
unfolding value_mismatch
going_on = refl

may_not_count : shows named false (0x50 ∷ 0x54 ∷ 0x21 ∷ []) ≡ None
unfolding value_mismatch
may_not_count = refl

-- in one frame, without its size and with it; in blocks
in_one_frame : read named false Expedited 4 (0x50 ∷ 0x54 ∷ 9 ∷ 9 ∷ []) ∷ read named true Expedited 2 (0x50 ∷ 0x55 ∷ []) ∷ read named true Block 2 (0x50 ∷ 0x55 ∷ []) ∷ [] ≡ None ∷ other ∷ other ∷ []
unfolding value_mismatch
in_one_frame = refl

-- " PU": the sheet has no blank at the begin
blank_first : shows named true (0x20 ∷ 0x50 ∷ 0x55 ∷ []) ≡ None
unfolding value_mismatch
blank_first = refl

-- of an entry that is read only, 1008h and 100Ah; 1007h and 100Bh
no_constant : shows (record named { access = Ro }) true (0x50 ∷ 0x55 ∷ []) ≡ None
unfolding value_mismatch
no_constant = refl

versions : map (λ index. shows (row index 0 VisibleString Constant (text (0x50 ∷ 0x54 ∷ []))) true (0x51 ∷ [])) (0x1007 ∷ 0x1008 ∷ 0x100A ∷ 0x100B ∷ [])
    ≡ Some (ConstText (key 0x1007 0)) ∷ None ∷ None ∷ Some (ConstText (key 0x100B 0)) ∷ []
unfolding value_mismatch
versions = refl

-- the sheet has nothing, quotes, a letter with an accent; 64 letters, and 65
abbrev of_sheet : List ℕ → Option Mismatch
of_sheet bytes = shows (record named { default = text bytes }) true (0x51 ∷ [])

not_compared : map of_sheet ([] ∷ (0x22 ∷ 0x50 ∷ 0x22 ∷ []) ∷ (0x27 ∷ 0x50 ∷ []) ∷ (0x50 ∷ 0xE9 ∷ []) ∷ (0x50 ∷ 0x1F ∷ []) ∷ []) ≡ None ∷ None ∷ None ∷ None ∷ None ∷ []
unfolding value_mismatch
not_compared = refl

compared : map of_sheet ((0x50 ∷ 0x22 ∷ []) ∷ (0x50 ∷ 0x20 ∷ 0x7E ∷ []) ∷ replicate 64 0x41 ∷ replicate 65 0x41 ∷ []) ≡ other ∷ other ∷ other ∷ None ∷ []
unfolding value_mismatch
compared = refl

-- ---- refusals

refused : refused_mismatch false (row 0x2000 0 Unsigned8 Ro absent) (record { 0 = 0x06020000 }) ≡ Some (ReadRefused (key 0x2000 0) (record { 0 = 0x06020000 }))
refused = refl

refused_sub : refused_mismatch false (row 0x2000 1 Unsigned8 Ro absent) (record { 0 = 0x06020000 }) ≡ None
refused_sub = refl

write_only_sub : refused_mismatch false (row 0x2000 1 Unsigned8 Rw absent) (record { 0 = 0x06010001 }) ≡ Some (ReadRefused (key 0x2000 1) (record { 0 = 0x06010001 }))
write_only_sub = refl

is_write_only : refused_mismatch false (row 0x2000 1 Unsigned8 Wo absent) (record { 0 = 0x06010001 }) ≡ None
is_write_only = refl

for_now : refused_mismatch false (row 0x2000 0 Unsigned8 Ro absent) (record { 0 = 0x08000022 }) ≡ None
for_now = refl

of_modules : refused_mismatch true (row 0x2000 0 Unsigned8 Ro absent) (record { 0 = 0x06020000 }) ≡ None
of_modules = refl

written : written_mismatch (row 0x2000 0 Unsigned8 Ro absent) (1 ∷ []) ≡ Some (Written (key 0x2000 0))
written = refl

-- 1003:00 can be written, whatever the sheet says; 1003:01, 1002:00 and 1004:00 can't
errors_emptied : map (λ access. written_mismatch (row 0x1003 0 Unsigned8 access absent) (0 ∷ [])) (Ro ∷ Constant ∷ Rw ∷ []) ≡ None ∷ None ∷ None ∷ []
errors_emptied = refl

beside_errors : written_mismatch (row 0x1003 1 Unsigned32 Ro absent) (0 ∷ []) ∷ map (λ index. written_mismatch (row index 0 Unsigned8 Ro absent) (0 ∷ [])) (0x1002 ∷ 0x1004 ∷ [])
    ≡ Some (Written (key 0x1003 1)) ∷ Some (Written (key 0x1002 0)) ∷ Some (Written (key 0x1004 0)) ∷ []
beside_errors = refl

writeable : written_mismatch (row 0x2000 0 Unsigned8 Rw absent) (1 ∷ []) ≡ None
writeable = refl

-- 06020000 and 06090011 of the vendor-ID, which each identity has; of the product code, and of sub-index 1 of another object
abbrev missing : ℕ → ℕ → ℕ → Option Mismatch
missing index sub code = refused_mismatch false (row index sub Unsigned32 Ro absent) (record { 0 = code })

vendor : map (missing 0x1018 1) (0x06020000 ∷ 0x06090011 ∷ 0x06010001 ∷ 0x06060000 ∷ 0x08000022 ∷ [])
    ≡ Some (ReadRefused (key 0x1018 1) (record { 0 = 0x06020000 })) ∷ Some (ReadRefused (key 0x1018 1) (record { 0 = 0x06090011 })) ∷ Some (ReadRefused (key 0x1018 1) (record { 0 = 0x06010001 })) ∷ None ∷ None ∷ []
vendor = refl

no_vendor : missing 0x1018 2 0x06090011 ∷ missing 0x1017 1 0x06090011 ∷ missing 0x1019 1 0x06020000 ∷ [] ≡ None ∷ None ∷ None ∷ []
no_vendor = refl

-- ---- limits

abbrev limited : ℕ → DataType → Option ℤ → Option ℤ → Row
limited index data_type low high = record (row index 0 data_type Rw absent) { low = low; high = high }

abbrev signed : List ℕ → Option Mismatch
signed bytes = written_mismatch (limited 0x2010 Integer16 (Some (neg_ℤ (pos 100))) (Some (pos 100))) bytes

-- 100 and 101, -100 and -101
limits : map signed ((0x64 ∷ 0 ∷ []) ∷ (0x65 ∷ 0 ∷ []) ∷ (0x9C ∷ 0xFF ∷ []) ∷ (0x9B ∷ 0xFF ∷ []) ∷ [])
    ≡ None ∷ Some (AboveLimit (key 0x2010 0)) ∷ None ∷ Some (BelowLimit (key 0x2010 0)) ∷ []
limits = refl

-- unsigned: 60000 and 60001; 10 and 9
abbrev unsigned : List ℕ → Option Mismatch
unsigned bytes = written_mismatch (limited 0x2000 Unsigned16 (Some (pos 10)) (Some (pos 60000))) bytes

unsigned_limits : map unsigned ((0x60 ∷ 0xEA ∷ []) ∷ (0x61 ∷ 0xEA ∷ []) ∷ (10 ∷ 0 ∷ []) ∷ (9 ∷ 0 ∷ []) ∷ [])
    ≡ None ∷ Some (AboveLimit (key 0x2000 0)) ∷ None ∷ Some (BelowLimit (key 0x2000 0)) ∷ []
unsigned_limits = refl

one_limit : written_mismatch (limited 0x2000 Unsigned8 None (Some (pos 100))) (0 ∷ []) ≡ None
one_limit = refl

other_limit : written_mismatch (limited 0x2000 Unsigned8 (Some (pos 1)) None) (0xFF ∷ []) ≡ None
other_limit = refl

-- another number of bytes than the type has
other_bytes : written_mismatch (limited 0x2000 Unsigned16 None (Some (pos 1))) (0xFF ∷ []) ≡ None
other_bytes = refl

more_bytes : written_mismatch (limited 0x2000 Unsigned8 None (Some (pos 1))) (0xFF ∷ 0 ∷ 0 ∷ 0 ∷ []) ≡ None
more_bytes = refl

-- -1 and -2 of 24 and of 64 bits, which aren't expedited
three_bytes : map (λ low. written_mismatch (limited 0x2000 Integer24 (Some (neg_ℤ (pos 1))) (Some (pos 1))) (low ∷ 0xFF ∷ 0xFF ∷ [])) (0xFF ∷ 0xFE ∷ []) ≡ None ∷ Some (BelowLimit (key 0x2000 0)) ∷ []
three_bytes = refl

eight_bytes : map (λ low. written_mismatch (limited 0x2000 Integer64 (Some (neg_ℤ (pos 1))) (Some (pos 1))) (low ∷ 0xFF ∷ 0xFF ∷ 0xFF ∷ 0xFF ∷ 0xFF ∷ 0xFF ∷ 0xFF ∷ [])) (0xFF ∷ 0xFE ∷ []) ≡ None ∷ Some (BelowLimit (key 0x2000 0)) ∷ []
eight_bytes = refl

-- below 2000h CiA 301 says which values there are, as bit 31 of a COB-ID
of_cia301 : written_mismatch (limited 0x1FFF Unsigned16 None (Some (pos 1))) (0xFF ∷ 0 ∷ []) ≡ None
of_cia301 = refl

-- HighLimit=0xFFFF of an INTEGER16 is -1, and may be meant as none; so may a LowLimit
sole_high : map (λ limit. binds None (Some limit)) (pos 0 ∷ neg_ℤ (pos 1) ∷ []) ≡ true ∷ false ∷ []
sole_high = refl

sole_low : map (λ limit. binds (Some limit) None) (pos 0 ∷ neg_ℤ (pos 1) ∷ []) ≡ true ∷ false ∷ []
sole_low = refl

-- from 5 to 5, and from 5 to 4
two_limits : map (λ high. binds (Some (pos 5)) (Some high)) (pos 5 ∷ pos 4 ∷ []) ≡ true ∷ false ∷ []
two_limits = refl

negative_limits : binds (Some (neg_ℤ (pos 5))) (Some (neg_ℤ (pos 1))) ≡ true
negative_limits = refl

no_limits : binds None None ≡ false
no_limits = refl

meant_as_none : written_mismatch (limited 0x2011 Integer16 None (Some (neg_ℤ (pos 1)))) (5 ∷ 0 ∷ []) ≡ None
meant_as_none = refl

-- one bit of eight
boolean : written_mismatch (limited 0x2010 Boolean None (Some (pos 1))) (0xFF ∷ []) ≡ None
boolean = refl

read_only_limits : written_mismatch (record (row 0x2000 0 Unsigned8 Ro absent) { high = Some (pos 1) }) (0xFF ∷ []) ≡ Some (Written (key 0x2000 0))
read_only_limits = refl

-- ---- room

abbrev given : Option ℕ → Option ℕ → Rooms
given strings domains = record { strings = strings; domains = domains }

abbrev transfer : Row → Direction → Protocol → ℕ → Ending → Ended
transfer entry direction protocol count ending = record {
  key = entry.key;
  direction = direction;
  protocol = protocol;
  bytes = count;
  first = record { items = replicate count 0x41 };
  frames = 2;
  begun = 1;
  newest = 1;
  end = 2;
  ending = ending;
  fault = None;
}

-- modules decide about the device type alone, but not about its length
abbrev read_of_modules : Bool → ℕ → ℕ → List ℕ → Option Mismatch
read_of_modules modular index sub bytes =
    row_mismatch 5 modular (given None None) (row index sub Unsigned32 Ro (number (pos 0xF0191))) true
    (record (transfer (row index sub Unsigned32 Ro absent) Upload Expedited (length bytes) (Done false)) { first = record { items = bytes } })

by_modules : map (λ modular. read_of_modules modular 0x1000 0 (0x92 ∷ 1 ∷ 0xF ∷ 0 ∷ [])) (true ∷ false ∷ []) ≡ None ∷ other_profile 0xF0192 ∷ []
unfolding row_mismatch value_mismatch
by_modules = refl

-- a write-only entry is read: in one frame, in segments, in blocks; of a modular device; another entry, and one that is refused
abbrev served : Bool → Access → Protocol → Ending → Option Mismatch
served modular access protocol ending = row_mismatch 5 modular (given None None) (row 0x2000 3 Unsigned8 access absent) true (transfer (row 0x2000 3 Unsigned8 access absent) Upload protocol 1 ending)

write_only_read : map (λ protocol. served false Wo protocol (Done false)) (Expedited ∷ Segmented ∷ Block ∷ [])
    ≡ Some (ReadServed (key 0x2000 3)) ∷ Some (ReadServed (key 0x2000 3)) ∷ Some (ReadServed (key 0x2000 3)) ∷ []
unfolding row_mismatch value_mismatch
write_only_read = refl

others_read : served true Wo Expedited (Done false) ∷ served false Rw Expedited (Done false) ∷ served false Wo Expedited (Aborted Server (record { 0 = 0x06010001 })) ∷ [] ≡ None ∷ None ∷ None ∷ []
unfolding row_mismatch value_mismatch
others_read = refl

-- of 1010h and 1011h a client reads what can be stored, whatever the sheet says
abbrev served_at : ℕ → Option Mismatch
served_at index = row_mismatch 5 false (given None None) (row index 1 Unsigned32 Wo absent) true (transfer (row index 1 Unsigned32 Wo absent) Upload Expedited 4 (Done false))

stored_read : map served_at (0x100F ∷ 0x1010 ∷ 0x1011 ∷ 0x1012 ∷ []) ≡ Some (ReadServed (key 0x100F 1)) ∷ None ∷ None ∷ Some (ReadServed (key 0x1012 1)) ∷ []
unfolding row_mismatch value_mismatch
stored_read = refl

not_by_modules : read_of_modules true 0x1018 2 (0x92 ∷ 1 ∷ 0xF ∷ 0 ∷ []) ∷ read_of_modules true 0x1000 0 (0x91 ∷ 1 ∷ []) ∷ []
    ≡ Some (ValueConst (key 0x1018 2) 0xF0192 0xF0191) ∷ Some (ValueLength (key 0x1000 0) 2 4) ∷ []
unfolding row_mismatch value_mismatch
not_by_modules = refl

-- a download of so many bytes is done, with this room of strings, and of DOMAINs
abbrev write : Rooms → Row → Protocol → ℕ → Option Mismatch
write rooms entry protocol count = row_mismatch 5 false rooms entry false (transfer entry Download protocol count (Done false))

abbrev free_text : Row
free_text = row 0x2005 0 VisibleString Rw absent

abbrev beyond : ℕ → ℕ → Option Mismatch
beyond count room = Some (BeyondRoom (key 0x2005 0) count room)

-- of 16 bytes
in_segments : map (write (given (Some 16) None) free_text Segmented) (0 ∷ 15 ∷ 16 ∷ 17 ∷ 64 ∷ []) ≡ None ∷ None ∷ None ∷ beyond 17 16 ∷ beyond 64 16 ∷ []
unfolding row_mismatch
in_segments = refl

of_a_block : map (write (given (Some 16) None) free_text Block) (16 ∷ 17 ∷ []) ≡ None ∷ beyond 17 16 ∷ []
unfolding row_mismatch
of_a_block = refl

-- 21 bytes, of which 15 count at least; in blocks all count, and of 22 too
last_of_seven : map (λ room. write (given (Some room) None) free_text Segmented 21) (14 ∷ 15 ∷ []) ≡ beyond 21 14 ∷ None ∷ []
unfolding row_mismatch
last_of_seven = refl

all_count : write (given (Some 20) None) free_text Block 21 ∷ write (given (Some 21) None) free_text Segmented 22 ∷ [] ≡ beyond 21 20 ∷ beyond 22 21 ∷ []
unfolding row_mismatch
all_count = refl

-- In one frame without a size as many bytes count as the type has: HighLimit is 100. Not of more than four;
-- in segments all count.
abbrev put : DataType → Protocol → List ℕ → Option Mismatch
put type protocol bytes =
    row_mismatch 5 false (given None None) (limited 0x2000 type None (Some (pos 100))) false
    (record (transfer free_text Download protocol (length bytes) (Done false)) { key = key 0x2000 0; first = record { items = bytes } })

without_size : map (put Unsigned8 Expedited) ((100 ∷ 0 ∷ 0 ∷ 0 ∷ []) ∷ (101 ∷ 0 ∷ 0 ∷ 0 ∷ []) ∷ (100 ∷ 1 ∷ 1 ∷ 1 ∷ []) ∷ []) ≡ None ∷ Some (AboveLimit (key 0x2000 0)) ∷ None ∷ []
unfolding row_mismatch
without_size = refl

without_size_of_two : put Unsigned16 Expedited (0 ∷ 1 ∷ 0 ∷ 0 ∷ []) ≡ Some (AboveLimit (key 0x2000 0))
unfolding row_mismatch
without_size_of_two = refl

all_four : put Unsigned40 Expedited (0 ∷ 1 ∷ 0 ∷ 0 ∷ []) ∷ put Unsigned8 Segmented (101 ∷ 0 ∷ 0 ∷ 0 ∷ []) ∷ put Unsigned8 Expedited (101 ∷ 0 ∷ 0 ∷ []) ∷ [] ≡ None ∷ None ∷ None ∷ []
unfolding row_mismatch
all_four = refl

-- in one frame: of four bytes none may count
in_a_frame : map (write (given (Some 2) None) free_text Expedited) (2 ∷ 3 ∷ 4 ∷ []) ≡ None ∷ beyond 3 2 ∷ None ∷ []
unfolding row_mismatch
in_a_frame = refl

no_room : map (write (given (Some 0) None) free_text Expedited) (1 ∷ 4 ∷ []) ∷ map (write (given (Some 0) None) free_text Segmented) (0 ∷ 1 ∷ []) ∷ []
    ≡ (beyond 1 0 ∷ None ∷ []) ∷ (None ∷ beyond 1 0 ∷ []) ∷ []
unfolding row_mismatch
no_room = refl

-- a default of 17 bytes, and of 15, as a text and as pairs of digits
abbrev with_text : ℕ → Row
with_text count = record free_text { default = text (replicate count 0x41) }

abbrev with_pairs : ℕ → Row
with_pairs count = row 0x2005 0 OctetString Rw (pairs (replicate count 0x30))

longer_defaults : write (given (Some 16) None) (with_text 17) Segmented 17 ∷ write (given (Some 16) None) (with_text 17) Segmented 18 ∷ write (given (Some 16) None) (with_pairs 34) Segmented 17 ∷ write (given (Some 16) None) (with_pairs 34) Segmented 18 ∷ []
    ≡ None ∷ beyond 18 17 ∷ None ∷ beyond 18 17 ∷ []
unfolding row_mismatch
longer_defaults = refl

shorter_defaults : write (given (Some 16) None) (with_text 15) Segmented 16 ∷ write (given (Some 16) None) (with_text 15) Segmented 17 ∷ write (given (Some 16) None) (with_pairs 30) Segmented 16 ∷ write (given (Some 16) None) (with_pairs 30) Segmented 17 ∷ []
    ≡ None ∷ beyond 17 16 ∷ None ∷ beyond 17 16 ∷ []
unfolding row_mismatch
shorter_defaults = refl

-- strings and DOMAINs have a room each, and numbers none that is given
abbrev of_type : DataType → Rooms → ℕ → Option Mismatch
of_type data_type rooms count = write rooms (row 0x2005 0 data_type Rw absent) Block count

rooms_of_types : of_type Domain (given (Some 1) (Some 889)) 889 ∷ of_type Domain (given (Some 1) (Some 889)) 890 ∷ of_type OctetString (given (Some 16) (Some 1)) 16 ∷ of_type OctetString (given (Some 16) (Some 1)) 17 ∷ of_type Unsigned8 (given (Some 0) (Some 0)) 2 ∷ []
    ≡ None ∷ beyond 890 889 ∷ None ∷ beyond 17 16 ∷ None ∷ []
unfolding row_mismatch
rooms_of_types = refl

not_given : of_type Domain (given (Some 0) None) 890 ∷ of_type VisibleString (given None (Some 0)) 17 ∷ of_type OctetString (given None (Some 0)) 17 ∷ [] ≡ None ∷ None ∷ None ∷ []
unfolding row_mismatch
not_given = refl

-- below 2000h entries have rooms of their own; an entry that is read only isn't written at all
own_rooms : map (λ index. write (given None (Some 889)) (row index 1 Domain Rw absent) Block 890) (0x1F50 ∷ 0x1FFF ∷ 0x2000 ∷ []) ≡ None ∷ None ∷ Some (BeyondRoom (key 0x2000 1) 890 889) ∷ []
unfolding row_mismatch
own_rooms = refl

by_access : map (λ access. write (given (Some 16) None) (record free_text { access = access }) Segmented 17) (Ro ∷ Constant ∷ Wo ∷ []) ≡ Some (Written (key 0x2005 0)) ∷ Some (Written (key 0x2005 0)) ∷ beyond 17 16 ∷ []
unfolding row_mismatch
by_access = refl

-- nothing is said of an upload
uploaded : row_mismatch 5 false (given (Some 16) (Some 16)) free_text false (transfer free_text Upload Segmented 17 (Done false)) ≡ None
unfolding row_mismatch value_mismatch
uploaded = refl

-- what is refused, as too long (06070012h) too, has no difference: a transfer that is aborted doesn't say how many bytes it had
refused_as_too_long : map (λ protocol. row_mismatch 5 false (given (Some 16) None) free_text false (transfer free_text Download protocol 0 (Aborted Server (record { 0 = 0x06070012 })))) (Expedited ∷ Segmented ∷ Block ∷ [])
    ≡ None ∷ None ∷ None ∷ []
unfolding row_mismatch
refused_as_too_long = refl
