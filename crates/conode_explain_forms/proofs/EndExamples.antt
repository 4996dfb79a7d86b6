-- Values of transfers that ended, and which downloads our rules refuse, evaluated on both sides of each edge.
use Rattle.std.proofs.Common.{◌≡◌, ℕ, Bool, true, false, List, [], ◌∷◌, Option, Some, None, map, pos, negsuc, ℤ, refl}
use Rattle.std.specs.Prelude.{codes}
use Rattle.std.specs.Fmt.{digits}
use Rattle.co_text.specs.Printed.{digits_text}
use Rattle.co_value.specs.declared.data_type.DataType.{DataType}
use Rattle.co_value.specs.declared.data_type.DataType.TheVariants.{Boolean, Integer8, Unsigned8, Unsigned16, Unsigned32, Unsigned64, VisibleString, OctetString, Domain}
use Rattle.co_profile.specs.declared.access.Access.{Access}
use Rattle.co_profile.specs.declared.access.Access.TheVariants.{Ro, Wo, Rw, Rwr, Rww, Constant}
use Rattle.co_sheet.specs.Limits.{absent}
use Rattle.co_sheet.specs.Content.{Row}
use Rattle.co_sheet_changes.specs.Names.{Names, entry_of}
use Rattle.conode_text.specs.Filled.{filled}
use Rattle.conode_explain_transfers.specs.declared.ended.Ended.{Ended}
use Rattle.conode_explain_transfers.specs.declared.ended.Ending.{Ending}
use Rattle.conode_explain_transfers.specs.declared.ended.Ending.TheVariants.{Done, Aborted, Unanswered, Repeated, Interrupted, Unfinished, Irregular, SizeDiffers, CrcDiffers}
use Rattle.conode_explain_transfers.specs.declared.kinds.Direction.{Direction}
use Rattle.conode_explain_transfers.specs.declared.kinds.Direction.TheVariants.{Download, Upload}
use Rattle.conode_explain_transfers.specs.declared.kinds.Protocol.{Protocol}
use Rattle.conode_explain_transfers.specs.declared.kinds.Protocol.TheVariants.{Undecided, Expedited, Segmented, Block}
use Rattle.conode_explain_transfers.specs.declared.kinds.Side.TheVariants.{Client, Server}
use Rattle.conode_explain_values.specs.Numbers.{number_text}
use Rattle.conode_explain_values.specs.Values.{value_text}
use Rattle.conode_explain_forms.specs.declared.refusal.Refusal.{Refusal}
use Rattle.conode_explain_forms.specs.declared.refusal.Refusal.TheVariants.{NotInSheet, ReadOnly, OtherLength, AboveHighLimit, BelowLowLimit, NotBoolean}
use Rattle.conode_explain_forms.specs.EndedValues.{end_value, shows_value}
use Rattle.conode_explain_forms.specs.Refusals.{refusal_note, refusal_of, refusal_words, row_refusal}

-- of 2001:01
abbrev ended : Direction → Protocol → Ending → ℕ → List ℕ → Ended
ended direction protocol ending count bytes = record {
  key = record { index = 0x2001; sub = 1 };
  direction = direction;
  protocol = protocol;
  bytes = count;
  first = record { items = bytes };
  frames = 4;
  begun = 0;
  newest = 0;
  end = 0;
  ending = ending;
  fault = None;
}

abbrev row : ℕ → DataType → Access → Option ℤ → Option ℤ → Row
row index t access low high = record {
  key = record { index = index; sub = 1 };
  data_type = t;
  access = access;
  low = low;
  high = high;
  default = absent;
  mappable = false;
  name = None;
  line = 1;
}

-- a sheet for node 5 with this row
abbrev names : Row → Names
names has = record {
  sheet = Some (record { objects = []; rows = has ∷ []; sections = []; notes = []; dummies = []; node_id = None });
  only = Some 5;
  originals = λ line. None;
}

abbrev without_sheet : Names
without_sheet = record { sheet = None; only = None; originals = λ line. None }

-- ---- values

abbrev value : DataType → Ended → List ℕ
value t e = end_value (names (row 0x2001 t Rw None None)) 5 e

a_name : value VisibleString (ended Upload Segmented (Done false) 5 (codes "Motor")) ≡ codes " = \"Motor\","
unfolding end_value entry_of value_text digits_text
a_name = refl

a_number : value Unsigned32 (ended Download Block (Done true) 4 (0xE8 ∷ 3 ∷ 0 ∷ 0 ∷ [])) ≡ codes " = 1000,"
unfolding end_value entry_of value_text number_text digits
a_number = refl

other_bytes : value Unsigned32 (ended Download Segmented (Done false) 2 (0xE8 ∷ 3 ∷ [])) ≡ codes " = E803 (16 of 32 bits),"
unfolding end_value entry_of value_text digits_text digits
other_bytes = refl

no_bytes : value Domain (ended Download Segmented (Done false) 0 []) ≡ codes " = -,"
unfolding end_value entry_of value_text
no_bytes = refl

-- more bytes than are kept; no entry of this node, of this key, no sheet
longer : value VisibleString (ended Upload Segmented (Done false) 65 (codes "Motor")) ≡ []
unfolding end_value
longer = refl

of_another_node : end_value (names (row 0x2001 VisibleString Rw None None)) 6 (ended Upload Block (Done false) 5 (codes "Motor")) ≡ []
unfolding end_value entry_of
of_another_node = refl

of_another_entry : end_value (names (row 0x2002 VisibleString Rw None None)) 5 (ended Upload Block (Done false) 5 (codes "Motor")) ≡ []
unfolding end_value entry_of
of_another_entry = refl

of_no_sheet : end_value without_sheet 5 (ended Upload Block (Done false) 5 (codes "Motor")) ≡ []
unfolding end_value entry_of
of_no_sheet = refl

by_protocol : map (λ protocol. shows_value (ended Upload protocol (Done false) 1 (1 ∷ []))) (Undecided ∷ Expedited ∷ Segmented ∷ Block ∷ []) ≡ false ∷ false ∷ true ∷ true ∷ []
by_protocol = refl

by_ending : map (λ ending. shows_value (ended Upload Block ending 1 (1 ∷ []))) (Done true ∷ Aborted Client (record { 0 = 0 }) ∷ Unanswered ∷ Repeated ∷ Interrupted ∷ Unfinished ∷ Irregular ∷ SizeDiffers 2 ∷ CrcDiffers 1 2 ∷ [])
    ≡ true ∷ false ∷ false ∷ false ∷ false ∷ false ∷ false ∷ false ∷ false ∷ []
by_ending = refl

-- ---- refusals

-- an expedited download that is done, by a row
abbrev refused : Row → List ℕ → Option Refusal
refused has bytes = refusal_of (names has) 5 (ended Download Expedited (Done false) 1 bytes)

by_access : map (λ access. refused (row 0x2001 Unsigned8 access None None) (1 ∷ [])) (Ro ∷ Wo ∷ Rw ∷ Rwr ∷ Rww ∷ Constant ∷ [])
    ≡ Some ReadOnly ∷ None ∷ None ∷ None ∷ None ∷ Some ReadOnly ∷ []
unfolding refusal_of entry_of
by_access = refl

absent_entry : refused (row 0x2002 Unsigned8 Rw None None) (1 ∷ []) ≡ Some NotInSheet
unfolding refusal_of entry_of
absent_entry = refl

-- the parameters of SDO servers
server_parameters : map (λ index. row_refusal (row index Unsigned8 Rw None None) (ended Download Expedited (Done false) 1 (1 ∷ []))) (0x11FF ∷ 0x1200 ∷ 0x127F ∷ 0x1280 ∷ [])
    ≡ None ∷ Some ReadOnly ∷ Some ReadOnly ∷ None ∷ []
server_parameters = refl

-- -2 to 3
limits : map (λ byte. refused (row 0x2001 Integer8 Rw (Some (negsuc 1)) (Some (pos 3))) (byte ∷ [])) (0xFD ∷ 0xFE ∷ 3 ∷ 4 ∷ [])
    ≡ Some BelowLowLimit ∷ None ∷ None ∷ Some AboveHighLimit ∷ []
unfolding refusal_of entry_of
limits = refl

one_limit : map (λ byte. refused (row 0x2001 Unsigned8 Rw None (Some (pos 3))) (byte ∷ [])) (0 ∷ 4 ∷ []) ≡ None ∷ Some AboveHighLimit ∷ []
unfolding refusal_of entry_of
one_limit = refl

-- a BOOLEAN; the number 2 of another type with a byte
booleans : map (λ byte. refused (row 0x2001 Boolean Rw None None) (byte ∷ [])) (0 ∷ 1 ∷ 2 ∷ 255 ∷ []) ≡ None ∷ None ∷ Some NotBoolean ∷ Some NotBoolean ∷ []
unfolding refusal_of entry_of
booleans = refl

no_boolean : map (λ t. refused (row 0x2001 t Rw None None) (2 ∷ [])) (Integer8 ∷ Unsigned8 ∷ []) ≡ None ∷ None ∷ []
unfolding refusal_of entry_of
no_boolean = refl

-- the sheet's limits come before the type's, and the length before both
limits_of_booleans : map (λ high. refused (row 0x2001 Boolean Rw None (Some (pos high))) (2 ∷ [])) (0 ∷ 1 ∷ []) ≡ Some AboveHighLimit ∷ Some AboveHighLimit ∷ []
unfolding refusal_of entry_of
limits_of_booleans = refl

two_bytes_of_a_boolean : refused (row 0x2001 Boolean Rw None None) (2 ∷ 0 ∷ []) ≡ Some OtherLength
unfolding refusal_of entry_of
two_bytes_of_a_boolean = refl

-- the access comes before the length, and that before the limits
first_rule : refused (row 0x2001 Unsigned16 Ro None (Some (pos 0))) (1 ∷ []) ≡ Some ReadOnly
unfolding refusal_of entry_of
first_rule = refl

second_rule : refused (row 0x2001 Unsigned16 Rw None (Some (pos 0))) (1 ∷ []) ≡ Some OtherLength
unfolding refusal_of entry_of
second_rule = refl

-- by the number of bytes, of a protocol
abbrev of_length : Protocol → DataType → List ℕ → ℕ → Option Refusal
of_length protocol t bytes count = row_refusal (row 0x2001 t Rw None (Some (pos 0x0201))) (ended Download protocol (Done false) count bytes)

shorter : of_length Segmented Unsigned32 (1 ∷ 2 ∷ 0 ∷ []) 3 ≡ Some OtherLength
shorter = refl

as_many : of_length Segmented Unsigned32 (1 ∷ 2 ∷ 0 ∷ 0 ∷ []) 4 ≡ None
as_many = refl

four_of_two : of_length Segmented Unsigned16 (1 ∷ 2 ∷ 0 ∷ 0 ∷ []) 4 ≡ Some OtherLength
four_of_two = refl

-- an expedited one of four may not have indicated its size; one of three has
size_not_indicated : map (λ t. of_length Expedited t (1 ∷ 2 ∷ 9 ∷ 9 ∷ []) 4) (Unsigned8 ∷ Unsigned16 ∷ Unsigned32 ∷ Unsigned64 ∷ [])
    ≡ None ∷ None ∷ Some AboveHighLimit ∷ Some OtherLength ∷ []
size_not_indicated = refl

size_indicated : of_length Expedited Unsigned16 (1 ∷ 2 ∷ 0 ∷ []) 3 ≡ Some OtherLength
size_indicated = refl

of_any_length : map (λ t. of_length Block t (1 ∷ []) 1000) (VisibleString ∷ OctetString ∷ Domain ∷ []) ≡ None ∷ None ∷ None ∷ []
of_any_length = refl

-- an upload, one that isn't done, a node without a sheet
not_refused : map (λ e. refusal_of (names (row 0x2001 Unsigned8 Ro None None)) 5 e) (ended Upload Expedited (Done false) 1 (1 ∷ []) ∷ ended Download Expedited Unanswered 0 [] ∷ ended Download Expedited Irregular 1 (1 ∷ []) ∷ [])
    ≡ None ∷ None ∷ None ∷ []
unfolding refusal_of
not_refused = refl

no_sheet : refusal_of without_sheet 5 (ended Download Expedited (Done false) 1 (1 ∷ [])) ≡ None
unfolding refusal_of
no_sheet = refl

sheet_of_another_node : refusal_of (names (row 0x2001 Unsigned8 Ro None None)) 6 (ended Download Expedited (Done false) 1 (1 ∷ [])) ≡ None
unfolding refusal_of
sheet_of_another_node = refl

words : map refusal_words (NotInSheet ∷ ReadOnly ∷ OtherLength ∷ AboveHighLimit ∷ BelowLowLimit ∷ NotBoolean ∷ [])
    ≡ codes "not in the data sheet" ∷ codes "read only" ∷ codes "other length than the type's" ∷ codes "above the high limit" ∷ codes "below the low limit" ∷ codes "a BOOLEAN is 0 or 1" ∷ []
words = refl

noted : refusal_note (names (row 0x2001 Unsigned8 Ro None None)) 5 (ended Download Expedited (Done false) 1 (1 ∷ [])) ≡ codes " (our rules refuse: read only)"
unfolding refusal_of entry_of filled
noted = refl

not_noted : refusal_note (names (row 0x2001 Unsigned8 Rw None None)) 5 (ended Download Expedited (Done false) 1 (1 ∷ [])) ≡ []
unfolding refusal_of entry_of filled
not_noted = refl
