-- Signals, their values and the lines, evaluated on both sides of each edge.
use Rattle.std.proofs.Common.{◌≡◌, ℕ, true, false, List, [], ◌∷◌, Option, Some, None, Ok, Err, map, option_and_then, refl}
use Rattle.std.specs.Prelude.{codes}
use Rattle.std.specs.Fmt.{digits}
use Rattle.std.specs.Str.{is_utf8, chars}
use lib.Utf8.{encode}
use Rattle.co_text.specs.Printed.{digits_text}
use Rattle.conode_text.specs.Unseen.{code_text}
use Rattle.co_value.specs.declared.data_type.DataType.{DataType}
use Rattle.co_value.specs.declared.data_type.DataType.TheVariants.{Boolean, Integer8, Integer16, Unsigned8, Unsigned32, VisibleString}
use Rattle.co_value.specs.declared.key.Key.{Key}
use Rattle.co_value.specs.KeyTexts.{key_in}
use Rattle.co_profile.specs.declared.access.Access.TheVariants.{Rw}
use Rattle.co_sheet.specs.Limits.{absent}
use Rattle.co_sheet.specs.Content.{Row}
use Rattle.co_sheet_changes.specs.Names.{entry_of}
use Rattle.conode_explain_transfers.specs.declared.told.Told.{Told}
use Rattle.conode_explain_transfers.specs.declared.ended.Ended.{Ended}
use Rattle.conode_explain_transfers.specs.declared.ended.Ending.{Ending}
use Rattle.conode_explain_transfers.specs.declared.ended.Ending.TheVariants.{Done, Irregular, Unfinished}
use Rattle.conode_explain_transfers.specs.declared.kinds.Direction.TheVariants.{Download, Upload}
use Rattle.conode_explain_transfers.specs.declared.kinds.Protocol.{Protocol}
use Rattle.conode_explain_transfers.specs.declared.kinds.Protocol.TheVariants.{Expedited, Segmented}
use Rattle.conode_explain_cob_ids.specs.declared.claim.Claim.{Claim}
use Rattle.conode_explain_cob_ids.specs.Buses.{Bus}
use Rattle.conode_explain_pdo.specs.EntryBits.{bits_in_force, entry_bits, place_from}
use Rattle.conode_explain_pdo.specs.InForce.{mapping_in_force, words_in_force}
use Rattle.conode_explain_cob_ids.specs.Known.{KnownSheet, names_for}
use Rattle.conode_explain_pdo.specs.Mappings.{part_bytes}
use Rattle.conode_explain_text.specs.declared.stamps.StampForm.TheVariants.{Relative, Absolute, Delta, Date as AsDate}
use Rattle.conode_explain_text.specs.Dates.{date_in_year, date_of, day_of_year, year_of_cycle}
use Rattle.conode_explain_text.specs.Stamps.{date_text, moment_text, time_of_day_text}
use Rattle.conode_explain_values.specs.declared.value_type.ValueType.TheVariants.{Plain}
use Rattle.conode_explain_values.specs.Numbers.{number_text}
use Rattle.conode_explain_values.specs.Values.{value_text}
use Rattle.conode_explain_forms.specs.declared.signal.Signal.{Signal}
use Rattle.conode_explain_forms.specs.Fields.{entry_field, field_of, pdo_bits, sdo_value, value_field}
use Rattle.conode_explain_forms.specs.Lines.{column, column_name, csv_field, first_missing, first_row, header, quoted_byte, row_of, signal_line}
use Rattle.conode_explain_forms.specs.Stamps.{seconds_text, stamp_field}
use Rattle.conode_explain_forms.specs.Words.{signal_word, signals_in, signals_of, words_in}

abbrev key : ℕ → ℕ → Key
key index sub = record { index = index; sub = sub }

abbrev of_node : ℕ → ℕ → ℕ → Signal
of_node node index sub = record { node = node; key = key index sub }

-- ---- words

one : signals_in (codes "5:2001:01") ≡ Ok (of_node 5 0x2001 1 ∷ [])
unfolding signals_of signal_word words_in key_in
one = refl

two : signals_in (codes "1:abcd:FF,127:0000:00") ≡ Ok (of_node 1 0xABCD 0xFF ∷ of_node 127 0 0 ∷ [])
unfolding signals_of signal_word words_in key_in
two = refl

first_bad : signals_in (codes "5:2001:01,5:2001,x") ≡ Err (codes "5:2001")
unfolding signals_of signal_word words_in key_in
first_bad = refl

nothing_last : signals_in (codes "5:2001:01,") ≡ Err []
unfolding signals_of signal_word words_in key_in
nothing_last = refl

no_signals : map signal_word (codes "0:2001:01" ∷ codes "128:2001:01" ∷ codes "5:201:01" ∷ codes "5:2001:1" ∷ codes "5:2001:001" ∷ codes "2001:01" ∷ codes "5" ∷ codes ":2001:01" ∷ codes "5:2001:01:02" ∷ codes "x:2001:01" ∷ codes "5:200g:01" ∷ codes "5.2001:01" ∷ [])
    ≡ None ∷ None ∷ None ∷ None ∷ None ∷ None ∷ None ∷ None ∷ None ∷ None ∷ None ∷ None ∷ []
unfolding signal_word key_in
no_signals = refl

-- ---- stamps, at 1.000002 s after a frame at 0.5 s and a first one at 0.25 s

stamps : map (λ form. stamp_field form (record { first = 250000; before = 500000; now = 1000002 })) (Relative ∷ Absolute ∷ Delta ∷ AsDate ∷ [])
    ≡ codes "0.750002" ∷ codes "1.000002" ∷ codes "0.500002" ∷ codes "1970-01-01 00:00:01.000002" ∷ []
unfolding seconds_text moment_text date_text time_of_day_text date_of date_in_year day_of_year year_of_cycle digits digits_text
stamps = refl

-- one that steps back, and one that doesn't move
back : map (λ form. stamp_field form (record { first = 1000000; before = 999999; now = 999999 })) (Relative ∷ Delta ∷ []) ≡ codes "-0.000001" ∷ codes "0.000000" ∷ []
unfolding seconds_text digits digits_text
back = refl

-- ---- the text of values

booleans : map (λ byte. value_field (Plain Boolean) 8 (byte ∷ [])) (0 ∷ 1 ∷ 2 ∷ []) ≡ codes "0" ∷ codes "1" ∷ codes "2" ∷ []
unfolding value_text number_text digits
booleans = refl

-- bits that are no whole BOOLEAN
some_bits : map (λ bits. value_field (Plain Boolean) bits (1 ∷ [])) (2 ∷ 4 ∷ 7 ∷ []) ≡ codes "01 (2 of 8 bits)" ∷ codes "01 (4 of 8 bits)" ∷ codes "01 (7 of 8 bits)" ∷ []
unfolding value_text digits digits_text
some_bits = refl

-- a byte of another type
no_boolean : value_field (Plain Integer8) 8 (1 ∷ []) ≡ codes "1"
unfolding value_text number_text digits
no_boolean = refl

one_bit : value_field (Plain Boolean) 1 (1 ∷ []) ≡ codes "1"
unfolding digits
one_bit = refl

long_boolean : value_field (Plain Boolean) 16 (1 ∷ 0 ∷ []) ≡ codes "0100 (16 of 8 bits)"
unfolding value_text digits digits_text
long_boolean = refl

below_zero : value_field (Plain Integer16) 16 (0x18 ∷ 0xFC ∷ []) ≡ codes "-1000"
unfolding value_text number_text digits
below_zero = refl

a_string : value_field (Plain VisibleString) 24 (0x61 ∷ 0x2C ∷ 0x22 ∷ []) ≡ codes "\"a,\\x22\""
unfolding value_text digits_text
a_string = refl

-- ---- of SDO transfers

abbrev ended : Protocol → Ending → ℕ → List ℕ → Ended
ended protocol ending count bytes = record {
  key = key 0x2001 1;
  direction = Upload;
  protocol = protocol;
  bytes = count;
  first = record { items = bytes };
  frames = 2;
  begun = 0;
  newest = 0;
  end = 0;
  ending = ending;
  fault = None;
}

-- of a download
abbrev down : Ended → Ended
down e = record {
  key = e.key;
  direction = Download;
  protocol = e.protocol;
  bytes = e.bytes;
  first = e.first;
  frames = e.frames;
  begun = e.begun;
  newest = e.newest;
  end = e.end;
  ending = e.ending;
  fault = e.fault;
}

abbrev told : ℕ → Option Ended → Option Told
told node e = Some (record { node = node; part = None; left = None; ended = e; unclear = None })

abbrev signal : Signal
signal = of_node 5 0x2001 1

abbrev four : List ℕ
four = 0xE8 ∷ 0x03 ∷ 0 ∷ 0 ∷ []

abbrev done : Ending
done = Done false

-- with a frame that doesn't indicate the size
abbrev answered : Signal → DataType → Option Told → Option (List ℕ)
answered s t of_channel = sdo_value s t (0x42 ∷ []) of_channel

-- as many bytes as the type has; of a string all
expedited : map (λ t. answered signal t (told 5 (Some (ended Expedited done 4 four)))) (Integer16 ∷ Unsigned8 ∷ Unsigned32 ∷ VisibleString ∷ [])
    ≡ Some (0xE8 ∷ 0x03 ∷ []) ∷ Some (0xE8 ∷ []) ∷ Some four ∷ Some four ∷ []
expedited = refl

-- with fewer than the type has
indicated : answered signal Unsigned32 (told 5 (Some (ended Expedited done 2 (1 ∷ 2 ∷ [])))) ≡ Some (1 ∷ 2 ∷ [])
indicated = refl

segmented : answered signal Integer16 (told 5 (Some (ended Segmented done 4 four))) ≡ Some four
segmented = refl

-- another node, another entry, not done, more bytes than are kept, no transfer ended, no SDO channel
other_node : answered signal Integer16 (told 6 (Some (ended Expedited done 4 four))) ≡ None
other_node = refl

other_sub_index : answered (of_node 5 0x2001 2) Integer16 (told 5 (Some (ended Expedited done 4 four))) ≡ None
other_sub_index = refl

not_done : map (λ ending. answered signal Integer16 (told 5 (Some (ended Expedited ending 4 four)))) (Irregular ∷ Unfinished ∷ []) ≡ None ∷ None ∷ []
not_done = refl

too_long : answered signal VisibleString (told 5 (Some (ended Segmented done 65 four))) ≡ None
too_long = refl

not_ended : map (answered signal Integer16) (told 5 None ∷ None ∷ []) ≡ None ∷ None ∷ []
not_ended = refl

-- with one that does: all bytes of an upload; of a download the answer says nothing; of no frame
abbrev with_frame : List ℕ → Ended → Option (List ℕ)
with_frame frame e = sdo_value signal Integer16 frame (told 5 (Some e))

sized : with_frame (0x43 ∷ 0 ∷ []) (ended Expedited done 4 four) ≡ Some four
sized = refl

not_of_an_upload : with_frame (0x43 ∷ 0 ∷ []) (down (ended Expedited done 4 four)) ≡ Some (0xE8 ∷ 0x03 ∷ [])
not_of_an_upload = refl

no_frame : with_frame [] (ended Expedited done 4 four) ≡ Some (0xE8 ∷ 0x03 ∷ [])
no_frame = refl

-- ---- a node with a sheet: 1800h sends 2001:01 with 16 bits after a bit of 2002:00

abbrev row : ℕ → ℕ → DataType → List ℕ → Row
row index sub t name = record {
  key = key index sub;
  data_type = t;
  access = Rw;
  low = None;
  high = None;
  default = absent;
  mappable = true;
  name = Some name;
  line = 1;
}

abbrev sheet : Option ℕ → List ℕ → KnownSheet
sheet only name = record {
  interface = None;
  names = record {
    sheet = Some (record { objects = []; rows = row 0x2001 1 Integer16 name ∷ row 0x2002 0 Boolean (codes "On") ∷ []; sections = []; notes = []; dummies = []; node_id = None });
    only = only;
    originals = λ line. None;
  };
  pdos = record {
    index = 0x1800;
    cob_id = record { word = 0x185; with_node = false };
    mapping = record { count = Some 2; words = 0x20020001 ∷ 0x20010110 ∷ [] };
  } ∷ [];
  services = [];
}

abbrev bus : Bus
bus = record { sheets = sheet (Some 5) (codes "T") ∷ []; entries = []; interface = codes "can0" }

abbrev tpdo : ℕ → Claim
tpdo node = record { node = node; index = 0x1800 }

abbrev seen : List Claim → List ℕ → Signal → Option (List ℕ)
seen claims bytes s = field_of bus claims bytes None s

-- 1 and 1000 in 17 bits: 07D1h
both : map (seen (tpdo 5 ∷ []) (0xD1 ∷ 0x07 ∷ 0 ∷ [])) (signal ∷ of_node 5 0x2002 0 ∷ []) ≡ Some (codes "1000") ∷ Some (codes "1") ∷ []
unfolding field_of entry_field entry_of names_for pdo_bits bits_in_force mapping_in_force words_in_force entry_bits place_from part_bytes value_text number_text digits
both = refl

-- data of two bytes are too short, of the PDO of another node, of no PDO; an entry that the sheet
-- lacks, and another node's
none_there : map (seen (tpdo 5 ∷ []) (0xD1 ∷ 0x07 ∷ [])) (signal ∷ of_node 5 0x2002 0 ∷ []) ≡ None ∷ None ∷ []
unfolding field_of entry_field entry_of names_for pdo_bits bits_in_force mapping_in_force words_in_force entry_bits place_from part_bytes
none_there = refl

elsewhere : map (λ claims. seen claims (0xD1 ∷ 0x07 ∷ 0 ∷ []) signal) ((tpdo 6 ∷ []) ∷ [] ∷ []) ≡ None ∷ None ∷ []
unfolding field_of entry_field entry_of names_for pdo_bits bits_in_force mapping_in_force words_in_force entry_bits place_from part_bytes
elsewhere = refl

of_others : map (seen (tpdo 5 ∷ []) (0xD1 ∷ 0x07 ∷ 0 ∷ [])) (of_node 5 0x2003 0 ∷ of_node 6 0x2001 1 ∷ []) ≡ None ∷ None ∷ []
unfolding field_of entry_field entry_of names_for pdo_bits bits_in_force mapping_in_force words_in_force entry_bits place_from part_bytes
of_others = refl

-- the second PDO of a frame
second : seen (tpdo 6 ∷ tpdo 5 ∷ []) (0xD1 ∷ 0x07 ∷ 0 ∷ []) signal ≡ Some (codes "1000")
unfolding field_of entry_field entry_of names_for pdo_bits bits_in_force mapping_in_force words_in_force entry_bits place_from part_bytes value_text number_text digits
second = refl

-- the answer of an upload
uploaded : field_of bus [] (0x4B ∷ 0x01 ∷ 0x20 ∷ 0x01 ∷ 0x18 ∷ 0xFC ∷ 0 ∷ 0 ∷ []) (told 5 (Some (ended Expedited done 2 (0x18 ∷ 0xFC ∷ [])))) signal ≡ Some (codes "-1000")
unfolding field_of entry_field entry_of names_for value_text number_text digits
uploaded = refl

-- ---- lines

of_two : signal_line Absolute (record { first = 0; before = 0; now = 1500000 }) (seen (tpdo 5 ∷ []) (0xD1 ∷ 0x07 ∷ 0 ∷ [])) (of_node 6 0x2001 1 ∷ signal ∷ [])
    ≡ codes "1.500000,,1000\n"
unfolding signal_line seconds_text field_of entry_field entry_of names_for pdo_bits bits_in_force mapping_in_force words_in_force entry_bits place_from part_bytes value_text number_text digits digits_text
of_two = refl

plain_field : csv_field (codes "node 5 2001:01 T; 1") ≡ codes "node 5 2001:01 T; 1"
plain_field = refl

quoted_fields : map csv_field (codes "a,b" ∷ codes "a\"b" ∷ codes "a\nb" ∷ (0x7F ∷ []) ∷ []) ≡ codes "\"a,b\"" ∷ codes "\"a\"\"b\"" ∷ codes "\"a\\x0Ab\"" ∷ codes "\"\\x7F\"" ∷ []
unfolding quoted_byte digits_text
quoted_fields = refl

-- a control character of two bytes, alone and beside a quote
shown_fields : map csv_field ((0x61 ∷ 0xC2 ∷ 0x9B ∷ 0x62 ∷ []) ∷ (0x22 ∷ 0xC2 ∷ 0x9B ∷ []) ∷ []) ≡ codes "a\\x9Bb" ∷ codes "\"\"\"\\x9B\"" ∷ []
unfolding quoted_byte code_text digits_text
shown_fields = refl

names_of_columns : header (sheet (Some 5) (codes "T, inside") ∷ sheet None (codes "T") ∷ []) (signal ∷ of_node 6 0x2001 1 ∷ [])
    ≡ codes "time,\"node 5 2001:01 T, inside\",node 6 2001:01 T\n"
unfolding header column quoted_byte column_name first_row names_for entry_of digits digits_text is_utf8 chars encode
names_of_columns = refl

missing : first_missing (sheet (Some 5) (codes "T") ∷ []) (signal ∷ of_node 6 0x2001 1 ∷ of_node 5 0x2003 0 ∷ []) ≡ Some (of_node 6 0x2001 1)
unfolding first_row names_for entry_of
missing = refl

none_missing : first_missing (sheet (Some 5) (codes "T") ∷ sheet None (codes "T") ∷ []) (signal ∷ of_node 6 0x2001 1 ∷ []) ≡ None
unfolding first_row names_for entry_of
none_missing = refl

-- ---- which of several sheets counts

-- a sheet that has 2003:00 alone
abbrev lacking : Option (List ℕ) → Option ℕ → KnownSheet
lacking interface only = record {
  interface = interface;
  names = record {
    sheet = Some (record { objects = []; rows = row 0x2003 0 Integer16 (codes "L") ∷ []; sections = []; notes = []; dummies = []; node_id = None });
    only = only;
    originals = λ line. None;
  };
  pdos = [];
  services = [];
}

-- the sheet for an interface
abbrev on : List ℕ → KnownSheet → KnownSheet
on interface known = record known { interface = Some interface }

abbrev name_in : List KnownSheet → Option (List ℕ)
name_in sheets = option_and_then (λ found. found.name) (row_of sheets signal)

-- one that counts before the one that has the entry lacks it: on each interface, on the same one
shadowed : map name_in ((lacking None (Some 5) ∷ sheet None (codes "T") ∷ []) ∷ (lacking (Some (codes "a")) (Some 5) ∷ on (codes "a") (sheet (Some 5) (codes "T")) ∷ []) ∷ []) ≡ None ∷ None ∷ []
unfolding first_row names_for entry_of
shadowed = refl

-- the sheet of one interface is named first; it alone has the entry, in place of one for each or of
-- one for another; it alone lacks it
of_interfaces : map name_in ((on (codes "a") (sheet (Some 5) (codes "A")) ∷ sheet (Some 5) (codes "T") ∷ []) ∷ (on (codes "a") (sheet (Some 5) (codes "A")) ∷ lacking None (Some 5) ∷ []) ∷ (lacking (Some (codes "a")) (Some 5) ∷ on (codes "b") (sheet (Some 5) (codes "B")) ∷ []) ∷ (lacking (Some (codes "a")) (Some 5) ∷ sheet None (codes "T") ∷ []) ∷ [])
    ≡ Some (codes "T") ∷ Some (codes "A") ∷ Some (codes "B") ∷ Some (codes "T") ∷ []
unfolding first_row names_for entry_of
of_interfaces = refl
