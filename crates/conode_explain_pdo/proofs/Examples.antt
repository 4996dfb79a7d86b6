-- The data of PDOs, evaluated on both sides of each edge.
use Rattle.std.proofs.Common.{◌≡◌, ℕ, Bool, true, false, [], ◌∷◌, List, Option, Some, None, refl, pos}
use Rattle.std.specs.Prelude.{codes, map, ◌==◌, if◌then◌else◌}
use Rattle.std.specs.Fmt.{digits}
use Rattle.std.specs.Str.{is_utf8, chars}
use lib.Utf8.{encode}
use Rattle.co_value.specs.declared.data_type.DataType.{DataType}
use Rattle.co_value.specs.declared.data_type.DataType.TheVariants.{Boolean, Integer16, Unsigned8, Unsigned16, Unsigned32, Unsigned64, OctetString}
use Rattle.co_profile.specs.declared.access.Access.TheVariants.{Rw}
use Rattle.co_sheet.specs.Limits.{Default, absent, number, node_id}
use Rattle.co_sheet.specs.Content.{Row}
use Rattle.co_text.specs.Printed.{digits_text}
use Rattle.co_sheet_changes.specs.Names.{Names, entry_of}
use Rattle.conode_explain_values.specs.Numbers.{number_text}
use Rattle.conode_explain_values.specs.Unicode.{characters_text, pair_text, unit_text}
use Rattle.conode_explain_values.specs.Values.{entry_text, value_text}
use Rattle.conode_explain_services.specs.Drives.{drive_words, meaning_at, mode_words, state_words, statusword_words, word_text}
use Rattle.conode_text.specs.Filled.{filled}
use Rattle.co_value.specs.declared.key.Key.{Key}
use Rattle.conode_explain_entries.specs.declared.entries.ShownPdo.{ShownPdo}
use Rattle.conode_explain_entries.specs.declared.state.Value.{Value}
use Rattle.conode_explain_entries.specs.declared.state.Value.TheVariants.{Assumed, Seen, Saved, Unknown}
use Rattle.conode_explain_entries.specs.Histories.{assumed_values}
use Rattle.conode_explain_cob_ids.specs.Buses.{Bus}
use Rattle.conode_explain_cob_ids.specs.Claims.{claims_with, sheet_claim, sheets_claims, shown_claim}
use Rattle.conode_explain_cob_ids.specs.CobIds.{is_of, node_with}
use Rattle.conode_explain_cob_ids.specs.Content.{SheetMapping}
use Rattle.conode_explain_cob_ids.specs.Devices.{Device, is_node_drive}
use Rattle.conode_explain_cob_ids.specs.Known.{KnownSheet, known_sheet, names_for}
use Rattle.conode_explain_cob_ids.specs.Sheets.{mapping_at, number_at, pdo_of, pdos_in, sheet_pdos, words_at}
use Rattle.conode_explain_pdo.specs.declared.entry_bits.EntryBits.{EntryBits}
use Rattle.conode_explain_pdo.specs.CobIdWords.{cob_id_words, has_cob_id}
use Rattle.conode_explain_pdo.specs.EntryBits.{assumed_bits, entry_bits, place_from, shown_bits}
use Rattle.conode_explain_pdo.specs.InForce.{assumed_text, data_in_force, is_count, mapping_in_force, raw_text, shown_text, words_in_force}
use Rattle.conode_explain_pdo.specs.KnownEntries.{known_text}
use Rattle.conode_explain_pdo.specs.Mappings.{addressed_text, addressing_word, all_text, bits_at, data_text, mapped_text, missing_text, more_parts, more_text, multiplexed_data, multiplexed_text, named_text, node_text, part_bytes, part_text, parts_text, short_text, unnamed_text, with_bits}
use Rattle.conode_explain_pdo.specs.Pdos.{more_pdos, pdo_by, pdo_front, pdo_text, pdos_text}

-- ---- the bits at an offset

-- 5 is 101b: bits 0 and 2
first_bit : bits_at (5 ∷ []) 0 1 ≡ 1
first_bit = refl

second_bit : bits_at (5 ∷ []) 1 1 ≡ 0
second_bit = refl

third_bit : bits_at (5 ∷ []) 2 1 ≡ 1
third_bit = refl

-- eight bits of 03E8h from bit 4 on, over the bound of the bytes
over_a_bound : bits_at (0xE8 ∷ 0x03 ∷ []) 4 8 ≡ 0x3E
over_a_bound = refl

last_byte : bits_at (1 ∷ 2 ∷ 3 ∷ 4 ∷ 5 ∷ 6 ∷ 7 ∷ 8 ∷ []) 56 8 ≡ 8
last_byte = refl

all_bits : bits_at (0xFF ∷ 0xFF ∷ 0xFF ∷ 0xFF ∷ 0xFF ∷ 0xFF ∷ 0xFF ∷ 0xFF ∷ []) 0 64 ≡ 18446744073709551615
all_bits = refl

-- ---- a sheet

abbrev row : ℕ → ℕ → DataType → Default → List ℕ → Row
row index sub t begins name = record {
  key = record { index = index; sub = sub };
  data_type = t;
  access = Rw;
  low = None;
  high = None;
  default = begins;
  mappable = true;
  name = Some name;
  line = 1;
}

abbrev names_with : List Row → Names
names_with rows = record {
  sheet = Some (record { objects = []; rows = rows; sections = []; notes = []; dummies = []; node_id = None });
  only = None;
  originals = λ line. None;
}

abbrev names : Names
names = names_with (
    row 0x2001 1 Integer16 absent (codes "T") ∷ row 0x2001 2 Unsigned16 absent (codes "H") ∷ row 0x2002 0 Boolean absent (codes "B") ∷ []
    )

-- of a device whose type the recording doesn't show
abbrev of_sheet : Names → Device
of_sheet its_names = record { names = its_names; shown_type = None }

abbrev data_of : List ℕ → List ℕ → List ℕ
data_of words bytes = mapped_text (of_sheet names) 5 words bytes

two_values : data_of (0x20010110 ∷ 0x20010210 ∷ []) (0xE8 ∷ 0x03 ∷ 0x10 ∷ 0x27 ∷ []) ≡ codes "T 2001:01 = 1000; H 2001:02 = 10000"
unfolding mapped_text parts_text more_parts part_text part_bytes short_text more_text filled entry_of known_text meaning_at entry_text value_text number_text digits digits_text is_utf8 chars encode
two_values = refl

-- of a sheet that was adapted: a letter of a UNICODE_STRING
original : mapped_text (of_sheet (record (names_with (row 0x2003 0 OctetString absent (codes "U") ∷ [])) { originals = λ line. if line == 1 then Some (codes "0x000B") else None })) 5
    (0x20030010 ∷ []) (0x41 ∷ 0x00 ∷ []) ≡ codes "U 2003:00 = \"A\""
unfolding mapped_text parts_text more_parts part_text part_bytes short_text more_text filled entry_of known_text meaning_at entry_text value_text characters_text pair_text unit_text digits digits_text is_utf8 chars encode
original = refl

-- a bit, a gap of seven, and a number over the bounds of bytes
bits_and_gap : data_of (0x20020001 ∷ 0x00050007 ∷ 0x20010108 ∷ []) (0x01 ∷ 0xFF ∷ []) ≡ codes "B 2002:00 = true; -; T 2001:01 = FF (8 of 16 bits)"
unfolding mapped_text parts_text more_parts part_text part_bytes short_text more_text filled entry_of known_text meaning_at entry_text value_text number_text digits digits_text is_utf8 chars encode
bits_and_gap = refl

not_there : data_of (0x23450108 ∷ 0x20020008 ∷ []) (0x01 ∷ 0x00 ∷ []) ≡ codes "2345:01 = 01 (not in sheet); B 2002:00 = false"
unfolding mapped_text parts_text more_parts part_text missing_text with_bits part_bytes short_text more_text filled entry_of known_text meaning_at entry_text value_text number_text digits digits_text is_utf8 chars encode
not_there = refl

-- over the bounds of bytes, in as many as it needs; and no bits
bits_not_there : data_of (0x2345010C ∷ 0x23450204 ∷ 0x23450300 ∷ []) (0xE8 ∷ 0xA3 ∷ []) ≡ codes "2345:01 = E803 (not in sheet); 2345:02 = 0A (not in sheet); 2345:03 (not in sheet)"
unfolding mapped_text parts_text more_parts part_text missing_text with_bits part_bytes short_text more_text filled entry_of digits digits_text
bits_not_there = refl

-- the first index that is no gap, and a gap with a sub-index
no_gaps : data_of (0x00200008 ∷ 0x00050108 ∷ []) (0x01 ∷ 0x00 ∷ []) ≡ codes "0020:00 = 01 (not in sheet); 0005:01 = 00 (not in sheet)"
unfolding mapped_text parts_text more_parts part_text missing_text with_bits part_bytes short_text more_text filled entry_of known_text meaning_at entry_text value_text number_text digits digits_text is_utf8 chars encode
no_gaps = refl

too_short : data_of (0x20010110 ∷ 0x20010220 ∷ []) (1 ∷ 2 ∷ 3 ∷ 4 ∷ []) ≡ codes "4 bytes, mapping has 6"
unfolding mapped_text parts_text more_parts part_text part_bytes short_text more_text filled entry_of known_text meaning_at entry_text value_text number_text digits digits_text is_utf8 chars encode
too_short = refl

one_byte : data_of (0x20010110 ∷ []) (1 ∷ []) ≡ codes "1 byte, mapping has 2"
unfolding mapped_text parts_text more_parts part_text part_bytes short_text more_text filled entry_of known_text meaning_at entry_text value_text number_text digits digits_text is_utf8 chars encode
one_byte = refl

-- nine bits need two bytes
nine_bits : data_of (0x20020009 ∷ []) (1 ∷ []) ≡ codes "1 byte, mapping has 2"
unfolding mapped_text parts_text more_parts part_text part_bytes short_text more_text filled entry_of known_text meaning_at entry_text value_text number_text digits digits_text is_utf8 chars encode
nine_bits = refl

more_bytes : data_of (0x20020008 ∷ []) (1 ∷ 2 ∷ 3 ∷ []) ≡ codes "B 2002:00 = true; +2 bytes"
unfolding mapped_text parts_text more_parts part_text part_bytes short_text more_text filled entry_of known_text meaning_at entry_text value_text number_text digits digits_text is_utf8 chars encode
more_bytes = refl

one_more : data_of (0x20020008 ∷ []) (1 ∷ 2 ∷ []) ≡ codes "B 2002:00 = true; +1 byte"
unfolding mapped_text parts_text more_parts part_text part_bytes short_text more_text filled entry_of known_text meaning_at entry_text value_text number_text digits digits_text is_utf8 chars encode
one_more = refl

-- ---- the entries of a drive

-- a statusword, and a mode of operation, of a device of this type
abbrev drive : ℕ → List ℕ → List ℕ → List ℕ
drive device_type words bytes =
    mapped_text (of_sheet (names_with (
    row 0x1000 0 Unsigned32 (number (pos device_type)) (codes "D") ∷ row 0x6041 0 Unsigned16 absent (codes "S") ∷ row 0x6061 0 Unsigned8 absent (codes "M") ∷ []
    ))) 5 words bytes

in_words : drive 0x00020192 (0x60410010 ∷ 0x60610008 ∷ []) (0x37 ∷ 0x04 ∷ 0x08 ∷ []) ≡ codes "S 6041:00 = 1079 (0437, operation enabled, target reached); M 6061:00 = 8 (cyclic synchronous position)"
unfolding mapped_text parts_text more_parts part_text part_bytes short_text more_text filled entry_of known_text is_node_drive drive_words meaning_at word_text statusword_words state_words mode_words entry_text value_text number_text digits digits_text is_utf8 chars encode
in_words = refl

-- of another device profile
other_device : drive 0x00020191 (0x60410010 ∷ []) (0x37 ∷ 0x04 ∷ []) ≡ codes "S 6041:00 = 1079"
unfolding mapped_text parts_text more_parts part_text part_bytes short_text more_text filled entry_of known_text meaning_at is_node_drive entry_text value_text number_text digits digits_text is_utf8 chars encode
other_device = refl

-- a part of the value, though it has as many bytes
part_of_it : drive 0x00020192 (0x6041000C ∷ []) (0x37 ∷ 0x04 ∷ []) ≡ codes "S 6041:00 = 3704 (12 of 16 bits)"
unfolding mapped_text parts_text more_parts part_text part_bytes short_text more_text filled entry_of known_text meaning_at is_node_drive entry_text value_text number_text digits digits_text is_utf8 chars encode
part_of_it = refl

-- without a device type
no_type : mapped_text (of_sheet (names_with (row 0x6041 0 Unsigned16 absent (codes "S") ∷ []))) 5 (0x60410010 ∷ []) (0x37 ∷ 0x04 ∷ []) ≡ codes "S 6041:00 = 1079"
unfolding mapped_text parts_text more_parts part_text part_bytes short_text more_text filled entry_of known_text meaning_at is_node_drive entry_text value_text number_text digits digits_text is_utf8 chars encode
no_type = refl

-- of a device type that the recording shows, in place of the sheet's
abbrev with_type : Option ℕ → ℕ → List ℕ
with_type shown_type device_type =
    mapped_text (record {
      names = names_with (row 0x1000 0 Unsigned32 (number (pos device_type)) (codes "D") ∷ row 0x6041 0 Unsigned16 absent (codes "S") ∷ []);
      shown_type = shown_type;
    }) 5 (0x60410010 ∷ []) (0x37 ∷ 0x04 ∷ [])

shown_drive : with_type (Some 0x00020192) 0x00020191 ≡ codes "S 6041:00 = 1079 (0437, operation enabled, target reached)"
unfolding mapped_text parts_text more_parts part_text part_bytes short_text more_text filled entry_of known_text is_node_drive drive_words meaning_at word_text statusword_words state_words entry_text value_text number_text digits digits_text is_utf8 chars encode
shown_drive = refl

shown_other : with_type (Some 0x00020191) 0x00020192 ≡ codes "S 6041:00 = 1079"
unfolding mapped_text parts_text more_parts part_text part_bytes short_text more_text filled entry_of known_text meaning_at is_node_drive entry_text value_text number_text digits digits_text is_utf8 chars encode
shown_other = refl

-- ---- COB-IDs

abbrev cob_id_at : ℕ → ℕ → ℕ → ℕ → List ℕ
cob_id_at index sub low high = cob_id_words (record { index = index; sub = sub }) 32 (low ∷ 0x01 ∷ 0 ∷ high ∷ [])

valid : cob_id_at 0x1800 1 0x85 0x40 ≡ codes " (40000185)"
unfolding digits_text
valid = refl

disabled_words_of : map (λ index. cob_id_at index 0 0x85 0x80) (0x1005 ∷ 0x1012 ∷ 0x1014 ∷ []) ≡ codes " (80000185)" ∷ codes " (80000185)" ∷ codes " (80000185, disabled)" ∷ []
unfolding digits_text
disabled_words_of = refl

-- which entries are COB-IDs, and which sub-indices beside
are_cob_ids : map {A = Key} (λ key. has_cob_id key) (record { index = 0x1400; sub = 1 } ∷ record { index = 0x15FF; sub = 1 } ∷ record { index = 0x19FF; sub = 1 } ∷ record { index = 0x1200; sub = 1 } ∷ record { index = 0x12FF; sub = 2 } ∷ [])
    ≡ true ∷ true ∷ true ∷ true ∷ true ∷ []
are_cob_ids = refl

are_none : map {A = Key} (λ key. has_cob_id key) (record { index = 0x1400; sub = 2 } ∷ record { index = 0x1600; sub = 1 } ∷ record { index = 0x1200; sub = 3 } ∷ record { index = 0x1300; sub = 1 } ∷ record { index = 0x1014; sub = 1 } ∷ record { index = 0x11FF; sub = 1 } ∷ [])
    ≡ false ∷ false ∷ false ∷ false ∷ false ∷ false ∷ []
are_none = refl

-- a part of one has no words
part_of_a_cob_id : cob_id_words (record { index = 0x1014; sub = 0 }) 31 (0x85 ∷ 0 ∷ 0 ∷ 0 ∷ []) ≡ []
part_of_a_cob_id = refl

-- ---- counts

-- of can0, by these sheets and by what was shown of PDOs
abbrev bus_with : List KnownSheet → List ShownPdo → Bus
bus_with sheets entries = record { sheets = sheets; entries = entries; interface = codes "can0" }

-- a sheet for each interface
abbrev sheet_of : Names → KnownSheet
sheet_of names = known_sheet None names

abbrev counted : ℕ → List ℕ → List ℕ
counted count bytes = data_text (bus_with (sheet_of names ∷ []) []) 5 (record { count = count; words = 0x20020008 ∷ 0x20020008 ∷ [] }) bytes

nothing_mapped : counted 0 (1 ∷ []) ≡ []
unfolding data_text
nothing_mapped = refl

one_mapped : counted 1 (1 ∷ []) ≡ codes ": B 2002:00 = true"
unfolding data_text names_for mapped_text parts_text more_parts part_text part_bytes short_text more_text filled entry_of known_text meaning_at entry_text value_text number_text digits digits_text is_utf8 chars encode
one_mapped = refl

above_64 : counted 65 (1 ∷ []) ≡ []
unfolding data_text
above_64 = refl

below_multiplexed : counted 0xFD (1 ∷ []) ≡ []
unfolding data_text
below_multiplexed = refl

-- ---- multiplexed PDOs: of the four bytes an UNSIGNED16 has two

abbrev of_1000 : ℕ → ℕ → List ℕ
of_1000 address sub = address ∷ 0x01 ∷ 0x20 ∷ sub ∷ 0xE8 ∷ 0x03 ∷ 0 ∷ 0 ∷ []

destination : counted 0xFE (of_1000 0x85 2) ≡ codes ": destination node 5: H 2001:02 = 1000"
unfolding data_text multiplexed_data multiplexed_text named_text node_text names_for entry_of known_text meaning_at entry_text value_text number_text filled addressing_word digits digits_text is_utf8 chars encode
destination = refl

source : counted 0xFF (of_1000 0x7F 2) ≡ codes ": source node 127: H 2001:02 = 1000"
unfolding data_text multiplexed_data multiplexed_text named_text node_text names_for entry_of known_text meaning_at entry_text value_text number_text filled addressing_word digits digits_text is_utf8 chars encode
source = refl

to_first : counted 0xFF (of_1000 0x81 2) ≡ codes ": destination node 1: H 2001:02 = 1000"
unfolding data_text multiplexed_data multiplexed_text named_text node_text names_for entry_of known_text meaning_at entry_text value_text number_text filled addressing_word digits digits_text is_utf8 chars encode
to_first = refl

-- the destination 0 is all nodes, a source 0 is none
to_all : counted 0xFF (of_1000 0x80 2) ≡ codes ": destination all nodes 2001:02 E8030000"
unfolding data_text multiplexed_data multiplexed_text unnamed_text addressed_text all_text names_for entry_of filled addressing_word digits digits_text
to_all = refl

of_none : counted 0xFE (of_1000 0x00 2) ≡ codes ": source node 0 2001:02 E8030000"
unfolding data_text multiplexed_data multiplexed_text unnamed_text addressed_text all_text names_for entry_of filled addressing_word digits digits_text
of_none = refl

-- an entry that the sheet lacks
lacking : counted 0xFF (of_1000 0x85 3) ≡ codes ": destination node 5 2001:03 E8030000"
unfolding data_text multiplexed_data multiplexed_text unnamed_text addressed_text all_text names_for entry_of filled addressing_word digits digits_text
lacking = refl

short_multiplexed : counted 0xFF (0x85 ∷ 0x01 ∷ []) ≡ codes ": 2 bytes, mapping has 8"
unfolding data_text multiplexed_data short_text filled digits
short_multiplexed = refl

-- by the sheet of the destination alone, or of the source
abbrev of_six : List ℕ → List ℕ
of_six bytes = multiplexed_data (bus_with (sheet_of (record names { only = Some 6 }) ∷ []) []) bytes

its_sheet : of_six (of_1000 0x86 2) ≡ codes "destination node 6: H 2001:02 = 1000"
unfolding data_text multiplexed_data multiplexed_text named_text node_text names_for entry_of known_text meaning_at entry_text value_text number_text filled addressing_word digits digits_text is_utf8 chars encode
its_sheet = refl

other_sheet : of_six (of_1000 0x85 2) ≡ codes "destination node 5 2001:02 E8030000"
unfolding data_text multiplexed_data multiplexed_text unnamed_text addressed_text all_text names_for entry_of filled addressing_word digits digits_text
other_sheet = refl

-- one byte of the four, and four of eight
abbrev of_type : DataType → List ℕ
of_type t = multiplexed_data (bus_with (sheet_of (names_with (row 0x2001 2 t absent (codes "H") ∷ [])) ∷ []) []) (of_1000 0x85 2)

of_a_byte : of_type Unsigned8 ≡ codes "destination node 5: H 2001:02 = 232"
unfolding data_text multiplexed_data multiplexed_text named_text node_text names_for entry_of known_text meaning_at entry_text value_text number_text filled addressing_word digits digits_text is_utf8 chars encode
of_a_byte = refl

of_all_bytes : of_type Unsigned32 ≡ codes "destination node 5: H 2001:02 = 1000"
unfolding data_text multiplexed_data multiplexed_text named_text node_text names_for entry_of known_text meaning_at entry_text value_text number_text filled addressing_word digits digits_text is_utf8 chars encode
of_all_bytes = refl

of_more_bytes : of_type Unsigned64 ≡ codes "destination node 5: H 2001:02 = E8030000 (32 of 64 bits)"
unfolding data_text multiplexed_data multiplexed_text named_text node_text names_for entry_of known_text meaning_at entry_text value_text number_text filled addressing_word digits digits_text is_utf8 chars encode
of_more_bytes = refl

without_width : of_type OctetString ≡ codes "destination node 5: H 2001:02 = E8030000"
unfolding data_text multiplexed_data multiplexed_text named_text node_text names_for entry_of known_text meaning_at entry_text value_text number_text filled addressing_word digits digits_text is_utf8 chars encode
without_width = refl

-- ---- the PDOs of a sheet

abbrev rows_of_tpdo : List Row
rows_of_tpdo =
    row 0x1800 1 Unsigned32 (node_id 0x180) [] ∷ row 0x1A00 0 Unsigned8 (number (pos 1)) [] ∷ row 0x1A00 1 Unsigned32 (number (pos 0x20020008)) []
    ∷ row 0x2001 1 Integer16 absent (codes "T") ∷ row 0x2002 0 Boolean absent (codes "B") ∷ []

abbrev rows_of_pdos : List Row
rows_of_pdos =
    row 0x1400 1 Unsigned32 (number (pos 0x185)) [] ∷ row 0x1600 0 Unsigned8 (number (pos 0)) []
    ∷ row 0x1800 1 Unsigned32 (node_id 0x180) [] ∷ row 0x1A00 0 Unsigned8 (number (pos 1)) [] ∷ row 0x1A00 1 Unsigned32 (number (pos 0x20020008)) []
    ∷ row 0x2002 0 Boolean absent (codes "B") ∷ []

abbrev said_by : List KnownSheet → List ShownPdo → ℕ → List ℕ → List ℕ
said_by sheets entries id bytes = pdos_text (bus_with sheets entries) bytes (claims_with (bus_with sheets entries) id)

-- what a frame with these bytes says by one sheet
abbrev said_with : Names → List ShownPdo → ℕ → List ℕ → List ℕ
said_with names entries id bytes = said_by (sheet_of names ∷ []) entries id bytes

-- what a frame with one byte says by the sheet alone
abbrev said : ℕ → List ℕ
said id = said_with (names_with rows_of_pdos) [] id (1 ∷ [])

-- the PDO that a node sends. The low bits of its identifier don't name the node that receives it
sent_alone : said 0x185 ≡ codes "TPDO1 node 5: B 2002:00 = true"
unfolding claims_with sheets_claims sheet_claim shown_claim names_for pdos_text more_pdos pdo_text pdo_by pdo_front data_in_force shown_text raw_text mapping_in_force words_in_force node_with is_of sheet_pdos pdos_in pdo_of mapping_at words_at number_at data_text mapped_text parts_text more_parts part_text part_bytes short_text more_text filled entry_of known_text meaning_at entry_text value_text number_text digits digits_text is_utf8 chars encode
sent_alone = refl

-- of a sheet for one node the PDO that it sends, and after it the one that it receives
two_pdos : said_with (record (names_with rows_of_pdos) { only = Some 5 }) [] 0x185 (1 ∷ []) ≡ codes "TPDO1 node 5: B 2002:00 = true | RPDO1 node 5"
unfolding claims_with sheets_claims sheet_claim shown_claim names_for pdos_text more_pdos pdo_text pdo_by pdo_front data_in_force shown_text raw_text mapping_in_force words_in_force node_with is_of sheet_pdos pdos_in pdo_of mapping_at words_at number_at data_text mapped_text parts_text more_parts part_text part_bytes short_text more_text filled entry_of known_text meaning_at entry_text value_text number_text digits digits_text is_utf8 chars encode
two_pdos = refl

-- an RPDO with such a number, and with one beside them, in a sheet for every node; and with the node-ID added
abbrev received : Default → ℕ → List ℕ
received cob_id id = said_with (names_with (row 0x1400 1 Unsigned32 cob_id [] ∷ row 0x1600 0 Unsigned8 (number (pos 0)) [] ∷ [])) [] id (1 ∷ [])

fixed_receivers : received (number (pos 0x205)) 0x205 ∷ received (number (pos 0x285)) 0x285 ∷ received (node_id 0x280) 0x285 ∷ []
    ≡ codes "RPDO1 node 5" ∷ [] ∷ codes "RPDO1 node 5" ∷ []
unfolding claims_with sheets_claims sheet_claim shown_claim names_for pdos_text more_pdos pdo_text pdo_by pdo_front data_in_force shown_text raw_text mapping_in_force words_in_force node_with is_of sheet_pdos pdos_in pdo_of mapping_at words_at number_at data_text mapped_text parts_text more_parts part_text part_bytes short_text more_text filled entry_of known_text meaning_at entry_text value_text number_text digits digits_text is_utf8 chars encode
fixed_receivers = refl

one_pdo : said 0x186 ≡ codes "TPDO1 node 6: B 2002:00 = true"
unfolding claims_with sheets_claims sheet_claim shown_claim names_for pdos_text more_pdos pdo_text pdo_by pdo_front data_in_force shown_text raw_text mapping_in_force words_in_force node_with is_of sheet_pdos pdos_in pdo_of mapping_at words_at number_at data_text mapped_text parts_text more_parts part_text part_bytes short_text more_text filled entry_of known_text meaning_at entry_text value_text number_text digits digits_text is_utf8 chars encode
one_pdo = refl

no_pdo : said 0x205 ≡ []
unfolding claims_with sheets_claims sheet_claim shown_claim pdos_text node_with is_of sheet_pdos pdos_in pdo_of mapping_at words_at number_at
no_pdo = refl

-- ---- a mapping that the sheet has only in part

-- a mapping of two words, and data of two bytes
abbrev mapped_by : Default → Default → Default → List ℕ
mapped_by count first second =
    said_with (names_with (
    row 0x1800 1 Unsigned32 (node_id 0x180) [] ∷ row 0x1A00 0 Unsigned8 count [] ∷ row 0x1A00 1 Unsigned32 first [] ∷ row 0x1A00 2 Unsigned32 second []
    ∷ row 0x2001 1 Integer16 absent (codes "T") ∷ []
    )) [] 0x185 (0xE8 ∷ 0x03 ∷ [])

abbrev is_unknown : List ℕ
is_unknown = codes "TPDO1 node 5: E803 (mapping is unknown)"

-- a word above the count doesn't matter
one_of_two : mapped_by (number (pos 1)) (number (pos 0x20010110)) absent ≡ codes "TPDO1 node 5: T 2001:01 = 1000"
unfolding claims_with sheets_claims sheet_claim shown_claim names_for pdos_text more_pdos pdo_text pdo_by pdo_front data_in_force shown_text raw_text mapping_in_force words_in_force node_with is_of sheet_pdos pdos_in pdo_of mapping_at words_at number_at data_text mapped_text parts_text more_parts part_text part_bytes short_text more_text filled entry_of known_text meaning_at entry_text value_text number_text digits digits_text is_utf8 chars encode
one_of_two = refl

-- no value is shown where the place of its bits isn't known
words_missing : mapped_by (number (pos 2)) absent (number (pos 0x20010110)) ∷ mapped_by (number (pos 2)) (number (pos 0x20010110)) absent
    ∷ mapped_by (number (pos 2)) (number (pos 0)) (number (pos 0x20010110)) ∷ mapped_by (number (pos 3)) (number (pos 0x20010108)) (number (pos 0x20010108)) ∷ []
    ≡ is_unknown ∷ is_unknown ∷ is_unknown ∷ is_unknown ∷ []
unfolding claims_with sheets_claims sheet_claim shown_claim names_for pdos_text more_pdos pdo_text pdo_by pdo_front data_in_force shown_text raw_text mapping_in_force words_in_force node_with is_of sheet_pdos pdos_in pdo_of mapping_at words_at number_at data_text mapped_text parts_text more_parts part_text part_bytes short_text more_text filled entry_of known_text meaning_at entry_text value_text number_text digits digits_text is_utf8 chars encode
words_missing = refl

-- nothing is mapped where the count is 0, and not where there is none
counts_missing : mapped_by (number (pos 0)) absent absent ∷ mapped_by absent (number (pos 0x20010110)) absent
    ∷ mapped_by (node_id 1) (number (pos 0x20010110)) absent ∷ []
    ≡ codes "TPDO1 node 5" ∷ is_unknown ∷ is_unknown ∷ []
unfolding claims_with sheets_claims sheet_claim shown_claim names_for pdos_text more_pdos pdo_text pdo_by pdo_front data_in_force shown_text raw_text mapping_in_force words_in_force node_with is_of sheet_pdos pdos_in pdo_of mapping_at words_at number_at data_text mapped_text parts_text more_parts part_text part_bytes short_text more_text filled entry_of known_text meaning_at entry_text value_text number_text digits digits_text is_utf8 chars encode
counts_missing = refl

no_mapping : said_with (names_with (row 0x1800 1 Unsigned32 (node_id 0x180) [] ∷ [])) [] 0x185 (0xE8 ∷ 0x03 ∷ []) ≡ is_unknown
unfolding claims_with sheets_claims sheet_claim shown_claim names_for pdos_text more_pdos pdo_text pdo_by pdo_front data_in_force shown_text raw_text mapping_in_force words_in_force node_with is_of sheet_pdos pdos_in pdo_of mapping_at words_at number_at data_text mapped_text parts_text more_parts part_text part_bytes short_text more_text filled entry_of known_text meaning_at entry_text value_text number_text digits digits_text is_utf8 chars encode
no_mapping = refl

-- ---- what the recording shows

-- of a PDO of node 5 on can0: its COB-ID, the first sub-indices of its mapping, and whether that is being changed
abbrev shown : ℕ → Value → List Value → Bool → ShownPdo
shown index cob_id mapping changes = record {
  index = index;
  node = 5;
  interface = record { items = codes "can0" };
  state = record { now = record { cob_id = cob_id; mapping = mapping }; stored = assumed_values; is_being_changed = changes };
}

-- ---- a mapping is changed: what the PDO with these data says after each acknowledge

abbrev after_these : List ShownPdo → List ℕ
after_these pdos = said_with (names_with rows_of_tpdo) pdos 0x185 (0x01 ∷ 0x03 ∷ [])

-- it is enabled, or nothing was shown of its COB-ID
abbrev enabled : List Value → Bool → List ℕ
enabled mapping changes = after_these (shown 0x1800 (Seen 0x185) mapping changes ∷ [])

abbrev as_it_was : List Value → List ℕ
as_it_was mapping = after_these (shown 0x1800 Assumed mapping false ∷ [])

at_first : after_these [] ≡ codes "TPDO1 node 5: B 2002:00 = true; +1 byte"
unfolding claims_with sheets_claims sheet_claim shown_claim names_for pdos_text more_pdos pdo_text pdo_by pdo_front data_in_force shown_text raw_text mapping_in_force words_in_force node_with is_of sheet_pdos pdos_in pdo_of mapping_at words_at number_at data_text mapped_text parts_text more_parts part_text part_bytes short_text more_text filled entry_of known_text meaning_at entry_text value_text number_text digits digits_text is_utf8 chars encode
at_first = refl

cob_id_alone : enabled (Assumed ∷ Assumed ∷ []) false ≡ codes "TPDO1 node 5: B 2002:00 = true; +1 byte"
unfolding claims_with sheets_claims sheet_claim shown_claim names_for pdos_text more_pdos pdo_text pdo_by pdo_front data_in_force shown_text raw_text mapping_in_force words_in_force node_with is_of sheet_pdos pdos_in pdo_of mapping_at words_at number_at data_text mapped_text parts_text more_parts part_text part_bytes short_text more_text filled entry_of known_text meaning_at entry_text value_text number_text digits digits_text is_utf8 chars encode
cob_id_alone = refl

no_count : enabled (Seen 0 ∷ Assumed ∷ []) true ≡ codes "TPDO1 node 5: 0103 (mapping is being changed)"
unfolding claims_with sheets_claims sheet_claim shown_claim names_for pdos_text more_pdos pdo_text pdo_by pdo_front data_in_force shown_text raw_text filled node_with is_of sheet_pdos pdos_in pdo_of mapping_at words_at number_at digits digits_text
no_count = refl

no_count_and_word : enabled (Seen 0 ∷ Seen 0x20010110 ∷ []) true
    ≡ codes "TPDO1 node 5: 0103 (mapping is being changed)"
unfolding claims_with sheets_claims sheet_claim shown_claim names_for pdos_text more_pdos pdo_text pdo_by pdo_front data_in_force shown_text raw_text filled node_with is_of sheet_pdos pdos_in pdo_of mapping_at words_at number_at digits digits_text
no_count_and_word = refl

mapped_anew : enabled (Seen 1 ∷ Seen 0x20010110 ∷ Assumed ∷ []) false
    ≡ codes "TPDO1 node 5 (mapping seen): T 2001:01 = 769"
unfolding claims_with sheets_claims sheet_claim shown_claim names_for pdos_text more_pdos pdo_text pdo_by pdo_front data_in_force shown_text raw_text mapping_in_force words_in_force node_with is_of sheet_pdos pdos_in pdo_of mapping_at words_at number_at data_text mapped_text parts_text more_parts part_text part_bytes short_text more_text filled entry_of known_text meaning_at entry_text value_text number_text digits digits_text is_utf8 chars encode
mapped_anew = refl

-- a word above the count doesn't matter
above_count : as_it_was (Seen 1 ∷ Seen 0x20010110 ∷ Unknown ∷ [])
    ≡ codes "TPDO1 node 5 (mapping seen): T 2001:01 = 769"
unfolding claims_with sheets_claims sheet_claim shown_claim names_for pdos_text more_pdos pdo_text pdo_by pdo_front data_in_force shown_text raw_text mapping_in_force words_in_force node_with is_of sheet_pdos pdos_in pdo_of mapping_at words_at number_at data_text mapped_text parts_text more_parts part_text part_bytes short_text more_text filled entry_of known_text meaning_at entry_text value_text number_text digits digits_text is_utf8 chars encode
above_count = refl

saved_mapping : as_it_was (Saved 1 ∷ Saved 0x20010110 ∷ [])
    ≡ codes "TPDO1 node 5 (mapping saved): T 2001:01 = 769"
unfolding claims_with sheets_claims sheet_claim shown_claim names_for pdos_text more_pdos pdo_text pdo_by pdo_front data_in_force shown_text raw_text mapping_in_force words_in_force node_with is_of sheet_pdos pdos_in pdo_of mapping_at words_at number_at data_text mapped_text parts_text more_parts part_text part_bytes short_text more_text filled entry_of known_text meaning_at entry_text value_text number_text digits digits_text is_utf8 chars encode
saved_mapping = refl

-- the count alone was shown: the word is the sheet's
count_shown : as_it_was (Seen 1 ∷ Assumed ∷ [])
    ≡ codes "TPDO1 node 5 (mapping partly seen): B 2002:00 = true; +1 byte"
unfolding claims_with sheets_claims sheet_claim shown_claim names_for pdos_text more_pdos pdo_text pdo_by pdo_front data_in_force shown_text raw_text mapping_in_force words_in_force node_with is_of sheet_pdos pdos_in pdo_of mapping_at words_at number_at data_text mapped_text parts_text more_parts part_text part_bytes short_text more_text filled entry_of known_text meaning_at entry_text value_text number_text digits digits_text is_utf8 chars encode
count_shown = refl

-- of the second word neither the sheet nor the recording has anything
word_unknown : as_it_was (Seen 2 ∷ Assumed ∷ Assumed ∷ []) ≡ codes "TPDO1 node 5: 0103 (mapping is unknown)"
unfolding claims_with sheets_claims sheet_claim shown_claim names_for pdos_text more_pdos pdo_text pdo_by pdo_front data_in_force shown_text raw_text filled mapping_in_force words_in_force node_with is_of sheet_pdos pdos_in pdo_of mapping_at words_at number_at digits digits_text
word_unknown = refl

word_missing : as_it_was (Assumed ∷ Unknown ∷ []) ≡ codes "TPDO1 node 5: 0103 (mapping is unknown)"
unfolding claims_with sheets_claims sheet_claim shown_claim names_for pdos_text more_pdos pdo_text pdo_by pdo_front data_in_force shown_text raw_text filled mapping_in_force words_in_force node_with is_of sheet_pdos pdos_in pdo_of mapping_at words_at number_at digits digits_text
word_missing = refl

-- a sheet that isn't there, or is for another node: what the recording shows is all that is known
no_sheet : said_with (record { sheet = None; only = None; originals = λ line. None })
    (shown 0x1801 (Seen 0x285) (Seen 1 ∷ Seen 0x20010110 ∷ []) false ∷ []) 0x285 (0xE8 ∷ 0x03 ∷ [])
    ≡ codes "TPDO2 node 5 (mapping seen): 2001:01 = E803"
unfolding claims_with sheets_claims sheet_claim shown_claim names_for pdos_text more_pdos pdo_text pdo_by pdo_front data_in_force shown_text raw_text mapping_in_force words_in_force sheet_pdos data_text mapped_text parts_text more_parts part_text missing_text with_bits part_bytes short_text more_text filled entry_of known_text meaning_at entry_text value_text number_text digits digits_text is_utf8 chars encode
no_sheet = refl

no_data : said_with (record { sheet = None; only = None; originals = λ line. None }) (shown 0x1401 (Seen 0x305) [] false ∷ []) 0x305 []
    ≡ codes "RPDO2 node 5: (mapping is unknown)"
unfolding claims_with sheets_claims sheet_claim shown_claim names_for pdos_text more_pdos pdo_text pdo_by pdo_front data_in_force shown_text raw_text filled mapping_in_force words_in_force sheet_pdos digits
no_data = refl

-- the PDO that a node sends, before those that receive it
sent_first : said_with (record { sheet = None; only = None; originals = λ line. None })
    (shown 0x1401 (Seen 0x285) [] false ∷ shown 0x1801 (Seen 0x285) [] false ∷ []) 0x285 (1 ∷ [])
    ≡ codes "TPDO2 node 5: 01 (mapping is unknown) | RPDO2 node 5: 01 (mapping is unknown)"
unfolding claims_with sheets_claims sheet_claim shown_claim names_for pdos_text more_pdos pdo_text pdo_by pdo_front data_in_force shown_text raw_text filled mapping_in_force words_in_force sheet_pdos digits digits_text
sent_first = refl

-- FEh and FFh map no words
multiplexed : said_with (record { sheet = None; only = None; originals = λ line. None })
    (shown 0x1800 (Seen 0x185) (Seen 0xFF ∷ Assumed ∷ []) false ∷ []) 0x185 (0x85 ∷ 0x01 ∷ [])
    ≡ codes "TPDO1 node 5 (mapping seen): 2 bytes, mapping has 8"
unfolding claims_with sheets_claims sheet_claim shown_claim names_for pdos_text more_pdos pdo_text pdo_by pdo_front data_in_force shown_text raw_text mapping_in_force words_in_force sheet_pdos data_text multiplexed_data short_text filled digits
multiplexed = refl

-- ---- several sheets

abbrev no_rows_for : ℕ → Names
no_rows_for node = record (names_with []) { only = Some node }

-- of a node's own sheet alone, whatever the sheet for all nodes has
own_sheet : said_by (sheet_of (no_rows_for 5) ∷ sheet_of (names_with rows_of_tpdo) ∷ []) [] 0x185 (1 ∷ []) ≡ []
unfolding claims_with sheets_claims sheet_claim shown_claim pdos_text node_with is_of sheet_pdos pdos_in pdo_of mapping_at words_at number_at
own_sheet = refl

other_node : said_by (sheet_of (no_rows_for 5) ∷ sheet_of (names_with rows_of_tpdo) ∷ []) [] 0x186 (1 ∷ []) ≡ codes "TPDO1 node 6: B 2002:00 = true"
unfolding claims_with sheets_claims sheet_claim shown_claim names_for pdos_text more_pdos pdo_text pdo_by pdo_front data_in_force shown_text raw_text mapping_in_force words_in_force node_with is_of sheet_pdos pdos_in pdo_of mapping_at words_at number_at data_text mapped_text parts_text more_parts part_text part_bytes short_text more_text filled entry_of known_text meaning_at entry_text value_text number_text digits digits_text is_utf8 chars encode
other_node = refl

-- the PDO that one node sends, and then the node that receives it, each by its own sheet
abbrev rows_of_rpdo : List Row
rows_of_rpdo = row 0x1400 1 Unsigned32 (number (pos 0x185)) [] ∷ row 0x1600 0 Unsigned8 (number (pos 0)) [] ∷ []

consumer : said_by (sheet_of (record (names_with rows_of_rpdo) { only = Some 6 }) ∷ sheet_of (record (names_with rows_of_tpdo) { only = Some 5 }) ∷ []) []
    0x185 (1 ∷ []) ≡ codes "TPDO1 node 5: B 2002:00 = true | RPDO1 node 6"
unfolding claims_with sheets_claims sheet_claim shown_claim names_for pdos_text more_pdos pdo_text pdo_by pdo_front data_in_force shown_text raw_text mapping_in_force words_in_force node_with is_of sheet_pdos pdos_in pdo_of mapping_at words_at number_at data_text mapped_text parts_text more_parts part_text part_bytes short_text more_text filled entry_of known_text meaning_at entry_text value_text number_text digits digits_text is_utf8 chars encode
consumer = refl

-- a sheet for another interface
elsewhere : said_by (known_sheet (Some (codes "can1")) (names_with rows_of_tpdo) ∷ []) [] 0x185 (1 ∷ []) ≡ []
unfolding claims_with sheets_claims sheet_claim shown_claim pdos_text node_with is_of sheet_pdos pdos_in pdo_of mapping_at words_at number_at
elsewhere = refl

-- ---- the bits of an entry alone

abbrev bits_by_count : ℕ → List ℕ → Option EntryBits
bits_by_count count bytes = entry_bits (record { index = 0x2001; sub = 2 }) bytes (record { count = count; words = 0x20010110 ∷ 0x20010210 ∷ 0x20010208 ∷ [] })

abbrev is_bits : ℕ → List ℕ → Option EntryBits
is_bits bits bytes = Some (record { bits = bits; bytes = record { items = bytes } })

-- also in data that are longer than what is mapped, and of two places the first
second_entry : bits_by_count 2 (0xE8 ∷ 0x03 ∷ 0x10 ∷ 0x27 ∷ []) ≡ is_bits 16 (0x10 ∷ 0x27 ∷ [])
unfolding entry_bits place_from part_bytes
second_entry = refl

longer_data : bits_by_count 3 (0xE8 ∷ 0x03 ∷ 0x10 ∷ 0x27 ∷ 0x05 ∷ 0xFF ∷ []) ≡ is_bits 16 (0x10 ∷ 0x27 ∷ [])
unfolding entry_bits place_from part_bytes
longer_data = refl

-- in data that are shorter there is none, nor below the count, nor in a multiplexed PDO
shorter_data : bits_by_count 3 (0xE8 ∷ 0x03 ∷ 0x10 ∷ 0x27 ∷ []) ≡ None
unfolding entry_bits place_from
shorter_data = refl

not_counted : bits_by_count 1 (0xE8 ∷ 0x03 ∷ 0x10 ∷ 0x27 ∷ []) ≡ None
unfolding entry_bits place_from
not_counted = refl

multiplexed_bits : bits_by_count 0xFE (1 ∷ 2 ∷ 3 ∷ 4 ∷ 5 ∷ 6 ∷ 7 ∷ 8 ∷ []) ≡ None
unfolding entry_bits place_from
multiplexed_bits = refl

-- by a mapping that the recording shows, is being changed, or isn't known
abbrev bits_by_these : List Value → Bool → Option EntryBits
bits_by_these mapping changes =
    shown_bits (record { index = 0x2001; sub = 1 }) (0xE8 ∷ 0x03 ∷ []) None (shown 0x1800 Assumed mapping changes).state

seen_bits : bits_by_these (Seen 1 ∷ Seen 0x20010110 ∷ []) false ≡ is_bits 16 (0xE8 ∷ 0x03 ∷ [])
unfolding entry_bits place_from part_bytes mapping_in_force words_in_force
seen_bits = refl

changed_bits : bits_by_these (Seen 1 ∷ Seen 0x20010110 ∷ []) true ≡ None
changed_bits = refl

unknown_bits : bits_by_these (Seen 1 ∷ Assumed ∷ []) false ≡ None
unfolding mapping_in_force words_in_force
unknown_bits = refl

-- by the mapping of the sheet alone: all of it, a word or the count missing, no sheet
abbrev bits_by_sheet : Option SheetMapping → Option EntryBits
bits_by_sheet sheet = assumed_bits (record { index = 0x2001; sub = 1 }) (0xE8 ∷ 0x03 ∷ []) sheet

assumed_ones : bits_by_sheet (Some (record { count = Some 1; words = 0x20010110 ∷ [] })) ≡ is_bits 16 (0xE8 ∷ 0x03 ∷ [])
unfolding entry_bits place_from part_bytes mapping_in_force words_in_force
assumed_ones = refl

assumed_none : bits_by_sheet (Some (record { count = Some 2; words = 0 ∷ 0x20010110 ∷ [] })) ∷ bits_by_sheet (Some (record { count = Some 2; words = 0x20010110 ∷ [] }))
    ∷ bits_by_sheet (Some (record { count = None; words = 0x20010110 ∷ [] })) ∷ bits_by_sheet None ∷ []
    ≡ None ∷ None ∷ None ∷ None ∷ []
unfolding entry_bits place_from part_bytes mapping_in_force words_in_force
assumed_none = refl

-- a count that means nothing, and the counts of multiplexed PDOs
no_counts : map (λ count. mapping_in_force (Seen count ∷ []) None) (0 ∷ 65 ∷ 0xFD ∷ 0xFE ∷ 0xFF ∷ [])
    ≡ Some (record { count = 0; words = [] }) ∷ None ∷ None ∷ Some (record { count = 0xFE; words = [] }) ∷ Some (record { count = 0xFF; words = [] }) ∷ []
unfolding mapping_in_force words_in_force
no_counts = refl

greatest_count : is_count 64 ≡ true
greatest_count = refl

-- of the recording and of the sheet: the data are raw
raw_counts : shown_text (bus_with (sheet_of names ∷ []) []) 5 (0xE8 ∷ 0x03 ∷ []) None (shown 0x1800 (Seen 0x185) (Seen 65 ∷ []) false).state
    ∷ assumed_text (bus_with (sheet_of names ∷ []) []) 5 (0xE8 ∷ 0x03 ∷ []) (Some (record { count = Some 65; words = [] })) ∷ []
    ≡ codes ": E803 (mapping is unknown)" ∷ codes ": E803 (mapping is unknown)" ∷ []
unfolding shown_text mapping_in_force words_in_force raw_text filled digits digits_text
raw_counts = refl
