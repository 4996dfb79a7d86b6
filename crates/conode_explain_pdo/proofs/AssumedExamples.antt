-- PDOs of which the recording shows the mapping and not the COB-ID, on both sides of each edge.
use Rattle.std.proofs.Common.{◌≡◌, ℕ, ◌+◌, Bool, true, false, [], ◌∷◌, List, Some, None, refl, pos}
use Rattle.std.specs.Prelude.{codes, map}
use Rattle.std.specs.Fmt.{digits}
use Rattle.std.specs.Str.{is_utf8, chars}
use lib.Utf8.{encode}
use Rattle.co_value.specs.declared.data_type.DataType.{DataType}
use Rattle.co_value.specs.declared.data_type.DataType.TheVariants.{Integer16, Unsigned8, Unsigned32}
use Rattle.co_profile.specs.declared.access.Access.TheVariants.{Rw}
use Rattle.co_sheet.specs.Limits.{Default, absent, number}
use Rattle.co_sheet.specs.Content.{Row}
use Rattle.co_text.specs.Printed.{digits_text}
use Rattle.co_sheet_changes.specs.Names.{entry_of}
use Rattle.conode_explain_values.specs.Numbers.{number_text}
use Rattle.conode_explain_values.specs.Values.{entry_text, value_text}
use Rattle.conode_explain_services.specs.Drives.{meaning_at}
use Rattle.conode_text.specs.Filled.{filled}
use Rattle.conode_explain_entries.specs.declared.entries.ShownPdo.{ShownPdo}
use Rattle.conode_explain_entries.specs.declared.state.Value.{Value}
use Rattle.conode_explain_entries.specs.declared.state.Value.TheVariants.{Assumed, Seen, Saved, Unknown}
use Rattle.conode_explain_entries.specs.Histories.{assumed_values}
use Rattle.conode_explain_cob_ids.specs.Buses.{Bus}
use Rattle.conode_explain_cob_ids.specs.Claims.{claims_with, sheet_claim, sheets_claims, shown_claim}
use Rattle.conode_explain_cob_ids.specs.CobIds.{is_of, node_with}
use Rattle.conode_explain_cob_ids.specs.Known.{KnownSheet, known_sheet, names_for}
use Rattle.conode_explain_cob_ids.specs.ServiceIds.{service_by_sheet, service_by_shown, service_with}
use Rattle.conode_explain_cob_ids.specs.SheetServices.{service_in_row, sheet_services}
use Rattle.conode_explain_cob_ids.specs.Sheets.{mapping_at, number_at, pdo_of, pdos_in, sheet_pdos, words_at}
use Rattle.conode_explain_pdo.specs.InForce.{data_in_force, mapping_in_force, raw_text, shown_text, words_in_force}
use Rattle.conode_explain_pdo.specs.KnownEntries.{known_text}
use Rattle.conode_explain_pdo.specs.Mappings.{data_text, mapped_text, missing_text, more_parts, more_text, part_bytes, part_text, parts_text, short_text, with_bits}
use Rattle.conode_explain_pdo.specs.Pdos.{more_pdos, pdo_by, pdo_front, pdo_text, pdos_text}

-- ---- sheets, and what is shown

abbrev row : ℕ → ℕ → DataType → Default → List ℕ → Row
row index sub t begins name = record {
  key = record { index = index; sub = sub };
  data_type = t;
  access = Rw;
  low = None;
  high = None;
  default = begins;
  mappable = true;
  name = Some name;
  line = 1;
}

-- a sheet for a node
abbrev sheet_for : ℕ → List Row → KnownSheet
sheet_for node rows = known_sheet None (record {
  sheet = Some (record { objects = []; rows = rows; sections = []; notes = []; dummies = []; node_id = None });
  only = Some node;
  originals = λ line. None;
})

-- of a PDO of node 5 on can0: its COB-ID, the first sub-indices of its mapping, and whether that is being changed
abbrev shown : ℕ → Value → List Value → Bool → ShownPdo
shown index cob_id mapping changes = record {
  index = index;
  node = 5;
  interface = record { items = codes "can0" };
  state = record { now = record { cob_id = cob_id; mapping = mapping }; stored = assumed_values; is_being_changed = changes };
}

abbrev bus_with : List KnownSheet → List ShownPdo → Bus
bus_with sheets entries = record { sheets = sheets; entries = entries; interface = codes "can0" }

-- what a frame with two bytes says
abbrev said : List KnownSheet → List ShownPdo → ℕ → List ℕ
said sheets entries id = pdos_text (bus_with sheets entries) (0xE8 ∷ 0x03 ∷ []) (claims_with (bus_with sheets entries) id)

-- one entry of 16 bits is mapped
abbrev mapped : List Value
mapped = Seen 1 ∷ Seen 0x20010110 ∷ []

-- ---- the recording alone

sent : said [] (shown 0x1800 Assumed mapped false ∷ []) 0x185 ≡ codes "~TPDO1 node 5 (mapping seen): 2001:01 = E803"
unfolding claims_with sheets_claims sheet_claim shown_claim names_for pdos_text more_pdos pdo_text pdo_by pdo_front data_in_force shown_text mapping_in_force words_in_force data_text mapped_text parts_text more_parts part_text missing_text with_bits part_bytes short_text more_text filled entry_of digits digits_text service_with service_by_sheet service_by_shown sheet_services service_in_row
sent = refl

received : said [] (shown 0x1403 Assumed (Saved 1 ∷ Saved 0x20010110 ∷ []) false ∷ []) 0x505 ≡ codes "~RPDO4 node 5 (mapping saved): 2001:01 = E803"
unfolding claims_with sheets_claims sheet_claim shown_claim names_for pdos_text more_pdos pdo_text pdo_by pdo_front data_in_force shown_text mapping_in_force words_in_force data_text mapped_text parts_text more_parts part_text missing_text with_bits part_bytes short_text more_text filled entry_of digits digits_text service_with service_by_sheet service_by_shown sheet_services service_in_row
received = refl

being_changed : said [] (shown 0x1800 Assumed (Seen 0 ∷ []) true ∷ []) 0x185 ≡ codes "~TPDO1 node 5: E803 (mapping is being changed)"
unfolding claims_with sheets_claims sheet_claim shown_claim names_for pdos_text more_pdos pdo_text pdo_by pdo_front data_in_force shown_text raw_text filled digits digits_text service_with service_by_sheet service_by_shown sheet_services service_in_row
being_changed = refl

-- of a mapping that isn't known nothing is said: after a boot-up, and of a word that is missing
booted_up : said [] (shown 0x1800 Assumed [] false ∷ []) 0x185 ≡ codes "~TPDO1 node 5"
unfolding claims_with sheets_claims sheet_claim shown_claim names_for pdos_text more_pdos pdo_text pdo_by pdo_front data_in_force shown_text mapping_in_force digits service_with service_by_sheet service_by_shown sheet_services service_in_row
booted_up = refl

word_missing : said [] (shown 0x1800 Assumed (Seen 1 ∷ []) false ∷ []) 0x185 ≡ codes "~TPDO1 node 5"
unfolding claims_with sheets_claims sheet_claim shown_claim names_for pdos_text more_pdos pdo_text pdo_by pdo_front data_in_force shown_text mapping_in_force words_in_force digits service_with service_by_sheet service_by_shown sheet_services service_in_row
word_missing = refl

-- another node, another PDO, another bus; no identifier of a PDO in that set
of_another : map (said [] (shown 0x1800 Assumed mapped false ∷ [])) (0x186 ∷ 0x285 ∷ 0x205 ∷ 0x105 ∷ 0x685 ∷ []) ≡ [] ∷ [] ∷ [] ∷ [] ∷ [] ∷ []
unfolding claims_with sheets_claims shown_claim pdos_text service_with service_by_sheet service_by_shown sheet_services service_in_row
of_another = refl

on_another_bus : said [] (record (shown 0x1800 Assumed mapped false) { interface = record { items = codes "can1" } } ∷ []) 0x185 ≡ []
unfolding claims_with sheets_claims shown_claim pdos_text service_with service_by_sheet service_by_shown sheet_services service_in_row
on_another_bus = refl

-- a COB-ID that is shown, also one that isn't known
moved : said [] (shown 0x1800 (Seen 0x190) mapped false ∷ []) 0x185 ≡ []
unfolding claims_with sheets_claims shown_claim pdos_text service_with service_by_sheet service_by_shown sheet_services service_in_row
moved = refl

unknown : said [] (shown 0x1800 Unknown mapped false ∷ []) 0x185 ≡ []
unfolding claims_with sheets_claims shown_claim pdos_text service_with service_by_sheet service_by_shown sheet_services service_in_row
unknown = refl

-- ---- and data sheets

-- the node's own, which has another COB-ID for the PDO; or hasn't the PDO, but names the entry
own_cob_id : said (sheet_for 5 (row 0x1800 1 Unsigned32 (number (pos 0x190)) [] ∷ []) ∷ []) (shown 0x1800 Assumed mapped false ∷ []) 0x185 ≡ []
unfolding claims_with sheets_claims sheet_claim shown_claim pdos_text node_with is_of sheet_pdos pdos_in pdo_of mapping_at words_at number_at service_with service_by_sheet service_by_shown sheet_services service_in_row
own_cob_id = refl

own_entry : said (sheet_for 5 (row 0x2001 1 Integer16 absent (codes "T") ∷ []) ∷ []) (shown 0x1800 Assumed mapped false ∷ []) 0x185
    ≡ codes "~TPDO1 node 5 (mapping seen): T 2001:01 = 1000"
unfolding claims_with sheets_claims sheet_claim shown_claim names_for pdos_text more_pdos pdo_text pdo_by pdo_front data_in_force shown_text mapping_in_force words_in_force node_with is_of sheet_pdos pdos_in pdo_of mapping_at words_at number_at data_text mapped_text parts_text more_parts part_text part_bytes short_text more_text filled entry_of known_text meaning_at entry_text value_text number_text digits digits_text is_utf8 chars encode service_with service_by_sheet service_by_shown sheet_services service_in_row
own_entry = refl

-- that of another node, which receives it; or sends it, and then it is of no other
abbrev rows_with : ℕ → ℕ → List Row
rows_with index id = row index 1 Unsigned32 (number (pos id)) [] ∷ row (index + 0x200) 0 Unsigned8 (number (pos 0)) [] ∷ []

its_receiver : said (sheet_for 6 (rows_with 0x1400 0x185) ∷ []) (shown 0x1800 Assumed mapped false ∷ []) 0x185
    ≡ codes "~TPDO1 node 5 (mapping seen): 2001:01 = E803 | RPDO1 node 6"
unfolding claims_with sheets_claims sheet_claim shown_claim names_for pdos_text more_pdos pdo_text pdo_by pdo_front data_in_force shown_text mapping_in_force words_in_force node_with is_of sheet_pdos pdos_in pdo_of mapping_at words_at number_at data_text mapped_text parts_text more_parts part_text missing_text with_bits part_bytes short_text more_text filled entry_of digits digits_text service_with service_by_sheet service_by_shown sheet_services service_in_row
its_receiver = refl

other_sender : said (sheet_for 6 (rows_with 0x1800 0x185) ∷ []) (shown 0x1800 Assumed mapped false ∷ []) 0x185 ≡ codes "TPDO1 node 6"
unfolding claims_with sheets_claims sheet_claim shown_claim names_for pdos_text more_pdos pdo_text pdo_by pdo_front data_in_force shown_text mapping_in_force words_in_force node_with is_of sheet_pdos pdos_in pdo_of mapping_at words_at number_at data_text digits service_with service_by_sheet service_by_shown sheet_services service_in_row
other_sender = refl

its_sender : said (sheet_for 6 (rows_with 0x1800 0x205) ∷ []) (shown 0x1400 Assumed mapped false ∷ []) 0x205
    ≡ codes "TPDO1 node 6 | ~RPDO1 node 5 (mapping seen): 2001:01 = E803"
unfolding claims_with sheets_claims sheet_claim shown_claim names_for pdos_text more_pdos pdo_text pdo_by pdo_front data_in_force shown_text mapping_in_force words_in_force node_with is_of sheet_pdos pdos_in pdo_of mapping_at words_at number_at data_text mapped_text parts_text more_parts part_text missing_text with_bits part_bytes short_text more_text filled entry_of digits digits_text service_with service_by_sheet service_by_shown sheet_services service_in_row
its_sender = refl

-- a service that a COB-ID names: emergencies of node 6
its_service : said [] (shown 0x1800 Assumed mapped false ∷ record (shown 0x1014 Assumed (Seen 0x185 ∷ []) false) { node = 6 } ∷ []) 0x185 ≡ []
unfolding claims_with sheets_claims shown_claim pdos_text service_with service_by_sheet service_by_shown
its_service = refl

-- ---- receivers alone: the sender of that set, of which nothing is known

abbrev heard : ℕ → List ℕ
heard id = said (sheet_for 6 (rows_with 0x1400 id) ∷ []) [] id

its_receiver_alone : heard 0x185 ≡ codes "~TPDO1 node 5 | RPDO1 node 6"
unfolding claims_with sheets_claims sheet_claim shown_claim names_for pdos_text more_pdos pdo_text pdo_by pdo_front data_in_force mapping_in_force node_with is_of sheet_pdos pdos_in pdo_of mapping_at words_at number_at data_text digits words_in_force service_with service_by_sheet service_by_shown sheet_services service_in_row
its_receiver_alone = refl

last_sender : heard 0x4FF ≡ codes "~TPDO4 node 127 | RPDO1 node 6"
unfolding claims_with sheets_claims sheet_claim shown_claim names_for pdos_text more_pdos pdo_text pdo_by pdo_front data_in_force mapping_in_force node_with is_of sheet_pdos pdos_in pdo_of mapping_at words_at number_at data_text digits words_in_force service_with service_by_sheet service_by_shown sheet_services service_in_row
last_sender = refl

-- an identifier of another node's RPDO, of no PDO, of no node; of a node with a sheet
no_sender : map heard (0x205 ∷ 0x685 ∷ 0x280 ∷ 0x186 ∷ []) ≡ codes "RPDO1 node 6" ∷ codes "RPDO1 node 6" ∷ codes "RPDO1 node 6" ∷ codes "RPDO1 node 6" ∷ []
unfolding claims_with sheets_claims sheet_claim shown_claim names_for pdos_text more_pdos pdo_text pdo_by pdo_front data_in_force mapping_in_force node_with is_of sheet_pdos pdos_in pdo_of mapping_at words_at number_at data_text digits words_in_force service_with service_by_sheet service_by_shown sheet_services service_in_row
no_sender = refl

-- one that has another COB-ID by the recording
moved_sender : said (sheet_for 6 (rows_with 0x1400 0x185) ∷ []) (shown 0x1800 (Seen 0x190) [] false ∷ []) 0x185 ≡ codes "RPDO1 node 6"
unfolding claims_with sheets_claims sheet_claim shown_claim names_for pdos_text more_pdos pdo_text pdo_by pdo_front data_in_force shown_text mapping_in_force node_with is_of sheet_pdos pdos_in pdo_of mapping_at words_at number_at data_text digits words_in_force service_with service_by_sheet service_by_shown sheet_services service_in_row
moved_sender = refl
