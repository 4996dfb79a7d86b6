-- Whose PDO an identifier is, evaluated on both sides of each edge.
use Rattle.std.proofs.Common.{◌≡◌, ℕ, Bool, true, false, [], ◌∷◌, List, Option, Some, None, refl, pos, negsuc}
use Rattle.std.specs.Prelude.{codes, length, map, not, ◌==◌}
use Rattle.co_value.specs.declared.data_type.DataType.{DataType}
use Rattle.co_value.specs.declared.data_type.DataType.TheVariants.{Boolean, Integer16, Unsigned8, Unsigned32}
use Rattle.co_profile.specs.declared.access.Access.TheVariants.{Rw}
use Rattle.co_sheet.specs.Limits.{Default, absent, number, node_id}
use Rattle.co_sheet.specs.Content.{Row}
use Rattle.co_sheet_changes.specs.Names.{Names}
use Rattle.conode_explain_entries.specs.declared.entries.ShownPdo.{ShownPdo}
use Rattle.conode_explain_entries.specs.declared.state.Value.{Value}
use Rattle.conode_explain_entries.specs.declared.state.Value.TheVariants.{Assumed, Seen, Saved, Unknown}
use Rattle.conode_explain_entries.specs.Histories.{assumed_values}
use Rattle.conode_explain_cob_ids.specs.declared.cob_id.SheetCobId.{SheetCobId}
use Rattle.conode_explain_cob_ids.specs.Buses.{Bus}
use Rattle.conode_explain_cob_ids.specs.Claims.{claims_with, default_index, sheet_claim, sheets_claims, shown_claim}
use Rattle.conode_explain_cob_ids.specs.CobIds.{has_identifier, is_default_rpdo, is_of, may_be_pdo, node_with}
use Rattle.conode_explain_cob_ids.specs.Devices.{device_at}
use Rattle.conode_explain_cob_ids.specs.Known.{KnownSheet, known_sheet}
use Rattle.conode_explain_cob_ids.specs.Sheets.{mapping_at, number_at, number_of, pdo_of, pdos_in, sheet_pdos, words_at}

-- ---- whose an identifier is

abbrev sum : ℕ → SheetCobId
sum word = record { word = word; with_node = true }

abbrev fixed : ℕ → SheetCobId
fixed word = record { word = word; with_node = false }

of_this_node : node_with (Some 5) (sum 0x40000180) 0x185 ≡ Some 5
unfolding node_with is_of
of_this_node = refl

of_another_node : node_with (Some 5) (sum 0x40000180) 0x186 ≡ None
unfolding node_with is_of
of_another_node = refl

of_any_node : node_with None (sum 0x180) 0x1FF ≡ Some 127
unfolding node_with is_of
of_any_node = refl

above_127 : node_with None (sum 0x180) 0x200 ≡ None
unfolding node_with is_of
above_127 = refl

of_no_node : node_with None (sum 0x180) 0x180 ≡ None
unfolding node_with is_of
of_no_node = refl

fixed_one : node_with None (fixed 0x185) 0x185 ≡ Some 5
unfolding node_with is_of
fixed_one = refl

fixed_for_another : node_with (Some 6) (fixed 0x185) 0x185 ≡ Some 6
unfolding node_with is_of
fixed_for_another = refl

not_there_bit : has_identifier 0x80000185 0x185 ≡ false
not_there_bit = refl

twenty_nine_bits : has_identifier 0x20000185 0x185 ≡ false
twenty_nine_bits = refl

no_sync : may_be_pdo 0x7F ≡ false
no_sync = refl

first_free : may_be_pdo 0x181 ≡ true
first_free = refl

sdo_answer : may_be_pdo 0x581 ≡ false
sdo_answer = refl

between_sdo : may_be_pdo 0x600 ≡ true
between_sdo = refl

last_free : may_be_pdo 0x6DF ≡ true
last_free = refl

-- ---- the pre-defined connection set

-- its PDOs, by function code
first_and_last : map default_index (2 ∷ 3 ∷ 4 ∷ 5 ∷ 6 ∷ 7 ∷ 8 ∷ 9 ∷ 10 ∷ 11 ∷ [])
    ≡ None ∷ Some 0x1800 ∷ Some 0x1400 ∷ Some 0x1801 ∷ Some 0x1401 ∷ Some 0x1802 ∷ Some 0x1402 ∷ Some 0x1803 ∷ Some 0x1403 ∷ None ∷ []
first_and_last = refl

-- the identifiers that the pre-defined connection set has for RPDOs, and those beside them
default_rpdos : map is_default_rpdo (0x200 ∷ 0x27F ∷ 0x305 ∷ 0x405 ∷ 0x500 ∷ 0x57F ∷ []) ≡ true ∷ true ∷ true ∷ true ∷ true ∷ true ∷ []
default_rpdos = refl

no_default_rpdos : map is_default_rpdo (0x105 ∷ 0x1FF ∷ 0x280 ∷ 0x2FF ∷ 0x480 ∷ 0x580 ∷ 0x605 ∷ 0x685 ∷ []) ≡ false ∷ false ∷ false ∷ false ∷ false ∷ false ∷ false ∷ false ∷ []
no_default_rpdos = refl

-- ---- sheets

-- the greatest number, one more, one below 0, one with the node-ID, none
numbers_of : map number_of (number (pos 0) ∷ number (pos 0xFFFFFFFF) ∷ number (pos 0x100000000) ∷ number (negsuc 0) ∷ node_id 5 ∷ absent ∷ [])
    ≡ Some 0 ∷ Some 0xFFFFFFFF ∷ None ∷ None ∷ None ∷ None ∷ []
numbers_of = refl

abbrev row : ℕ → ℕ → DataType → Default → List ℕ → Row
row index sub t begins name = record {
  key = record { index = index; sub = sub };
  data_type = t;
  access = Rw;
  low = None;
  high = None;
  default = begins;
  mappable = true;
  name = Some name;
  line = 1;
}

abbrev names_with : List Row → Names
names_with rows = record {
  sheet = Some (record { objects = []; rows = rows; sections = []; notes = []; dummies = []; node_id = None });
  only = None;
  originals = λ line. None;
}

abbrev rows_of_tpdo : List Row
rows_of_tpdo =
    row 0x1800 1 Unsigned32 (node_id 0x180) [] ∷ row 0x1A00 0 Unsigned8 (number (pos 1)) [] ∷ row 0x1A00 1 Unsigned32 (number (pos 0x20020008)) []
    ∷ row 0x2001 1 Integer16 absent (codes "T") ∷ row 0x2002 0 Boolean absent (codes "B") ∷ []

abbrev rows_of_pdos : List Row
rows_of_pdos =
    row 0x1400 1 Unsigned32 (number (pos 0x185)) [] ∷ row 0x1600 0 Unsigned8 (number (pos 0)) []
    ∷ row 0x1800 1 Unsigned32 (node_id 0x180) [] ∷ row 0x1A00 0 Unsigned8 (number (pos 1)) [] ∷ row 0x1A00 1 Unsigned32 (number (pos 0x20020008)) []
    ∷ row 0x2002 0 Boolean absent (codes "B") ∷ []

-- of can0, by these sheets and by what was shown of PDOs
abbrev bus_with : List KnownSheet → List ShownPdo → Bus
bus_with sheets entries = record { sheets = sheets; entries = entries; interface = codes "can0" }

-- a sheet for each interface
abbrev sheet_of : Names → KnownSheet
sheet_of names = known_sheet None names

-- ---- what the recording shows

-- of a PDO of node 5 on can0: its COB-ID, the first sub-indices of its mapping, and whether that is being changed
abbrev shown : ℕ → Value → List Value → Bool → ShownPdo
shown index cob_id mapping changes = record {
  index = index;
  node = 5;
  interface = record { items = codes "can0" };
  state = record { now = record { cob_id = cob_id; mapping = mapping }; stored = assumed_values; is_being_changed = changes };
}

abbrev is_one : Names → List ShownPdo → ℕ → Bool
is_one names entries id = not (length (claims_with (bus_with (sheet_of names ∷ []) entries) id) == 0)

-- the sheet's PDO, and of another identifier none
is_of_sheet : is_one (names_with rows_of_pdos) [] 0x186 ≡ true
unfolding claims_with sheets_claims sheet_claim shown_claim node_with is_of sheet_pdos pdos_in pdo_of mapping_at words_at number_at
is_of_sheet = refl

is_of_none : is_one (names_with rows_of_pdos) [] 0x205 ≡ false
unfolding claims_with sheets_claims sheet_claim shown_claim node_with is_of sheet_pdos pdos_in pdo_of mapping_at words_at number_at
is_of_none = refl

-- a COB-ID that is shown is in force in place of the sheet's: bit 31 is set, or another identifier, or it is unknown
disabled : is_one (names_with rows_of_tpdo) (shown 0x1800 (Seen 0x80000185) [] false ∷ []) 0x185 ≡ false
unfolding claims_with sheets_claims sheet_claim shown_claim node_with is_of sheet_pdos pdos_in pdo_of mapping_at words_at number_at
disabled = refl

moved_away : is_one (names_with rows_of_tpdo) (shown 0x1800 (Seen 0x40000190) [] false ∷ []) 0x185 ≡ false
unfolding claims_with sheets_claims sheet_claim shown_claim node_with is_of sheet_pdos pdos_in pdo_of mapping_at words_at number_at
moved_away = refl

moved_here : is_one (names_with rows_of_tpdo) (shown 0x1800 (Seen 0x40000190) [] false ∷ []) 0x190 ≡ true
unfolding claims_with sheets_claims sheet_claim shown_claim node_with is_of sheet_pdos pdos_in pdo_of mapping_at words_at number_at
moved_here = refl

came_back_here : is_one (names_with rows_of_tpdo) (shown 0x1800 (Saved 0x190) [] false ∷ []) 0x190 ≡ true
unfolding claims_with sheets_claims sheet_claim shown_claim node_with is_of sheet_pdos pdos_in pdo_of mapping_at words_at number_at
came_back_here = refl

unknown_cob_id : is_one (names_with rows_of_tpdo) (shown 0x1800 Unknown [] false ∷ []) 0x185 ≡ false
unfolding claims_with sheets_claims sheet_claim shown_claim node_with is_of sheet_pdos pdos_in pdo_of mapping_at words_at number_at
unknown_cob_id = refl

-- that of another node, and of a communication parameter on another bus
of_another : is_one (names_with rows_of_tpdo) (shown 0x1800 (Seen 0x80000185) [] false ∷ []) 0x186 ≡ true
unfolding claims_with sheets_claims sheet_claim shown_claim node_with is_of sheet_pdos pdos_in pdo_of mapping_at words_at number_at
of_another = refl

on_another_bus : is_one (names_with []) (record (shown 0x1800 (Seen 0x190) [] false) { interface = record { items = codes "can1" } } ∷ []) 0x190 ≡ false
unfolding claims_with sheets_claims sheet_claim shown_claim sheet_pdos pdos_in
on_another_bus = refl

-- the device type of a node, of which the recording shows one
abbrev type_at : List Value → ℕ → Option ℕ
type_at values node = (device_at (bus_with [] (shown 0x1000 Assumed values false ∷ [])) node).shown_type

type_of_5 : type_at (Seen 0x00020192 ∷ []) 5 ≡ Some 0x00020192
type_of_5 = refl

type_of_6 : type_at (Seen 0x00020192 ∷ []) 6 ≡ None
type_of_6 = refl

no_type_shown : type_at (Unknown ∷ []) 5 ≡ None
no_type_shown = refl

-- a restricted identifier is none of a PDO
restricted : is_one (names_with []) (shown 0x1800 (Seen 0x585) [] false ∷ []) 0x585 ≡ false
unfolding claims_with sheets_claims sheet_claim shown_claim sheet_pdos pdos_in
restricted = refl
