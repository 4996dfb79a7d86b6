-- Which identifiers a device has besides those of its RPDOs (CiA 301, 7.5.2): those of SYNC, TIME, EMCY and its first four TPDOs.
use Rattle.std.specs.Prelude.{ℕ, ◌%◌, ◌==◌, nat_lt, nat_le, Bool, true, ◌&&◌, ◌||◌, if◌then◌else◌, List, Option, Some, None}
use Rattle.std.specs.Option.{option_map_or}
use Rattle.std.specs.List.{list_any}
use Rattle.co_sheet.specs.Content.{Row}
use Rattle.co_value.specs.declared.key.Key.{Key}
use Rattle.co_value.specs.Keys.{same_key}
use Rattle.co_sheet_changes.specs.Names.{row_at}
use Rattle.conode_explain_transfers.specs.declared.ended.Ended.{Ended}
use Rattle.conode_compare_pdos.specs.SheetNumbers.{first_word, number_of}
use Rattle.conode_compare_pdos.specs.Tpdos.{shows_bytes}
use Rattle.conode_compare_receptions.specs.declared.other_ids.OtherIds.{OtherIds}

-- their COB-IDs
abbrev pub sync_id : Key
sync_id = record { index = 0x1005; sub = 0 }

abbrev pub time_id : Key
time_id = record { index = 0x1012; sub = 0 }

abbrev pub emergency_id : Key
emergency_id = record { index = 0x1014; sub = 0 }

abbrev pub tpdo_id : ℕ → Key
tpdo_id index = record { index = index; sub = 1 }

abbrev pub unknown_ids : OtherIds
unknown_ids = record { sync = None; time = None; emergency = None; first = None; second = None; third = None; fourth = None }

-- ---- a data sheet

-- the 11 bits of a COB-ID, whatever its upper bits say; 0 is no identifier, so it says nothing
abbrev pub id_given : Option ℕ → Option ℕ
id_given None = None
id_given (Some number) = if number % 0x800 == 0 then None else Some (number % 0x800)

-- what isn't in the sheet has none: 0. `certain`: the values of the sheet are in force.
abbrev pub sheet_id : List Row → ℕ → Bool → Key → Option ℕ
sheet_id rows node certain key =
    option_map_or (λ row. if certain then id_given (number_of node row.default) else None) (row_at rows key) (Some 0)

-- after a boot-up
unfoldable pub other_ids_of : List Row → ℕ → Bool → OtherIds
other_ids_of rows node certain = record {
  sync = sheet_id rows node certain sync_id;
  time = sheet_id rows node certain time_id;
  emergency = sheet_id rows node certain emergency_id;
  first = sheet_id rows node certain (tpdo_id 0x1800);
  second = sheet_id rows node certain (tpdo_id 0x1801);
  third = sheet_id rows node certain (tpdo_id 0x1802);
  fourth = sheet_id rows node certain (tpdo_id 0x1803);
}

-- 1804:01 to 19FF:01 and 1201:01 to 12FF:01, the COB-IDs of the fifth TPDO and of further ones, and of
-- SDO channels other than the default one
abbrev pub is_further_id : Row → Bool
is_further_id row =
    ((nat_le 0x1804 row.key.index && nat_lt row.key.index 0x1A00) || (nat_le 0x1201 row.key.index && nat_lt row.key.index 0x1300))
    && (row.key.sub == 1)

abbrev pub has_further_ids : List Row → Bool
has_further_ids rows = list_any is_further_id rows

-- ---- transfers

-- between a request to write a COB-ID and its answer both values may hold
abbrev pub id_asked : Key → Key → Option ℕ → Option ℕ
id_asked key own id = if same_key key own then None else id

abbrev pub each_id : (Key → Option ℕ → Option ℕ) → OtherIds → OtherIds
each_id change ids = record {
  sync = change sync_id ids.sync;
  time = change time_id ids.time;
  emergency = change emergency_id ids.emergency;
  first = change (tpdo_id 0x1800) ids.first;
  second = change (tpdo_id 0x1801) ids.second;
  third = change (tpdo_id 0x1802) ids.third;
  fourth = change (tpdo_id 0x1803) ids.fourth;
}

abbrev pub ids_asked : OtherIds → Key → OtherIds
ids_asked ids key = each_id (id_asked key) ids

-- a transfer in one frame is done: it shows what its entry has
abbrev pub id_shown : List ℕ → Option ℕ
id_shown bytes = option_map_or (λ word. Some (word % 0x800)) (first_word bytes) None

abbrev pub id_ended : Ended → Key → Option ℕ → Option ℕ
id_ended ended own id =
    if same_key ended.key own && shows_bytes ended.protocol ended.ending then id_shown ended.first.items else id

abbrev pub ids_ended : OtherIds → Ended → OtherIds
ids_ended ids ended = each_id (id_ended ended) ids

-- ---- identifiers

-- one that isn't known may be any
abbrev pub may_equal : ℕ → Option ℕ → Bool
may_equal id own = option_map_or (λ o. o == id) own true

-- one of them may be this one
abbrev pub may_use : ℕ → OtherIds → Bool
may_use id ids =
    (may_equal id ids.sync || (may_equal id ids.time || may_equal id ids.emergency))
    || (may_equal id ids.first || (may_equal id ids.second || (may_equal id ids.third || may_equal id ids.fourth)))
