-- Which identifiers the COB-IDs of a data sheet may name, whatever the recording shows: those of its PDOs, of SYNC (1005h), TIME (1012h)
-- and emergencies (1014h) (CiA 301, 7.5.2.5, 7.5.2.15 and 7.5.2.17).
use Rattle.std.specs.Prelude.{ℕ, zero, suc, ◌/◌, ◌%◌, ◌^◌, ◌==◌, nat_lt, Bool, true, not, ◌&&◌, ◌||◌, if◌then◌else◌}
use Rattle.std.specs.Prelude.{List, [], ◌∷◌, ◌++◌, Option, is_some}
use Rattle.std.specs.List.{list_any}
use Rattle.conode_explain_cob_ids.specs.declared.sheet.SheetPdo.{SheetPdo}
use Rattle.conode_explain_cob_ids.specs.declared.sheet_services.SheetService.{SheetService}
use Rattle.conode_explain_cob_ids.specs.CobIds.{node_for, node_with, word_for}

-- an identifier of 11 bits: bit 29 is clear
abbrev pub has_base : ℕ → ℕ → Bool
has_base word id = (word / 2 ^ 29 % 2 == 0) && (word % 2 ^ 11 == id)

-- SYNC has its identifier whether the device sends it (bit 30) or not; TIME, where the device takes
-- it (bit 31) or sends it (bit 30); emergencies, where they exist (bit 31 is clear)
abbrev pub is_used : ℕ → ℕ → Bool
is_used index word =
    if index == 0x1014 then nat_lt word (2 ^ 31) else (if index == 0x1012 then not (word / 2 ^ 30 % 4 == 0) else true)

abbrev pub names_id : ℕ → ℕ → ℕ → Bool
names_id index word id = has_base word id && is_used index word

-- a sheet's COB-ID of a service names it; the node that the sheet is for, if it is for one
abbrev pub may_name : Option ℕ → ℕ → SheetService → Bool
may_name only id service = names_id service.index (word_for service.cob_id (node_for only service.cob_id id)) id

-- a sheet's PDO has it
abbrev pub may_have : Option ℕ → ℕ → SheetPdo → Bool
may_have only id pdo = is_some (node_with only pdo.cob_id id)

-- one of them
abbrev pub is_of_sheet : Option ℕ → List SheetPdo → List SheetService → ℕ → Bool
is_of_sheet only pdos services id = list_any (may_have only id) pdos || list_any (may_name only id) services

-- of each identifier below a number, whether it is
unfoldable pub named_below : Option ℕ → List SheetPdo → List SheetService → ℕ → List Bool
named_below only pdos services zero = []
named_below only pdos services (suc id) = named_below only pdos services id ++ is_of_sheet only pdos services id ∷ []
