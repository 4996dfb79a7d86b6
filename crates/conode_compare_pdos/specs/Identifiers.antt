-- Which identifiers the TPDOs of a device may have: all of them, from 1800h to 19FFh (CiA 301, 7.3.5
-- and 7.5.2.37).
use Rattle.std.specs.Prelude.{ℕ, ◌==◌, nat_lt, nat_le, Bool, true, false, not, ◌&&◌, List, Option, Some, None}
use Rattle.std.specs.List.{list_any}
use Rattle.co_profile.specs.declared.access.Access.{Access}
use Rattle.co_profile.specs.declared.access.Access.TheVariants.{Constant}
use Rattle.co_sheet.specs.Content.{Row}
use Rattle.co_value.specs.declared.key.Key.{Key}
use Rattle.conode_compare_pdos.specs.PdoParameters.{identifier_of}
use Rattle.conode_compare_pdos.specs.SheetNumbers.{number_of}
use Rattle.conode_compare_pdos.specs.Tpdos.{is_id}

-- 1800:01 to 19FF:01, the COB-IDs of TPDOs
abbrev pub is_cob_id : Key → Bool
is_cob_id key = (nat_le 0x1800 key.index && nat_lt key.index 0x1A00) && (key.sub == 1)

-- a COB-ID is valid and has this identifier; one that isn't known may have it
abbrev pub may_be : ℕ → Option ℕ → Bool
may_be id None = true
may_be id (Some number) = is_id (identifier_of number) id

-- ---- a data sheet

abbrev pub may_have_at : ℕ → ℕ → Row → Bool
may_have_at node id row = is_cob_id row.key && may_be id (number_of node row.default)

-- a TPDO may have this identifier, where nothing was stored
abbrev pub may_have : List Row → ℕ → ℕ → Bool
may_have rows node id = list_any (may_have_at node id) rows

abbrev pub is_constant_access : Access → Bool
is_constant_access Constant = true
is_constant_access other = false

abbrev pub may_change_at : Row → Bool
may_change_at row = is_cob_id row.key && not (is_constant_access row.access)

-- the COB-ID of a TPDO may change
abbrev pub may_change : List Row → Bool
may_change rows = list_any may_change_at rows

-- ---- a recording

-- a number is to be written to an entry: so a TPDO may get this identifier
abbrev pub may_get : ℕ → Key → Option ℕ → Bool
may_get id key number = is_cob_id key && may_be id number
