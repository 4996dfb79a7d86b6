-- The mapping of a PDO in the data sheet that is for its node (CiA 301, 7.5.2.36 and 7.5.2.38).
use Rattle.std.specs.Prelude.{ℕ, ◌==◌, Bool, ◌&&◌, if◌then◌else◌, List, find, slice_index, Option, Some, None, is_none}
use Rattle.std.specs.Prelude.{option_map, option_and_then}
use Rattle.conode_explain_entries.specs.declared.state.Value.{Value}
use Rattle.conode_explain_cob_ids.specs.declared.origin.Origin.TheVariants.{Sheet}
use Rattle.conode_explain_cob_ids.specs.declared.sheet.SheetPdo.{SheetPdo}
use Rattle.conode_explain_cob_ids.specs.Buses.{Bus}
use Rattle.conode_explain_cob_ids.specs.Content.{SheetMapping}
use Rattle.conode_explain_cob_ids.specs.Known.{pdos_for}
use Rattle.conode_explain_cob_ids.specs.Origins.{is_from}

-- that of the PDO with this communication parameter
abbrev pub mapping_of : List SheetPdo → ℕ → Option SheetMapping
mapping_of pdos index = option_map (λ pdo. pdo.mapping) (find (λ pdo. pdo.index == index) pdos)

-- of the sheet that is for a node
abbrev pub sheet_mapping : Bus → ℕ → ℕ → Option SheetMapping
sheet_mapping bus node index = mapping_of (pdos_for bus.sheets bus.interface node) index

-- the number of entries that it maps, where it has one
abbrev pub sheet_count : Option SheetMapping → Option ℕ
sheet_count sheet = option_and_then (λ mapping. mapping.count) sheet

-- a word that the sheet has; one that it lacks is 0
abbrev pub if_there : ℕ → Option ℕ
if_there word = if word == 0 then None else Some word

abbrev pub sheet_word : Option SheetMapping → ℕ → Option ℕ
sheet_word sheet place = option_and_then (λ mapping. if_there (slice_index mapping.words place)) sheet

-- no COB-ID of a PDO is known: its node's sheet doesn't have the PDO, and the recording doesn't show its COB-ID
abbrev pub is_assumed : Option SheetMapping → Value → Bool
is_assumed sheet cob_id = is_none sheet && is_from Sheet cob_id
