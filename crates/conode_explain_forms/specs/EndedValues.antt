-- The value of an SDO transfer that ended, where the lines of its frames don't have it.
use Rattle.std.specs.Prelude.{ℕ, ◌*◌, ◌==◌, Bool, true, false, ◌&&◌, if◌then◌else◌, List, [], ◌++◌, length, codes}
use Rattle.std.specs.Option.{option_map_or}
use Rattle.co_sheet.specs.Content.{Row}
use Rattle.co_sheet_changes.specs.Names.{Names, entry_of}
use Rattle.conode_explain_transfers.specs.declared.ended.Ended.{Ended}
use Rattle.conode_explain_transfers.specs.declared.kinds.Protocol.{Protocol}
use Rattle.conode_explain_transfers.specs.declared.kinds.Protocol.TheVariants.{Segmented, Block}
use Rattle.conode_explain_pdo.specs.Types.{type_in}
use Rattle.conode_explain_values.specs.Values.{value_text}
use Rattle.conode_explain_forms.specs.Fields.{is_done}

-- its data are in several frames; that of an expedited one is in one, whose line shows the value
abbrev pub is_in_parts : Protocol → Bool
is_in_parts Segmented = true
is_in_parts Block = true
is_in_parts other = false

-- it is done, and all of its bytes are kept
abbrev pub shows_value : Ended → Bool
shows_value e = is_done e.ending && (is_in_parts e.protocol && (e.bytes == length e.first.items))

-- in the type that the entry has in the sheet
abbrev pub value_words : Names → Ended → Row → List ℕ
value_words names e row =
    codes " = " ++ value_text (type_in names row) (8 * length e.first.items) e.first.items ++ codes ","

-- where the node's sheet has the entry
unfoldable pub end_value : Names → ℕ → Ended → List ℕ
end_value names node e =
    if shows_value e then option_map_or (value_words names e) (entry_of names node e.key) [] else []
