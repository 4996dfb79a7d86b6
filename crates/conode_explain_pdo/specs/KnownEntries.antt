-- An entry of a node's sheet with its value, and what that means: of a drive (CiA 402), of a COB-ID, and
-- of an entry with several parts.
use Rattle.std.specs.Prelude.{ℕ, ◌%◌, ◌==◌, Bool, ◌&&◌, if◌then◌else◌, List, ◌++◌}
use Rattle.co_value.specs.declared.key.Key.{Key}
use Rattle.co_sheet.specs.Content.{Row}
use Rattle.co_sheet_changes.specs.Names.{shown_name}
use Rattle.conode_explain_services.specs.Drives.{drive_words, has_meaning}
use Rattle.conode_explain_values.specs.Values.{entry_text}
use Rattle.conode_explain_cob_ids.specs.Devices.{Device, is_node_drive}
use Rattle.conode_explain_pdo.specs.CobIdWords.{cob_id_words}
use Rattle.conode_explain_pdo.specs.EntryWords.{entry_words}
use Rattle.conode_explain_pdo.specs.Types.{type_in}

-- the words of so many bits of an entry are shown: they are whole bytes, of an entry that has a
-- meaning, of a drive
abbrev pub shows_meaning : Device → ℕ → Key → ℕ → Bool
shows_meaning device node key bits = (has_meaning key && (bits % 8 == 0)) && is_node_drive device node

unfoldable pub known_text : Device → ℕ → Key → Row → ℕ → List ℕ → List ℕ
known_text device node key row bits bytes =
    entry_text (shown_name row) key (type_in device.names row) bits bytes
    ++ (if shows_meaning device node key bits then drive_words key bytes else cob_id_words key bits bytes ++ entry_words key bits bytes)
