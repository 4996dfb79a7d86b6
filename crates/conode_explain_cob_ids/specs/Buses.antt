-- What is known of the PDOs of a bus.
use Rattle.std.specs.Prelude.{ℕ, List, map, Option}
use Rattle.co_sheet_changes.specs.Names.{Names}
use Rattle.conode_explain_entries.specs.declared.entries.ShownPdo.{ShownPdo}
use Rattle.conode_explain_entries.specs.declared.state.PdoState.{PdoState}
use Rattle.conode_explain_entries.specs.Tables.{state_in}
use Rattle.conode_explain_cob_ids.specs.declared.bus.Bus.{Bus as BusOfCode}
use Rattle.conode_explain_cob_ids.specs.Known.{KnownSheet, known_view, names_for}

-- the data sheets, what the recording shows of PDOs, and the name of the interface
pub record Bus : Type 0 where
  pub sheets : List KnownSheet
  pub entries : List ShownPdo
  pub interface : List ℕ

abbrev pub bus_view : BusOfCode → Bus
bus_view bus = record {
  sheets = map known_view bus.sheets.now;
  entries = bus.entries.now;
  interface = bus.interface.now;
}

-- where the names of a node's entries come from
abbrev pub names_at : Bus → ℕ → Names
names_at bus node = names_for bus.sheets bus.interface node

-- what the recording shows of the entries of a node's PDO, if it shows one
abbrev pub state_at : Bus → ℕ → ℕ → Option PdoState
state_at bus node index = state_in bus.entries bus.interface node index
