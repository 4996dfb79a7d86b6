-- The tables of the page.
use Rattle.std.specs.Prelude.{ℕ, ◌==◌, Bool, nat_le, if◌then◌else◌, List, [], ◌∷◌, ◌++◌, slice_get, codes, decimal, Option, Some, None}
use Rattle.std.specs.List.{concat, flat_map, list_any}
use Rattle.conode_stats_counts.specs.declared.node.Node.{Node}
use Rattle.conode_stats_counts.specs.declared.row.Row.{Row}
use Rattle.conode_stats_counts.specs.Buses.{BusCounts}
use Rattle.conode_stats_text.specs.declared.page.Page.{Page}
use Rattle.conode_stats_text.specs.declared.tables.Table.{Table}
use Rattle.conode_stats_text.specs.declared.tables.Table.TheVariants.{Buses, Nodes, Identifiers}
use Rattle.conode_stats_text.specs.NodeIds.{node_ids}
use Rattle.conode_stats_text.specs.NodeLines.{is_shown, node_in}
use Rattle.conode_stats_text.specs.SheetFacts.{sheet_rate}
use Rattle.conode_stats_text.specs.StatsLines.{bus_line, load_line, row_line}

-- frames whose bits aren't known
abbrev pub unknown_line : ℕ → List ℕ
unknown_line count =
    if count == 0 then [] else concat (codes "    CAN FD and error frames, whose bits aren't known: " ∷ decimal count ∷ codes "\n" ∷ [])

-- how busy a bus is, where its bit rate is known
abbrev pub loads : Option ℕ → BusCounts → List ℕ
loads None bus = []
loads (Some rate) bus = load_line rate bus.all bus.load ++ unknown_line bus.load.unknown

-- in a log without stamps each stamp is 0
abbrev pub load_lines : Option ℕ → BusCounts → List ℕ
load_lines rate bus = if bus.all.last == 0 then codes "    no stamps, so no gaps, rates and load\n" else loads rate bus

-- the frames of a bus, and how busy it is
unfoldable pub front_lines : Option ℕ → BusCounts → List ℕ
front_lines rate bus = bus_line bus.interface bus.all ++ load_lines rate bus

abbrev pub line_at : BusCounts → ℕ → Option Node → List ℕ
line_at bus number None = []
line_at bus number (Some node) = node_in bus.interface bus.all.last number node

abbrev pub line_of : BusCounts → ℕ → List ℕ
line_of bus number = line_at bus number (slice_get bus.nodes number)

-- the nodes of a bus, by node-ID
unfoldable pub node_lines : BusCounts → List ℕ
node_lines bus = flat_map (line_of bus) node_ids

-- a row before the first whose identifier isn't smaller
unfoldable pub inserted : Row → List Row → List Row
inserted row [] = row ∷ []
inserted row (other ∷ rows) = if nat_le row.can_id other.can_id then row ∷ other ∷ rows else other ∷ inserted row rows

-- the smallest identifier first, rows of the same one in their order
unfoldable pub by_id : List Row → List Row
by_id [] = []
by_id (row ∷ rows) = inserted row (by_id rows)

-- the identifiers of a bus
unfoldable pub id_lines : BusCounts → List ℕ
id_lines bus = flat_map (row_line bus.interface) (by_id bus.rows)

abbrev pub table_head : Table → List ℕ
table_head Buses = codes "Buses\n"
table_head Nodes =
    codes "interface            node     boot-ups    restarts    boot-up s  pre-operational s  operational s    stopped s    unknown s  longest answer ms  at the end\n"
table_head Identifiers =
    codes "interface              id       frames    frames/s    smallest ms     mean ms   greatest ms\n"

-- its lines of a bus
abbrev pub lines_on : Table → Page → BusCounts → List ℕ
lines_on Buses page bus = front_lines (sheet_rate page.bit_rate bus.interface page.sheets.now) bus
lines_on Nodes page bus = node_lines bus
lines_on Identifiers page bus = id_lines bus

-- a table, by bus
unfoldable pub table_lines : Table → Page → List ℕ
table_lines table page = table_head table ++ flat_map (lines_on table page) page.counts.now.buses

-- whether a node of a bus has a line
abbrev pub has_nodes : BusCounts → Bool
has_nodes bus = list_any is_shown bus.nodes

-- the table of nodes, if one has a line
abbrev pub node_table : Page → List ℕ
node_table page = if list_any has_nodes page.counts.now.buses then table_lines Nodes page else []
