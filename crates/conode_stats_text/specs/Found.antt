-- What looks wrong in a recording, and the lines about it.
use Rattle.std.specs.Prelude.{ℕ, ◌-◌, ◌==◌, if◌then◌else◌, List, [], ◌∷◌, ◌++◌, length, take, drop, slice_get, Option, Some, None}
use Rattle.std.specs.List.{flat_map}
use Rattle.conode_explain_transfers.specs.declared.ended.Ending.TheVariants.{Unfinished}
use Rattle.conode_explain_transfers.specs.declared.track.Track.{Track}
use Rattle.conode_explain_transfers.specs.Followed.{closed}
use Rattle.conode_stats_counts.specs.declared.failure.FailureRow.{FailureRow}
use Rattle.conode_stats_counts.specs.declared.node.Node.{Node}
use Rattle.conode_stats_counts.specs.Buses.{BusCounts}
use Rattle.conode_stats_counts.specs.Gaps.{counted}
use Rattle.conode_stats_text.specs.declared.finding.Kind.{Kind}
use Rattle.conode_stats_text.specs.declared.finding.Kind.TheVariants.{Silence as SilenceKind, Lateness, Loss, Restarts, Failures, Waits, Emergencies, Pause, StepsBack, ErrorFrames, MoreFailures, MoreEmergencies, MoreIdentifiers}
use Rattle.conode_stats_text.specs.declared.page.Page.{Page}
use Rattle.conode_stats_text.specs.declared.sheet_facts.SheetFacts.{SheetFacts}
use Rattle.conode_stats_text.specs.Findings.{Wrong, bus_finding, further_words, node_finding, open_finding, row_finding, wrong_line, wrong_with}
use Rattle.conode_stats_text.specs.NodeIds.{node_ids}
use Rattle.conode_stats_text.specs.SheetFacts.{sheet_time}
use Rattle.conode_stats_text.specs.StatsLines.{if_any}

-- ---- what looks wrong, by bus

-- with the node at a node-ID
abbrev pub found_at : Kind → List SheetFacts → BusCounts → ℕ → Option Node → List Wrong
found_at kind sheets bus number None = []
found_at kind sheets bus number (Some node) =
    wrong_with bus.interface number (node_finding kind bus (sheet_time bus.interface number sheets) number node)

abbrev pub node_found : Kind → List SheetFacts → BusCounts → ℕ → List Wrong
node_found kind sheets bus number = found_at kind sheets bus number (slice_get bus.nodes number)

-- with the nodes of a bus, by node-ID
unfoldable pub nodes_found : Kind → List SheetFacts → BusCounts → List Wrong
nodes_found kind sheets bus = flat_map (node_found kind sheets bus) node_ids

abbrev pub row_found : Kind → List ℕ → ℕ → FailureRow → List Wrong
row_found kind interface node row = if row.cause.node == node then wrong_with interface node (row_finding kind row) else []

-- the rows of a node
unfoldable pub rows_found_of : Kind → List ℕ → List FailureRow → ℕ → List Wrong
rows_found_of kind interface rows node = flat_map (row_found kind interface node) rows

-- SDO transfers that failed, or EMCY messages, by node-ID, those of a node in the order of the rows
unfoldable pub rows_found : Kind → List ℕ → List FailureRow → List Wrong
rows_found kind interface rows = flat_map (rows_found_of kind interface rows) node_ids

abbrev pub open_found_on : BusCounts → Track → List Wrong
open_found_on bus track =
    wrong_with bus.interface track.node (open_finding bus.all (closed track.channel.transfer bus.all.last Unfinished))

-- SDO transfers that are open at the end, in the order in which their channels were heard first
unfoldable pub open_found : BusCounts → List Wrong
open_found bus = flat_map (open_found_on bus) bus.transfers.channels

-- of one kind on a bus
abbrev pub found_on : Kind → List SheetFacts → BusCounts → List Wrong
found_on SilenceKind sheets bus = nodes_found SilenceKind sheets bus
found_on Lateness sheets bus = nodes_found Lateness sheets bus
found_on Loss sheets bus = nodes_found Loss sheets bus
found_on Restarts sheets bus = nodes_found Restarts sheets bus
found_on Failures sheets bus = rows_found Failures bus.interface bus.transfers.rows
found_on Waits sheets bus = open_found bus
found_on Emergencies sheets bus = rows_found Emergencies bus.interface bus.emergencies.rows
found_on kind sheets bus = wrong_with bus.interface 0 (bus_finding kind bus)

-- of one kind
unfoldable pub found : Page → Kind → List Wrong
found page kind = flat_map (found_on kind page.sheets.now) page.counts.now.buses

-- the kinds, in the order of the page
abbrev pub kinds : List Kind
kinds =
    SilenceKind ∷ Lateness ∷ Loss ∷ Restarts ∷ Failures ∷ Waits ∷ Emergencies ∷ Pause ∷ StepsBack ∷ ErrorFrames ∷ MoreFailures ∷ MoreEmergencies
    ∷ MoreIdentifiers ∷ []

-- of all kinds
unfoldable pub all_found : Page → List Wrong
all_found page = flat_map (found page) kinds

-- so many look wrong; a count saturates
abbrev pub count_of : Page → ℕ
count_of page = counted (length (all_found page))

-- ---- its lines

-- those from a place until another, counted from 0
abbrev pub between : ℕ → ℕ → List Wrong → List Wrong
between from until wrongs = take (until - from) (drop from wrongs)

-- the lines of one kind from a place until another, and how many more there are
unfoldable pub kind_lines : ℕ → ℕ → Kind → List Wrong → List ℕ
kind_lines from until kind wrongs =
    flat_map wrong_line (between from until wrongs) ++ if_any (further_words kind) (counted (length wrongs) - until)

abbrev pub kind_lines_of : ℕ → ℕ → Page → Kind → List ℕ
kind_lines_of from until page kind = kind_lines from until kind (found page kind)

-- of all kinds
unfoldable pub found_lines : ℕ → ℕ → Page → List ℕ
found_lines from until page = flat_map (kind_lines_of from until page) kinds
