-- What looks wrong with nodes, its lines, and which of them are listed.
use Rattle.std.specs.Prelude.{◌≡◌, ℕ, ◌+◌, ◌/◌, ◌==◌, Bool, nat_le, nat_lt, ◌&&◌, if◌then◌else◌, List, [], ◌∷◌, ◌++◌, codes, Option, Some, None}
use Rattle.std.specs.List.{sum_by}
use Rattle.conode_explain_transfers.specs.declared.ended.Ended.{Ended}
use Rattle.conode_stats_counts.specs.declared.failure.FailureRow.{FailureRow}
use Rattle.conode_stats_counts.specs.declared.heartbeats.Heartbeats.{Heartbeats}
use Rattle.conode_stats_counts.specs.declared.node.Node.{Node}
use Rattle.conode_stats_counts.specs.declared.row.Row.{Row}
use Rattle.conode_stats_counts.specs.declared.tally.Tally.{Tally}
use Rattle.conode_stats_counts.specs.Buses.{BusCounts}
use Rattle.conode_stats_counts.specs.Gaps.{counted}
use Rattle.conode_stats_text.specs.declared.excerpt.Excerpt.{Excerpt}
use Rattle.conode_stats_text.specs.declared.finding.Finding.{Finding}
use Rattle.conode_stats_text.specs.declared.finding.Finding.TheVariants.{Silent, Late, Lost, Restarted, Failed, Open, Emergency, Counted}
use Rattle.conode_stats_text.specs.declared.finding.Kind.{Kind}
use Rattle.conode_stats_text.specs.declared.finding.Kind.TheVariants.{Silence as SilenceKind, Lateness, Loss, Restarts, Failures, Waits, Emergencies, Pause, StepsBack, ErrorFrames, MoreFailures, MoreEmergencies, MoreIdentifiers}
use Rattle.conode_stats_text.specs.declared.pace.Pace.{Pace}
use Rattle.conode_stats_text.specs.declared.silence.Silence.{Silence}
use Rattle.conode_stats_text.specs.FailureLines.{emergency_line, failure_line, is_waiting, open_line}
use Rattle.conode_stats_text.specs.NodeLines.{restart_line}
use Rattle.conode_stats_text.specs.StatsLines.{counts_line}
use Rattle.conode_stats_text.specs.Paces.{late_line, lost_gap, lost_line, silent_line, usual_pace}
use Rattle.conode_stats_text.specs.Papers.{IsAppended}
use Rattle.conode_stats_text.specs.Silences.{silence_of}

-- ---- what looks wrong

abbrev pub lost_at : Option Pace → Option ℕ → Option Finding
lost_at (Some pace) (Some gap) = Some (Lost gap pace)
lost_at _ _ = None

-- a node that is silent at the end
abbrev pub silent_in : Option Silence → Option Finding
silent_in None = None
silent_in (Some silence) = Some (Silent silence)

-- one with heartbeats later than the recording has it
abbrev pub late_in : Heartbeats → Option Finding
late_in heartbeats = if nat_lt 0 heartbeats.late then Some (Late heartbeats.late heartbeats.longest_late) else None

-- one whose longest wait, while no transfer shows the time, is too long
abbrev pub lost_in : Option ℕ → Heartbeats → Option Finding
lost_in sheet heartbeats = lost_at (usual_pace sheet heartbeats) (lost_gap (usual_pace sheet heartbeats) heartbeats.longest)

abbrev pub restarted_in : Node → Option Finding
restarted_in node = if node.restarts == 0 then None else Some (Restarted node.restarts node.last_restart)

-- what a node of a bus shows of a kind, by the time of a sheet
abbrev pub node_finding : Kind → BusCounts → Option ℕ → ℕ → Node → Option Finding
node_finding SilenceKind bus sheet number node = silent_in (silence_of bus sheet number node)
node_finding Lateness bus sheet number node = late_in node.heartbeats
node_finding Loss bus sheet number node = lost_in sheet node.heartbeats
node_finding Restarts bus sheet number node = restarted_in node
node_finding _ bus sheet number node = None

-- what a row is of a kind
abbrev pub row_finding : Kind → FailureRow → Option Finding
row_finding Failures row = Some (Failed row)
row_finding Emergencies row = Some (Emergency row)
row_finding _ row = None

-- a transfer that had no frame for more than a second up to the end
abbrev pub open_finding : Tally → Option Ended → Option Finding
open_finding all None = None
open_finding all (Some transfer) = if is_waiting all transfer then Some (Open transfer.key transfer.newest) else None

-- how many there are of a kind on a bus, if there are any
abbrev pub counted_in : Kind → ℕ → Option Finding
counted_in kind count = if count == 0 then None else Some (Counted kind count)

-- the longest time between two frames in whole seconds, if it is more than an hour
abbrev pub long_pause : Tally → ℕ
long_pause all = if nat_lt 3600000000 all.greatest then all.greatest / 1000000 else 0

-- whether a row is of error frames: bit 29, without bit 31
abbrev pub is_of_errors : Row → Bool
is_of_errors row = nat_le 0x20000000 row.can_id && nat_lt row.can_id 0x80000000

abbrev pub error_frames_of : Row → ℕ
error_frames_of row = if is_of_errors row then row.tally.frames else 0

-- how many frames of these rows are error frames
unfoldable pub error_frames : List Row → ℕ
error_frames rows = counted (sum_by error_frames_of rows)

-- how many there are of a kind on a bus; of a pause its seconds
abbrev pub count_on : Kind → BusCounts → ℕ
count_on Pause bus = long_pause bus.all
count_on StepsBack bus = bus.all.steps_back
count_on ErrorFrames bus = error_frames bus.rows
count_on MoreFailures bus = bus.transfers.left_out
count_on MoreEmergencies bus = bus.emergencies.left_out
count_on MoreIdentifiers bus = bus.left_out
count_on _ bus = 0

abbrev pub bus_finding : Kind → BusCounts → Option Finding
bus_finding kind bus = counted_in kind (count_on kind bus)

abbrev pub counted_words : Kind → List ℕ
counted_words Pause = codes "longest time without a frame, in seconds"
counted_words StepsBack = codes "stamps that step back"
counted_words ErrorFrames = codes "error frames"
counted_words MoreFailures = codes "SDO transfers that failed with further nodes and codes"
counted_words MoreEmergencies = codes "EMCY messages of further nodes and codes"
counted_words MoreIdentifiers = codes "frames of more than 4,096 identifiers, not in the table"
counted_words _ = []

-- ---- its line

abbrev pub finding_line : List ℕ → ℕ → Finding → List ℕ
finding_line interface node (Silent silence) = silent_line interface node silence.since silence.pace
finding_line interface node (Late count gap) = late_line interface node count gap
finding_line interface node (Lost gap pace) = lost_line interface node gap pace
finding_line interface node (Restarted count last) = restart_line interface node count last
finding_line interface node (Failed row) = failure_line interface row
finding_line interface node (Open key since) = open_line interface node key since
finding_line interface node (Emergency row) = emergency_line interface row
finding_line interface node (Counted kind count) = counts_line interface (counted_words kind) count

-- ---- which are listed

-- something that looks wrong with a node on an interface, or with the interface, where the node is 0
pub record Wrong : Type 0 where
  pub interface : List ℕ
  pub node : ℕ
  pub finding : Finding

abbrev pub wrong_with : List ℕ → ℕ → Option Finding → List Wrong
wrong_with interface node None = []
wrong_with interface node (Some finding) = record { interface = interface; node = node; finding = finding } ∷ []

abbrev pub wrong_line : Wrong → List ℕ
wrong_line wrong = finding_line wrong.interface wrong.node wrong.finding

-- whether the next one is listed
abbrev pub is_listed : Excerpt → Bool
is_listed excerpt = nat_le excerpt.from excerpt.seen && nat_lt excerpt.seen excerpt.until

-- with one more
abbrev pub passed_one : Excerpt → Excerpt
passed_one excerpt = record excerpt { seen = counted (excerpt.seen + 1) }

-- the lines of those that are listed
unfoldable pub listed : Excerpt → List Wrong → List ℕ
listed excerpt [] = []
listed excerpt (wrong ∷ wrongs) = (if is_listed excerpt then wrong_line wrong else []) ++ listed (passed_one excerpt) wrongs

-- with all of them
unfoldable pub passed : Excerpt → List Wrong → Excerpt
passed excerpt [] = excerpt
passed excerpt (wrong ∷ wrongs) = passed (passed_one excerpt) wrongs

-- the lines of those that are listed are appended, if memory doesn't run out, and all are passed
pub record IsListed (before : Option (List ℕ)) (excerpt : Excerpt) (wrongs : List Wrong) (after : Option (List ℕ)) (next : Excerpt) : Type 0 where
  pub appended : IsAppended before (listed excerpt wrongs) after
  pub all : next ≡ passed excerpt wrongs

-- the words about those of a kind that aren't among the first
abbrev pub further_words : Kind → List ℕ
further_words SilenceKind = codes "further silent nodes, at the end of the page"
further_words Lateness = codes "further nodes with late heartbeats, at the end of the page"
further_words Loss = codes "further nodes with late heartbeats, at the end of the page"
further_words Restarts = codes "further nodes that restarted, at the end of the page"
further_words Failures = codes "further nodes and abort codes, at the end of the page"
further_words Waits = codes "further open SDO transfers, at the end of the page"
further_words Emergencies = codes "further nodes and EMCY codes, at the end of the page"
further_words _ = codes "further interfaces with this, at the end of the page"
