-- The heartbeats of a node (CiA 301, 7.2.8.3.2.2), its answers to SDO requests, and its producer
-- heartbeat time, 1017:00, as far as SDO transfers in the recording show it.
use Rattle.std.specs.Prelude.{ℕ, ◌+◌, ◌-◌, ◌*◌, Bool, true, false, nat_lt, max, ◌&&◌, if◌then◌else◌, List, [], ◌∷◌, ◌++◌, length, reverse, take, Option, Some, None}
use Rattle.conode_explain_transfers.specs.declared.kinds.Direction.{Direction}
use Rattle.conode_explain_transfers.specs.declared.kinds.Direction.TheVariants.{Download, Upload}
use Rattle.conode_stats_counts.specs.declared.heartbeats.Heartbeats.{Heartbeats}
use Rattle.conode_stats_counts.specs.declared.sdo_frame.SdoFrame.{SdoFrame}
use Rattle.conode_stats_counts.specs.declared.sdo_frame.SdoFrame.TheVariants.{Request, Response}
use Rattle.conode_stats_counts.specs.declared.state.NmtState.TheVariants.{BootUp}
use Rattle.conode_stats_counts.specs.Gaps.{counted, greatest}
use Rattle.conode_stats_counts.specs.States.{NodeEvent, Commanded, Sent, Exchanged, Timed, Asked, same_state}

-- ---- requests and responses

-- the stamp of the request that a frame of the client is
abbrev pub pending_by : SdoFrame → ℕ → Option ℕ
pending_by Request micros = Some micros
pending_by _ micros = None

-- that of the newest request, if nothing followed it on the channel, and no boot-up of the node
unfoldable pub pending : List NodeEvent → Option ℕ
pending [] = None
pending (Commanded ∷ older) = pending older
pending (Asked micros ∷ older) = pending older
pending (Timed direction time micros ∷ older) = pending older
pending (Sent state toggle micros ∷ older) = if same_state state BootUp then None else pending older
pending (Exchanged frame micros ∷ older) = pending_by frame micros

-- how long a request waited for a response; none where the stamp steps back
abbrev pub answer_time : Option ℕ → SdoFrame → ℕ → Option ℕ
answer_time (Some request) Response micros = if nat_lt micros request then None else Some (micros - request)
answer_time _ _ micros = None

-- the longer one
abbrev pub longer : Option ℕ → Option ℕ → Option ℕ
longer None time = time
longer (Some a) None = Some a
longer (Some a) (Some b) = Some (max a b)

-- the longest answer, if there is any
unfoldable pub longest_answer : List NodeEvent → Option ℕ
longest_answer [] = None
longest_answer (Commanded ∷ older) = longest_answer older
longest_answer (Asked micros ∷ older) = longest_answer older
longest_answer (Timed direction time micros ∷ older) = longest_answer older
longest_answer (Sent state toggle micros ∷ older) = longest_answer older
longest_answer (Exchanged frame micros ∷ older) = longer (longest_answer older) (answer_time (pending older) frame micros)

-- ---- the producer heartbeat time

-- the time of the newest transfer since the last boot-up, in ms; at a boot-up a node has the time
-- that it stored, which a recording doesn't show
unfoldable pub written_time : List NodeEvent → Option ℕ
written_time [] = None
written_time (Commanded ∷ older) = written_time older
written_time (Asked micros ∷ older) = written_time older
written_time (Exchanged frame micros ∷ older) = written_time older
written_time (Timed direction time micros ∷ older) = Some time
written_time (Sent state toggle micros ∷ older) = if same_state state BootUp then None else written_time older

-- ---- heartbeats

-- a download begins a new wait; an upload does only where none is known
abbrev pub since_by : Direction → ℕ → Option ℕ → Option ℕ
since_by Download micros since = Some micros
since_by Upload micros None = Some micros
since_by Upload micros (Some since) = Some since

-- since when a heartbeat is awaited: since the newest frame of error control, or the download of
-- the time that came after it
unfoldable pub since : List NodeEvent → Option ℕ
since [] = None
since (Commanded ∷ older) = since older
since (Asked micros ∷ older) = since older
since (Exchanged frame micros ∷ older) = since older
since (Timed direction time micros ∷ older) = since_by direction micros (since older)
since (Sent state toggle micros ∷ older) = Some micros

-- how long a heartbeat was awaited; none where the stamp steps back
abbrev pub wait : Option ℕ → ℕ → Option ℕ
wait None micros = None
wait (Some since) micros = if nat_lt micros since then None else Some (micros - since)

-- whether a wait in µs is longer than 1.5 times a producer heartbeat time in ms; 0 is for no
-- heartbeats
abbrev pub is_late : ℕ → ℕ → Bool
is_late time gap = nat_lt 0 time && nat_lt (1500 * time) gap

abbrev pub late_with : Option ℕ → Option ℕ → List ℕ → List ℕ
late_with (Some time) (Some gap) gaps = if is_late time gap then gap ∷ gaps else gaps
late_with _ _ gaps = gaps

-- the waits for heartbeats that were too long by the time that a transfer shows; the time up to a
-- boot-up is none
unfoldable pub late_gaps : List NodeEvent → List ℕ
late_gaps [] = []
late_gaps (Commanded ∷ older) = late_gaps older
late_gaps (Asked micros ∷ older) = late_gaps older
late_gaps (Exchanged frame micros ∷ older) = late_gaps older
late_gaps (Timed direction time micros ∷ older) = late_gaps older
late_gaps (Sent state toggle micros ∷ older) =
    if same_state state BootUp then late_gaps older
    else late_with (written_time older) (wait (since older) micros) (late_gaps older)

abbrev pub other_with : Option ℕ → Option ℕ → List ℕ → List ℕ
other_with None (Some gap) gaps = gap ∷ gaps
other_with _ _ gaps = gaps

-- the waits for heartbeats while no transfer shows the time
unfoldable pub other_gaps : List NodeEvent → List ℕ
other_gaps [] = []
other_gaps (Commanded ∷ older) = other_gaps older
other_gaps (Asked micros ∷ older) = other_gaps older
other_gaps (Exchanged frame micros ∷ older) = other_gaps older
other_gaps (Timed direction time micros ∷ older) = other_gaps older
other_gaps (Sent state toggle micros ∷ older) =
    if same_state state BootUp then other_gaps older
    else other_with (written_time older) (wait (since older) micros) (other_gaps older)

-- how many of them are kept for their median
abbrev pub most_gaps : ℕ
most_gaps = 32

-- those that came first, in the order in which they came
abbrev pub first_gaps : List ℕ → List ℕ
first_gaps gaps = take most_gaps (reverse gaps)

-- the whole
unfoldable pub heartbeats_of : List NodeEvent → Heartbeats
heartbeats_of log = record {
  written = written_time log;
  since = since log;
  late = counted (length (late_gaps log));
  longest_late = greatest (late_gaps log);
  longest = greatest (other_gaps log);
  first = first_gaps (other_gaps log);
}

-- ---- one event more, as it is counted

abbrev pub first_with : ℕ → List ℕ → List ℕ
first_with gap gaps = if nat_lt (length gaps) most_gaps then gaps ++ gap ∷ [] else gaps

-- one that was too long
abbrev pub late_one : ℕ → Heartbeats → Heartbeats
late_one gap heartbeats = record heartbeats {
  late = counted (heartbeats.late + 1);
  longest_late = max heartbeats.longest_late gap;
}

-- a wait for a heartbeat
abbrev pub gap_with : Option ℕ → ℕ → Heartbeats → Heartbeats
gap_with (Some time) gap heartbeats = if is_late time gap then late_one gap heartbeats else heartbeats
gap_with None gap heartbeats =
    record heartbeats { longest = max heartbeats.longest gap; first = first_with gap heartbeats.first }

abbrev pub wait_with : Option ℕ → Heartbeats → Heartbeats
wait_with None heartbeats = heartbeats
wait_with (Some gap) heartbeats = gap_with heartbeats.written gap heartbeats

-- a frame of error control
abbrev pub beat_with : Bool → ℕ → Heartbeats → Heartbeats
beat_with true micros heartbeats = record heartbeats { written = None; since = Some micros }
beat_with false micros heartbeats =
    record (wait_with (wait heartbeats.since micros) heartbeats) { since = Some micros }

-- a transfer that shows the time
abbrev pub timed_with : Direction → ℕ → ℕ → Heartbeats → Heartbeats
timed_with direction time micros heartbeats =
    record heartbeats { written = Some time; since = since_by direction micros heartbeats.since }
