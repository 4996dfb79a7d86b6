-- The frames of a recording, as any recorder writes it, and how many of its lines are bad. A frame
-- of another form of log is read as the line that `convert` writes for it.
use Rattle.std.specs.Prelude.{ℕ, ◌+◌, Bool, nat_lt, ◌||◌, if◌then◌else◌, List, [], ◌∷◌, length, Option, Some, None, Result, Ok, Err}
use Rattle.std.specs.Str.Lines.{lines}
use Rattle.co_stream.specs.Founds.{is_closed}
use Rattle.conode_convert.specs.Converted.{at_start}
use Rattle.conode_convert.specs.Printed.{frame_text}
use Rattle.conode_record.specs.declared.bad_log_line.BadLogLine.{BadLogLine}
use Rattle.conode_record.specs.declared.frame.LogLine.{LogLine}
use Rattle.conode_record.specs.declared.frame.LogLine.TheVariants as log_line
use Rattle.conode_logs.specs.declared.log.Form.{Form}
use Rattle.conode_logs.specs.declared.log.Log.{Log}
use Rattle.conode_logs.specs.Logs.{says}
use Rattle.conode_record.specs.declared.bad_line.BadLine.{BadLine}
use Rattle.conode_record.specs.declared.line.Record.{Record}
use Rattle.conode_record.specs.declared.line.RecordLine.{RecordLine}
use Rattle.conode_record.specs.declared.line.RecordLine.TheVariants.{Skipped, Frame}
use Rattle.conode_record.specs.Lines.{line_in}
use Rattle.conode_stats_counts.specs.Buses.{Counted, counts_with}

-- ---- what a line says

-- a line as `candump -L` writes it; none if it is bad
abbrev pub good : Result RecordLine BadLine → Option RecordLine
good (Ok line) = Some line
good (Err bad) = None

-- a line that says this to the log's reader
abbrev pub record_in : List ℕ → Result LogLine BadLogLine → Option RecordLine
record_in line (Ok log_line.Skipped) = Some Skipped
record_in line (Ok log_line.AsItIs) = good (line_in line)
record_in line (Ok (log_line.Frame frame)) = good (line_in (frame_text frame))
record_in line (Err bad) = None

-- a line of a log in this state
unfoldable pub line_at : Log → List ℕ → Option RecordLine
line_at log line = record_in line (says log line).1

-- ---- the frames

-- the frames so far, the newest first, with the frame of a line, if it has one
abbrev pub frames_after : List Record → Option RecordLine → List Record
frames_after frames (Some (Frame frame)) = frame ∷ frames
frames_after frames (Some Skipped) = frames
frames_after frames None = frames

-- the counts so far, with the frame of a line, if it has one
abbrev pub counts_after : Counted → Option RecordLine → Counted
counts_after counts (Some (Frame frame)) = counts_with counts frame
counts_after counts (Some Skipped) = counts
counts_after counts None = counts

-- the frames of lines, after those so far; a line of more than 512 bytes is bad, and says nothing
-- of the log
unfoldable pub frames_from : Log → List Record → List (List ℕ) → List Record
frames_from log frames [] = frames
frames_from log frames (line ∷ more) =
    if nat_lt 512 (length line) then frames_from log frames more
    else frames_from (says log line).0 (frames_after frames (line_at log line)) more

-- the frames of a log of this form, the newest first
abbrev pub frames_of : Form → List ℕ → List Record
frames_of form text = frames_from (at_start form) [] (lines text)

-- ---- how many lines are bad

-- 1 for a bad line
abbrev pub faults_in : Option RecordLine → ℕ
faults_in (Some says) = 0
faults_in None = 1

-- 1 for a bad line, or one of more than 512 bytes
abbrev pub faults_of : Log → List ℕ → ℕ
faults_of log line = if nat_lt 512 (length line) then 1 else faults_in (line_at log line)

-- the log after a line
abbrev pub log_after : Log → List ℕ → Log
log_after log line = if nat_lt 512 (length line) then log else (says log line).0

-- How many lines are bad. The last one counts only with its line feed, or if it is too long: a
-- recording that is stopped ends within a line.
unfoldable pub bad_from : Bool → Log → List (List ℕ) → ℕ
bad_from closed log [] = 0
bad_from closed log (line ∷ []) = if closed || nat_lt 512 (length line) then faults_of log line else 0
bad_from closed log (line ∷ next ∷ more) = faults_of log line + bad_from closed (log_after log line) (next ∷ more)

-- how many lines of a text are bad, from this log on
abbrev pub bad_count : Log → List ℕ → ℕ
bad_count log text = bad_from (is_closed text) log (lines text)
