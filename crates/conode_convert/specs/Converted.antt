-- What a log is converted to: the lines of its frames as `candump -L` writes them, in order. A bad
-- line gives none, and is counted.
use Rattle.std.specs.Prelude.{ℕ, ◌+◌, Bool, nat_lt, ◌||◌, if◌then◌else◌, List, [], ◌∷◌, ◌++◌, length, Result, Ok, Err}
use Rattle.std.specs.Str.Lines.{lines}
use Rattle.co_stream.specs.Founds.{is_closed}
use Rattle.conode_record.specs.declared.bad_log_line.BadLogLine.{BadLogLine}
use Rattle.conode_record.specs.declared.frame.LogLine.{LogLine}
use Rattle.conode_record.specs.declared.frame.LogLine.TheVariants.{Skipped, AsItIs, Frame}
use Rattle.conode_logs.specs.declared.log.Form.{Form}
use Rattle.conode_logs.specs.declared.log.Log.{Log}
use Rattle.conode_logs.specs.Logs.{says}
use Rattle.conode_convert.specs.Printed.{line_text}

-- a log of a form, before its first line
abbrev pub at_start : Form → Log
at_start form = record { form = form; clock = 0 }

-- ---- the lines that are written

-- what is written for a line that says this
abbrev pub written_of : List ℕ → Result LogLine BadLogLine → List (List ℕ)
written_of line (Ok Skipped) = []
written_of line (Ok AsItIs) = (line ++ 10 ∷ []) ∷ []
written_of line (Ok (Frame frame)) = line_text frame ∷ []
written_of line (Err bad) = []

-- lines converted, from this log on; one of more than 512 bytes is bad, and says nothing of the log
unfoldable pub converted_from : Log → List (List ℕ) → List (List ℕ)
converted_from log [] = []
converted_from log (line ∷ more) =
    if nat_lt 512 (length line) then converted_from log more
    else written_of line (says log line).1 ++ converted_from (says log line).0 more

-- a log of this form, converted
abbrev pub converted : Form → List ℕ → List (List ℕ)
converted form text = converted_from (at_start form) (lines text)

-- ---- how many lines are bad

-- 1 for a bad line
abbrev pub faults_in : Result LogLine BadLogLine → ℕ
faults_in (Ok says) = 0
faults_in (Err bad) = 1

-- 1 for a bad line, or one of more than 512 bytes
abbrev pub faults_of : Log → List ℕ → ℕ
faults_of log line = if nat_lt 512 (length line) then 1 else faults_in (says log line).1

-- the log after a line
abbrev pub log_after : Log → List ℕ → Log
log_after log line = if nat_lt 512 (length line) then log else (says log line).0

-- How many lines are bad. The last one counts only with its line feed, or if it is too long: a
-- recording that is stopped ends within a line.
unfoldable pub bad_from : Bool → Log → List (List ℕ) → ℕ
bad_from closed log [] = 0
bad_from closed log (line ∷ []) = if closed || nat_lt 512 (length line) then faults_of log line else 0
bad_from closed log (line ∷ next ∷ more) = faults_of log line + bad_from closed (log_after log line) (next ∷ more)

-- how many lines of a text are bad, from this log on
abbrev pub bad_count : Log → List ℕ → ℕ
bad_count log text = bad_from (is_closed text) log (lines text)
