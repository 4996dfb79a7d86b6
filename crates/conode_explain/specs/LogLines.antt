-- What a line of a log says, as a line of a recording: nothing where it is bad. A frame of another
-- recorder's log is read as the line that `convert` writes of it.
use Rattle.std.specs.Prelude.{ℕ, List, Option, Some, None, Result, Ok, Err}
use Rattle.conode_convert.specs.Printed.{frame_text}
use Rattle.conode_record.specs.declared.bad_log_line.BadLogLine.{BadLogLine}
use Rattle.conode_record.specs.declared.frame.LogLine.{LogLine}
use Rattle.conode_record.specs.declared.frame.LogLine.TheVariants as log_line
use Rattle.conode_logs.specs.declared.log.Log.{Log}
use Rattle.conode_logs.specs.Logs.{says}
use Rattle.conode_record.specs.declared.bad_line.BadLine.{BadLine}
use Rattle.conode_record.specs.declared.line.RecordLine.{RecordLine}
use Rattle.conode_record.specs.declared.line.RecordLine.TheVariants.{Skipped}
use Rattle.conode_record.specs.Lines.{line_in}
use Rattle.conode_explain.specs.declared.step.Said.{Said}
use Rattle.conode_explain.specs.declared.step.Said.TheVariants as said

-- what a line as `candump -L` writes it says
abbrev pub good : Result RecordLine BadLine → Option RecordLine
good (Ok line) = Some line
good (Err bad) = None

-- the same of a line that says this to the log's reader
abbrev pub record_in : List ℕ → Result LogLine BadLogLine → Option RecordLine
record_in line (Ok log_line.Skipped) = Some Skipped
record_in line (Ok log_line.AsItIs) = good (line_in line)
record_in line (Ok (log_line.Frame frame)) = good (line_in (frame_text frame))
record_in line (Err bad) = None

-- what a line of a log says, where it was so far before it
unfoldable pub line_at : Log → List ℕ → Option RecordLine
line_at log line = record_in line (says log line).1

-- the same, where a line as `candump -L` writes it was written of it
abbrev pub said_in : List ℕ → Said → Option RecordLine
said_in text said.Nothing = Some Skipped
said_in text said.Line = good (line_in text)
said_in text (said.Bad words) = None
