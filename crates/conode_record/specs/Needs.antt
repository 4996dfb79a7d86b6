-- A part of a line, or what is wrong if it is missing.
use Rattle.std.specs.Prelude.{Option, Some, None, Result, Ok, Err}
use Rattle.conode_record.specs.declared.bad_log_line.BadLogLine.{BadLogLine}

-- f of a part of the line, or what is wrong if the part is missing
abbrev pub need : {A B : Type 0} → BadLogLine → Option A → (A → Result B BadLogLine) → Result B BadLogLine
need wrong None f = Err wrong
need wrong (Some found) f = f found

-- f of a part of the line, unless the part is wrong
abbrev pub and_then : {A B : Type 0} → Result A BadLogLine → (A → Result B BadLogLine) → Result B BadLogLine
and_then (Err wrong) f = Err wrong
and_then (Ok found) f = f found
