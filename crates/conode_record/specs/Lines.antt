-- What a line of a recording says, or what is wrong with it.
use Rattle.std.specs.Prelude.{ℕ, ◌==◌, Bool, ◌||◌, if◌then◌else◌, List, length, slice_index, Result, Ok}
use Rattle.conode_record.specs.declared.bad_line.BadLine.{BadLine}
use Rattle.conode_record.specs.declared.bad_line.BadLine.TheVariants as bad
use Rattle.conode_record.specs.declared.line.RecordLine.{RecordLine}
use Rattle.conode_record.specs.declared.line.RecordLine.TheVariants.{Skipped, Frame}
use Rattle.conode_record.specs.Contents.{need, and_then, content_in}
use Rattle.conode_record.specs.Fields.{stamp_at, interface_at, identifier_at}

-- the frame of a line
unfoldable pub frame_in : List ℕ → Result RecordLine BadLine
frame_in line =
    need bad.Stamp (stamp_at line) (λ stamp.
    need bad.Interface (interface_at stamp.1) (λ interface.
    need bad.Identifier (identifier_at interface.1) (λ id.
    and_then (content_in id.1) (λ content.
    Ok (Frame (record { micros = stamp.0; interface = interface.0; id = id.0; content = content.0; direction = content.1 }))))))

-- an empty line, a comment, or an event line of this project's traces
abbrev pub is_skipped : List ℕ → Bool
is_skipped line =
    (length line == 0) || ((slice_index line 0 == 59) || (slice_index line 0 == 33))

-- what a line says
unfoldable pub line_in : List ℕ → Result RecordLine BadLine
line_in line = if is_skipped line then Ok Skipped else frame_in line
