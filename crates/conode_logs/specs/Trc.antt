-- The `.trc` logs of PCAN-View and PCAN-Explorer. Versions 1.1 and 1.3 have the columns number,
-- time in ms, with 1.3 the bus, type, identifier, with 1.3 a reserved column, data length code,
-- data. Versions 2.0 and 2.1 name theirs: number (N), time in ms (O), type (T), perhaps the bus
-- (B), identifier (I), direction (d), perhaps a reserved column (R), data length code (L) or data
-- length (l), data (D).
use Rattle.std.specs.Prelude.{ℕ, ◌==◌, nat_eq, nat_le, Bool, ◌&&◌, true, false, ◌||◌, if◌then◌else◌, List, length, slice_index, Option, Some, None, Result, Ok, Err, codes, bytes_eq}
use Rattle.std.specs.List.{starts_with}
use Rattle.std.specs.Option.{option_map, option_map_or}
use Rattle.co_text.specs.Texts.{◌>>=◌}
use Rattle.conode_record.specs.declared.content.Direction.{Direction}
use Rattle.conode_record.specs.declared.fields.Identifier.{Identifier}
use Rattle.conode_record.specs.Fields.{hex_number}
use Rattle.conode_record.specs.declared.bad_log_line.BadLogLine.{BadLogLine}
use Rattle.conode_record.specs.declared.bad_log_line.BadLogLine.TheVariants as bad
use Rattle.conode_record.specs.declared.frame.LogContent.{LogContent}
use Rattle.conode_record.specs.declared.frame.LogContent.TheVariants.{Data, Remote, Fd}
use Rattle.conode_record.specs.declared.frame.LogLine.{LogLine}
use Rattle.conode_record.specs.declared.frame.LogLine.TheVariants.{Skipped}
use Rattle.conode_record.specs.declared.frame.Place.TheVariants.{Channel}
use Rattle.conode_record.specs.declared.numbers.Base.TheVariants.{Hexadecimal}
use Rattle.conode_logs.specs.declared.trc.Columns.{Columns}
use Rattle.conode_logs.specs.declared.trc.Message.{Message}
use Rattle.conode_logs.specs.declared.trc.Message.TheVariants as message
use Rattle.conode_record.specs.Needs.{need, and_then}
use Rattle.conode_record.specs.Numbers.{millis_in}
use Rattle.conode_record.specs.Parts.{bytes_at, channel_at, count_at, direction_of, direction_at, error_frame, extended_id, fd_length, frame_of, short_id}
use Rattle.conode_record.specs.Words.{is_over, next_is, word_at}

-- ---- which columns

abbrev pub version_1_1 : Columns
version_1_1 = record { typed = false; bus = false; reserved = false; counted = false }

abbrev pub version_1_3 : Columns
version_1_3 = record { typed = false; bus = true; reserved = true; counted = false }

-- columns that a file of version 2.0 or 2.1 names
abbrev pub named : Bool → Bool → Bool → Columns
named bus reserved counted = record { typed = true; bus = bus; reserved = reserved; counted = counted }

-- the line that says which version a file has
abbrev pub is_version : List ℕ → Bool
is_version line = starts_with nat_eq line (codes ";$FILEVERSION=")

-- the columns of the version in that line, for 2.0 and 2.1 those of their files; none for another
-- version
unfoldable pub version_of : List ℕ → Option Columns
version_of line =
    if bytes_eq line (codes ";$FILEVERSION=1.1") then Some version_1_1
    else (if bytes_eq line (codes ";$FILEVERSION=1.3") then Some version_1_3
    else (if bytes_eq line (codes ";$FILEVERSION=2.0") then Some (named false false true)
    else (if bytes_eq line (codes ";$FILEVERSION=2.1") then Some (named true true false) else None)))

-- the line that names the columns
abbrev pub is_columns : List ℕ → Bool
is_columns line = starts_with nat_eq line (codes ";$COLUMNS=")

-- the columns that the line names; none if they are others
unfoldable pub columns_of : List ℕ → Option Columns
columns_of line =
    if bytes_eq line (codes ";$COLUMNS=N,O,T,B,I,d,R,L,D") then Some (named true true false)
    else (if bytes_eq line (codes ";$COLUMNS=N,O,T,B,I,d,R,l,D") then Some (named true true true)
    else (if bytes_eq line (codes ";$COLUMNS=N,O,T,B,I,d,L,D") then Some (named true false false)
    else (if bytes_eq line (codes ";$COLUMNS=N,O,T,B,I,d,l,D") then Some (named true false true)
    else (if bytes_eq line (codes ";$COLUMNS=N,O,T,I,d,R,L,D") then Some (named false true false)
    else (if bytes_eq line (codes ";$COLUMNS=N,O,T,I,d,R,l,D") then Some (named false true true)
    else (if bytes_eq line (codes ";$COLUMNS=N,O,T,I,d,L,D") then Some (named false false false)
    else (if bytes_eq line (codes ";$COLUMNS=N,O,T,I,d,l,D") then Some (named false false true) else None)))))))

-- ---- a message

-- its type in version 1.1 and 1.3: a frame by its direction, an error, or a warning of the
-- controller
unfoldable pub old_message : List ℕ → Option Message
old_message word =
    if bytes_eq word (codes "Error") then Some message.Error
    else (if bytes_eq word (codes "Warng") then Some message.Event
    else option_map (λ direction. message.Old direction) (direction_of word))

-- its type in version 2.0 and 2.1: data (DT), remote request (RR), CAN FD (FD), with bit rate
-- switch (FB), with error state indicator (FE), with both (BI), error (ER), or status (ST), error
-- counters (EC) and event (EV), which are no frames
unfoldable pub new_message : List ℕ → Option Message
new_message word =
    if bytes_eq word (codes "DT") then Some message.Classic
    else (if bytes_eq word (codes "RR") then Some message.Request
    else (if bytes_eq word (codes "FD") then Some (message.Flexible 0)
    else (if bytes_eq word (codes "FB") then Some (message.Flexible 1)
    else (if bytes_eq word (codes "FE") then Some (message.Flexible 2)
    else (if bytes_eq word (codes "BI") then Some (message.Flexible 3)
    else (if bytes_eq word (codes "ER") then Some message.Error
    else (if bytes_eq word (codes "ST") || (bytes_eq word (codes "EC") || bytes_eq word (codes "EV")) then Some message.Event
    else None)))))))

-- the type at the front, and what follows
unfoldable pub message_at : Bool → List ℕ → Option (Message × List ℕ)
message_at typed text =
    word_at text >>= λ word.
    option_map (λ found. (found, word.1)) (if typed then new_message word.0 else old_message word.0)

-- ---- a frame

-- an identifier of four digits, or of 29 bits: eight digits of PCAN's tools, seven or eight of
-- python-can
abbrev pub trc_id : List ℕ → Option Identifier
trc_id word =
    if length word == 4 then hex_number word >>= short_id
    else (if nat_le 5 (length word) && nat_le (length word) 8 then hex_number word >>= extended_id else None)

-- the identifier at the front, and what follows
unfoldable pub trc_id_at : List ℕ → Option (Identifier × List ℕ)
trc_id_at text = word_at text >>= λ word. option_map (λ id. (id, word.1)) (trc_id word.0)

-- what follows the reserved column, if there is one
unfoldable pub past_reserved : Bool → List ℕ → Option (List ℕ)
past_reserved reserved text = if reserved then option_map (λ word. word.1) (word_at text) else Some text

-- so many bytes, and nothing after them
unfoldable pub trc_bytes : ℕ → List ℕ → Result (List ℕ) BadLogLine
trc_bytes count text =
    need bad.Data (bytes_at Hexadecimal count text) (λ found. if is_over found.1 then Ok found.0 else Err bad.Ending)

-- a data frame's bytes, or `RTR` for a remote frame
unfoldable pub trc_classic : ℕ → List ℕ → Result LogContent BadLogLine
trc_classic count text =
    if next_is (codes "RTR") text then Ok (Remote count)
    else and_then (trc_bytes count text) (λ bytes. Ok (Data bytes))

-- the length of a CAN FD frame and what follows: the number of its bytes, or a code for it
unfoldable pub fd_length_at : Bool → List ℕ → Option (ℕ × List ℕ)
fd_length_at counted text =
    if counted then count_at 64 text else option_map (λ code. (fd_length code.0, code.1)) (count_at 15 text)

-- length and data
unfoldable pub trc_content : Message → Bool → List ℕ → Result LogContent BadLogLine
trc_content (message.Flexible flags) counted text =
    need bad.Length (fd_length_at counted text) (λ count.
    and_then (trc_bytes count.0 count.1) (λ bytes. Ok (Fd flags bytes)))
trc_content message.Request counted text =
    need bad.Length (count_at 8 text) (λ count. if is_over count.1 then Ok (Remote count.0) else Err bad.Ending)
trc_content other counted text = need bad.Length (count_at 8 text) (λ count. trc_classic count.0 count.1)

-- the direction, by the type in version 1.1 and 1.3, else from its column
unfoldable pub trc_direction_at : Message → List ℕ → Option (Direction × List ℕ)
trc_direction_at (message.Old direction) text = Some (direction, text)
trc_direction_at other text = direction_at text

-- a frame from its identifier on
unfoldable pub trc_frame : Columns → Message → ℕ → ℕ → List ℕ → Result LogLine BadLogLine
trc_frame columns kind micros channel text =
    need bad.Identifier (trc_id_at text) (λ id.
    need bad.Direction (trc_direction_at kind id.1) (λ direction.
    need bad.Length (past_reserved columns.reserved direction.1) (λ rest.
    and_then (trc_content kind columns.counted rest) (λ content.
    Ok (frame_of micros (Channel channel) id.0 content (Some direction.0))))))

-- a message of this type on a channel
unfoldable pub trc_on : Columns → Message → ℕ → ℕ → List ℕ → Result LogLine BadLogLine
trc_on columns message.Event micros channel text = Ok Skipped
trc_on columns message.Error micros channel text = Ok (error_frame micros (Channel channel))
trc_on columns kind micros channel text = trc_frame columns kind micros channel text

-- the channel, if there is a column for it, else 1; and what follows
unfoldable pub bus_at : Bool → List ℕ → Option (ℕ × List ℕ)
bus_at bus text = if bus then channel_at text else Some (1, text)

-- type and bus of version 1.1 and 1.3, and what follows them
unfoldable pub old_line : Columns → ℕ → List ℕ → Result LogLine BadLogLine
old_line columns micros text =
    need bad.Interface (bus_at columns.bus text) (λ bus.
    need bad.Type (message_at false bus.1) (λ kind. trc_on columns kind.0 micros bus.0 kind.1))

-- a message of this type in version 2.0 and 2.1: its bus, if it is a frame, and what follows
unfoldable pub new_on : Columns → Message → ℕ → List ℕ → Result LogLine BadLogLine
new_on columns message.Event micros text = Ok Skipped
new_on columns kind micros text =
    need bad.Interface (bus_at columns.bus text) (λ bus. trc_on columns kind micros bus.0 bus.1)

-- type and bus of version 2.0 and 2.1
unfoldable pub new_line : Columns → ℕ → List ℕ → Result LogLine BadLogLine
new_line columns micros text =
    need bad.Type (message_at true text) (λ kind. new_on columns kind.0 micros kind.1)

-- what a line says that isn't a comment; its number is ignored
unfoldable pub trc_message : Columns → List ℕ → Result LogLine BadLogLine
trc_message columns line =
    need bad.Stamp (word_at line) (λ number.
    need bad.Stamp (word_at number.1) (λ offset.
    need bad.Stamp (millis_in offset.0) (λ micros.
    if columns.typed then new_line columns micros offset.1 else old_line columns micros offset.1)))

-- a comment names the version, or the columns, or nothing
unfoldable pub trc_comment : Columns → List ℕ → Columns × Result LogLine BadLogLine
trc_comment columns line =
    if is_version line then option_map_or (λ found. (found, Ok Skipped)) (version_of line) (columns, Err bad.Version)
    else (if is_columns line then option_map_or (λ found. (found, Ok Skipped)) (columns_of line) (columns, Err bad.Columns)
    else (columns, Ok Skipped))

-- what a line says, and the columns after it
unfoldable pub trc_line : Columns → List ℕ → Columns × Result LogLine BadLogLine
trc_line columns line =
    if slice_index line 0 == 59 then trc_comment columns line
    else (if is_over line then (columns, Ok Skipped) else (columns, trc_message columns line))
