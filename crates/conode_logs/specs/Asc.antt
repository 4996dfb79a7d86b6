-- The `.asc` logs of CANalyzer and CANoe: header lines, then events, each with a stamp in seconds.
-- A frame has its channel, its identifier (with an `x` one of 29 bits), its direction, `d` or `r`
-- (remote), its length and data; a CAN FD frame `CANFD`, channel, direction, identifier, perhaps a
-- name, two flags, data length code, number of bytes, data, and after them its duration, its length
-- in bits and its flags.
use Rattle.std.specs.Prelude.{ℕ, ◌+◌, ◌-◌, ◌*◌, ◌/◌, ◌%◌, ◌==◌, nat_eq, nat_le, Bool, true, false, not, ◌||◌, if◌then◌else◌, List, length, take, slice_index, Option, Some, None, unwrap_or, Result, Ok, Err, codes, bytes_eq}
use Rattle.std.specs.List.{starts_with}
use Rattle.std.specs.Option.{option_map, option_map_or}
use Rattle.co_text.specs.Texts.{◌>>=◌, is_digit}
use Rattle.conode_record.specs.declared.content.Direction.{Direction}
use Rattle.conode_record.specs.declared.fields.Identifier.{Identifier}
use Rattle.conode_logs.specs.declared.asc.AscForm.{AscForm}
use Rattle.conode_record.specs.declared.bad_log_line.BadLogLine.{BadLogLine}
use Rattle.conode_record.specs.declared.bad_log_line.BadLogLine.TheVariants as bad
use Rattle.conode_record.specs.declared.frame.LogContent.{LogContent}
use Rattle.conode_record.specs.declared.frame.LogContent.TheVariants.{Data, Remote, Fd}
use Rattle.conode_record.specs.declared.frame.LogLine.{LogLine}
use Rattle.conode_record.specs.declared.frame.LogLine.TheVariants.{Skipped}
use Rattle.conode_record.specs.declared.frame.Place.TheVariants.{Channel}
use Rattle.conode_record.specs.declared.numbers.Base.{Base}
use Rattle.conode_record.specs.declared.numbers.Base.TheVariants.{Hexadecimal, Decimal}
use Rattle.conode_record.specs.Needs.{need, and_then}
use Rattle.conode_record.specs.Numbers.{moved, number_in, seconds_in}
use Rattle.conode_record.specs.Parts.{bytes_at, channel_at, count_at, direction_at, error_frame, extended_id, frame_of, short_id}
use Rattle.conode_record.specs.Words.{is_over, next_is, word_at}

-- ---- the header

-- the first words of lines that say nothing of frames
unfoldable pub is_header : List ℕ → Bool
is_header word =
    bytes_eq word (codes "date") || (bytes_eq word (codes "no") || (bytes_eq word (codes "internal")
    || (bytes_eq word (codes "Begin") || (bytes_eq word (codes "End")
    || (bytes_eq word (codes "previous") || starts_with nat_eq word (codes "//"))))))

-- the base of numbers after `base`, and what follows
unfoldable pub base_at : List ℕ → Option (Base × List ℕ)
base_at text =
    word_at text >>= λ word.
    if bytes_eq word.0 (codes "hex") then Some (Hexadecimal, word.1)
    else (if bytes_eq word.0 (codes "dec") then Some (Decimal, word.1) else None)

-- whether stamps are counted from the event before; they aren't if no word follows
unfoldable pub relative_in : List ℕ → Option Bool
relative_in text =
    if is_over text then Some false
    else (word_at text >>= λ name. if not (bytes_eq name.0 (codes "timestamps")) then None
    else (if next_is (codes "relative") name.1 then Some true
    else (if next_is (codes "absolute") name.1 then Some false else None)))

-- what follows `base`
unfoldable pub form_in : List ℕ → Option AscForm
form_in text = do
  base ← base_at text
  relative ← relative_in base.1
  Some (record { base = base.0; relative = relative })

-- ---- parts of frames

-- an identifier, with an `x` at its end one of 29 bits
abbrev pub asc_id : Base → List ℕ → Option Identifier
asc_id base word =
    let last = length word - 1 in
    if slice_index word last == 120 then number_in base (take last word) >>= extended_id
    else number_in base word >>= short_id

-- the identifier at the front, and what follows
unfoldable pub asc_id_at : Base → List ℕ → Option (Identifier × List ℕ)
asc_id_at base text = word_at text >>= λ word. option_map (λ id. (id, word.1)) (asc_id base word.0)

-- so many bytes; what follows them is ignored
abbrev pub asc_data : Base → ℕ → List ℕ → Result LogContent BadLogLine
asc_data base count text = need bad.Data (bytes_at base count text) (λ found. Ok (Data found.0))

-- the length of a remote frame, else 0
unfoldable pub remote_length : List ℕ → ℕ
remote_length text = option_map_or (λ count. count.0) (count_at 8 text) 0

-- `d`, length and data, or `r`
unfoldable pub asc_content : Base → List ℕ → Result LogContent BadLogLine
asc_content base text =
    need bad.Type (word_at text) (λ word.
    if bytes_eq word.0 (codes "d") then need bad.Length (count_at 8 word.1) (λ count. asc_data base count.0 count.1)
    else (if bytes_eq word.0 (codes "r") then Ok (Remote (remote_length word.1)) else Err bad.Type))

-- the direction of a request to send, which is no frame yet
abbrev pub is_request : List ℕ → Bool
is_request text = next_is (codes "TxRq") text

-- a frame from its identifier on
unfoldable pub asc_frame : Base → ℕ → ℕ → List ℕ → Result LogLine BadLogLine
asc_frame base micros channel text =
    need bad.Identifier (asc_id_at base text) (λ id.
    if is_request id.1 then Ok Skipped
    else need bad.Direction (direction_at id.1) (λ direction.
    and_then (asc_content base direction.1) (λ content.
    Ok (frame_of micros (Channel channel) id.0 content (Some direction.0)))))

-- the first words of a channel's events that are no frames: bus load, overload frames (which carry
-- nothing), and J1939 transport (whose frames have lines of their own)
unfoldable pub is_note : List ℕ → Bool
is_note text =
    next_is (codes "Statistic:") text || (next_is (codes "OverloadFrame") text || next_is (codes "J1939TP") text)

-- an event of a channel: an error frame, one that is no frame, or a frame
unfoldable pub asc_on : Base → ℕ → ℕ → List ℕ → Result LogLine BadLogLine
asc_on base micros channel text =
    if next_is (codes "ErrorFrame") text then Ok (error_frame micros (Channel channel))
    else (if is_note text then Ok Skipped else asc_frame base micros channel text)

-- ---- CAN FD

-- what follows a name, if there is one: a word that doesn't begin with a digit
unfoldable pub past_name : List ℕ → List ℕ
past_name text =
    option_map_or (λ word. if is_digit (slice_index word.0 0) then text else word.1) (word_at text) text

-- bit rate switch and error state indicator, and what follows
unfoldable pub asc_flags_at : List ℕ → Option (ℕ × List ℕ)
asc_flags_at text = do
  switch ← count_at 1 text
  error ← count_at 1 switch.1
  Some (switch.0 + 2 * error.0, error.1)

-- data length code and number of bytes, and what follows; the code is one digit, or up to 15
unfoldable pub asc_length_at : List ℕ → Option ((ℕ × ℕ) × List ℕ)
asc_length_at text = do
  word ← word_at text
  code ← number_in Hexadecimal word.0
  count ← count_at 64 word.1
  Some ((code, count.0), count.1)

-- the flags, the third word after the data, in hexadecimal digits
unfoldable pub flags_after : List ℕ → Option ℕ
flags_after text = do
  duration ← word_at text
  bits ← word_at duration.1
  flags ← word_at bits.1
  number_in Hexadecimal flags.0

-- the kind of a frame, by its last flags: CAN FD (bit 12), remote (bit 4), or a classical data
-- frame
unfoldable pub asc_kind : ℕ → ℕ → ℕ → List ℕ → Result LogContent BadLogLine
asc_kind last flags code bytes =
    if last / 4096 % 2 == 1 then Ok (Fd flags bytes)
    else (if not (nat_le (length bytes) 8) then Err bad.Length
    else (if last / 16 % 2 == 1 then (if nat_le code 8 then Ok (Remote code) else Err bad.Length)
    else Ok (Data bytes)))

-- flags, length and data
unfoldable pub asc_fd_content : Base → List ℕ → Result LogContent BadLogLine
asc_fd_content base text =
    need bad.Flags (asc_flags_at (past_name text)) (λ flags.
    need bad.Length (asc_length_at flags.1) (λ sizes.
    need bad.Data (bytes_at base sizes.0.1 sizes.1) (λ found.
    asc_kind (unwrap_or (flags_after found.1) 0x1000) flags.0 sizes.0.0 found.0)))

-- a frame of a CAN FD channel, from its identifier on
unfoldable pub asc_fd_frame : Base → ℕ → ℕ → Direction → List ℕ → Result LogLine BadLogLine
asc_fd_frame base micros channel direction text =
    need bad.Identifier (asc_id_at base text) (λ id.
    and_then (asc_fd_content base id.1) (λ content.
    Ok (frame_of micros (Channel channel) id.0 content (Some direction))))

-- channel, direction, and an error frame or a frame
unfoldable pub asc_fd : Base → ℕ → List ℕ → Result LogLine BadLogLine
asc_fd base micros text =
    need bad.Interface (channel_at text) (λ channel.
    if is_request channel.1 then Ok Skipped
    else need bad.Direction (direction_at channel.1) (λ direction.
    if next_is (codes "ErrorFrame") direction.1 then Ok (error_frame micros (Channel channel.0))
    else asc_fd_frame base micros channel.0 direction.0 direction.1))

-- ---- lines

-- an event, by its first word: `CANFD`, a channel, or another word, for an event that is no frame
unfoldable pub asc_event : Base → ℕ → List ℕ → Result LogLine BadLogLine
asc_event base micros text =
    need bad.Interface (word_at text) (λ word.
    if bytes_eq word.0 (codes "CANFD") then asc_fd base micros word.1
    else (if not (is_digit (slice_index word.0 0)) then Ok Skipped
    else need bad.Interface (channel_at text) (λ channel. asc_on base micros channel.0 channel.1)))

-- what an event says, and the clock after it
unfoldable pub asc_timed : AscForm → ℕ → List ℕ → List ℕ → ℕ × Result LogLine BadLogLine
asc_timed form clock stamp text =
    option_map_or
    (λ micros. option_map_or (λ now. (now, asc_event form.base now text)) (moved form.relative clock micros) (clock, Err bad.TooLate))
    (seconds_in stamp) (clock, Err bad.Stamp)

-- what a line says, and the form and the clock after it
unfoldable pub asc_line : AscForm → ℕ → List ℕ → AscForm × (ℕ × Result LogLine BadLogLine)
asc_line form clock line =
    option_map_or
    (λ word. if bytes_eq word.0 (codes "base")
    then option_map_or (λ found. (found, (clock, Ok Skipped))) (form_in word.1) (form, (clock, Err bad.Base))
    else (if is_header word.0 then (form, (clock, Ok Skipped)) else (form, asc_timed form clock word.0 word.1)))
    (word_at line) (form, (clock, Ok Skipped))
