-- What candump shows on a screen: a stamp, if there is one, the interface, with `-x` the direction
-- and the flags of a CAN FD frame, the identifier, the length in brackets, the bytes, and with `-a`
-- their characters.
use Rattle.std.specs.Prelude.{ℕ, ◌+◌, ◌-◌, ◌==◌, Bool, true, false, ◌&&◌, ◌||◌, if◌then◌else◌, List, length, take, drop, slice_index, Option, Some, None, is_some, Result, Ok, Err, codes, bytes_eq}
use Rattle.std.specs.Option.{option_map, option_map_or}
use Rattle.co_text.specs.Texts.{◌>>=◌, decimal_in}
use Rattle.conode_record.specs.declared.content.Direction.{Direction}
use Rattle.conode_record.specs.declared.content.Direction.TheVariants.{Received, Sent}
use Rattle.conode_record.specs.declared.fields.Identifier.{Identifier}
use Rattle.conode_record.specs.Fields.{eight_digits, hex_number, stamp_at}
use Rattle.conode_record.specs.declared.bad_log_line.BadLogLine.{BadLogLine}
use Rattle.conode_record.specs.declared.bad_log_line.BadLogLine.TheVariants as bad
use Rattle.conode_record.specs.declared.frame.LogContent.{LogContent}
use Rattle.conode_record.specs.declared.frame.LogContent.TheVariants.{Data, Remote, Fd}
use Rattle.conode_record.specs.declared.frame.LogLine.{LogLine}
use Rattle.conode_record.specs.declared.frame.LogLine.TheVariants.{Skipped}
use Rattle.conode_record.specs.declared.frame.Place.TheVariants.{Interface}
use Rattle.conode_record.specs.declared.numbers.Base.TheVariants.{Hexadecimal}
use Rattle.conode_logs.specs.declared.screen.Marks.{Marks}
use Rattle.conode_record.specs.Needs.{need, and_then}
use Rattle.conode_record.specs.Numbers.{moment_at, moved}
use Rattle.conode_record.specs.Parts.{bytes_at, frame_of, name_at, short_id}
use Rattle.conode_record.specs.Words.{is_over, next_is, past_gap, word_at}

-- the stamp at the front in microseconds, seconds (`-t a`, `-t z`, `-t d`) or a date in UTC
-- (`-t A`) in parentheses; 0 if there is none; and what follows
unfoldable pub screen_stamp_at : List ℕ → Option (ℕ × List ℕ)
screen_stamp_at line =
    let text = past_gap false line in
    if slice_index text 0 == 40
    then (if is_some (stamp_at text) then stamp_at text else moment_at text)
    else Some (0, text)

-- this letter for a flag that is set, a hyphen for one that isn't
unfoldable pub flag_at : List ℕ → ℕ → List ℕ → Option (ℕ × List ℕ)
flag_at letter value text =
    word_at text >>= λ word.
    if bytes_eq word.0 letter then Some (value, word.1)
    else (if bytes_eq word.0 (codes "-") then Some (0, word.1) else None)

-- bit rate switch and error state indicator
unfoldable pub flags_at : List ℕ → Option (ℕ × List ℕ)
flags_at text = do
  switch ← flag_at (codes "B") 1 text
  error ← flag_at (codes "E") 2 switch.1
  Some (switch.0 + error.0, error.1)

-- `TX` is sent, `RX` received
abbrev pub mark_of : List ℕ → Option Direction
mark_of word =
    if bytes_eq word (codes "TX") then Some Sent
    else (if bytes_eq word (codes "RX") then Some Received else None)

-- the direction at the front, and what follows
unfoldable pub mark_at : List ℕ → Option (Direction × List ℕ)
mark_at text = word_at text >>= λ word. option_map (λ direction. (direction, word.1)) (mark_of word.0)

-- direction and flags, if there are any, and what follows
unfoldable pub marks_at : List ℕ → Option (Marks × List ℕ)
marks_at text =
    option_map_or
    (λ mark. option_map (λ flags. (record { direction = Some mark.0; flags = flags.0 }, flags.1)) (flags_at mark.1))
    (mark_at text) (Some (record { direction = None; flags = 0 }, text))

-- an identifier of three digits, or of eight, which may be an error frame's
abbrev pub screen_id : List ℕ → Option Identifier
screen_id word =
    if length word == 3 then hex_number word >>= short_id
    else (if length word == 8 then hex_number word >>= eight_digits else None)

-- the identifier at the front, and what follows
unfoldable pub screen_id_at : List ℕ → Option (Identifier × List ℕ)
screen_id_at text = word_at text >>= λ word. option_map (λ id. (id, word.1)) (screen_id word.0)

-- the number in brackets: one digit up to 8, or of a CAN FD frame two up to 64
abbrev pub length_in : List ℕ → Option (Bool × ℕ)
length_in word =
    let last = length word - 1 in
    let number = drop 1 (take last word) in
    if (slice_index word 0 == 91) && (slice_index word last == 93)
    then (if length word == 3 then option_map (λ count. (false, count)) (decimal_in 0 8 number)
    else (if length word == 4 then option_map (λ count. (true, count)) (decimal_in 0 64 number) else None))
    else None

-- nothing, the characters of the bytes after an apostrophe, or the word for an error frame
unfoldable pub screen_ends : List ℕ → Bool
screen_ends text =
    option_map_or (λ word. (slice_index word.0 0 == 39) || bytes_eq word.0 (codes "ERRORFRAME")) (word_at text) true

-- so many bytes, and an ending
abbrev pub screen_bytes : ℕ → List ℕ → Result (List ℕ) BadLogLine
screen_bytes count text =
    need bad.Data (bytes_at Hexadecimal count text) (λ found. if screen_ends found.1 then Ok found.0 else Err bad.Ending)

-- `remote request`, or so many bytes
abbrev pub screen_classic : ℕ → List ℕ → Result LogContent BadLogLine
screen_classic count text =
    if next_is (codes "remote") text then Ok (Remote count)
    else and_then (screen_bytes count text) (λ bytes. Ok (Data bytes))

-- a length in brackets, and the data
unfoldable pub screen_content : ℕ → List ℕ → Result LogContent BadLogLine
screen_content flags text =
    need bad.Length (word_at text) (λ word.
    need bad.Length (length_in word.0) (λ found.
    if found.0 then and_then (screen_bytes found.1 word.1) (λ bytes. Ok (Fd flags bytes))
    else screen_classic found.1 word.1))

-- a frame from its interface on
unfoldable pub screen_frame : ℕ → List ℕ → Result LogLine BadLogLine
screen_frame micros text =
    need bad.Interface (name_at text) (λ name.
    need bad.Flags (marks_at name.1) (λ marks.
    need bad.Identifier (screen_id_at marks.1) (λ id.
    and_then (screen_content marks.0.flags id.1) (λ content.
    Ok (frame_of micros (Interface name.0) id.0 content marks.0.direction)))))

-- a line without a word, or one that begins with a tab, as `-e` writes what an error frame says
abbrev pub is_screen_note : List ℕ → Bool
is_screen_note line = (slice_index line 0 == 9) || is_over line

-- what a line says that isn't a note, and the clock after it
unfoldable pub screen_timed : Bool → ℕ → List ℕ → ℕ × Result LogLine BadLogLine
screen_timed sums clock line =
    option_map_or
    (λ stamp. option_map_or (λ now. (now, screen_frame now stamp.1)) (moved sums clock stamp.0) (clock, Err bad.TooLate))
    (screen_stamp_at line) (clock, Err bad.Stamp)

-- what a line says, and the clock after it
unfoldable pub screen_line : Bool → ℕ → List ℕ → ℕ × Result LogLine BadLogLine
screen_line sums clock line = if is_screen_note line then (clock, Ok Skipped) else screen_timed sums clock line
