-- What a trace line says, read from its front.
use Rattle.std.specs.Prelude.{ℕ, ◌+◌, ◌-◌, ◌*◌, ◌/◌, ◌==◌, nat_le, nat_lt, ◌<◌, Bool, not, ◌&&◌, ◌||◌, if◌then◌else◌, List, [], ◌∷◌, length, take, drop, slice_index, Option, Some, None}
use Rattle.std.specs.List.{prefix_len, list_all}
use Rattle.std.specs.Option.{option_map}
use Rattle.conode_trace.specs.declared.trace_line.TraceLine.{TraceLine}
use Rattle.conode_trace.specs.declared.trace_line.TraceLine.TheVariants.{Skipped, PassedOver, Data, Event}
use Rattle.conode_trace.specs.declared.frame_fields.Identifier.{Identifier}
use Rattle.conode_trace.specs.declared.frame_fields.Identifier.TheVariants.{Base, Extended}
use Rattle.conode_trace.specs.declared.frame_fields.Body.{Body}
use Rattle.conode_trace.specs.declared.frame_fields.Body.TheVariants.{Bytes, Other}
use Rattle.co_text.specs.Texts.{◌>>=◌, is_blank, is_digit, decimal_value, hex_digit, is_hex_digit}
use Rattle.co_text.specs.HexPairs.{pairs_at}
use Rattle.conode_trace.specs.Events.{words, event_in, HasFewBytes}

-- what follows this byte, which must come first
abbrev pub past_byte : ℕ → List ℕ → Option (List ℕ)
past_byte wanted [] = None
past_byte wanted (byte ∷ text) = if byte == wanted then Some text else None

-- what follows the bytes at the front that pass, if there are least to most of them
abbrev pub past_run : (ℕ → Bool) → ℕ → ℕ → List ℕ → Option (List ℕ)
past_run passes least most text =
    let n = prefix_len passes text in
    if nat_le least n && nat_le n most then Some (drop n text) else None

-- the digits at the front as a number, if there are least to most of them, and what follows
abbrev pub number_at : ℕ → ℕ → List ℕ → Option (ℕ × List ℕ)
number_at least most text =
    let n = prefix_len is_digit text in
    if nat_le least n && nat_le n most then Some (decimal_value (take n text), drop n text) else None

-- the stamp in ms, seconds and microseconds in parentheses, and what follows
unfoldable pub stamp_at : List ℕ → Option (ℕ × List ℕ)
stamp_at text = do
  opened ← past_byte 40 text
  seconds ← number_at 1 12 opened
  point ← past_byte 46 seconds.1
  micros ← number_at 6 6 point
  rest ← past_byte 41 micros.1
  Some (1000 * seconds.0 + micros.0 / 1000, rest)

-- any byte but a blank
abbrev pub is_name_byte : ℕ → Bool
is_name_byte byte = not (is_blank byte)

-- an identifier that a data frame may have
abbrev pub IsIdentifier : Identifier → Type 0
IsIdentifier (Base id) = id < 2048
IsIdentifier Extended = Unit {0}

-- three hexadecimal digits as a number
abbrev pub three_digits : List ℕ → Option ℕ
three_digits text = do
  high ← hex_digit (slice_index text 0)
  middle ← hex_digit (slice_index text 1)
  low ← hex_digit (slice_index text 2)
  Some (256 * high + 16 * middle + low)

-- an identifier of three digits, at most 7FF, or of eight, then the number sign, and what follows
unfoldable pub identifier_at : List ℕ → Option (Identifier × List ℕ)
identifier_at text =
    if slice_index text 3 == 35
    then (three_digits text >>= λ id. if nat_le id 0x7FF then Some (Base id, drop 4 text) else None)
    else (if (slice_index text 8 == 35) && list_all is_hex_digit (take 8 text)
    then Some (Extended, drop 9 text) else None)

-- the bytes that the pairs of digits at the front spell, if they are at most eight, and what
-- follows
abbrev pub few_pairs_at : List ℕ → Option (List ℕ × List ℕ)
few_pairs_at text = let pairs = pairs_at text in if nat_le (length pairs.0) 8 then Some pairs else None

-- `R` (received) or `T` (transmitted)
abbrev pub is_mark : ℕ → Bool
is_mark byte = (byte == 82) || (byte == 84)

-- nothing, or blanks and a mark
abbrev pub is_ending : List ℕ → Bool
is_ending text =
    let last = length text - 1 in
    (length text == 0)
    || (nat_lt 0 last && (is_mark (slice_index text last) && list_all is_blank (take last text)))

-- what follows one decimal digit, or all of it where there is none
abbrev pub past_digit : List ℕ → List ℕ
past_digit text = if is_digit (slice_index text 0) then drop 1 text else text

-- what follows the number sign: another sign (CAN FD), `R` (a remote frame), or at most eight pairs
-- of digits
unfoldable pub body_in : List ℕ → Option Body
body_in text =
    if slice_index text 0 == 35 then Some Other
    else (if slice_index text 0 == 82
    then (if is_ending (past_digit (drop 1 text)) then Some Other else None)
    else (few_pairs_at text >>= λ pairs.
    if is_ending pairs.1 then Some (Bytes pairs.0) else None))

-- a data frame with an identifier of three digits, or a frame that is passed over
abbrev pub line_of : ℕ → Identifier → Body → TraceLine
line_of stamp (Base id) (Bytes bytes) = Data stamp (record { id = id; bytes = bytes })
line_of stamp (Base id) Other = PassedOver stamp
line_of stamp Extended body = PassedOver stamp

-- what a frame line says from its identifier on
unfoldable pub frame_at : ℕ → List ℕ → Option TraceLine
frame_at stamp text = do
  id ← identifier_at text
  body ← body_in id.1
  Some (line_of stamp id.0 body)

-- what a frame line says
unfoldable pub frame_line_in : List ℕ → Option TraceLine
frame_line_in line = do
  stamp ← stamp_at line
  name ← past_run is_blank 1 512 stamp.1
  blanks ← past_run is_name_byte 1 15 name
  frame ← past_run is_blank 1 512 blanks
  frame_at stamp.0 frame

-- an empty line or a comment
abbrev pub is_skipped : List ℕ → Bool
is_skipped line = (length line == 0) || (slice_index line 0 == 59)

-- a line that begins with `!` can only be an event line
abbrev pub begins_as_event : List ℕ → Bool
begins_as_event line = slice_index line 0 == 33

-- what a trace line says
unfoldable pub line_in : List ℕ → Option TraceLine
line_in line =
    if nat_lt 512 (length line) then None
    else (if is_skipped line then Some Skipped
    else (if begins_as_event line then option_map Event (event_in (words line)) else frame_line_in line))

-- a line whose bytes, if it writes some, are at most 256
abbrev pub WritesFewBytes : TraceLine → Type 0
WritesFewBytes (Event event) = HasFewBytes event
WritesFewBytes other = Unit {0}
