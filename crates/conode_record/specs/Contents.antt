-- What follows the number sign of a frame line: its data, or a remote frame's length, and the
-- direction.
use Rattle.std.specs.Prelude.{ℕ, Bool, ◌-◌, ◌==◌, nat_le, nat_lt, not, ◌&&◌, ◌||◌, if◌then◌else◌, List, [], ◌∷◌, length, take, drop, slice_index, Option, Some, None, Result, Ok, Err}
use Rattle.std.specs.List.{list_all}
use Rattle.conode_record.specs.declared.bad_line.BadLine.{BadLine}
use Rattle.conode_record.specs.declared.bad_line.BadLine.TheVariants as bad
use Rattle.conode_record.specs.declared.content.Content.{Content}
use Rattle.conode_record.specs.declared.content.Content.TheVariants.{Data, Remote, Fd}
use Rattle.conode_record.specs.declared.content.Direction.{Direction}
use Rattle.conode_record.specs.declared.content.Direction.TheVariants.{Received, Sent}
use Rattle.co_text.specs.Texts.{is_blank, is_digit, hex_digit}
use Rattle.co_text.specs.HexPairs.{pairs_at}
use Rattle.conode_trace.specs.FrameLines.{is_mark}

-- f of a part of the line, or what is wrong if the part is missing
abbrev pub need : {A B : Type 0} → BadLine → Option A → (A → Result B BadLine) → Result B BadLine
need wrong None f = Err wrong
need wrong (Some found) f = f found

-- f of a part of the line, unless the part is wrong
abbrev pub and_then : {A B : Type 0} → Result A BadLine → (A → Result B BadLine) → Result B BadLine
and_then (Err wrong) f = Err wrong
and_then (Ok found) f = f found

-- `R` is received, `T` sent
abbrev pub direction_of : ℕ → Direction
direction_of mark = if mark == 82 then Received else Sent

-- blanks and a mark
abbrev pub is_marked : List ℕ → Bool
is_marked text =
    let last = length text - 1 in
    nat_lt 0 last && (is_mark (slice_index text last) && list_all is_blank (take last text))

-- the direction in the rest of a line, if there is one
abbrev pub ending_in : List ℕ → Result (Option Direction) BadLine
ending_in text =
    if length text == 0 then Ok None
    else (if not (is_blank (slice_index text 0)) then Err bad.Data
    else (if is_marked text then Ok (Some (direction_of (slice_index text (length text - 1)))) else Err bad.Ending))

-- the bytes that the pairs of digits at the front spell, if they are at most so many, and what
-- follows
abbrev pub few_pairs : ℕ → List ℕ → Option (List ℕ × List ℕ)
few_pairs most text = let pairs = pairs_at text in if nat_le (length pairs.0) most then Some pairs else None

-- pairs of digits for at most so many bytes, and the direction
abbrev pub bytes_in : ℕ → List ℕ → Result (List ℕ × Option Direction) BadLine
bytes_in most text =
    need bad.TooManyBytes (few_pairs most text) (λ pairs.
    and_then (ending_in pairs.1) (λ direction. Ok (pairs.0, direction)))

-- a data frame, from its data on
abbrev pub data_in : List ℕ → Result (Content × Option Direction) BadLine
data_in text = and_then (bytes_in 8 text) (λ found. Ok (Data found.0, found.1))

-- a CAN FD frame, from its flags on
abbrev pub fd_in : List ℕ → Result (Content × Option Direction) BadLine
fd_in [] = Err bad.Flags
fd_in (digit ∷ text) =
    need bad.Flags (hex_digit digit) (λ flags. and_then (bytes_in 64 text) (λ found. Ok (Fd flags found.0, found.1)))

-- the length of a remote frame: a digit up to 8, or none for 0; and what follows
abbrev pub length_at : List ℕ → Option (ℕ × List ℕ)
length_at text =
    let first = slice_index text 0 in
    if is_digit first
    then (if nat_le first 56 then Some (first - 48, drop 1 text) else None)
    else Some (0, text)

-- a remote frame, from its length on
abbrev pub remote_in : List ℕ → Result (Content × Option Direction) BadLine
remote_in text =
    need bad.Length (length_at text) (λ found. and_then (ending_in found.1) (λ direction. Ok (Remote found.0, direction)))

-- a CAN FD frame or a remote frame follows, by its first byte
abbrev pub is_other : List ℕ → Bool
is_other text = (slice_index text 0 == 35) || (slice_index text 0 == 82)

-- what follows the number sign: another sign (CAN FD), `R` (a remote frame), or data
unfoldable pub content_in : List ℕ → Result (Content × Option Direction) BadLine
content_in text =
    if slice_index text 0 == 35 then fd_in (drop 1 text)
    else (if slice_index text 0 == 82 then remote_in (drop 1 text) else data_in text)
