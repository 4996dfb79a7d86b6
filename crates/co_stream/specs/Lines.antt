-- Lines of a text that comes in pieces.
use Rattle.std.specs.Prelude.{◌≡◌, ℕ, ◌<◌, Bool, true, false, ◌==◌, nat_lt, List, [], ◌∷◌, ◌++◌, length, drop, Option, Some, None, ⊤}
use Rattle.std.specs.List.{list_any}
use Rattle.std.specs.Str.Lines.{lines, strip_carriage_return}

-- whether a line ends among these bytes
abbrev pub has_line_feed : List ℕ → Bool
has_line_feed bytes = list_any (λ byte. byte == 10) bytes

-- the place after the last line feed of the bytes: from a start on they contain a line feed exactly
-- if the start is below this place
abbrev pub EndsAt : ℕ → List ℕ → Type 0
EndsAt place bytes = (start : ℕ) → has_line_feed (drop start bytes) ≡ nat_lt start place

-- the bytes, and a carriage return after them where there is one
abbrev pub with_return : List ℕ → Bool → List ℕ
with_return bytes true = bytes ++ 13 ∷ []
with_return bytes false = bytes

-- the first line has more than 512 bytes
abbrev pub IsTooLong : List ℕ → Type 0
IsTooLong bytes = (line : List ℕ) × (more : List (List ℕ)) × (lines bytes ≡ line ∷ more) × (512 < length line)

-- where the bytes are known, this line is the first of theirs, and exactly the lines after it
-- remain
abbrev pub GivesLine : Option (List ℕ) → Option (List ℕ) → List ℕ → Type 0
GivesLine None new line = ⊤
GivesLine (Some bytes) None line = ⊥
GivesLine (Some bytes) (Some rest) line = lines bytes ≡ line ∷ lines rest

-- a line that has begun grows longer than 512 bytes before the first line feed of these bytes
abbrev pub BeginsTooLong : List ℕ → List ℕ → Type 0
BeginsTooLong begun bytes =
    (front : List ℕ) × (after : List ℕ) × (bytes ≡ front ++ after) × (has_line_feed front ≡ false)
    × (512 < length (strip_carriage_return (begun ++ front)))
