-- The original data types of a sheet that was adapted: what `OriginalDataType` says of a section
-- (CiA 306, object description; the key is our own).
use Rattle.std.specs.Prelude.{ℕ, ◌&&◌, ◌==◌, if◌then◌else◌, List, [], ◌∷◌, codes, Option, Some, None, option_and_then}
use Rattle.std.specs.Option.{option_or}
use Rattle.co_sheet_text.specs.Text.{lines_of}
use Rattle.co_sheet_changes.specs.Groups.{Group, groups_of, number_in_group}

-- the code of an original type, as it is written, where the type that stands for it has its bytes:
-- REAL32 by UNSIGNED32, UNICODE_STRING by OCTET_STRING, TIME_OF_DAY and TIME_DIFFERENCE by
-- UNSIGNED48, REAL64 by UNSIGNED64
abbrev pub original_text : ℕ → ℕ → Option (List ℕ)
original_text original given =
    if (original == 0x08) && (given == 0x07) then Some (codes "0x0008")
    else if (original == 0x0B) && (given == 0x0A) then Some (codes "0x000B")
    else if (original == 0x0C) && (given == 0x19) then Some (codes "0x000C")
    else if (original == 0x0D) && (given == 0x19) then Some (codes "0x000D")
    else if (original == 0x11) && (given == 0x1B) then Some (codes "0x0011")
    else None

-- that of a section: its first OriginalDataType counts, and its first DataType
abbrev pub original_of : Group → Option (List ℕ)
original_of g =
    option_and_then
    (λ original. option_and_then (original_text original) (number_in_group (codes "DataType") g))
    (number_in_group (codes "OriginalDataType") g)

-- and that of the section with this section line
abbrev pub original_here : ℕ → Group → Option (List ℕ)
original_here line g = if g.head.number == line then original_of g else None

abbrev pub original_among : ℕ → List Group → Option (List ℕ)
original_among line [] = None
original_among line (g ∷ groups) = option_or (original_here line g) (original_among line groups)

unfoldable pub original_at : List ℕ → ℕ → Option (List ℕ)
original_at text line = original_among line (groups_of (lines_of text))
