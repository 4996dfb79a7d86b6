-- What is written of a text: a comment that says who adapted it, then the text as it was where it
-- is accepted, else its pieces.
use Rattle.std.specs.Prelude.{ℕ, ◌+◌, ◌-◌, Bool, true, false, ◌&&◌, ◌==◌, nat_lt, is_none, length, slice_index, if◌then◌else◌, List, [], ◌∷◌, ◌++◌, map, take, codes}
use Rattle.std.specs.List.{before_first, flat_map, list_any}
use Rattle.co_sheet_text.specs.Text.{lines_of, without_mark}
use Rattle.co_sheet_text.specs.Sections.{Property, TextSection}
use Rattle.co_sheet.specs.Accepted.{first_fault}
use Rattle.co_sheet.specs.Content.{ObjectRow, Row}
use Rattle.co_sheet_changes.specs.Pieces.{Piece, written}
use Rattle.co_sheet_adapt.specs.Pieces.{all_pieces}

-- a control character would end the line
abbrev pub shown_byte : ℕ → ℕ
shown_byte byte = if nat_lt byte 32 then 63 else byte

unfoldable pub comment_front : List ℕ
comment_front = codes "; adapted by "

unfoldable pub comment_end : List ℕ
comment_end = codes ": not for configuration tools"

abbrev pub comment_text : List ℕ → List ℕ
comment_text by = comment_front ++ map shown_byte (take 256 by) ++ comment_end

-- LF ends a line, or CR and LF
abbrev pub line_end : Bool → List ℕ
line_end return = if return then 13 ∷ 10 ∷ [] else 10 ∷ []

abbrev pub comment_line : Bool → List ℕ → List ℕ
comment_line return by = comment_text by ++ line_end return

-- whether the first line ends with CR and LF
abbrev pub ends_in_return : List ℕ → Bool
ends_in_return bytes = slice_index bytes (length bytes - 1) == 13

abbrev pub returns_first : List ℕ → Bool
returns_first text =
    list_any (λ b. b == 10) text && ends_in_return (before_first (λ b. b == 10) text)

-- a text that is accepted has no pieces: it stays as it is, but for its byte order mark
abbrev pub pieces_in : List ℕ → List Piece
pieces_in text = if is_none (first_fault text) then [] else all_pieces (lines_of text)

abbrev pub body_in : List ℕ → List ℕ
body_in text =
    if is_none (first_fault text) then without_mark text
    else flat_map written (all_pieces (lines_of text))

-- the lines of a text that is rewritten end with LF; the comment of one that stays ends as its first
-- line does
abbrev pub adapted_text : List ℕ → List ℕ → List ℕ
adapted_text by text = comment_line (is_none (first_fault text) && returns_first text) by ++ body_in text

-- a text that stays, after the comment
abbrev pub commented : List ℕ → List ℕ → List ℕ
commented by text = comment_line (returns_first text) by ++ without_mark text

-- a section, and each of its properties, one line later
abbrev pub property_later : Property → Property
property_later k = record k { line = k.line + 1 }

abbrev pub one_later : TextSection → TextSection
one_later s = record s { line = s.line + 1; properties = map property_later s.properties }

-- an entry and an object, one line later
abbrev pub row_later : Row → Row
row_later r = record r { line = r.line + 1 }

abbrev pub object_later : ObjectRow → ObjectRow
object_later o = record o { line = o.line + 1 }
