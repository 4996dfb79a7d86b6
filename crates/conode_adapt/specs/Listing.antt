-- The changes of a text, a line each: `NAME:LINE: what changed: old -> new`.
use Rattle.std.specs.Prelude.{ℕ, ◌+◌, ◌-◌, ◌/◌, ◌%◌, Bool, true, false, ◌&&◌, not, Option, Some, None, length, take, slice_index, ◌==◌, ◌||◌, nat_eq, nat_lt, if◌then◌else◌, List, [], ◌∷◌, ◌++◌, map, codes, decimal}
use Rattle.std.specs.List.{before_first, flat_map, list_any, starts_with}
use Rattle.co_text.specs.Printed.{digits_text}
use Rattle.co_sheet_text.specs.Sections.{is_equals}
use Rattle.co_sheet_text.specs.Text.{trim, is_empty, same_name}
use Rattle.co_sheet_changes.specs.declared.change.ChangeKind.{ChangeKind}
use Rattle.co_sheet_changes.specs.declared.change.ChangeKind.TheVariants.{CompactSubObj, CompactPdo}
use Rattle.co_sheet_changes.specs.Groups.{is_end_byte}
use Rattle.co_sheet_changes.specs.Pieces.{Change, Piece, changed}
use Rattle.co_sheet_changes.specs.Words.{change_name}

-- a control character is shown as `?`
abbrev pub shown_byte : ℕ → ℕ
shown_byte byte = if nat_lt byte 32 || (byte == 127) then 63 else byte

abbrev pub shown : List ℕ → List ℕ
shown bytes = map shown_byte bytes

-- lines on one line, with commas between them
abbrev pub new_byte : ℕ → List ℕ
new_byte byte = if byte == 10 then codes ", " else shown_byte byte ∷ []

-- lines without the last LF
abbrev pub front_of : List ℕ → List ℕ
front_of lines =
    if slice_index lines (length lines - 1) == 10 then take (length lines - 1) lines else lines

unfoldable pub new_text : List ℕ → List ℕ
new_text lines = if is_empty lines then codes "dropped" else flat_map new_byte (front_of lines)

-- the sections that an object in compact form is given
abbrev pub sections_text : ℕ → ℕ → List ℕ
sections_text index count =
    codes ", [" ++ digits_text 16 4 index ++ codes "sub0] and " ++ decimal count
    ++ codes " more, unless they are there"

-- a word, or nothing
abbrev pub word_if : Bool → List ℕ → List ℕ
word_if is word = if is then word else []

-- the sub-indices from 3 on of a communication object, by bits 2 to 5 of a number
abbrev pub subs_text : ℕ → List ℕ
subs_text subs =
    word_if (subs / 4 % 2 == 1) (codes " 3") ++ word_if (subs / 8 % 2 == 1) (codes " 4")
    ++ word_if (subs / 16 % 2 == 1) (codes " 5") ++ word_if (subs / 32 % 2 == 1) (codes " 6")

-- what the sheet doesn't have for the objects of PDOs in compact form
unfoldable pub invented : List ℕ
invented = codes "; invented: not valid, type 255, timers 0, mappings of 0 entries"

-- the objects that PDOs in compact form are given, if there are any
abbrev pub given_objects : ℕ → ℕ → List ℕ
given_objects count subs =
    codes ", " ++ decimal count ++ codes " objects, sub-indices 0 1 2" ++ subs_text subs ++ invented

abbrev pub objects_text : ℕ → ℕ → List ℕ
objects_text count subs =
    if count == 0 then codes ", no object is missing" else given_objects count subs

-- the sections or objects that a change adds
unfoldable pub sub_indices_text : ChangeKind → List ℕ
sub_indices_text (CompactSubObj index count) = sections_text index count
sub_indices_text (CompactPdo count subs) = objects_text count subs
sub_indices_text kind = []

-- those sections are listed once, at CompactSubObj, not at the SubNumber that counts them
abbrev pub is_sub_number : List ℕ → Bool
is_sub_number old =
    list_any is_equals old && same_name (trim (before_first is_equals old)) (codes "SubNumber")

abbrev pub added_text : Change → List ℕ
added_text c = if is_sub_number c.old then [] else sub_indices_text c.kind

-- `NAME:LINE: `
unfoldable pub place_text : List ℕ → ℕ → List ℕ
place_text name line = shown name ++ 58 ∷ [] ++ decimal line ++ codes ": "

-- `old -> new`
unfoldable pub old_and_new : Change → List ℕ
old_and_new c =
    shown (trim c.old) ++ codes " -> " ++ new_text c.new ++ added_text c ++ 10 ∷ []

unfoldable pub change_line : List ℕ → Change → List ℕ
change_line name c = place_text name c.line ++ change_name c.kind ++ codes ": " ++ old_and_new c

abbrev pub piece_line : List ℕ → Piece → List ℕ
piece_line name (changed c) = change_line name c
piece_line name piece = []

-- a byte order mark, which is part of no line
unfoldable pub mark_line : List ℕ → List ℕ → List ℕ
mark_line name text =
    if starts_with nat_eq text (0xEF ∷ 0xBB ∷ 0xBF ∷ [])
    then place_text name 1 ++ codes "byte order mark: EF BB BF -> dropped\n" else []

-- the numbers of the lines that end with CR and LF, in the bytes from this line on; `after_cr` says
-- whether CR is before them
abbrev pub returns_from : ℕ → Bool → List ℕ → List ℕ
returns_from line after_cr [] = []
returns_from line after_cr (b ∷ bs) =
    if b == 10 then (if after_cr then line ∷ [] else []) ++ returns_from (line + 1) false bs
    else returns_from line (b == 13) bs

-- the line about CR before LF: the first line that has it, and how many do
unfoldable pub ends_text : List ℕ → List ℕ → List ℕ
ends_text name [] = []
ends_text name (line ∷ lines) =
    place_text name line ++ codes "ends of lines, " ++ decimal (length (line ∷ lines))
    ++ codes " in all: CR LF -> LF\n"

-- nothing for a text that stays
abbrev pub ends_line : Bool → List ℕ → List ℕ → List ℕ
ends_line stays name text = if stays then [] else ends_text name (returns_from 1 false text)

-- the number of the last line, if it has no LF and isn't dropped as an end mark of DOS; `is_begun`
-- says whether a byte of it that is no such mark is before these
abbrev pub open_line : ℕ → Bool → List ℕ → Option ℕ
open_line line is_begun [] = if is_begun then Some line else None
open_line line is_begun (b ∷ bs) =
    if b == 10 then open_line (line + 1) false bs
    else open_line line (is_begun || not (is_end_byte b)) bs

unfoldable pub last_text : List ℕ → Option ℕ → List ℕ
last_text name None = []
last_text name (Some line) = place_text name line ++ codes "end of the last line: none -> LF\n"

-- nothing for a text that stays
abbrev pub last_line : Bool → List ℕ → List ℕ → List ℕ
last_line stays name text = if stays then [] else last_text name (open_line 1 false text)
