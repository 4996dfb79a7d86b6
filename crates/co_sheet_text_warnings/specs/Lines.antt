-- Lines that other readers may refuse or garble (CiA 306-1, structure of an EDS).
use Rattle.std.specs.Prelude.{
  ℕ,
  ◌+◌,
  ◌==◌,
  Bool,
  true,
  false,
  not,
  ◌&&◌,
  nat_eq,
  nat_lt,
  nat_le,
  if◌then◌else◌,
  List,
  [],
  ◌∷◌,
  length,
  map,
  find,
  filter_map,
  Option,
  Some,
  None,
  is_some,
  option_map,
  option_to_list,
}
use Rattle.std.specs.List.{list_any, enumerate_from, starts_with}
use Rattle.std.specs.Option.{option_map_or, option_or}
use Rattle.std.specs.Str.{chars, is_utf8}
use Rattle.std.specs.Str.Lines.{lines}
use Rattle.co_sheet_text.specs.Text.{Line, without_mark}
use Rattle.co_sheet_text_warnings.specs.ReadTexts.{ReadText}

-- the lines of a text, without their ends and without a byte order mark
abbrev pub text_lines : List ℕ → List (List ℕ)
text_lines text = lines (without_mark text)

-- lines, numbered from here
abbrev pub numbered : ℕ → List (List ℕ) → List Line
numbered first lines = map (λ l. record { number = l.0; bytes = l.1 }) (enumerate_from first lines)

-- how many characters a line has, read as UTF-8 if it is valid, else as Windows-1252
abbrev pub character_count : List ℕ → ℕ
character_count bytes = if is_utf8 bytes then length (chars bytes) else length bytes

-- more characters than the 255 that the standard allows, and no more than the 512 bytes that are
-- read; up to 255 bytes are no more characters
abbrev pub is_long : Line → Bool
is_long line =
    nat_lt 255 (length line.bytes) && nat_le (length line.bytes) 512
    && nat_lt 255 (character_count line.bytes)

abbrev pub long_line : Line → Option ℕ
long_line line = if is_long line then Some line.number else None

abbrev pub long_lines : List Line → List ℕ
long_lines lines = filter_map long_line lines

-- the first line with a byte above 7Fh
abbrev pub has_other_byte : List ℕ → Bool
has_other_byte bytes = list_any (nat_lt 0x7F) bytes

abbrev pub first_other : List Line → Option ℕ
first_other lines = option_map (λ line. line.number) (find (λ line. has_other_byte line.bytes) lines)

-- the first line that isn't UTF-8
abbrev pub first_unreadable : List Line → Option ℕ
first_unreadable lines =
    option_map (λ line. line.number) (find (λ line. not (is_utf8 line.bytes)) lines)

-- the first line of a text with one, which those of a byte order mark are too
abbrev pub has_mark : List ℕ → Bool
has_mark text = starts_with nat_eq text (0xEF ∷ 0xBB ∷ 0xBF ∷ [])

abbrev pub first_beyond : ReadText → Option ℕ
first_beyond t = if has_mark t.text then Some 1 else first_other t.lines

-- of a text with a byte above 7Fh: the first line with one, if all lines are UTF-8, else the first
-- that isn't
abbrev pub utf8 : ReadText → List ℕ
utf8 t =
    option_map_or (λ line. if is_some (first_unreadable t.lines) then [] else line ∷ [])
    (first_beyond t) []

abbrev pub not_ascii : ReadText → List ℕ
not_ascii t =
    option_map_or (λ line. option_to_list (first_unreadable t.lines)) (first_beyond t) []

-- whether a line's end isn't that of line 1: with CR before LF, or without
abbrev pub is_other_end : Option Bool → Bool → Bool
is_other_end None with_cr = false
is_other_end (Some true) with_cr = not with_cr
is_other_end (Some false) with_cr = with_cr

-- the first line with another end, of the bytes of a text from this line on; `after_cr` says
-- whether CR is before them
abbrev pub other_end : Option Bool → ℕ → Bool → List ℕ → List ℕ
other_end first line after_cr [] = []
other_end first line after_cr (b ∷ bs) =
    if b == 10
    then (if is_other_end first after_cr then line ∷ []
    else other_end (option_or first (Some after_cr)) (line + 1) false bs)
    else other_end first line (b == 13) bs

abbrev pub mixed_line_ends : List ℕ → List ℕ
mixed_line_ends text = other_end None 1 false text
