-- The text of a data sheet: its lines, blanks, names in any case (CiA 306, structure of an EDS).
use Rattle.std.specs.Prelude.{ℕ, Bool, ◌==◌, if◌then◌else◌, nat_eq, List, [], ◌∷◌, map, drop, reverse, length}
use Rattle.std.specs.List.{starts_with, enumerate_from}
use Rattle.std.specs.Str.{str_eq_ignore_ascii_case}
use Rattle.std.specs.Str.Lines.{lines}
use Rattle.co_text.specs.Texts.{is_blank}

-- a text without the blanks at its front, and at both ends
abbrev pub trim_front : List ℕ → List ℕ
trim_front [] = []
trim_front (b ∷ bs) = if is_blank b then trim_front bs else b ∷ bs

abbrev pub trim : List ℕ → List ℕ
trim text = reverse (trim_front (reverse (trim_front text)))

-- a text of no bytes
abbrev pub is_empty : List ℕ → Bool
is_empty text = length text == 0

-- names and words are read without regard to ASCII case
abbrev pub same_name : List ℕ → List ℕ → Bool
same_name name other = str_eq_ignore_ascii_case name other

-- a text without its byte order mark
abbrev pub without_mark : List ℕ → List ℕ
without_mark text = if starts_with nat_eq text (0xEF ∷ 0xBB ∷ 0xBF ∷ []) then drop 3 text else text

-- a line: its number, from 1, and its bytes without its end
pub record Line : Type 0 where
  pub number : ℕ
  pub bytes : List ℕ

-- LF ends a line, and one CR before it is part of that end; the last line may lack its LF. A byte
-- order mark is part of no line.
abbrev pub lines_of : List ℕ → List Line
lines_of text =
    map (λ l. record { number = l.0; bytes = l.1 }) (enumerate_from 1 (lines (without_mark text)))
