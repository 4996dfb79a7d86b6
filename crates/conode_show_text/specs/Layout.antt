-- A line, made of parts: in columns, or as a row of a table.
use Rattle.std.specs.Prelude.{ℕ, ◌-◌, ◌==◌, nat_lt, nat_le, Bool, ◌||◌, if◌then◌else◌, List, [], ◌∷◌, ◌++◌, filter, fold, length, replicate, codes}
use Rattle.std.specs.List.{flat_map, list_any}
use Rattle.co_sheet_text.specs.Text.{is_empty}
use Rattle.conode_show_text.specs.declared.format.Format.{Format}
use Rattle.conode_show_text.specs.declared.format.Format.TheVariants.{Text, Markdown}

-- a part of a line: its text, and the column where it begins
pub record Part : Type 0 where
  pub column : ℕ
  pub text : List ℕ

-- whether a byte begins a character of UTF-8: each but those that continue one
abbrev pub begins_character : ℕ → Bool
begins_character byte = nat_lt byte 128 || nat_le 192 byte

-- how many columns a text has
abbrev pub columns : List ℕ → ℕ
columns text = length (filter begins_character text)

-- the blanks before a part: up to its column, or one if the line is past it
abbrev pub gap : ℕ → List ℕ → ℕ
gap column line = if nat_lt (columns line) column then column - columns line else if is_empty line then 0 else 1

-- a character that Markdown would take for markup
abbrev pub is_markup : ℕ → Bool
is_markup byte = list_any (λ other. byte == other) (codes "\\|<&*_`[$~")

-- a byte of a table's cell
abbrev pub cell_byte : ℕ → List ℕ
cell_byte byte = if is_markup byte then 92 ∷ byte ∷ [] else byte ∷ []

-- a line with one more part; in columns a part without text takes no place
unfoldable pub placed : Format → ℕ → List ℕ → List ℕ → List ℕ
placed Text column line text =
    if is_empty text then line else line ++ replicate (gap column line) 32 ++ text
placed Markdown column line text = line ++ codes " " ++ flat_map cell_byte text ++ codes " |"

-- what a line begins with
abbrev pub begun : Format → List ℕ
begun Text = []
begun Markdown = codes "|"

-- the line of parts
abbrev pub line_of : Format → List Part → List ℕ
line_of format parts =
    fold (λ line part. placed format part.column line part.text) (begun format) parts ++ 10 ∷ []
