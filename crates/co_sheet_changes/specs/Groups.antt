-- The sections of a text with all their lines (CiA 306, structure of an EDS).
use Rattle.std.specs.Prelude.{ℕ, Bool, suc, ◌&&◌, ◌||◌, not, ◌==◌, if◌then◌else◌, List, [], ◌∷◌, ◌++◌, filter, take, is_some, Option, Some, None, option_and_then}
use Rattle.std.specs.List.{list_all, list_any, before_first, after_first}
use Rattle.std.specs.Option.{option_or}
use Rattle.std.specs.Result.{result_ok}
use Rattle.co_text.specs.Texts.{is_blank}
use Rattle.co_sheet_text.specs.declared.section_kind.SectionKind.{SectionKind}
use Rattle.co_sheet_text.specs.Names.{kind_of}
use Rattle.co_sheet_text.specs.Numerals.{unsigned_number}
use Rattle.co_sheet_text.specs.Text.{Line, trim, is_empty, same_name}
use Rattle.co_sheet_text.specs.Sections.{is_equals, is_bracket}

-- a name and its value
pub record Given : Type 0 where
  pub name : List ℕ
  pub value : List ℕ

-- cut at the first `=`, with a name before it and a value after it
abbrev pub with_value : List ℕ → List ℕ → Option Given
with_value name value =
    if is_empty name || is_empty value then None else Some (record { name = name; value = value })

abbrev pub property_of : List ℕ → List ℕ → Option Given
property_of text name =
    if list_any is_equals text then with_value name (trim (after_first is_equals text)) else None

-- what a line without blanks at its ends gives a section; `;` begins a comment
abbrev pub property_at_text : List ℕ → Option Given
property_at_text [] = None
property_at_text (b ∷ bs) =
    if (b == 59) || (b == 91) then None
    else property_of (b ∷ bs) (trim (before_first is_equals (b ∷ bs)))

abbrev pub property_in : Line → Option Given
property_in line = property_at_text (trim line.bytes)

-- the name of the section that it begins
abbrev pub section_at_text : List ℕ → Option (List ℕ)
section_at_text [] = None
section_at_text (b ∷ bs) =
    if (b == 91) && list_any is_bracket bs then Some (trim (before_first is_bracket bs)) else None

abbrev pub section_in : Line → Option (List ℕ)
section_in line = section_at_text (trim line.bytes)

-- a line that is nothing but the mark by which DOS ends a file, 1Ah, or NUL bytes
abbrev pub is_end_byte : ℕ → Bool
is_end_byte byte = (byte == 0x1A) || (byte == 0)

abbrev pub is_end_text : List ℕ → Bool
is_end_text text = not (is_empty text) && list_all is_end_byte text

abbrev pub is_end_mark : Line → Bool
is_end_mark line = is_end_text (trim line.bytes)

-- a text without its blanks
abbrev pub without_blanks : List ℕ → List ℕ
without_blanks text = filter (λ byte. not (is_blank byte)) text

-- a section: what its name says without blanks, the name, its section line, and the lines up to the
-- next one
pub record Group : Type 0 where
  pub kind : SectionKind
  pub name : List ℕ
  pub head : Line
  pub body : List Line

-- the lines before the next section line
abbrev pub body_count : List Line → ℕ
body_count [] = 0
body_count (line ∷ lines) = if is_some (section_in line) then 0 else suc (body_count lines)

abbrev pub before_sections : List Line → List Line
before_sections lines = take (body_count lines) lines

-- the section that a line begins
abbrev pub group_begun : Option (List ℕ) → Line → List Line → List Group
group_begun None line lines = []
group_begun (Some name) line lines =
    record {
      kind = kind_of (without_blanks name);
      name = name;
      head = line;
      body = before_sections lines;
    } ∷ []

-- the sections of lines, in their order
abbrev pub groups_of : List Line → List Group
groups_of [] = []
groups_of (line ∷ lines) = group_begun (section_in line) line lines ++ groups_of lines

-- the value of the first property of a name
abbrev pub value_given : List ℕ → Option Given → Option (List ℕ)
value_given name None = None
value_given name (Some given) = if same_name given.name name then Some given.value else None

abbrev pub value_in : List ℕ → List Line → Option (List ℕ)
value_in name [] = None
value_in name (line ∷ lines) =
    option_or (value_given name (property_in line)) (value_in name lines)

-- the number there, where it is one
abbrev pub number_in_group : List ℕ → Group → Option ℕ
number_in_group name g =
    option_and_then (λ v. result_ok (unsigned_number v)) (value_in name g.body)
