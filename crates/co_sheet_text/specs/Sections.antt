-- The parsed text: sections with their properties, and the faults of lines
-- (CiA 306, structure of an EDS).
use Rattle.std.specs.Prelude.{◌≡◌, ℕ, Bool, true, false, ◌&&◌, not, ◌==◌, nat_lt, if◌then◌else◌, List, [], ◌∷◌, ◌++◌, length, find, filter_map, Option, Some, None, is_some, is_none, option_map}
use Rattle.std.specs.List.{list_any, before_first, after_first, last_or}
use Rattle.std.specs.Option.{option_or}
use Rattle.co_sheet_text.specs.declared.section_kind.SectionKind.{SectionKind}
use Rattle.co_sheet_text.specs.declared.fault.TextFaultKind.{TextFaultKind}
use Rattle.co_sheet_text.specs.declared.fault.TextFaultKind.TheVariants.{TooLarge, BadLine, KeyOutsideSection, DuplicateSection, DuplicateKey}
use Rattle.co_sheet_text.specs.declared.fault.TextFault.{TextFault}
use Rattle.co_sheet_text.specs.Text.{Line, trim, is_empty, same_name}
use Rattle.co_sheet_text.specs.Names.{kind_of, same_kind, is_read, is_read_name}

-- what a line is, by its bytes: empty or a comment; a section line, with its name or without `]`;
-- a name and a value; any other
pub data LineForm : Type 0 where
  skipped : LineForm
  section_line : List ℕ → LineForm
  unclosed : LineForm
  name_value : List ℕ → List ℕ → LineForm
  malformed : LineForm

-- `]`, the end of a name
abbrev pub is_bracket : ℕ → Bool
is_bracket b = b == 93

-- `=`, the end of a property's name
abbrev pub is_equals : ℕ → Bool
is_equals b = b == 61

-- after `[`: the name is what comes before the first `]`
abbrev pub section_form : List ℕ → LineForm
section_form text =
    if list_any is_bracket text then section_line (trim (before_first is_bracket text))
    else unclosed

-- cut at the first `=`, with a name before it
abbrev pub property_form : List ℕ → List ℕ → LineForm
property_form text name =
    if list_any is_equals text && not (is_empty name)
    then name_value name (trim (after_first is_equals text))
    else malformed

-- a line without blanks at its ends: `;` begins a comment
abbrev pub form_of : List ℕ → LineForm
form_of [] = skipped
form_of (b ∷ bs) =
    if b == 59 then skipped
    else if b == 91 then section_form bs
    else property_form (b ∷ bs) (trim (before_first is_equals (b ∷ bs)))

-- what a line is, without the blanks at its ends
abbrev pub line_form : Line → LineForm
line_form line = form_of (trim line.bytes)

-- a property that is read in a section: its name, its value and its line
pub record Property : Type 0 where
  pub name : List ℕ
  pub value : List ℕ
  pub line : ℕ

-- a section: what it is about, its name as it is written, its line, and the properties that are
-- read in it
pub record TextSection : Type 0 where
  pub kind : SectionKind
  pub name : List ℕ
  pub line : ℕ
  pub properties : List Property

-- whether a section gets a property: its name is read there, and it has a value
abbrev pub is_given : SectionKind → List ℕ → List ℕ → Bool
is_given kind name value = is_read_name kind name && not (is_empty value)

-- the property that a line of this form gives a section
abbrev pub property_given : SectionKind → ℕ → LineForm → Option Property
property_given kind line (name_value name value) =
    if is_given kind name value then Some (record { name = name; value = value; line = line })
    else None
property_given kind line form = None

-- whether a line of this form begins a section
abbrev pub is_section_line : LineForm → Bool
is_section_line (section_line name) = true
is_section_line form = false

-- the lines before the next section line
abbrev pub body_of : List Line → List Line
body_of [] = []
body_of (line ∷ lines) = if is_section_line (line_form line) then [] else line ∷ body_of lines

-- the section that a line of this form begins, with its body, if it begins one
abbrev pub section_begun : LineForm → ℕ → List Line → List TextSection
section_begun (section_line name) line body =
    record {
      kind = kind_of name;
      name = name;
      line = line;
      properties = filter_map (λ l. property_given (kind_of name) l.number (line_form l)) body;
    } ∷ []
section_begun form line body = []

-- the sections of lines, in their order
abbrev pub sections_of : List Line → List TextSection
sections_of [] = []
sections_of (line ∷ lines) =
    section_begun (line_form line) line.number (body_of lines) ++ sections_of lines

-- the property of this name that a section has, and the section of this kind
abbrev pub property_at : List ℕ → TextSection → Option Property
property_at name section = find (λ k. same_name k.name name) section.properties

abbrev pub section_at : SectionKind → List TextSection → Option TextSection
section_at kind sections = find (λ s. same_kind s.kind kind) sections

-- the section that a line is in, after these sections
abbrev pub last_section : List TextSection → Option TextSection
last_section before = last_or None before

-- a line may have 512 bytes
abbrev pub is_too_long : Line → Bool
is_too_long line = nat_lt 512 (length line.bytes)

-- a section line without `]`
abbrev pub is_unclosed : LineForm → Bool
is_unclosed unclosed = true
is_unclosed form = false

-- neither skipped nor a section line
abbrev pub is_body_line : LineForm → Bool
is_body_line (name_value name value) = true
is_body_line malformed = true
is_body_line form = false

-- a section that is read, a second time
abbrev pub begins_again : List TextSection → LineForm → Bool
begins_again before (section_line name) =
    is_read (kind_of name) && is_some (section_at (kind_of name) before)
begins_again before form = false

-- no `=`, or no name before it, in a section that is read
abbrev pub is_malformed_in : Option TextSection → LineForm → Bool
is_malformed_in None form = false
is_malformed_in (Some s) malformed = is_read s.kind
is_malformed_in (Some s) form = false

-- a property that is read, a second time in its section
abbrev pub gives_again : Option TextSection → LineForm → Bool
gives_again None form = false
gives_again (Some s) (name_value name value) =
    is_given s.kind name value && is_some (property_at name s)
gives_again (Some s) form = false

-- the rules of a line of this form after these sections, each with what is wrong where it is broken
abbrev pub form_rules : List TextSection → LineForm → List (Bool × TextFaultKind)
form_rules before form =
    (is_unclosed form, BadLine)
    ∷ (is_body_line form && is_none (last_section before), KeyOutsideSection)
    ∷ (begins_again before form, DuplicateSection)
    ∷ (is_malformed_in (last_section before) form, BadLine)
    ∷ (gives_again (last_section before) form, DuplicateKey) ∷ []

-- of rules in their order, the first that is broken
abbrev pub first_broken : List (Bool × TextFaultKind) → Option TextFaultKind
first_broken [] = None
first_broken (rule ∷ rules) = if rule.0 then Some rule.1 else first_broken rules

-- what is wrong with a line after these sections: its length, or else the first rule that it breaks
abbrev pub line_fault : List TextSection → Line → Option TextFaultKind
line_fault before line =
    first_broken ((is_too_long line, TooLarge) ∷ form_rules before (line_form line))

-- a fault of a kind, at a line
abbrev pub fault_at : ℕ → TextFaultKind → TextFault
fault_at line kind = record { kind = kind; line = line }

-- the first line at fault, of lines that come after the lines before
abbrev pub first_line_fault : List Line → List Line → Option TextFault
first_line_fault before [] = None
first_line_fault before (line ∷ lines) = option_or
    (option_map (fault_at line.number) (line_fault (sections_of before) line))
    (first_line_fault (before ++ line ∷ []) lines)

-- a line of a text, and the lines before it
pub record IsLineOf (lines before : List Line) (line : Line) : Type 0 where
  pub after : List Line
  pub cut : lines ≡ before ++ line ∷ after

-- no line has a fault
pub record HaveNoFault (lines : List Line) : Type 0 where
  pub none : (before : List Line) (line : Line) → IsLineOf lines before line
      → line_fault (sections_of before) line ≡ None

-- the line has the fault, and no earlier line has one
pub record IsFirstAtFault (lines : List Line) (fault : TextFault) : Type 0 where
  pub before : List Line
  pub line : Line
  pub of_text : IsLineOf lines before line
  pub here : line_fault (sections_of before) line ≡ Some fault.kind
  pub number : fault.line ≡ line.number
  pub none_earlier : HaveNoFault before
