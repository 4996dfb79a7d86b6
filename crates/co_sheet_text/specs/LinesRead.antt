-- The sections of a text as they grow line by line (CiA 306, structure of an EDS).
use Rattle.std.specs.Prelude.{◌≡◌, ◌⊎◌, ℕ, Bool, List, [], ◌∷◌, ◌++◌, Option, Some, None, option_map, ◌&&◌, if◌then◌else◌, nat_lt, length, is_some}
use Rattle.std.specs.List.{list_all}
use Rattle.std.specs.Char.{is_digit}
use Rattle.co_sheet_text.specs.declared.fault.TextFaultKind.{TextFaultKind}
use Rattle.co_sheet_text.specs.declared.fault.TextFaultKind.TheVariants.{TooLarge, BadLine, KeyOutsideSection, DuplicateSection, DuplicateKey}
use Rattle.co_sheet_text.specs.declared.fault.TextFault.{TextFault}
use Rattle.co_sheet_text.specs.declared.section_kind.SectionKind.{SectionKind}
use Rattle.co_sheet_text.specs.Text.{Line}
use Rattle.co_sheet_text.specs.OutOfMemory.{out_of_memory}
use Rattle.co_sheet_text.specs.LinesAtFault.{read_as}
use Rattle.co_sheet_text.specs.Names.{kind_of, is_read}
use Rattle.co_sheet_text.specs.Sections.{LineForm, skipped, section_line, unclosed, name_value, Property, TextSection, is_given, property_given, property_at, section_at, last_section, line_form, fault_at}

-- a section with one more property, if it gets one
abbrev pub with_property : TextSection → Option Property → TextSection
with_property section None = section
with_property section (Some property) =
    record section { properties = section.properties ++ property ∷ [] }

-- the last section changed
abbrev pub with_last : (TextSection → TextSection) → List TextSection → List TextSection
with_last change [] = []
with_last change (section ∷ []) = change section ∷ []
with_last change (section ∷ other ∷ sections) = section ∷ with_last change (other ∷ sections)

-- a section without properties so far
abbrev pub begun_section : SectionKind → List ℕ → ℕ → TextSection
begun_section kind name line = record { kind = kind; name = name; line = line; properties = [] }

abbrev pub empty_section : List ℕ → ℕ → TextSection
empty_section name line = begun_section (kind_of name) name line

-- the sections after one more line: a section line begins one, another may give the last a property
abbrev pub with_form : List TextSection → ℕ → LineForm → List TextSection
with_form sections line (section_line name) = sections ++ empty_section name line ∷ []
with_form sections line form =
    with_last (λ s. with_property s (property_given s.kind line form)) sections

abbrev pub with_line : List TextSection → Line → List TextSection
with_line sections line = with_form sections line.number (line_form line)

-- whether a name is digits alone, as a place in an object list is
abbrev pub all_digits : List ℕ → Bool
all_digits name = list_all (λ c. is_digit c 10) name

-- what is wrong with a line in the section that it is in, by its form
abbrev pub fault_within : Option TextSection → LineForm → Option TextFaultKind
fault_within None form = Some KeyOutsideSection
fault_within (Some s) (name_value name value) =
    if is_given s.kind name value && is_some (property_at name s) then Some DuplicateKey else None
fault_within (Some s) form = if is_read s.kind then Some BadLine else None

-- what is wrong with a line of this form after these sections
abbrev pub form_fault : List TextSection → LineForm → Option TextFaultKind
form_fault before skipped = None
form_fault before unclosed = Some BadLine
form_fault before (section_line name) =
    if is_read (kind_of name) && is_some (section_at (kind_of name) before)
    then Some DuplicateSection
    else None
form_fault before form = fault_within (last_section before) form

-- what is wrong with a line after these sections, by its form
abbrev pub fault_by_form : List TextSection → Line → Option TextFaultKind
fault_by_form before line =
    if nat_lt 512 (length line.bytes) then Some TooLarge else form_fault before (line_form line)

-- the sections after one more line, as it is read in spite of a fault
abbrev pub with_line_read : List TextSection → Line → List TextSection
with_line_read sections line = with_line sections (read_as (fault_by_form sections line) line)

-- these are the sections after a line of this form, which has no fault
abbrev pub TakesForm : List TextSection → ℕ → LineForm → List TextSection → Type 0
TakesForm before line form after =
    (form_fault before form ≡ None) × (after ≡ with_form before line form)

-- out of memory, or the fault of a line of this form
abbrev pub RefusesForm : List TextSection → ℕ → LineForm → TextFault → Type 0
RefusesForm before line form fault =
    (fault ≡ out_of_memory)
    ⊎ (option_map (fault_at line) (form_fault before form) ≡ Some fault)

-- the same of a line
abbrev pub TakesLine : List TextSection → Line → List TextSection → Type 0
TakesLine before line after =
    (fault_by_form before line ≡ None) × (after ≡ with_line before line)

abbrev pub RefusesLine : List TextSection → Line → TextFault → Type 0
RefusesLine before line fault =
    (fault ≡ out_of_memory)
    ⊎ (option_map (fault_at line.number) (fault_by_form before line) ≡ Some fault)
