-- Sections whose value may be wrong (CiA 306-1, object description, device configuration file): a line
-- is at fault that may state it, or the section comes twice.
use Rattle.std.specs.Prelude.{ℕ, Bool, true, false, not, ◌&&◌, ◌||◌, ◌==◌, if◌then◌else◌, List, [], ◌∷◌, ◌++◌, take, drop, codes, is_some, Option, Some, None, option_map, option_to_list}
use Rattle.std.specs.List.{flat_map, list_any}
use Rattle.co_sheet_rows.specs.declared.fault.FaultKind.{FaultKind}
use Rattle.co_sheet_rows.specs.declared.fault.FaultKind.TheVariants.{DuplicateSection}
use Rattle.co_sheet_rows.specs.declared.fault.SheetFault.{SheetFault}
use Rattle.co_sheet_text.specs.declared.section_kind.SectionKind.{SectionKind}
use Rattle.co_sheet_text.specs.Names.{kind_of}
use Rattle.co_sheet_text.specs.Sections.{LineForm, TextSection, form_of, malformed, name_value, property_at, section_line}
use Rattle.co_sheet_text.specs.Text.{same_name, trim}
use Rattle.conode_lint_marks.specs.AtFault.{count_before, kind_if}
use Rattle.conode_lint_marks.specs.Lines.{whole_line}

-- ---- lines at fault that may state the value that an entry begins with

-- a ParameterValue is what it begins with, whatever DefaultValue beside it says
abbrev pub has_parameter : TextSection → Bool
has_parameter s = is_some (property_at (codes "ParameterValue") s)

-- the key of that value, in a section that has a ParameterValue or not
abbrev pub is_value_key : Bool → List ℕ → Bool
is_value_key has name =
    same_name name (codes "ParameterValue")
    || (not has && same_name name (codes "DefaultValue"))

-- a line of this form: one without a key may have any key that the section lacks; an empty one and a
-- comment state nothing
abbrev pub may_state : Bool → LineForm → Bool
may_state has (name_value name value) = is_value_key has name
may_state has malformed = not has
may_state has form = false

-- a fault at a line past that of the section
abbrev pub puts_in_doubt : List (List ℕ) → TextSection → SheetFault → Bool
puts_in_doubt lines s f =
    not (f.line == s.line) && may_state (has_parameter s) (form_of (trim (whole_line lines f.line)))

abbrev pub is_in_doubt : List (List ℕ) → TextSection → List SheetFault → Bool
is_in_doubt lines s faults = list_any (puts_in_doubt lines s) faults

-- what these sections are about, where all faults are at these sections
abbrev pub doubts_at : List (List ℕ) → List SheetFault → List TextSection → List SectionKind
doubts_at lines faults [] = []
doubts_at lines faults (s ∷ more) =
    kind_if (is_in_doubt lines s (take (count_before more faults) faults)) s.kind
    ++ doubts_at lines (drop (count_before more faults) faults) more

-- ---- sections that come twice: the first is read, and which of the two is meant isn't known

abbrev pub is_again : FaultKind → Bool
is_again DuplicateSection = true
is_again kind = false

-- the name of the section that a line of this form begins, and what the section is about
abbrev pub begun_name : LineForm → Option (List ℕ)
begun_name (section_line name) = Some name
begun_name form = None

abbrev pub kind_begun : LineForm → Option SectionKind
kind_begun form = option_map kind_of (begun_name form)

abbrev pub kind_again : List (List ℕ) → SheetFault → Option SectionKind
kind_again lines f =
    if is_again f.kind then kind_begun (form_of (trim (whole_line lines f.line))) else None

abbrev pub kinds_again : List (List ℕ) → SheetFault → List SectionKind
kinds_again lines f = option_to_list (kind_again lines f)

-- ---- all, of a text with these lines and faults

unfoldable pub doubts_of : List (List ℕ) → List SheetFault → List TextSection → List SectionKind
doubts_of lines faults sections =
    doubts_at lines (drop (count_before sections faults) faults) sections
    ++ flat_map (kinds_again lines) faults
