-- Which sections of a text are at fault: those with a fault at one of their lines (CiA 306-1,
-- structure of an EDS).
use Rattle.std.specs.Prelude.{ℕ, Bool, true, false, not, ◌&&◌, ◌==◌, nat_lt, List, [], ◌∷◌, ◌++◌, length, take, drop, is_some}
use Rattle.std.specs.List.{list_any, prefix_len}
use Rattle.co_sheet_rows.specs.declared.fault.FaultKind.{FaultKind}
use Rattle.co_sheet_rows.specs.declared.fault.FaultKind.TheVariants.{MissingSection}
use Rattle.co_sheet_rows.specs.declared.fault.SheetFault.{SheetFault}
use Rattle.co_sheet_text.specs.declared.section_kind.SectionKind.{SectionKind}
use Rattle.co_sheet_text.specs.declared.section_kind.SectionKind.TheVariants.{MandatoryObjects, PassedOver}
use Rattle.co_sheet_text.specs.Names.{is_list}
use Rattle.co_sheet_text.specs.Sections.{TextSection, section_at}
use Rattle.conode_lint_marks.specs.declared.concerns.Concern.TheVariants.{Hiding}
use Rattle.conode_lint_marks.specs.Concerns.{is_any}

-- ---- faults by section: both are in the order of their lines

-- how many of the faults come before these sections; all, if there are none
abbrev pub count_before : List TextSection → List SheetFault → ℕ
count_before [] faults = length faults
count_before (s ∷ more) faults = prefix_len (λ f. nat_lt f.line s.line) faults

-- an object that is listed and has no section is no fault of the list
abbrev pub is_missing_section : FaultKind → Bool
is_missing_section MissingSection = true
is_missing_section kind = false

-- a fault among its lines puts a section at fault: of one that is passed over, only one at its own
-- line, since then it may be any section
abbrev pub is_fault_of : SectionKind → ℕ → SheetFault → Bool
is_fault_of PassedOver line f = f.line == line
is_fault_of kind line f = not (is_list kind && is_missing_section f.kind)

abbrev pub is_at_fault : SectionKind → ℕ → List SheetFault → Bool
is_at_fault kind line faults = list_any (is_fault_of kind line) faults

abbrev pub kind_if : Bool → SectionKind → List SectionKind
kind_if true kind = kind ∷ []
kind_if false kind = []

-- what the sections at fault are about, where all faults are at these sections
abbrev pub kinds_at : List SheetFault → List TextSection → List SectionKind
kinds_at faults [] = []
kinds_at faults (s ∷ more) =
    kind_if (is_at_fault s.kind s.line (take (count_before more faults) faults)) s.kind
    ++ kinds_at (drop (count_before more faults) faults) more

-- and of all faults of a text
unfoldable pub kinds_at_fault : List SheetFault → List TextSection → List SectionKind
kinds_at_fault faults sections = kinds_at (drop (count_before sections faults) faults) sections

-- ---- what may be hidden

-- nothing hides anything, and there is a list of the mandatory objects
unfoldable pub is_complete : List TextSection → List SectionKind → Bool
is_complete sections kinds =
    is_some (section_at MandatoryObjects sections) && not (is_any Hiding kinds)
