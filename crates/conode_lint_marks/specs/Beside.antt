-- The build faults of a text that has other faults too, as marks.
use Rattle.std.specs.Prelude.{ℕ, List, [], ◌∷◌, Option, Some, None}
use Rattle.std.specs.Option.{option_map_or}
use Rattle.co_sheet_rows.specs.declared.fault.SheetFault.{SheetFault}
use Rattle.co_sheet.specs.Accepted.{first_fault, sections_in}
use Rattle.co_sheet.specs.Content.{SheetContent, content_of}
use Rattle.co_sheet_text.specs.LinesAtFault.{sections_read}
use Rattle.co_sheet_text.specs.Sections.{TextSection}
use Rattle.co_sheet_text.specs.declared.section_kind.SectionKind.{SectionKind}
use Rattle.co_sheet_text.specs.Text.{lines_of}
use Rattle.co_sheet_mend.specs.ReadableTexts.{mended_in}
use Rattle.co_sheet_text_warnings.specs.ReadTexts.{own_node}
use Rattle.co_dict_build.specs.Built.{plan_of}
use Rattle.co_dict_build.specs.Capacities.{Limits}
use Rattle.conode_lint_marks.specs.declared.mark.Mark.{Mark}
use Rattle.conode_lint_marks.specs.AtFault.{kinds_at_fault}
use Rattle.conode_lint_marks.specs.KnownFaults.{known_marks}

-- the sheet of a text, if it is one
unfoldable pub sheet_of : List ℕ → Option SheetContent
sheet_of text =
    option_map_or (λ fault. None) (first_fault text) (Some (content_of (sections_in text)))

-- those of the sheet that a text without what is at fault is, which rest on nothing at fault
abbrev pub marks_of_mended : Limits → List TextSection → List SectionKind → ℕ → Option SheetContent
    → List Mark
marks_of_mended limits sections kinds id (Some sheet) =
    known_marks sections kinds sheet (plan_of id limits sheet)
marks_of_mended limits sections kinds id None = []

abbrev pub beside_in : Limits → List SectionKind → List TextSection → ℕ → Option (List ℕ)
    → List Mark
beside_in limits kinds sections id (Some mended) =
    marks_of_mended limits sections kinds id (sheet_of mended)
beside_in limits kinds sections id None = []

abbrev pub beside_for : Limits → List SectionKind → List ℕ → List TextSection → Option ℕ
    → List Mark
beside_for limits kinds text sections (Some id) =
    beside_in limits kinds sections id (mended_in 8 text)
beside_for limits kinds text sections None = []

-- by what the sections at fault are about: none of a text without faults
abbrev pub beside_with : Limits → List SheetFault → List SectionKind → List ℕ → List TextSection
    → Option ℕ → List Mark
beside_with limits [] kinds text sections given = []
beside_with limits (fault ∷ faults) kinds text sections given =
    beside_for limits kinds text sections (own_node given sections)

abbrev pub beside_of : Limits → List SheetFault → List ℕ → List TextSection → Option ℕ → List Mark
beside_of limits faults text sections given =
    beside_with limits faults (kinds_at_fault faults sections) text sections given

-- the marks of a build that rest on nothing at fault, of a text with these faults, for the given
-- node-ID or else its own
abbrev pub beside_marks : List ℕ → Option ℕ → Limits → List SheetFault → List Mark
beside_marks text node limits faults =
    beside_of limits faults text (sections_read (lines_of text)) node
