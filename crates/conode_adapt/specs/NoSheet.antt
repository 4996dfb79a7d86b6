-- Why a text that can't be adapted is no data sheet, and what is written of it.
use Rattle.std.specs.Prelude.{ℕ, nat_lt, Bool, true, false, if◌then◌else◌, List, [], ◌∷◌, ◌++◌, length, codes, Option, Some, None, option_map, ◌≡◌, IfSome}
use Rattle.std.specs.List.{list_any}
use Rattle.co_sheet_text.specs.LinesAtFault.{sections_read}
use Rattle.co_sheet_text.specs.Sections.{TextSection}
use Rattle.co_sheet_text.specs.Text.{lines_of}
use Rattle.co_sheet_text.specs.declared.section_kind.SectionKind.{SectionKind}
use Rattle.co_sheet_text.specs.declared.section_kind.SectionKind.TheVariants.{PassedOver}
use Rattle.conode_lint_marks.specs.declared.mark.OtherFormat.{OtherFormat}
use Rattle.conode_lint.specs.Formats.{text_format}
use Rattle.conode_lint.specs.FormatWords.{format_meaning}

-- a section is one of a data sheet that is read: a list of objects, one about the device, that of an
-- object or a sub-index
abbrev pub is_of_sheet : SectionKind → Bool
is_of_sheet PassedOver = false
is_of_sheet kind = true

abbrev pub has_section : List TextSection → Bool
has_section sections = list_any (λ s. is_of_sheet s.kind) sections

-- without one, a text is no data sheet
abbrev pub unless_section : List TextSection → Option (List ℕ)
unless_section sections =
    if has_section sections then None else Some (codes "this is no EDS: it has no section of an object, as [1000]")

-- why a text of this format with these sections is none: its format, if that is another one
abbrev pub reason_of : Option OtherFormat → List TextSection → Option (List ℕ)
reason_of (Some format) sections = Some (format_meaning format)
reason_of None sections = unless_section sections

-- why a text is none; the sections of one that is too large aren't read
unfoldable pub no_sheet : List ℕ → Option (List ℕ)
no_sheet text =
    if nat_lt 1048576 (length text) then option_map format_meaning (text_format text)
    else reason_of (text_format text) (sections_read (lines_of text))

-- a reason as it is written: a line
abbrev pub reason_line : List ℕ → List ℕ
reason_line why = why ++ 10 ∷ []

-- what is written is the reason alone, if there is one
abbrev pub IsReason : Option (List ℕ) → List ℕ → Type 0
IsReason why written = IfSome why (λ reason. written ≡ reason_line reason)
