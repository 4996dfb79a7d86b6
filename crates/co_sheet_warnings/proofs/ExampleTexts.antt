-- Small texts of which examples compute the warnings.
use Rattle.std.proofs.Common.{ℕ, List, Some, None}
use Rattle.co_sheet_text.specs.declared.section_kind.SectionKind.{SectionKind}
use Rattle.co_sheet_text.specs.declared.section_kind.SectionKind.TheVariants.{SubIndex}
use Rattle.co_sheet_text_warnings.specs.declared.warning.WarningKind.{WarningKind}
use Rattle.co_sheet_text_warnings.specs.ReadTexts.{read_text}
use Rattle.co_sheet_text_warnings.proofs.ExampleTexts.{joined}
use Rattle.co_sheet_warnings.specs.Warnings.{places_of}

-- where a kind applies, of a device whose node-ID isn't given, and is given
abbrev pub places : WarningKind → List (List ℕ) → List ℕ
places kind lines = places_of (read_text (joined lines) None) kind

abbrev pub places_at : ℕ → WarningKind → List (List ℕ) → List ℕ
places_at node kind lines = places_of (read_text (joined lines) (Some node)) kind

-- the section of a sub-index
abbrev pub sub_index : ℕ → ℕ → SectionKind
sub_index index sub = SubIndex (record { index = index; sub = sub })
