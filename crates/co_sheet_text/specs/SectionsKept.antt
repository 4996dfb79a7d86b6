-- The sections that are kept while a text is read: those that are whole, and the one being read.
use Rattle.std.specs.Prelude.{List, [], ◌∷◌, ◌++◌, Option, Some, None}
use Rattle.co_sheet_text.specs.declared.header.Header.{Header}
use Rattle.co_sheet_text.specs.declared.open_section.OpenSection.{OpenSection}
use Rattle.co_sheet_text.specs.Sections.{TextSection}
use Rattle.co_sheet_text.specs.Cuts.{cut}
use Rattle.co_sheet_text.specs.OpenSections.{earlier_properties, open_view}

abbrev pub sections_kept : List Header → Option OpenSection → List TextSection
sections_kept closed None = []
sections_kept closed (Some current) =
    cut closed (earlier_properties current) ++ open_view current ∷ []
