-- One list of properties, cut into those of each section.
use Rattle.std.specs.Prelude.{ℕ, ◌+◌, List, [], ◌∷◌, map, take, drop}
use Rattle.co_sheet_text.specs.declared.text_section.Property.{Property as CodeProperty}
use Rattle.co_sheet_text.specs.declared.header.Header.{Header}
use Rattle.co_sheet_text.specs.Sections.{TextSection}
use Rattle.co_sheet_text.specs.Views.{property_view}

-- a section with these properties
abbrev pub section_with : Header → List CodeProperty → TextSection
section_with header properties = record {
  kind = header.kind;
  name = header.name.now;
  line = header.line;
  properties = map property_view properties;
}

-- each section takes its number of properties from the front
abbrev pub cut : List Header → List CodeProperty → List TextSection
cut [] properties = []
cut (header ∷ headers) properties =
    section_with header (take header.count properties)
    ∷ cut headers (drop header.count properties)

-- how many properties the sections have together
abbrev pub property_count : List Header → ℕ
property_count [] = 0
property_count (header ∷ headers) = header.count + property_count headers
