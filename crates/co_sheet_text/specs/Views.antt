-- What lines and sections say, without where their texts lie in memory.
use Rattle.std.specs.Prelude.{map}
use Rattle.co_sheet_text.specs.declared.text_section.Property.{Property as CodeProperty}
use Rattle.co_sheet_text.specs.declared.text_section.TextSection.{TextSection as CodeTextSection}
use Rattle.co_sheet_text.specs.declared.line.LineForm.{LineForm as CodeLineForm}
use Rattle.co_sheet_text.specs.declared.line.LineForm.TheVariants.{Skipped, Section, Unclosed, NameValue, Malformed}
use Rattle.co_sheet_text.specs.Sections.{LineForm, skipped, section_line, unclosed, name_value, malformed, Property, TextSection}

-- a property with its value
abbrev pub property_view : CodeProperty → Property
property_view k = record { name = k.name.now; value = k.value.now; line = k.line }

-- a section with its properties
abbrev pub section_view : CodeTextSection → TextSection
section_view s = record {
  kind = s.kind;
  name = s.name.now;
  line = s.line;
  properties = map property_view s.properties.now;
}

-- the form of a line
abbrev pub form_view : CodeLineForm → LineForm
form_view Skipped = skipped
form_view (Section name) = section_line name.now
form_view Unclosed = unclosed
form_view (NameValue name value) = name_value name.now value.now
form_view Malformed = malformed
