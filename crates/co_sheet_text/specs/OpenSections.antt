-- The section that is being read, and the properties before its own.
use Rattle.std.specs.Prelude.{◌≡◌, List, map, take, drop}
use Rattle.co_sheet_text.specs.declared.text_section.Property.{Property as CodeProperty}
use Rattle.co_sheet_text.specs.declared.open_section.OpenSection.{OpenSection}
use Rattle.co_sheet_text.specs.Sections.{TextSection}
use Rattle.co_sheet_text.specs.Views.{property_view}

abbrev pub earlier_properties : OpenSection → List CodeProperty
earlier_properties section = take section.first section.properties.items

abbrev pub own_properties : OpenSection → List CodeProperty
own_properties section = drop section.first section.properties.items

-- the section as far as it is read
abbrev pub open_view : OpenSection → TextSection
open_view section = record {
  kind = section.kind;
  name = section.name.now;
  line = section.line;
  properties = map property_view (own_properties section);
}

-- the properties before its own stay
pub record KeepsEarlier (old new : OpenSection) : Type 0 where
  pub first : new.first ≡ old.first
  pub earlier : earlier_properties new ≡ earlier_properties old
