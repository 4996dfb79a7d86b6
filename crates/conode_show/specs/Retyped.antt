-- A section with properties of its own, as contracts see it.
use Rattle.std.specs.Prelude.{map}
use Rattle.co_sheet_text.specs.Sections.{TextSection}
use Rattle.co_sheet_text.specs.Views.{property_view}
use Rattle.conode_show.specs.declared.retyped.Retyped.{Retyped}

abbrev pub retyped_view : Retyped → TextSection
retyped_view r = record {
  kind = r.kind;
  name = r.name.now;
  line = r.line;
  properties = map property_view r.properties.items;
}
