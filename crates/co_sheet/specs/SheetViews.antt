-- What the rows of a sheet say, without where their texts lie in memory.
use Rattle.std.specs.Prelude.{ℕ, List, Bool, Option, map}
use Rattle.std.specs.Option.{option_copied}
use Rattle.co_sheet_rows.specs.declared.section.Section.{Section}
use Rattle.co_sheet_rows.specs.declared.entry.EntryRow.{EntryRow}
use Rattle.co_sheet_rows.specs.declared.object.Object.{Object}
use Rattle.co_sheet_rows.specs.declared.note.Note.{Note}
use Rattle.co_sheet.specs.Views.{default_view}
use Rattle.co_sheet.specs.Content.{Row, ObjectRow, SectionName, SheetContent}

-- an entry, an object and a section line, as a text has them
abbrev pub row_view : EntryRow → Row
row_view r = record {
  key = r.key;
  data_type = r.data_type;
  access = r.access;
  low = r.low;
  high = r.high;
  default = default_view r.default;
  mappable = r.mappable;
  name = option_copied r.name;
  line = r.line;
}

abbrev pub object_row_view : Object → ObjectRow
object_row_view o =
    record {
      index = o.index;
      object_type = o.object_type;
      name = option_copied o.name;
      line = o.line;
    }

abbrev pub section_name_view : Section → SectionName
section_name_view s = record { name = s.name.now; line = s.line }

-- what a sheet holds, by its lists
abbrev pub content_view : List Object → List EntryRow → List Section → List Note → List Bool
    → Option ℕ → SheetContent
content_view objects entries sections notes dummies node_id = record {
  objects = map object_row_view objects;
  rows = map row_view entries;
  sections = map section_name_view sections;
  notes = notes;
  dummies = dummies;
  node_id = node_id;
}
