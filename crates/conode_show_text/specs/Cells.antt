-- The cells of a line.
use Rattle.std.specs.Prelude.{ℕ, List, [], ◌++◌, Option}
use Rattle.co_text.specs.Printed.{digits_text}
use Rattle.co_value.specs.KeyTexts.{key_text}
use Rattle.co_sheet_text.specs.Views.{section_view}
use Rattle.conode_show_text.specs.declared.cells.Cell.{Cell}
use Rattle.conode_show_text.specs.declared.cells.Content.{Content}
use Rattle.conode_show_text.specs.declared.cells.Content.TheVariants.{Nothing, Words, Key, Index, Property, TypeOf, Value, Default, Limits, Pdo, Service, Said}
use Rattle.conode_show_text.specs.Entries.{type_text}
use Rattle.conode_show_text.specs.Layout.{Part}
use Rattle.conode_show_text.specs.Meanings.{said}
use Rattle.conode_show_text.specs.Pdos.{pdo_name}
use Rattle.conode_show_text.specs.Services.{service_name}
use Rattle.conode_show_text.specs.Texts.{property_text}
use Rattle.conode_show_text.specs.Values.{default_text, limits_text, value_at}

-- the text of what a cell has
abbrev pub cell_text : Option ℕ → Content → List ℕ
cell_text given Nothing = []
cell_text given (Words words) = words.now
cell_text given (Key key) = key_text key
cell_text given (Index index) = digits_text 16 4 index
cell_text given (Property name section) = property_text name.now (section_view section.now)
cell_text given (TypeOf section) = type_text (section_view section.now)
cell_text given (Value before name section) = before.now ++ value_at given name.now (section_view section.now)
cell_text given (Default section) = default_text given (section_view section.now)
cell_text given (Limits section) = limits_text (section_view section.now)
cell_text given (Pdo index) = pdo_name index
cell_text given (Service service) = service_name service
cell_text given (Said meaning section) = said meaning given (section_view section.now)

-- a cell as a part of its line
abbrev pub cell_part : Option ℕ → Cell → Part
cell_part given cell = record { column = cell.0; text = cell_text given cell.1 }
