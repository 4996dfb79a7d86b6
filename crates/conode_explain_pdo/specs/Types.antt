-- The data types of the values of a sheet's entries.
use Rattle.co_sheet.specs.Content.{Row}
use Rattle.co_sheet_changes.specs.Names.{Names, original_of}
use Rattle.conode_explain_values.specs.declared.value_type.ValueType.{ValueType}
use Rattle.conode_explain_values.specs.Types.{type_of}

-- the original type of an entry, where its sheet was adapted, else that of the sheet
abbrev pub type_in : Names → Row → ValueType
type_in names row = type_of (original_of names row) row.data_type
