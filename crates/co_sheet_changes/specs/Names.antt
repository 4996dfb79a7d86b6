-- The names of entries in a data sheet (CiA 306, ParameterName).
use Rattle.std.specs.Prelude.{ℕ, ◌==◌, Bool, true, if◌then◌else◌, List, find, Option, Some, None, option_and_then}
use Rattle.std.specs.Option.{option_map_or, option_copied}
use Rattle.std.specs.Str.{is_utf8}
use Rattle.co_value.specs.declared.key.Key.{Key}
use Rattle.co_value.specs.Keys.{same_key}
use Rattle.co_sheet.specs.Content.{Row, SheetContent}
use Rattle.co_sheet_changes.specs.declared.originals.Originals.{Originals}
use Rattle.co_sheet_changes.specs.Views.{text_at}
use Rattle.co_sheet_changes.specs.declared.names.Names.{Names as NamesOfCode}

-- the codes of original data types, by the line of an entry's section; none if the sheet wasn't
-- adapted
abbrev pub originals_in : Option Originals → ℕ → Option (List ℕ)
originals_in None line = None
originals_in (Some table) line = text_at table line

-- where names come from: a data sheet, if there is one, for one node or for all, and its original
-- data types
pub record Names : Type 0 where
  pub sheet : Option SheetContent
  pub only : Option ℕ
  pub originals : ℕ → Option (List ℕ)

abbrev pub names_view : NamesOfCode → Names
names_view names = record {
  sheet = option_copied names.sheet;
  only = names.only;
  originals = originals_in (option_copied names.originals);
}

-- a text if it is UTF-8
abbrev pub if_utf8 : List ℕ → Option (List ℕ)
if_utf8 text = if is_utf8 text then Some text else None

-- the entry of a key
abbrev pub row_at : List Row → Key → Option Row
row_at rows key = find (λ row. same_key row.key key) rows

-- the name of an entry, if it has one in UTF-8
abbrev pub shown_name : Row → Option (List ℕ)
shown_name row = option_and_then if_utf8 row.name

-- the name of the entry of a key, if it has one in UTF-8
abbrev pub name_at : List Row → Key → Option (List ℕ)
name_at rows key = option_and_then if_utf8 (option_and_then (λ row. row.name) (row_at rows key))

-- whether names are for a node
abbrev pub are_for : Option ℕ → ℕ → Bool
are_for only node = option_map_or (λ one. one == node) only true

-- a node's entry
unfoldable pub entry_of : Names → ℕ → Key → Option Row
entry_of names node key =
    if are_for names.only node then option_and_then (λ sheet. row_at sheet.rows key) names.sheet else None

-- the code of an entry's original data type
abbrev pub original_of : Names → Row → Option (List ℕ)
original_of names row = names.originals row.line

-- the name of a node's entry
unfoldable pub name_of : Names → ℕ → Key → Option (List ℕ)
name_of names node key =
    if are_for names.only node then option_and_then (λ sheet. name_at sheet.rows key) names.sheet else None
