-- What a data sheet says of the entries of a device.
use Rattle.std.specs.Prelude.{ℕ, if◌then◌else◌, bytes_eq, codes, List, [], map, Option, slice_get, position, unwrap_or}
use Rattle.std.specs.Option.{option_map_or}
use Rattle.co_value.specs.declared.key.Key.{Key}
use Rattle.co_value.specs.Keys.{same_key}
use Rattle.co_value.specs.declared.data_type.DataType.{DataType}
use Rattle.co_value.specs.Types.{code_of}
use Rattle.co_sheet.specs.Content.{Row as SheetRow}
use Rattle.co_dict_build.specs.Capacities.{Limits, capacity_of}
use Rattle.co_dict_table.specs.declared.table.EntryFacts.{EntryFacts}

-- the number of an original type's code, as it is written: REAL32, UNICODE_STRING, TIME_OF_DAY,
-- TIME_DIFFERENCE, REAL64
abbrev pub code_written : List ℕ → ℕ
code_written text =
    if bytes_eq text (codes "0x0008") then 0x08
    else if bytes_eq text (codes "0x000B") then 0x0B
    else if bytes_eq text (codes "0x000C") then 0x0C
    else if bytes_eq text (codes "0x000D") then 0x0D
    else 0x11

-- the code of the original type where there is one, else of the type (CiA 301, 7.4.7.1)
abbrev pub code_or : Option (List ℕ) → DataType → ℕ
code_or original t = option_map_or code_written original (code_of t)

-- what the row of a sheet says of an entry, with these original types by section line, and these
-- limits
abbrev pub facts_of_row : (ℕ → Option (List ℕ)) → Limits → SheetRow → EntryFacts
facts_of_row originals limits row = record {
  key = row.key;
  data_type = row.data_type;
  access = row.access;
  original = code_or (originals row.line) row.data_type;
  capacity = capacity_of limits row;
}

-- an entry, with its name, which is empty where it has none
pub record EntryContent : Type 0 where
  pub facts : EntryFacts
  pub name : List ℕ

abbrev pub content_of_row : (ℕ → Option (List ℕ)) → Limits → SheetRow → EntryContent
content_of_row originals limits row =
    record { facts = facts_of_row originals limits row; name = unwrap_or row.name [] }

-- the entries of all rows, in their order, which is that of the keys
abbrev pub contents_of_rows : (ℕ → Option (List ℕ)) → Limits → List SheetRow → List EntryContent
contents_of_rows originals limits rows = map (content_of_row originals limits) rows

-- the entry with a number, from 0 on
abbrev pub entry_at : List EntryContent → ℕ → Option EntryContent
entry_at entries number = slice_get entries number

-- its name; empty where there is no such entry
abbrev pub name_at : List EntryContent → ℕ → List ℕ
name_at entries number = option_map_or (λ e. e.name) (entry_at entries number) []

-- the number of the entry with a key
abbrev pub number_of : List EntryContent → Key → Option ℕ
number_of entries key = position (λ e. same_key key e.facts.key) entries
