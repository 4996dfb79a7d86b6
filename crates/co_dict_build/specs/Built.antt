-- The dictionary that a data sheet makes for a node-ID and limits (CiA 301, 7.4; CiA 306).
use Rattle.std.specs.Prelude.{ℕ, Bool, List, [], ◌∷◌, map}
use Rattle.co_sheet.specs.Content.{Row as SheetRow, SheetContent, is_dummy}
use Rattle.co_dict.specs.Rows.{Contents}
use Rattle.co_dict.specs.Stores.{Description}
use Rattle.co_dict_build.specs.ListedEntries.{ListedEntry, initial_entry, contents_in, description_in}
use Rattle.co_sheet_rows.specs.declared.entry.EntryRow.{EntryRow}
use Rattle.co_sheet.specs.SheetViews.{row_view}
use Rattle.co_dict_build.specs.declared.limits.Limits.{Limits as CodeLimits}
use Rattle.co_dict_build.specs.Capacities.{Limits, limits_view}
use Rattle.co_dict_build.specs.EntryLimits.{row_in}
use Rattle.co_dict_build.specs.InitialBytes.{initial_of}

-- what a data sheet, a node-ID and limits say: the rows, and which of the dummy entries 0002h to
-- 0007h may be mapped
pub record Plan : Type 0 where
  pub node : ℕ
  pub limits : Limits
  pub rows : List SheetRow
  pub dummies : List Bool

-- the plan of these rows and dummy entries
abbrev pub plan_with : ℕ → Limits → List SheetRow → List Bool → Plan
plan_with node limits rows dummies = record { node = node; limits = limits; rows = rows; dummies = dummies }

-- the plan of rows and limits as the code has them
abbrev pub plan_in : ℕ → CodeLimits → List EntryRow → List Bool → Plan
plan_in node limits rows dummies = plan_with node (limits_view limits) (map row_view rows) dummies

-- which of the dummy entries 0002h to 0007h a data sheet allows to be mapped
abbrev pub dummies_of : SheetContent → List Bool
dummies_of sheet = map (is_dummy sheet.dummies) (2 ∷ 3 ∷ 4 ∷ 5 ∷ 6 ∷ 7 ∷ [])

-- the plan of a data sheet
abbrev pub plan_of : ℕ → Limits → SheetContent → Plan
plan_of node limits sheet = plan_with node limits sheet.rows (dummies_of sheet)

-- the entry of a row, with its initial bytes
abbrev pub entry_of : ℕ → Limits → SheetRow → ListedEntry
entry_of node limits row = initial_entry row.key (row_in limits row) (initial_of node row)

-- the entries, in the order of the sheet
abbrev pub built : Plan → List ListedEntry
built plan = map (entry_of plan.node plan.limits) plan.rows

-- what never changes of the dictionary that is made
abbrev pub built_description : Plan → Description
built_description plan = description_in plan.node plan.dummies (built plan)

-- its contents: the initial bytes
abbrev pub built_contents : Plan → Contents
built_contents plan = contents_in (built plan)
