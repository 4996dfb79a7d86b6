-- The number of an entry in the table is its place in the dictionary.
use Rattle.std.proofs.Common.{◌≡◌, ℕ, zero, suc, List, [], ◌∷◌, map, Option, refl}
use Rattle.std.specs.Prelude.{slice_get}
use Rattle.std.specs.Option.{option_map}
use Rattle.co_sheet.specs.Content.{Row as SheetRow}
use Rattle.co_dict_build.specs.Built.{entry_of}
use Rattle.co_dict_build.specs.Capacities.{Limits}
use Rattle.co_dict_build.specs.ListedEntries.{keys_in}
use Rattle.co_dict_table.specs.Entries.{content_of_row}

pub same_keys : (originals : ℕ → Option (List ℕ)) (node : ℕ) (limits : Limits) (rows : List SheetRow) (number : ℕ)
    → slice_get (keys_in (map (entry_of node limits) rows)) number
    ≡ option_map (λ e. e.facts.key) (slice_get (map (content_of_row originals limits) rows) number)
same_keys originals node limits [] number = refl
same_keys originals node limits (row ∷ rows) zero = refl
same_keys originals node limits (row ∷ rows) (suc number) = same_keys originals node limits rows number
