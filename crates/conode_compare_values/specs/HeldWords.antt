-- The entries that a user names, which are held to what was written.
use Rattle.std.specs.Prelude.{◌≡◌, ℕ, ◌==◌, List, [], ◌∷◌, Option, Some, None, option_map, option_and_then, find, position, ⊤}
use Rattle.std.specs.List.{slice_split}
use Rattle.co_sheet.specs.Content.{Row}
use Rattle.co_value.specs.declared.data_type.DataType.{DataType}
use Rattle.co_value.specs.declared.data_type.DataType.TheVariants.{Boolean}
use Rattle.co_value.specs.declared.key.Key.{Key}
use Rattle.co_value.specs.Keys.{same_key}
use Rattle.co_value.specs.KeyTexts.{key_in}
use Rattle.co_value.specs.Types.{width_of}
use Rattle.co_sheet_changes.specs.Names.{row_at}
use Rattle.conode_compare_values.specs.declared.entries.HeldEntry.{HeldEntry}
use Rattle.conode_compare_values.specs.declared.entries.HeldFault.{HeldFault}
use Rattle.conode_compare_values.specs.declared.entries.HeldFault.TheVariants.{Word, Entry, TooMany}

-- ---- entries

-- an integer can be held; of the byte of a BOOLEAN only one bit may count
abbrev pub held_width : DataType → Option ℕ
held_width Boolean = None
held_width other = width_of other

-- the entry of a key, where the data sheet has such an integer
abbrev pub held_at : List Row → Key → Option HeldEntry
held_at rows key =
    option_and_then (λ row. option_map (λ width. record { key = key; width = width; mappable = row.mappable }) (held_width row.data_type)) (row_at rows key)

-- of a key that is held, its entry, and its place among them
abbrev pub entry_of : List HeldEntry → Key → Option HeldEntry
entry_of entries key = find (λ entry. same_key entry.key key) entries

abbrev pub place_of : List HeldEntry → Key → Option ℕ
place_of entries key = position (λ entry. same_key entry.key key) entries

-- ---- words

-- KEY, as `2001:00`
abbrev pub held_word : List Row → List ℕ → Option HeldEntry
held_word rows word = option_and_then (held_at rows) (key_in word)

abbrev pub with_first : HeldEntry → Option (List HeldEntry) → Option (List HeldEntry)
with_first entry None = None
with_first entry (Some more) = Some (entry ∷ more)

-- what words name; nothing where one of them names no such entry
unfoldable pub held_of : List Row → List (List ℕ) → Option (List HeldEntry)
held_of rows [] = Some []
held_of rows (word ∷ words) = option_and_then (λ entry. with_first entry (held_of rows words)) (held_word rows word)

-- the words of a text have a comma between two
unfoldable pub words_in : List ℕ → List (List ℕ)
words_in text = slice_split (λ b. b == 44) text

-- what a text names
abbrev pub held_in : List Row → List ℕ → Option (List HeldEntry)
held_in rows text = held_of rows (words_in text)

-- a fault of a text: a word names no such entry, or there are too many words
abbrev pub IsFault : List Row → List ℕ → HeldFault → Type 0
IsFault rows text Word = held_in rows text ≡ None
IsFault rows text (Entry key) = held_in rows text ≡ None
IsFault rows text TooMany = ⊤
