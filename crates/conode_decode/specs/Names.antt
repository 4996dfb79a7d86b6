-- The name of an entry as it follows a text with its key.
use Rattle.std.specs.Prelude.{ℕ, List, [], ◌∷◌, ◌++◌, codes, Option, option_and_then}
use Rattle.std.specs.Option.{option_map_or}
use Rattle.co_value.specs.declared.key.Key.{Key}
use Rattle.co_sheet_changes.specs.Names.{Names, name_of}

-- a space and a name in double quotes, if there is one
abbrev pub quoted : Option (List ℕ) → List ℕ
quoted name = option_map_or (λ text. codes " " ++ 34 ∷ (text ++ 34 ∷ [])) name []

-- what follows a text with a key
unfoldable pub name_text : Names → ℕ → Option Key → List ℕ
name_text names node key = quoted (option_and_then (name_of names node) key)
