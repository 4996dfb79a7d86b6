-- Texts of a sheet as they are printed.
use Rattle.std.specs.Prelude.{ℕ, List, []}
use Rattle.std.specs.Option.{option_map_or}
use Rattle.co_sheet_text.specs.Sections.{TextSection, property_at}
use Rattle.conode_json.specs.Characters.{characters_of}
use Rattle.conode_lint_text.specs.Characters.{shown_all}

-- a text of the sheet, read as UTF-8 if it is valid, else as Windows-1252, with the characters that a
-- terminal would obey, that can't be seen or that turn the text around escaped, as `lint` does
unfoldable pub plain_text : List ℕ → List ℕ
plain_text text = shown_all (characters_of text)

-- the text of a property, empty if the section has none
unfoldable pub property_text : List ℕ → TextSection → List ℕ
property_text name section = option_map_or (λ k. plain_text k.value) (property_at name section) []
