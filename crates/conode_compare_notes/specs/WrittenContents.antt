-- The entries that clients asked to write, and what they wrote.
use Rattle.std.specs.Prelude.{ℕ, List, [], ◌∷◌, ◌++◌, slice_set, find, position, Option, Some, None, option_map}
use Rattle.co_value.specs.declared.key.Key.{Key}
use Rattle.co_value.specs.Keys.{same_key}
use Rattle.conode_compare_notes.specs.declared.contents.Content.{Content}
use Rattle.conode_compare_notes.specs.declared.writes.Wrote.{Wrote}

abbrev pub place_of : List Wrote → Key → Option ℕ
place_of all key = position (λ wrote. same_key wrote.key key) all

abbrev pub noted_at : Option ℕ → List Wrote → Wrote → List Wrote
noted_at (Some place) all wrote = slice_set all place wrote
noted_at None all wrote = all ++ wrote ∷ []

-- an entry was asked to be written, and this is known of it now
abbrev pub with_content : List Wrote → Key → Option Content → List Wrote
with_content all key content = noted_at (place_of all key) all (record { key = key; content = content })

-- what is known of an entry; nothing where it wasn't asked to be written
abbrev pub content_of : List Wrote → Key → Option (Option Content)
content_of all key = option_map (λ wrote. wrote.content) (find (λ wrote. same_key wrote.key key) all)
