-- Keys in words.
use Rattle.std.specs.Prelude.{ℕ, ◌==◌, if◌then◌else◌, List, [], ◌∷◌, ◌++◌, Option, Some, None, codes}
use Rattle.co_text.specs.Texts.{◌>>=◌}
use Rattle.co_text.specs.HexPairs.{byte_in, word_in}
use Rattle.co_text.specs.Printed.{digits_text}
use Rattle.co_value.specs.declared.key.Key.{Key}

-- a key: four hexadecimal digits, a colon and two more
abbrev pub key_text : Key → List ℕ
key_text key = digits_text 16 4 key.index ++ codes ":" ++ digits_text 16 2 key.sub

-- KEY: an index in four digits, a colon, and a sub-index in two
unfoldable pub key_in : List ℕ → Option Key
key_in (a ∷ b ∷ c ∷ d ∷ colon ∷ e ∷ f ∷ []) =
    if colon == 58
    then (word_in (a ∷ b ∷ c ∷ d ∷ []) >>= λ index. byte_in (e ∷ f ∷ []) >>= λ sub.
    Some (record { index = index; sub = sub }))
    else None
key_in other = None
