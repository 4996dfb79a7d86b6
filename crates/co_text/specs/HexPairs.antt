-- Pairs of hexadecimal digits, and the words that are made of them.
use Rattle.std.specs.Prelude.{◌≡◌, ℕ, ◌+◌, ◌*◌, ◌==◌, if◌then◌else◌, List, [], ◌∷◌, length, Option, Some, None, codes, bytes_eq}
use Rattle.std.specs.Option.{option_map, option_map_or}
use Rattle.co_text.specs.Texts.{◌>>=◌, hex_pair}

-- the byte that the two digits at the front spell, and what follows
abbrev pub pair_at : List ℕ → Option (ℕ × List ℕ)
pair_at [] = None
pair_at (high ∷ []) = None
pair_at (high ∷ low ∷ text) = option_map (λ byte. (byte, text)) (hex_pair high low)

-- the bytes that the pairs of digits at the front spell, and what follows
abbrev pub pairs_at : List ℕ → List ℕ × List ℕ
pairs_at [] = ([], [])
pairs_at (high ∷ []) = ([], high ∷ [])
pairs_at (high ∷ low ∷ text) =
    let rest = pairs_at text in
    option_map_or (λ byte. (byte ∷ rest.0, rest.1)) (hex_pair high low) ([], high ∷ low ∷ text)

-- a text that is pairs of digits and nothing else
abbrev pub ArePairs : List ℕ → Type 0
ArePairs text = (pairs_at text).1 ≡ []

-- the bytes that a text of pairs spells; None for every other text
unfoldable pub pairs_in : List ℕ → Option (List ℕ)
pairs_in text = let pairs = pairs_at text in if length pairs.1 == 0 then Some pairs.0 else None

-- HEX: one or more pairs of digits, or `-` for no bytes
unfoldable pub hex_in : List ℕ → Option (List ℕ)
hex_in word =
    if length word == 0 then None
    else (if bytes_eq word (codes "-") then Some [] else pairs_in word)

-- a byte in two digits
abbrev pub byte_in : List ℕ → Option ℕ
byte_in (high ∷ low ∷ []) = hex_pair high low
byte_in other = None

-- a number of two bytes in four digits
abbrev pub word_in : List ℕ → Option ℕ
word_in (a ∷ b ∷ c ∷ d ∷ []) = hex_pair a b >>= λ high. hex_pair c d >>= λ low. Some (256 * high + low)
word_in other = None

-- exactly this number of bytes, in pairs of digits
abbrev pub bytes_in : ℕ → List ℕ → Option (List ℕ)
bytes_in count word = pairs_in word >>= λ bytes. if length bytes == count then Some bytes else None
