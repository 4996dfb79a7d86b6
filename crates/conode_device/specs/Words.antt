-- The words of the command line that say what is downloaded.
use Rattle.std.specs.Prelude.{ℕ, nat_le, List, length, Option, Some, None, option_and_then, if◌then◌else◌}
use Rattle.co_text.specs.HexPairs.{hex_in}

-- the bytes of a word: pairs of hexadecimal digits, at most 65,535 of them, or a hyphen for none
unfoldable pub bytes_in : List ℕ → Option (List ℕ)
bytes_in word = option_and_then (λ bytes. if nat_le (length bytes) 65535 then Some bytes else None) (hex_in word)
