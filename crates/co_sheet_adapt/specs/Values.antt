-- Values of an OCTET_STRING with blanks between its bytes (CiA 306, object description).
use Rattle.std.specs.Prelude.{ℕ, Bool, true, false, if◌then◌else◌, List, [], ◌∷◌, Option, Some, None}
use Rattle.std.specs.Option.{option_map_or}
use Rattle.co_text.specs.Texts.{is_blank, hex_pair}
use Rattle.co_sheet.specs.Limits.{is_pairs}
use Rattle.co_sheet_changes.specs.Groups.{without_blanks}

-- pairs of hexadecimal digits, and blanks between whole pairs
abbrev pub is_spaced : List ℕ → Bool
is_spaced [] = true
is_spaced (b ∷ []) = is_blank b
is_spaced (b ∷ c ∷ bs) =
    if is_blank b then is_spaced (c ∷ bs)
    else option_map_or (λ byte. is_spaced bs) (hex_pair b c) false

-- the pairs that a text is without the blanks between them, where it has some
abbrev pub pairs_without_blanks : List ℕ → Option (List ℕ)
pairs_without_blanks value =
    if is_pairs value then None
    else if is_spaced value then Some (without_blanks value)
    else None
