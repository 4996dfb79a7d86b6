-- Characters, evaluated.
use Rattle.std.proofs.Common.{◌≡◌, [], ◌∷◌, refl}
use Rattle.std.specs.Str.{chars, is_utf8}
use Rattle.conode_json.specs.Characters.{characters_of, windows_1252}

-- a letter, the euro sign, a byte that Windows-1252 leaves open, and a letter of the upper half
windows : windows_1252 65 ∷ windows_1252 0x80 ∷ windows_1252 0x81 ∷ windows_1252 0x9F ∷ windows_1252 0xE4 ∷ [] ≡ 65 ∷ 0x20AC ∷ 0x81 ∷ 0x178 ∷ 0xE4 ∷ []
unfolding windows_1252
windows = refl

-- `ä` in UTF-8 is one character; a byte E4h alone is no UTF-8 and is the same character
utf8_line : characters_of (65 ∷ 0xC3 ∷ 0xA4 ∷ []) ≡ 65 ∷ 0xE4 ∷ []
unfolding characters_of chars is_utf8 lib.Utf8.encode
utf8_line = refl

other_line : characters_of (65 ∷ 0xE4 ∷ []) ≡ 65 ∷ 0xE4 ∷ []
unfolding characters_of windows_1252 chars is_utf8 lib.Utf8.encode
other_line = refl
