-- The characters of a text from outside.
use Rattle.std.specs.Prelude.{ℕ, ◌-◌, nat_lt, if◌then◌else◌, List, [], ◌∷◌, map}
use Rattle.std.specs.List.{flat_map, slice_index}
use Rattle.std.specs.Char.{encode_utf8}
use Rattle.std.specs.Str.{chars, is_utf8}

-- the characters of the bytes 80h to 9Fh in Windows-1252; the five that it leaves open are control
-- characters
abbrev pub windows_1252_marks : List ℕ
windows_1252_marks =
    0x20AC ∷ 0x81 ∷ 0x201A ∷ 0x192 ∷ 0x201E ∷ 0x2026 ∷ 0x2020 ∷ 0x2021
    ∷ 0x2C6 ∷ 0x2030 ∷ 0x160 ∷ 0x2039 ∷ 0x152 ∷ 0x8D ∷ 0x17D ∷ 0x8F
    ∷ 0x90 ∷ 0x2018 ∷ 0x2019 ∷ 0x201C ∷ 0x201D ∷ 0x2022 ∷ 0x2013 ∷ 0x2014
    ∷ 0x2DC ∷ 0x2122 ∷ 0x161 ∷ 0x203A ∷ 0x153 ∷ 0x9D ∷ 0x17E ∷ 0x178 ∷ []

-- the character of a byte in Windows-1252
unfoldable pub windows_1252 : ℕ → ℕ
windows_1252 byte =
    if nat_lt byte 128 then byte
    else (if nat_lt byte 160 then slice_index windows_1252_marks (byte - 128) else byte)

-- the characters of a text, read as UTF-8 if it is valid, else as Windows-1252
unfoldable pub characters_of : List ℕ → List ℕ
characters_of text = if is_utf8 text then chars text else map windows_1252 text

-- characters in UTF-8
abbrev pub in_utf8 : List ℕ → List ℕ
in_utf8 characters = flat_map encode_utf8 characters

-- a text in UTF-8
abbrev pub utf8_of : List ℕ → List ℕ
utf8_of text = in_utf8 (characters_of text)
