-- Text from outside in markup (XML 1.0, 2.2 to 2.4; HTML).
use Rattle.std.specs.Prelude.{ℕ, ◌==◌, nat_le, Bool, true, not, ◌&&◌, ◌||◌, if◌then◌else◌, List, [], ◌∷◌, ◌++◌, codes, Option, Some, None}
use Rattle.std.specs.Char.{encode_utf8, is_control}
use Rattle.std.specs.List.{flat_map, starts_with}
use Rattle.std.specs.Option.{option_map_or}
use Rattle.co_text.specs.Printed.{byte_text}
use Rattle.conode_json.specs.Characters.{characters_of}

-- what stands for a character that has a meaning of its own in markup, and for a tab; U+FFFE and U+FFFF
-- may not be in XML: U+FFFD is there instead, in UTF-8
abbrev pub replacement : ℕ → Option (List ℕ)
replacement character =
    if character == 38 then Some (codes "&amp;")
    else if character == 60 then Some (codes "&lt;")
    else if character == 62 then Some (codes "&gt;")
    else if character == 34 then Some (codes "&quot;")
    else if character == 39 then Some (codes "&#39;")
    else if character == 9 then Some (codes "\\t")
    else if (character == 0xFFFE) || (character == 0xFFFF) then Some (0xEF ∷ 0xBF ∷ 0xBD ∷ [])
    else None

-- another character in UTF-8; a control character as `\x1B`, but for the line feed
abbrev pub shown : ℕ → List ℕ
shown character =
    if (character == 10) || not (is_control character) then encode_utf8 character
    else codes "\\x" ++ byte_text character

unfoldable pub escaped_character : ℕ → List ℕ
escaped_character character = option_map_or (λ text. text) (replacement character) (shown character)

-- bytes, read as UTF-8 if they are valid, else as Windows-1252
abbrev pub escaped : List ℕ → List ℕ
escaped bytes = flat_map escaped_character (characters_of bytes)

-- ---- what is plain text in markup

-- whether a byte is text, between tags and in a quoted value: no control character but the line feed, and
-- none of `"`, `&`, `'`, `<`, `>`
abbrev pub is_plain : ℕ → Bool
is_plain byte =
    ((byte == 10) || nat_le 32 byte) && not (byte == 34) && not (byte == 38) && not (byte == 39)
    && not (byte == 60) && not (byte == 62)

abbrev pub begins : List ℕ → List ℕ → Bool
begins text front = starts_with (λ a b. a == b) text front

-- whether one of the five references goes on after an `&`
abbrev pub is_reference : List ℕ → Bool
is_reference rest =
    begins rest (codes "amp;") || begins rest (codes "lt;") || begins rest (codes "gt;")
    || begins rest (codes "quot;") || begins rest (codes "#39;")

-- whether bytes are plain, but for `&` where a reference begins
abbrev pub is_character_data : List ℕ → Bool
is_character_data [] = true
is_character_data (byte ∷ rest) =
    (if byte == 38 then is_reference rest else is_plain byte) && is_character_data rest
