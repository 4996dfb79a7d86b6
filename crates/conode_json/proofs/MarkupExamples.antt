-- What is escaped, evaluated, on both sides of each edge.
use Rattle.std.proofs.Common.{◌≡◌, ℕ, List, Bor, Some, None, true, false, [], ◌∷◌, refl}
use Rattle.std.specs.Prelude.{codes}
use Rattle.std.specs.Fmt.{digits}
use Rattle.std.specs.List.{flat_map}
use Rattle.std.specs.Str.{chars, is_utf8}
use Rattle.co_text.specs.Printed.{digits_text}
use Rattle.conode_json.specs.Characters.{characters_of, windows_1252}
use Rattle.conode_json.specs.declared.value.Value.TheVariants.{AnyCode, AnyText, Words, Either, Number, Count, Seconds, Key, Code}
use Rattle.conode_json.specs.Escapes.{escaped, escaped_character, is_character_data, is_plain}
use Rattle.conode_json.specs.Filled.{code_digits, filled, seconds_text}

-- an element of markup in a name
a_tag : escaped (codes "<b>'&\"") ≡ codes "&lt;b&gt;&#39;&amp;&quot;"
unfolding escaped_character characters_of is_utf8 chars lib.Utf8.encode
a_tag = refl

-- their neighbours stand for themselves
neighbours : escaped (codes "!#%(;=?~") ≡ codes "!#%(;=?~"
unfolding escaped_character characters_of is_utf8 chars lib.Utf8.encode
neighbours = refl

-- a tab, a line feed, a carriage return, the last control characters of both kinds and a blank
controls : flat_map escaped_character (9 ∷ 10 ∷ 13 ∷ 31 ∷ 32 ∷ 0x7F ∷ 0x9F ∷ []) ≡ codes "\\t\n\\x0D\\x1F \\x7F\\x9F"
unfolding escaped_character digits_text lib.Utf8.encode
controls = refl

-- U+00A0, and the characters before and after the two that XML doesn't have
past_controls : escaped_character 0xA0 ≡ 0xC2 ∷ 0xA0 ∷ []
unfolding escaped_character lib.Utf8.encode
past_controls = refl

not_in_xml : flat_map escaped_character (0xFFFD ∷ 0xFFFE ∷ 0xFFFF ∷ 0x10000 ∷ [])
    ≡ 0xEF ∷ 0xBF ∷ 0xBD ∷ 0xEF ∷ 0xBF ∷ 0xBD ∷ 0xEF ∷ 0xBF ∷ 0xBD ∷ 0xF0 ∷ 0x90 ∷ 0x80 ∷ 0x80 ∷ []
unfolding escaped_character lib.Utf8.encode
not_in_xml = refl

-- `ü` in UTF-8, and as the byte FCh, which is no UTF-8
in_utf8 : escaped (0xC3 ∷ 0xBC ∷ []) ≡ 0xC3 ∷ 0xBC ∷ []
unfolding escaped_character characters_of is_utf8 chars lib.Utf8.encode
in_utf8 = refl

in_windows_1252 : escaped (0xFC ∷ []) ≡ 0xC3 ∷ 0xBC ∷ []
unfolding escaped_character characters_of windows_1252 is_utf8 chars lib.Utf8.encode
in_windows_1252 = refl

-- ---- what is plain

plain_text : is_character_data (codes "a\n&amp;&lt;&gt;&quot;&#39;;") ≡ true
plain_text = refl

bare_ampersand : is_character_data (codes "a & b") ≡ false
bare_ampersand = refl

other_reference : is_character_data (codes "&nbsp;") ≡ false
other_reference = refl

-- a reference that is cut off
cut_reference : is_character_data (codes "&amp") ≡ false
cut_reference = refl

tags_and_quotes : is_character_data (codes "<") ∷ is_character_data (codes ">") ∷ is_character_data (codes "\"") ∷ is_character_data (codes "'") ∷ [] ≡ false ∷ false ∷ false ∷ false ∷ []
tags_and_quotes = refl

control_bytes : is_plain 9 ∷ is_plain 10 ∷ is_plain 11 ∷ is_plain 31 ∷ is_plain 32 ∷ [] ≡ false ∷ true ∷ false ∷ false ∷ true ∷ []
control_bytes = refl

-- ---- values in markup

seconds : seconds_text 12345678 ≡ codes "12.345678"
unfolding seconds_text digits_text digits
seconds = refl

less_than_a_second : seconds_text 1000 ≡ codes "0.001000"
unfolding seconds_text digits_text digits
less_than_a_second = refl

abbrev words : List ℕ → Bor (List ℕ)
words text = record { ref_ptr = (0, 0); now = text }

-- each percent sign is a place
in_row : filled (codes "<i></i>% %,%%h%") (Number 5 ∷ Seconds 1 ∷ Key (record { index = 0x1018; sub = 1 }) ∷ Words (words (codes "%")) ∷ Words (words (codes "<b>")) ∷ [])
    ≡ codes "<i></i>5 0.000001,1018:01%h<b>"
unfolding seconds_text digits_text digits
in_row = refl

-- more places than values, and fewer
places : filled (codes "a%b%c") (Number 5 ∷ []) ∷ filled (codes "a") (Number 5 ∷ []) ∷ filled [] (Number 5 ∷ []) ∷ [] ≡ codes "a5bc" ∷ codes "a" ∷ [] ∷ []
unfolding digits
places = refl

-- a count, and words for 0
counts : filled (codes "%,%") (Count 12 (words (codes "none")) ∷ Count 0 (words (codes "none")) ∷ []) ≡ codes "12,none"
unfolding digits
counts = refl

-- one of two words
choices : filled (codes "%,%") (Either true (words (codes "yes")) (words (codes "no")) ∷ Either false (words (codes "yes")) (words (codes "no")) ∷ []) ≡ codes "yes,no"
choices = refl

-- the lowest 32 bits, and words for none
numbers : filled (codes "%,%,%,%,%") (Code (Some 0x06020000) (words []) ∷ Code (Some 0x1F0000001) (words []) ∷ Code None (words (codes "none")) ∷ AnyCode (words (codes "<i>")) (Some 1) (words (codes "</i>")) ∷ AnyCode (words (codes "<i>")) None (words (codes "</i>")) ∷ [])
    ≡ codes "06020000h,F0000001h,none,<i>00000001h</i>,"
unfolding code_digits digits_text
numbers = refl

any_texts : filled (codes "%%") (AnyText (words (codes "<i>")) (Some (words (codes "<"))) (words (codes "</i>")) ∷ AnyText (words (codes "<i>")) None (words (codes "</i>")) ∷ [])
    ≡ codes "<i>&lt;</i>"
unfolding escaped_character characters_of is_utf8 chars lib.Utf8.encode
any_texts = refl
