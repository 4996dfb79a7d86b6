-- The characters of a line, by whether it is UTF-8.
use Rattle.std.proofs.Common.{◌≡◌, ℕ, Bool, true, false, List, map, refl}
use Rattle.std.specs.Prelude.{if◌then◌else◌}
use Rattle.std.specs.Str.{IsUtf8, chars, is_utf8}
use Rattle.std.proofs.lemmas.Str.{IsUtf8-from_is_utf8, is_utf8-from_IsUtf8}
use Rattle.conode_json.specs.Characters.{characters_of, windows_1252}

pub utf8_characters : (line : List ℕ) → IsUtf8 line → characters_of line ≡ chars line
unfolding characters_of
utf8_characters line h = rw (is_utf8-from_IsUtf8 line h) refl

pub other_characters : (line : List ℕ) → ¬ (IsUtf8 line) → characters_of line ≡ map windows_1252 line
unfolding characters_of
other_characters line h = by_test (is_utf8 line) refl
  where
    by_test : (b : Bool) → is_utf8 line ≡ b → (if b then chars line else map windows_1252 line) ≡ map windows_1252 line
    by_test true e = absurd (h (IsUtf8-from_is_utf8 line e))
    by_test false e = refl
