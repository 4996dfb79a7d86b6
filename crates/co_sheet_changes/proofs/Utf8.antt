-- Which texts are UTF-8, by test.
use Rattle.std.proofs.Common.{◌≡◌, ℕ, Bool, true, false, List, Some, None, refl}
use Rattle.std.specs.Prelude.{if◌then◌else◌}
use Rattle.std.specs.Str.{IsUtf8, is_utf8}
use Rattle.std.proofs.lemmas.Str.{IsUtf8-from_is_utf8, is_utf8-from_IsUtf8}
use Rattle.co_sheet_changes.specs.Names.{if_utf8}

pub utf8_stays : (text : List ℕ) → IsUtf8 text → if_utf8 text ≡ Some text
utf8_stays text h = rw (is_utf8-from_IsUtf8 text h) refl

pub other_goes : (text : List ℕ) → ¬ (IsUtf8 text) → if_utf8 text ≡ None
other_goes text h = by_test (is_utf8 text) refl
  where
    by_test : (b : Bool) → is_utf8 text ≡ b → (if b then Some text else None) ≡ None
    by_test true e = absurd (h (IsUtf8-from_is_utf8 text e))
    by_test false e = refl
