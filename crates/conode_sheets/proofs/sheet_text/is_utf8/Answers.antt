use Rattle.std.proofs.Common.{◌≡◌, ℕ, Bool, true, false, List, refl, sym}
use Rattle.std.specs.Str.{IsUtf8, is_utf8}
use Rattle.std.proofs.lemmas.Str.{IsUtf8-from_is_utf8, is_utf8-from_IsUtf8}
use Rattle.conode_sheets.proofs.sheet_text.is_utf8.Goals as goal

other : (line : List ℕ) → ¬ (IsUtf8 line) → (b : Bool) → is_utf8 line ≡ b → false ≡ b
other line h true e = absurd (h (IsUtf8-from_is_utf8 line e))
other line h false e = refl

pub returns-in-Ok : goal.returns-in-Ok
returns-in-Ok c = sym (is_utf8-from_IsUtf8 c.args.line.now c.in-Ok.ensures.cases.1)

pub returns-in-Err : goal.returns-in-Err
returns-in-Err c = other c.args.line.now c.in-Err.ensures.cases.0 (is_utf8 c.args.line.now) refl
