use Rattle.std.proofs.Common.{◌≡◌, ◌<◌, ℕ, get_or, true}
use Rattle.co_sheet_text.specs.Names.{is_hexadecimal_digit}
use Rattle.co_sheet_text.proofs.section_kind.hexadecimal_len.Given as goal

abbrev pub invariant-loop-place : goal.invariant-loop-place
invariant-loop-place l = (k : ℕ) → k < l.place → is_hexadecimal_digit (get_or l.text k 0) ≡ true
