-- The table of hexadecimal digits that are printed.
use Rattle.std.proofs.Common.{◌≡◌, ℕ, ◌<◌, List, map, get_or, refl, ap, ◌∙◌, arith}
use Rattle.std.specs.List.{range_with_len}
use Rattle.std.proofs.lemmas.List.FromFn.{get_or-map-range_with_len}
use Rattle.conode_explain_text.specs.declared.pieces.TheConstants.{DIGITS}
use Rattle.co_text.specs.Printed.{printed_digit}

table : DIGITS ≡ map printed_digit (range_with_len 0 16)
table = refl

pub looked_up : (digit : ℕ) → digit < 16 → get_or DIGITS digit 0 ≡ printed_digit digit
looked_up digit below = ap (λ (digits : List ℕ). get_or digits digit 0) table ∙ get_or-map-range_with_len printed_digit 0 16 digit digit 0 below (omega arith)
