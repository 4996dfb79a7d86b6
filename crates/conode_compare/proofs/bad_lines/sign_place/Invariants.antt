use Rattle.std.proofs.Common.{◌≡◌, ℕ, ◌<◌, true, get_or}
use Rattle.conode_compare.specs.BadLines.{is_no_sign}
use Rattle.conode_compare.proofs.bad_lines.sign_place.Given as goal

abbrev pub invariant-loop-count : goal.invariant-loop-count
invariant-loop-count l = (k : ℕ) → k < l.count → is_no_sign (get_or l.line k 0) ≡ true
