use Rattle.std.proofs.Common.{◌≡◌, ◌-◌, Bor, List, ℕ, ap, arith, length, nat_lt, not, true}
use Rattle.std.proofs.lemmas.Bool.Decides.{nat_tests}
use Rattle.std.proofs.lemmas.List.{length-map, take-map}
use Rattle.conode_lint.proofs.other_format.has_doubled_returns.Goals as goal

pub returns-then-lines-gt1 : goal.returns-then-lines-gt1
returns-then-lines-gt1 c =
    let lines = c.args.lines.now in
    let several : nat_lt 1 (length lines) ≡ true = grind (arith, nat_tests) in
    rw (length-map lines (λ (line : Bor (List ℕ)). line.now), take-map (λ (line : Bor (List ℕ)). line.now) (length lines - 1) lines, several)
    (ap not c.has_other_end.ensures)
