use Rattle.std.proofs.Common.{◌≡◌, nat_lt, true, arith}
use Rattle.std.proofs.lemmas.Bool.Decides.{nat_tests}
use Rattle.conode_stats_text.proofs.Appended.{both}
use Rattle.conode_stats_text.proofs.page.push_end.Goals as goal

pub returns-then-count-gt-MOST_FINDINGS : goal.returns-then-count-gt-MOST_FINDINGS
returns-then-count-gt-MOST_FINDINGS c =
    let long : nat_lt 20 c.args.count ≡ true = grind (arith, nat_tests) in
    rw long (both _ _ _ _ _ c.put.ensures (rw (c.most_at_top.ensures, long) at c.push_found.ensures))
