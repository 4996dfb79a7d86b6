use Rattle.std.proofs.Common.{◌≡◌, ◌==◌, false, arith}
use Rattle.std.proofs.lemmas.Bool.Decides.{nat_tests}
use Rattle.conode_stats_text.proofs.Listed.{nothing}
use Rattle.conode_stats_text.proofs.found.push_row_wrong.Goals as goal

pub returns-else-row-node : goal.returns-else-row-node
returns-else-row-node c =
    let other : (c.args.row.now.cause.node == c.args.node) ≡ false = grind (arith, nat_tests) in
    rw other (nothing _ _)
