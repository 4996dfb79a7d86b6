use Rattle.std.proofs.Common.{arith}
use Rattle.conode_stats_text.proofs.Listed.{kind_written}
use Rattle.conode_stats_text.proofs.found.push_kind_lines.Goals as goal

pub returns : goal.returns
returns c =
    kind_written _ _ _ c.args.from c.args.until c.args.kind _ _ (omega arith) (omega arith) (rw c.new-excerpt.ensures at c.push_kind.ensures)
    (rw (c.further.ensures, c.left.ensures) at c.push_count.ensures)
