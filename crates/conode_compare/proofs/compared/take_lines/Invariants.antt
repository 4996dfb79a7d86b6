use Rattle.co_stream.specs.Held.{nothing_held}
use Rattle.conode_compare.specs.Taking.{Takes}
use Rattle.conode_compare.specs.Views.{comparison_view}
use Rattle.conode_compare.proofs.compared.take_lines.Given as goal

abbrev pub invariant-loop-number : goal.invariant-loop-number
invariant-loop-number g l =
    Takes (comparison_view l.settings) nothing_held l.lines.lines (g.R.Read.remaining l.fn.reader) (g.R.Read.remaining l.reader) 1 l.number
    (record { log = l.fn.lines.log; comparing = l.fn.lines.comparing }) (record { log = l.lines.log; comparing = l.lines.comparing })
    (g.W.Write.contents l.fn.out) (g.W.Write.contents l.out)
