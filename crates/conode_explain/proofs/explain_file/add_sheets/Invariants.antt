use Rattle.std.proofs.Common.{◌≡◌}
use Rattle.conode_explain.proofs.explain_file.add_sheets.Given as goal

abbrev pub invariant-loop-text : goal.invariant-loop-text
invariant-loop-text g l = g.O.Write.contents l.out ≡ g.O.Write.contents l.fn.out
