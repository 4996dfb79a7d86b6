use Rattle.std.proofs.Common.{◌≡◌}
use Rattle.conode_sheets.proofs.sheet_text.texts_of.Given as goal

abbrev pub invariant-loop-word : goal.invariant-loop-word
invariant-loop-word g l = g.O.Write.contents l.out ≡ g.O.Write.contents l.fn.out
