use Rattle.std.proofs.Common.{sym, subst}
use Rattle.conode_lint.specs.Linted.{most_severe}
use Rattle.conode_lint.specs.Marks.{IsByLine}
use Rattle.conode_lint.proofs.linted_text.made_of.Goals as goal

pub made_with-requires : goal.made_with-requires
made_with-requires c = subst (IsByLine (most_severe 1000 c.args.marks.now)) (sym c.as_slice.ensures.value) c.in-Ok.ensures
