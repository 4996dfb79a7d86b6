use Rattle.std.proofs.Common.{◌≡◌, rules, subst}
use Rattle.co_dict_build.specs.Capacities.{limits_view}
use Rattle.conode_io.specs.Written.{AppendsFront}
use Rattle.conode_check.specs.SheetTexts.{checked_lines, joined}
use Rattle.conode_check.proofs.sheet_check.check.Goals as goal

pub returns-in_err-hand_over-clause-write : goal.returns-in_err-hand_over-clause-write
returns-in_err-hand_over-clause-write g c said =
    let made : c.as_bytes.result.now ≡ joined (checked_lines c.args.text.now c.args.node (limits_view c.args.limits.now)) = search rules in
    subst (AppendsFront (g.W.Write.contents c.args.writer.now) (g.W.Write.contents c.hand_over.new.writer)) made c.in_err-hand_over.ensures.front
