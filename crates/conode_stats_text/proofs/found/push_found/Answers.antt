use Rattle.std.proofs.Common.{refl}
use Rattle.conode_stats_text.specs.Found.{found_lines, kind_lines_of, kinds}
use Rattle.conode_stats_text.proofs.Appended.{ends, more}
use Rattle.conode_stats_text.proofs.found.push_found.Goals as goal

pub loop-kind-preserved : goal.loop-kind-preserved
loop-kind-preserved c =
    more (kind_lines_of c.args.from c.args.until c.args.page.now) kinds c.loop-kind.kind-index _ _ _ _ _ c.loop-kind-test.true refl
    c.loop-kind.invariant c.push_kind_lines.ensures

pub returns : goal.returns
returns c =
    unfold found_lines in
    ends (kind_lines_of c.args.from c.args.until c.args.page.now) kinds c.loop-kind.kind-index _ _ c.loop-kind-test.false c.loop-kind.invariant
