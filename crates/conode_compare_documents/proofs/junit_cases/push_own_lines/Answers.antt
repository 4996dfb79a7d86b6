-- One difference more.
use Rattle.std.proofs.Common.{refl, take_all, arith}
use Rattle.conode_json.proofs.Appending.{nothing}
use Rattle.conode_compare_documents.specs.JunitCases.{is_of_kind, line_markup}
use Rattle.conode_compare_documents.proofs.Firsts.{count_more, one_more}
use Rattle.conode_compare_documents.proofs.junit_cases.push_own_lines.Goals as goal

pub loop-one-init : goal.loop-one-init
loop-one-init c = record { lines = nothing _; count = refl; bound = omega arith }

pub loop-one-preserved : goal.loop-one-preserved
loop-one-preserved c =
    let more = count_more (is_of_kind c.args.kind) (line_markup c.args.recording.now) 100 c.args.noted.now c.loop-one.one-index _ c.loop-one.count _ c.loop-one-test.true c.loop-one.invariant.count c.push_own_line-count.ensures.count in
    record {
      lines = one_more (is_of_kind c.args.kind) (line_markup c.args.recording.now) 100 c.args.noted.now c.loop-one.one-index _ c.loop-one.count c.loop-one-test.true c.loop-one.invariant.count c.loop-one.invariant.lines c.push_own_line-count.ensures.line;
      count = more;
      bound = omega (arith, more);
    }

pub returns-clause-lines : goal.returns-clause-lines
returns-clause-lines c = rw (take_all c.loop-one.one-index c.args.noted.now c.loop-one-test.false) at c.loop-one.invariant.lines

pub returns-clause-count : goal.returns-clause-count
returns-clause-count c = rw (take_all c.loop-one.one-index c.args.noted.now c.loop-one-test.false) at c.loop-one.invariant.count
