use Rattle.std.proofs.Common.{Option, ◌++◌, ◌∙◌, ap, map, take_all}
use Rattle.std.specs.Prelude.{option_to_list}
use Rattle.co_sheet_text.specs.declared.section_kind.SectionKind.{SectionKind}
use Rattle.conode_lint_marks.specs.Doubts.{kinds_again}
use Rattle.conode_lint_marks.proofs.LoopLemmas.{appended_more}
use Rattle.conode_lint_marks.proofs.doubts.add_kinds_again.Goals as goal

pub loop-fault-preserved : goal.loop-fault-preserved
loop-fault-preserved c =
    appended_more (kinds_again (map (λ line. line.now) c.args.lines.now)) c.args.faults.now c.loop-fault.fault-index _ _ _ _
    c.loop-fault-test.true c.loop-fault.invariant
    (c.in-Ok.ensures ∙ ap (λ (o : Option SectionKind). c.loop-fault.kinds.items ++ option_to_list o) c.kind_again.ensures)

pub returns : goal.returns
returns c = rw (take_all c.loop-fault.fault-index c.args.faults.now c.loop-fault-test.false) at c.loop-fault.invariant
