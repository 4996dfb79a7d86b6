use Rattle.std.proofs.Common.{nat_lt, sym, arith}
use Rattle.std.proofs.lemmas.List.Sums.{prefix_len_is}
use Rattle.co_sheet_rows.specs.declared.fault.FaultKind.TheVariants.{Memory}
use Rattle.co_sheet_rows.specs.declared.fault.SheetFault.{SheetFault}
use Rattle.conode_lint_marks.proofs.LoopLemmas.{not_below}
use Rattle.conode_lint_marks.proofs.at_fault.faults_before.Goals as goal

pub returns-then-line-fault-clause-count : goal.returns-then-line-fault-clause-count
returns-then-line-fault-clause-count c =
    sym (prefix_len_is (λ (f : SheetFault). nat_lt f.line c.args.line) c.args.faults.now c.loop-count.count _ (omega arith) (λ k h. c.loop-count.invariant k _ h) (λ _. not_below _ _ c.if-line-fault.true))

pub returns-clause-count : goal.returns-clause-count
returns-clause-count c =
    let other : SheetFault = record { kind = Memory; line = 0 } in
    sym (prefix_len_is (λ (f : SheetFault). nat_lt f.line c.args.line) c.args.faults.now _ other (omega arith) (λ k h. c.loop-count.invariant k other (omega arith)) (λ h. absurd (omega arith)))
