use Rattle.std.proofs.Common.{[], ◌∷◌, ◌++◌, ap, ◌∙◌}
use Rattle.co_sheet_rows.specs.declared.fault.SheetFault.{SheetFault}
use Rattle.co_sheet.specs.Faults.{sheet_fault}
use Rattle.co_sheet_faults.proofs.ListCodeLemmas.{mapped-end, mapped-turn}
use Rattle.co_sheet_faults.proofs.find.add_lines.Goals as goal

pub loop-fault-preserved : goal.loop-fault-preserved
loop-fault-preserved c =
    mapped-turn sheet_fault c.args.lines.now c.loop-fault.fault-index _ _ _ _ c.loop-fault-test.true
    (c.in-Ok.ensures.items ∙ ap (λ (fault : SheetFault). c.loop-fault.faults.items ++ fault ∷ []) c.sheet_fault.ensures) c.loop-fault.invariant

pub returns : goal.returns
returns c = mapped-end sheet_fault c.args.lines.now c.loop-fault.fault-index _ _ c.loop-fault-test.false c.loop-fault.invariant
