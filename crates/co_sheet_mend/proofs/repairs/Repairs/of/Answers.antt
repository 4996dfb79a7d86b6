use Rattle.std.proofs.Common.{◌≡◌, List, sym, ap, ◌∙◌, arith, drop}
use Rattle.std.specs.Prelude.{Option, None}
use Rattle.std.proofs.lemmas.List.{at_drop_all}
use Rattle.co_sheet_rows.specs.declared.fault.SheetFault.{SheetFault}
use Rattle.co_sheet_mend.specs.declared.repair.Repair.{Repair}
use Rattle.co_sheet_mend.specs.ReadableTexts.{repair_in}
use Rattle.co_sheet_mend.specs.Repairs.{repair_at, stronger}
use Rattle.co_sheet_mend.proofs.RepairLemmas.{repair-turn, repair_at-none, stronger-none}
use Rattle.co_sheet_mend.proofs.repairs.Repairs.of.Goals as goal

pub loop-fault-preserved : goal.loop-fault-preserved
loop-fault-preserved c = λ k.
    repair-turn (repair_in c.loop-fault.made k) (repair_in c.add.new.self k) c.args.faults.now c.loop-fault.fault-index _ k c.loop-fault-test.true (c.in_ok-add.ensures k)
    ∙ c.loop-fault.invariant k

pub returns : goal.returns
returns c = λ line.
    let made = repair_in c.loop-fault.made line in
    let faults = c.args.faults.now in
    let place = c.loop-fault.fault-index in
    let rest : repair_at (drop place faults) line ≡ None =
    at_drop_all (λ (fs : List SheetFault). repair_at fs line) faults place (omega arith) ∙ repair_at-none line in
    sym (ap (λ (a : Option Repair). stronger made a) rest ∙ stronger-none made) ∙ c.loop-fault.invariant line
