use Rattle.std.proofs.Common.{◌∙◌, sym}
use Rattle.conode_lint.proofs.FaultLemmas.{accepted_sheet, no_faults}
use Rattle.conode_lint.proofs.marks.faults_of.Goals as goal

pub returns-in-Some : goal.returns-in-Some
returns-in-Some c =
    no_faults c.args.text.now c.new.result.items c.new.ensures.items (c.all_faults.ensures.accepted c.args.text.now (accepted_sheet c.args.text.now _ (sym c.in-Some.is ∙ c.requires)))
