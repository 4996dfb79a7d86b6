use Rattle.std.proofs.Common.{◌∙◌, ◌++◌, List, ap, map}
use Rattle.std.proofs.lemmas.Result.{on_ok_weaker}
use Rattle.conode_lint_marks.specs.declared.mark.Mark.{Mark}
use Rattle.conode_lint.specs.Marks.{fault_mark}
use Rattle.conode_lint.proofs.MarkLemmas.{marked_large}
use Rattle.conode_lint.proofs.marks.add_large.Goals as goal

pub returns : goal.returns
returns c =
    on_ok_weaker c.add_faults.result
    (λ h. marked_large c.args.text.now c.args.checks.now c.args.faults.now c.args.sheet.now c.add_faults.new.marks.items c.requires.sheet c.requires.small c.requires.size
    (h ∙ ap (λ (l : List Mark). l ++ map fault_mark c.args.faults.now) c.requires.none))
    c.add_faults.ensures
