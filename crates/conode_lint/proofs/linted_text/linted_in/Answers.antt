use Rattle.std.proofs.lemmas.Result.{IfOk-weaker}
use Rattle.conode_lint.proofs.MarkLemmas.{linted_from}
use Rattle.conode_lint.proofs.linted_text.linted_in.Goals as goal

pub returns-in-Ok : goal.returns-in-Ok
returns-in-Ok c =
    IfOk-weaker c.linted_of.result _ _
    (λ made h. linted_from c.args.text.now c.args.checks.now _ _ c.add_marks_of.new.marks.items _ made c.in-Ok.ensures c.requires.lines c.requires.sections c.as_slice.ensures.value h)
    c.linted_of.ensures
