use Rattle.std.proofs.lemmas.Result.{IfOk-weaker}
use Rattle.conode_lint.proofs.MarkLemmas.{made_from}
use Rattle.conode_lint.proofs.linted_text.linted_of.Goals as goal

pub returns-in-Ok : goal.returns-in-Ok
returns-in-Ok c =
    IfOk-weaker c.made_of.result _ _
    (λ made h. made_from _ _ c.args.checks.now c.args.found.now _ _ made c.in-Ok.ensures c.as_slice.ensures.value h)
    c.made_of.ensures
