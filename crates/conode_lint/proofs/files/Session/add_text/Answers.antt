use Rattle.std.proofs.lemmas.Result.{on_ok_weaker}
use Rattle.conode_lint.proofs.files.Session.add_text.Goals as goal

pub returns-in-Ok : goal.returns-in-Ok
returns-in-Ok c =
    on_ok_weaker c.add-in-Ok.result (λ grown. record { linted = c.in-Ok.linted; is_linted = c.in-Ok.ensures; counts = c.add.ensures; report = grown }) c.add-in-Ok.ensures
