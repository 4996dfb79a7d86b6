use Rattle.std.proofs.Common.{refl}
use Rattle.std.proofs.lemmas.Result.{IfOk-weaker}
use Rattle.conode_lint.specs.declared.files.Session.{Session}
use Rattle.conode_lint.proofs.SessionLemmas.{linted_all}
use Rattle.conode_lint.proofs.files.lint_paths.Goals as goal

pub returns-in-Ok : goal.returns-in-Ok
returns-in-Ok g c =
    let contents = g.O.Write.contents in
    let begun : Session = record { report = c.new.result; counts = record { errors = 0; warnings = 0; more = 0; files = 0; unread = 0 } } in
    IfOk-weaker c.finish.result _ _
    (λ counts ends. linted_all c.args.options.now begun c.take_paths.new.self counts (contents c.args.out.now) (contents c.take_paths.new.out) (contents c.finish.new.out) c.new.ensures refl c.in-Ok.ensures ends)
    c.finish.ensures
