use Rattle.std.proofs.lemmas.Result.{on_ok_weaker}
use Rattle.conode_lint.proofs.SessionLemmas.{took_text}
use Rattle.conode_lint.proofs.files.Session.take_text.Goals as goal

pub returns-in-Ok : goal.returns-in-Ok
returns-in-Ok g c =
    let contents = g.O.Write.contents in
    on_ok_weaker c.hand_over_lines.result
    (took_text c.args.options.now.checks c.args.name.now c.args.text.now c.args.self.now c.add_text.new.self c.hand_over_lines.new.self (contents c.args.out.now) (contents c.hand_over_lines.new.out) c.in-Ok.ensures)
    c.hand_over_lines.ensures
