use Rattle.std.proofs.lemmas.Result.{on_ok_weaker}
use Rattle.conode_lint.proofs.SessionLemmas.{one_text, one_unread}
use Rattle.conode_lint.proofs.files.Session.take_file.Goals as goal

pub returns-in-Ok : goal.returns-in-Ok
returns-in-Ok g c =
    let contents = g.O.Write.contents in
    on_ok_weaker c.take_text.result
    (one_text c.args.options.now.checks c.args.path.now c.as_slice.result.now c.args.self.now c.take_text.new.self (contents c.args.out.now) (contents c.take_text.new.out))
    c.take_text.ensures

pub returns-in-Err : goal.returns-in-Err
returns-in-Err g c =
    on_ok_weaker c.take_fault.result
    (one_unread c.args.options.now.checks c.args.path.now c.args.self.now c.take_fault.new.self (g.O.Write.contents c.args.out.now))
    c.take_fault.ensures
