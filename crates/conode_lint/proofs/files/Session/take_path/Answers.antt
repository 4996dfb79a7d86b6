use Rattle.std.proofs.lemmas.Result.{on_ok_weaker}
use Rattle.conode_lint.proofs.SessionLemmas.{one_unread, only_one}
use Rattle.conode_lint.proofs.files.Session.take_path.Goals as goal

pub returns-then-eq : goal.returns-then-eq
returns-then-eq g c =
    let contents = g.O.Write.contents in
    on_ok_weaker c.take_file.result
    (only_one c.args.options.now.checks c.args.path.now c.args.self.now c.take_file.new.self (contents c.args.out.now) (contents c.take_file.new.out))
    c.take_file.ensures

pub returns-in-Err : goal.returns-in-Err
returns-in-Err g c =
    let checks = c.args.options.now.checks in
    let held = g.O.Write.contents c.args.out.now in
    on_ok_weaker c.take_fault.result
    (λ takes. only_one checks c.args.path.now c.args.self.now c.take_fault.new.self held held (one_unread checks c.args.path.now c.args.self.now c.take_fault.new.self held takes))
    c.take_fault.ensures
