use Rattle.std.proofs.Common.{[]}
use Rattle.std.proofs.lemmas.Result.{on_ok_weaker}
use Rattle.conode_lint.proofs.SessionLemmas.{one_more, took_none, unread_more}
use Rattle.conode_lint.proofs.files.Session.take_sheets.Goals as goal

pub loop-path-init : goal.loop-path-init
loop-path-init g c = ([], took_none c.args.options.now.checks c.args.self.now (g.O.Write.contents c.args.out.now))

pub loop-path-preserved : goal.loop-path-preserved
loop-path-preserved g c =
    let contents = g.O.Write.contents in
    one_more c.args.options.now.checks c.as_str.result.now c.args.self.now c.loop-path.self c.take_file.new.self (contents c.args.out.now) (contents c.loop-path.out) (contents c.take_file.new.out)
    c.loop-path.invariant c.in-Ok.ensures

pub returns-then-not-sheets : goal.returns-then-not-sheets
returns-then-not-sheets g c =
    let contents = g.O.Write.contents in
    on_ok_weaker c.take_fault.result
    (unread_more c.args.options.now.checks c.args.folder.now c.args.self.now c.loop-path.self c.take_fault.new.self (contents c.args.out.now) (contents c.loop-path.out) c.loop-path.invariant)
    c.take_fault.ensures
