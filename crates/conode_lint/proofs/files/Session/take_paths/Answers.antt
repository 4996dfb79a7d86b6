use Rattle.conode_lint.proofs.SessionLemmas.{begun_all, more_of_all}
use Rattle.conode_lint.proofs.files.Session.take_paths.Goals as goal

pub loop-path-init : goal.loop-path-init
loop-path-init g c = begun_all c.args.options.now c.args.self.now c.begin.new.self (g.O.Write.contents c.args.out.now) c.begin.ensures

pub loop-path-preserved : goal.loop-path-preserved
loop-path-preserved g c =
    let contents = g.O.Write.contents in
    more_of_all c.args.options.now c.args.self.now c.loop-path.self c.take_path.new.self (contents c.args.out.now) (contents c.loop-path.out) (contents c.take_path.new.out) c.loop-path.invariant c.in-Ok.ensures
