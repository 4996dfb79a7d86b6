use Rattle.std.proofs.Common.{inl, inr}
use Rattle.conode_lint.proofs.SessionLemmas.{stopped_status, unknown_ends, whole_ends}
use Rattle.conode_lint.proofs.files.lint_files.Goals as goal

pub returns-in-Some : goal.returns-in-Some
returns-in-Some g c = unknown_ends c.args.options.now _ _ _ _ c.in-Some.ensures.among c.in-Some.ensures.unknown c.no_such_name.ensures

pub returns-in-Ok : goal.returns-in-Ok
returns-in-Ok g c =
    let contents = g.O.Write.contents in
    whole_ends c.args.options.now c.lint_paths-outcome.result c.in-Ok.counts c.status_of.result _ (contents c.args.out.now) (contents c.lint_paths-outcome.new.out) (contents c.flushed.new.writer) c.lint_paths-outcome.ensures c.in-Ok.ensures.ok c.flushed.ensures.text
    c.from.ensures c.status_of.ensures

pub returns-in-Err : goal.returns-in-Err
returns-in-Err g c = inr (inl (stopped_status c.stopped.result _ _ c.stopped.ensures.fault c.status.ensures))
