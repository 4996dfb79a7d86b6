-- What was written stays after the flush, and the status is that of what is known at the end.
use Rattle.std.proofs.Common.{◌∙◌}
use Rattle.std.specs.Process.{exit_status}
use Rattle.conode_compare.specs.Views.{comparison_view}
use Rattle.conode_compare.proofs.Ends.{flushed_judged}
use Rattle.conode_compare.proofs.compare_file.compare_input.Goals as goal

pub returns-in-Ok-clause-judged : goal.returns-in-Ok-clause-judged
returns-in-Ok-clause-judged g c = λ few.
    let wanted = c.args.wanted.now in
    flushed_judged wanted.format (comparison_view c.args.settings.now) wanted.version.now wanted.sheet.now c.args.form
    (g.O.Write.contents c.args.out.now) (g.O.Write.contents c.compare_and_write-outcome.new.out) (g.O.Write.contents c.flushed.new.writer)
    (g.R.Read.remaining c.args.input.now) (g.R.Read.remaining c.compare_and_write-outcome.new.input) (exit_status c.from.result)
    c.compare_and_write-outcome.result c.in-Ok.comparing c.in-Ok.ensures.ok c.compare_and_write-outcome.ensures.judged c.flushed.ensures.text
    (c.from.ensures ∙ c.verdict_status.ensures)
