use Rattle.std.proofs.Common.{sym, subst}
use Rattle.std.proofs.lemmas.List.{take_all}
use Rattle.std.proofs.lemmas.List.Sums.{fold_more}
use Rattle.clap.specs.Words.{with_subcommand}
use Rattle.conode_words.specs.Commands.{IsCommand}
use Rattle.conode_words.specs.Tables.{app_by, with_commands}
use Rattle.conode_words.proofs.CommandLemmas.{with_command}
use Rattle.conode_words.proofs.options.with_commands.Goals as goal

pub loop-row-preserved : goal.loop-row-preserved
loop-row-preserved c = λ app is.
    let step = with_command _ _ _ _ _ c.in-Ok-subcommand.ensures (c.loop-row.invariant app is) c.in-Ok.ensures in
    subst (IsCommand c.in-Ok-subcommand.next) (sym (fold_more (λ a row. with_subcommand a (app_by row).top) app c.args.rows.now c.loop-row.row-index _ c.loop-row-test.true)) step

pub returns : goal.returns
returns c = λ app is.
    subst (λ rows. IsCommand c.loop-row.command (with_commands app rows)) (take_all c.loop-row.row-index c.args.rows.now c.loop-row-test.false) (c.loop-row.invariant app is)
