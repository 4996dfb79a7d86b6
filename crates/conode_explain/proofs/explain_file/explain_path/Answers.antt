-- Of standard input or of a file, some text.
use Rattle.conode_io.specs.declared.fault.CmdFault.TheVariants.{Read}
use Rattle.conode_explain.specs.ExitStatus.{WritesFile}
use Rattle.conode_explain.specs.Sheets.{sheets_of}
use Rattle.conode_explain.proofs.StatusLemmas.{ends_early, of_file}
use Rattle.conode_explain.proofs.explain_file.explain_path.Goals as goal

pub returns-then-eq : goal.returns-then-eq
returns-then-eq g c =
    of_file c.args.settings.now.form (sheets_of c.args.settings.now) (g.O.Write.contents c.args.out.now) (g.O.Write.contents c.explain_input.new.out) _ _ _ c.explain_input.ensures.any_reader

pub returns-in-Ok : goal.returns-in-Ok
returns-in-Ok g c =
    of_file c.args.settings.now.form (sheets_of c.args.settings.now) (g.O.Write.contents c.args.out.now) (g.O.Write.contents c.explain_input-in-Ok.new.out) _ _ _ c.explain_input-in-Ok.ensures.any_reader

pub returns-in-Err : goal.returns-in-Err
returns-in-Err g c =
    ends_early (WritesFile c.args.settings.now.form (sheets_of c.args.settings.now) (g.O.Write.contents c.args.out.now) (g.O.Write.contents c.args.out.now)) _ Read c.cannot_read.ensures
