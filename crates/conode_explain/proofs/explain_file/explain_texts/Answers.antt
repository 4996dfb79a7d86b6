-- By the data sheets that were read, or by none where one is at fault.
use Rattle.std.proofs.Common.{[], map, inr}
use Rattle.conode_io.specs.declared.fault.CmdFault.TheVariants.{Memory}
use Rattle.conode_explain.specs.ExitStatus.{WritesFile}
use Rattle.conode_explain.specs.Sheets.{in_order, read_view}
use Rattle.conode_explain.proofs.StatusLemmas.{ends_early}
use Rattle.conode_explain.proofs.explain_file.explain_texts.Goals as goal

pub returns-in-Ok : goal.returns-in-Ok
returns-in-Ok g c = (map read_view c.as_slice.result.now, rw c.in-Ok.ensures.kept at c.explain_by.ensures)

pub returns : goal.returns
returns g c = (
  [],
  inr (ends_early (WritesFile c.args.form (in_order []) (g.O.Write.contents c.args.out.now) (g.O.Write.contents c.add_sheets.new.out)) _ Memory c.in-Err.ensures.err),
)
