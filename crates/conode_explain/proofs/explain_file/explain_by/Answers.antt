-- By the data sheets in the order in which they count.
use Rattle.std.proofs.Common.{List, map, inr, subst}
use Rattle.std.specs.Process.{exit_status}
use Rattle.conode_explain_cob_ids.specs.Known.{KnownSheet}
use Rattle.conode_io.specs.declared.fault.CmdFault.TheVariants.{Memory}
use Rattle.conode_explain.specs.ExitStatus.{EndsBy, WritesFile}
use Rattle.conode_explain.specs.Sheets.{in_order, read_view}
use Rattle.conode_explain.proofs.StatusLemmas.{ends_early}
use Rattle.conode_explain.proofs.explain_file.explain_by.Goals as goal

pub returns-in-Ok : goal.returns-in-Ok
returns-in-Ok g c =
    let all = rw c.new-known.ensures.items at c.in-Ok.ensures in
    subst (λ (s : List KnownSheet). EndsBy c.args.form s (g.O.Write.contents c.args.out.now) (g.O.Write.contents c.explain_with.new.out) (exit_status c.explain_with.result)) all
    (rw c.as_slice.ensures.value at c.explain_with.ensures)

pub returns : goal.returns
returns g c =
    inr (ends_early (WritesFile c.args.form (in_order (map read_view c.args.sheets.now)) (g.O.Write.contents c.args.out.now) (g.O.Write.contents c.no_memory.new.out)) _ Memory c.no_memory.ensures)
