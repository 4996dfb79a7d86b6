-- The lines of the recording, and then its end.
use Rattle.std.proofs.Common.{Option, subst}
use Rattle.conode_compare_report.specs.Views.{Kept}
use Rattle.conode_compare.specs.Taking.{Compares}
use Rattle.conode_io.specs.TraceTexts.{GaveText}
use Rattle.conode_compare.specs.Views.{comparison_view}
use Rattle.conode_compare.proofs.Ends.{ends_any}
use Rattle.conode_compare.proofs.compare_file.compare_and_write.Goals as goal

pub returns : goal.returns
returns g c =
    let what = comparison_view c.args.settings.now in
    let wanted = c.args.wanted.now in
    let known = g.R.Read.remaining c.args.input.now in
    let rest = g.R.Read.remaining c.compare.new.reader in
    let old = g.O.Write.contents c.args.out.now in
    let mid = g.O.Write.contents c.compare.new.out in
    let new = g.O.Write.contents c.write_end.new.out in
    let comparing = c.in-Ok-compare.value in
    let compares = subst (λ (report : Option Kept). GaveText known rest (Compares what c.args.form report old mid comparing)) c.in-Ok.ensures c.in-Ok-compare.ensures.any_reader in
    record {
      judged = ends_any wanted.format what wanted.version.now wanted.sheet.now c.args.form comparing old mid new c.in-Ok-write_end.ensures known rest compares;
    }
