use Rattle.conode_compare.specs.Compared.{findings_lines, listed}
use Rattle.conode_compare.specs.Views.{comparison_view}
use Rattle.conode_compare.proofs.WriteLemmas.{at_last, four}
use Rattle.conode_compare.proofs.writes.write_findings.Goals as goal

pub returns : goal.returns
unfolding findings_lines
returns g c =
    let what = comparison_view c.args.settings.now in
    let found = c.args.found.now in
    let details = c.args.details.now in
    let number = c.args.number in record {
      lines =
          at_last c.write_listed-4.result
          (four (g.W.Write.contents c.args.out.now) (g.W.Write.contents c.write_listed.new.out) (g.W.Write.contents c.write_listed-2.new.out) (g.W.Write.contents c.write_listed-3.new.out)
          (g.W.Write.contents c.write_listed-4.new.out) (listed what number details found.boot) (listed what number details found.heartbeat) (listed what number details found.answer) (listed what number details found.frame)
          c.in-Ok.ensures c.in-Ok-write_listed.ensures c.in-Ok-write_listed-2.ensures) c.write_listed-4.ensures;
    }
