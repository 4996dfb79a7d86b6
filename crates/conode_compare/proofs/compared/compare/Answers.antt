-- By what the lines of the reader gave.
use Rattle.conode_compare.specs.Views.{comparison_view}
use Rattle.conode_compare.proofs.LineLoop.{compared_any, compared_known}
use Rattle.conode_compare.proofs.compared.compare.Goals as goal

pub returns-in-Ok-clause-known : goal.returns-in-Ok-clause-known
returns-in-Ok-clause-known g c =
    let next = c.take_lines.new.lines in
    let all = rw (c.new-lines.ensures.log, c.new-lines.ensures.comparing) at c.in-Ok.ensures in
    rw c.into_comparing.ensures
    (compared_known (comparison_view c.args.settings.now) c.args.form c.args.report all.holds all.left (g.R.Read.remaining c.args.reader.now) all.between (g.R.Read.remaining c.take_lines.new.reader) all.next (record { log = next.log; comparing = next.comparing }) (g.W.Write.contents c.args.out.now) (g.W.Write.contents c.take_lines.new.out) all.taken all.end)

pub returns-in-Ok-clause-any_reader : goal.returns-in-Ok-clause-any_reader
returns-in-Ok-clause-any_reader g c =
    let next = c.take_lines.new.lines in
    let all = rw (c.new-lines.ensures.log, c.new-lines.ensures.comparing) at c.in-Ok.ensures in
    rw c.into_comparing.ensures
    (compared_any (comparison_view c.args.settings.now) c.args.form c.args.report all.holds all.left (g.R.Read.remaining c.args.reader.now) all.between (g.R.Read.remaining c.take_lines.new.reader) all.next (record { log = next.log; comparing = next.comparing }) (g.W.Write.contents c.args.out.now) (g.W.Write.contents c.take_lines.new.out) all.taken all.end)
