-- The first line of a table, and then the lines of the recording.
use Rattle.std.proofs.Common.{IfSome}
use Rattle.conode_io.specs.TraceTexts.{GaveText}
use Rattle.conode_explain.specs.ExitStatus.{WritesAll}
use Rattle.conode_explain.specs.Sheets.{sheets_of}
use Rattle.conode_explain.specs.Taking.{Explains}
use Rattle.conode_explain.proofs.StatusLemmas.{header_any, header_known, ok_as}
use Rattle.conode_explain.proofs.explain_file.explain_whole.Goals as goal

pub returns-in-Ok-clause-known : goal.returns-in-Ok-clause-known
returns-in-Ok-clause-known g c =
    let form = c.args.settings.now.form in
    let sheets = sheets_of c.args.settings.now in
    let before = g.R.Read.remaining c.args.input.now in
    let old = g.O.Write.contents c.args.out.now in
    let mid = g.O.Write.contents c.write_header.new.out in
    let new = g.O.Write.contents c.explain.new.out in
    ok_as (λ bad. IfSome before (Explains form sheets mid new bad)) (λ bad. IfSome before (WritesAll form sheets old new bad))
    (header_known form sheets old mid new c.in-Ok.ensures.lines before) c.explain.result c.explain.ensures.known

pub returns-in-Ok-clause-any_reader : goal.returns-in-Ok-clause-any_reader
returns-in-Ok-clause-any_reader g c =
    let form = c.args.settings.now.form in
    let sheets = sheets_of c.args.settings.now in
    let before = g.R.Read.remaining c.args.input.now in
    let after = g.R.Read.remaining c.explain.new.reader in
    let old = g.O.Write.contents c.args.out.now in
    let mid = g.O.Write.contents c.write_header.new.out in
    let new = g.O.Write.contents c.explain.new.out in
    ok_as (λ bad. GaveText before after (Explains form sheets mid new bad)) (λ bad. GaveText before after (WritesAll form sheets old new bad))
    (header_any form sheets old mid new c.in-Ok.ensures.lines before after) c.explain.result c.explain.ensures.any_reader
