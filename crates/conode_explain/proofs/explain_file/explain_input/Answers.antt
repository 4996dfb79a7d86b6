-- By the outcome, after a flush.
use Rattle.std.proofs.Common.{IfSome, refl}
use Rattle.conode_io.specs.declared.fault.CmdFault.TheVariants.{BadLine}
use Rattle.conode_io.specs.TraceTexts.{GaveText}
use Rattle.conode_explain.specs.ExitStatus.{WritesAll}
use Rattle.conode_explain.specs.Sheets.{sheets_of}
use Rattle.conode_explain.proofs.StatusLemmas.{at_ok, ends_bad, ends_early, ends_good, flushed_any, flushed_known, stopped_one}
use Rattle.conode_explain.proofs.explain_file.explain_input.Goals as goal

pub returns-in-Ok-eq0-clause-known : goal.returns-in-Ok-eq0-clause-known
returns-in-Ok-eq0-clause-known g c =
    let form = c.args.settings.now.form in
    let sheets = sheets_of c.args.settings.now in
    let before = g.R.Read.remaining c.args.input.now in
    let old = g.O.Write.contents c.args.out.now in
    let mid = g.O.Write.contents c.explain_whole-outcome.new.out in
    let new = g.O.Write.contents c.flushed.new.writer in
    let bad = c.in-Ok-eq0.field-0 in
    ends_good (λ bad. IfSome before (WritesAll form sheets old new bad)) 0 bad refl c.in-Ok-eq0.field-0-test
    (flushed_known form sheets old mid new c.flushed.ensures.text before bad
    (at_ok (λ bad. IfSome before (WritesAll form sheets old mid bad)) c.explain_whole-outcome.result bad c.in-Ok-eq0.ensures.ok c.explain_whole-outcome.ensures.known))

pub returns-in-Ok-eq0-clause-any_reader : goal.returns-in-Ok-eq0-clause-any_reader
returns-in-Ok-eq0-clause-any_reader g c =
    let form = c.args.settings.now.form in
    let sheets = sheets_of c.args.settings.now in
    let before = g.R.Read.remaining c.args.input.now in
    let after = g.R.Read.remaining c.explain_whole-outcome.new.input in
    let old = g.O.Write.contents c.args.out.now in
    let mid = g.O.Write.contents c.explain_whole-outcome.new.out in
    let new = g.O.Write.contents c.flushed.new.writer in
    let bad = c.in-Ok-eq0.field-0 in
    ends_good (λ bad. GaveText before after (WritesAll form sheets old new bad)) 0 bad refl c.in-Ok-eq0.field-0-test
    (flushed_any form sheets old mid new c.flushed.ensures.text before after bad
    (at_ok (λ bad. GaveText before after (WritesAll form sheets old mid bad)) c.explain_whole-outcome.result bad c.in-Ok-eq0.ensures.ok c.explain_whole-outcome.ensures.any_reader))

pub returns-in-Ok-clause-known : goal.returns-in-Ok-clause-known
returns-in-Ok-clause-known g c =
    let form = c.args.settings.now.form in
    let sheets = sheets_of c.args.settings.now in
    let before = g.R.Read.remaining c.args.input.now in
    let old = g.O.Write.contents c.args.out.now in
    let mid = g.O.Write.contents c.explain_whole-outcome.new.out in
    let new = g.O.Write.contents c.flushed.new.writer in
    ends_bad (λ bad. IfSome before (WritesAll form sheets old new bad)) 1 c.in-Ok.bad refl c.in-Ok.bad-test.1
    (flushed_known form sheets old mid new c.flushed.ensures.text before c.in-Ok.bad
    (at_ok (λ bad. IfSome before (WritesAll form sheets old mid bad)) c.explain_whole-outcome.result c.in-Ok.bad c.in-Ok.ensures.ok c.explain_whole-outcome.ensures.known))

pub returns-in-Ok-clause-any_reader : goal.returns-in-Ok-clause-any_reader
returns-in-Ok-clause-any_reader g c =
    let form = c.args.settings.now.form in
    let sheets = sheets_of c.args.settings.now in
    let before = g.R.Read.remaining c.args.input.now in
    let after = g.R.Read.remaining c.explain_whole-outcome.new.input in
    let old = g.O.Write.contents c.args.out.now in
    let mid = g.O.Write.contents c.explain_whole-outcome.new.out in
    let new = g.O.Write.contents c.flushed.new.writer in
    ends_bad (λ bad. GaveText before after (WritesAll form sheets old new bad)) 1 c.in-Ok.bad refl c.in-Ok.bad-test.1
    (flushed_any form sheets old mid new c.flushed.ensures.text before after c.in-Ok.bad
    (at_ok (λ bad. GaveText before after (WritesAll form sheets old mid bad)) c.explain_whole-outcome.result c.in-Ok.bad c.in-Ok.ensures.ok c.explain_whole-outcome.ensures.any_reader))

pub returns-in-Err-BadLine-clause-known : goal.returns-in-Err-BadLine-clause-known
returns-in-Err-BadLine-clause-known g c =
    ends_early (λ bad. IfSome (g.R.Read.remaining c.args.input.now) (WritesAll c.args.settings.now.form (sheets_of c.args.settings.now) (g.O.Write.contents c.args.out.now) (g.O.Write.contents c.flushed.new.writer) bad)) _ (BadLine c.in-Err-BadLine.number) c.no_recording.ensures

pub returns-in-Err-BadLine-clause-any_reader : goal.returns-in-Err-BadLine-clause-any_reader
returns-in-Err-BadLine-clause-any_reader g c =
    ends_early (λ bad. GaveText (g.R.Read.remaining c.args.input.now) (g.R.Read.remaining c.explain_whole-outcome.new.input) (WritesAll c.args.settings.now.form (sheets_of c.args.settings.now) (g.O.Write.contents c.args.out.now) (g.O.Write.contents c.flushed.new.writer) bad)) _ (BadLine c.in-Err-BadLine.number) c.no_recording.ensures

pub returns-in-Err-clause-known : goal.returns-in-Err-clause-known
returns-in-Err-clause-known g c =
    ends_early (λ bad. IfSome (g.R.Read.remaining c.args.input.now) (WritesAll c.args.settings.now.form (sheets_of c.args.settings.now) (g.O.Write.contents c.args.out.now) (g.O.Write.contents c.stopped.new.out) bad)) _ c.in-Err.fault (stopped_one c.stopped.result c.in-Err.fault c.status.ensures c.stopped.ensures.fault)

pub returns-in-Err-clause-any_reader : goal.returns-in-Err-clause-any_reader
returns-in-Err-clause-any_reader g c =
    ends_early (λ bad. GaveText (g.R.Read.remaining c.args.input.now) (g.R.Read.remaining c.explain_whole-outcome.new.input) (WritesAll c.args.settings.now.form (sheets_of c.args.settings.now) (g.O.Write.contents c.args.out.now) (g.O.Write.contents c.stopped.new.out) bad)) _ c.in-Err.fault (stopped_one c.stopped.result c.in-Err.fault c.status.ensures c.stopped.ensures.fault)
