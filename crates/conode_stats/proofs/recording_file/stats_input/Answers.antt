-- By the outcome, after a flush.
use Rattle.std.proofs.Common.{IfSome, refl}
use Rattle.conode_io.specs.declared.fault.CmdFault.TheVariants.{BadLine}
use Rattle.conode_io.specs.TraceTexts.{GaveText}
use Rattle.conode_stats.specs.ExitStatus.{WritesPage}
use Rattle.conode_stats.proofs.StatusLemmas.{at_ok, ends_bad, ends_early, ends_good, flushed_any, flushed_known, stopped_one}
use Rattle.conode_stats.proofs.recording_file.stats_input.Goals as goal

pub returns-in-Ok-eq0-clause-known : goal.returns-in-Ok-eq0-clause-known
returns-in-Ok-eq0-clause-known g c =
    let settings = c.args.settings.now in
    let before = g.R.Read.remaining c.args.input.now in
    let old = g.O.Write.contents c.args.out.now in
    let mid = g.O.Write.contents c.stats-outcome.new.out in
    let new = g.O.Write.contents c.flushed.new.writer in
    let bad = c.in-Ok-eq0.field-0 in
    ends_good (λ bad. IfSome before (WritesPage settings old new bad)) 0 bad refl c.in-Ok-eq0.field-0-test
    (flushed_known settings bad old mid new c.flushed.ensures.text before
    (at_ok (λ bad. IfSome before (WritesPage settings old mid bad)) c.stats-outcome.result bad c.in-Ok-eq0.ensures.ok c.stats-outcome.ensures.known))

pub returns-in-Ok-eq0-clause-any_reader : goal.returns-in-Ok-eq0-clause-any_reader
returns-in-Ok-eq0-clause-any_reader g c =
    let settings = c.args.settings.now in
    let before = g.R.Read.remaining c.args.input.now in
    let after = g.R.Read.remaining c.stats-outcome.new.input in
    let old = g.O.Write.contents c.args.out.now in
    let mid = g.O.Write.contents c.stats-outcome.new.out in
    let new = g.O.Write.contents c.flushed.new.writer in
    let bad = c.in-Ok-eq0.field-0 in
    ends_good (λ bad. GaveText before after (WritesPage settings old new bad)) 0 bad refl c.in-Ok-eq0.field-0-test
    (flushed_any settings bad old mid new c.flushed.ensures.text before after
    (at_ok (λ bad. GaveText before after (WritesPage settings old mid bad)) c.stats-outcome.result bad c.in-Ok-eq0.ensures.ok c.stats-outcome.ensures.any_reader))

pub returns-in-Ok-clause-known : goal.returns-in-Ok-clause-known
returns-in-Ok-clause-known g c =
    let settings = c.args.settings.now in
    let before = g.R.Read.remaining c.args.input.now in
    let old = g.O.Write.contents c.args.out.now in
    let mid = g.O.Write.contents c.stats-outcome.new.out in
    let new = g.O.Write.contents c.flushed.new.writer in
    ends_bad (λ bad. IfSome before (WritesPage settings old new bad)) 1 c.in-Ok.field-0 refl c.in-Ok.field-0-test.1
    (flushed_known settings c.in-Ok.field-0 old mid new c.flushed.ensures.text before
    (at_ok (λ bad. IfSome before (WritesPage settings old mid bad)) c.stats-outcome.result c.in-Ok.field-0 c.in-Ok.ensures.ok c.stats-outcome.ensures.known))

pub returns-in-Ok-clause-any_reader : goal.returns-in-Ok-clause-any_reader
returns-in-Ok-clause-any_reader g c =
    let settings = c.args.settings.now in
    let before = g.R.Read.remaining c.args.input.now in
    let after = g.R.Read.remaining c.stats-outcome.new.input in
    let old = g.O.Write.contents c.args.out.now in
    let mid = g.O.Write.contents c.stats-outcome.new.out in
    let new = g.O.Write.contents c.flushed.new.writer in
    ends_bad (λ bad. GaveText before after (WritesPage settings old new bad)) 1 c.in-Ok.field-0 refl c.in-Ok.field-0-test.1
    (flushed_any settings c.in-Ok.field-0 old mid new c.flushed.ensures.text before after
    (at_ok (λ bad. GaveText before after (WritesPage settings old mid bad)) c.stats-outcome.result c.in-Ok.field-0 c.in-Ok.ensures.ok c.stats-outcome.ensures.any_reader))

pub returns-in-Err-BadLine-clause-known : goal.returns-in-Err-BadLine-clause-known
returns-in-Err-BadLine-clause-known g c =
    ends_early (λ bad. IfSome (g.R.Read.remaining c.args.input.now) (WritesPage c.args.settings.now (g.O.Write.contents c.args.out.now) (g.O.Write.contents c.flushed.new.writer) bad)) _ (BadLine c.in-Err-BadLine.number) c.no_recording.ensures

pub returns-in-Err-BadLine-clause-any_reader : goal.returns-in-Err-BadLine-clause-any_reader
returns-in-Err-BadLine-clause-any_reader g c =
    ends_early (λ bad. GaveText (g.R.Read.remaining c.args.input.now) (g.R.Read.remaining c.stats-outcome.new.input) (WritesPage c.args.settings.now (g.O.Write.contents c.args.out.now) (g.O.Write.contents c.flushed.new.writer) bad)) _ (BadLine c.in-Err-BadLine.number) c.no_recording.ensures

pub returns-in-Err-clause-known : goal.returns-in-Err-clause-known
returns-in-Err-clause-known g c =
    ends_early (λ bad. IfSome (g.R.Read.remaining c.args.input.now) (WritesPage c.args.settings.now (g.O.Write.contents c.args.out.now) (g.O.Write.contents c.stopped.new.out) bad)) _ c.in-Err.fault (stopped_one c.stopped.result c.in-Err.fault c.status.ensures c.stopped.ensures.fault)

pub returns-in-Err-clause-any_reader : goal.returns-in-Err-clause-any_reader
returns-in-Err-clause-any_reader g c =
    ends_early (λ bad. GaveText (g.R.Read.remaining c.args.input.now) (g.R.Read.remaining c.stats-outcome.new.input) (WritesPage c.args.settings.now (g.O.Write.contents c.args.out.now) (g.O.Write.contents c.stopped.new.out) bad)) _ c.in-Err.fault (stopped_one c.stopped.result c.in-Err.fault c.status.ensures c.stopped.ensures.fault)
