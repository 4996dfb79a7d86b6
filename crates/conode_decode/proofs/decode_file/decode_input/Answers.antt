use Rattle.std.specs.Option.{option_copied}
use Rattle.std.proofs.KnownBytes.{Keeps-trans}
use Rattle.conode_io.specs.declared.fault.CmdFault.TheVariants.{BadLine, Memory, Write}
use Rattle.conode_io.proofs.StoppedLemmas.{bad_line_is_other, memory_is_other, outcome_was, said_own, said_on_err, said_on_out, text_stopped}
use Rattle.conode_decode.specs.DecodedTraces.{lines_of, names_in, trace_lines}
use Rattle.conode_decode.proofs.Stopped.{all_decoded, at_own, lines_before, lines_made, lines_whole, lines_within, lines_written, reader_is_other, some_known_stopped, within_line_stopped, writer_failed}
use Rattle.conode_decode.proofs.decode_file.decode_input.Goals as goal

pub returns-in-Err-clause-before : goal.returns-in-Err-clause-before
returns-in-Err-clause-before g c number said =
    let fault = BadLine number in
    let other = bad_line_is_other number in
    let own = outcome_was c.decode_from-outcome.result c.in-Err.fault fault c.in-Err.ensures.err (said_own c.stopped.result c.in-Err.fault fault c.stopped.ensures.fault said) other in
    let kept = g.O.Write.contents c.flushed.new.writer in
    let new = g.O.Write.contents c.stopped.new.out in
    let last = said_on_out c.stopped.result c.in-Err.fault fault kept new c.stopped.ensures.fault c.stopped.ensures.on_out other said in
    text_stopped (trace_lines (names_in (option_copied c.args.sheet) c.args.node)) (g.O.Write.contents c.args.out.now) (g.O.Write.contents c.decode_from-outcome.new.writer) kept new fault c.flushed.ensures.text last
    (g.R.Read.remaining c.args.input.now) (lines_before (names_in (option_copied c.args.sheet) c.args.node) (g.R.Read.remaining c.args.input.now) (g.R.Read.remaining c.decode_from-outcome.new.reader) (g.O.Write.contents c.args.out.now) (g.O.Write.contents c.decode_from-outcome.new.writer) c.decode_from-outcome.result number own c.decode_from-outcome.ensures.known)

pub returns-in-Err-clause-memory : goal.returns-in-Err-clause-memory
returns-in-Err-clause-memory g c said =
    let own = outcome_was c.decode_from-outcome.result c.in-Err.fault Memory c.in-Err.ensures.err (said_own c.stopped.result c.in-Err.fault Memory c.stopped.ensures.fault said) memory_is_other in
    let kept = g.O.Write.contents c.flushed.new.writer in
    let new = g.O.Write.contents c.stopped.new.out in
    let last = said_on_out c.stopped.result c.in-Err.fault Memory kept new c.stopped.ensures.fault c.stopped.ensures.on_out memory_is_other said in
    some_known_stopped (g.O.Write.contents c.args.out.now) (g.O.Write.contents c.decode_from-outcome.new.writer) kept new Memory c.flushed.ensures.text last
    (trace_lines (names_in (option_copied c.args.sheet) c.args.node)) (g.R.Read.remaining c.args.input.now) (lines_made (names_in (option_copied c.args.sheet) c.args.node) (g.R.Read.remaining c.args.input.now) (g.R.Read.remaining c.decode_from-outcome.new.reader) (g.O.Write.contents c.args.out.now) (g.O.Write.contents c.decode_from-outcome.new.writer) c.decode_from-outcome.result own c.decode_from-outcome.ensures.known)

pub returns-in-Err-clause-unread : goal.returns-in-Err-clause-unread
returns-in-Err-clause-unread g c fault which said =
    let other = reader_is_other fault which in
    let own = outcome_was c.decode_from-outcome.result c.in-Err.fault fault c.in-Err.ensures.err (said_own c.stopped.result c.in-Err.fault fault c.stopped.ensures.fault said) other in
    let kept = g.O.Write.contents c.flushed.new.writer in
    let new = g.O.Write.contents c.stopped.new.out in
    let last = said_on_out c.stopped.result c.in-Err.fault fault kept new c.stopped.ensures.fault c.stopped.ensures.on_out other said in
    let old = g.O.Write.contents c.args.out.now in
    let mid = g.O.Write.contents c.decode_from-outcome.new.writer in
    let known = g.R.Read.remaining c.args.input.now in
    let rest = g.R.Read.remaining c.decode_from-outcome.new.reader in
    let of = lines_of (names_in (option_copied c.args.sheet) c.args.node) in
    within_line_stopped old mid kept new fault c.flushed.ensures.text last of known rest
    (at_own c.decode_from-outcome.result fault known rest old mid of own (lines_within (names_in (option_copied c.args.sheet) c.args.node) (g.R.Read.remaining c.args.input.now) (g.R.Read.remaining c.decode_from-outcome.new.reader) (g.O.Write.contents c.args.out.now) (g.O.Write.contents c.decode_from-outcome.new.writer) c.decode_from-outcome.result c.decode_from-outcome.ensures.known) which)

pub returns-in-Err-clause-write : goal.returns-in-Err-clause-write
returns-in-Err-clause-write g c said =
    let same = said_own c.stopped.result c.in-Err.fault Write c.stopped.ensures.fault said in
    let kept = Keeps-trans (g.O.Write.contents c.decode_from-outcome.new.writer) (g.O.Write.contents c.flushed.new.writer) (g.O.Write.contents c.stopped.new.out) c.flushed.ensures.text (c.stopped.ensures.unwritable same) in
    writer_failed (g.O.Write.contents c.args.out.now) (g.O.Write.contents c.decode_from-outcome.new.writer) (g.O.Write.contents c.stopped.new.out) kept
    (trace_lines (names_in (option_copied c.args.sheet) c.args.node)) (g.R.Read.remaining c.args.input.now) c.decode_from-outcome.result c.in-Err.fault (λ is. lines_written (names_in (option_copied c.args.sheet) c.args.node) (g.R.Read.remaining c.args.input.now) (g.R.Read.remaining c.decode_from-outcome.new.reader) (g.O.Write.contents c.args.out.now) (g.O.Write.contents c.decode_from-outcome.new.writer) c.decode_from-outcome.result is c.decode_from-outcome.ensures.known) (lines_whole (names_in (option_copied c.args.sheet) c.args.node) (g.R.Read.remaining c.args.input.now) (g.R.Read.remaining c.decode_from-outcome.new.reader) (g.O.Write.contents c.args.out.now) (g.O.Write.contents c.decode_from-outcome.new.writer) c.decode_from-outcome.result c.decode_from-outcome.ensures.known) c.in-Err.ensures.kept same

pub returns-in-Err-clause-write_said : goal.returns-in-Err-clause-write_said
returns-in-Err-clause-write_said g c said =
    said_on_err c.stopped.result c.in-Err.fault (g.E.Write.contents c.args.err.now) (g.E.Write.contents c.stopped.new.err) c.stopped.ensures.fault c.stopped.ensures.on_err said

pub returns-in-Ok-clause-whole : goal.returns-in-Ok-clause-whole
returns-in-Ok-clause-whole g c = λ whole.
    all_decoded (names_in (option_copied c.args.sheet) c.args.node) (g.R.Read.remaining c.args.input.now) (g.R.Read.remaining c.decode_from-outcome.new.reader)
    (g.O.Write.contents c.args.out.now) (g.O.Write.contents c.decode_from-outcome.new.writer) (g.O.Write.contents c.flushed.new.writer)
    c.decode_from-outcome.result tt c.in-Ok.ensures.ok c.decode_from-outcome.ensures.any_reader c.flushed.ensures.text
