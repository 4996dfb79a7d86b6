use Rattle.std.proofs.Common.{◌≡◌, Some, None, Ok, Err, refl, sym, ap, subst, ◌∙◌, arith, false, rules}
use Rattle.std.proofs.lemmas.Result.{err_from_is_err_and}
use Rattle.co_stream.specs.Nexts.{new_reader}
use Rattle.co_stream.specs.Readings.{to_come}
use Rattle.co_stream.proofs.Readers.{gave_nothing, gave_so, gave_then}
use Rattle.conode_io.specs.declared.fault.CmdFault.{CmdFault}
use Rattle.conode_io.specs.declared.fault.CmdFault.TheVariants.{Write}
use Rattle.co_sheet_changes.specs.Names.{names_view}
use Rattle.conode_decode.specs.DecodedTraces.{Decoded}
use Rattle.conode_io.proofs.Taking.{all_to_come, next_line, next_fewer, next_no_fault, next_end, next_fault}
use Rattle.conode_decode.proofs.Decoding.{decoded_none, decoded_flushed, decoded_more, ends, ends_at_bad_line, ends_at_fault, fails_to_flush, fails_in_line}
use Rattle.conode_decode.proofs.decoded_trace.decode_all.Goals as goal

pub trace-init : goal.trace-init
trace-init g c =
    let known = g.R.Read.remaining c.args.reader.now in
    rw c.requires (record {
      decoded = gave_nothing false known known _ refl (λ whole. decoded_none (names_view c.args.names) whole (to_come new_reader whole) _ (g.W.Write.contents c.args.writer.now) (all_to_come whole) c.new-progress.ensures.trace);
      fault = refl;
      few = rw c.new-progress.ensures.number (omega arith);
    })

pub returns-in_err-let_out-clause-gave : goal.returns-in_err-let_out-clause-gave
returns-in_err-let_out-clause-gave g c =
    let names = names_view c.args.names in
    let known = g.R.Read.remaining c.args.reader.now in
    let now = g.R.Read.remaining c.trace.reader in
    let old = g.W.Write.contents c.args.writer.now in
    let mid = g.W.Write.contents c.trace.writer in
    let new = g.W.Write.contents c.let_out.new.writer in
    let passed = err_from_is_err_and c.from_residual.result c.from_residual.ensures.1 in
    let same : c.from_residual.result ≡ Err Write = passed.1 ∙ ap (λ (e : CmdFault). Err e) (passed.2 ∙ c.in_err-let_out.ensures.err) in (
      c.trace.lines.ended,
      gave_so false c.trace.lines.ended known now _ _ c.trace.invariant.decoded
          (λ had has held.
          subst (Decoded names had has old new) (sym same)
          (fails_to_flush names had (to_come c.trace.lines has) has c.trace.progress old new (decoded_flushed names had (to_come c.trace.lines has) c.trace.progress old mid held new c.let_out.ensures.text))),
    )

pub trace-preserved : goal.trace-preserved
trace-preserved g c =
    let names = names_view c.args.names in
    let known = g.R.Read.remaining c.args.reader.now in
    let before = g.R.Read.remaining c.trace.reader in
    let after = g.R.Read.remaining c.next.new.reader in
    let old = g.W.Write.contents c.args.writer.now in
    let mid = g.W.Write.contents c.trace.writer in
    let flushed = g.W.Write.contents c.let_out.new.writer in
    let new = g.W.Write.contents c.write_line.new.writer in
    let is : c.next.result ≡ Ok (Some c.in-Ok-Some.line) = cc in
    let lines = c.trace.lines in
    let next = c.next.follows.lender-at-none in
    let holds = c.next.follows.holds-at-none in
    let fewer = next_fewer lines next before after c.next.result holds c.in-Ok-Some.line is in
    record {
      decoded = gave_then false lines.ended next.ended known before after _ _ _ c.trace.invariant.decoded (next_line lines next before after c.next.result holds c.in-Ok-Some.line is)
          (λ had middle has held gives.
          decoded_more names had (to_come lines middle) c.trace.progress old flushed (decoded_flushed names had (to_come lines middle) c.trace.progress old mid held flushed c.let_out.ensures.text) (to_come next has) c.read.new.self new c.in-Ok-Some.line.now c.in-Ok.timed
          gives c.in-Ok.ensures.line c.in_ok-write_line-in-Ok.ensures.ok);
      fault = next_no_fault lines next before after c.next.result holds c.in-Ok-Some.line is;
      few = omega (arith, fewer, c.in-Ok.ensures.number, c.trace.invariant.few);
    }

pub returns-in_err-write_line-in-Ok-clause-gave : goal.returns-in_err-write_line-in-Ok-clause-gave
returns-in_err-write_line-in-Ok-clause-gave g c =
    let names = names_view c.args.names in
    let known = g.R.Read.remaining c.args.reader.now in
    let before = g.R.Read.remaining c.trace.reader in
    let after = g.R.Read.remaining c.next.new.reader in
    let old = g.W.Write.contents c.args.writer.now in
    let mid = g.W.Write.contents c.trace.writer in
    let flushed = g.W.Write.contents c.let_out.new.writer in
    let new = g.W.Write.contents c.write_line.new.writer in
    let is : c.next.result ≡ Ok (Some c.in-Ok-Some.line) = cc in
    let lines = c.trace.lines in
    let next = c.next.follows.lender-at-none in
    let passed = err_from_is_err_and c.from_residual-in_err-write_line-in-Ok.result c.from_residual-in_err-write_line-in-Ok.ensures.1 in
    let same : c.from_residual-in_err-write_line-in-Ok.result ≡ Err c.in_err-write_line-in-Ok.field-0.0 = passed.1 ∙ ap (λ (e : CmdFault). Err e) passed.2 in (
      next.ended,
      gave_then false lines.ended next.ended known before after _ _ _ c.trace.invariant.decoded (next_line lines next before after c.next.result c.next.follows.holds-at-none c.in-Ok-Some.line is)
          (λ had middle has held gives.
          subst (Decoded names had has old new) (sym same)
          (fails_in_line names had (to_come lines middle) has c.trace.progress old flushed (decoded_flushed names had (to_come lines middle) c.trace.progress old mid held flushed c.let_out.ensures.text) (to_come next has) c.read.new.self new c.in-Ok-Some.line.now c.in-Ok.timed c.in_err-write_line-in-Ok.field-0.0
          gives c.in-Ok.ensures.line c.in_err-write_line-in-Ok.ensures.err
          (λ w. c.in_err-write_line-in-Ok.ensures.write (ap (λ (e : CmdFault). Err e) w)) (λ m. c.in_err-write_line-in-Ok.ensures.memory (ap (λ (e : CmdFault). Err e) m)))),
    )

pub returns-in-Err-read-clause-gave : goal.returns-in-Err-read-clause-gave
returns-in-Err-read-clause-gave g c =
    let names = names_view c.args.names in
    let known = g.R.Read.remaining c.args.reader.now in
    let before = g.R.Read.remaining c.trace.reader in
    let after = g.R.Read.remaining c.next.new.reader in
    let old = g.W.Write.contents c.args.writer.now in
    let mid = g.W.Write.contents c.trace.writer in
    let flushed = g.W.Write.contents c.let_out.new.writer in
    let is : c.next.result ≡ Ok (Some c.in-Ok-Some.line) = cc in
    let lines = c.trace.lines in
    let next = c.next.follows.lender-at-none in (
      next.ended,
      gave_then false lines.ended next.ended known before after _ _ _ c.trace.invariant.decoded (next_line lines next before after c.next.result c.next.follows.holds-at-none c.in-Ok-Some.line is)
          (λ had middle has held gives.
          ends_at_bad_line names had (to_come lines middle) c.trace.progress old flushed (decoded_flushed names had (to_come lines middle) c.trace.progress old mid held flushed c.let_out.ensures.text)
          (to_come next has) has c.in-Ok-Some.line.now _ gives c.in-Err-read.ensures.bad),
    )

pub returns-in-Ok-None-clause-gave : goal.returns-in-Ok-None-clause-gave
returns-in-Ok-None-clause-gave g c =
    let names = names_view c.args.names in
    let known = g.R.Read.remaining c.args.reader.now in
    let before = g.R.Read.remaining c.trace.reader in
    let after = g.R.Read.remaining c.next.new.reader in
    let old = g.W.Write.contents c.args.writer.now in
    let mid = g.W.Write.contents c.trace.writer in
    let flushed = g.W.Write.contents c.let_out.new.writer in
    let is : c.next.result ≡ Ok None = cc in
    let lines = c.trace.lines in
    let next = c.next.follows.lender-at-none in (
      next.ended,
      gave_then false lines.ended next.ended known before after _ _ _ c.trace.invariant.decoded (next_end lines next before after c.next.result c.next.follows.holds-at-none is)
          (λ had middle has held end.
          ends names had (to_come lines middle) c.trace.progress old flushed (decoded_flushed names had (to_come lines middle) c.trace.progress old mid held flushed c.let_out.ensures.text) has end.0),
    )

pub returns-in-Err-clause-gave : goal.returns-in-Err-clause-gave
returns-in-Err-clause-gave g c =
    let names = names_view c.args.names in
    let known = g.R.Read.remaining c.args.reader.now in
    let before = g.R.Read.remaining c.trace.reader in
    let after = g.R.Read.remaining c.next.new.reader in
    let old = g.W.Write.contents c.args.writer.now in
    let mid = g.W.Write.contents c.trace.writer in
    let flushed = g.W.Write.contents c.let_out.new.writer in
    let lines = c.trace.lines in
    let next = c.next.follows.lender-at-none in (
      next.ended,
      gave_then false lines.ended next.ended known before after _ _ _ c.trace.invariant.decoded (next_fault lines next before after c.next.result c.next.follows.holds-at-none c.in-Err.fault (search rules) c.trace.invariant.fault)
          (λ had middle has held stops.
          ends_at_fault names had (to_come lines middle) c.trace.progress old flushed (decoded_flushed names had (to_come lines middle) c.trace.progress old mid held flushed c.let_out.ensures.text) has c.in-Err.fault c.line_fault.result
          c.line_fault.ensures.read c.line_fault.ensures.never_ends c.line_fault.ensures.too_long stops.0 stops.1),
    )
