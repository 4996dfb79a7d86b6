use Rattle.std.proofs.Common.{◌≡◌, Some, None, Ok, Err, refl, sym, ap, subst, ◌∙◌, arith, false, rules}
use Rattle.std.proofs.lemmas.Result.{err_from_is_err_and}
use Rattle.co_stream.specs.Nexts.{new_reader}
use Rattle.co_stream.specs.Readings.{to_come}
use Rattle.co_stream.proofs.Readers.{gave_nothing, gave_so, gave_then}
use Rattle.conode_io.specs.declared.fault.CmdFault.{CmdFault}
use Rattle.conode_io.specs.declared.fault.CmdFault.TheVariants.{NeverEnds, Read, Write}
use Rattle.conode_io.proofs.Taking.{all_to_come, next_line, next_fewer, next_no_fault, next_end, next_fault}
use Rattle.conode_device.specs.Runs.{HasCounted, Replayed}
use Rattle.conode_trace.specs.Traces.{inputs_of}
use Rattle.conode_device.proofs.Inputs.{printed_not}
use Rattle.conode_device.proofs.Replaying.{boot_fails, boot_not, replayed_none, replayed_flushed, replayed_more, ends, ends_at_bad_line, ends_at_fault, fails_to_flush, fails_in_line}
use Rattle.conode_device.proofs.replayed_trace.replay_lines.Goals as goal

pub returns-in_err-print_boot-clause-gave : goal.returns-in_err-print_boot-clause-gave
returns-in_err-print_boot-clause-gave g c =
    let first = c.args.node.now in
    let known = g.R.Read.remaining c.args.reader.now in
    let old = g.W.Write.contents c.args.writer.now in
    let new = g.W.Write.contents c.print_boot.new.writer in
    let passed = err_from_is_err_and c.from_residual.result c.from_residual.ensures.1 in
    let same : c.from_residual.result ≡ Err c.in_err-print_boot.field-0.0 = passed.1 ∙ ap (λ (e : CmdFault). Err e) passed.2 in (
      false,
      gave_nothing false known known _ refl
          (λ whole. subst (Replayed (λ k before. HasCounted k before old new first) first first whole whole old new) (sym same)
          (boot_fails (λ k before. HasCounted k before old new first) first whole whole old new c.in_err-print_boot.field-0.0 c.in_err-print_boot.ensures)),
    )

pub returns-in_err-print_boot-clause-read : goal.returns-in_err-print_boot-clause-read
returns-in_err-print_boot-clause-read g c said =
    let passed = err_from_is_err_and c.from_residual.result c.from_residual.ensures.1 in
    let own : c.in_err-print_boot.field-0.0 ≡ Read = cc (passed.1, passed.2) in
    absurd (boot_not c.args.node.now (g.W.Write.contents c.args.writer.now) (g.W.Write.contents c.print_boot.new.writer) c.in_err-print_boot.field-0.0 Read c.in_err-print_boot.ensures own)

pub returns-in_err-print_boot-clause-never_ends : goal.returns-in_err-print_boot-clause-never_ends
returns-in_err-print_boot-clause-never_ends g c said =
    let passed = err_from_is_err_and c.from_residual.result c.from_residual.ensures.1 in
    let own : c.in_err-print_boot.field-0.0 ≡ NeverEnds = cc (passed.1, passed.2) in
    absurd (boot_not c.args.node.now (g.W.Write.contents c.args.writer.now) (g.W.Write.contents c.print_boot.new.writer) c.in_err-print_boot.field-0.0 NeverEnds c.in_err-print_boot.ensures own)

pub trace-init : goal.trace-init
trace-init g c =
    let known = g.R.Read.remaining c.args.reader.now in
    rw c.requires (record {
      replayed = gave_nothing false known known _ refl (λ whole. replayed_none c.args.node.now whole (to_come new_reader whole) _ (g.W.Write.contents c.args.writer.now) (g.W.Write.contents c.print_boot.new.writer) _ (all_to_come whole) c.new-progress.ensures.trace c.new-totals.ensures c.in_ok-print_boot.ensures);
      fault = refl;
      few = rw c.new-progress.ensures.number (omega arith);
      room = rw c.new-totals.ensures (omega arith);
    })

pub returns-in_err-let_out-clause-gave : goal.returns-in_err-let_out-clause-gave
returns-in_err-let_out-clause-gave g c =
    let first = c.args.node.now in
    let known = g.R.Read.remaining c.args.reader.now in
    let now = g.R.Read.remaining c.trace.reader in
    let old = g.W.Write.contents c.args.writer.now in
    let mid = g.W.Write.contents c.trace.writer in
    let new = g.W.Write.contents c.let_out.new.writer in
    let lines = c.trace.lines in
    let passed = err_from_is_err_and c.from_residual-in_err-let_out.result c.from_residual-in_err-let_out.ensures.1 in
    let same : c.from_residual-in_err-let_out.result ≡ Err Write = passed.1 ∙ ap (λ (e : CmdFault). Err e) (passed.2 ∙ c.in_err-let_out.ensures.err) in (
      lines.ended,
      gave_so false lines.ended known now _ _ c.trace.invariant.replayed
          (λ had has held.
          subst (Replayed (λ k before. HasCounted k before old new c.trace.node) first c.trace.node had has old new) (sym same)
          (fails_to_flush first had (to_come lines has) c.trace.progress old new c.trace.node c.trace.totals (replayed_flushed first had (to_come lines has) c.trace.progress old mid c.trace.node c.trace.totals held new c.let_out.ensures.text) (λ k before. HasCounted k before old new c.trace.node) has)),
    )

pub trace-preserved : goal.trace-preserved
trace-preserved g c =
    let first = c.args.node.now in
    let known = g.R.Read.remaining c.args.reader.now in
    let before = g.R.Read.remaining c.trace.reader in
    let after = g.R.Read.remaining c.next.new.reader in
    let old = g.W.Write.contents c.args.writer.now in
    let mid = g.W.Write.contents c.trace.writer in
    let flushed = g.W.Write.contents c.let_out.new.writer in
    let is : c.next.result ≡ Ok (Some c.in-Ok-Some.line) = cc in
    let lines = c.trace.lines in
    let next = c.next.follows.lender-at-none in
    let holds = c.next.follows.holds-at-none in
    let fewer = next_fewer lines next before after c.next.result holds c.in-Ok-Some.line is in
    record {
      replayed = gave_then false lines.ended next.ended known before after _ _ _ c.trace.invariant.replayed (next_line lines next before after c.next.result holds c.in-Ok-Some.line is)
          (λ had middle has held gives.
          replayed_more first had (to_come lines middle) c.trace.progress old flushed c.trace.node c.trace.totals
          (replayed_flushed first had (to_come lines middle) c.trace.progress old mid c.trace.node c.trace.totals held flushed c.let_out.ensures.text)
          (to_come next has) c.read.new.self (g.W.Write.contents c.replay_line.new.writer) c.replay_line.new.node c.in-Ok-Some.line.now c.in-Ok.timed _ _
          gives c.in-Ok.ensures.line c.in_ok-printed-in-Ok.ensures.printed c.count.ensures.counted);
      fault = next_no_fault lines next before after c.next.result holds c.in-Ok-Some.line is;
      few = omega (arith, fewer, c.in-Ok.ensures.number, c.trace.invariant.few);
      room = omega (arith, c.count.ensures.few, c.in_ok-printed-in-Ok.ensures.few, c.in-Ok.ensures.number, c.trace.invariant.room);
    }

pub returns-in_err-printed-in-Ok-clause-gave : goal.returns-in_err-printed-in-Ok-clause-gave
returns-in_err-printed-in-Ok-clause-gave g c =
    let first = c.args.node.now in
    let known = g.R.Read.remaining c.args.reader.now in
    let before = g.R.Read.remaining c.trace.reader in
    let after = g.R.Read.remaining c.next.new.reader in
    let old = g.W.Write.contents c.args.writer.now in
    let mid = g.W.Write.contents c.trace.writer in
    let flushed = g.W.Write.contents c.let_out.new.writer in
    let new = g.W.Write.contents c.replay_line.new.writer in
    let then = c.replay_line.new.node in
    let is : c.next.result ≡ Ok (Some c.in-Ok-Some.line) = cc in
    let lines = c.trace.lines in
    let next = c.next.follows.lender-at-none in
    let passed = err_from_is_err_and c.from_residual-in_err-printed-in-Ok.result c.from_residual-in_err-printed-in-Ok.ensures.1 in
    let same : c.from_residual-in_err-printed-in-Ok.result ≡ Err c.in_err-printed-in-Ok.field-0.0 = passed.1 ∙ ap (λ (e : CmdFault). Err e) passed.2 in (
      next.ended,
      gave_then false lines.ended next.ended known before after _ _ _ c.trace.invariant.replayed (next_line lines next before after c.next.result c.next.follows.holds-at-none c.in-Ok-Some.line is)
          (λ had middle has held gives.
          subst (Replayed (λ k b. HasCounted k b old new then) first then had has old new) (sym same)
          (fails_in_line first had (to_come lines middle) c.trace.progress old flushed c.trace.node c.trace.totals
          (replayed_flushed first had (to_come lines middle) c.trace.progress old mid c.trace.node c.trace.totals held flushed c.let_out.ensures.text)
          (to_come next has) c.read.new.self new then c.in-Ok-Some.line.now c.in-Ok.timed gives c.in-Ok.ensures.line
          (λ k b. HasCounted k b old new then) has c.in_err-printed-in-Ok.field-0.0 c.in_err-printed-in-Ok.ensures.printed)),
    )

pub returns-in_err-printed-in-Ok-clause-read : goal.returns-in_err-printed-in-Ok-clause-read
returns-in_err-printed-in-Ok-clause-read g c said =
    let passed = err_from_is_err_and c.from_residual-in_err-printed-in-Ok.result c.from_residual-in_err-printed-in-Ok.ensures.1 in
    let own : c.in_err-printed-in-Ok.field-0.0 ≡ Read = cc (passed.1, passed.2) in
    absurd (printed_not c.trace.node c.replay_line.new.node (g.W.Write.contents c.let_out.new.writer) (g.W.Write.contents c.replay_line.new.writer) (inputs_of c.in-Ok.timed) c.in_err-printed-in-Ok.field-0.0 Read c.in_err-printed-in-Ok.ensures.printed own)

pub returns-in_err-printed-in-Ok-clause-never_ends : goal.returns-in_err-printed-in-Ok-clause-never_ends
returns-in_err-printed-in-Ok-clause-never_ends g c said =
    let passed = err_from_is_err_and c.from_residual-in_err-printed-in-Ok.result c.from_residual-in_err-printed-in-Ok.ensures.1 in
    let own : c.in_err-printed-in-Ok.field-0.0 ≡ NeverEnds = cc (passed.1, passed.2) in
    absurd (printed_not c.trace.node c.replay_line.new.node (g.W.Write.contents c.let_out.new.writer) (g.W.Write.contents c.replay_line.new.writer) (inputs_of c.in-Ok.timed) c.in_err-printed-in-Ok.field-0.0 NeverEnds c.in_err-printed-in-Ok.ensures.printed own)

pub returns-in-Err-read-clause-gave : goal.returns-in-Err-read-clause-gave
returns-in-Err-read-clause-gave g c =
    let first = c.args.node.now in
    let known = g.R.Read.remaining c.args.reader.now in
    let before = g.R.Read.remaining c.trace.reader in
    let after = g.R.Read.remaining c.next.new.reader in
    let old = g.W.Write.contents c.args.writer.now in
    let mid = g.W.Write.contents c.trace.writer in
    let flushed = g.W.Write.contents c.let_out.new.writer in
    let is : c.next.result ≡ Ok (Some c.in-Ok-Some.line) = cc in
    let lines = c.trace.lines in
    let next = c.next.follows.lender-at-none in (
      next.ended,
      gave_then false lines.ended next.ended known before after _ _ _ c.trace.invariant.replayed (next_line lines next before after c.next.result c.next.follows.holds-at-none c.in-Ok-Some.line is)
          (λ had middle has held gives.
          ends_at_bad_line first had (to_come lines middle) c.trace.progress old flushed c.trace.node c.trace.totals
          (replayed_flushed first had (to_come lines middle) c.trace.progress old mid c.trace.node c.trace.totals held flushed c.let_out.ensures.text)
          (λ k b. HasCounted k b old flushed c.trace.node) (to_come next has) has c.in-Ok-Some.line.now _ gives c.in-Err-read.ensures.bad),
    )

pub returns-in-Ok-None-clause-gave : goal.returns-in-Ok-None-clause-gave
returns-in-Ok-None-clause-gave g c =
    let first = c.args.node.now in
    let known = g.R.Read.remaining c.args.reader.now in
    let before = g.R.Read.remaining c.trace.reader in
    let after = g.R.Read.remaining c.next.new.reader in
    let old = g.W.Write.contents c.args.writer.now in
    let mid = g.W.Write.contents c.trace.writer in
    let flushed = g.W.Write.contents c.let_out.new.writer in
    let is : c.next.result ≡ Ok None = cc in
    let lines = c.trace.lines in
    let next = c.next.follows.lender-at-none in (
      next.ended,
      gave_then false lines.ended next.ended known before after _ _ _ c.trace.invariant.replayed (next_end lines next before after c.next.result c.next.follows.holds-at-none is)
          (λ had middle has held end.
          ends first had (to_come lines middle) c.trace.progress old flushed c.trace.node c.trace.totals
          (replayed_flushed first had (to_come lines middle) c.trace.progress old mid c.trace.node c.trace.totals held flushed c.let_out.ensures.text) has end.0),
    )

pub returns-in-Err-clause-gave : goal.returns-in-Err-clause-gave
returns-in-Err-clause-gave g c =
    let first = c.args.node.now in
    let known = g.R.Read.remaining c.args.reader.now in
    let before = g.R.Read.remaining c.trace.reader in
    let after = g.R.Read.remaining c.next.new.reader in
    let old = g.W.Write.contents c.args.writer.now in
    let mid = g.W.Write.contents c.trace.writer in
    let flushed = g.W.Write.contents c.let_out.new.writer in
    let lines = c.trace.lines in
    let next = c.next.follows.lender-at-none in (
      next.ended,
      gave_then false lines.ended next.ended known before after _ _ _ c.trace.invariant.replayed (next_fault lines next before after c.next.result c.next.follows.holds-at-none c.in-Err.fault (search rules) c.trace.invariant.fault)
          (λ had middle has held stops.
          ends_at_fault first had (to_come lines middle) c.trace.progress old flushed c.trace.node c.trace.totals
          (replayed_flushed first had (to_come lines middle) c.trace.progress old mid c.trace.node c.trace.totals held flushed c.let_out.ensures.text)
          (λ k b. HasCounted k b old flushed c.trace.node) has c.in-Err.fault c.line_fault.result
          c.line_fault.ensures.read c.line_fault.ensures.never_ends c.line_fault.ensures.too_long stops.0 stops.1),
    )
