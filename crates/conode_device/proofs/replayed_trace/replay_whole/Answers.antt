use Rattle.std.proofs.Common.{◌≡◌, Err, false, sym, ap, subst, ◌∙◌}
use Rattle.std.proofs.lemmas.Result.{err_from_is_err_and}
use Rattle.co_stream.proofs.Readers.{gave_so}
use Rattle.conode_io.specs.declared.fault.CmdFault.{CmdFault}
use Rattle.conode_device.specs.Runs.{HasCounted, HasEnded, Replayed}
use Rattle.conode_device.proofs.Replaying.{fault_stays, totals_fail, totals_written}
use Rattle.conode_device.proofs.replayed_trace.replay_whole.Goals as goal

pub returns-in_err-totals : goal.returns-in_err-totals
returns-in_err-totals g c =
    let first = c.args.node.now in
    let last = c.replay_lines.new.node in
    let known = g.R.Read.remaining c.args.reader.now in
    let rest = g.R.Read.remaining c.replay_lines.new.reader in
    let old = g.W.Write.contents c.args.writer.now in
    let new = g.W.Write.contents c.replay_lines.new.writer in
    let fault = c.in_err-totals.field-0.0 in
    let passed = err_from_is_err_and c.from_residual.result c.from_residual.ensures.1 in
    let same : c.from_residual.result ≡ Err fault = passed.1 ∙ ap (λ (e : CmdFault). Err e) passed.2 in
    let (ended, gave) = c.in_err-totals.ensures.gave in (
      ended,
      gave_so false ended known rest _ _ gave
          (λ had has held. subst (Replayed (λ k before. HasEnded k before old new last) first last had has old new) (sym same)
          (fault_stays (λ k before. HasCounted k before old new last) (λ k before. HasEnded k before old new last) first last had has old new fault held)),
    )

pub returns-in_err-print_totals : goal.returns-in_err-print_totals
returns-in_err-print_totals g c =
    let first = c.args.node.now in
    let last = c.replay_lines.new.node in
    let known = g.R.Read.remaining c.args.reader.now in
    let rest = g.R.Read.remaining c.replay_lines.new.reader in
    let old = g.W.Write.contents c.args.writer.now in
    let mid = g.W.Write.contents c.replay_lines.new.writer in
    let new = g.W.Write.contents c.print_totals.new.writer in
    let fault = c.in_err-print_totals.field-0.0 in
    let passed = err_from_is_err_and c.from_residual-in_err-print_totals.result c.from_residual-in_err-print_totals.ensures.1 in
    let same : c.from_residual-in_err-print_totals.result ≡ Err fault = passed.1 ∙ ap (λ (e : CmdFault). Err e) passed.2 in
    let (ended, gave) = c.in_ok-totals.ensures.gave in (
      ended,
      gave_so false ended known rest _ _ gave
          (λ had has held. subst (Replayed (λ k before. HasEnded k before old new last) first last had has old new) (sym same)
          (totals_fail first last has old mid new c.in_ok-totals.totals had fault held c.in_err-print_totals.ensures)),
    )

pub returns : goal.returns
returns g c =
    let first = c.args.node.now in
    let last = c.replay_lines.new.node in
    let known = g.R.Read.remaining c.args.reader.now in
    let rest = g.R.Read.remaining c.replay_lines.new.reader in
    let old = g.W.Write.contents c.args.writer.now in
    let mid = g.W.Write.contents c.replay_lines.new.writer in
    let new = g.W.Write.contents c.print_totals.new.writer in
    let (ended, gave) = c.in_ok-totals.ensures.gave in (
      ended,
      gave_so false ended known rest _ _ gave (λ had has held. totals_written first last has old mid new c.in_ok-totals.totals had held c.in_ok-print_totals.ensures),
    )
