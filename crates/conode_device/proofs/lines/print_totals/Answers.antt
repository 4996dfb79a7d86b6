use Rattle.std.proofs.Common.{◌≡◌, ℕ, List, [], ◌∷◌, Err, rules, subst}
use Rattle.conode_io.specs.declared.fault.CmdFault.TheVariants.{Memory}
use Rattle.std.proofs.lemmas.Result.{err_from_is_err_and}
use Rattle.conode_device.specs.Lines.{totals_line}
use Rattle.conode_device.specs.Runs.{WrittenBy}
use Rattle.conode_device.proofs.Inputs.{line_by, none_by}
use Rattle.conode_device.proofs.lines.print_totals.Goals as goal

pub returns-in_err-set_totals_line : goal.returns-in_err-set_totals_line
returns-in_err-set_totals_line g c =
    let passed = err_from_is_err_and c.from_residual.result c.from_residual.ensures.1 in
    let is : c.from_residual.result ≡ Err Memory = cc (passed.1, passed.2) in
    none_by (g.W.Write.contents c.args.writer.now) (totals_line c.args.totals) c.from_residual.result is

pub returns : goal.returns
returns g c =
    let line : c.as_bytes.result.now ≡ totals_line c.args.totals = search rules in
    let old = g.W.Write.contents c.args.writer.now in
    let new = g.W.Write.contents c.hand_over.new.writer in
    subst (λ (l : List ℕ). WrittenBy old new (l ∷ []) c.hand_over.result) line
    (line_by old new c.as_bytes.result.now c.hand_over.result c.hand_over.ensures.ok c.hand_over.ensures.fault c.hand_over.ensures.front)
