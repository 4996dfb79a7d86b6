use Rattle.std.proofs.Common.{◌≡◌, ℕ, List, [], ◌∷◌, Err, rules, subst, sym}
use Rattle.std.proofs.lemmas.Result.{err_from_is_err_and}
use Rattle.conode_io.specs.declared.fault.CmdFault.TheVariants.{Memory}
use Rattle.co_node_model.specs.declared.app_answer.AppAnswer.{AppAnswer}
use Rattle.conode_device.specs.Lines.{refused_line, refused_lines}
use Rattle.conode_device.specs.Runs.{WrittenBy}
use Rattle.conode_device.proofs.Inputs.{line_by, none_by}
use Rattle.conode_device.proofs.lines.print_refusal.Goals as goal

pub returns-in_err-set_refused_line-in-Refused : goal.returns-in_err-set_refused_line-in-Refused
returns-in_err-set_refused_line-in-Refused g c =
    let passed = err_from_is_err_and c.from_residual.result c.from_residual.ensures.1 in
    let is : c.from_residual.result ≡ Err Memory = cc (passed.1, passed.2) in
    let old = g.W.Write.contents c.args.writer.now in
    subst (λ (answer : AppAnswer). WrittenBy old old (refused_lines c.args.number answer) c.from_residual.result) (sym c.in-Refused.is)
    (none_by old (refused_line c.args.number c.in-Refused.code.0) c.from_residual.result is)

pub returns-in_ok-set_refused_line-in-Refused : goal.returns-in_ok-set_refused_line-in-Refused
returns-in_ok-set_refused_line-in-Refused g c =
    let line : c.as_bytes.result.now ≡ refused_line c.args.number c.in-Refused.code.0 = search rules in
    let old = g.W.Write.contents c.args.writer.now in
    let new = g.W.Write.contents c.hand_over.new.writer in
    subst (λ (answer : AppAnswer). WrittenBy old new (refused_lines c.args.number answer) c.hand_over.result) (sym c.in-Refused.is)
    (subst (λ (l : List ℕ). WrittenBy old new (l ∷ []) c.hand_over.result) line
    (line_by old new c.as_bytes.result.now c.hand_over.result c.hand_over.ensures.ok c.hand_over.ensures.fault c.hand_over.ensures.front))
