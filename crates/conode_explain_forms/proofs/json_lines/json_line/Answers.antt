use Rattle.std.proofs.lemmas.Result.{IfOk-weaker}
use Rattle.conode_explain_text.specs.Lines.{line_parts}
use Rattle.conode_explain_forms.specs.JsonLines.{of_several}
use Rattle.conode_explain_forms.proofs.JsonLemmas.{line_text_of, line_written}
use Rattle.conode_explain_forms.proofs.json_lines.json_line.Goals as goal

pub returns : goal.returns
returns c =
    let so_far = c.args.seen.now in
    let frame = c.args.frame.now in
    let words = c.args.words.now in
    let written = rw c.new-writer.ensures at c.in-Ok.ensures in
    IfOk-weaker c.into_text.result _ _ (λ line h.
    line_text_of c.args.kind c.args.node (line_parts c.args.form (of_several so_far) frame words) c.put_line.new.writer _ line.items
    (line_written c.args.kind c.args.node c.args.form so_far frame words) written h) c.into_text.ensures
