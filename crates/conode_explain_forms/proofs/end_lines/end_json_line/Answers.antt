use Rattle.std.specs.Prelude.{true}
use Rattle.std.proofs.lemmas.Result.{IfOk-weaker}
use Rattle.conode_explain_text.specs.Lines.{own_parts}
use Rattle.conode_explain_forms.proofs.JsonLemmas.{end_text_of, end_written}
use Rattle.conode_explain_forms.proofs.end_lines.end_json_line.Goals as goal

pub returns : goal.returns
returns c =
    let e = c.args.ended.now in
    let name = c.args.name.now in
    let words = c.args.words.now in
    let written = rw c.new-writer.ensures at c.in-Ok.ensures in
    IfOk-weaker c.into_text.result _ _ (λ line h.
    end_text_of c.args.node e (own_parts c.args.form c.args.times true name words) c.put_end_line.new.writer _ line.items
    (end_written c.args.node e c.args.form c.args.times name words) written h) c.into_text.ensures
