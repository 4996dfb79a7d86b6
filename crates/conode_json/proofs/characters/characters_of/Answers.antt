use Rattle.std.proofs.Common.{◌∙◌, ap, sym}
use Rattle.std.specs.Str.{chars}
use Rattle.std.proofs.lemmas.Result.{IfOk-weaker}
use Rattle.conode_json.proofs.CharacterLemmas.{utf8_characters, other_characters}
use Rattle.conode_json.proofs.characters.characters_of.Goals as goal

pub returns-in-Ok : goal.returns-in-Ok
returns-in-Ok c =
    IfOk-weaker c.in_utf8.result _ _ (λ made h. h ∙ ap chars c.in-Ok.ensures.cases.0 ∙ sym (utf8_characters c.args.line.now c.in-Ok.ensures.cases.1)) c.in_utf8.ensures

pub returns-in-Err : goal.returns-in-Err
returns-in-Err c =
    IfOk-weaker c.in_windows_1252.result _ _ (λ made h. h ∙ sym (other_characters c.args.line.now c.in-Err.ensures.cases.0)) c.in_windows_1252.ensures
