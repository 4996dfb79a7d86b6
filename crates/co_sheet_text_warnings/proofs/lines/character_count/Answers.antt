use Rattle.std.proofs.Common.{ℕ, List, cond, length, sym, ap, ◌∙◌}
use Rattle.std.specs.Str.{chars}
use Rattle.std.proofs.lemmas.Str.{is_utf8-from_IsUtf8}
use Rattle.co_sheet_text_warnings.proofs.LineLemmas.{not_utf8}
use Rattle.co_sheet_text_warnings.proofs.lines.character_count.Goals as goal

pub returns-in-Ok : goal.returns-in-Ok
returns-in-Ok c =
    let line = c.args.line.now in
    c.utf8_count.ensures ∙ ap (λ (text : List ℕ). length (chars text)) c.in-Ok.ensures.cases.0
    ∙ sym (ap (λ b. cond b (length (chars line)) (length line)) (is_utf8-from_IsUtf8 line c.in-Ok.ensures.cases.1))

pub returns-in-Err : goal.returns-in-Err
returns-in-Err c =
    let line = c.args.line.now in
    sym (ap (λ b. cond b (length (chars line)) (length line)) (not_utf8 line c.in-Err.ensures.cases.0))
