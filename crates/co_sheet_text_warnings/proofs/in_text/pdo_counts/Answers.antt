use Rattle.std.proofs.Common.{ℕ, ap, map, ◌∙◌}
use Rattle.co_sheet_text_warnings.specs.Infos.{counts_between, other_counts, pdo_counts}
use Rattle.co_sheet_text_warnings.specs.ReadTexts.{ReadText}
use Rattle.co_sheet_text_warnings.specs.Views.{key_view}
use Rattle.co_sheet_text_warnings.proofs.in_text.pdo_counts.Goals as goal

pub returns : goal.returns
returns c =
    let keys = map key_view c.text.inside.keys.now in
    let sections = c.args.text.now.sections in
    c.other_counts.ensures
    ∙ ap (λ (r : ℕ × ℕ). other_counts keys r c.counts_between-transmit.result) c.counts_between-receive.ensures
    ∙ ap (λ (r : ℕ × ℕ). other_counts keys (counts_between 0x1400 0x15FF sections) r) c.counts_between-transmit.ensures
    ∙ ap (λ (t : ReadText). pdo_counts t.keys sections) c.text.view_is
