use Rattle.std.proofs.Common.{ℕ, ap, map, sym, take, ◌∙◌}
use Rattle.std.proofs.lemmas.List.{take-map, take_min}
use Rattle.co_sheet_changes.specs.Views.{line_view}
use Rattle.co_sheet_mend.specs.Repairs.{most_looked_at}
use Rattle.co_sheet_mend.proofs.lines.near.Goals as goal

pub returns : goal.returns
returns c =
    let lines = c.args.lines.now in
    ap (map line_view) (c.split_at.ensures.front ∙ ap (λ (n : ℕ). take n lines) c.min.ensures ∙ take_min most_looked_at lines) ∙ sym (take-map line_view most_looked_at lines)
