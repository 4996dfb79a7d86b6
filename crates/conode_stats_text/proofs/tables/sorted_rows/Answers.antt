use Rattle.std.proofs.Common.{ℕ, rules, ap, ◌∙◌}
use Rattle.std.proofs.lemmas.Fn.{always_returns_same}
use Rattle.std.proofs.lemmas.List.Sorted.{IsNonDecreasingBy-from_sort}
use Rattle.conode_stats_counts.specs.declared.row.Row.{Row}
use Rattle.conode_stats_text.specs.Tables.{by_id}
use Rattle.conode_stats_text.proofs.Sorted.{by_id-from_sort}
use Rattle.conode_stats_text.proofs.tables.sorted_rows.Goals as goal

pub returns : goal.returns
returns c =
    let id : Row → ℕ = λ row. row.can_id in
    let keys = always_returns_same _ _ _ (λ a r f' k. search rules) in
    let sort = c.in-Ok-sort_by_key.ensures in
    by_id-from_sort _ _ (IsNonDecreasingBy-from_sort id _ (sort.sorted id keys)) (sort.stable id keys)
    ∙ ap by_id (c.in-Ok.ensures.items_if_clones_equal (λ x y h. h) ∙ c.rows.ensures)
