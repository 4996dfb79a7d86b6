use Rattle.std.proofs.Common.{ℕ, ap, ◌∙◌, map, rules}
use Rattle.std.specs.Ordering.{nat_cmp, is_lt, ordering_then}
use Rattle.std.proofs.lemmas.Fn.{always_returns_same}
use Rattle.std.proofs.lemmas.List.Sorted.{ranks_by}
use Rattle.co_sheet_rows.specs.declared.entry.EntryRow.{EntryRow}
use Rattle.co_value.specs.Keys.{is_key_before}
use Rattle.co_sheet.specs.SheetViews.{row_view}
use Rattle.co_sheet.proofs.OrderLemmas.{sorted-in_order, in_order-map, is_lt-pair, pair_total}
use Rattle.co_sheet.proofs.rows.sort_rows.Goals as goal

pub returns : goal.returns
returns c =
    let key : EntryRow → ℕ × ℕ = λ r. (r.key.index, r.key.sub) in
    let before = λ (r s : EntryRow). is_lt (ordering_then (nat_cmp r.key.index s.key.index) (nat_cmp r.key.sub s.key.sub)) in
    let sorted = c.in_ok-sort_by_key.ensures.sorted key (always_returns_same _ _ _ (λ a r f' k. search rules)) in
    let stable = c.in_ok-sort_by_key.ensures.stable key (always_returns_same _ _ _ (λ a r f' k. search rules)) in
    ap (map row_view) (sorted-in_order before (ranks_by pair_total key) c.args.rows.now.items c.sort_by_key.new.self.items sorted stable)
    ∙ in_order-map row_view before (λ r s. is_key_before r.key s.key) (λ r s. is_lt-pair r.key.index s.key.index r.key.sub s.key.sub) c.args.rows.now.items
