use Rattle.std.proofs.Common.{ap, ◌∙◌, map, rules}
use Rattle.std.specs.Ordering.{nat_cmp, is_lt}
use Rattle.std.specs.Prelude.{nat_lt}
use Rattle.std.proofs.lemmas.Fn.{always_returns_same}
use Rattle.std.proofs.lemmas.Cmp.{nat_cmp_total}
use Rattle.std.proofs.lemmas.List.Sorted.{ranks_by}
use Rattle.co_sheet_rows.specs.declared.object.Object.{Object}
use Rattle.co_sheet.specs.SheetViews.{object_row_view}
use Rattle.co_sheet.proofs.OrderLemmas.{sorted-in_order, in_order-map, is_lt-number}
use Rattle.co_sheet.proofs.rows.sort_objects.Goals as goal

pub returns : goal.returns
returns c =
    let key = λ (o : Object). o.index in
    let before = λ (o p : Object). is_lt (nat_cmp o.index p.index) in
    let sorted = c.in_ok-sort_by_key.ensures.sorted key (always_returns_same _ _ _ (λ a r f' k. search rules)) in
    let stable = c.in_ok-sort_by_key.ensures.stable key (always_returns_same _ _ _ (λ a r f' k. search rules)) in
    ap (map object_row_view) (sorted-in_order before (ranks_by nat_cmp_total key) c.args.objects.now.items c.sort_by_key.new.self.items sorted stable)
    ∙ in_order-map object_row_view before (λ o p. nat_lt o.index p.index) (λ a b. is_lt-number a.index b.index) c.args.objects.now.items
