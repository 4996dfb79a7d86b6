use Rattle.std.proofs.Common.{rules}
use Rattle.std.proofs.lemmas.Cmp.{nat_cmp_total}
use Rattle.std.proofs.lemmas.Fn.{always_returns_same}
use Rattle.std.proofs.lemmas.List.Sorted.{ranks_by, IsNonDecreasingBy-from_sort_by_key}
use Rattle.co_sheet.specs.declared.tables.EntrySection.{EntrySection}
use Rattle.co_sheet.proofs.OrderLemmas.{sorted-in_order}
use Rattle.co_sheet.proofs.PartLemmas.{is_before, parts-sorted}
use Rattle.co_sheet.proofs.tables.sort_by_index.Goals as goal

pub returns-clause-sorted : goal.returns-clause-sorted
returns-clause-sorted c =
    IsNonDecreasingBy-from_sort_by_key (λ (e : EntrySection). e.key.index) c.sort_by_key.new.self.items c.in_ok-sort_by_key.ensures.sorted (λ a r f' k. search rules)

pub returns-clause-same : goal.returns-clause-same
returns-clause-same c = λ i.
    let key = λ (e : EntrySection). e.key.index in
    let old = c.args.parts.now.items in
    let new = c.sort_by_key.new.self.items in
    let sorted = c.in_ok-sort_by_key.ensures.sorted key (always_returns_same _ _ _ (λ a r f' k. search rules)) in
    let stable = c.in_ok-sort_by_key.ensures.stable key (always_returns_same _ _ _ (λ a r f' k. search rules)) in
    parts-sorted i old new (sorted-in_order is_before (ranks_by nat_cmp_total key) old new sorted stable)
