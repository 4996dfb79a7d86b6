use Rattle.std.proofs.Common.{ap, ◌∙◌, map, rules}
use Rattle.std.specs.Ordering.{nat_cmp, is_lt}
use Rattle.std.specs.Prelude.{nat_lt}
use Rattle.std.proofs.lemmas.Fn.{always_returns_same}
use Rattle.std.proofs.lemmas.Cmp.{nat_cmp_total}
use Rattle.std.proofs.lemmas.List.Sorted.{ranks_by}
use Rattle.co_sheet_text.specs.declared.text_section.TextSection.{TextSection}
use Rattle.co_sheet_text.specs.Views.{section_view}
use Rattle.conode_show_text.proofs.OrderLemmas.{sorted-in_order, in_order-map, is_lt-number}
use Rattle.conode_show_text.specs.Document.{rank}
use Rattle.conode_show_text.proofs.ordering.order.Goals as goal

pub returns : goal.returns
returns c =
    let key = λ (s : TextSection). rank s.kind in
    let before = λ (s t : TextSection). is_lt (nat_cmp (rank s.kind) (rank t.kind)) in
    let sorted = c.in-Ok.ensures.sorted key (always_returns_same _ _ _ (λ a r f' k. search rules)) in
    let stable = c.in-Ok.ensures.stable key (always_returns_same _ _ _ (λ a r f' k. search rules)) in
    ap (map section_view) (sorted-in_order before (ranks_by nat_cmp_total key) c.args.sections.now c.sort_by_key.new.self sorted stable)
    ∙ in_order-map section_view before (λ s t. nat_lt (rank s.kind) (rank t.kind)) (λ a b. is_lt-number (rank a.kind) (rank b.kind)) c.args.sections.now
