use Rattle.std.proofs.Common.{List, length, take, get_or, ap, sym, ◌∙◌, subst, arith}
use Rattle.std.specs.Prelude.{Option, None}
use Rattle.std.specs.List.{filter_map, range_with_len}
use Rattle.std.proofs.lemmas.List.{with_items_is}
use Rattle.co_frame.specs.FrameContent.{FrameContent}
use Rattle.co_node_parts.specs.RpdoSlots.{SlotContent, SlotsStand, numbered}
use Rattle.co_node_parts.proofs.Slots.{collected_all}
use Rattle.co_node_parts.proofs.rpdo_slots.RpdoSlots.note.Goals as goal

pub returns-in-Sync-clause-taken : goal.returns-in-Sync-clause-taken
returns-in-Sync-clause-taken c = λ count log h.
    let s = subst (λ (v : SlotContent). SlotsStand count v log) (sym c.self.view_is) h in
    rw c.in-Sync.is
    (ap (take c.collect-self-inside.result) (with_items_is c.self.inside.taken.items c.collect-self-inside.new.taken (omega arith))
    ∙ c.collect-self-inside.ensures.taken ∙ ap (λ (xs : List (Option FrameContent)). filter_map (λ k. numbered k (get_or xs k None)) (range_with_len 0 (length xs))) c.deref.ensures.value
    ∙ collected_all count _ log s)
