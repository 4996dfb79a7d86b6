use Rattle.std.proofs.Common.{ℕ, [], ◌∷◌, ◌++◌, sym, ap, ◌∙◌, arith}
use Rattle.co_node_model.specs.Tpdos.{is_mapped_into}
use Rattle.co_node_device.proofs.Numbers.{one_more, no_more, few_pushed, all_numbers}
use Rattle.co_node_device.proofs.tpdos.numbers_with.Goals as goal
use Rattle.co_node_device.proofs.tpdos.numbers_with.Goals.{then-is_mapped_into, else-is_mapped_into}

pub loop-k-preserved : goal.loop-k-preserved
loop-k-preserved g c =
    let i = c.loop-k.invariant in
    let d = g.S.ObjectStore.description c.args.store.now in
    let p = is_mapped_into d (g.S.ObjectStore.contents c.args.store.now) c.args.key in
    elim c.if-is_mapped_into.branch [
      | then-is_mapped_into w ↦ rw w.numbers-is (record {
        few = few_pushed c.loop-k.numbers.items _ _ _ w.push.ensures.items i.few;
        numbers = one_more p c.loop-k.k c.loop-k.numbers.items _
            (w.push.ensures.items ∙ ap (λ (n : ℕ). c.loop-k.numbers.items ++ n ∷ []) c.of-number.ensures)
            (ap p (sym c.of-number.ensures) ∙ sym c.is_mapped_into.ensures ∙ w.if-is_mapped_into.true) i.numbers;
      })
      | else-is_mapped_into w ↦ rw w.numbers-is (record {
        few = omega arith;
        numbers = no_more p c.loop-k.k c.loop-k.numbers.items
            (ap p (sym c.of-number.ensures) ∙ sym c.is_mapped_into.ensures ∙ w.if-is_mapped_into.false) i.numbers;
      })
    ]

pub returns : goal.returns
returns g c =
    let d = g.S.ObjectStore.description c.args.store.now in
    let p = is_mapped_into d (g.S.ObjectStore.contents c.args.store.now) c.args.key in
    all_numbers p c.loop-k.numbers.items c.loop-k.k (omega arith) c.loop-k.invariant.numbers
