use Rattle.std.proofs.Common.{◌≡◌, ◌<◌, [], refl, sym, ap, ◌∙◌, arith}
use Rattle.co_pdo.specs.Tpdos.{has_tpdo, tpdo_numbers}
use Rattle.co_pdo.specs.Countdowns.{IsAfter}
use Rattle.co_pdo.proofs.Built.{numbers_at_the_end, numbers_pushed, numbers_kept, each_pushed}
use Rattle.co_pdo.proofs.tpdos.tpdos_in.Goals as goal
use Rattle.co_pdo.proofs.tpdos.tpdos_in.Goals.{then-has_pdo, else-has_pdo}

pub loop-k-preserved : goal.loop-k-preserved
loop-k-preserved g c = let i = c.loop-k.invariant in let p = has_tpdo (g.S.ObjectStore.description c.args.store.now).rows in elim c.if-has_pdo.branch [
  | then-has_pdo w ↦ rw w.tpdos-is (record {
    room = w.push_reserved.ensures.capacity ∙ i.room;
    few = omega (arith, w.push_reserved.ensures.len);
    numbers = numbers_pushed p c.loop-k.k c.loop-k.tpdos.items _ _ (w.new.ensures.number ∙ c.of-number.ensures) w.push_reserved.ensures.items (ap p (sym c.of-number.ensures) ∙ sym c.has_pdo.ensures ∙ w.if-has_pdo.true) i.numbers;
    after = each_pushed (λ t. IsAfter t []) c.loop-k.tpdos.items _ _ w.push_reserved.ensures.items w.new.ensures.after i.after;
    small = each_pushed (λ t. t.number < 512) c.loop-k.tpdos.items _ _ w.push_reserved.ensures.items (omega (arith, w.new.ensures.number, c.of-number.ensures)) i.small;
  })
  | else-has_pdo w ↦ rw w.tpdos-is (record {
    room = i.room;
    few = omega arith;
    numbers = numbers_kept p c.loop-k.k c.loop-k.tpdos.items _ refl (ap p (sym c.of-number.ensures) ∙ sym c.has_pdo.ensures ∙ w.if-has_pdo.false) i.numbers;
    after = i.after;
    small = i.small;
  })
]

pub returns-clause-numbers : goal.returns-clause-numbers
unfolding tpdo_numbers
returns-clause-numbers g c = let e : c.loop-k.k ≡ 512 = omega arith in numbers_at_the_end (has_tpdo (g.S.ObjectStore.description c.args.store.now).rows) c.loop-k.tpdos.items c.loop-k.k e c.loop-k.invariant.numbers
