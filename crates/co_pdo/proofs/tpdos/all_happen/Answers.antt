use Rattle.std.proofs.Common.{◌≡◌, cond, [], ◌∷◌, ◌++◌, set, ap, ◌∙◌, arith}
use Rattle.co_pdo.specs.Schedules.{with_occasion}
use Rattle.co_pdo.proofs.Lists.{appended_true, appended_false, few_more, rest_set, numbers_set, placed_here, happened, done_set, due_more, due_to_the_end, done_to_the_end}
use Rattle.co_pdo.proofs.tpdos.all_happen.Goals as goal
use Rattle.co_pdo.proofs.tpdos.all_happen.Goals.{then-happens, else-happens}

pub loop-i-preserved : goal.loop-i-preserved
loop-i-preserved g c =
    let i = c.loop-i.invariant in
    let answered : c.if-happens.sent.items ≡ c.loop-i.sent.items ++ cond c.happens.result (c.happens.new.self.number ∷ []) [] = elim c.if-happens.branch [
      | then-happens w ↦ appended_true _ _ _ _ _ w.if-happens.true w.push.ensures.items (ap (λ v. v.items) w.sent-is)
      | else-happens w ↦ appended_false _ _ _ _ w.if-happens.false (ap (λ v. v.items) w.sent-is)
    ] in
    let changed : c.if-happens.tpdos ≡ set c.loop-i.tpdos c.loop-i.i c.happens.new.self = elim c.if-happens.branch [
      | then-happens w ↦ w.tpdos-is
      | else-happens w ↦ w.tpdos-is
    ] in
    rw changed (record {
      few = few_more _ _ _ _ _ i.few answered;
      numbers = numbers_set c.loop-i.tpdos c.loop-i.i c.happens.new.self _ c.happens.ensures.number ∙ i.numbers;
      rest = rest_set c.args.tpdos.now c.loop-i.tpdos _ _ i.rest;
      due = λ logs placed all current. due_more c.args.tpdos.now c.loop-i.tpdos c.loop-i.i _ c.loop-i-test.true i.rest _ _ c.happens.new.self c.happens.result c.loop-i.auto.tpdos
          (happened c.args.tpdos.now c.loop-i.tpdos c.loop-i.i _ c.loop-i-test.true i.rest (g.S.ObjectStore.contents c.args.store.now) logs c.happens.new.self c.happens.ensures.number all c.happens.result c.requires.table.small current c.args.occasion (c.happens.ensures.due (placed_here c.args.tpdos.now c.loop-i.tpdos c.loop-i.i _ c.loop-i-test.true i.rest (g.S.ObjectStore.description c.args.store.now) c.args.places.now _ placed)) (c.happens.ensures.after (placed_here c.args.tpdos.now c.loop-i.tpdos c.loop-i.i _ c.loop-i-test.true i.rest (g.S.ObjectStore.description c.args.store.now) c.args.places.now _ placed)))
          _ _ (i.due logs placed all current) answered;
      done = λ logs placed all current. done_set c.args.tpdos.now c.loop-i.tpdos c.loop-i.i _ c.loop-i-test.true i.rest _ _ c.happens.new.self c.happens.result c.loop-i.auto.tpdos
          (happened c.args.tpdos.now c.loop-i.tpdos c.loop-i.i _ c.loop-i-test.true i.rest (g.S.ObjectStore.contents c.args.store.now) logs c.happens.new.self c.happens.ensures.number all c.happens.result c.requires.table.small current c.args.occasion (c.happens.ensures.due (placed_here c.args.tpdos.now c.loop-i.tpdos c.loop-i.i _ c.loop-i-test.true i.rest (g.S.ObjectStore.description c.args.store.now) c.args.places.now _ placed)) (c.happens.ensures.after (placed_here c.args.tpdos.now c.loop-i.tpdos c.loop-i.i _ c.loop-i-test.true i.rest (g.S.ObjectStore.description c.args.store.now) c.args.places.now _ placed)))
          (i.done logs placed all current);
    })

pub returns-clause-due : goal.returns-clause-due
returns-clause-due g c = λ logs placed all current. due_to_the_end _ c.args.tpdos.now _ _ (omega arith) (c.loop-i.invariant.due logs placed all current)

pub returns-clause-after : goal.returns-clause-after
returns-clause-after g c = λ logs placed all current.
    done_to_the_end c.args.tpdos.now c.loop-i.tpdos c.loop-i.i (with_occasion (g.S.ObjectStore.contents c.args.store.now) c.args.occasion logs) c.loop-i.auto.tpdos (omega arith) c.loop-i.invariant.numbers (c.loop-i.invariant.done logs placed all current)
