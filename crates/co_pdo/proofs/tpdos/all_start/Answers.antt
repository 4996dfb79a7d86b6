use Rattle.std.proofs.Common.{false, ◌∙◌, arith}
use Rattle.co_pdo.specs.Schedules.{with_whole_start}
use Rattle.co_pdo.proofs.Lists.{rest_set, numbers_set, placed_here, below_here, started, done_set, done_to_the_end}
use Rattle.co_pdo.proofs.tpdos.all_start.Goals as goal

pub loop-i-preserved : goal.loop-i-preserved
loop-i-preserved g c =
    let i = c.loop-i.invariant in
    record {
      numbers = numbers_set c.loop-i.tpdos c.loop-i.i c.start.new.self _ c.start.ensures.number ∙ i.numbers;
      rest = rest_set c.args.tpdos.now c.loop-i.tpdos _ _ i.rest;
      done = λ logs placed all. done_set c.args.tpdos.now c.loop-i.tpdos c.loop-i.i _ c.loop-i-test.true i.rest (λ k. false) _ c.start.new.self false c.loop-i.auto.tpdos
          (started c.args.tpdos.now c.loop-i.tpdos c.loop-i.i _ c.loop-i-test.true i.rest (g.S.ObjectStore.contents c.args.store.now) logs c.start.new.self c.start.ensures.number all c.settings-settings.result (c.settings-settings.ensures _ (below_here c.args.tpdos.now c.loop-i.tpdos c.loop-i.i _ c.loop-i-test.true i.rest c.requires.table.small) (placed_here c.args.tpdos.now c.loop-i.tpdos c.loop-i.i _ c.loop-i-test.true i.rest (g.S.ObjectStore.description c.args.store.now) c.args.places.now _ placed)) (c.start.ensures.after))
          (i.done logs placed all);
    }

pub returns-clause-after : goal.returns-clause-after
returns-clause-after g c = λ logs placed all.
    done_to_the_end c.args.tpdos.now c.loop-i.tpdos c.loop-i.i (with_whole_start (g.S.ObjectStore.contents c.args.store.now) logs) c.loop-i.auto.tpdos (omega arith) c.loop-i.invariant.numbers (c.loop-i.invariant.done logs placed all)
