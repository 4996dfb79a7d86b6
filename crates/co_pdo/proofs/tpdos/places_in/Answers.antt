use Rattle.std.proofs.Common.{ap, ◌∙◌, arith}
use Rattle.co_pdo.specs.declared.tpdo.Tpdo.{Tpdo}
use Rattle.co_pdo.specs.Tpdos.{places_of}
use Rattle.co_pdo.proofs.Built.{places_pushed, places_to_the_end}
use Rattle.co_pdo.proofs.tpdos.places_in.Goals as goal

pub loop-tpdo-preserved : goal.loop-tpdo-preserved
loop-tpdo-preserved g c =
    let i = c.loop-tpdo.invariant in
    record {
      room = c.push_reserved.ensures.capacity ∙ i.room;
      count = omega (arith, c.push_reserved.ensures.len, i.count);
      same = places_pushed (g.S.ObjectStore.description c.args.store.now) c.args.tpdos.now c.loop-tpdo.tpdo-index c.tpdo-item.result _ _ _ c.loop-tpdo-test.true i.same
          (c.of.ensures ∙ ap (λ (t : Tpdo). places_of (g.S.ObjectStore.description c.args.store.now) t.number) c.tpdo-item.is) c.push_reserved.ensures.items;
    }

pub returns : goal.returns
returns g c = places_to_the_end (g.S.ObjectStore.description c.args.store.now) c.args.tpdos.now c.loop-tpdo.tpdo-index c.loop-tpdo.places.items c.loop-tpdo-test.false c.loop-tpdo.invariant.same
