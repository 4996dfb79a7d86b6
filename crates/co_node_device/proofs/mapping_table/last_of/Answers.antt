use Rattle.std.proofs.Common.{◌≡◌, sym, ap, ◌∙◌, arith}
use Rattle.co_profile.specs.PdoNumbers.{count_to}
use Rattle.co_pdo.specs.Mappings.{has_pdo}
use Rattle.co_node_device.proofs.Tables.{covers_more}
use Rattle.co_node_device.proofs.mapping_table.last_of.Goals as goal
use Rattle.co_node_device.proofs.mapping_table.last_of.Goals.{then-has_pdo, else-has_pdo}

pub loop-k-preserved : goal.loop-k-preserved
loop-k-preserved g c = let i = c.loop-k.invariant in
    let has = has_pdo c.args.side (g.S.ObjectStore.description c.args.store.now).rows in
    elim c.if-has_pdo.branch [
      | then-has_pdo w ↦ rw w.last-is (record {
        covers = λ j below there. omega (arith, below, c.of-number.ensures);
        last = λ j at. let same : j ≡ c.of-number.result = omega (arith, at) in ap has same ∙ sym c.has_pdo.ensures ∙ w.if-has_pdo.true;
      })
      | else-has_pdo w ↦ rw w.last-is (record {
        covers = covers_more has c.loop-k.k (count_to c.loop-k.last) i.covers
            (ap has (sym c.of-number.ensures) ∙ sym c.has_pdo.ensures ∙ w.if-has_pdo.false);
        last = i.last;
      })
    ]

pub returns : goal.returns
returns g c = record {
  all = λ k less there. c.loop-k.invariant.covers k (omega arith) there;
  last = c.loop-k.invariant.last;
}
