use Rattle.std.proofs.Common.{Some, ap, ◌∙◌, arith}
use Rattle.co_dict.proofs.CountLemmas.{bad_word, passed_next, total_next}
use Rattle.co_dict.proofs.pdo_rules.check_count.Goals as goal

pub returns-in-None : goal.returns-in-None
returns-in-None g c = bad_word c.args.side (g.S.ObjectStore.description c.args.store.now) (g.S.ObjectStore.contents c.args.store.now) c.args.index c.args.count c.loop-earlier.earlier c.mapping_word.result.0 (omega (arith, c.if-count-subs_present.false, c.subs_present.ensures.value)) c.loop-earlier-test.true c.mapping_word.ensures c.in-None.ensures.value c.loop-earlier.invariant.passed

pub loop-earlier-preserved : goal.loop-earlier-preserved
loop-earlier-preserved g c = record {
  passed = passed_next c.args.side (g.S.ObjectStore.description c.args.store.now) (g.S.ObjectStore.contents c.args.store.now) c.args.index c.args.count c.loop-earlier.earlier c.mapping_word.result.0 c.in-Some.width c.loop-earlier-test.true c.mapping_word.ensures c.in-Some.ensures.value c.loop-earlier.invariant.passed;
  total = total_next c.args.side (g.S.ObjectStore.description c.args.store.now) (g.S.ObjectStore.contents c.args.store.now) c.args.index c.args.count c.loop-earlier.earlier c.mapping_word.result.0 c.from-total.result c.loop-earlier.total c.loop-earlier-test.true c.mapping_word.ensures (ap Some c.from-total.ensures ∙ c.in-Some.ensures.value) c.loop-earlier.invariant.total;
  few = omega (arith, c.loop-earlier.invariant.few, c.in-Some.ensures.small, c.from-total.ensures);
}
