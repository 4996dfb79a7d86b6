use Rattle.std.proofs.Common.{rules, ◌≡◌, true, false, Err, sym, ◌∙◌, arith}
use Rattle.std.proofs.lemmas.Result.{err_from_is_err_and}
use Rattle.co_node_model.specs.Loop.{goes_on, rounds}
use Rattle.conode_device.proofs.AllRounds.{all_made, ends_next, no_lines_yet, no_rounds, one_more}
use Rattle.conode_device.proofs.RoundLemmas.{are_over}
use Rattle.conode_device.proofs.Writings.{rounds_failed, rounds_over}
use Rattle.conode_device.proofs.rounds.all_rounds.Goals as goal

pub loop-done-init : goal.loop-done-init
loop-done-init g c = record {
  most = c.most_rounds-most.ensures;
  within = omega arith;
  ends = λ lp e st. no_rounds lp e c.args.node.now c.args.client.now c.args.waiting.now.items st;
  written = λ lp e st. no_lines_yet (g.W.Write.contents c.args.writer.now) lp e;
}

pub loop-done-preserved : goal.loop-done-preserved
loop-done-preserved g c =
    let inv = c.loop-done.invariant in
    let n = c.loop-done.done in
    let on : c.goes_on.result ≡ true = search rules in
    record {
      most = inv.most;
      within = omega (arith, inv.most, inv.within);
      ends = λ lp e st.
          let now = inv.ends lp e st in
          let goes : goes_on lp (rounds n lp e) ≡ true = sym (c.goes_on.ensures lp (rounds n lp e) now.client_stands (c.deref.ensures.value ∙ now.same_waiting)) ∙ on in
          ends_next n lp e c.round.new.node c.round.new.client c.round.new.waiting.items goes (c.in_ok-round.ensures.made lp (rounds n lp e) now).ends;
      written = λ lp e st.
          let now = inv.ends lp e st in
          let goes : goes_on lp (rounds n lp e) ≡ true = sym (c.goes_on.ensures lp (rounds n lp e) now.client_stands (c.deref.ensures.value ∙ now.same_waiting)) ∙ on in
          one_more (g.W.Write.contents c.args.writer.now) (g.W.Write.contents c.loop-done.writer) (g.W.Write.contents c.round.new.writer) n lp e goes (inv.written lp e st) (c.in_ok-round.ensures.made lp (rounds n lp e) now).written;
    }

pub returns-in_err-round-clause-made : goal.returns-in_err-round-clause-made
returns-in_err-round-clause-made g c = λ lp e st.
    let inv = c.loop-done.invariant in
    let n = c.loop-done.done in
    let on : c.goes_on.result ≡ true = search rules in
    let now = inv.ends lp e st in
    let goes : goes_on lp (rounds n lp e) ≡ true = sym (c.goes_on.ensures lp (rounds n lp e) now.client_stands (c.deref.ensures.value ∙ now.same_waiting)) ∙ on in
    let passed = err_from_is_err_and c.from_residual.result c.from_residual.ensures.1 in
    let is : c.from_residual.result ≡ Err c.in_err-round.field-0.0 = cc (passed.1, passed.2) in
    rounds_failed n lp e c.round.new.node c.round.new.client c.round.new.waiting.items (g.W.Write.contents c.args.writer.now) (g.W.Write.contents c.loop-done.writer) (g.W.Write.contents c.round.new.writer) c.from_residual.result c.in_err-round.field-0.0
    (omega (arith, inv.most, inv.within)) goes is (inv.written lp e st) (c.in_err-round.ensures.made lp (rounds n lp e) now)

pub returns-clause-made : goal.returns-clause-made
returns-clause-made g c = λ lp e st.
    let inv = c.loop-done.invariant in
    let n = c.loop-done.done in
    rounds_over n lp e c.loop-done.node c.loop-done.client c.loop-done.waiting.items (g.W.Write.contents c.args.writer.now) (g.W.Write.contents c.loop-done.writer) tt inv.within (all_made n lp e inv.within (omega (arith, inv.most))) (inv.ends lp e st) (inv.written lp e st)

pub returns-then-not-goes_on-clause-made : goal.returns-then-not-goes_on-clause-made
returns-then-not-goes_on-clause-made g c = λ lp e st.
    let inv = c.loop-done.invariant in
    let n = c.loop-done.done in
    let off : c.goes_on.result ≡ false = search rules in
    let now = inv.ends lp e st in
    let stops : goes_on lp (rounds n lp e) ≡ false = sym (c.goes_on.ensures lp (rounds n lp e) now.client_stands (c.deref.ensures.value ∙ now.same_waiting)) ∙ off in
    rounds_over n lp e c.loop-done.node c.loop-done.client c.loop-done.waiting.items (g.W.Write.contents c.args.writer.now) (g.W.Write.contents c.loop-done.writer) tt inv.within (are_over n 20000 lp e inv.within stops) now (inv.written lp e st)
