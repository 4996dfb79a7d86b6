use Rattle.std.proofs.Common.{◌+◌, ap, map}
use Rattle.co_sheet_text_warnings.specs.Views.{key_view}
use Rattle.co_sheet_text_warnings.proofs.KeyLemmas.{keys-end, keys-turn}
use Rattle.co_sheet_text_warnings.proofs.keys.keys_in.Goals as goal

pub loop-line-preserved : goal.loop-line-preserved
loop-line-preserved c = record {
  found = keys-turn c.args.lines.now c.loop-line.line-index _ c.loop-line.topic _ c.loop-line.number _ (map key_view c.loop-line.keys.items) (map key_view c.add_telling.new.keys.items) _ c.loop-line-test.true
      c.text_read-text.ensures c.in-Ok.ensures c.topic_after-topic.ensures c.loop-line.invariant.found;
  next = ap (λ n. n + 1) c.loop-line.invariant.next;
}

pub returns : goal.returns
returns c = keys-end c.args.lines.now c.loop-line.line-index c.loop-line.topic c.loop-line.number _ _ c.loop-line-test.false c.loop-line.invariant.found
