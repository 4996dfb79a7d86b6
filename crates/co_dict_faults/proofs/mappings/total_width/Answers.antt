use Rattle.std.proofs.Common.{◌+◌, ◌∷◌, min, arith, sym, ap, ◌∙◌}
use Rattle.std.specs.Prelude.{unwrap_or}
use Rattle.co_dict.specs.Rows.{number_at}
use Rattle.co_dict.specs.MappingWords.{word_width}
use Rattle.co_dict.specs.MappingCounts.{total_width}
use Rattle.co_dict.proofs.CountLemmas.{words_left, next_word}
use Rattle.co_dict_faults.proofs.MappingLemmas.{width_added, width_end}
use Rattle.co_dict_faults.proofs.mappings.total_width.Goals as goal

pub loop-earlier-preserved : goal.loop-earlier-preserved
loop-earlier-preserved g c =
    let d = g.S.ObjectStore.description c.args.store.now in
    let contents = g.S.ObjectStore.contents c.args.store.now in
    let count = min c.args.count 64 in
    let i = c.loop-earlier.earlier in
    let rest = words_left contents c.args.index count (i + 1) in
    record {
      whole = ap (λ width. c.loop-earlier.total + width + total_width c.args.side d rest) (c.from-total.ensures ∙ c.width_of_word.ensures.value)
          ∙ width_added (λ w. unwrap_or (word_width c.args.side d w) 0) c.mapping_word-word.result.0 c.loop-earlier.total _ _ _
          (next_word contents c.args.index count i (omega (arith, c.loop-earlier-test.true, c.min-earlier-end.ensures)) ∙ ap (λ w. w ∷ rest) (sym c.mapping_word-word.ensures))
          c.loop-earlier.invariant.whole;
      small = omega (arith, c.loop-earlier.invariant.small, c.width_of_word.ensures.small, c.from-total.ensures);
      few = omega (arith, c.loop-earlier-test.true, c.min-earlier-end.ensures);
    }

pub returns-clause-value : goal.returns-clause-value
returns-clause-value g c =
    let d = g.S.ObjectStore.description c.args.store.now in
    let contents = g.S.ObjectStore.contents c.args.store.now in
    width_end (λ w. unwrap_or (word_width c.args.side d w) 0) (λ sub. number_at contents (record { index = c.args.index; sub = sub })) c.loop-earlier.total _
    c.loop-earlier.earlier (min c.args.count 64) (omega (arith, c.loop-earlier-test.false, c.min-earlier-end.ensures)) c.loop-earlier.invariant.whole
