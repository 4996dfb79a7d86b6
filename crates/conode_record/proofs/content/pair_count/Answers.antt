use Rattle.std.proofs.Common.{◌≡◌, ℕ, ◌+◌, List, length, sym, ap, ◌∙◌, arith}
use Rattle.co_text.specs.HexPairs.{pairs_at}
use Rattle.co_text.proofs.Pairs.{pairs_begin, pairs_left}
use Rattle.conode_record.proofs.content.pair_count.Goals as goal

pub loop-after-preserved : goal.loop-after-preserved
loop-after-preserved c =
    let rest = c.loop-after.rest.now in
    let after = c.in-Some.after.now in
    let begun = pairs_begin rest c.in-Some.field-0-0 after (sym c.in-Some.ensures.exact) in
    let longer : length (pairs_at rest).0 ≡ length (pairs_at after).0 + 1 = ap (λ (pairs : List ℕ × List ℕ). length pairs.0) begun ∙ omega arith in
    let invariant = c.loop-after.invariant in
    record {
      count = omega (arith, longer, invariant.count);
      left = sym (pairs_left rest c.in-Some.field-0-0 after (sym c.in-Some.ensures.exact)) ∙ invariant.left;
      within = omega (arith, c.in-Some.ensures.shorter, invariant.within);
    }
