-- The head, the rows, and the end.
use Rattle.std.proofs.Common.{◌≡◌, ◌==◌, true, false, length, take_all, arith}
use Rattle.std.proofs.lemmas.Bool.Decides.{nat_tests}
use Rattle.conode_compare_documents.specs.Coverage.{numbered_item, numbers_text}
use Rattle.conode_json.proofs.Appending.{both, nothing, one_more}
use Rattle.conode_compare_documents.proofs.coverage.push_numbers.Goals as goal

pub loop-numbered-init : goal.loop-numbered-init
loop-numbered-init c = nothing _

pub loop-numbered-preserved : goal.loop-numbered-preserved
loop-numbered-preserved c = one_more (numbered_item c.args.listed) c.args.numbers.now c.loop-numbered.numbered-index _ c.loop-numbered-test.true c.loop-numbered.invariant c.push_numbered.ensures

pub returns : goal.returns
unfolding numbers_text
returns c =
    let other : (length c.args.numbers.now == 0) ≡ false = grind (arith, nat_tests) in
    rw other (both (both c.put_words-2.ensures (rw (take_all c.loop-numbered.numbered-index c.args.numbers.now c.loop-numbered-test.false) at c.loop-numbered.invariant)) c.put_words-3.ensures)

pub returns-then-is_empty : goal.returns-then-is_empty
unfolding numbers_text
returns-then-is_empty c = let none : (length c.args.numbers.now == 0) ≡ true = grind (arith, nat_tests) in rw none c.put_words.ensures
