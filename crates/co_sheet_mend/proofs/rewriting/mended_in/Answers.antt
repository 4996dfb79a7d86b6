use Rattle.std.proofs.Common.{◌≡◌, true, false, sym, ap, ◌∙◌, arith}
use Rattle.co_sheet_mend.specs.ReadableTexts.{is_accepted, mended}
use Rattle.co_sheet_mend.proofs.RoundLemmas.{no_round, too_large, accepted, refused}
use Rattle.co_sheet_mend.proofs.rewriting.mended_in.Goals as goal

pub returns-then-len-gt-GREATEST_SIZE : goal.returns-then-len-gt-GREATEST_SIZE
returns-then-len-gt-GREATEST_SIZE c =
    let before = c.loop-rounds.before.items in
    sym (too_large c.loop-rounds.rounds before (omega arith) (omega arith)) ∙ c.loop-rounds.invariant

pub returns-then-branch : goal.returns-then-branch
returns-then-branch c =
    let before = c.loop-rounds.before.items in
    let after = c.in_ok-after.after.items in
    let made : after ≡ mended before = c.in_ok-after.ensures ∙ ap mended c.as_slice.ensures.value in
    let is : is_accepted after ≡ true = rw c.as_slice-in-loop-rounds.ensures.value at (sym c.in_ok-is_accepted.ensures ∙ c.if-branch.true) in
    sym (accepted c.loop-rounds.rounds before (omega arith) (omega arith) after made is) ∙ c.loop-rounds.invariant

pub loop-rounds-preserved : goal.loop-rounds-preserved
loop-rounds-preserved c =
    let before = c.loop-rounds.before.items in
    let after = c.in_ok-after.after.items in
    let made : after ≡ mended before = c.in_ok-after.ensures ∙ ap mended c.as_slice.ensures.value in
    let fails : is_accepted after ≡ false = rw c.as_slice-in-loop-rounds.ensures.value at (sym c.in_ok-is_accepted.ensures ∙ c.if-branch.false) in
    sym (refused c.loop-rounds.rounds before (omega arith) (omega arith) after made fails) ∙ c.loop-rounds.invariant

pub returns : goal.returns
returns c = sym (no_round c.loop-rounds.rounds c.loop-rounds.before.items (omega arith)) ∙ c.loop-rounds.invariant
