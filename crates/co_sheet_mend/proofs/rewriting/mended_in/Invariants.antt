use Rattle.std.proofs.Common.{◌≡◌}
use Rattle.co_sheet_mend.specs.ReadableTexts.{mended_in}
use Rattle.co_sheet_mend.proofs.rewriting.mended_in.Given as goal

-- the rounds that are left
abbrev pub invariant-loop-rounds : goal.invariant-loop-rounds
invariant-loop-rounds l = mended_in l.rounds l.before.items ≡ mended_in 8 l.fn.text.items

abbrev pub decreases-loop-rounds : goal.decreases-loop-rounds
decreases-loop-rounds l = l.rounds
