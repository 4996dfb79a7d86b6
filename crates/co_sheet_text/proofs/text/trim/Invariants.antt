use Rattle.std.proofs.Common.{◌≡◌, length}
use Rattle.std.specs.Prelude.{reverse}
use Rattle.co_sheet_text.specs.Text.{trim_front}
use Rattle.co_sheet_text.proofs.text.trim.Given as goal

abbrev pub invariant-loop-last : goal.invariant-loop-last
invariant-loop-last l = trim_front (reverse l.rest) ≡ trim_front (reverse (trim_front l.text))

abbrev pub decreases-loop-last : goal.decreases-loop-last
decreases-loop-last l = length l.rest
