use Rattle.std.proofs.Common.{◌≡◌, length}
use Rattle.co_sheet_text.specs.Text.{trim_front}
use Rattle.co_sheet_text.proofs.text.trim_front.Given as goal

abbrev pub invariant-loop-first : goal.invariant-loop-first
invariant-loop-first l = trim_front l.rest ≡ trim_front l.text

abbrev pub decreases-loop-first : goal.decreases-loop-first
decreases-loop-first l = length l.rest
