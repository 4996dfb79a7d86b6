use Rattle.std.proofs.Common.{◌≡◌, length}
use Rattle.co_sheet_adapt.specs.Pieces.{stripped}
use Rattle.co_sheet_adapt.proofs.pieces.stripped.Given as goal

-- what the rest gives is what all give
abbrev pub invariant-loop-first : goal.invariant-loop-first
invariant-loop-first l = stripped l.rest ≡ stripped l.digits

abbrev pub decreases-loop-first : goal.decreases-loop-first
decreases-loop-first l = length l.rest
