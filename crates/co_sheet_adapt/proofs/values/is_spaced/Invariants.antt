use Rattle.std.proofs.Common.{◌≡◌, length}
use Rattle.co_sheet_adapt.specs.Values.{is_spaced}
use Rattle.co_sheet_adapt.proofs.values.is_spaced.Given as goal

-- what the rest is, all is
abbrev pub invariant-loop-next : goal.invariant-loop-next
invariant-loop-next l = is_spaced l.rest ≡ is_spaced l.text

abbrev pub decreases-loop-next : goal.decreases-loop-next
decreases-loop-next l = length l.rest
