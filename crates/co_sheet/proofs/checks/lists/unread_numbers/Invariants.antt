use Rattle.std.proofs.Common.{◌≡◌, drop}
use Rattle.std.specs.Prelude.{flat_map}
use Rattle.co_sheet_text.specs.Views.{property_view}
use Rattle.co_sheet.specs.Accepted.{least_fault}
use Rattle.co_sheet.specs.Checks.{unread_number}
use Rattle.co_sheet.specs.private.LeastFaults.{earlier}
use Rattle.co_sheet.proofs.checks.lists.unread_numbers.Given as goal

-- the smallest so far and that of the rest are the smallest of all
abbrev pub invariant-loop-given : goal.invariant-loop-given
invariant-loop-given l =
    earlier l.least (least_fault (flat_map (λ k. unread_number (property_view k)) (drop l.given-index l.given-items))) ≡ least_fault (flat_map (λ k. unread_number (property_view k)) l.given-items)
