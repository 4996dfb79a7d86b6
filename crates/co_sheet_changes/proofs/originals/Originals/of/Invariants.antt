use Rattle.std.proofs.Common.{◌≡◌, drop, map}
use Rattle.std.specs.Option.{option_or}
use Rattle.co_sheet_changes.specs.Views.{group_view}
use Rattle.co_sheet_changes.specs.Originals.{original_among}
use Rattle.co_sheet_changes.specs.Views.{text_at}
use Rattle.co_sheet_changes.proofs.originals.Originals.of.Given as goal

-- what there is so far, and what the rest of the sections give
abbrev pub invariant-loop-group : goal.invariant-loop-group
invariant-loop-group l = (k : _) → option_or (text_at l.made k) (original_among k (map group_view (drop l.group-index l.groups))) ≡ original_among k (map group_view l.groups)
