use Rattle.std.proofs.Common.{◌≡◌, drop, map}
use Rattle.std.specs.Option.{option_or}
use Rattle.co_sheet_adapt.specs.Named.{own_in_groups}
use Rattle.co_sheet_adapt.specs.private.Named.{texts_at}
use Rattle.co_sheet_changes.specs.Views.{group_view}
use Rattle.co_sheet_adapt.proofs.named.Texts.sections.Given as goal

-- what there is so far, and what the rest of the sections give
abbrev pub invariant-loop-group : goal.invariant-loop-group
invariant-loop-group l = (k : _) → option_or (texts_at l.texts k) (own_in_groups k (map group_view (drop l.group-index l.groups))) ≡ own_in_groups k (map group_view l.groups)
