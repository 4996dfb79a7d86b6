use Rattle.std.proofs.Common.{◌≡◌, drop, map}
use Rattle.std.specs.Option.{option_or}
use Rattle.co_sheet_adapt.specs.Named.{text_in_groups}
use Rattle.co_sheet_adapt.specs.private.Named.{texts_at}
use Rattle.co_sheet_changes.specs.Views.{group_view}
use Rattle.co_sheet_adapt.proofs.named.Texts.of.Given as goal

-- what there is so far, and what the rest of the sections give
abbrev pub invariant-loop-group : goal.invariant-loop-group
invariant-loop-group l = (k : _) → option_or (texts_at l.texts k) (text_in_groups l.word k (map group_view (drop l.group-index l.groups))) ≡ text_in_groups l.word k (map group_view l.groups)
