use Rattle.std.proofs.Common.{◌≡◌, drop, map}
use Rattle.std.specs.Option.{option_or}
use Rattle.co_sheet_adapt.specs.Named.{text_in_body}
use Rattle.co_sheet_adapt.specs.private.Named.{texts_at}
use Rattle.co_sheet_changes.specs.Views.{line_view}
use Rattle.co_sheet_adapt.proofs.named.Texts.add_named.Given as goal

-- what there is so far, and what the rest of the lines give
abbrev pub invariant-loop-line : goal.invariant-loop-line
invariant-loop-line l = (k : _) → option_or (texts_at l.self k) (text_in_body l.index k (map line_view (drop l.line-index l.line-items))) ≡ option_or (texts_at l.fn.self k) (text_in_body l.index k (map line_view l.line-items))
