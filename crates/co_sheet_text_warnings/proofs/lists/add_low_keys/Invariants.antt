use Rattle.std.proofs.Common.{◌≡◌, ◌++◌, drop, map}
use Rattle.std.specs.List.{filter_map}
use Rattle.co_sheet_text.specs.Views.{property_view}
use Rattle.co_sheet_text_warnings.specs.Lists.{low_listing}
use Rattle.co_sheet_text_warnings.specs.Places.{warnings_at}
use Rattle.co_sheet_text_warnings.proofs.lists.add_low_keys.Given as goal

-- those so far, and after them those of the rest
abbrev pub invariant-loop-given : goal.invariant-loop-given
invariant-loop-given l = l.warnings.items ++ warnings_at l.kind (filter_map (low_listing l.count) (map property_view (drop l.given-index l.properties))) ≡ l.initial.warnings.items ++ warnings_at l.kind (filter_map (low_listing l.count) (map property_view l.properties))
