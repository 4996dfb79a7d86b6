use Rattle.std.proofs.Common.{◌≡◌, ◌++◌, drop}
use Rattle.std.specs.Prelude.{option_to_list}
use Rattle.std.specs.List.{flat_map}
use Rattle.co_sheet_text_warnings.specs.Places.{warnings_at}
use Rattle.co_sheet_text_warnings.proofs.places.add_each.Given as goal

-- those so far, and after them those of the rest
abbrev pub invariant-loop-line : goal.invariant-loop-line
invariant-loop-line l = l.warnings.items ++ warnings_at l.kind (flat_map option_to_list (drop l.line-index l.found)) ≡ l.initial.warnings.items ++ warnings_at l.kind (flat_map option_to_list l.found)
