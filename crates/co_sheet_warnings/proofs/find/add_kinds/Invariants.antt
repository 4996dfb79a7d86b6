use Rattle.std.proofs.Common.{◌≡◌, ◌++◌, drop}
use Rattle.co_sheet_warnings.specs.Warnings.{warnings_of_kinds}
use Rattle.co_sheet_warnings.proofs.find.add_kinds.Given as goal

-- those so far, and after them those of the rest
abbrev pub invariant-loop-kind : goal.invariant-loop-kind
invariant-loop-kind l = l.warnings.items ++ warnings_of_kinds l.text (drop l.kind-index l.kinds) ≡ l.initial.warnings.items ++ warnings_of_kinds l.text l.kinds
