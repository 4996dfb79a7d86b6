use Rattle.std.proofs.Common.{◌≡◌, drop}
use Rattle.std.specs.Prelude.{find}
use Rattle.co_sheet_text.specs.Text.{same_name}
use Rattle.conode_lint_text.proofs.type_names.code_among.Given as goal

-- what is found in the rest is found in all
abbrev pub invariant-loop-row : goal.invariant-loop-row
invariant-loop-row l = find (λ r. same_name l.name r.0.now) (drop l.row-index l.names) ≡ find (λ r. same_name l.name r.0.now) l.names
