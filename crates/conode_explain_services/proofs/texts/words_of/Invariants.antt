use Rattle.std.proofs.Common.{◌≡◌, ◌==◌, drop}
use Rattle.std.specs.Prelude.{find}
use Rattle.conode_explain_services.proofs.texts.words_of.Given as goal

-- what is found in the rest is found in all
abbrev pub invariant-loop-row : goal.invariant-loop-row
invariant-loop-row l = find (λ row. row.0 == l.number) (drop l.row-index l.rows) ≡ find (λ row. row.0 == l.number) l.rows
