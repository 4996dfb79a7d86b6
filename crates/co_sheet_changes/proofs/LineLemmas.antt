-- Lines as a loop numbers them.
use Rattle.std.proofs.Common.{ℕ, List, map}
use Rattle.std.specs.List.{enumerate_from}
use Rattle.co_sheet_text.specs.Text.{Line}

-- lines, numbered from here
abbrev pub numbered : ℕ → List (List ℕ) → List Line
numbered n ls = map (λ l. record { number = l.0; bytes = l.1 }) (enumerate_from n ls)
