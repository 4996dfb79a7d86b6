-- The exit status of each outcome, evaluated.
use Rattle.std.proofs.Common.{◌≡◌, ℕ, List, [], ◌∷◌, map, Result, Ok, Err, refl}
use Rattle.conode_io.specs.declared.fault.CmdFault.TheVariants.{Read, Write, BadLine, Memory, NeverEnds}
use Rattle.conode_stats.specs.ExitStatus.{stats_status}

-- the page is written: no line is bad, one is, and many are
by_bad_lines : map (λ bad. stats_status (Ok bad)) (0 ∷ 1 ∷ 2 ∷ 300 ∷ []) ≡ 0 ∷ 1 ∷ 1 ∷ 1 ∷ []
by_bad_lines = refl

-- it stopped early; `BadLine`: the recording is a data sheet
by_faults : map (λ fault. stats_status (Err fault)) (Read ∷ Write ∷ BadLine 0 ∷ Memory ∷ NeverEnds ∷ []) ≡ 1 ∷ 1 ∷ 1 ∷ 1 ∷ 1 ∷ []
by_faults = refl
