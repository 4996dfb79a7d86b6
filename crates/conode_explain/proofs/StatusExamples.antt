-- The exit status of each outcome, evaluated.
use Rattle.std.proofs.Common.{◌≡◌, [], ◌∷◌, map, Ok, Err, refl}
use Rattle.conode_io.specs.declared.fault.CmdFault.TheVariants.{Read, Write, BadLine, Memory, NeverEnds}
use Rattle.std.specs.Prelude.{◌++◌, codes}
use Rattle.conode_convert.specs.Converted.{at_start}
use Rattle.conode_logs.proofs.OnLines.{logs_on_lines}
use Rattle.conode_logs.specs.declared.log.Form.TheVariants.{Candump}
use Rattle.conode_explain.specs.Explained.{bad_count, bad_from}
use Rattle.conode_explain.specs.ExitStatus.{explain_status}
use Rattle.conode_explain.specs.LogLines.{line_at}

-- all is written: no line is bad, one is, and many are
by_bad_lines : map (λ bad. explain_status (Ok bad)) (0 ∷ 1 ∷ 2 ∷ 300 ∷ []) ≡ 0 ∷ 1 ∷ 1 ∷ 1 ∷ []
by_bad_lines = refl

-- it stopped early; `BadLine`: the recording is a data sheet
by_faults : map (λ fault. explain_status (Err fault)) (Read ∷ Write ∷ BadLine 0 ∷ Memory ∷ NeverEnds ∷ []) ≡ 1 ∷ 1 ∷ 1 ∷ 1 ∷ 1 ∷ []
by_faults = refl

-- of texts: no line, a last line that may be cut off, the same with its line feed, and a good line after it
by_text : map (λ text. explain_status (Ok (bad_count (at_start Candump) text))) ([] ∷ codes "x" ∷ (codes "x" ++ 10 ∷ []) ∷ (codes "(1.500000) can0 705#05" ++ 10 ∷ []) ∷ (codes "x" ++ 10 ∷ codes "(1.500000) can0 705#05" ++ 10 ∷ []) ∷ []) ≡ 0 ∷ 0 ∷ 1 ∷ 0 ∷ 1 ∷ []
unfolding logs_on_lines bad_from line_at
by_text = refl
