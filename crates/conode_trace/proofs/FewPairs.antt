-- At most eight pairs of digits.
use Rattle.std.proofs.Common.{◌≡◌, ℕ, ◌≤◌, List, Some, None, length, arith}
use Rattle.std.proofs.lemmas.Bool.Decides.{nat_tests}
use Rattle.co_text.specs.HexPairs.{pair_at}
use Rattle.co_text.proofs.Pairs.{AreRead, read_all}
use Rattle.conode_trace.specs.FrameLines.{few_pairs_at}

pub few_all : (text bytes rest : List ℕ) → AreRead text bytes rest → pair_at rest ≡ None → length bytes ≤ 8 → Some (bytes, rest) ≡ few_pairs_at text
few_all text bytes rest h e few = rw (read_all text bytes rest h e) (grind (arith, nat_tests))
