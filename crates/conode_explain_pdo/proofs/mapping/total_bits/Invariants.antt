use Rattle.std.proofs.Common.{◌≡◌, ◌+◌, ◌*◌, ◌≤◌, drop}
use Rattle.conode_explain_pdo.specs.Mappings.{total_bits}
use Rattle.conode_explain_pdo.proofs.mapping.total_bits.Given as goal

-- those so far, and those of the rest
abbrev pub invariant-loop-word : goal.invariant-loop-word
invariant-loop-word l =
    (l.total + total_bits (drop l.word-index l.words) ≡ total_bits l.words) × (l.total ≤ 255 * l.word-index)
