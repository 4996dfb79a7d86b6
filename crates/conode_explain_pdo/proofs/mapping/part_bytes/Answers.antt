use Rattle.std.proofs.Common.{◌≡◌, ◌+◌, ◌/◌, ap, length, ◌∙◌, arith}
use Rattle.conode_explain_pdo.proofs.Parts.{low_length}
use Rattle.conode_explain_pdo.proofs.mapping.part_bytes.Goals as goal

pub returns-clause-count : goal.returns-clause-count
returns-clause-count c =
    let count : length c.low_bytes.result.items ≡ (c.args.bits + 7) / 8 = ap length c.low_bytes.ensures ∙ low_length 0 ((c.args.bits + 7) / 8) c.bits_from.result in
    (omega (arith, count), omega (arith, count))
