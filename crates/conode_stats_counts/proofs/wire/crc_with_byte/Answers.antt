use Rattle.std.proofs.Common.{arith, ◌<◌}
use Rattle.conode_stats_counts.proofs.Eights.{crc_byte}
use Rattle.conode_stats_counts.proofs.wire.crc_with_byte.Goals as goal

pub returns : goal.returns
returns c =
    let short : c.args.crc < 0x10000 = omega arith in
    let small : c.args.byte < 256 = omega arith in
    crc_byte c.args.crc c.args.byte short small
