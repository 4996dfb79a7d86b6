use Rattle.std.proofs.Common.{arith, ◌<◌, refl}
use Rattle.conode_stats_counts.proofs.Eights.{byte_sent}
use Rattle.conode_stats_counts.proofs.wire.Wire.with_byte.Goals as goal

pub returns-clause-sends : goal.returns-clause-sends
returns-clause-sends c =
    let small : c.args.byte < 256 = omega arith in
    byte_sent c.args.self _ c.args.byte c.requires.run small c.crc_with_byte-crc.ensures refl refl
