-- The bits before the head change nothing.
use Rattle.std.proofs.Common.{◌+◌, subst, arith}
use Rattle.conode_stats_counts.specs.declared.wire.Wire.{Wire}
use Rattle.conode_stats_counts.specs.Bits.{bits_of}
use Rattle.conode_stats_counts.specs.Wires.{Sends}
use Rattle.conode_stats_counts.proofs.Eights.{extended_dominant, extended_recessive}
use Rattle.conode_stats_counts.proofs.wire.extended_start.Goals as goal

pub returns-then-upper-lt64-clause-after : goal.returns-then-upper-lt64-clause-after
returns-then-upper-lt64-clause-after c =
    extended_dominant c.with_byte.result c.args.upper (omega arith)
    (subst (λ (w : Wire). Sends w (bits_of 8 (0x80 + c.args.upper)) c.with_byte.result) c.before-then-upper-lt64.ensures c.with_byte.ensures.sends)

pub returns-else-upper-lt64-clause-after : goal.returns-else-upper-lt64-clause-after
returns-else-upper-lt64-clause-after c =
    extended_recessive c.with_byte-else-upper-lt64.result c.args.upper (omega arith) c.requires
    (subst (λ (w : Wire). Sends w (bits_of 8 (c.args.upper)) c.with_byte-else-upper-lt64.result) c.before-else-upper-lt64.ensures c.with_byte-else-upper-lt64.ensures.sends)
