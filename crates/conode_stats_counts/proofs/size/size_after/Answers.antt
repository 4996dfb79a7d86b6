-- The bits are counted while they are sent.
use Rattle.std.proofs.Common.{ap, ℕ}
use Rattle.conode_stats_counts.specs.declared.size.Size.{Size}
use Rattle.conode_stats_counts.specs.Bits.{most_bits}
use Rattle.conode_stats_counts.proofs.Sent.{sent_all}
use Rattle.conode_stats_counts.proofs.size.size_after.Goals as goal

pub returns : goal.returns
returns c = λ bits all long.
    let wire = c.args.wire in
    let end = c.with_number-end.result in
    let size : ℕ → Size = λ n. record { bits = n; most = most_bits c.args.sent } in
    ap size (sent_all wire end bits c.args.sent all c.with_number-end.ensures.sends long)
