-- The head in two parts, and the data.
use Rattle.std.proofs.Common.{◌∙◌, ◌+◌, ap, ℕ, arith}
use Rattle.conode_stats_counts.proofs.Sent.{headed, headed_length}
use Rattle.conode_stats_counts.proofs.size.base_size.Goals as goal

pub returns : goal.returns
returns c =
    let bytes = c.args.bytes.now in
    let start = c.base_start-start.result in
    let all = headed start _ c.with_bytes-wire.result 3 16 _ bytes c.base_start-start.ensures.after c.with_number.ensures.sends c.with_bytes-wire.ensures.sends in
    let long = headed_length 19 _ bytes in
    c.size_after.ensures _ all (ap (λ (n : ℕ). n + 15) long ∙ omega arith)
