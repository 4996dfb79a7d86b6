use Rattle.std.proofs.Common.{◌≡◌, ◌+◌, ◌*◌, ◌≤◌, false, None}
use Rattle.co_stream.specs.Readings.{Gave, most_bytes, to_come}
use Rattle.conode_device.specs.Counts.{room_taken}
use Rattle.conode_device.proofs.Replaying.{HasReplayed}
use Rattle.conode_device.proofs.replayed_trace.replay_lines.Given as goal

abbrev pub invariant-trace : goal.invariant-trace
invariant-trace g l = record {
  replayed : Gave false l.lines.ended (g.R.Read.remaining l.fn.reader) (g.R.Read.remaining l.reader)
      (λ had has. HasReplayed l.fn.node had (to_come l.lines has) l.progress (g.W.Write.contents l.fn.writer) (g.W.Write.contents l.writer) l.node l.totals);
  fault : l.lines.fault ≡ None;
  few : l.progress.number + most_bytes l.lines.asks l.lines.rest ≤ 8589934592;
  room : room_taken l.totals ≤ 1 + 17592186044416 * l.progress.number;
}

abbrev pub decreases-trace : goal.decreases-trace
decreases-trace g l = most_bytes l.lines.asks l.lines.rest
