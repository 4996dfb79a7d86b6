use Rattle.std.proofs.Common.{◌≡◌, ◌+◌, ◌≤◌, false, None}
use Rattle.co_stream.specs.Readings.{Gave, most_bytes, to_come}
use Rattle.co_sheet_changes.specs.Names.{names_view}
use Rattle.conode_decode.proofs.Decoding.{HasDecoded}
use Rattle.conode_decode.proofs.decoded_trace.decode_all.Given as goal

abbrev pub invariant-trace : goal.invariant-trace
invariant-trace g l = record {
  decoded : Gave false l.lines.ended (g.R.Read.remaining l.fn.reader) (g.R.Read.remaining l.reader)
      (λ had has. HasDecoded (names_view l.names) had (to_come l.lines has) l.progress (g.W.Write.contents l.fn.writer) (g.W.Write.contents l.writer));
  fault : l.lines.fault ≡ None;
  few : l.progress.number + most_bytes l.lines.asks l.lines.rest ≤ 8589934592;
}

abbrev pub decreases-trace : goal.decreases-trace
decreases-trace g l = most_bytes l.lines.asks l.lines.rest
