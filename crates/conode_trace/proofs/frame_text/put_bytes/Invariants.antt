use Rattle.std.proofs.Common.{◌≡◌, ◌+◌, ◌*◌, ◌++◌, take, length}
use Rattle.std.specs.List.{flat_map}
use Rattle.co_text.specs.Printed.{byte_text}
use Rattle.conode_trace.proofs.frame_text.put_bytes.Given as goal

abbrev pub invariant-loop-byte : goal.invariant-loop-byte
invariant-loop-byte l = record {
  items : l.line.items ≡ l.fn.line.items ++ flat_map byte_text (take l.byte-index l.bytes);
  len : length l.line.items ≡ length l.fn.line.items + 2 * l.byte-index;
}
