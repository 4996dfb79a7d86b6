use Rattle.std.proofs.Common.{◌≡◌, ◌+◌, ◌*◌, ◌++◌, take, length}
use Rattle.std.specs.List.{flat_map}
use Rattle.conode_explain_text.specs.Columns.{blank_byte}
use Rattle.conode_explain_text.proofs.pieces.put_each.Given as goal

abbrev pub invariant-loop-byte : goal.invariant-loop-byte
invariant-loop-byte l = record {
  items : l.piece.items ≡ l.fn.piece.items ++ flat_map blank_byte (take l.byte-index l.bytes);
  len : length l.piece.items ≡ length l.fn.piece.items + 3 * l.byte-index;
}
