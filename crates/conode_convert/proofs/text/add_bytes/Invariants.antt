use Rattle.std.proofs.Common.{◌≡◌, ◌++◌, take}
use Rattle.std.specs.List.{flat_map}
use Rattle.co_text.specs.Printed.{byte_text}
use Rattle.conode_convert.proofs.text.add_bytes.Given as goal

abbrev pub invariant-loop-byte : goal.invariant-loop-byte
invariant-loop-byte l = l.line.items ≡ l.fn.line.items ++ flat_map byte_text (take l.byte-index l.bytes)
