use Rattle.std.proofs.Common.{◌≡◌, ◌++◌, take}
use Rattle.std.specs.Prelude.{string_bytes}
use Rattle.std.specs.List.{flat_map}
use Rattle.conode_explain_text.specs.Columns.{blank_byte}
use Rattle.conode_explain_text.proofs.columns.push_each.Given as goal

abbrev pub invariant-loop-byte : goal.invariant-loop-byte
invariant-loop-byte l = string_bytes l.text ≡ string_bytes l.fn.text ++ flat_map blank_byte (take l.byte-index l.bytes)
