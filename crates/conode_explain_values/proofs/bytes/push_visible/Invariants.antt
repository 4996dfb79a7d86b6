use Rattle.std.proofs.Common.{◌≡◌, [], ◌∷◌, ◌++◌, take}
use Rattle.std.specs.Prelude.{string_bytes}
use Rattle.std.specs.List.{flat_map}
use Rattle.conode_explain_values.specs.Bytes.{visible_byte}
use Rattle.conode_explain_values.proofs.bytes.push_visible.Given as goal

abbrev pub invariant-loop-byte : goal.invariant-loop-byte
invariant-loop-byte l = string_bytes l.text ≡ string_bytes l.fn.text ++ 0x22 ∷ [] ++ flat_map visible_byte (take l.byte-index l.bytes)
