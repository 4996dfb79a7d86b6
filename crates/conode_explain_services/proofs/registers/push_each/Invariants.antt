use Rattle.std.proofs.Common.{◌≡◌, ◌++◌, take}
use Rattle.std.specs.Prelude.{string_bytes}
use Rattle.std.specs.List.{flat_map}
use Rattle.conode_explain_services.specs.Registers.{text_of_bit}
use Rattle.conode_explain_services.proofs.registers.push_each.Given as goal

abbrev pub invariant-loop-bit : goal.invariant-loop-bit
invariant-loop-bit l = string_bytes l.text ≡ string_bytes l.fn.text ++ flat_map text_of_bit (take l.bit-index l.bits)
