use Rattle.std.proofs.Common.{◌≡◌, ◌++◌, take}
use Rattle.std.specs.List.{flat_map}
use Rattle.conode_compare_documents.specs.Parts.{part_tokens}
use Rattle.conode_compare_documents.proofs.parts.put_parts.Given as goal

abbrev pub invariant-loop-part : goal.invariant-loop-part
invariant-loop-part l = l.writer ≡ l.fn.writer ++ flat_map part_tokens (take l.part-index l.parts)
