use Rattle.std.proofs.Common.{◌≡◌, take}
use Rattle.std.specs.List.{list_all}
use Rattle.conode_explain_text.specs.Said.{is_plain}
use Rattle.conode_explain_text.proofs.said.are_plain.Given as goal

abbrev pub invariant-loop-byte : goal.invariant-loop-byte
invariant-loop-byte l = l.are_plain ≡ list_all is_plain (take l.byte-index l.said)
