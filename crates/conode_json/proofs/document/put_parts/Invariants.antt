use Rattle.std.proofs.Common.{◌≡◌, ◌++◌, take}
use Rattle.std.specs.List.{flat_map}
use Rattle.conode_json.proofs.document.put_parts.Given as goal

abbrev pub invariant-loop-part : goal.invariant-loop-part
invariant-loop-part g l = l.writer ≡ l.fn.writer ++ flat_map g.P.HasTokens.tokens_of (take l.part-index l.parts)
