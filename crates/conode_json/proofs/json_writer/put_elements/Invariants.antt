use Rattle.std.proofs.Common.{◌≡◌, ◌++◌, map, take}
use Rattle.conode_json.specs.Members.{byte_token}
use Rattle.conode_json.proofs.json_writer.put_elements.Given as goal

abbrev pub invariant-loop-byte : goal.invariant-loop-byte
invariant-loop-byte l =
    (l.writer.tokens ≡ l.fn.writer.tokens ++ map byte_token (take l.byte-index l.bytes)) × (l.writer.before ≡ l.fn.writer.before)
