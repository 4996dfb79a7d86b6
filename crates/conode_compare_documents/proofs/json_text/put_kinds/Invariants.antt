use Rattle.std.proofs.Common.{take}
use Rattle.std.specs.List.{flat_map}
use Rattle.conode_json.specs.Appended.{Appended}
use Rattle.conode_compare_documents.specs.JsonDocument.{kind_tokens}
use Rattle.conode_compare_documents.proofs.json_text.put_kinds.Given as goal

abbrev pub invariant-loop-counted : goal.invariant-loop-counted
invariant-loop-counted l = Appended l.initial.document (flat_map kind_tokens (take l.counted-index l.kinds)) l.document
