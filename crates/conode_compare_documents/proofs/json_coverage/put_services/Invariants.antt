use Rattle.std.proofs.Common.{take}
use Rattle.std.specs.List.{flat_map}
use Rattle.conode_json.specs.Appended.{Appended}
use Rattle.conode_compare_documents.specs.CoverageTokens.{served_tokens}
use Rattle.conode_compare_documents.proofs.json_coverage.put_services.Given as goal

abbrev pub invariant-loop-served : goal.invariant-loop-served
invariant-loop-served l = Appended l.initial.document (flat_map served_tokens (take l.served-index l.services)) l.document
