use Rattle.std.proofs.Common.{take}
use Rattle.std.specs.List.{flat_map}
use Rattle.conode_json.specs.Appended.{Appended}
use Rattle.conode_compare_documents.specs.CoverageTokens.{abort_tokens}
use Rattle.conode_compare_documents.proofs.json_coverage.put_aborts.Given as goal

abbrev pub invariant-loop-numbered : goal.invariant-loop-numbered
invariant-loop-numbered l = Appended l.initial.document (flat_map abort_tokens (take l.numbered-index l.aborts)) l.document
