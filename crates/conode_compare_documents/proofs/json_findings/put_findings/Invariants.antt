use Rattle.std.proofs.Common.{take}
use Rattle.std.specs.List.{flat_map}
use Rattle.conode_json.specs.Appended.{Appended}
use Rattle.conode_compare_documents.specs.NotedTokens.{noted_tokens}
use Rattle.conode_compare_documents.proofs.json_findings.put_findings.Given as goal

abbrev pub invariant-loop-noted : goal.invariant-loop-noted
invariant-loop-noted l = Appended l.initial.document (flat_map (noted_tokens l.report.context) (take l.noted-index l.listed)) l.document
