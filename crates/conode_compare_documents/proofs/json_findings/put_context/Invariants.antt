use Rattle.std.proofs.Common.{take}
use Rattle.std.specs.List.{flat_map}
use Rattle.conode_json.specs.Appended.{Appended}
use Rattle.conode_compare_documents.specs.NotedTokens.{context_tokens}
use Rattle.conode_compare_documents.proofs.json_findings.put_context.Given as goal

abbrev pub invariant-loop-line : goal.invariant-loop-line
invariant-loop-line l = Appended l.initial.document (flat_map context_tokens (take l.line-index l.lines)) l.document
