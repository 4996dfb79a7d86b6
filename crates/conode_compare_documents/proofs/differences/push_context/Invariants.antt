use Rattle.std.proofs.Common.{take}
use Rattle.std.specs.List.{flat_map}
use Rattle.conode_json.specs.Appended.{Appended}
use Rattle.conode_compare_documents.specs.Differences.{context_line}
use Rattle.conode_compare_documents.proofs.differences.push_context.Given as goal

abbrev pub invariant-loop-line : goal.invariant-loop-line
invariant-loop-line l = Appended l.fn.page (flat_map (context_line l.number) (take l.line-index l.lines)) l.page
