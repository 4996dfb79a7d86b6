use Rattle.conode_json.proofs.Appending.{both}
use Rattle.conode_compare_documents.specs.NotedTokens.{context_tokens}
use Rattle.conode_compare_documents.proofs.json_findings.put_context_line.Goals as goal

pub returns : goal.returns
unfolding context_tokens
returns c = rw (← c.line.view_is) (both (both c.put.ensures (rw c.as_slice.ensures.value at c.put_bytes.ensures)) c.put-2.ensures)
