-- One part after another.
use Rattle.conode_json.proofs.Appending.{both}
use Rattle.conode_compare_documents.specs.NotedTokens.{noted_tokens}
use Rattle.conode_compare_documents.proofs.json_findings.put_noted.Goals as goal

pub returns : goal.returns
unfolding noted_tokens
returns c = both (both c.put_found.ensures (rw c.around.ensures.kept at c.put_context.ensures)) c.put.ensures
