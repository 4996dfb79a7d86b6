use Rattle.conode_json.proofs.Appending.{both}
use Rattle.conode_compare_documents.specs.CoverageTokens.{entry_tokens}
use Rattle.conode_compare_documents.proofs.json_coverage.put_entry.Goals as goal

pub returns : goal.returns
unfolding entry_tokens
returns c = both (both c.put.ensures c.put_bytes.ensures) c.put-2.ensures
