-- One part after another.
use Rattle.conode_json.proofs.Appending.{both}
use Rattle.conode_compare_documents.specs.NotedTokens.{said_tokens}
use Rattle.conode_compare_documents.proofs.json_findings.put_found.Goals as goal

pub returns-in-Ok : goal.returns-in-Ok
unfolding said_tokens
returns-in-Ok c =
    both (both (rw (c.name.ensures, c.of-kind.ensures) at c.put.ensures) (rw (c.as_str.ensures.value, c.in-Ok.ensures) at c.put_text.ensures))
    (rw (c.rule.ensures, c.of-kind.ensures) at c.put-in-Ok.ensures)
