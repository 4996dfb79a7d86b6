use Rattle.conode_compare_documents.specs.JsonDocument.{ended_members}
use Rattle.conode_compare_documents.proofs.json_text.put_ended.Goals as goal

pub returns : goal.returns
unfolding ended_members
returns c = rw (← c.report.view_is) c.put.ensures
