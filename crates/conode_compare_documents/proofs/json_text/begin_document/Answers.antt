-- One part after another.
use Rattle.conode_json.proofs.Appending.{both}
use Rattle.conode_compare_documents.specs.JsonDocument.{document_begin}
use Rattle.conode_compare_documents.proofs.json_text.begin_document.Goals as goal

pub returns : goal.returns
unfolding document_begin
returns c =
    rw (← c.coverage.view_is)
    (both (both (both (both (both (both (both c.put.ensures c.put_text.ensures) c.put_text-2.ensures) c.put_text-3.ensures) c.put-2.ensures) c.put_bytes.ensures) c.put_bytes-2.ensures) c.put-3.ensures)
