use Rattle.conode_compare_documents.specs.JunitDocument.{suite_begin}
use Rattle.conode_compare_documents.proofs.junit_text.begin_suite.Goals as goal

pub returns : goal.returns
unfolding suite_begin
returns c = c.put.ensures
