use Rattle.conode_lint.proofs.ReportLemmas.{ended}
use Rattle.conode_lint.proofs.report.ended_document.Goals as goal

pub returns : goal.returns
returns c = ended c.into_text.result (λ text. text.items) _ c.args.document c.put_document_end.new.document c.put_document_end.ensures c.into_text.ensures
