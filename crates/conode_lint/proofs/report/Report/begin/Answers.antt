use Rattle.std.proofs.Common.{refl}
use Rattle.conode_lint.proofs.ReportLemmas.{begun_json}
use Rattle.conode_lint.proofs.report.Report.begin.Goals as goal

pub returns-in-Json : goal.returns-in-Json
returns-in-Json c = record {
  form = refl;
  text = refl;
  document = begun_json c.args.self.now.form c.args.version.now c.args.self.now.document c.put_document_head.new.document c.in-Json.is c.put_document_head.ensures;
}
