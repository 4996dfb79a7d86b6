-- One part after another.
use Rattle.std.proofs.Common.{◌≡◌, ◌∙◌, [], ◌∷◌, ◌++◌, ap}
use Rattle.json.specs.Print.{print}
use Rattle.conode_json.specs.Appended.{Appended}
use Rattle.conode_json.proofs.Appending.{both}
use Rattle.conode_compare_report.specs.Abouts.{about_view}
use Rattle.conode_compare_report.specs.Views.{Kept}
use Rattle.conode_compare_documents.specs.JsonDocument.{document_tokens, json_document}
use Rattle.conode_json.proofs.DocumentLaws.{ended_as}
use Rattle.conode_compare_documents.proofs.json_text.json_document.Goals as goal

pub returns : goal.returns
unfolding document_tokens json_document
returns c =
    let coverage : c.report.inside.coverage ≡ c.args.report.now.coverage = ap (λ (k : Kept). k.coverage) c.report.view_is in
    let noted : c.as_slice.result.now ≡ c.args.report.now.noted = c.as_slice.ensures.value ∙ ap (λ (k : Kept). k.noted) c.report.view_is in
    let kinds : c.as_slice-2.result.now ≡ c.args.report.now.kinds = c.as_slice-2.ensures.value ∙ ap (λ (k : Kept). k.kinds) c.report.view_is in
    let whole : Appended c.new-document.result (document_tokens (about_view c.args.about.now) c.args.report.now) c.put.new.self =
    both (both (both (both (both (rw coverage at c.begin_document.ensures) (rw (c.name-verdict.ensures, c.of.ensures, c.end_of.ensures) at c.put_ended.ensures)) (rw noted at c.put_findings.ensures))
    (rw kinds at c.put_kinds.ensures)) (rw coverage at c.put_coverage.ensures)) c.put.ensures in
    ended_as c.into_text.result (λ tokens. print tokens ++ 10 ∷ []) (λ text. text.items) c.new-document.ensures whole c.into_text.ensures
