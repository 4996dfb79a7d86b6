-- One part after another.
use Rattle.std.proofs.Common.{◌≡◌, ◌∙◌, ap}
use Rattle.std.specs.Prelude.{string_bytes}
use Rattle.conode_json.specs.Appended.{Appended}
use Rattle.conode_json.proofs.Appending.{both, ended}
use Rattle.conode_compare_report.specs.Abouts.{about_view}
use Rattle.conode_compare_report.specs.Views.{Kept}
use Rattle.conode_compare_documents.specs.JunitDocument.{junit_document}
use Rattle.conode_compare_documents.proofs.junit_text.junit_document.Goals as goal

pub returns : goal.returns
unfolding junit_document
returns c =
    let kinds : c.as_slice.result.now ≡ c.args.report.now.kinds = c.as_slice.ensures.value ∙ ap (λ (k : Kept). k.kinds) c.report.view_is in
    let noted : c.as_slice-2.result.now ≡ c.args.report.now.noted = c.as_slice-2.ensures.value ∙ ap (λ (k : Kept). k.noted) c.report.view_is in
    let whole : Appended c.new-suite.result (junit_document (about_view c.args.about.now) c.args.report.now) c.put_words.new.self =
    both (both (both (rw (c.numbers_of-numbers.ensures, c.span_of.ensures) at c.begin_suite.ensures) (rw (kinds, noted) at c.push_cases.ensures)) c.push_outcome.ensures) c.put_words.ensures in
    ended c.into_text.result string_bytes c.new-suite.ensures whole c.into_text.ensures
