use Rattle.std.proofs.Common.{ℕ, List, Option, ap, ◌∙◌, map}
use Rattle.std.proofs.lemmas.Result.{IfOk-weaker}
use Rattle.co_sheet_text.specs.Sections.{TextSection}
use Rattle.co_sheet_text.specs.Views.{section_view}
use Rattle.conode_show_text.specs.Document.{node_for, ordered}
use Rattle.conode_show.specs.Retyped.{retyped_view}
use Rattle.conode_show.specs.Shown.{document_in, sections_of}
use Rattle.conode_show.proofs.shown_file.document_parsed.Goals as goal

pub returns-in-Ok-retyped_sections : goal.returns-in-Ok-retyped_sections
returns-in-Ok-retyped_sections c =
    let text = c.args.text.now in
    let same = c.in-Ok-retyped_sections.ensures ∙ ap (map retyped_view) c.as_slice.ensures.value ∙ c.in-Ok.ensures in
    let node = c.node_for-node.ensures ∙ ap (node_for c.args.node) (ap (map section_view) c.as_slice-in-Ok-retyped_sections.ensures.value ∙ same) in
    let sections = ap (map section_view) c.as_mut_slice.ensures.value ∙ same in
    IfOk-weaker c.ordered_document.result _ _ (λ made h. h
    ∙ ap (λ (n : Option ℕ). document_in c.args.form n (ordered (map section_view c.as_mut_slice.result.now))) node
    ∙ ap (λ (s : List TextSection). document_in c.args.form (node_for c.args.node (sections_of text)) (ordered s)) sections) c.ordered_document.ensures
