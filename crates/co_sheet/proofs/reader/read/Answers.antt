use Rattle.std.proofs.Common.{◌≡◌, ℕ, ◌≤◌, List, None, length, map, sym, ap, ◌∙◌, subst}
use Rattle.std.specs.Prelude.{IfOk}
use Rattle.std.proofs.lemmas.Result.{IfOk-weaker}
use Rattle.co_sheet_text.specs.Sections.{TextSection}
use Rattle.co_sheet_text.specs.Views.{section_view}
use Rattle.co_sheet.specs.Accepted.{first_bad_line, first_found, sections_in}
use Rattle.co_sheet.specs.Checks.{checks}
use Rattle.co_sheet.specs.Content.{SheetContent, content_of, IsSheet, IsSheetOf, IsWholeOf}
use Rattle.co_sheet.proofs.AcceptedLemmas.{accepted-from}
use Rattle.co_sheet.proofs.reader.read.Goals as goal

-- that of the sections that the text has
sheet_read : (text : List ℕ) (sections : List TextSection) → sections ≡ sections_in text → length text ≤ 1048576 → first_bad_line text ≡ None → (s : SheetContent) → IsSheetOf sections s
    → IsSheet text s
sheet_read text sections same small lines s read = record {
  accepted = accepted-from text small lines (ap (first_found checks) (sym same) ∙ read.accepted);
  content = read.content ∙ ap content_of same;
}

pub returns-clause-sheet : goal.returns-clause-sheet
returns-clause-sheet c =
    let text = c.args.text.now in
    let sections = map section_view c.as_slice.result.now in
    let same : sections ≡ sections_in text = ap (map section_view) c.as_slice.ensures.value ∙ c.in_ok-sections.ensures ∙ c.in_ok-parsed.ensures.ok.1 in
    IfOk-weaker c.of_sections.result _ _ (sheet_read text sections same c.if-text-gt-GREATEST_SIZE.false c.in_ok-parsed.ensures.ok.0) c.of_sections.ensures.sheet

pub returns-clause-whole : goal.returns-clause-whole
returns-clause-whole c =
    let text = c.args.text.now in
    let sections = map section_view c.as_slice.result.now in
    let same : sections ≡ sections_in text = ap (map section_view) c.as_slice.ensures.value ∙ c.in_ok-sections.ensures ∙ c.in_ok-parsed.ensures.ok.1 in
    subst (λ ss. IfOk c.of_sections.result (IsWholeOf ss)) same c.of_sections.ensures.whole
