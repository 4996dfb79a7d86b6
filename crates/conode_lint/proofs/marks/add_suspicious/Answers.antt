use Rattle.std.proofs.Common.{◌∙◌, ◌++◌, ℕ, List, map, ap}
use Rattle.std.proofs.lemmas.Result.{on_ok_weaker}
use Rattle.co_sheet_text.specs.declared.section_kind.SectionKind.{SectionKind}
use Rattle.co_sheet_text.specs.Sections.{TextSection}
use Rattle.co_sheet_text.specs.Views.{section_view}
use Rattle.co_sheet_text_warnings.specs.declared.warning.Warning.{Warning}
use Rattle.co_sheet_text_warnings.specs.Lines.{text_lines}
use Rattle.conode_lint_marks.specs.declared.mark.Mark.{Mark}
use Rattle.conode_lint_marks.specs.AtFault.{kinds_at_fault}
use Rattle.conode_lint_marks.specs.KnownWarnings.{bad_lines, known_by, known_warnings, warning_mark}
use Rattle.conode_lint.proofs.marks.add_suspicious.Goals as goal

pub returns-in-Ok : goal.returns-in-Ok
unfolding known_warnings
returns-in-Ok c =
    let faults = c.args.faults.now in
    let marks = c.args.marks.now.items in
    let at_fault = c.args.at_fault.now in
    let lines = map (λ line. line.now) c.args.lines.now in
    let sections = map section_view c.args.sections.now in
    let found = c.in-Ok.warnings.items in
    let by : List SectionKind → List SectionKind → List Warning → List Mark = λ kinds doubts ws. marks ++ map warning_mark (known_by sections kinds doubts (bad_lines marks) faults ws) in
    let added : List (List ℕ) → List TextSection → List Mark = λ ls ss. marks ++ map warning_mark (known_warnings ls ss (bad_lines marks) faults found) in
    on_ok_weaker c.add_known_warnings.result
    (λ h. record {
      warnings = found;
      by_line = c.in-Ok.ensures;
      are = h ∙ ap (by at_fault.kinds.items at_fault.doubts.items) c.as_slice.ensures.value ∙ ap (λ (k : List SectionKind). by k at_fault.doubts.items found) c.requires.kinds
          ∙ ap (λ (d : List SectionKind). by (kinds_at_fault faults sections) d found) c.requires.doubts ∙ ap (λ (l : List (List ℕ)). added l sections) c.requires.lines
          ∙ ap (λ (s : List TextSection). added (text_lines c.args.text.now) s) c.requires.sections;
    })
    c.add_known_warnings.ensures
