use Rattle.std.proofs.Common.{◌∙◌, ◌++◌, List, ap, map}
use Rattle.std.proofs.lemmas.Result.{on_ok_weaker}
use Rattle.co_sheet_text.specs.declared.section_kind.SectionKind.{SectionKind}
use Rattle.co_sheet_text.specs.Sections.{TextSection}
use Rattle.co_sheet_text.specs.Views.{section_view}
use Rattle.co_dict_build.specs.Capacities.{limits_view}
use Rattle.conode_lint_marks.specs.declared.mark.Mark.{Mark}
use Rattle.conode_lint_marks.specs.Beside.{beside_of, beside_with}
use Rattle.conode_lint.specs.Marks.{fault_mark, sheet_marks}
use Rattle.conode_lint.proofs.MarkLemmas.{marked_from}
use Rattle.conode_lint.proofs.marks.add_marks.Goals as goal

pub returns : goal.returns
returns c =
    let found = c.args.faults.now in
    let checks = c.args.checks.now in
    let limits = limits_view checks.limits in
    let faults = c.in-Ok.ensures ∙ ap (λ (l : List Mark). l ++ map fault_mark found) c.requires.none in
    let built : List TextSection → List Mark = λ ss. c.add_faults.new.marks.items ++ sheet_marks limits ss c.args.sheet.now c.node_for-node.result in
    let beside_by : List SectionKind → List Mark = λ kinds. c.add_built.new.marks.items ++ beside_with limits found kinds c.args.text.now (map section_view c.args.sections.now) checks.node in
    let beside : List TextSection → List Mark = λ ss. c.add_built.new.marks.items ++ beside_of limits found c.args.text.now ss checks.node in
    on_ok_weaker c.add_suspicious.result
    (λ added. marked_from c.args.text.now checks found c.args.sheet.now c.node_for-node.result added.warnings
    c.add_faults.new.marks.items c.add_built.new.marks.items c.add_beside.new.marks.items c.add_suspicious.new.marks.items
    c.requires.sheet c.node_for-node.ensures added.by_line faults (c.in-Ok-add_built.ensures ∙ ap built c.requires.sections)
    (c.in-Ok-add_beside.ensures ∙ ap beside_by c.in-Ok-sections_at_fault.ensures.kinds ∙ ap beside c.requires.sections) added.are)
    c.add_suspicious.ensures
