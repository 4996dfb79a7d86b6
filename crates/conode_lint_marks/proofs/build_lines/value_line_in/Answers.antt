use Rattle.std.proofs.Common.{◌∙◌, cond, map, refl}
use Rattle.std.specs.Prelude.{◌==◌, find}
use Rattle.std.specs.Option.{option_map_or}
use Rattle.std.proofs.lemmas.List.{drop_all}
use Rattle.co_sheet_text.specs.Sections.{TextSection}
use Rattle.co_sheet_text.specs.Views.{section_view}
use Rattle.conode_lint_marks.specs.BuildLines.{value_line, value_line_in}
use Rattle.conode_lint_marks.proofs.LoopLemmas.{alike, apart, found_here, made_first, passed_more}
use Rattle.conode_lint_marks.proofs.build_lines.value_line_in.Goals as goal

pub loop-section-preserved : goal.loop-section-preserved
loop-section-preserved c =
    let line = c.args.line in
    let is_it = λ (section : TextSection). section.line == line in
    passed_more (λ sections. value_line_in (map section_view sections) line) (λ section. is_it (section_view section)) (λ section b rest. cond b (value_line (section_view section)) rest)
    (λ section sections. made_first (λ found. option_map_or value_line found line) (is_it (section_view section)) (section_view section) (find is_it (map section_view sections))) (λ x y. refl)
    c.args.sections.now c.loop-section.section-index _ _ c.loop-section-test.true (apart _ _ c.if-section-line.false) c.loop-section.invariant

pub returns : goal.returns
returns c = rw (drop_all c.loop-section.section-index c.args.sections.now c.loop-section-test.false) at c.loop-section.invariant

pub returns-then-section-line : goal.returns-then-section-line
returns-then-section-line c =
    let line = c.args.line in
    let is_it = λ (section : TextSection). section.line == line in
    c.value_line.ensures
    ∙ found_here (λ sections. value_line_in (map section_view sections) line) (λ section. is_it (section_view section)) (λ section b rest. cond b (value_line (section_view section)) rest)
    (λ section sections. made_first (λ found. option_map_or value_line found line) (is_it (section_view section)) (section_view section) (find is_it (map section_view sections)))
    c.args.sections.now c.loop-section.section-index _ _ c.loop-section-test.true (alike _ _ c.if-section-line.true) c.loop-section.invariant
