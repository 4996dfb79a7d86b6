use Rattle.std.proofs.Common.{◌||◌, ◌∙◌, map, refl, sym}
use Rattle.std.specs.List.{list_any}
use Rattle.std.proofs.lemmas.List.{drop_all}
use Rattle.co_sheet_text.specs.Views.{section_view}
use Rattle.conode_lint_marks.specs.KnownWarnings.{is_first}
use Rattle.conode_lint_marks.proofs.LoopLemmas.{found_here, passed_more}
use Rattle.conode_lint_marks.proofs.known_warnings.has_any_first.Goals as goal

pub loop-first-preserved : goal.loop-first-preserved
loop-first-preserved c =
    let test = is_first c.args.kind c.args.doubts.now (section_view c.args.section.now) c.args.number in
    passed_more (λ l. list_any test (map section_view l)) (λ x. test (section_view x)) (λ x b y. b || y) (λ x l. refl) (λ x y. refl)
    c.args.sections.now c.loop-first.first-index _ _ c.loop-first-test.true (sym c.is_first.ensures ∙ c.if-is_first.false) c.loop-first.invariant

pub returns : goal.returns
returns c = rw (drop_all c.loop-first.first-index c.args.sections.now c.loop-first-test.false) at c.loop-first.invariant

pub returns-then-is_first : goal.returns-then-is_first
returns-then-is_first c =
    let test = is_first c.args.kind c.args.doubts.now (section_view c.args.section.now) c.args.number in
    found_here (λ l. list_any test (map section_view l)) (λ x. test (section_view x)) (λ x b y. b || y) (λ x l. refl)
    c.args.sections.now c.loop-first.first-index _ _ c.loop-first-test.true (sym c.is_first.ensures ∙ c.if-is_first.true) c.loop-first.invariant
