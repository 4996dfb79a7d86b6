use Rattle.std.proofs.Common.{◌||◌, ◌∙◌, map, refl, sym}
use Rattle.std.specs.List.{list_any}
use Rattle.std.proofs.lemmas.List.{drop_all}
use Rattle.co_sheet_text.specs.Sections.{TextSection}
use Rattle.co_sheet_text.specs.Views.{section_view}
use Rattle.conode_lint_marks.specs.KnownWarnings.{is_time_with}
use Rattle.conode_lint_marks.proofs.LoopLemmas.{found_here, passed_more}
use Rattle.conode_lint_marks.proofs.known_warnings.is_time_in_doubt.Goals as goal

pub loop-section-preserved : goal.loop-section-preserved
loop-section-preserved c =
    passed_more (λ l. list_any (λ (s : TextSection). is_time_with c.args.doubts.now c.args.line s s.kind) (map section_view l)) (λ x. (λ (s : TextSection). is_time_with c.args.doubts.now c.args.line s s.kind) (section_view x)) (λ x b y. b || y) (λ x l. refl) (λ x y. refl) c.args.sections.now c.loop-section.section-index _ _ c.loop-section-test.true
    (sym c.is_time_with.ensures ∙ c.if-is_time_with.false) c.loop-section.invariant

pub returns : goal.returns
returns c = rw (drop_all c.loop-section.section-index c.args.sections.now c.loop-section-test.false) at c.loop-section.invariant

pub returns-then-is_time_with : goal.returns-then-is_time_with
returns-then-is_time_with c =
    found_here (λ l. list_any (λ (s : TextSection). is_time_with c.args.doubts.now c.args.line s s.kind) (map section_view l)) (λ x. (λ (s : TextSection). is_time_with c.args.doubts.now c.args.line s s.kind) (section_view x)) (λ x b y. b || y) (λ x l. refl) c.args.sections.now c.loop-section.section-index _ _ c.loop-section-test.true
    (sym c.is_time_with.ensures ∙ c.if-is_time_with.true) c.loop-section.invariant
