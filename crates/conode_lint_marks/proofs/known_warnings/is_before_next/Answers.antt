use Rattle.std.proofs.Common.{cond, map, nat_lt, refl, true}
use Rattle.std.specs.Prelude.{find}
use Rattle.std.specs.Option.{option_map_or}
use Rattle.std.proofs.lemmas.List.{drop_all}
use Rattle.co_sheet_text.specs.Sections.{TextSection}
use Rattle.co_sheet_text.specs.Views.{section_view}
use Rattle.conode_lint_marks.specs.KnownWarnings.{is_before_next}
use Rattle.conode_lint_marks.proofs.LoopLemmas.{made_first, not_below, passed_more}
use Rattle.conode_lint_marks.proofs.known_warnings.is_before_next.Goals as goal

pub loop-section-preserved : goal.loop-section-preserved
loop-section-preserved c =
    let line = c.args.line in
    let number = c.args.number in
    let is_it = λ (s : TextSection). nat_lt line s.line in
    passed_more (λ here. is_before_next line (map section_view here) number) (λ s. is_it (section_view s)) (λ s b rest. cond b (nat_lt number (section_view s).line) rest)
    (λ s here. made_first (λ found. option_map_or (λ x. nat_lt number x.line) found true) (is_it (section_view s)) (section_view s) (find is_it (map section_view here))) (λ x y. refl)
    c.args.here.now c.loop-section.section-index _ _ c.loop-section-test.true (not_below _ _ c.if-line-section.false) c.loop-section.invariant

pub returns : goal.returns
returns c = rw (drop_all c.loop-section.section-index c.args.here.now c.loop-section-test.false) at c.loop-section.invariant
