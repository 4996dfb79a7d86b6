use Rattle.std.proofs.Common.{◌||◌, ◌∙◌, refl, sym, map}
use Rattle.co_sheet.specs.SectionViews.{entry_view}
use Rattle.co_sheet_text_warnings.proofs.PieceLemmas.{search-turn}
use Rattle.co_sheet_warnings.specs.SubIndices.{has_sub_1, is_sub_1}
use Rattle.co_sheet_warnings.proofs.sub_indices.has_sub_1.Goals as goal

pub loop-part-preserved : goal.loop-part-preserved
loop-part-preserved c =
    search-turn (λ parts. has_sub_1 (map entry_view parts)) (λ part. is_sub_1 (entry_view part)) (λ x b y. b || y) (λ x l. refl) (λ x y. refl)
    c.args.parts.now c.loop-part.part-index _ _ c.loop-part-test.true (sym c.is_sub_1.ensures ∙ c.if-is_sub_1.false) c.loop-part.invariant
