use Rattle.std.proofs.Common.{refl, map, ◌||◌, sym, ◌∙◌}
use Rattle.std.specs.List.{list_any}
use Rattle.co_sheet.specs.SectionViews.{entry_view}
use Rattle.co_sheet_warnings.specs.Communication.{consumes_before}
use Rattle.co_sheet_text_warnings.proofs.PieceLemmas.{search-turn}
use Rattle.co_sheet_warnings.proofs.communication.is_consumed_twice.Goals as goal

pub loop-part-preserved : goal.loop-part-preserved
loop-part-preserved c =
    let consumed = consumes_before c.args.node c.args.sub c.args.word in
    search-turn (λ parts. list_any consumed (map entry_view parts)) (λ part. consumed (entry_view part)) (λ x b y. b || y) (λ x l. refl) (λ x y. refl)
    c.args.parts.now c.loop-part.part-index _ _ c.loop-part-test.true (sym c.consumes_before.ensures ∙ c.if-consumes_before.false) c.loop-part.invariant
