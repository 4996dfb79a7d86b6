use Rattle.std.proofs.Common.{refl, map}
use Rattle.std.specs.List.{flat_map}
use Rattle.co_sheet_text.specs.Views.{section_view}
use Rattle.co_sheet_text_warnings.specs.Places.{warnings_at}
use Rattle.co_sheet_text_warnings.specs.Views.{list_places}
use Rattle.co_sheet_text_warnings.proofs.PieceLemmas.{marked-turn, pieces-end}
use Rattle.co_sheet_text_warnings.proofs.lists.add_places_of_lists.Goals as goal

pub loop-section-preserved : goal.loop-section-preserved
loop-section-preserved c =
    let places = list_places c.args.check in
    marked-turn c.args.kind (λ sections. flat_map places (map section_view sections)) (λ section. places (section_view section)) (λ x l. refl) c.args.sections.now c.loop-section.section-index _
    c.loop-section.warnings.items c.add_places_of_list.new.warnings.items _ c.loop-section-test.true c.in-Ok.ensures c.loop-section.invariant

pub returns : goal.returns
returns c =
    pieces-end (λ sections. warnings_at c.args.kind (flat_map (list_places c.args.check) (map section_view sections))) refl c.args.sections.now c.loop-section.section-index _ _ c.loop-section-test.false c.loop-section.invariant
