use Rattle.std.proofs.Common.{List, ◌++◌, ◌∙◌, refl, sym, ap, append_assoc, map}
use Rattle.std.proofs.lemmas.List.{map-append}
use Rattle.std.specs.List.{flat_map}
use Rattle.co_sheet_text.specs.Sections.{TextSection}
use Rattle.co_sheet_text.specs.Views.{section_view}
use Rattle.co_sheet_text_warnings.specs.InText.{place_in_text}
use Rattle.co_sheet_warnings.specs.Warnings.{places_in}
use Rattle.co_sheet_text_warnings.specs.Places.{warning_at, warnings_at}
use Rattle.co_sheet_text_warnings.proofs.PieceLemmas.{marked-turn, pieces-end}
use Rattle.co_sheet_warnings.proofs.whole.add_others.Goals as goal

pub loop-section-preserved : goal.loop-section-preserved
loop-section-preserved c =
    let places = places_in c.args.text.now c.args.kind in
    marked-turn c.args.kind (λ sections. flat_map places (map section_view sections)) (λ section. places (section_view section)) (λ x l. refl) c.sections-section-items.result.now c.loop-section.section-index _
    c.loop-section.warnings.items c.add_one-in-loop-section.new.warnings.items _ c.loop-section-test.true (c.in-Ok-add_one.ensures _ c.place_in.ensures) c.loop-section.invariant

pub returns : goal.returns
returns c =
    let text = c.args.text.now in
    let kind = c.args.kind in
    let old = c.args.warnings.now.items in
    let once = place_in_text text kind in
    let more = flat_map (places_in text kind) text.sections in
    let first = c.in-Ok.ensures once c.place_in_text.ensures in
    let all = pieces-end (λ sections. warnings_at kind (flat_map (places_in text kind) (map section_view sections))) refl c.sections-section-items.result.now c.loop-section.section-index _ _ c.loop-section-test.false c.loop-section.invariant in
    all
    ∙ ap (λ (ss : List TextSection). c.add_one.new.warnings.items ++ warnings_at kind (flat_map (places_in text kind) ss)) c.sections-section-items.ensures
    ∙ ap (λ l. l ++ warnings_at kind more) first ∙ append_assoc old (warnings_at kind once) (warnings_at kind more)
    ∙ ap (λ l. old ++ l) (sym (map-append (warning_at kind) once more))
