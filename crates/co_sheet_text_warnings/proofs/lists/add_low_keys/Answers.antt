use Rattle.std.proofs.Common.{ap, map, refl}
use Rattle.std.specs.Prelude.{filter_map, option_to_list}
use Rattle.co_sheet_text.specs.Views.{property_view}
use Rattle.co_sheet_text_warnings.specs.Lists.{low_listing}
use Rattle.co_sheet_text_warnings.specs.Places.{warnings_at}
use Rattle.co_sheet_text_warnings.proofs.PieceLemmas.{marked-turn, piece-first, pieces-end}
use Rattle.co_sheet_text_warnings.proofs.lists.add_low_keys.Goals as goal

pub loop-given-preserved : goal.loop-given-preserved
loop-given-preserved c =
    let low = low_listing c.args.count in
    marked-turn c.args.kind (λ properties. filter_map low (map property_view properties)) (λ k. option_to_list (low (property_view k))) (λ k properties. piece-first low (property_view k) (map property_view properties))
    c.args.properties.now c.loop-given.given-index _ c.loop-given.warnings.items c.add_one.new.warnings.items _ c.loop-given-test.true (c.in-Ok.ensures _ (ap option_to_list c.low_listing.ensures)) c.loop-given.invariant

pub returns : goal.returns
returns c =
    pieces-end (λ properties. warnings_at c.args.kind (filter_map (low_listing c.args.count) (map property_view properties))) refl c.args.properties.now c.loop-given.given-index _ _ c.loop-given-test.false c.loop-given.invariant
