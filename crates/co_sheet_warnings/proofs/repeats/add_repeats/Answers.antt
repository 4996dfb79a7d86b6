use Rattle.std.proofs.Common.{map, refl}
use Rattle.std.specs.Prelude.{filter_map}
use Rattle.co_sheet_text.specs.Views.{section_view}
use Rattle.co_sheet_warnings.specs.Repeats.{repeats, same_scoped}
use Rattle.co_sheet_text_warnings.specs.Places.{warnings_at}
use Rattle.co_sheet_warnings.specs.private.Views.{placed_in, scoped_view}
use Rattle.co_sheet_warnings.proofs.NameLemmas.{repeats-turn}
use Rattle.co_sheet_text_warnings.proofs.PieceLemmas.{pieces-end}
use Rattle.co_sheet_warnings.proofs.repeats.add_repeats.Goals as goal

pub loop-section-preserved : goal.loop-section-preserved
loop-section-preserved c =
    repeats-turn c.args.kind (placed_in c.args.once) section_view c.args.sections.now c.loop-section.section-index _ _ (map scoped_view c.loop-section.before.keys) (map scoped_view c.add_repeat.new.before.keys)
    c.loop-section.warnings.items c.add_repeat.new.warnings.items _ c.loop-section-test.true c.placed_in.ensures c.in-Ok.ensures.warnings c.in-Ok.ensures.before c.loop-section.invariant

pub returns : goal.returns
returns c =
    pieces-end (λ sections. warnings_at c.args.kind (repeats same_scoped (map scoped_view c.loop-section.before.keys) (filter_map (placed_in c.args.once) (map section_view sections)))) refl
    c.args.sections.now c.loop-section.section-index _ _ c.loop-section-test.false c.loop-section.invariant
