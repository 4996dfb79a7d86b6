use Rattle.std.proofs.Common.{ap, ◌∙◌, ◌++◌}
use Rattle.std.specs.List.{flat_map}
use Rattle.co_sheet_text.specs.Views.{section_view}
use Rattle.co_sheet.specs.Notes.{notes_at}
use Rattle.co_sheet.proofs.ListLemmas.{flat-turn, flat-end}
use Rattle.co_sheet.proofs.notes.add_notes.Goals as goal

pub loop-section-preserved : goal.loop-section-preserved
loop-section-preserved c =
    flat-turn section_view (λ s. notes_at c.args.tables.now s s.kind) c.sections-section-items.result.now c.loop-section.section-index _ c.loop-section.notes.items c.add_notes_at.new.notes.items _ c.loop-section-test.true
    c.in_ok-add_notes_at.ensures c.loop-section.invariant

pub returns : goal.returns
returns c =
    flat-end section_view (λ s. notes_at c.args.tables.now s s.kind) c.sections-section-items.result.now c.loop-section.section-index c.loop-section.notes.items _ c.loop-section-test.false c.loop-section.invariant
    ∙ ap (λ ss. c.args.notes.now.items ++ flat_map (λ s. notes_at c.args.tables.now s s.kind) ss) c.sections-section-items.ensures
