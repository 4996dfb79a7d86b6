use Rattle.std.proofs.Common.{◌++◌, [], sym, ap, ◌∙◌, get_or}
use Rattle.co_sheet_text.specs.declared.section_kind.SectionKind.TheVariants.{MandatoryObjects}
use Rattle.co_sheet_text.specs.declared.text_section.TextSection.{TextSection as CodeSection}
use Rattle.co_sheet_text.specs.Views.{section_view}
use Rattle.co_sheet.specs.Entries.{sub_index_in}
use Rattle.co_sheet.specs.SectionViews.{parts_at}
use Rattle.co_sheet.specs.private.ListReadings.{listed}
use Rattle.co_sheet.proofs.ListLemmas.{append-none, collect-turn}
use Rattle.co_sheet.proofs.PartLemmas.{part-pushed, no-part}
use Rattle.co_sheet.proofs.tables.add_sub_index_sections.Goals as goal
use Rattle.co_sheet.proofs.tables.add_sub_index_sections.Goals.{in-SubIndex+in_ok-push, in_default}

-- what stands past the end of sections
abbrev none_given : CodeSection
none_given =
    record { kind = MandatoryObjects; name = record { ref_ptr = (0, 0); now = [] }; line = 0; properties = record { ref_ptr = (0, 0); now = [] } }

pub loop-section-preserved : goal.loop-section-preserved
loop-section-preserved c = λ i.
    let before = parts_at c.loop-section.parts.items i in
    let section = get_or c.args.sections.now c.loop-section.section-index none_given in
    collect-turn section_view (λ s. sub_index_in i s s.kind) c.args.sections.now c.loop-section.section-index none_given before (parts_at c.match-section.parts.items i) _ c.loop-section-test.true
    (elim c.match-section.branch [
      | in-SubIndex+in_ok-push w ↦
          ap (λ v. parts_at v.items i) w.parts-is ∙ ap (λ xs. parts_at xs i) w.in_ok-push.ensures.items ∙ part-pushed i c.loop-section.parts.items _ section.kind w.in-SubIndex.is
      | in_default w ↦
          ap (λ v. parts_at v.items i) w.parts-is ∙ sym (append-none before) ∙ ap (λ o. before ++ listed o) (sym (no-part i (section_view section) section.kind w.in_default.not-SubIndex))
    ]) (c.loop-section.invariant i)
