use Rattle.std.proofs.Common.{◌∙◌, ◌||◌, nat_eq, ap, sym, map}
use Rattle.indexmap.specs.IndexSet.{contains}
use Rattle.std.proofs.lemmas.List.{drop_all}
use Rattle.co_sheet_text.specs.Views.{section_view}
use Rattle.conode_lint_marks.specs.KnownWarnings.{is_compact_object, is_object_compact}
use Rattle.conode_lint_marks.proofs.CompactLemmas.{any-view-turn, or-none}
use Rattle.conode_lint_marks.proofs.compact.compact_indices.Goals as goal

pub loop-section-preserved : goal.loop-section-preserved
loop-section-preserved c = λ i.
    any-view-turn section_view (is_compact_object i) c.args.sections.now c.loop-section.section-index _ (contains nat_eq c.loop-section.indices i) (contains nat_eq c.add_if_compact.new.indices i) _
    c.loop-section-test.true (c.in-Ok.ensures i) (c.loop-section.invariant i)

pub returns : goal.returns
returns c = λ i.
    or-none (contains nat_eq c.loop-section.indices i)
    ∙ sym (ap (λ l. contains nat_eq c.loop-section.indices i || is_object_compact (map section_view l) i) (drop_all c.loop-section.section-index c.args.sections.now c.loop-section-test.false))
    ∙ c.loop-section.invariant i
