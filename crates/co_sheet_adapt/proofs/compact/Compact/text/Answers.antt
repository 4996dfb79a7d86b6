use Rattle.std.proofs.Common.{◌∙◌, ◌+◌, ◌++◌, ℕ, List, ap}
use Rattle.co_sheet_adapt.specs.Compact.{copied_lines, first_unless_own, sub_section, unless_own}
use Rattle.co_sheet_adapt.specs.private.Named.{texts_at}
use Rattle.co_sheet_changes.specs.Views.{group_view}
use Rattle.co_sheet_adapt.proofs.CompactLemmas.{section_added}
use Rattle.co_sheet_adapt.proofs.compact.Compact.text.Goals as goal

pub loop-before-preserved : goal.loop-before-preserved
loop-before-preserved c =
    let s = c.args.self.now in
    let g = group_view s.group.now in
    let n = c.loop-before.before in
    let own = texts_at s.own.now in
    let before = c.loop-before.text.items in
    c.in_ok-push_unless_own.ensures
    ∙ ap (λ (copied : List ℕ). before ++ unless_own own (sub_section (texts_at s.names.now) (texts_at s.values.now) s.facts.now g copied) (record { index = s.index; sub = n + 1 }))
    (c.as_slice.ensures.value ∙ c.in_ok-copied.ensures)
    ∙ section_added (unless_own own (sub_section (texts_at s.names.now) (texts_at s.values.now) s.facts.now g (copied_lines s.facts.now g))) s.index n (first_unless_own own g s.index c.args.count) before c.loop-before.invariant
