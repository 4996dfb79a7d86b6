use Rattle.std.proofs.Common.{◌≡◌, ◌++◌}
use Rattle.co_sheet_adapt.specs.Compact.{copied_lines, first_unless_own, sub_section, sub_sections, unless_own}
use Rattle.co_sheet_adapt.specs.private.Named.{texts_at}
use Rattle.co_sheet_changes.specs.Views.{group_view}
use Rattle.co_sheet_adapt.proofs.compact.Compact.text.Given as goal

-- those so far
abbrev pub invariant-loop-before : goal.invariant-loop-before
invariant-loop-before l = l.text.items ≡ first_unless_own (texts_at l.self.own.now) (group_view l.self.group.now) l.self.index l.count ++ sub_sections (unless_own (texts_at l.self.own.now) (sub_section (texts_at l.self.names.now) (texts_at l.self.values.now) l.self.facts.now (group_view l.self.group.now) (copied_lines l.self.facts.now (group_view l.self.group.now)))) l.self.index l.before
