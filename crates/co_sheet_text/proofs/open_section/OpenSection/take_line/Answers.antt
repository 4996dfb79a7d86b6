use Rattle.std.proofs.Common.{◌≡◌, false, sym}
use Rattle.co_sheet_text.specs.Sections.{is_given}
use Rattle.co_sheet_text.specs.OpenSections.{open_view}
use Rattle.co_sheet_text.proofs.SectionsReadLemmas.{not_given, empty_not_given, unread_not_given}
use Rattle.co_sheet_text.proofs.open_section.OpenSection.take_line.Goals as goal
use Rattle.co_sheet_text.proofs.open_section.OpenSection.take_line.Goals.{then-is_empty-via-then-is_empty, then-is_empty-via-else-is_empty+then-not-reads}

-- the line gives no property: it has no value, or isn't read
none-given : (c : goal.Joined-then-is_empty) → is_given c.args.self.now.kind c.args.name.now c.args.value.now ≡ false
none-given c = elim c.then-is_empty.branch [
  | then-is_empty-via-then-is_empty w ↦ empty_not_given c.args.self.now.kind c.args.name.now c.args.value.now (sym w.if-is_empty.ensures)
  | then-is_empty-via-else-is_empty+then-not-reads w ↦ unread_not_given c.args.self.now.kind c.args.name.now c.args.value.now (sym w.if-not-reads.ensures)
]

pub returns-then-is_empty-clause-good : goal.returns-then-is_empty-clause-good
returns-then-is_empty-clause-good c = (not_given (open_view c.args.self.now) c.args.name.now c.args.value.now c.args.line (none-given c)).0

pub returns-then-is_empty-clause-taken : goal.returns-then-is_empty-clause-taken
returns-then-is_empty-clause-taken c = sym (not_given (open_view c.args.self.now) c.args.name.now c.args.value.now c.args.line (none-given c)).1
