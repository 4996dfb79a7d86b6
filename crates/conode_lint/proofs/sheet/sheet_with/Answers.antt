use Rattle.std.proofs.Common.{◌≡◌, Option, map, subst, sym}
use Rattle.std.specs.Prelude.{IfOk}
use Rattle.co_sheet_text.specs.Views.{section_view}
use Rattle.co_sheet.specs.Content.{SheetContent}
use Rattle.conode_lint.proofs.SheetLemmas.{none_at_fault, same_sheet}
use Rattle.conode_lint.proofs.sheet.sheet_with.Goals as goal

pub returns-then-is_empty : goal.returns-then-is_empty
returns-then-is_empty c =
    subst (λ (o : Option SheetContent). IfOk c.sheet_in.result (λ s. s ≡ o))
    (same_sheet c.args.text.now c.args.at_fault.now (map section_view c.args.sections.now) c.requires.size c.requires.at_fault (sym c.if-is_empty.ensures) c.requires.sections)
    c.sheet_in.ensures

pub returns : goal.returns
returns c = none_at_fault c.args.text.now c.args.at_fault.now c.requires.size c.requires.at_fault (sym c.if-is_empty.ensures)
