use Rattle.std.proofs.Common.{◌≡◌, ◌∙◌, ap, codes, is_none, rules}
use Rattle.co_sheet_text.specs.Views.{property_view, section_view}
use Rattle.co_sheet_faults.proofs.ListCodeLemmas.{unread-at}
use Rattle.co_sheet_faults.proofs.lists.is_count_unread.Goals as goal

pub returns-in-Some : goal.returns-in-Some
returns-in-Some c =
    let none : c.is_none.result ≡ is_none c.number.result = search rules in
    unread-at (codes "SupportedObjects") (section_view c.args.section.now) (property_view c.in-Some.given) c.is_none.result c.in-Some.ensures
    (none ∙ ap is_none c.number.ensures)
