use Rattle.std.proofs.Common.{◌∙◌}
use Rattle.co_sheet_faults.proofs.ListCodeLemmas.{unread-any}
use Rattle.co_sheet_faults.proofs.lists.has_unread.Goals as goal

pub returns : goal.returns
returns c = c.are_unread.ensures ∙ unread-any c.args.section.now.properties.now
