use Rattle.co_sheet_text.specs.Views.{section_view}
use Rattle.co_sheet_warnings.proofs.NameLemmas.{identifier_known}
use Rattle.co_sheet_warnings.proofs.repeats.identifier_in.Goals as goal

pub returns-in-Some : goal.returns-in-Some
returns-in-Some c =
    identifier_known c.args.node (section_view c.args.section.now) _ _ _ c.if-not-has_cob_id.ensures c.in-Some.ensures c.use_of.ensures c.identifier_of.ensures
