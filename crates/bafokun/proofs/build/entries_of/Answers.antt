use Rattle.std.proofs.Common.{ap, ◌∙◌}
use Rattle.co_sheet_changes.specs.Originals.{original_at}
use Rattle.co_dict_table.specs.Entries.{contents_of_rows}
use Rattle.co_dict_table.proofs.Faultless.{faultless_ready}
use Rattle.bafokun.specs.Builds.{ByMemory, limits_for, plan_for}
use Rattle.bafokun.proofs.build.entries_of.Goals as goal

pub of-requires-clause-ready : goal.of-requires-clause-ready
of-requires-clause-ready c =
    faultless_ready (plan_for c.args.node_id c.args.settings.now c.args.sheet.now) c.entries.result.now c.requires.faultless
    c.entries.ensures.view c.entries.ensures.each

pub returns-in-Ok-clause-ok : goal.returns-in-Ok-clause-ok
returns-in-Ok-clause-ok c =
    c.in-Ok.ensures ∙ ap (contents_of_rows (original_at c.args.text.now) (limits_for c.args.settings.now)) c.entries.ensures.view

pub returns-in-Err-clause-err : goal.returns-in-Err-clause-err
returns-in-Err-clause-err c = ByMemory c.of_build.ensures
