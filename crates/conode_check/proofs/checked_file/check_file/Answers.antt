-- What was written of the file's text.
use Rattle.co_dict_build.specs.Capacities.{limits_view}
use Rattle.std.specs.Process.{exit_status}
use Rattle.conode_check.specs.SheetTexts.{is_good}
use Rattle.conode_check.proofs.CheckLemmas.{good_only}
use Rattle.conode_check.proofs.checked_file.check_file.Goals as goal

pub returns-in-Ok-clause-good : goal.returns-in-Ok-clause-good
returns-in-Ok-clause-good g c = λ zero.
    let text = c.as_slice.result.now in
    (text, good_only c.check_text.result (is_good text c.args.node (limits_view c.args.limits.now)) (exit_status c.status_of.result) c.status_of.ensures zero c.check_text.ensures.good c.check_text.ensures.whole)
