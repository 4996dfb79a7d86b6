use Rattle.conode_stats_text.specs.FailureLines.{open_line}
use Rattle.conode_stats_text.specs.NodeLines.{restart_line}
use Rattle.conode_stats_text.specs.Paces.{late_line}
use Rattle.conode_stats_text.proofs.wrong.push_finding.Goals as goal

pub returns-in-Late : goal.returns-in-Late
returns-in-Late c = unfold late_line in rw c.in-Late.is c.put-in-Late.ensures

pub returns-in-Restarted : goal.returns-in-Restarted
returns-in-Restarted c = unfold restart_line in rw c.in-Restarted.is c.put-in-Restarted.ensures

pub returns-in-Open : goal.returns-in-Open
returns-in-Open c = unfold open_line in rw c.in-Open.is c.put-in-Open.ensures
