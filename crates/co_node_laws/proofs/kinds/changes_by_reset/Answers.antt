use Rattle.co_node_laws.proofs.Resets.{area_restored, pre_operational, boot_up_alone, another}
use Rattle.co_node_laws.proofs.kinds.changes_by_reset.Goals as goal

pub returns-clause-contents : goal.returns-clause-contents
returns-clause-contents c = area_restored

pub returns-clause-state : goal.returns-clause-state
returns-clause-state c = pre_operational

pub returns-clause-frames : goal.returns-clause-frames
returns-clause-frames c = boot_up_alone

pub returns-clause-another : goal.returns-clause-another
returns-clause-another c = another
