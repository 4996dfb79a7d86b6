use Rattle.std.proofs.Common.{[]}
use Rattle.co_profile.specs.Keys.{emergency_inhibit_key}
use Rattle.conode_compare_laws.proofs.ExpeditedInputs.{recording_shows}
use Rattle.conode_compare_laws.proofs.ExpeditedRefusals.{all_refuse}
use Rattle.conode_compare_laws.proofs.Pausing.{none_early}
use Rattle.conode_compare_laws.proofs.early_emergencies.no_early_emergencies_shown.Goals as goal

pub returns : goal.returns
returns c = λ k subject rows inhibit inputs is same words knows time bytes refused control emergency answers apart aside other without.
    none_early k subject rows inhibit inputs is knows same time control emergency (c.sends_aside.ensures k inputs aside) without
    (recording_shows emergency_inhibit_key inhibit k subject inputs answers bytes (all_refuse emergency_inhibit_key inhibit k inputs [] (λ all. (c.stays_apart.ensures k all apart).sync) refused) words (c.sends_other.ensures k inputs other) (λ all. (c.stays_apart.ensures k all apart).sync) other.channels aside.channels)
