use Rattle.conode_compare_laws.proofs.Pausing.{no_early_emergencies}
use Rattle.conode_compare_laws.proofs.early_emergencies.no_early_emergencies.Goals as goal

pub returns : goal.returns
returns c = λ k subject rows inhibit inputs is same knows time control emergency begins without unnamed.
    no_early_emergencies k subject rows inhibit inputs is knows same time control emergency (c.sends_aside.ensures k inputs begins) without unnamed
