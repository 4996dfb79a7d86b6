use Rattle.conode_compare_laws.proofs.AbortInputs.{no_early_aborts}
use Rattle.conode_compare_laws.proofs.early_aborts.no_early_aborts.Goals as goal

pub returns : goal.returns
returns c = λ k subject rows inputs is knows time answers apart aside other.
    no_early_aborts k subject rows inputs is knows time answers (c.sends_other.ensures k inputs other) (λ all. (c.stays_apart.ensures k all apart).sync) other.channels aside.channels
