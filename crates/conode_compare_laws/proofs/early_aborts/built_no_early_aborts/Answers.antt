use Rattle.conode_compare_laws.proofs.early_aborts.built_no_early_aborts.Goals as goal

pub returns : goal.returns
returns c = λ plan k subject rows inputs built is knows time answers.
    c.no_early_aborts.ensures k subject rows inputs is knows time answers (c.begins_apart.ensures plan k built) (c.begins_aside.ensures plan k built) (c.begins_other.ensures plan k built)
