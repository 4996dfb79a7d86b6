use Rattle.conode_compare_laws.proofs.answer_laws.built_no_transfer_differences.Goals as goal

pub returns : goal.returns
returns c = λ plan k subject rows inputs built is bytes blocks answers.
    c.no_transfer_differences.ensures k subject rows inputs is bytes blocks answers (c.begins_apart.ensures plan k built) (c.begins_aside.ensures plan k built) (c.begins_other.ensures plan k built)
