use Rattle.conode_compare_laws.proofs.answer_laws.built_no_answer_differences.Goals as goal

pub returns : goal.returns
returns c = λ plan k subject rows inputs built is bytes answers control.
    c.no_answer_differences.ensures k subject rows inputs is bytes answers control (c.begins_apart.ensures plan k built) (c.begins_aside.ensures plan k built) (c.begins_other.ensures plan k built)
