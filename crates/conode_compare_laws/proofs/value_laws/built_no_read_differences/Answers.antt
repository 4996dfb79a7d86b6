use Rattle.conode_compare_laws.proofs.ValueLaws.{no_reads}
use Rattle.conode_compare_laws.proofs.value_laws.built_no_read_differences.Goals as goal

pub returns : goal.returns
returns c = λ plan k subject inputs built is bytes held answers.
    no_reads plan k built subject inputs is bytes held answers (c.sends_other.ensures k inputs (c.begins_other.ensures plan k built))
    (λ all. (c.stays_apart.ensures k all (c.begins_apart.ensures plan k built)).sync) (c.begins_other.ensures plan k built).channels (c.begins_aside.ensures plan k built).channels
