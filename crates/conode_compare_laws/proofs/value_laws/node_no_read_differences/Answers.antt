use Rattle.std.proofs.Common.{[]}
use Rattle.conode_compare_laws.proofs.value_laws.node_no_read_differences.Goals as goal

pub returns : goal.returns
returns c = λ plan k node subject inputs built stands is bytes writes answers.
    c.built_no_read_differences.ensures plan k subject inputs built is bytes (c.stays_dictionary.ensures.held k inputs (c.stands_on_dictionary.ensures k node [] stands) bytes writes) answers
