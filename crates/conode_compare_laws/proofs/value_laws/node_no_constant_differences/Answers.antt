use Rattle.std.proofs.Common.{[]}
use Rattle.conode_compare_laws.proofs.value_laws.node_no_constant_differences.Goals as goal

pub returns : goal.returns
returns c = λ plan k node subject inputs built lawful stands is bytes writes identity answers.
    c.built_no_constant_differences.ensures plan k subject inputs built lawful is bytes (c.stays_dictionary.ensures.held k inputs (c.stands_on_dictionary.ensures k node [] stands) bytes writes) identity answers
