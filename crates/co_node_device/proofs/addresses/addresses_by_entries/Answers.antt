use Rattle.co_node_device.proofs.Parameters.{same_rpdo, same_table}
use Rattle.co_node_device.proofs.addresses.addresses_by_entries.Goals as goal

pub returns-clause-rpdos : goal.returns-clause-rpdos
returns-clause-rpdos c = λ contents others id agree. same_rpdo contents others agree id

pub returns-clause-tables : goal.returns-clause-tables
returns-clause-tables c = λ contents others table agree is. same_table contents others agree table is
