use Rattle.std.proofs.Common.{sym, subst}
use Rattle.co_sdo.specs.Banks.{BankStands}
use Rattle.co_node_model.specs.Sdo.{with_drop}
use Rattle.co_node_device.proofs.sdo.drop_if.Goals as goal

pub returns-then-drops-clause-stands : goal.returns-then-drops-clause-stands
returns-then-drops-clause-stands c = λ d channels logs s.
    subst (λ b. BankStands d channels c.drop_transfers.new.self (with_drop b logs)) (sym c.if-drops.true) (c.drop_transfers.ensures.stands d channels logs s)
