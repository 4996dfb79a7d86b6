use Rattle.co_sdo.proofs.Permitted.{set_permitted}
use Rattle.co_sdo.proofs.bank.Bank.set_is_permitted.Goals as goal

pub returns : goal.returns
returns c = set_permitted c.set_is_permitted.ensures.permitted
