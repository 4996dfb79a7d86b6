use Rattle.std.proofs.Common.{◌∙◌}
use Rattle.co_sdo.proofs.BankIdles.{no_time_out}
use Rattle.co_sdo.proofs.bank.Bank.idle.Goals as goal

pub returns : goal.returns
returns c = λ d channels logs n stands le.
    no_time_out d channels _ _ logs n (c.deref-channels.ensures.value ∙ c.self.view_is) stands (λ there. c.idle_among.ensures d channels logs n there le)
