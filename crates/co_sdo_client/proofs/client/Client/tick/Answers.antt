-- A tick, over all events that the client stands after.
use Rattle.std.proofs.Common.{sym, ◌∙◌}
use Rattle.co_sdo_client.proofs.EventLemmas.{tick_stands}
use Rattle.co_sdo_client.proofs.client.Client.tick.Goals as goal

pub returns-clause-stands : goal.returns-clause-stands
returns-clause-stands c = λ call events h.
    rw c.count_tick.ensures.client (tick_stands call events c.args.self.now h (sym c.waits.ensures ∙ c.if-not-waits.false))
