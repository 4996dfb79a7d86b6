use Rattle.std.proofs.Common.{◌∙◌, ◌-◌, ap, sym, subst}
use Rattle.co_node_parts.specs.EmergencyQueues.{Pending, EmergenciesStand, sendings}
use Rattle.co_node_parts.proofs.Sendings.{left_older}
use Rattle.co_node_parts.proofs.emergencies.Emergencies.note.Goals as goal

pub returns-in-Tick : goal.returns-in-Tick
returns-in-Tick c = λ log h.
    let s = subst (λ (p : Pending). EmergenciesStand p log) (sym c.self.view_is) h in
    rw c.in-Tick.is (record { queue = s.queue; left = c.saturating_sub-self-inside.ensures ∙ ap (λ n. n - 1) s.left ∙ left_older (sendings log) })
