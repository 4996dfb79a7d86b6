use Rattle.std.proofs.Common.{◌<◌, sym, subst, arith}
use Rattle.co_node_parts.specs.EmergencyQueues.{Pending, EmergenciesStand}
use Rattle.co_node_parts.proofs.Sendings.{none_while_left}
use Rattle.co_node_parts.proofs.emergencies.Emergencies.is_ready.Goals as goal

pub returns-else-self-eq0 : goal.returns-else-self-eq0
returns-else-self-eq0 c = λ may log h off.
    let s = subst (λ (p : Pending). EmergenciesStand p log) (sym c.self.view_is) h in
    let runs : 0 < c.self.inside.left = omega (arith, c.if-self-eq0.false) in
    sym (none_while_left may log _ s.left runs)
