use Rattle.conode_compare_laws.proofs.Heartbeats.{no_late_heartbeats}
use Rattle.conode_compare_laws.proofs.late_heartbeats.no_late_heartbeats.Goals as goal

pub returns : goal.returns
returns c = λ k subject rows period inputs is start keep knows time control begins unnamed.
    no_late_heartbeats k subject rows period inputs is knows start keep time control (c.sends_aside.ensures k inputs begins) unnamed
