use Rattle.std.proofs.Common.{[]}
use Rattle.conode_compare_laws.proofs.Heartbeats.{none_late}
use Rattle.conode_compare_laws.proofs.WrittenPeriods.{written_follows, written_shows}
use Rattle.conode_compare_laws.proofs.late_heartbeats.no_late_heartbeats_written.Goals as goal

pub returns : goal.returns
returns c = λ k subject rows inputs is follow asks wide knows unknown time bytes control answers apart aside other.
    none_late k subject rows inputs is knows (written_follows k subject unknown knows inputs [] follow) time control (c.sends_aside.ensures k inputs aside)
    (written_shows k subject unknown (λ all. (c.stays_apart.ensures k all apart).sync) inputs answers bytes wide asks (c.sends_other.ensures k inputs other) other.channels aside.channels follow control (c.sends_aside.ensures k inputs aside))
