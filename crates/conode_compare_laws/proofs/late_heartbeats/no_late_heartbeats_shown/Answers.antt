use Rattle.std.proofs.Common.{[]}
use Rattle.co_profile.specs.Keys.{producer_key}
use Rattle.conode_compare_laws.proofs.ExpeditedInputs.{recording_shows}
use Rattle.conode_compare_laws.proofs.ExpeditedRefusals.{all_refuse, period_refuses}
use Rattle.conode_compare_laws.proofs.Heartbeats.{none_unwritten}
use Rattle.conode_compare_laws.proofs.late_heartbeats.no_late_heartbeats_shown.Goals as goal

pub returns : goal.returns
returns c = λ k subject rows period inputs is start keep words knows time bytes control answers apart aside other.
    none_unwritten k subject rows period inputs is knows start keep time control (c.sends_aside.ensures k inputs aside)
    (recording_shows producer_key period k subject inputs answers bytes (all_refuse producer_key period k inputs [] (λ all. (c.stays_apart.ensures k all apart).sync) (period_refuses k period inputs [] keep)) words (c.sends_other.ensures k inputs other) (λ all. (c.stays_apart.ensures k all apart).sync) other.channels aside.channels)
