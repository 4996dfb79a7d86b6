use Rattle.std.proofs.Common.{[]}
use Rattle.conode_compare_laws.proofs.WordsHeld.{bytes_held}
use Rattle.conode_compare_laws.proofs.late_heartbeats.built_no_late_heartbeats_written.Goals as goal

pub returns : goal.returns
returns c = λ plan k subject rows inputs built lawful is by knows unknown time bytes control answers.
    c.no_late_heartbeats_written.ensures k subject rows inputs is (c.follows_period.ensures.follow plan k subject.facts.clients inputs built by) (c.leaves_asked.ensures.period plan k inputs built lawful)
    (bytes_held c.set_is_permitted.ensures plan k built lawful inputs []) knows unknown time bytes control answers (c.begins_apart.ensures plan k built) (c.begins_aside.ensures plan k built) (c.begins_other.ensures plan k built)
