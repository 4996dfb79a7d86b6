use Rattle.std.proofs.Common.{[]}
use Rattle.conode_compare_laws.proofs.WordsHeld.{periods_held}
use Rattle.conode_compare_laws.proofs.late_heartbeats.built_no_late_heartbeats.Goals as goal

pub returns : goal.returns
returns c = λ plan k subject rows period inputs built lawful is start keep knows time bytes control answers.
    c.no_late_heartbeats_shown.ensures k subject rows period inputs is start keep (periods_held c.set_is_permitted.ensures plan k built lawful period inputs [] start keep) knows time bytes control answers
    (c.begins_apart.ensures plan k built) (c.begins_aside.ensures plan k built) (c.begins_other.ensures plan k built)
