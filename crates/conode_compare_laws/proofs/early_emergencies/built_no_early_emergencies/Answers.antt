use Rattle.std.proofs.Common.{[]}
use Rattle.conode_compare_laws.proofs.WordsHeld.{inhibits_held}
use Rattle.conode_compare_laws.proofs.early_emergencies.built_no_early_emergencies.Goals as goal

pub returns : goal.returns
returns c = λ plan k subject rows inhibit inputs built lawful is start same knows time bytes control emergency answers without.
    c.no_early_emergencies_shown.ensures k subject rows inhibit inputs is same (inhibits_held c.set_is_permitted.ensures plan k built lawful inhibit inputs [] start same) knows time bytes
    (c.leaves_asked.ensures.inhibit plan k inhibit inputs built lawful same) control emergency answers
    (c.begins_apart.ensures plan k built) (c.begins_aside.ensures plan k built) (c.begins_other.ensures plan k built) without
