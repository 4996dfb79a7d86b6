-- A member's parts in one.
use Rattle.std.proofs.Common.{◌∙◌, List, ◌++◌, Option, ap, append_assoc, subst}
use Rattle.conode_json.specs.Appended.{Appended}
use Rattle.conode_json.proofs.Appending.{both}

-- where the first part ends with the begin of the second
pub regrouped : {X : Type 0} (a b : List X) {t u v w : Option (List X)} {c d : List X} → Appended t (a ++ b) u → Appended u c v → Appended v d w → Appended t (a ++ (b ++ c ++ d)) w
regrouped a b {t = t} {w = w} {c = c} {d = d} f g h =
    subst (λ part. Appended t part w) (ap (λ xs. xs ++ d) (append_assoc a b c) ∙ append_assoc a (b ++ c) d) (both (both f g) h)
