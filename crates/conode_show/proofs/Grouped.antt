-- The parts of an entry in one list, however they are grouped.
use Rattle.std.proofs.Common.{◌≡◌, List, ◌++◌, Option, append_assoc, subst}
use Rattle.conode_text.specs.Appended.{Appended}
use Rattle.conode_text.proofs.Appending.{both}

pub entry_grouped : {X : Type 0} (begin default value low high mappable end : List X) {t u v : Option (List X)}
    → Appended t begin u → Appended u (default ++ (value ++ (low ++ (high ++ (mappable ++ end))))) v
    → Appended t (begin ++ (default ++ value ++ low ++ high) ++ mappable ++ end) v
entry_grouped begin default value low high mappable end {t = t} {v = v} begun put =
    let grouped : begin ++ (default ++ (value ++ (low ++ (high ++ (mappable ++ end))))) ≡ begin ++ (default ++ value ++ low ++ high) ++ mappable ++ end = simp append_assoc in
    subst (λ part. Appended t part v) grouped (both begun put)
