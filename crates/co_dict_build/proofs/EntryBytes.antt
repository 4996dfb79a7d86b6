-- The bytes of an entry in memory.
use Rattle.std.proofs.Common.{◌≡◌, ℕ, suc, ◌<◌, List, [], ◌∷◌, length, take, get_or, Fits, w8, arith, ap, ◌∙◌}
use Rattle.std.specs.Vec.{with_items}
use Rattle.std.specs.declared.vec.Vec.{Vec}
use Rattle.std.proofs.lemmas.List.{with_items_is}
use Rattle.co_value.specs.Numbers.{AreBytes}

-- the items of a slice of bytes are bytes
pub are_bytes : (bytes : List ℕ) → ((i : ℕ) → Fits w8 (get_or bytes i 0)) → AreBytes bytes
are_bytes [] fit = tt
are_bytes (byte ∷ bytes) fit = (let below : byte < 256 = omega (arith, fit 0) in below, are_bytes bytes (λ i. fit (suc i)))

-- the front of a buffer over whose items others were written
pub front_written : {Z : Type 0} (buffer : Vec ℕ Z) (items bytes : List ℕ) → length items ≡ buffer.len → take (length bytes) items ≡ bytes → take (length bytes) (with_items buffer items).items ≡ bytes
front_written buffer items bytes same front = ap (take (length bytes)) (with_items_is buffer items same) ∙ front
