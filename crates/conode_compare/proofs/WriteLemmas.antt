-- Lines written one after the other.
use Rattle.std.proofs.Common.{◌≡◌, ℕ, Bool, true, false, List, [], ◌∷◌, ◌++◌, Option, Result, Ok, Err, OnOk, sym}
use Rattle.std.specs.Prelude.{if◌then◌else◌}
use Rattle.std.proofs.lemmas.Bool.{false≢true}
use Rattle.conode_io.specs.Written.{WritesLines}
use Rattle.conode_io.proofs.WriteLemmas.{lines_after}

-- four times some lines
pub four : (a b c d e : Option (List ℕ)) (first second third fourth : List (List ℕ)) → WritesLines a b first → WritesLines b c second
    → WritesLines c d third → WritesLines d e fourth → WritesLines a e (first ++ (second ++ (third ++ fourth)))
four a b c d e first second third fourth p q r s =
    lines_after a b e first (second ++ (third ++ fourth)) p
    (lines_after b c e second (third ++ fourth) q (lines_after c d e third fourth r s))

-- the last of several calls
pub at_last : {X E : Type 0} (r : Result X E) {P Q : Type 0} → (P → Q) → OnOk r P → OnOk r Q
at_last (Ok value) f p = f p
at_last (Err fault) f p = tt

-- a line, and more where they are asked for
module _ (old mid new : Option (List ℕ)) (line : List ℕ) (more : List (List ℕ)) (first : WritesLines old mid (line ∷ [])) where
  pub with_more : (wanted : Bool) → wanted ≡ true → WritesLines mid new more → WritesLines old new (line ∷ (if wanted then more else []))
  with_more true is later = lines_after old mid new (line ∷ []) more first later
  with_more false is later = absurd (false≢true is)

  pub without_more : (wanted : Bool) → wanted ≡ false → WritesLines old mid (line ∷ (if wanted then more else []))
  without_more true is = absurd (false≢true (sym is))
  without_more false is = first
