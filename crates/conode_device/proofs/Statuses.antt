-- When the status is 0.
use Rattle.std.proofs.Common.{◌≡◌, ℕ, refl, sym, ◌∙◌}
use Rattle.conode_io.specs.declared.ending.Ending.{Ending}
use Rattle.conode_io.specs.declared.ending.Ending.TheVariants.{Said, Unsaid, Whole}
use Rattle.conode_io.specs.Endings.{ending_status}

pub only_whole : (ending : Ending) (status : ℕ) → status ≡ ending_status ending → status ≡ 0 → ending ≡ Whole
only_whole Whole status is zero = refl
only_whole (Said fault) status is zero = let one : 0 ≡ 1 = sym zero ∙ is in cc
only_whole (Unsaid fault) status is zero = let one : 0 ≡ 1 = sym zero ∙ is in cc
