-- The parts that a frame's bytes say are those that the bytes spell.
use Rattle.std.proofs.Common.{◌≡◌, ℕ, true, false, Option, List, refl}
use Rattle.co_frame.specs.declared.sdo_request.ExpeditedData.{ExpeditedData}
use Rattle.co_frame.specs.SdoFields.{has_bit, key_in}
use Rattle.co_frame.specs.SdoParts.{SpellsExpedited, SpellsInitiate, SpellsBlockInitiate, expedited_in, size_in}
use Rattle.co_frame.proofs.Branches.{branches}

pub expedited_spelled : (bytes : List ℕ) → has_bit 1 bytes ≡ true → SpellsExpedited (key_in bytes) (expedited_in bytes) bytes
expedited_spelled bytes e =
    branches (λ (x : ExpeditedData). SpellsExpedited (key_in bytes) x bytes) (has_bit 0 bytes) _ _ (λ s. (e, s, refl, refl)) (λ s. (e, s, refl, refl))

pub initiate_spelled : (bytes : List ℕ) → has_bit 1 bytes ≡ false → SpellsInitiate (key_in bytes) (size_in (has_bit 0 bytes) bytes) bytes
initiate_spelled bytes e =
    branches (λ (x : Option ℕ). SpellsInitiate (key_in bytes) x bytes) (has_bit 0 bytes) _ _ (λ s. (e, s, refl, refl)) (λ s. (e, s, refl))

pub block_initiate_spelled : (bytes : List ℕ) → has_bit 0 bytes ≡ false → SpellsBlockInitiate (key_in bytes) (size_in (has_bit 1 bytes) bytes) bytes
block_initiate_spelled bytes e =
    branches (λ (x : Option ℕ). SpellsBlockInitiate (key_in bytes) x bytes) (has_bit 1 bytes) _ _ (λ s. (e, s, refl, refl)) (λ s. (e, s, refl))
