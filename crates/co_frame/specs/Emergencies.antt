-- Emergencies (CiA 301, 7.2.7).
use Rattle.std.specs.Prelude.{◌≡◌, ◌==◌, ℕ, if◌then◌else◌, Option, Some, None, List, ◌∷◌, ◌++◌, length, slice_index, take, drop}
use Rattle.co_value.specs.Numbers.{unsigned_of, low_bytes}
use Rattle.co_frame.specs.declared.emergency.Emergency.{Emergency}

-- eight bytes: the emergency error code, its low byte first, the error register, and five of the
-- manufacturer's
pub record SpellsEmergency (emergency : Emergency) (bytes : List ℕ) : Type 0 where
  pub length : length bytes ≡ 8
  pub code : emergency.code ≡ unsigned_of (take 2 bytes)
  pub register : emergency.register ≡ slice_index bytes 2
  pub manufacturer : emergency.manufacturer ≡ drop 3 bytes

-- the data bytes of an emergency
abbrev pub emergency_bytes : Emergency → List ℕ
emergency_bytes emergency = low_bytes 2 emergency.code ++ emergency.register ∷ emergency.manufacturer

-- what the data bytes say
abbrev pub emergency_in : List ℕ → Option Emergency
emergency_in bytes =
    if length bytes == 8
    then Some (record {
      code = unsigned_of (take 2 bytes);
      register = slice_index bytes 2;
      manufacturer = drop 3 bytes;
    })
    else None
