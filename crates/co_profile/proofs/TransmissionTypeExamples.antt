-- The transmission types, on both sides of each edge, computed from the definitions.
use Rattle.std.proofs.Common.{◌≡◌, [], ◌∷◌, refl}
use Rattle.std.specs.Prelude.{true, false, map}
use Rattle.co_profile.specs.TransmissionTypes.{is_synchronous, is_event_driven, is_supported_type}

by_syncs : map is_synchronous (0 ∷ 1 ∷ 240 ∷ 241 ∷ 253 ∷ 254 ∷ 255 ∷ []) ≡ true ∷ true ∷ true ∷ false ∷ false ∷ false ∷ false ∷ []
by_syncs = refl

by_events : map is_event_driven (0 ∷ 240 ∷ 241 ∷ 253 ∷ 254 ∷ 255 ∷ []) ≡ false ∷ false ∷ false ∷ false ∷ true ∷ true ∷ []
by_events = refl

supported : map is_supported_type (0 ∷ 240 ∷ 241 ∷ 253 ∷ 254 ∷ 255 ∷ []) ≡ true ∷ true ∷ false ∷ false ∷ true ∷ true ∷ []
supported = refl
