-- The room that is given is that of a device which is built with it.
use Rattle.std.proofs.Common.{◌≡◌, ℕ, ◌/◌, Bool, true, false, List, [], ◌∷◌, length, Option, Some, None, refl, arith}
use Rattle.std.specs.Prelude.{if◌then◌else◌, not, ◌&&◌, nat_le, max, option_map, IfSome}
use Rattle.co_dict_build.specs.Capacities as capacities
use Rattle.co_dict_build.specs.Capacities.{Limits, capacity_at, capacity_of, configured, decoded, default_bytes, string_capacity}
use Rattle.co_profile.specs.declared.access.Access.{Access}
use Rattle.co_profile.specs.declared.access.Access.TheVariants.{Ro, Wo, Rw, Rwr, Rww, Constant}
use Rattle.co_sheet.specs.Content.{Row}
use Rattle.co_sheet.specs.Limits.{Default, absent, number, node_id, text, pairs}
use Rattle.co_value.specs.declared.data_type.DataType.{DataType}
use Rattle.co_value.specs.declared.data_type.DataType.TheVariants.{Boolean, Integer8, Integer16, Integer24, Integer32, Integer40, Integer48, Integer56, Integer64, Unsigned8, Unsigned16, Unsigned24, Unsigned32, Unsigned40, Unsigned48, Unsigned56, Unsigned64, VisibleString, OctetString, Domain}
use Rattle.conode_compare_values.specs.declared.rooms.Rooms.{Rooms}
use Rattle.conode_compare_values.specs.SheetValues.{default_length, is_read_only, room_by, room_of}
use Rattle.conode_compare_laws.specs.GivenRooms.{AreRoomsOf}

-- ---- defaults and access

length_decoded : (digits : List ℕ) → length digits / 2 ≡ length (decoded digits)
length_decoded [] = refl
length_decoded (digit ∷ []) = refl
length_decoded (high ∷ low ∷ digits) = let rest = length_decoded digits in omega (arith, rest)

same_length : (default : Default) → default_length default ≡ length (default_bytes default)
same_length absent = refl
same_length (number n) = refl
same_length (node_id n) = refl
same_length (text bytes) = refl
same_length (pairs digits) = length_decoded digits

same_access : (access : Access) → is_read_only access ≡ capacities.is_read_only access
same_access Ro = refl
same_access Wo = refl
same_access Rw = refl
same_access Rwr = refl
same_access Rww = refl
same_access Constant = refl

-- ---- an entry that can be written

of_string : (limits : Limits) (row : Row) (given : Option ℕ) → limits.own ≡ [] → capacities.is_read_only row.access ≡ false → IfSome given (λ bytes. bytes ≡ limits.strings)
    → IfSome (option_map (max (default_length row.default)) given) (λ room. room ≡ string_capacity limits row)
of_string limits row None own free is = tt
of_string limits row (Some bytes) own free is = rw (free, own, is, same_length row.default) refl

of_domain : (limits : Limits) (row : Row) (given : Option ℕ) → limits.own ≡ [] → IfSome given (λ bytes. bytes ≡ limits.domains)
    → IfSome given (λ room. room ≡ configured limits.own row.key limits.domains)
of_domain limits row None own is = tt
of_domain limits row (Some bytes) own is = rw (own, is) refl

of_type : (limits : Limits) (rooms : Rooms) (row : Row) (t : DataType) → AreRoomsOf limits rooms → capacities.is_read_only row.access ≡ false
    → IfSome (room_by rooms row t) (λ room. room ≡ capacity_at limits row t)
of_type limits rooms row Boolean are free = tt
of_type limits rooms row Integer8 are free = tt
of_type limits rooms row Integer16 are free = tt
of_type limits rooms row Integer24 are free = tt
of_type limits rooms row Integer32 are free = tt
of_type limits rooms row Integer40 are free = tt
of_type limits rooms row Integer48 are free = tt
of_type limits rooms row Integer56 are free = tt
of_type limits rooms row Integer64 are free = tt
of_type limits rooms row Unsigned8 are free = tt
of_type limits rooms row Unsigned16 are free = tt
of_type limits rooms row Unsigned24 are free = tt
of_type limits rooms row Unsigned32 are free = tt
of_type limits rooms row Unsigned40 are free = tt
of_type limits rooms row Unsigned48 are free = tt
of_type limits rooms row Unsigned56 are free = tt
of_type limits rooms row Unsigned64 are free = tt
of_type limits rooms row VisibleString are free = of_string limits row rooms.strings are.own free are.strings
of_type limits rooms row OctetString are free = of_string limits row rooms.strings are.own free are.strings
of_type limits rooms row Domain are free = of_domain limits row rooms.domains are.own are.domains

-- ---- each entry

pub room_is : (limits : Limits) (rooms : Rooms) (row : Row) → AreRoomsOf limits rooms → IfSome (room_of rooms row) (λ room. room ≡ capacity_of limits row)
room_is limits rooms row are = rw (same_access row.access) (by (nat_le 0x2000 row.key.index) (capacities.is_read_only row.access) refl)
  where
    by : (above fixed : Bool) → capacities.is_read_only row.access ≡ fixed → IfSome (if above && not fixed then room_by rooms row row.data_type else None) (λ room. room ≡ capacity_of limits row)
    by false fixed e = tt
    by true true e = tt
    by true false e = of_type limits rooms row row.data_type are e
