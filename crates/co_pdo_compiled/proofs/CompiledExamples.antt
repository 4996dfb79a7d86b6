-- Compiled mappings on a small device, computed from the definitions.
use Rattle.std.proofs.Common.{◌≡◌, ℕ, pos, negsuc, [], ◌∷◌, true, false, true≢false, refl, ap}
use Rattle.std.specs.Prelude.{◌==◌, unwrap_or}
use Rattle.std.specs.Option.{option_map_or}
use Rattle.co_value.specs.declared.data_type.DataType.TheVariants.{Boolean, Integer16, Unsigned8, Unsigned32, Domain}
use Rattle.co_profile.specs.declared.access.Access.TheVariants.{Rw}
use Rattle.co_dict.specs.declared.row.Row.{Row}
use Rattle.co_dict.proofs.ExampleDevice.{at, number_row, text_row, device}
use Rattle.co_pdo.specs.declared.mapping.Mapped.TheVariants.{Entry, Dummy}
use Rattle.co_pdo_compiled.specs.declared.part.PlacedEntry.{PlacedEntry}
use Rattle.co_pdo_compiled.specs.declared.part.Part.TheVariants.{Placed, PassedOver}
use Rattle.co_pdo_compiled.specs.CompiledMappings.{mapping_in, has_limits, is_limited, HasEntry}

-- 2002:00 with a width, a place and a row; its place is 33, since 33 keys stand before it
abbrev number : ℕ → ℕ → Row → PlacedEntry
number width place row = record { key = at 0x2002 0; width = width; place = place; row = row }

in_order : mapping_in (Placed (number 4 33 (number_row Unsigned32 Rw true)) ∷ PassedOver 2 ∷ []) ≡ Entry (at 0x2002 0) 4 ∷ Dummy 2 ∷ []
in_order = refl

there : HasEntry device (number 4 33 (number_row Unsigned32 Rw true))
there = record { place = refl; row = refl; width = refl }

at_the_place_before : HasEntry device (number 4 32 (number_row Unsigned32 Rw true)) → ⊥
at_the_place_before has = let place : true ≡ false = ap (λ o. unwrap_or o 0 == 33) has.place in absurd (true≢false place)

with_another_row : HasEntry device (number 4 33 (number_row Unsigned32 Rw false)) → ⊥
with_another_row has = let mappable : true ≡ false = ap (λ o. option_map_or (λ row. row.mappable) o false) has.row in absurd (true≢false mappable)

of_another_width : HasEntry device (number 2 33 (number_row Unsigned32 Rw true)) → ⊥
of_another_width has = let width : true ≡ false = ap (λ o. unwrap_or o 0 == 4) has.width in absurd (true≢false width)

-- ---- limits: those of the type are none, but a BOOLEAN's byte may be 2

of_the_type : has_limits (number_row Unsigned8 Rw true) ≡ false
of_the_type = refl

signed_of_the_type : has_limits (number_row Integer16 Rw true) ≡ false
signed_of_the_type = refl

wider : has_limits (record (number_row Integer16 Rw true) { low = negsuc 40000; high = pos 40000 }) ≡ false
wider = refl

high_by_one : has_limits (record (number_row Unsigned8 Rw true) { high = pos 254 }) ≡ true
high_by_one = refl

low_by_one : has_limits (record (number_row Integer16 Rw true) { low = negsuc 32766 }) ≡ true
low_by_one = refl

boolean : has_limits (number_row Boolean Rw true) ≡ true
boolean = refl

without_a_number : has_limits (text_row Domain 4) ≡ false
without_a_number = refl

of_a_dummy : is_limited (PassedOver 1) ≡ false
of_a_dummy = refl

of_an_entry : is_limited (Placed (number 1 33 (record (number_row Unsigned8 Rw true) { low = pos 1 }))) ≡ true
of_an_entry = refl
