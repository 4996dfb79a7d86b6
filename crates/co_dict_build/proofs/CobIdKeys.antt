-- The COB-ID words of the emergency and of PDOs have the type UNSIGNED32.
use Rattle.std.proofs.Common.{◌≡◌, true, Some, arith, inl, inr}
use Rattle.std.proofs.lemmas.Bool.{and_parts, or_cases}
use Rattle.std.proofs.lemmas.Bool.Decides.{nat_tests}
use Rattle.std.specs.Prelude.{◌==◌, ◌&&◌}
use Rattle.co_value.specs.declared.key.Key.{Key}
use Rattle.co_value.specs.declared.data_type.DataType.TheVariants.{Unsigned32}
use Rattle.co_profile.specs.FixedTypes.{fixed_type_of}
use Rattle.co_profile.specs.Indices.{is_within, rpdo_communication, tpdo_communication, emergency_cob_id}
use Rattle.co_dict_build.specs.BuildFaults.{is_communication, is_word_key}

emergency_type : (key : Key) → ((key.index == emergency_cob_id) && (key.sub == 0)) ≡ true → fixed_type_of key ≡ Some Unsigned32
emergency_type key h = grind (arith, nat_tests)

rpdo_type : (key : Key) → is_within rpdo_communication key.index ≡ true → (key.sub == 1) ≡ true → fixed_type_of key ≡ Some Unsigned32
rpdo_type key h i = grind (arith, nat_tests)

tpdo_type : (key : Key) → is_within tpdo_communication key.index ≡ true → (key.sub == 1) ≡ true → fixed_type_of key ≡ Some Unsigned32
tpdo_type key h i = grind (arith, nat_tests)

pub word_type : (key : Key) → is_word_key key ≡ true → fixed_type_of key ≡ Some Unsigned32
word_type key h =
    elim (or_cases _ _ h) [
      | inl emergency ↦ emergency_type key emergency
      | inr pdo ↦
          let parts = and_parts (is_communication key.index) (key.sub == 1) pdo in
          elim (or_cases _ _ parts.0) [ inl rpdo ↦ rpdo_type key rpdo parts.1 | inr tpdo ↦ tpdo_type key tpdo parts.1 ]
    ]
