-- EMCY messages, evaluated.
use Rattle.std.proofs.Common.{[], ◌∷◌, ◌≡◌, Some, None, refl}
use Rattle.conode_record.specs.declared.content.Content.TheVariants.{Data, Remote}
use Rattle.conode_record.specs.declared.fields.Identifier.TheVariants.{Base, Extended}
use Rattle.conode_stats_counts.specs.declared.failure.Reason.TheVariants.{Code, NoCode}
use Rattle.conode_stats_counts.specs.Emergencies.{emergency_as}
use Rattle.conode_stats_counts.specs.ShownTimes.{first_word}

-- 8110h: CAN overrun (CiA 301, table 26)
overrun : emergency_as (Base 0x086) (Data (0x10 ∷ 0x81 ∷ 0x11 ∷ 0 ∷ 0 ∷ 0 ∷ 0 ∷ 0 ∷ [])) 40
    ≡ Some (record { cause = record { node = 6; reason = Code 0x8110 }; micros = 40 })
overrun = refl

-- an error is gone
reset_error : first_word (0 ∷ 0 ∷ 0 ∷ 0 ∷ 0 ∷ 0 ∷ 0 ∷ 0 ∷ []) ≡ Some 0
reset_error = refl

greatest_code : first_word (0xFF ∷ 0xFF ∷ []) ≡ Some 0xFFFF
greatest_code = refl

one_byte : first_word (0x10 ∷ []) ≡ None
one_byte = refl

first_node : emergency_as (Base 0x081) (Data []) 40 ≡ Some (record { cause = record { node = 1; reason = NoCode }; micros = 40 })
first_node = refl

last_node : emergency_as (Base 0x0FF) (Data []) 40 ≡ Some (record { cause = record { node = 127; reason = NoCode }; micros = 40 })
last_node = refl

sync : emergency_as (Base 0x080) (Data []) 40 ≡ None
sync = refl

time_stamp : emergency_as (Base 0x100) (Data (0 ∷ 0 ∷ 0 ∷ 0 ∷ 0 ∷ 0 ∷ [])) 40 ≡ None
time_stamp = refl

remote : emergency_as (Base 0x086) (Remote 8) 40 ≡ None
remote = refl

extended : emergency_as (Extended 0x086) (Data (0x10 ∷ 0x81 ∷ [])) 40 ≡ None
extended = refl
