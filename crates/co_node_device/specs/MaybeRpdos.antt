-- The number of an RPDO, or none, as one number: 512 is none.
use Rattle.std.specs.Prelude.{◌≡◌, ℕ, ◌≤◌, nat_lt, if◌then◌else◌, Option, Some, None}
use Rattle.std.proofs.Common.{Bool, true, false, refl, ap, arith}
use Rattle.std.proofs.lemmas.Bool.Decides.{nat_tests}
use Rattle.co_node_device.specs.declared.maybe_rpdo.MaybeRpdo.TheInside.{Inside}

abbrev pub option_of : Inside → Option ℕ
option_of a = if nat_lt a.number 512 then Some a.number else None

abbrev pub IsUpTo512 : Inside → Type 0
IsUpTo512 a = a.number ≤ 512

abbrev pub fields_of : Option ℕ → Inside
fields_of None = record { number = 512 }
fields_of (Some n) = record { number = n }

pub fields_of-option_of : (a : Inside) → IsUpTo512 a → fields_of (option_of a) ≡ a
fields_of-option_of a h = by (nat_lt a.number 512) refl
  where
    by : (b : Bool) → nat_lt a.number 512 ≡ b → fields_of (if b then Some a.number else None) ≡ a
    by true below = refl
    by false past =
        let few : a.number ≤ 512 = h in
        let last : 512 ≡ a.number = grind (arith, nat_tests) in
        ap (λ (n : ℕ). record { number = n }) last
