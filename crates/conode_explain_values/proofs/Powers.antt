-- Powers of ten fit their types.
use Rattle.std.proofs.Common.{ℕ, ◌<◌, ◌≤◌, ◌^◌, arith}
use Rattle.std.proofs.Math.Nat.{one-le-pow, pow-le-pow_right}

pub power_some : (k : ℕ) → 1 ≤ 10 ^ k
power_some k = one-le-pow k 10 (omega arith)

pub power_most : (k : ℕ) → k ≤ 38 → 10 ^ k ≤ 10 ^ 38
power_most k few = pow-le-pow_right (omega arith) few

pub power_fits : (k : ℕ) → k ≤ 38 → 10 ^ k < 2 ^ 128
power_fits k few =
    let h : 10 ^ k ≤ 10 ^ 38 = power_most k few in
    omega arith

-- what a power of ten of a u128 keeps to
pub ruleset powers = (power_fits, power_some, power_most)

pub small_power_fits : (k : ℕ) → k ≤ 19 → 10 ^ k < 2 ^ 64
small_power_fits k few =
    let h : 10 ^ k ≤ 10 ^ 19 = pow-le-pow_right (omega arith) few in
    omega arith
