-- The sum has the bytes that were there, and then those.
use Rattle.std.proofs.Common.{ℕ, List, ◌∙◌, ap, ◌≡◌, ◌+◌, ◌*◌, ◌^◌, ◌<◌, ◌%◌, ◌≤◌, ◌++◌, length, arith}
use Rattle.co_value.specs.Numbers.{unsigned_of, low_bytes, AreBytes}
use Rattle.co_value.proofs.Bytes.{bytes_by_index}
use Rattle.co_value.proofs.Packing.{length-low_bytes, packed_fits, packed_sum, packed_below, packed_append}
use Rattle.co_value.proofs.packed_bytes.PackedBytes.append.Goals as goal

few : (held number : ℕ) (old bytes : List ℕ) → low_bytes held number ≡ old → length old + length bytes ≤ 8 → held + length bytes ≤ 8
few held number old bytes e h = omega (arith, h, ap length e, length-low_bytes held number)

-- what is added is the number of the bytes
sum : (held number result : ℕ) (bytes : List ℕ) → held + length bytes ≤ 8 → number < 256 ^ held → AreBytes bytes → result ≡ unsigned_of bytes → number + result * 2 ^ (8 * held) % 18446744073709551616 ≡ number + 256 ^ held * unsigned_of bytes
sum held number result bytes room below are_bytes e = rw e (packed_sum held number bytes room below are_bytes)

pub overflow_add-self : goal.overflow_add-self
overflow_add-self c =
    let held = c.self.inside.length in
    let number = c.self.inside.number in
    let bytes = c.args.bytes.now in
    let are_bytes = bytes_by_index bytes (λ k below. omega (arith, c.type_inv.bytes k)) in
    let room = few held number c.args.self.now bytes c.self.view_is c.requires in
    omega (arith, sum held number c.unsigned_of.result bytes room c.self.invariant.1 are_bytes c.unsigned_of.ensures.number, packed_fits held number bytes room c.self.invariant.1 are_bytes)

pub invariant_of-self : goal.invariant_of-self
invariant_of-self c =
    let held = c.self.inside.length in
    let number = c.self.inside.number in
    let bytes = c.args.bytes.now in
    let are_bytes = bytes_by_index bytes (λ k below. omega (arith, c.type_inv.bytes k)) in
    let room = few held number c.args.self.now bytes c.self.view_is c.requires in
    (room, rw (sum held number c.unsigned_of.result bytes room c.self.invariant.1 are_bytes c.unsigned_of.ensures.number) (packed_below held number bytes c.self.invariant.1 are_bytes))

pub returns-then-not-is_empty : goal.returns-then-not-is_empty
returns-then-not-is_empty c =
    let held = c.self.inside.length in
    let number = c.self.inside.number in
    let bytes = c.args.bytes.now in
    let are_bytes = bytes_by_index bytes (λ k below. omega (arith, c.type_inv.bytes k)) in
    let room = few held number c.args.self.now bytes c.self.view_is c.requires in
    ap (low_bytes (held + length bytes)) (sum held number c.unsigned_of.result bytes room c.self.invariant.1 are_bytes c.unsigned_of.ensures.number)
    ∙ packed_append held number bytes c.self.invariant.1 are_bytes ∙ ap (λ (old : List ℕ). old ++ bytes) c.self.view_is
