-- The segments of a transfer: seven bytes each, in turn, the last where no bytes remain.
use Rattle.std.proofs.Common.{◌≡◌, ℕ, suc, ◌+◌, ◌*◌, ◌<◌, ◌≤◌, Bool, true, false, List, ◌++◌, not, length, take, drop, Some, refl, sym, arith, length-take}
use Rattle.std.specs.Prelude.{nat_le}
use Rattle.std.proofs.Math.Seq.{take-add}
use Rattle.std.proofs.lemmas.List.{take_all}
use Rattle.std.proofs.lemmas.Bool.Decides.{nat_tests}
use Rattle.co_sdo_client.specs.Segments.{part_after, is_last_after, segments_for}
use Rattle.co_sdo_client.specs.Verdicts.{same_bool}
use Rattle.co_sdo.specs.Replies.{toggle_refusal}

-- segment k is the last one, or others follow
pub is_end : (k n : ℕ) → suc k ≡ segments_for n → nat_le n (7 * k + 7) ≡ true
is_end k n h = grind (arith, nat_tests)

pub not_end : (k n : ℕ) → suc k < segments_for n → nat_le n (7 * k + 7) ≡ false
not_end k n h = grind (arith, nat_tests)

pub same : (b : Bool) → same_bool b b ≡ true
same true = refl
same false = refl

-- the toggle of the segment before is refused
pub other_toggle : (b : Bool) → toggle_refusal b (not b) ≡ Some 0x05030000
other_toggle true = refl
other_toggle false = refl

pub joined : (v : List ℕ) (k : ℕ) → take (7 * k) v ++ part_after k v ≡ take (7 * suc k) v
joined v k = let more : 7 * suc k ≡ 7 * k + 7 = omega arith in rw more (sym (take-add (7 * k) 7 v))

pub taken_all : (v : List ℕ) (k : ℕ) → is_last_after k v ≡ true → take (7 * suc k) v ≡ v
taken_all v k l = take_all (7 * suc k) v (grind (arith, nat_tests))

pub part_small : (k : ℕ) (v : List ℕ) → length (part_after k v) ≤ 7
part_small k v = let n = length-take 7 (drop (7 * k) v) in omega arith
