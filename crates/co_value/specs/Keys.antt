-- How keys compare: by index, and then by sub-index (CiA 301, 7.4).
use Rattle.std.specs.Prelude.{◌≡◌, ℕ, ◌==◌, ◌&&◌, ◌||◌, Bool, true, nat_lt}
use Rattle.std.specs.Ordering.{nat_cmp, ordering_then, is_eq, is_lt}
use Rattle.std.specs.Cmp.{IsTotalOrder, nat_cmp_total, Equal-is}
use Rattle.std.specs.declared.cmp.Ordering.{Ordering}
use Rattle.std.specs.declared.cmp.Ordering.TheVariants.{Less, Equal, Greater}
use Rattle.std.proofs.Common.{cond, false, refl, sym, ap, ◌∙◌, eqb, ltb, arith}
use Rattle.std.proofs.lemmas.Cmp.{on_total, then_total}
use Rattle.std.proofs.lemmas.Bool.Decides.{nat_tests}
use Rattle.std.proofs.lemmas.Map.Lookups.{CmpEqualImpliesEq, exact_pairs, exact_unsigned}
use Rattle.co_value.specs.declared.key.Key.{Key}

-- the same index and the same sub-index
abbrev pub same_key : Key → Key → Bool
same_key a b = (a.index == b.index) && (a.sub == b.sub)

-- a lower index, or the same index and a lower sub-index
abbrev pub is_key_before : Key → Key → Bool
is_key_before a b = nat_lt a.index b.index || ((a.index == b.index) && nat_lt a.sub b.sub)

-- the order of two keys: that of the indices, or of the sub-indices where those are equal
abbrev pub key_cmp : Key → Key → Ordering
key_cmp a b = ordering_then (nat_cmp a.index b.index) (nat_cmp a.sub b.sub)

-- ---- what holds of them, for maps from keys

-- the order is total
pub key_cmp_total : IsTotalOrder key_cmp
key_cmp_total = then_total (on_total (λ k. k.index) nat_cmp_total) (on_total (λ k. k.sub) nat_cmp_total)

-- keys that compare as equal are the same
pub key_cmp_exact : CmpEqualImpliesEq key_cmp
key_cmp_exact a b h = ap (λ (p : ℕ × ℕ). record { index = p.0; sub = p.1 }) (exact_pairs nat_cmp nat_cmp exact_unsigned exact_unsigned (a.index, a.sub) (b.index, b.sub) h)

by_tests : (less same : Bool) → (less ≡ true → same ≡ false) → is_eq (cond less Less (cond same Equal Greater)) ≡ same
by_tests true same h = sym (h refl)
by_tests false true h = refl
by_tests false false h = refl

same_number : (m n : ℕ) → is_eq (nat_cmp m n) ≡ eqb m n
same_number m n = by_tests (ltb m n) (eqb m n) (λ h. grind (arith, nat_tests))

both_eq : (o p : Ordering) → is_eq (ordering_then o p) ≡ is_eq o && is_eq p
both_eq Less p = refl
both_eq Equal p = refl
both_eq Greater p = refl

pair_before : (less same less' same' : Bool) → (less ≡ true → same ≡ false) → is_lt (ordering_then (cond less Less (cond same Equal Greater)) (cond less' Less (cond same' Equal Greater))) ≡ less || (same && less')
pair_before true same less' same' h = refl
pair_before false true true same' h = refl
pair_before false true false true h = refl
pair_before false true false false h = refl
pair_before false false less' same' h = refl

-- two keys compare as equal exactly where they are the same
pub is_eq-key_cmp : (a b : Key) → is_eq (key_cmp a b) ≡ same_key a b
is_eq-key_cmp a b =
    both_eq (nat_cmp a.index b.index) (nat_cmp a.sub b.sub) ∙ ap (λ t. t && is_eq (nat_cmp a.sub b.sub)) (same_number a.index b.index)
    ∙ ap (λ t. eqb a.index b.index && t) (same_number a.sub b.sub)

-- and as less exactly where the first goes before
pub is_lt-key_cmp : (a b : Key) → is_lt (key_cmp a b) ≡ is_key_before a b
is_lt-key_cmp a b = pair_before (ltb a.index b.index) (eqb a.index b.index) (ltb a.sub b.sub) (eqb a.sub b.sub) (λ h. grind (arith, nat_tests))

-- the same key is one key
pub same_key-is : (a b : Key) → same_key a b ≡ true → a ≡ b
same_key-is a b h = key_cmp_exact a b ((Equal-is (key_cmp a b)).0 (is_eq-key_cmp a b ∙ h))

pub same_key-refl : (a : Key) → same_key a a ≡ true
same_key-refl a =
    let index : eqb a.index a.index ≡ true = grind (arith, nat_tests) in
    let sub : eqb a.sub a.sub ≡ true = grind (arith, nat_tests) in
    rw (index, sub) refl
