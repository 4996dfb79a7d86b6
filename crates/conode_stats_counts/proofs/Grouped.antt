-- One frame more, as it is counted, is one frame more by definition.
use Rattle.std.proofs.Common.{ℕ, suc, ◌+◌, Bool, true, false, cond, List, [], ◌∷◌, ◌++◌, ◌≡◌, ◌∙◌, length, map, refl, sym, ap, ap₂, subst, arith}
use Rattle.std.specs.Prelude.{filter, nat_lt, not, slice_set}
use Rattle.std.specs.Bool.{Decides}
use Rattle.std.specs.List.{slice_index_or, position_or_len}
use Rattle.std.proofs.Math.Numerals.{one-add}
use Rattle.std.proofs.lemmas.Bool.Decides.{nat_tests}
use Rattle.std.proofs.lemmas.List.{length-map, map-append}
use Rattle.co_text.proofs.Tests.{by_test}
use Rattle.conode_stats_counts.specs.Groups.{grouped, group_with, key_with, keys_of, left_out_by, no_room}

-- a test of numbers that are one greater
tested_more : (a b : ℕ) → nat_lt (1 + a) (suc b) ≡ nat_lt a b
tested_more a b = by_test (nat_lt a b)
    (λ less. let more : nat_lt (1 + a) (suc b) ≡ true = grind (arith, nat_tests) in more ∙ sym less)
    (λ not_less. let more : nat_lt (1 + a) (suc b) ≡ false = grind (arith, nat_tests) in more ∙ sym not_less)

module _ {K : Type 0} (same : K → K → Bool) (decides : (a b : K) → Decides (same a b) (a ≡ b)) where
  -- ---- keys

  -- whether a key is among others
  abbrev is_among : List K → K → Bool
  is_among keys x = nat_lt (position_or_len (λ k. same k x) keys) (length keys)

  first_is : (k x : K) (keys : List K) → same k x ≡ true → is_among (k ∷ keys) x ≡ true
  first_is k x keys holds = rw holds (grind (arith, nat_tests))

  first_isn't : (k x : K) (keys : List K) → same k x ≡ false → is_among (k ∷ keys) x ≡ is_among keys x
  first_isn't k x keys fails = rw fails (tested_more (position_or_len (λ k. same k x) keys) (length keys))

  symmetric : (a b : K) → same a b ≡ false → same b a ≡ false
  symmetric a b fails = by_test (same b a)
      (λ holds. absurd (let e : same a b ≡ true = (decides a b).1 (sym ((decides b a).0 holds)) in cc))
      (λ other. other)

  -- no key comes twice
  abbrev Distinct : List K → Type 0
  Distinct [] = Unit {0}
  Distinct (k ∷ keys) = (is_among keys k ≡ false) × Distinct keys

  among_last : (keys : List K) (y x : K) → is_among keys x ≡ false → same y x ≡ false → is_among (keys ++ y ∷ []) x ≡ false
  among_last [] y x none fails = first_isn't y x [] fails ∙ none
  among_last (k ∷ keys) y x none fails = by_test (same k x)
      (λ holds. absurd (let e : is_among (k ∷ keys) x ≡ true = first_is k x keys holds in cc))
      (λ other. first_isn't k x (keys ++ y ∷ []) other ∙ among_last keys y x (sym (first_isn't k x keys other) ∙ none) fails)

  among_front : (keys : List K) (y x : K) → is_among (keys ++ y ∷ []) x ≡ false → (is_among keys x ≡ false) × (same y x ≡ false)
  among_front [] y x none = by_test (same y x)
      (λ holds. absurd (let e : is_among (y ∷ []) x ≡ true = first_is y x [] holds in cc))
      (λ fails. (refl, fails))
  among_front (k ∷ keys) y x none = by_test (same k x)
      (λ holds. absurd (let e : is_among (k ∷ (keys ++ y ∷ [])) x ≡ true = first_is k x (keys ++ y ∷ []) holds in cc))
      (λ other. let rest = among_front keys y x (sym (first_isn't k x (keys ++ y ∷ []) other) ∙ none) in
      (first_isn't k x keys other ∙ rest.0, rest.1))

  distinct_last : (keys : List K) (x : K) → Distinct keys → is_among keys x ≡ false → Distinct (keys ++ x ∷ [])
  distinct_last [] x distinct none = (none, tt)
  distinct_last (k ∷ keys) x distinct none = by_test (same k x)
      (λ holds. absurd (let e : is_among (k ∷ keys) x ≡ true = first_is k x keys holds in cc))
      (λ fails. (
        among_last keys x k distinct.0 (symmetric k x fails),
        distinct_last keys x distinct.1 (sym (first_isn't k x keys fails) ∙ none),
      ))

  module _ (most : ℕ) where
    key_there : (keys : List K) (x : K) → is_among keys x ≡ true → key_with same most keys x ≡ keys
    key_there keys x holds = rw holds refl

    key_new : (keys : List K) (x : K) → is_among keys x ≡ false → nat_lt (length keys) most ≡ true → key_with same most keys x ≡ keys ++ x ∷ []
    key_new keys x fails room = rw (fails, room) refl

    key_over : (keys : List K) (x : K) → is_among keys x ≡ false → nat_lt (length keys) most ≡ false → key_with same most keys x ≡ keys
    key_over keys x fails full = rw (fails, full) refl

    module _ {F : Type 0} (key : F → K) where
      keys_distinct : (frames : List F) → Distinct (keys_of same key most frames)
      unfolding keys_of
      keys_distinct [] = tt
      keys_distinct (frame ∷ older) =
          let keys = keys_of same key most older in
          by_test (is_among keys (key frame))
          (λ holds. subst Distinct (sym (key_there keys (key frame) holds)) (keys_distinct older))
          (λ fails. by_test (nat_lt (length keys) most)
          (λ room. subst Distinct (sym (key_new keys (key frame) fails room)) (distinct_last keys (key frame) (keys_distinct older) fails))
          (λ full. subst Distinct (sym (key_over keys (key frame) fails full)) (keys_distinct older)))

      -- where there is room, a key that isn't there has no frame
      abbrev OfNone : List K → List F → K → Type 0
      OfNone keys frames x = nat_lt (length keys) most ≡ true → is_among keys x ≡ false → filter (λ f. same x (key f)) frames ≡ []

      of_none : (frames : List F) (x : K) → OfNone (keys_of same key most frames) frames x
      unfolding keys_of
      of_none [] x = λ room none. refl
      of_none (frame ∷ older) x =
          let keys = keys_of same key most older in
          let y = key frame in
          let P : List K → Type 0 = λ ks. OfNone ks (frame ∷ older) x in
          by_test (is_among keys y)
          (λ holds. subst P (sym (key_there keys y holds)) (λ room none. by_test (same x y)
          (λ is. absurd (let e : is_among keys x ≡ true = subst (λ (z : K). is_among keys z ≡ true) (sym ((decides x y).0 is)) holds in cc))
          (λ isn't. rw isn't (of_none older x room none))))
          (λ fails. by_test (nat_lt (length keys) most)
          (λ left. subst P (sym (key_new keys y fails left)) (λ room none.
          let parts = among_front keys y x none in
          let isn't = symmetric y x parts.1 in
          rw isn't (of_none older x left parts.0)))
          (λ full. subst P (sym (key_over keys y fails full)) (λ room none. absurd (let e : true ≡ false = sym room ∙ full in cc))))

      -- ---- rows

      module _ {R : Type 0} (make : K → List F → R) (is_own : K → R → Bool) (owns : (x k : K) (fs : List F) → is_own x (make k fs) ≡ same k x)
          (add : R → F → R) (adds : (k : K) (fs : List F) (f : F) → add (make k fs) f ≡ make k (f ∷ fs)) where
        abbrev own : List F → K → List F
        own frames k = filter (λ f. same k (key f)) frames

        abbrev made : List F → List K → List R
        made frames keys = map (λ k. make k (own frames k)) keys

        places : (x : K) (frames : List F) (keys : List K) → position_or_len (is_own x) (made frames keys) ≡ position_or_len (λ k. same k x) keys
        places x frames [] = refl
        places x frames (k ∷ keys) = rw (owns x k (own frames k)) (ap (λ (n : ℕ). cond (not (same k x)) (1 + n) 0) (places x frames keys))

        unchanged : (f : F) (frames : List F) (keys : List K) → is_among keys (key f) ≡ false → made frames keys ≡ made (f ∷ frames) keys
        unchanged f frames [] none = refl
        unchanged f frames (k ∷ keys) none = by_test (same k (key f))
            (λ holds. absurd (let e : is_among (k ∷ keys) (key f) ≡ true = first_is k (key f) keys holds in cc))
            (λ fails. let rest = unchanged f frames keys (sym (first_isn't k (key f) keys fails) ∙ none) in
            rw fails (ap (λ (rs : List R). make k (own frames k) ∷ rs) rest))

        updated : (f : F) (frames : List F) (new : R) (keys : List K) → Distinct keys → is_among keys (key f) ≡ true
            → slice_set (made frames keys) (position_or_len (λ k. same k (key f)) keys) (add (slice_index_or (made frames keys) (position_or_len (λ k. same k (key f)) keys) new) f)
            ≡ made (f ∷ frames) keys
        updated f frames new [] distinct some = absurd (let e : false ≡ true = some in cc)
        updated f frames new (k ∷ keys) distinct some = by_test (same k (key f))
            (λ holds. let none : is_among keys (key f) ≡ false = subst (λ (x : K). is_among keys x ≡ false) ((decides k (key f)).0 holds) distinct.0 in
            rw holds (ap₂ (λ (r : R) (rs : List R). r ∷ rs) (adds k (own frames k) f) (unchanged f frames keys none)))
            (λ fails. let rest = updated f frames new keys distinct.1 (sym (first_isn't k (key f) keys fails) ∙ some) in
            rw (fails, one-add) (ap (λ (rs : List R). make k (own frames k) ∷ rs) rest))

        -- a new one
        created : (f : F) (frames : List F) → nat_lt (length (keys_of same key most frames)) most ≡ true → is_among (keys_of same key most frames) (key f) ≡ false
            → add (make (key f) []) f ≡ make (key f) (own (f ∷ frames) (key f))
        created f frames room none =
            let is : same (key f) (key f) ≡ true = (decides (key f) (key f)).1 refl in
            let before = of_none frames (key f) room none in
            rw (is, before) (adds (key f) [] f)

        pub one_more : (f : F) (frames : List F)
            → group_with (is_own (key f)) (λ r. add r f) (make (key f) []) most (grouped same key most make frames) ≡ grouped same key most make (f ∷ frames)
        unfolding group_with grouped keys_of
        one_more f frames =
            let keys = keys_of same key most frames in
            let x = key f in
            let few = length-map keys (λ k. make k (own frames k)) in
            rw (places x frames keys, few)
            (by_test (is_among keys x)
            (λ holds. rw holds (updated f frames (make x []) keys (keys_distinct frames) holds))
            (λ fails. by_test (nat_lt (length keys) most)
            (λ room. rw (fails, few, room)
            (ap₂ (λ (rs : List R) (r : R). rs ++ r ∷ []) (unchanged f frames keys fails) (created f frames room fails)
            ∙ sym (map-append (λ k. make k (own (f ∷ frames) k)) keys (x ∷ []))))
            (λ full. rw (fails, few, full) (unchanged f frames keys fails))))

        pub none_more : (f : F) (frames : List F)
            → no_room (is_own (key f)) most (grouped same key most make frames) ≡ left_out_by same most (keys_of same key most frames) (key f)
        unfolding no_room grouped
        none_more f frames =
            let keys = keys_of same key most frames in
            let x = key f in
            let few = length-map keys (λ k. make k (own frames k)) in
            rw (places x frames keys, few)
            (by_test (is_among keys x)
            (λ holds. rw holds refl)
            (λ fails. rw (fails, few) refl))
