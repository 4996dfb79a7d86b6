-- What is kept of stamps is what the definitions say of them.
use Rattle.std.proofs.Common.{ℕ, suc, true, false, List, [], ◌∷◌, ◌≡◌, ◌∙◌, ◌+◌, ◌-◌, ◌<◌, length, min, ap, sym, refl, arith, lit<}
use Rattle.std.specs.Prelude.{◌==◌, nat_lt, sum}
use Rattle.std.proofs.lemmas.Bool.Decides.{nat_tests}
use Rattle.std.proofs.lemmas.List.Sums.{sum_by-cons}
use Rattle.co_text.proofs.Tests.{by_test}
use Rattle.conode_stats_counts.specs.declared.tally.Tally.{Tally}
use Rattle.conode_stats_counts.specs.Gaps.{counted, gaps, greatest, most, oldest, smallest, step_from, step_to, steps_back}
use Rattle.conode_stats_counts.specs.Tallies.{tally_back, tally_of, tally_on, tally_with}

-- of no stamp
pub none : tally_of [] ≡ record { first = 0; last = 0; frames = 0; steps_back = 0; step_from = 0; step_to = 0; gaps = 0; total = 0; smallest = most; greatest = 0 }
unfolding tally_of gaps oldest step_from step_to steps_back smallest greatest
none = refl

-- ---- what stays at the greatest number

capped_more : (n k top : ℕ) → min (min n top + k) top ≡ min (k + n) top
capped_more n k top = omega arith

capped_next : (n top : ℕ) → min (min n top + 1) top ≡ min (suc n) top
capped_next n top = omega arith

some_capped : (n top : ℕ) → 0 < top → (min (suc n) top == 0) ≡ false
some_capped n top some = grind (arith, nat_tests)

pub counted_more : (n k : ℕ) → counted (counted n + k) ≡ counted (k + n)
counted_more n k = capped_more n k most

pub counted_next : (n : ℕ) → counted (counted n + 1) ≡ counted (suc n)
counted_next n = capped_next n most

pub some_counted : (n : ℕ) → (counted (suc n) == 0) ≡ false
some_counted n = some_capped n most (lit< tt)

-- ---- one stamp more

same_tally : (first last frames frames' steps steps' from to count count' total total' least most : ℕ) → frames ≡ frames' → steps ≡ steps' → count ≡ count' → total ≡ total'
    → ◌≡◌ {A = Tally}
    (record { first = first; last = last; frames = frames; steps_back = steps; step_from = from; step_to = to; gaps = count; total = total; smallest = least; greatest = most })
    (record { first = first; last = last; frames = frames'; steps_back = steps'; step_from = from; step_to = to; gaps = count'; total = total'; smallest = least; greatest = most })
same_tally first last frames frames' steps steps' from to count count' total total' least most e f g h = cc

module _ (micros stamp : ℕ) (older : List ℕ) where
  back : nat_lt micros stamp ≡ true → tally_back (tally_of (stamp ∷ older)) micros ≡ tally_of (micros ∷ stamp ∷ older)
  unfolding tally_of gaps oldest step_from step_to steps_back
  back is = rw is (same_tally _ _ _ _ _ _ _ _ _ _ _ _ _ _
      (counted_next (suc (length older))) (counted_more (steps_back (stamp ∷ older)) 1) refl refl)

  on : nat_lt micros stamp ≡ false → tally_on (tally_of (stamp ∷ older)) micros ≡ tally_of (micros ∷ stamp ∷ older)
  unfolding tally_of gaps oldest step_from step_to steps_back smallest greatest
  on isn't = rw isn't (same_tally _ _ _ _ _ _ _ _ _ _ _ _ _ _
      (counted_next (suc (length older)))
      (ap counted (let e : steps_back (stamp ∷ older) ≡ 0 + steps_back (stamp ∷ older) = omega arith in e))
      (counted_next (length (gaps (stamp ∷ older))))
      (counted_more (sum (gaps (stamp ∷ older))) (micros - stamp)
      ∙ ap counted (sym (sum_by-cons (λ x. x) (micros - stamp) (gaps (stamp ∷ older))))))

  more : tally_with (tally_of (stamp ∷ older)) micros ≡ tally_of (micros ∷ stamp ∷ older)
  unfolding tally_with
  more = let some : ((tally_of (stamp ∷ older)).frames == 0) ≡ false = unfold tally_of in some_counted (length older) in
      let last : (tally_of (stamp ∷ older)).last ≡ stamp = unfold tally_of in refl in
      by_test (nat_lt micros stamp)
      (λ is. let test : nat_lt micros (tally_of (stamp ∷ older)).last ≡ true = rw last is in rw (some, test) (back is))
      (λ isn't. let test : nat_lt micros (tally_of (stamp ∷ older)).last ≡ false = rw last isn't in rw (some, test) (on isn't))

pub one_more : (stamps : List ℕ) (micros : ℕ) → tally_with (tally_of stamps) micros ≡ tally_of (micros ∷ stamps)
unfolding tally_with tally_of gaps oldest step_from step_to steps_back smallest greatest
one_more [] micros = refl
one_more (stamp ∷ older) micros = more micros stamp older
