-- The number of the first item that passes a test, item by item.
use Rattle.std.proofs.Common.{◌≡◌, ◌∙◌, ℕ, ◌+◌, ◌<◌, ◌≤◌, suc, Bool, true, false, cond, not, List, map, sym, ap, arith, length, drop, drop-cons, add-one, get_or}
use Rattle.std.specs.List.{position_or_len}
use Rattle.std.proofs.lemmas.List.{drop_all}

module _ {X Y : Type 0} (test : Y → Bool) (view : X → Y) (xs : List X) (i : ℕ) (n all : ℕ) where
  -- an item that fails is one more
  pub count-turn : (d : X) → i < length xs → test (view (get_or xs i d)) ≡ false → n + position_or_len test (map view (drop i xs)) ≡ all
      → n + 1 + position_or_len test (map view (drop (i + 1) xs)) ≡ all
  count-turn d inside fails invariant =
      let rest = position_or_len test (map view (drop (suc i) xs)) in
      let more : n + 1 + rest ≡ n + (1 + rest) = omega arith in
      rw (add-one i)
      (more ∙ ap (λ b. n + cond (not b) (1 + rest) 0) (sym fails) ∙ ap (λ l. n + position_or_len test (map view l)) (sym (drop-cons xs i d inside)) ∙ invariant)

  -- one that passes is found
  pub count-here : (d : X) → i < length xs → test (view (get_or xs i d)) ≡ true → n + position_or_len test (map view (drop i xs)) ≡ all → n ≡ all
  count-here d inside passes invariant =
      let rest = position_or_len test (map view (drop (suc i) xs)) in
      let none : n ≡ n + 0 = omega arith in
      none ∙ ap (λ b. n + cond (not b) (1 + rest) 0) (sym passes) ∙ ap (λ l. n + position_or_len test (map view l)) (sym (drop-cons xs i d inside)) ∙ invariant

  -- past the last item
  pub count-end : length xs ≤ i → n + position_or_len test (map view (drop i xs)) ≡ all → n ≡ all
  count-end past invariant =
      let none : n ≡ n + 0 = omega arith in
      none ∙ sym (ap (λ l. n + position_or_len test (map view l)) (drop_all i xs past)) ∙ invariant
