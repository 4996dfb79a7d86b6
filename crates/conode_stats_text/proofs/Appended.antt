-- What is appended one part after another.
use Rattle.std.proofs.Common.{ℕ, suc, ◌+◌, ◌-◌, ◌<◌, ◌≤◌, ◌≡◌, arith, List, Option, [], ◌∷◌, ◌++◌, length, take, get_or, Some, None, sym, ap, ◌∙◌, append_assoc, append-nil, subst}
use Rattle.std.specs.List.{flat_map}
use Rattle.std.proofs.lemmas.List.{take_all, take_more}
use Rattle.std.proofs.lemmas.List.Concat.{flat_map-append}
use Rattle.conode_stats_text.specs.NodeIds.{up_to}
use Rattle.conode_stats_text.specs.Papers.{IsAppended, is_appended}

-- one element more of what a loop goes over
pub flat_map_more : {X A : Type 0} (f : X → List A) (xs : List X) (i : ℕ) (d x : X) → i < length xs → x ≡ get_or xs i d
    → flat_map f (take (i + 1) xs) ≡ flat_map f (take i xs) ++ f x
flat_map_more f xs i d x within is =
    ap (flat_map f) (take_more xs i d within) ∙ flat_map-append f (take i xs) (get_or xs i d ∷ [])
    ∙ ap (λ l. flat_map f (take i xs) ++ l) (append-nil (f (get_or xs i d))) ∙ ap (λ y. flat_map f (take i xs) ++ f y) (sym is)

up_to_suc : {A : Type 0} (f : ℕ → List A) (n : ℕ) → flat_map f (up_to (suc n)) ≡ flat_map f (up_to n) ++ f (suc n)
unfolding up_to
up_to_suc f n =
    flat_map-append f (up_to n) (suc n ∷ []) ∙ ap (λ l. flat_map f (up_to n) ++ l) (append-nil (f (suc n)))

-- one number more
pub up_to_more : {A : Type 0} (f : ℕ → List A) (n : ℕ) → 1 ≤ n → flat_map f (up_to (n + 1 - 1)) ≡ flat_map f (up_to (n - 1)) ++ f n
up_to_more f n h =
    let next : n + 1 - 1 ≡ suc (n - 1) = omega arith in
    let this : suc (n - 1) ≡ n = omega arith in
    ap (λ (m : ℕ). flat_map f (up_to m)) next ∙ up_to_suc f (n - 1) ∙ ap (λ (m : ℕ). flat_map f (up_to (n - 1)) ++ f m) this

module _ {A : Type 0} where
  none_by : (written : Option (List A)) → is_appended written [] written
  none_by None = tt
  none_by (Some written) = sym (append-nil written)

  pub none : (written : Option (List A)) → IsAppended written [] written
  none written = record { appended = none_by written }

  both_by : (before between after : Option (List A)) (part more : List A) → is_appended before part between → is_appended between more after
      → is_appended before (part ++ more) after
  both_by before between None part more p q = tt
  both_by before None (Some after) part more p q = absurd q
  both_by None (Some between) (Some after) part more p q = absurd p
  both_by (Some before) (Some between) (Some after) part more p q = q ∙ ap (λ (t : List A). t ++ more) p ∙ append_assoc before part more

  pub both : (before between after : Option (List A)) (part more : List A) → IsAppended before part between → IsAppended between more after
      → IsAppended before (part ++ more) after
  both before between after part more p q = record { appended = both_by before between after part more p.appended q.appended }

  pub just : (before : Option (List A)) (part : List A) (after : Option (List A)) → IsAppended before (part ++ []) after → IsAppended before part after
  just before part after p = subst (λ (l : List A). IsAppended before l after) (append-nil part) p

  -- another spelling of a part
  pub same : (before : Option (List A)) (part spelled : List A) (after : Option (List A)) → part ≡ spelled → IsAppended before part after → IsAppended before spelled after
  same before part spelled after e p = subst (λ (l : List A). IsAppended before l after) e p

  -- the whole of what was written
  pub whole : (part text : List A) (after : Option (List A)) → IsAppended (Some []) part after → after ≡ Some text → text ≡ part
  whole part text after p e = (subst (λ (w : Option (List A)). IsAppended (Some []) part w) e p).appended

  -- nothing is known once memory ran out
  pub ended : (before : Option (List A)) (part : List A) → IsAppended before part None
  ended before part = record { appended = tt }

  -- a loop's step
  pub more : {X : Type 0} (f : X → List A) (xs : List X) (i : ℕ) (d x : X) (before between after : Option (List A)) → i < length xs → x ≡ get_or xs i d
      → IsAppended before (flat_map f (take i xs)) between → IsAppended between (f x) after → IsAppended before (flat_map f (take (i + 1) xs)) after
  more f xs i d x before between after within is p q =
      subst (λ (l : List A). IsAppended before l after) (sym (flat_map_more f xs i d x within is)) (both before between after (flat_map f (take i xs)) (f x) p q)

  -- the same where it goes over numbers from 1 on
  pub next : (f : ℕ → List A) (n : ℕ) (before between after : Option (List A)) → 1 ≤ n
      → IsAppended before (flat_map f (up_to (n - 1))) between → IsAppended between (f n) after → IsAppended before (flat_map f (up_to (n + 1 - 1))) after
  next f n before between after h p q =
      subst (λ (l : List A). IsAppended before l after) (sym (up_to_more f n h)) (both before between after (flat_map f (up_to (n - 1))) (f n) p q)

  pub last : (f : ℕ → List A) (n : ℕ) (before after : Option (List A)) → 128 ≤ n → n ≤ 128 → IsAppended before (flat_map f (up_to (n - 1))) after
      → IsAppended before (flat_map f (up_to 127)) after
  last f n before after a b p =
      let end : n - 1 ≡ 127 = omega arith in
      subst (λ (m : ℕ). IsAppended before (flat_map f (up_to m)) after) end p

  -- the end of a loop over a list
  pub ends : {X : Type 0} (f : X → List A) (xs : List X) (i : ℕ) (before after : Option (List A)) → length xs ≤ i → IsAppended before (flat_map f (take i xs)) after
      → IsAppended before (flat_map f xs) after
  ends f xs i before after past p = subst (λ l. IsAppended before (flat_map f l) after) (take_all i xs past) p
