-- Lists that a loop makes, a piece for each item.
use Rattle.std.proofs.Common.{◌≡◌, ℕ, ◌+◌, ◌<◌, ◌≤◌, suc, List, [], ◌∷◌, ◌++◌, Option, Some, None, refl, sym, ap, ◌∙◌, length, get_or, drop, drop-cons, add-one, append_assoc, append-nil}
use Rattle.std.proofs.lemmas.List.{drop_all}
use Rattle.std.specs.List.{cons_option}
use Rattle.std.specs.Option.{option_to_list}

-- what the first item gives, before what the others give
pub found_first : {X : Type 0} (found : Option X) (others : List X) → cons_option found others ≡ option_to_list found ++ others
found_first None others = refl
found_first (Some x) others = refl

-- one item more
pub one_more : {X Y : Type 0} (made : List X → List Y) (piece : X → List Y) → ((x : X) (xs : List X) → made (x ∷ xs) ≡ piece x ++ made xs)
    → (xs : List X) (i : ℕ) (d : X) (before after all : List Y) → i < length xs → after ≡ before ++ piece (get_or xs i d)
    → before ++ made (drop i xs) ≡ all → after ++ made (drop (i + 1) xs) ≡ all
one_more made piece cut xs i d before after all inside is so_far =
    let rest = made (drop (suc i) xs) in
    rw (add-one i)
    (ap (λ l. l ++ rest) is ∙ append_assoc before (piece (get_or xs i d)) rest ∙ ap (λ l. before ++ l) (sym (cut (get_or xs i d) (drop (suc i) xs)))
    ∙ ap (λ l. before ++ made l) (sym (drop-cons xs i d inside)) ∙ so_far)

-- and all of them
pub all_made : {X Y : Type 0} (made : List X → List Y) → made [] ≡ [] → (xs : List X) (i : ℕ) (before all : List Y) → length xs ≤ i
    → before ++ made (drop i xs) ≡ all → before ≡ all
all_made made none xs i before all past so_far =
    sym (append-nil before) ∙ ap (λ l. before ++ l) (sym none ∙ ap made (sym (drop_all i xs past))) ∙ so_far
