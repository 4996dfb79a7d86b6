-- Entries up to a number that didn't change, and those of a reset so far.
use Rattle.std.proofs.Common.{◌≡◌, ◌<◌, ◌≤◌, ◌+◌, ℕ, zero, suc, Bool, true, false, ltb, List, [], ◌∷◌, length, refl, ap, ◌∙◌, subst, arith}
use Rattle.std.specs.Prelude.{drop}
use Rattle.std.specs.Option.{option_map_or}
use Rattle.std.proofs.lemmas.Bool.Decides.{nat_tests}
use Rattle.co_dict.specs.declared.area.Area.{Area}
use Rattle.co_dict_placed.specs.Changes.{is_changed}
use Rattle.co_dict_table.specs.Entries.{EntryContent, entry_at}
use Rattle.bafokun.specs.Changes.{AreUnchanged, with_area, with_entry}

-- none so far, and not the next one either
pub one_more : (changes : List ℕ) (from to : ℕ) → AreUnchanged changes from to → is_changed changes to ≡ false → AreUnchanged changes from (to + 1)
one_more changes from to same next = λ n at below. by n at below (ltb n to) refl
  where
    by : (n : ℕ) → from ≤ n → n < to + 1 → (b : Bool) → ltb n to ≡ b → is_changed changes n ≡ false
    by n at below true e = same n at (grind (arith, nat_tests, e))
    by n at below false e = let last : to ≡ n = grind (arith, nat_tests, e) in subst (λ m. is_changed changes m ≡ false) last next

-- the entries of an area from a number on: the first one, then the others
pub area_turn : (area : Area) (entries : List EntryContent) (number : ℕ) (changes : List ℕ) → number < length entries
    → with_area area (drop (number + 1) entries) (number + 1) (option_map_or (λ e. with_entry area e number changes) (entry_at entries number) changes)
    ≡ with_area area (drop number entries) number changes
area_turn area entries number changes below =
    ap (λ (m : ℕ). with_area area (drop m entries) m (option_map_or (λ e. with_entry area e number changes) (entry_at entries number) changes)) (plus_one number)
    ∙ turn entries number number below
  where
    plus_one : (n : ℕ) → n + 1 ≡ suc n
    plus_one n = omega arith

    turn : (es : List EntryContent) (i n : ℕ) → i < length es
        → with_area area (drop (suc i) es) (suc n) (option_map_or (λ e. with_entry area e n changes) (entry_at es i) changes)
        ≡ with_area area (drop i es) n changes
    turn [] i n below = absurd (omega (arith, below))
    turn (e ∷ es) zero n below = refl
    turn (e ∷ es) (suc i) n below = turn es i n (omega (arith, below))

-- none is left past the last
pub area_end : (area : Area) (entries : List EntryContent) (number m : ℕ) (changes : List ℕ) → length entries ≤ number
    → with_area area (drop number entries) m changes ≡ changes
area_end area [] zero m changes past = refl
area_end area [] (suc number) m changes past = refl
area_end area (e ∷ es) zero m changes past = absurd (omega (arith, past))
area_end area (e ∷ es) (suc number) m changes past = area_end area es number m changes (omega (arith, past))
