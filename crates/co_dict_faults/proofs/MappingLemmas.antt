-- The counted words of a mapping, one after another.
use Rattle.std.proofs.Common.{◌≡◌, ℕ, suc, ◌+◌, ◌-◌, ◌<◌, ◌≤◌, List, ◌∷◌, ◌++◌, sym, ap, ◌∙◌, append_assoc, map, arith}
use Rattle.std.proofs.lemmas.List.{append-nil}
use Rattle.std.proofs.lemmas.List.Sums.{sum_by-cons}
use Rattle.std.specs.Prelude.{flat_map, sum_by}
use Rattle.std.specs.List.{range_with_len}
use Rattle.co_dict_faults.specs.declared.mapping_fault.MappingFault.{MappingFault}

-- the next sub-index is the first of those left
next_sub : (f : ℕ → List MappingFault) (earlier count : ℕ) → earlier < count
    → flat_map f (range_with_len (earlier + 1) (count - earlier)) ≡ f (earlier + 1) ++ flat_map f (range_with_len (earlier + 1 + 1) (count - (earlier + 1)))
next_sub f earlier count less =
    let rest : count - earlier ≡ suc (count - (earlier + 1)) = omega arith in
    ap (λ n. flat_map f (range_with_len (earlier + 1) n)) rest

-- its faults are added
pub sub_added : (f : ℕ → List MappingFault) (found next whole : List MappingFault) (earlier count : ℕ) → earlier < count
    → next ≡ found ++ f (earlier + 1)
    → found ++ flat_map f (range_with_len (earlier + 1) (count - earlier)) ≡ whole
    → next ++ flat_map f (range_with_len (earlier + 1 + 1) (count - (earlier + 1))) ≡ whole
sub_added f found next whole earlier count less is h =
    let left = flat_map f (range_with_len (earlier + 1 + 1) (count - (earlier + 1))) in
    ap (λ items. items ++ left) is
    ∙ append_assoc found (f (earlier + 1)) left
    ∙ ap (λ all. found ++ all) (sym (next_sub f earlier count less)) ∙ h

-- past the last one
pub subs_end : (f : ℕ → List MappingFault) (found whole : List MappingFault) (earlier count : ℕ) → count ≤ earlier
    → found ++ flat_map f (range_with_len (earlier + 1) (count - earlier)) ≡ whole → found ≡ whole
subs_end f found whole earlier count past h =
    let none : count - earlier ≡ 0 = omega arith in
    sym (append-nil found) ∙ ap (λ n. found ++ flat_map f (range_with_len (earlier + 1) n)) (sym none) ∙ h

-- its width is added
pub width_added : (f : ℕ → ℕ) (word total all : ℕ) (left rest : List ℕ) → left ≡ word ∷ rest → total + sum_by f left ≡ all → total + f word + sum_by f rest ≡ all
width_added f word total all left rest next h =
    let split : sum_by f left ≡ f word + sum_by f rest = ap (sum_by f) next ∙ sum_by-cons f word rest in
    omega (arith, split, h)

-- past the last one
pub width_end : (f word_at : ℕ → ℕ) (total all earlier count : ℕ) → count ≤ earlier → total + sum_by f (map word_at (range_with_len (earlier + 1) (count - earlier))) ≡ all → total ≡ all
width_end f word_at total all earlier count past h =
    let none : count - earlier ≡ 0 = omega arith in
    let nothing : sum_by f (map word_at (range_with_len (earlier + 1) (count - earlier))) ≡ 0 = ap (λ n. sum_by f (map word_at (range_with_len (earlier + 1) n))) none in
    omega (arith, nothing, h)
