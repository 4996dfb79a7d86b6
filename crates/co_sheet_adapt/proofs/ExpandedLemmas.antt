-- What sections give so far, and what the rest gives.
use Rattle.std.proofs.Common.{◌≡◌, ◌∙◌, ℕ, ◌+◌, ◌<◌, ◌≤◌, List, ◌++◌, Option, Some, None, refl, sym, ap, length, map, drop, get_or, append_assoc, append-nil, length-append, arith, subst}
use Rattle.std.specs.Prelude.{codes}
use Rattle.std.specs.List.{flat_map}
use Rattle.std.proofs.lemmas.Bool.{le-ltb, lt-ltb}
use Rattle.std.proofs.lemmas.List.{at_drop_more, drop_all}
use Rattle.co_value.specs.declared.key.Key.{Key}
use Rattle.co_sheet_changes.specs.Groups.{Group}
use Rattle.co_sheet_adapt.specs.CompactPdo.{PdoForm, pdo_form}
use Rattle.co_sheet_adapt.specs.Named.{text_in_groups}
use Rattle.co_sheet_adapt.specs.Expanded.{compact_sections, given_by, if_fits, none_own}

-- one more
pub given_more : {X V Y : Type 0} (view : X → V) (f : V → List Y) (xs : List X) (i : ℕ) (d : X) (before after all : List Y) → i < length xs
    → after ≡ before ++ f (view (get_or xs i d)) → before ++ flat_map f (map view (drop i xs)) ≡ all → after ++ flat_map f (map view (drop (i + 1) xs)) ≡ all
given_more view f xs i d before after all inside more so_far =
    let rest = flat_map f (map view (drop (i + 1) xs)) in
    ap (λ l. l ++ rest) more ∙ append_assoc before (f (view (get_or xs i d))) rest
    ∙ sym (at_drop_more (λ ys. before ++ flat_map f (map view ys)) xs i d inside) ∙ so_far

-- all of them
pub given_all : {X V Y : Type 0} (view : X → V) (f : V → List Y) (xs : List X) (i : ℕ) (before all : List Y) → length xs ≤ i
    → before ++ flat_map f (map view (drop i xs)) ≡ all → before ≡ all
given_all view f xs i before all past so_far =
    sym (append-nil before) ∙ ap (λ ys. before ++ flat_map f (map view ys)) (sym (drop_all i xs past)) ∙ so_far

-- what is too large already stays so
pub too_large : (before rest all : List ℕ) → 1048576 < length before → before ++ rest ≡ all → None ≡ if_fits all
too_large before rest all large so_far =
    let long = length-append before rest in
    let longer : 1048576 < length (before ++ rest) = omega (arith, long, large) in
    subst (λ l. None ≡ if_fits l) so_far (rw (lt-ltb 1048576 (length (before ++ rest)) longer) refl)

-- and what isn't too large is all there is
pub fits : (made all : List ℕ) → length made ≤ 1048576 → made ≡ all → Some made ≡ if_fits all
fits made all small same = subst (λ l. Some made ≡ if_fits l) same (rw (le-ltb 1048576 (length made) small) refl)

-- what holds of the sections by tables of the groups holds of theirs
abbrev Texts : Type 0
Texts = Key → Option (List ℕ)

abbrev texts_by : List ℕ → List Group → Texts
texts_by word groups = λ k. text_in_groups word k groups

pub by_tables : (P : List ℕ → Type 0) (gs : List Group) (own names values : Texts) (pdos : Option PdoForm) →
    own ≡ none_own → names ≡ texts_by (codes "Name") gs → values ≡ texts_by (codes "Value") gs → pdos ≡ pdo_form gs
    → P (flat_map (given_by own names values pdos) gs) → P (compact_sections gs)
by_tables P gs own names values pdos o n v p given =
    subst (λ (f : Option PdoForm). P (flat_map (given_by none_own (texts_by (codes "Name") gs) (texts_by (codes "Value") gs) f) gs)) p
    (subst (λ (t : Texts). P (flat_map (given_by none_own (texts_by (codes "Name") gs) t pdos) gs)) v
    (subst (λ (t : Texts). P (flat_map (given_by none_own t values pdos) gs)) n
    (subst (λ (t : Texts). P (flat_map (given_by t names values pdos) gs)) o given)))
