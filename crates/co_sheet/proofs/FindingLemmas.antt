-- The first finding of a list of items is the first of what is found in each.
use Rattle.std.proofs.Common.{◌≡◌, ℕ, ◌+◌, ◌≤◌, ◌<◌, suc, Bool, true, false, cond, List, [], ◌∷◌, ◌++◌, Option, Some, None, refl, sym, ap, ◌∙◌, arith, leb, ltb, eqb, map, ◌&&◌, ◌||◌, IfSome, length, get_or, drop, drop-cons, add-one}
use Rattle.std.proofs.lemmas.Bool.Decides.{nat_tests}
use Rattle.std.proofs.lemmas.List.{drop_all}
use Rattle.std.specs.Prelude.{flat_map, option_map}
use Rattle.std.specs.Option.{option_or}
use Rattle.co_sheet_rows.specs.declared.fault.SheetFault.{SheetFault}
use Rattle.co_sheet.specs.declared.checks.findings.Finding.{Finding}
use Rattle.co_sheet.specs.Accepted.{least_fault, first_found}
use Rattle.co_sheet_text.specs.Sections.{TextSection}
use Rattle.co_sheet.specs.private.LeastFaults.{earlier}
use Rattle.co_sheet.specs.private.Findings.{found_by, first_finding, is_before, sooner, soonest}
use Rattle.co_sheet.proofs.LeastLemmas.{least-append}

-- ---- the order of findings

-- by their numbers
numbers_before : (a b k l : ℕ) → (ltb a b || (eqb a b && ltb k l)) ≡ true → (m n : ℕ) → (ltb m a || (eqb m a && ltb n k)) ≡ true → (ltb m b || (eqb m b && ltb n l)) ≡ true
numbers_before a b k l h m n i = grind (arith, nat_tests)

numbers_after : (a b k l : ℕ) → (ltb a b || (eqb a b && ltb k l)) ≡ false → (m n : ℕ) → (ltb m a || (eqb m a && ltb n k)) ≡ false → (ltb m b || (eqb m b && ltb n l)) ≡ false
numbers_after a b k l h m n i = grind (arith, nat_tests)

-- the one of two that comes first
abbrev former : Finding → Finding → Finding
former f g = cond (is_before g f) g f

-- by the tests of the first two, of the last two, and of the outer two
assoc_cases : (gf hg hf : Bool) (f g h : Finding) → is_before g f ≡ gf → is_before h g ≡ hg → is_before h f ≡ hf → former (cond gf g f) h ≡ former f (cond hg h g)
assoc_cases true true true f g h p q r = rw (q, r) refl
assoc_cases true true false f g h p q r = let both = numbers_before g.check f.check g.fault.line f.fault.line p h.check h.fault.line q in absurd (cc)
assoc_cases true false hf f g h p q r = rw (p, q) refl
assoc_cases false true hf f g h p q r = refl
assoc_cases false false true f g h p q r = let both = numbers_after g.check f.check g.fault.line f.fault.line p h.check h.fault.line q in absurd (cc)
assoc_cases false false false f g h p q r = rw (p, r) refl

pub sooner-assoc : (x y z : Option Finding) → sooner (sooner x y) z ≡ sooner x (sooner y z)
sooner-assoc None y z = refl
sooner-assoc (Some f) None z = refl
sooner-assoc (Some f) (Some g) None = refl
sooner-assoc (Some f) (Some g) (Some h) = ap Some (assoc_cases (is_before g f) (is_before h g) (is_before h f) f g h refl refl refl)

pub sooner-none : (x : Option Finding) → sooner x None ≡ x
sooner-none None = refl
sooner-none (Some f) = refl

-- ---- the first finding of a list

-- a finding of a check from a number on
abbrev IsFrom : ℕ → Option Finding → Type 0
IsFrom number found = IfSome found (λ f. number ≤ f.check)

-- the checks over a list of items
abbrev pub over_list : {X : Type 0} → List (X → List SheetFault) → List (List X → List SheetFault)
over_list [] = []
over_list (check ∷ more) = flat_map check ∷ over_list more

or_from : (number : ℕ) (o : Option SheetFault) (rest : Option Finding) → IsFrom (number + 1) rest → IsFrom number (option_or (option_map (found_by number) o) rest)
or_from number (Some f) rest h = omega arith
or_from number None None h = tt
or_from number None (Some g) h = omega arith

finding-from : {X : Type 0} (number : ℕ) (checks : List (X → List SheetFault)) (x : X) → IsFrom number (first_finding number checks x)
finding-from number [] x = tt
finding-from number (check ∷ more) x = or_from number (least_fault (check x)) (first_finding (number + 1) more x) (finding-from (number + 1) more x)

not_before : (number check k l : ℕ) → number + 1 ≤ check → (ltb check number || (eqb check number && ltb k l)) ≡ false
not_before number check k l h = grind (arith, nat_tests)

is_before_number : (number check k l : ℕ) → number + 1 ≤ check → (ltb number check || (eqb number check && ltb k l)) ≡ true
is_before_number number check k l h = grind (arith, nat_tests)

same_check : (number k l : ℕ) (b : Bool) → leb k l ≡ b → (ltb number number || (eqb number number && ltb l k)) ≡ Rattle.std.proofs.Common.not b
same_check number k l true h = grind (arith, nat_tests)
same_check number k l false h = grind (arith, nat_tests)

of_two : (number : ℕ) (f g : SheetFault) (b : Bool) → leb f.line g.line ≡ b
    → sooner (Some (found_by number f)) (Some (found_by number g)) ≡ Some (found_by number (cond b f g))
of_two number f g true h = rw (same_check number f.line g.line true h) refl
of_two number f g false h = rw (same_check number f.line g.line false h) refl

-- one check more in front, of one item and of the rest
merge : (number : ℕ) (o p : Option SheetFault) (x y : Option Finding) → IsFrom (number + 1) x → IsFrom (number + 1) y
    → sooner (option_or (option_map (found_by number) o) x) (option_or (option_map (found_by number) p) y) ≡ option_or (option_map (found_by number) (earlier o p)) (sooner x y)
merge number None None x y h k = refl
merge number (Some f) None x None h k = refl
merge number (Some f) None x (Some g) h k = rw (not_before number g.check g.fault.line f.line k) refl
merge number None (Some g) None y h k = refl
merge number None (Some g) (Some f) y h k = rw (is_before_number number f.check g.line f.fault.line h) refl
merge number (Some f) (Some g) x y h k = of_two number f g (leb f.line g.line) refl

none_empty : {X : Type 0} (number : ℕ) (checks : List (X → List SheetFault)) → None ≡ first_finding number (over_list checks) []
none_empty number [] = refl
none_empty number (check ∷ more) = none_empty (number + 1) more

one_more : {X : Type 0} (number : ℕ) (checks : List (X → List SheetFault)) (x : X) (xs : List X)
    → sooner (first_finding number checks x) (first_finding number (over_list checks) xs) ≡ first_finding number (over_list checks) (x ∷ xs)
one_more number [] x xs = refl
one_more number (check ∷ more) x xs =
    merge number (least_fault (check x)) (least_fault (flat_map check xs)) (first_finding (number + 1) more x) (first_finding (number + 1) (over_list more) xs)
    (finding-from (number + 1) more x) (finding-from (number + 1) (over_list more) xs)
    ∙ ap (λ o. option_or (option_map (found_by number) o) (sooner (first_finding (number + 1) more x) (first_finding (number + 1) (over_list more) xs))) (sym (least-append (check x) (flat_map check xs)))
    ∙ ap (option_or (option_map (found_by number) (least_fault (check x ++ flat_map check xs)))) (one_more (number + 1) more x xs)

-- the smallest check and line over all items is the first check that finds anything in any, with its smallest line
pub soonest-first : {X : Type 0} (number : ℕ) (checks : List (X → List SheetFault)) (xs : List X) → soonest (first_finding number checks) xs ≡ first_finding number (over_list checks) xs
soonest-first number checks [] = none_empty number checks
soonest-first number checks (x ∷ xs) = ap (sooner (first_finding number checks x)) (soonest-first number checks xs) ∙ one_more number checks x xs

fault_or : (number : ℕ) (o : Option SheetFault) (rest : Option Finding) → option_map (λ (f : Finding). f.fault) (option_or (option_map (found_by number) o) rest) ≡ option_or o (option_map (λ (f : Finding). f.fault) rest)
fault_or number None rest = refl
fault_or number (Some f) rest = refl

-- without its number
pub found-fault : (number : ℕ) (checks : List (List TextSection → List SheetFault)) (sections : List TextSection) → option_map (λ (f : Finding). f.fault) (first_finding number checks sections) ≡ first_found checks sections
found-fault number [] sections = refl
found-fault number (check ∷ more) sections =
    fault_or number (least_fault (check sections)) (first_finding (number + 1) more sections) ∙ ap (option_or (least_fault (check sections))) (found-fault (number + 1) more sections)

-- ---- item by item

pub soonest-turn : {X V : Type 0} {all : Option Finding} (view : X → V) (found : V → Option Finding) (items : List X) (i : ℕ) (d : X) (first more : Option Finding) → i < length items
    → more ≡ sooner first (found (view (get_or items i d))) → sooner first (soonest found (map view (drop i items))) ≡ all
    → sooner more (soonest found (map view (drop (i + 1) items))) ≡ all
soonest-turn view found items i d first more inside is invariant =
    let rest = soonest found (map view (drop (suc i) items)) in
    rw (add-one i)
    (ap (λ o. sooner o rest) is ∙ sooner-assoc first (found (view (get_or items i d))) rest
    ∙ ap (λ xs. sooner first (soonest found (map view xs))) (sym (drop-cons items i d inside)) ∙ invariant)

pub soonest-end : {X V : Type 0} {all : Option Finding} (view : X → V) (found : V → Option Finding) (items : List X) (i : ℕ) (first : Option Finding) → length items ≤ i
    → sooner first (soonest found (map view (drop i items))) ≡ all → first ≡ all
soonest-end view found items i first past invariant =
    sym (sooner-none first) ∙ sym (ap (λ xs. sooner first (soonest found (map view xs))) (drop_all i items past)) ∙ invariant

-- where the one that comes first is none, there is none
pub sooner-neither : (x y : Option Finding) → sooner x y ≡ None → (x ≡ None) × (y ≡ None)
sooner-neither None y h = (refl, h)
sooner-neither (Some f) None h = absurd (cc)
sooner-neither (Some f) (Some g) h = absurd (cc)

-- ---- check by check, of faults that are found

-- the first of lists of faults that isn't empty, by the number of its check
abbrev pub first_of : ℕ → List (List SheetFault) → Option Finding
first_of number [] = None
first_of number (faults ∷ more) = option_or (option_map (found_by number) (least_fault faults)) (first_of (number + 1) more)

from-of : (number : ℕ) (faults : List (List SheetFault)) → IsFrom number (first_of number faults)
from-of number [] = tt
from-of number (fs ∷ more) = or_from number (least_fault fs) (first_of (number + 1) more) (from-of (number + 1) more)

-- both lists of each check
abbrev pub joined : List (List SheetFault) → List (List SheetFault) → List (List SheetFault)
joined [] gs = gs
joined (f ∷ fs) [] = f ∷ fs
joined (f ∷ fs) (g ∷ gs) = (f ++ g) ∷ joined fs gs

-- what is found first in either is found first in both
pub sooner-joined : (number : ℕ) (fs gs : List (List SheetFault)) → sooner (first_of number fs) (first_of number gs) ≡ first_of number (joined fs gs)
sooner-joined number [] gs = refl
sooner-joined number (f ∷ fs) [] = sooner-none (first_of number (f ∷ fs))
sooner-joined number (f ∷ fs) (g ∷ gs) =
    merge number (least_fault f) (least_fault g) (first_of (number + 1) fs) (first_of (number + 1) gs) (from-of (number + 1) fs) (from-of (number + 1) gs)
    ∙ ap (λ o. option_or (option_map (found_by number) o) (sooner (first_of (number + 1) fs) (first_of (number + 1) gs))) (sym (least-append f g))
    ∙ ap (option_or (option_map (found_by number) (least_fault (f ++ g)))) (sooner-joined (number + 1) fs gs)
