-- The fault with the smallest line of a list, part by part.
use Rattle.std.proofs.Common.{◌≡◌, ℕ, ◌+◌, ◌≤◌, ◌<◌, suc, Bool, true, false, cond, List, [], ◌∷◌, ◌++◌, Option, Some, None, refl, sym, ap, ◌∙◌, arith, leb, length, get_or, drop, drop-cons, add-one}
use Rattle.std.proofs.lemmas.Bool.Decides.{nat_tests}
use Rattle.std.proofs.lemmas.List.{drop_all}
use Rattle.std.specs.Prelude.{flat_map, map}
use Rattle.std.proofs.lemmas.List.Folds.{flat_map-map}
use Rattle.co_sheet_rows.specs.declared.fault.SheetFault.{SheetFault}
use Rattle.co_sheet.specs.Accepted.{least_fault}
use Rattle.co_sheet.specs.private.LeastFaults.{earlier}

-- the one of two with the smaller line
abbrev lesser : SheetFault → SheetFault → SheetFault
lesser f g = cond (leb f.line g.line) f g

-- by the tests of the first two, of the last two, and of the outer two
assoc_cases : (fg gh fh : Bool) (f g h : SheetFault) → leb f.line g.line ≡ fg → leb g.line h.line ≡ gh → leb f.line h.line ≡ fh → lesser (cond fg f g) h ≡ lesser f (cond gh g h)
assoc_cases true true true f g h p q r = rw (p, r) refl
assoc_cases true true false f g h p q r = absurd (grind (arith, nat_tests))
assoc_cases true false fh f g h p q r = refl
assoc_cases false true fh f g h p q r = rw (p, q) refl
assoc_cases false false true f g h p q r = absurd (grind (arith, nat_tests))
assoc_cases false false false f g h p q r = rw (q, r) refl

lesser-assoc : (f g h : SheetFault) → lesser (lesser f g) h ≡ lesser f (lesser g h)
lesser-assoc f g h = assoc_cases (leb f.line g.line) (leb g.line h.line) (leb f.line h.line) f g h refl refl refl

pub earlier-assoc : (x y z : Option SheetFault) → earlier (earlier x y) z ≡ earlier x (earlier y z)
earlier-assoc None y z = refl
earlier-assoc (Some f) None z = refl
earlier-assoc (Some f) (Some g) None = refl
earlier-assoc (Some f) (Some g) (Some h) = ap Some (lesser-assoc f g h)

pub earlier-none : (x : Option SheetFault) → earlier x None ≡ x
earlier-none None = refl
earlier-none (Some f) = refl

pub least-cons : (f : SheetFault) (faults : List SheetFault) → least_fault (f ∷ faults) ≡ earlier (Some f) (least_fault faults)
least-cons f [] = refl
least-cons f (g ∷ faults) =
    least-cons (lesser f g) faults ∙ earlier-assoc (Some f) (Some g) (least_fault faults) ∙ ap (earlier (Some f)) (sym (least-cons g faults))

pub least-append : (xs ys : List SheetFault) → least_fault (xs ++ ys) ≡ earlier (least_fault xs) (least_fault ys)
least-append [] ys = refl
least-append (x ∷ xs) ys =
    least-cons x (xs ++ ys) ∙ ap (earlier (Some x)) (least-append xs ys) ∙ sym (earlier-assoc (Some x) (least_fault xs) (least_fault ys)) ∙ ap (λ o. earlier o (least_fault ys)) (sym (least-cons x xs))

-- one more item of a list
pub least-turn : {X : Type 0} (faults : X → List SheetFault) (items : List X) (i : ℕ) (d : X) (least found : Option SheetFault) → i < length items
    → found ≡ least_fault (faults (get_or items i d)) → earlier least (least_fault (flat_map faults (drop i items))) ≡ least_fault (flat_map faults items)
    → earlier (earlier least found) (least_fault (flat_map faults (drop (i + 1) items))) ≡ least_fault (flat_map faults items)
least-turn faults items i d least found inside is invariant =
    let rest = flat_map faults (drop (suc i) items) in
    rw (add-one i)
    (earlier-assoc least found (least_fault rest) ∙ ap (λ o. earlier least (earlier o (least_fault rest))) is
    ∙ ap (earlier least) (sym (least-append (faults (get_or items i d)) rest))
    ∙ sym (ap (λ xs. earlier least (least_fault (flat_map faults xs))) (drop-cons items i d inside)) ∙ invariant)

pub least-end : {X : Type 0} (faults : X → List SheetFault) (items : List X) (i : ℕ) (least : Option SheetFault) → length items ≤ i
    → earlier least (least_fault (flat_map faults (drop i items))) ≡ least_fault (flat_map faults items) → least ≡ least_fault (flat_map faults items)
least-end faults items i least past invariant =
    sym (earlier-none least) ∙ sym (ap (λ xs. earlier least (least_fault (flat_map faults xs))) (drop_all i items past)) ∙ invariant

-- of items by what they say
pub least-views : {X V : Type 0} (view : X → V) (faults : V → List SheetFault) (items : List X) (least : Option SheetFault) → least ≡ least_fault (flat_map (λ x. faults (view x)) items)
    → least ≡ least_fault (flat_map faults (map view items))
least-views view faults items least is = is ∙ ap least_fault (sym (flat_map-map faults view items))

-- of two lists, one after the other
pub least-two : (xs ys : List SheetFault) (x y least : Option SheetFault) → least ≡ earlier x y → x ≡ least_fault xs → y ≡ least_fault ys → least ≡ least_fault (xs ++ ys)
least-two xs ys x y least is of_x of_y = is ∙ ap (λ o. earlier o y) of_x ∙ ap (earlier (least_fault xs)) of_y ∙ sym (least-append xs ys)
