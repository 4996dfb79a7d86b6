-- The sub-index sections of an index, in a list that is sorted by index.
use Rattle.std.proofs.Common.{◌≡◌, ℕ, ◌+◌, ◌<◌, suc, Bool, true, false, cond, List, [], ◌∷◌, ◌++◌, Some, None, refl, sym, ap, ◌∙◌, arith, length, get_or, map, take, drop, ltb, leb, eqb}
use Rattle.std.proofs.lemmas.Bool.Decides.{nat_tests}
use Rattle.std.proofs.lemmas.List.{append-nil, take-append-drop, length-take, length-drop, get_or-take, get_or-drop}
use Rattle.std.proofs.lemmas.List.Elements.{filter-append}
use Rattle.std.specs.List.{filter}
use Rattle.std.specs.List.Sorted.{IsPartitionPoint}
use Rattle.std.specs.Ordering.{nat_cmp, is_lt}
use Rattle.co_value.specs.declared.key.Key.{Key}
use Rattle.co_sheet_text.specs.declared.section_kind.SectionKind.{SectionKind}
use Rattle.co_sheet_text.specs.declared.section_kind.SectionKind.TheVariants.{SubIndex}
use Rattle.co_sheet_text.specs.Sections.{TextSection}
use Rattle.co_sheet_text.specs.Views.{section_view}
use Rattle.co_sheet.specs.declared.tables.EntrySection.{EntrySection}
use Rattle.co_sheet.specs.Content.{in_order}
use Rattle.co_sheet.specs.Entries.{Entry, sub_index_in}
use Rattle.co_sheet.specs.SectionViews.{entry_view, parts_at}
use Rattle.co_sheet.specs.private.ListReadings.{listed}
use Rattle.co_sheet.proofs.ListLemmas.{map-push}
use Rattle.co_sheet.proofs.OrderLemmas.{in_order-filter, is_lt-number}

-- a filter that all pass, or none
filter-all : {X : Type 0} (p : X → Bool) (xs : List X) → ((k : ℕ) (d : X) → k < length xs → p (get_or xs k d) ≡ true) → filter p xs ≡ xs
filter-all p [] all = refl
filter-all p (x ∷ xs) all = rw (all 0 x (omega arith)) (ap (λ l. x ∷ l) (filter-all p xs (λ k d h. all (suc k) d (omega arith))))

filter-none : {X : Type 0} (p : X → Bool) (xs : List X) → ((k : ℕ) (d : X) → k < length xs → p (get_or xs k d) ≡ false) → filter p xs ≡ []
filter-none p [] none = refl
filter-none p (x ∷ xs) none = rw (none 0 x (omega arith)) (filter-none p xs (λ k d h. none (suc k) d (omega arith)))

-- the sections of this index, by what they say
abbrev pub has_index : ℕ → EntrySection → Bool
has_index i e = eqb e.key.index i

kept_cases : (b : Bool) (x : EntrySection) (l : List EntrySection) (m : List Entry) → map entry_view l ≡ m → map entry_view (cond b (x ∷ l) l) ≡ cond b (entry_view x ∷ m) m
kept_cases true x l m h = ap (λ r. entry_view x ∷ r) h
kept_cases false x l m h = h

pub parts-filter : (i : ℕ) (xs : List EntrySection) → map entry_view (filter (has_index i) xs) ≡ parts_at xs i
parts-filter i [] = refl
parts-filter i (x ∷ xs) = kept_cases (has_index i x) x (filter (has_index i) xs) (parts_at xs i) (parts-filter i xs)

-- the part of a sorted list between its partition points
pub own_parts : (i first n : ℕ) (xs : List EntrySection) → IsPartitionPoint (λ e. ltb e.key.index i ≡ true) (λ e. ltb e.key.index i ≡ false) xs first
    → IsPartitionPoint (λ e. leb e.key.index i ≡ true) (λ e. leb e.key.index i ≡ false) (drop first xs) n → filter (has_index i) xs ≡ take n (drop first xs)
own_parts i first n xs low high =
    let rest = drop first xs in
    let before : filter (has_index i) (take first xs) ≡ [] = filter-none (has_index i) (take first xs) (λ k d h.
    let within : k < first = omega (arith, length-take first xs) in
    let below = low.0 k d (omega arith) within in
    rw (get_or-take first xs k d within) (grind (arith, nat_tests, below))) in
    let own : filter (has_index i) (take n rest) ≡ take n rest = filter-all (has_index i) (take n rest) (λ k d h.
    let within : k < n = omega (arith, length-take n rest) in
    let inside : first + k < length xs = omega (arith, length-take n rest, length-drop first xs) in
    let upto = high.0 k d (omega arith) within in
    let from = low.1 (first + k) d (omega arith) inside in
    let place = get_or-drop first xs k d in
    rw (get_or-take n rest k d within) (grind (arith, nat_tests, upto, from, place))) in
    let after : filter (has_index i) (drop n rest) ≡ [] = filter-none (has_index i) (drop n rest) (λ k d h.
    let inside : n + k < length rest = omega (arith, length-drop n rest) in
    let above = high.1 (n + k) d (omega arith) inside in
    rw (get_or-drop n rest k d) (grind (arith, nat_tests, above))) in
    ap (filter (has_index i)) (sym (take-append-drop first xs))
    ∙ filter-append (has_index i) (take first xs) rest
    ∙ ap (λ l. l ++ filter (has_index i) rest) before
    ∙ ap (filter (has_index i)) (sym (take-append-drop n rest))
    ∙ filter-append (has_index i) (take n rest) (drop n rest)
    ∙ ap (λ l. filter (has_index i) (take n rest) ++ l) after
    ∙ append-nil (filter (has_index i) (take n rest))
    ∙ own

-- a sort by index changes nothing for an index
abbrev pub is_before : EntrySection → EntrySection → Bool
is_before e f = is_lt (nat_cmp e.key.index f.key.index)

apart : (i a b : ℕ) → ltb a b ≡ true → eqb a i ≡ true → eqb b i ≡ true → ⊥
apart i a b before h k = grind (arith, nat_tests)

pub parts-sorted : (i : ℕ) (xs ys : List EntrySection) → ys ≡ in_order is_before xs → parts_at ys i ≡ parts_at xs i
parts-sorted i xs ys sorted =
    sym (parts-filter i ys)
    ∙ ap (λ l. map entry_view (filter (has_index i) l)) sorted
    ∙ ap (map entry_view) (in_order-filter is_before (has_index i) (λ x y before h k. apart i y.key.index x.key.index (sym (is_lt-number y.key.index x.key.index) ∙ before) h k) xs)
    ∙ parts-filter i xs

-- a section more, which is a sub-index's, or isn't
part_cases : (b : Bool) (e : Entry) → cond b (e ∷ []) [] ≡ listed (cond b (Some e) None)
part_cases true e = refl
part_cases false e = refl

pub part-pushed : (i : ℕ) (xs : List EntrySection) (e : EntrySection) (kind : SectionKind) → kind ≡ SubIndex e.key → parts_at (xs ++ e ∷ []) i ≡ parts_at xs i ++ listed (sub_index_in i (section_view e.section.now) kind)
part-pushed i xs e kind is =
    ap (filter (λ (f : Entry). eqb f.key.index i)) (map-push entry_view xs e)
    ∙ filter-append (λ (f : Entry). eqb f.key.index i) (map entry_view xs) (entry_view e ∷ [])
    ∙ ap (λ es. parts_at xs i ++ es) (part_cases (eqb e.key.index i) (entry_view e))
    ∙ ap (λ k. parts_at xs i ++ listed (sub_index_in i (section_view e.section.now) k)) (sym is)

pub no-part : (i : ℕ) (s : TextSection) (kind : SectionKind) → ((key : Key) → kind ≡ SubIndex key → ⊥) → sub_index_in i s kind ≡ None
no-part i s (SubIndex key) other = absurd (other key refl)
no-part i s kind other = refl
