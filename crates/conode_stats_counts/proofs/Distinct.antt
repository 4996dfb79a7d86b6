-- No identifier has two rows, so a row of an identifier is the first one.
use Rattle.std.proofs.Common.{ℕ, zero, suc, ◌+◌, ◌<◌, true, false, List, [], ◌∷◌, ◌++◌, ◌≡◌, ◌∙◌, Some, None, length, get_or, set, refl, sym, ap, subst, arith}
use Rattle.std.specs.Prelude.{◌==◌, nat_lt, position}
use Rattle.std.specs.List.{position_or_len}
use Rattle.std.proofs.lemmas.Bool.Decides.{nat_tests}
use Rattle.std.proofs.lemmas.List.{map-append}
use Rattle.co_text.proofs.Tests.{by_test}
use Rattle.conode_stats_counts.specs.declared.row.Row.{Row}
use Rattle.conode_stats_counts.specs.Buses.{is_row}
use Rattle.conode_stats_counts.specs.DistinctRows.{AreDistinct, HaveDistinctIds, IsNew, ids_of}

-- a test of numbers that are one greater
tested_more : (a b : ℕ) → nat_lt (1 + a) (suc b) ≡ nat_lt a b
tested_more a b = by_test (nat_lt a b)
    (λ less. let more : nat_lt (1 + a) (suc b) ≡ true = grind (arith, nat_tests) in more ∙ sym less)
    (λ not_less. let more : nat_lt (1 + a) (suc b) ≡ false = grind (arith, nat_tests) in more ∙ sym not_less)

symmetric : (a b : ℕ) → (a == b) ≡ false → (b == a) ≡ false
symmetric a b fails = grind (arith, nat_tests)

-- ---- a row that was found

other_at : (rows : List Row) (i number id : ℕ) (d : Row) → IsNew number (ids_of rows) → i < length rows → (get_or rows i d).can_id ≡ id
    → (number == id) ≡ false
other_at [] i number id d new lt is = absurd (omega (arith, lt))
other_at (row ∷ rows) zero number id d new lt is = symmetric id number (subst (λ (n : ℕ). (n == number) ≡ false) is new.0)
other_at (row ∷ rows) (suc i) number id d new lt is = other_at rows i number id d new.1 (omega (arith, lt)) is

at : (rows : List Row) (i id : ℕ) (d : Row) → AreDistinct (ids_of rows) → i < length rows → (get_or rows i d).can_id ≡ id
    → position_or_len (is_row id) rows ≡ i
at [] i id d distinct lt is = absurd (omega (arith, lt))
at (row ∷ rows) zero id d distinct lt is = let holds : (row.can_id == id) ≡ true = grind (arith, nat_tests) in rw holds refl
at (row ∷ rows) (suc i) id d distinct lt is =
    let fails = other_at rows i row.can_id id d distinct.0 (omega (arith, lt)) is in
    let rest = at rows i id d distinct.1 (omega (arith, lt)) is in
    rw fails (omega (arith, rest))

pub found : (rows : List Row) (i id : ℕ) (d : Row) → HaveDistinctIds rows → i < length rows → (get_or rows i d).can_id ≡ id
    → Some i ≡ position (is_row id) rows
found rows i id d have lt is =
    let here = at rows i id d have.distinct lt is in
    let within : nat_lt i (length rows) ≡ true = grind (arith, nat_tests) in
    rw (here, within) refl

-- ---- a row that changes

same_ids : (rows : List Row) (i : ℕ) (row d : Row) → row.can_id ≡ (get_or rows i d).can_id → ids_of (set rows i row) ≡ ids_of rows
same_ids [] i row d is = refl
same_ids (first ∷ rows) zero row d is = ap (λ (id : ℕ). id ∷ ids_of rows) is
same_ids (first ∷ rows) (suc i) row d is = ap (λ (ids : List ℕ). first.can_id ∷ ids) (same_ids rows i row d is)

pub set_keeps : (rows : List Row) (i : ℕ) (row d : Row) → HaveDistinctIds rows → row.can_id ≡ (get_or rows i d).can_id → HaveDistinctIds (set rows i row)
set_keeps rows i row d have is = record { distinct = subst AreDistinct (sym (same_ids rows i row d is)) have.distinct }

-- ---- a new row

is_new : (rows : List Row) (id : ℕ) → nat_lt (position_or_len (is_row id) rows) (length rows) ≡ false → IsNew id (ids_of rows)
is_new [] id none = tt
is_new (row ∷ rows) id none = by_test (row.can_id == id)
    (λ holds. absurd (let e : nat_lt (position_or_len (is_row id) (row ∷ rows)) (suc (length rows)) ≡ true = rw holds (grind (arith, nat_tests)) in cc))
    (λ fails. let next : nat_lt (position_or_len (is_row id) (row ∷ rows)) (suc (length rows)) ≡ nat_lt (position_or_len (is_row id) rows) (length rows) = rw fails (tested_more (position_or_len (is_row id) rows) (length rows)) in
    (fails, is_new rows id (sym next ∙ none)))

new_last : (ids : List ℕ) (number id : ℕ) → IsNew number ids → (id == number) ≡ false → IsNew number (ids ++ id ∷ [])
new_last [] number id new other = (other, tt)
new_last (first ∷ ids) number id new other = (new.0, new_last ids number id new.1 other)

distinct_last : (ids : List ℕ) (id : ℕ) → AreDistinct ids → IsNew id ids → AreDistinct (ids ++ id ∷ [])
distinct_last [] id distinct new = (tt, tt)
distinct_last (first ∷ ids) id distinct new =
    (new_last ids first id distinct.0 (symmetric first id new.0), distinct_last ids id distinct.1 new.1)

no_place : (id : ℕ) (rows : List Row) → position (is_row id) rows ≡ None → nat_lt (position_or_len (is_row id) rows) (length rows) ≡ false
no_place id rows none = by_test (nat_lt (position_or_len (is_row id) rows) (length rows))
    (λ holds. absurd (let e : position (is_row id) rows ≡ Some (position_or_len (is_row id) rows) = rw holds refl in cc))
    (λ fails. fails)

pub push_keeps : (rows : List Row) (row : Row) → HaveDistinctIds rows → position (is_row row.can_id) rows ≡ None → HaveDistinctIds (rows ++ row ∷ [])
push_keeps rows row have none =
    record {
      distinct = subst AreDistinct (sym (map-append (λ r. r.can_id) rows (row ∷ [])))
          (distinct_last (ids_of rows) row.can_id have.distinct (is_new rows row.can_id (no_place row.can_id rows none)));
    }
