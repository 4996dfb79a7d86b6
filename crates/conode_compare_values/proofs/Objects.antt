-- The objects of a mapping, one after the other.
use Rattle.std.proofs.Common.{◌≡◌, ℕ, ◌+◌, ◌<◌, ◌≤◌, Bool, true, false, nat_lt, ◌&&◌, ◌∙◌, sym, List, ◌∷◌, Option, length, drop, get_or, add-one, refl, ap}
use Rattle.std.proofs.Math.Seq.{drop-cons}
use Rattle.std.proofs.lemmas.List.{drop_all}
use Rattle.co_sheet.specs.Content.{Row}
use Rattle.conode_compare_values.specs.declared.entries.HeldEntry.{HeldEntry}
use Rattle.conode_compare_values.specs.declared.rpdo_writes.Brought.{Brought}
use Rattle.conode_compare_values.specs.declared.rpdo_writes.RpdoWrites.{RpdoWrites}
use Rattle.conode_compare_values.specs.RpdoWrites.{brought_from, fits_at, fits_from, later_bytes, object_bytes, settled_from, settled_place, with_brought}

next_and_more : (xs : List (Option ℕ)) (i : ℕ) (d : Option ℕ) → i < length xs → drop i xs ≡ get_or xs i d ∷ drop (i + 1) xs
next_and_more xs i d h = rw add-one (drop-cons xs i d h)

pub brought_turn : (entry : HeldEntry) (count place : ℕ) (objects : List (Option ℕ)) (rest : List ℕ) (brought : Brought) (d : Option ℕ) → place < length objects
    → brought_from entry count place (drop place objects) rest brought
    ≡ brought_from entry count (place + 1) (drop (place + 1) objects) (later_bytes (object_bytes (get_or objects place d)) rest)
    (with_brought entry (nat_lt place count) (get_or objects place d) rest brought)
unfolding brought_from
brought_turn entry count place objects rest brought d h = ap (λ ws. brought_from entry count place ws rest brought) (next_and_more objects place d h)

pub brought_end : (entry : HeldEntry) (count place : ℕ) (objects : List (Option ℕ)) (rest : List ℕ) (brought : Brought) → length objects ≤ place
    → brought_from entry count place (drop place objects) rest brought ≡ brought
unfolding brought_from
brought_end entry count place objects rest brought h = rw (drop_all place objects h) refl

pub fit_turn : (rows : List Row) (count place : ℕ) (objects : List (Option ℕ)) (rest : List ℕ) (d : Option ℕ) → place < length objects
    → fits_from rows count place (drop place objects) rest
    ≡ (fits_at rows (nat_lt place count) (get_or objects place d) rest && fits_from rows count (place + 1) (drop (place + 1) objects) (later_bytes (object_bytes (get_or objects place d)) rest))
unfolding fits_from
fit_turn rows count place objects rest d h = ap (λ ws. fits_from rows count place ws rest) (next_and_more objects place d h)

-- one that doesn't fit, and one that does
pub fit_off : (rows : List Row) (count place : ℕ) (objects : List (Option ℕ)) (rest : List ℕ) (d : Option ℕ) → place < length objects
    → (fit : Bool) → fit ≡ fits_at rows (nat_lt place count) (get_or objects place d) rest → fit ≡ false
    → fits_from rows count place (drop place objects) rest ≡ false
fit_off rows count place objects rest d h fit is e = fit_turn rows count place objects rest d h ∙ rw (sym is, e) refl

pub fit_on : (rows : List Row) (count place : ℕ) (objects : List (Option ℕ)) (rest : List ℕ) (d : Option ℕ) → place < length objects
    → (fit : Bool) → fit ≡ fits_at rows (nat_lt place count) (get_or objects place d) rest → fit ≡ true
    → fits_from rows count place (drop place objects) rest ≡ fits_from rows count (place + 1) (drop (place + 1) objects) (later_bytes (object_bytes (get_or objects place d)) rest)
fit_on rows count place objects rest d h fit is e = fit_turn rows count place objects rest d h ∙ rw (sym is, e) refl

pub fit_end : (rows : List Row) (count place : ℕ) (objects : List (Option ℕ)) (rest : List ℕ) → length objects ≤ place
    → fits_from rows count place (drop place objects) rest ≡ true
unfolding fits_from
fit_end rows count place objects rest h = rw (drop_all place objects h) refl

-- ---- entries that are held

abbrev no_entry : HeldEntry
no_entry = record { key = record { index = 0; sub = 0 }; width = 0; mappable = false }

pub settled_turn : (tolerance : ℕ) (operational : Option ℕ) (place : ℕ) (entries : List HeldEntry) (writes : RpdoWrites) → place < length entries
    → settled_from tolerance operational place (drop place entries) writes
    ≡ settled_from tolerance operational (place + 1) (drop (place + 1) entries) (settled_place tolerance operational writes place)
unfolding settled_from
settled_turn tolerance operational place entries writes h =
    let next : drop place entries ≡ get_or entries place no_entry ∷ drop (place + 1) entries = rw add-one (drop-cons entries place no_entry h) in
    ap (λ es. settled_from tolerance operational place es writes) next
