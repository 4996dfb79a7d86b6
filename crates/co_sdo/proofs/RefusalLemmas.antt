-- What follows where a completion is not refused.
use Rattle.std.proofs.Common.{◌≡◌, ℕ, ◌≤◌, Bool, true, false, not, List, [], ◌∷◌, length, Option, Some, None, refl, arith}
use Rattle.std.specs.Prelude.{nat_lt, ◌||◌, is_none, option_and_then}
use Rattle.std.specs.Option.{option_map_or}
use Rattle.std.proofs.lemmas.Bool.Decides.{nat_tests}
use Rattle.co_value.specs.declared.key.Key.{Key}
use Rattle.co_dict.specs.declared.row.Row.{Row}
use Rattle.co_dict.specs.Rows.{Rows, Contents}
use Rattle.co_dict.specs.Stores.{Description}
use Rattle.co_dict.specs.Refusals.{refused_if, first_of, first_refusal}
use Rattle.co_dict.specs.Objects.{has_object}
use Rattle.co_dict.specs.OwnRules.{own_refusal}
use Rattle.co_dict.specs.WriteRefusals.{is_read_only, is_sdo_parameter, size_refusal, total_refusal, limit_refusal}
use Rattle.co_sdo.specs.Refused.{capacity_at, completion_refusal}
use Rattle.co_sdo.specs.Downloads.{is_as_indicated}

-- the size is as indicated, and the entry has room
pub record IsAllowed (rows : Rows) (key : Key) (indicated : Option ℕ) (size : ℕ) : Type 0 where
  pub as_indicated : is_as_indicated indicated size ≡ true
  pub room : size ≤ capacity_at rows key

pub first_none : (a b : Option ℕ) → first_of a b ≡ None → a ≡ None
first_none None b h = refl
first_none (Some x) b h = h

pub second_none : (a b : Option ℕ) → first_of a b ≡ None → b ≡ None
second_none None b h = h
second_none (Some x) b h = cc

pub not_refused : (b : Bool) (code : ℕ) → refused_if b code ≡ None → b ≡ false
not_refused true code h = cc
not_refused false code h = refl

indicated_none : (indicated : Option ℕ) (size : ℕ) → option_and_then (λ n. total_refusal n size) indicated ≡ None → is_as_indicated indicated size ≡ true
indicated_none None size h = refl
indicated_none (Some n) size h =
    let above : nat_lt n size ≡ false = not_refused _ _ (first_none _ _ h) in
    let below : nat_lt size n ≡ false = not_refused (nat_lt size n) 0x06070013 (first_none _ _ (second_none (refused_if (nat_lt n size) 0x06070012) _ h)) in
    grind (arith, nat_tests)

by_row : (row : Option Row) (found : Bool) (indicated : Option ℕ) (size : ℕ) (a b : Row → Option ℕ) (rest : Row → List (Option ℕ)) (c1 c2 : ℕ)
    → first_of (first_refusal (refused_if (not found) c1 ∷ refused_if (is_none row) c2 ∷ []))
    (option_and_then (λ r. first_refusal (a r ∷ b r ∷ option_and_then (λ n. total_refusal n size) indicated ∷ first_refusal (size_refusal r size ∷ rest r) ∷ [])) row) ≡ None
    → (is_as_indicated indicated size ≡ true) × (size ≤ option_map_or (λ r. r.capacity) row 0)
by_row None true indicated size a b rest c1 c2 h = cc
by_row None false indicated size a b rest c1 c2 h = cc
by_row (Some r) false indicated size a b rest c1 c2 h = cc
by_row (Some r) true indicated size a b rest c1 c2 h =
    let later = second_none _ _ (second_none _ _ h) in
    let above : nat_lt r.capacity size ≡ false = not_refused _ _ (first_none _ _ (first_none _ _ (first_none _ _ (second_none _ _ later)))) in
    (indicated_none indicated size (first_none _ _ later), grind (arith, nat_tests))

pub allowed : (d : Description) (contents : Contents) (key : Key) (indicated : Option ℕ) (bytes : List ℕ) → completion_refusal d contents key indicated bytes ≡ None
    → IsAllowed d.rows key indicated (length bytes)
unfolding completion_refusal
allowed d contents key indicated bytes h =
    let both = by_row (d.rows key) (has_object d.rows key.index) indicated (length bytes)
    (λ row. refused_if (is_read_only row.access || is_sdo_parameter key.index) 0x06010002) (λ row. option_and_then (size_refusal row) indicated)
    (λ row. limit_refusal row bytes ∷ own_refusal d contents key bytes ∷ []) 0x06020000 0x06090011 h in
    record { as_indicated = both.0; room = both.1 }
