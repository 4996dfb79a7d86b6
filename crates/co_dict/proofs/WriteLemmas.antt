-- What is not refused keeps the own rule of its entry.
use Rattle.std.proofs.Common.{◌≡◌, ℕ, Bool, true, false, List, [], ◌∷◌, length, Option, Some, None, refl, ap}
use Rattle.std.specs.Prelude.{◌||◌, not, is_none, option_and_then}
use Rattle.co_value.specs.declared.key.Key.{Key}
use Rattle.co_frame_aborts.specs.AbortCodes.{object_missing, sub_index_missing, read_only}
use Rattle.co_dict.specs.declared.row.Row.{Row}
use Rattle.co_dict.specs.Rows.{Rows, Contents}
use Rattle.co_dict.specs.Stores.{Description}
use Rattle.co_dict.specs.Refusals.{refused_if, first_of, first_refusal}
use Rattle.co_dict.specs.Objects.{has_object, missing_entry}
use Rattle.co_dict.specs.OwnRules.{own_refusal}
use Rattle.co_dict.specs.WriteRefusals.{is_read_only, is_constant, is_sdo_parameter, size_refusal, total_refusal, limit_refusal, value_refusal, writing_refusal, app_refusal}

second_none : (a b : Option ℕ) → first_of a b ≡ None → b ≡ None
second_none None b h = h
second_none (Some code) b h = absurd (cc)

first_none : (a b : Option ℕ) → first_of a b ≡ None → a ≡ None
first_none None b h = refl
first_none (Some code) b h = absurd (cc)

last_none : (refusal : Option ℕ) → first_refusal (refusal ∷ []) ≡ None → refusal ≡ None
last_none refusal h = first_none refusal None h

refused : (b : Bool) (code : ℕ) → b ≡ true → refused_if b code ≡ None → ⊥
refused true code is h = cc
refused false code is h = cc

-- an absent entry is missing
missing : (rows : Rows) (key : Key) → rows key ≡ None → missing_entry rows key ≡ None → ⊥
missing rows key is h =
    let sub = refused_if (is_none (rows key)) sub_index_missing in
    refused (is_none (rows key)) sub_index_missing (ap is_none is)
    (last_none sub (second_none (refused_if (not (has_object rows key.index)) object_missing) (first_refusal (sub ∷ [])) h))

-- what no refusal of its row gives, of an entry that is there or not
by_row : (rows : Rows) (key : Key) (refusals : Row → List (Option ℕ)) (own : Option ℕ) → ((row : Row) → first_refusal (refusals row) ≡ None → own ≡ None) → (o : Option Row) → rows key ≡ o
    → first_of (missing_entry rows key) (option_and_then (λ row. first_refusal (refusals row)) o) ≡ None → own ≡ None
by_row rows key refusals own each None is h = absurd (missing rows key is (first_none (missing_entry rows key) None h))
by_row rows key refusals own each (Some row) is h = each row (second_none (missing_entry rows key) (first_refusal (refusals row)) h)

-- a value that isn't refused keeps the own rule
kept : (d : Description) (contents : Contents) (key : Key) (row : Row) (bytes : List ℕ) → value_refusal d contents key row bytes ≡ None → own_refusal d contents key bytes ≡ None
kept d contents key row bytes h =
    let own = own_refusal d contents key bytes in
    let limit = limit_refusal row bytes in
    last_none own (second_none limit (first_refusal (own ∷ [])) (second_none (size_refusal row (length bytes)) (first_refusal (limit ∷ own ∷ [])) h))

pub by_sdo : (d : Description) (contents : Contents) (key : Key) (indicated : Option ℕ) (bytes : List ℕ) → writing_refusal d contents key indicated bytes ≡ None → own_refusal d contents key bytes ≡ None
by_sdo d contents key indicated bytes h =
    by_row d.rows key
    (λ row.
    refused_if (is_read_only row.access || is_sdo_parameter key.index) read_only
    ∷ option_and_then (size_refusal row) indicated
    ∷ option_and_then (λ size. total_refusal size (length bytes)) indicated
    ∷ value_refusal d contents key row bytes
    ∷ [])
    (own_refusal d contents key bytes)
    (λ row g.
    let value = value_refusal d contents key row bytes in
    let total = option_and_then (λ size. total_refusal size (length bytes)) indicated in
    let size = option_and_then (size_refusal row) indicated in
    kept d contents key row bytes
    (last_none value (second_none total (first_refusal (value ∷ [])) (second_none size (first_refusal (total ∷ value ∷ []))
    (second_none (refused_if (is_read_only row.access || is_sdo_parameter key.index) read_only) (first_refusal (size ∷ total ∷ value ∷ [])) g)))))
    (d.rows key) refl h

pub by_application : (d : Description) (contents : Contents) (key : Key) (bytes : List ℕ) → app_refusal d contents key bytes ≡ None → own_refusal d contents key bytes ≡ None
by_application d contents key bytes h =
    by_row d.rows key
    (λ row. refused_if (is_constant row.access || is_sdo_parameter key.index) read_only ∷ value_refusal d contents key row bytes ∷ [])
    (own_refusal d contents key bytes)
    (λ row g.
    let value = value_refusal d contents key row bytes in
    kept d contents key row bytes
    (last_none value (second_none (refused_if (is_constant row.access || is_sdo_parameter key.index) read_only) (first_refusal (value ∷ [])) g)))
    (d.rows key) refl h
