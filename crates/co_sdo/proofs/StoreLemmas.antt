-- What the laws of a store say of an entry's bytes.
use Rattle.std.proofs.Common.{◌≡◌, ℕ, ◌≤◌, true, List, length, Option, Some, None, refl, sym, ap, ◌∙◌, arith}
use Rattle.std.specs.Prelude.{[], ◌==◌, nat_le, is_some, unwrap_or}
use Rattle.std.specs.Option.{option_map_or}
use Rattle.std.proofs.lemmas.Bool.{false≢true}
use Rattle.std.proofs.lemmas.Bool.Decides.{nat_tests}
use Rattle.co_value.specs.declared.key.Key.{Key}
use Rattle.co_value.specs.Types.{width_of}
use Rattle.co_dict.specs.declared.row.Row.{Row}
use Rattle.co_dict.specs.Rows.{Contents}
use Rattle.co_dict.specs.Stores.{Description, IsDictionary}
use Rattle.co_sdo.specs.Refused.{capacity_at}
use Rattle.co_sdo.specs.Uploads.{value_at}

width_fits : (capacity size : ℕ) (width : Option ℕ) → ((w : ℕ) → width ≡ Some w → capacity ≡ w) → option_map_or (λ w. size == w) width (nat_le size capacity) ≡ true → size ≤ capacity
width_fits capacity size None is h = grind (arith, nat_tests)
width_fits capacity size (Some w) is h = let e : capacity ≡ w = is w refl in grind (arith, nat_tests)

entry_fits : (d : Description) (contents : Contents) (key : Key) (row : Option Row) (value : Option (List ℕ)) → d.rows key ≡ row → contents key ≡ value → IsDictionary d contents
    → length (unwrap_or value []) ≤ option_map_or (λ row. row.capacity) row 0
entry_fits d contents key row None r e s = omega arith
entry_fits d contents key None (Some bytes) r e s = absurd (false≢true (ap is_some (sym r) ∙ sym (s.filled.present key) ∙ ap is_some e))
entry_fits d contents key (Some row) (Some bytes) r e s =
    width_fits row.capacity (length bytes) (width_of row.data_type) (λ w h. s.description.width key row w r h) (s.filled.fitting key row bytes r e)

-- an entry has room for its bytes
pub value_fits : (d : Description) (contents : Contents) (key : Key) → IsDictionary d contents → length (value_at contents key) ≤ capacity_at d.rows key
value_fits d contents key s = entry_fits d contents key _ _ refl refl s

-- the bytes of an entry that is there
pub bytes_fit : (d : Description) (contents : Contents) (key : Key) (bytes : List ℕ) → IsDictionary d contents → Some bytes ≡ contents key → length bytes ≤ capacity_at d.rows key
bytes_fit d contents key bytes s e = entry_fits d contents key _ (Some bytes) refl (sym e) s
