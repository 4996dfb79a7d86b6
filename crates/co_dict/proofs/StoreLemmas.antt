-- What follows for an entry's bytes from what holds of each store.
use Rattle.std.proofs.Common.{◌≡◌, ◌≤◌, ℕ, List, length, Option, Some, None, true, false, refl, sym, ap, ◌∙◌, eqb-true, eq-eqb, arith}
use Rattle.std.proofs.lemmas.Bool.{true≢false}
use Rattle.std.specs.Prelude.{◌==◌, nat_le, is_some}
use Rattle.std.specs.Option.{option_map_or}
use Rattle.co_value.specs.declared.key.Key.{Key}
use Rattle.co_value.specs.declared.data_type.DataType.{DataType}
use Rattle.co_value.specs.Types.{width_of}
use Rattle.co_profile.specs.FixedTypes.{fixed_type_of}
use Rattle.co_dict.specs.declared.row.Row.{Row}
use Rattle.co_dict.specs.Rows.{Contents, fits, takes, capacity_at}
use Rattle.co_dict.specs.Stores.{Description, IsDescription, IsDictionary}

-- where there is a row, its type is the fixed one, and the bytes are as many as it is wide
at_row : (d : Description) (contents : Contents) → IsDictionary d contents → (key : Key) (t : DataType) (width : ℕ) (bytes : List ℕ) (row : Option Row) → d.rows key ≡ row → fixed_type_of key ≡ Some t → width_of t ≡ Some width → contents key ≡ Some bytes → length bytes ≡ width
at_row d contents h key t width bytes None is fixed wide held = absurd (true≢false (sym (ap is_some held) ∙ h.filled.present key ∙ ap is_some is))
at_row d contents h key t width bytes (Some row) is fixed wide held =
    let fitting : fits row (length bytes) ≡ true = h.filled.fitting key row bytes is held in
    let same : width_of row.data_type ≡ Some width = ap width_of (h.description.fixed key row t is fixed) ∙ wide in
    eqb-true (length bytes) width (sym (ap (λ w. option_map_or (λ n. length bytes == n) w (nat_le (length bytes) row.capacity)) same) ∙ fitting)

-- the bytes of an entry of fixed type are as many as its type is wide
pub fixed_length : (d : Description) (contents : Contents) → IsDictionary d contents → (key : Key) (t : DataType) (width : ℕ) (bytes : List ℕ) → fixed_type_of key ≡ Some t → width_of t ≡ Some width → contents key ≡ Some bytes → length bytes ≡ width
fixed_length d contents h key t width bytes fixed wide held = at_row d contents h key t width bytes (d.rows key) refl fixed wide held

-- bytes that an entry of fixed type takes are as many as its type is wide
taken_at_row : (d : Description) → IsDescription d → (key : Key) (t : DataType) (width size : ℕ) (row : Option Row) → d.rows key ≡ row → fixed_type_of key ≡ Some t → width_of t ≡ Some width → option_map_or (λ r. fits r size) row false ≡ true → size ≡ width
taken_at_row d h key t width size None is fixed wide taken = absurd (true≢false (sym taken))
taken_at_row d h key t width size (Some row) is fixed wide taken =
    let same : width_of row.data_type ≡ Some width = ap width_of (h.fixed key row t is fixed) ∙ wide in
    eqb-true size width (sym (ap (λ w. option_map_or (λ n. size == n) w (nat_le size row.capacity)) same) ∙ taken)

pub taken_length : (d : Description) → IsDescription d → (key : Key) (t : DataType) (width size : ℕ) → fixed_type_of key ≡ Some t → width_of t ≡ Some width → takes d.rows key size ≡ true → size ≡ width
taken_length d h key t width size fixed wide taken = taken_at_row d h key t width size (d.rows key) refl fixed wide taken

-- an entry of fixed type that is there takes as many bytes as its type is wide
takes_at_row : (d : Description) → IsDescription d → (key : Key) (t : DataType) (width : ℕ) (row : Option Row) → d.rows key ≡ row → fixed_type_of key ≡ Some t → width_of t ≡ Some width → is_some row ≡ true → option_map_or (λ r. fits r width) row false ≡ true
takes_at_row d h key t width None is fixed wide there = absurd (true≢false (sym there))
takes_at_row d h key t width (Some row) is fixed wide there =
    let same : width_of row.data_type ≡ Some width = ap width_of (h.fixed key row t is fixed) ∙ wide in
    ap (λ w. option_map_or (λ n. width == n) w (nat_le width row.capacity)) same ∙ eq-eqb width width refl

pub takes_width : (d : Description) → IsDescription d → (key : Key) (t : DataType) (width : ℕ) → fixed_type_of key ≡ Some t → width_of t ≡ Some width → is_some (d.rows key) ≡ true → takes d.rows key width ≡ true
takes_width d h key t width fixed wide there = takes_at_row d h key t width (d.rows key) refl fixed wide there

-- the room of a key, where it has an entry or not
pub room_of : (row : Option Row) (size : ℕ) → ((r : Row) → row ≡ Some r → r.capacity ≤ size)
    → option_map_or (λ row. row.capacity) row 0 ≤ size
room_of None size h = omega arith
room_of (Some r) size h = h r refl

pub room_at : (d : Description) (contents : Contents) (key : Key) → IsDictionary d contents → capacity_at d.rows key ≤ 65535
room_at d contents key s = room_of (d.rows key) 65535 (s.description.capacity key)
