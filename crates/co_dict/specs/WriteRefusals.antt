-- Why writing an entry is refused, by SDO and by the application (CiA 301, 7.2.4.3.17).
use Rattle.std.specs.Prelude.{ℕ, nat_lt, Bool, true, false, ◌||◌, is_some, if◌then◌else◌, int_lt, length, unwrap_or, Option, None, option_and_then, List, [], ◌∷◌}
use Rattle.co_value.specs.declared.key.Key.{Key}
use Rattle.co_value.specs.Types.{width_of}
use Rattle.co_value.specs.Numbers.{number_of}
use Rattle.co_profile.specs.declared.access.Access.{Access}
use Rattle.co_profile.specs.declared.access.Access.TheVariants.{Ro, Constant}
use Rattle.co_dict.specs.declared.row.Row.{Row}
use Rattle.co_dict.specs.Rows.{Rows, Contents}
use Rattle.co_dict.specs.Stores.{Description}
use Rattle.co_dict.specs.Refusals.{refused_if, first_refusal}
use Rattle.co_profile.specs.Indices.{is_within, sdo_server}
use Rattle.co_dict.specs.OwnRules.{own_refusal}
use Rattle.co_dict.specs.Objects.{entry_refusal}
use Rattle.co_frame_aborts.specs.AbortCodes.{read_only, too_long, too_short, above_high_limit, below_low_limit}

-- an access without writing
abbrev pub is_read_only : Access → Bool
is_read_only Ro = true
is_read_only Constant = true
is_read_only access = false

-- a constant, which the application can't write either
abbrev pub is_constant : Access → Bool
is_constant Constant = true
is_constant access = false

-- 1200h to 127Fh, the SDO server parameters, which don't change while the device runs
abbrev pub is_sdo_parameter : ℕ → Bool
is_sdo_parameter index = is_within sdo_server index

-- why this many bytes don't fit an entry: more than its capacity, or fewer than the width of its
-- type
abbrev pub size_refusal : Row → ℕ → Option ℕ
size_refusal row size = first_refusal (
    refused_if (nat_lt row.capacity size) too_long
    ∷ refused_if (nat_lt size (unwrap_or (width_of row.data_type) 0)) too_short
    ∷ [])

-- why a total is not the size that was indicated
abbrev pub total_refusal : ℕ → ℕ → Option ℕ
total_refusal indicated total = first_refusal (
    refused_if (nat_lt indicated total) too_long
    ∷ refused_if (nat_lt total indicated) too_short
    ∷ [])

-- why a number is outside the limits of its entry; strings and domains have none
abbrev pub limit_refusal : Row → List ℕ → Option ℕ
limit_refusal row bytes = if is_some (width_of row.data_type) then first_refusal (
    refused_if (int_lt row.high (number_of row.data_type bytes)) above_high_limit
    ∷ refused_if (int_lt (number_of row.data_type bytes) row.low) below_low_limit
    ∷ []) else None

-- why bytes can't be the value of an entry: they don't fit; their number is outside the limits; the
-- entry's own rule
abbrev pub value_refusal : Description → Contents → Key → Row → List ℕ → Option ℕ
value_refusal d contents key row bytes = first_refusal (
    size_refusal row (length bytes)
    ∷ limit_refusal row bytes
    ∷ own_refusal d contents key bytes
    ∷ [])

-- why a write by SDO is refused when it begins: the entry is absent; it can't be written; the
-- indicated size, where there is one, doesn't fit
abbrev pub initiate_refusal : Rows → Key → Option ℕ → Option ℕ
initiate_refusal rows key indicated = entry_refusal rows key (λ row.
    refused_if (is_read_only row.access || is_sdo_parameter key.index) read_only
    ∷ option_and_then (size_refusal row) indicated
    ∷ [])

-- why a write by SDO is refused when it completes: what refuses its begin; its bytes are not as
-- many as indicated; they can't be the value
abbrev pub writing_refusal : Description → Contents → Key → Option ℕ → List ℕ → Option ℕ
writing_refusal d contents key indicated bytes = entry_refusal d.rows key (λ row.
    refused_if (is_read_only row.access || is_sdo_parameter key.index) read_only
    ∷ option_and_then (size_refusal row) indicated
    ∷ option_and_then (λ size. total_refusal size (length bytes)) indicated
    ∷ value_refusal d contents key row bytes
    ∷ [])

-- why a write by the application is refused: the entry is absent; it is a constant or an SDO server
-- parameter; the bytes can't be the value
abbrev pub app_refusal : Description → Contents → Key → List ℕ → Option ℕ
app_refusal d contents key bytes = entry_refusal d.rows key (λ row.
    refused_if (is_constant row.access || is_sdo_parameter key.index) read_only
    ∷ value_refusal d contents key row bytes
    ∷ [])
