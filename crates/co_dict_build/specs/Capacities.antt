-- How many bytes an entry has room for (CiA 301, 7.4.7).
use Rattle.std.specs.Prelude.{ℕ, Bool, true, false, ◌+◌, ◌*◌, if◌then◌else◌, max, List, [], ◌∷◌, length, find, option_map, unwrap_or}
use Rattle.std.specs.Char.{digit_value}
use Rattle.co_value.specs.declared.key.Key.{Key}
use Rattle.co_value.specs.Keys.{same_key}
use Rattle.co_value.specs.declared.data_type.DataType.{DataType}
use Rattle.co_value.specs.declared.data_type.DataType.TheVariants.{VisibleString, OctetString, Domain}
use Rattle.co_value.specs.Types.{width_of}
use Rattle.co_profile.specs.declared.access.Access.{Access}
use Rattle.co_profile.specs.declared.access.Access.TheVariants.{Ro, Constant}
use Rattle.co_sheet.specs.Limits.{Default, text, pairs}
use Rattle.co_sheet.specs.Content.{Row as SheetRow}
use Rattle.co_dict_build.specs.declared.limits.Limits.{Limits as CodeLimits}

-- the configured room of strings, of domains and of single entries, without where the list lies in
-- memory
pub record Limits : Type 0 where
  pub strings : ℕ
  pub domains : ℕ
  pub own : List (Key × ℕ)

-- the limits of the code
abbrev pub limits_view : CodeLimits → Limits
limits_view limits = record { strings = limits.strings; domains = limits.domains; own = limits.own.now }

-- the room that is configured for an entry: its own, of equal keys the first; else that of its kind
abbrev pub configured : List (Key × ℕ) → Key → ℕ → ℕ
configured own key of_kind = unwrap_or (option_map (λ limit. limit.1) (find (λ limit. same_key limit.0 key) own)) of_kind

-- the bytes that pairs of hexadecimal digits write
abbrev pub decoded : List ℕ → List ℕ
decoded [] = []
decoded (digit ∷ []) = []
decoded (high ∷ low ∷ digits) = (16 * digit_value high + digit_value low) ∷ decoded digits

-- the bytes of a string's default: those of its text, or of its pairs of hexadecimal digits; none
-- where there is none
abbrev pub default_bytes : Default → List ℕ
default_bytes (text bytes) = bytes
default_bytes (pairs digits) = decoded digits
default_bytes other = []

-- an entry that nobody may write has access ro or const
abbrev pub is_read_only : Access → Bool
is_read_only Ro = true
is_read_only Constant = true
is_read_only other = false

-- a string has its default's length where it may not be written, else at least the configured room
abbrev pub string_capacity : Limits → SheetRow → ℕ
string_capacity limits row =
    let default = length (default_bytes row.default) in
    if is_read_only row.access then default else max default (configured limits.own row.key limits.strings)

-- the room of an entry of a type: of a number the width, of a domain what is configured
abbrev pub capacity_at : Limits → SheetRow → DataType → ℕ
capacity_at limits row VisibleString = string_capacity limits row
capacity_at limits row OctetString = string_capacity limits row
capacity_at limits row Domain = configured limits.own row.key limits.domains
capacity_at limits row numeric = unwrap_or (width_of numeric) 0

-- the room of an entry
abbrev pub capacity_of : Limits → SheetRow → ℕ
capacity_of limits row = capacity_at limits row row.data_type
