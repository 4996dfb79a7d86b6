-- What holds of every sheet, for those who build from one (CiA 301, object dictionary; CiA 306).
use Rattle.std.specs.Prelude.{◌≡◌, ℕ, ◌<◌, ◌≤◌, Bool, true, false, ◌==◌, List, length, map, filter_map, ℤ, pos, ◌≤ℤ◌, unwrap_or, Option, Some, None, IfSome, All, AllPairs}
use Rattle.std.specs.List.{list_any, list_all}
use Rattle.std.specs.Option.{option_map_or}
use Rattle.co_value.specs.declared.data_type.DataType.{DataType}
use Rattle.co_value.specs.declared.data_type.DataType.TheVariants.{VisibleString, OctetString, Domain}
use Rattle.co_value.specs.Types.{least_of, greatest_of, InRange}
use Rattle.co_sheet_text.specs.Names.{is_hexadecimal_digit}
use Rattle.co_profile.specs.FixedTypes.{fixed_type_of}
use Rattle.co_sheet.specs.Limits.{absent, number, node_id, text, pairs, is_pairs, is_numeric}
use Rattle.co_value.specs.Keys.{is_key_before}
use Rattle.co_sheet.specs.Content.{Row, row_of, ObjectRow, SheetContent}
use Rattle.co_sheet_text.specs.Sections.{TextSection}
use Rattle.co_sheet.specs.Entries.{entries_of}

-- a limit that is stated, else the end of the type; 0 where there is neither, at strings and
-- domains
abbrev pub limit_or : Option ℤ → Option ℤ → ℤ
limit_or stated end = option_map_or (unwrap_or stated) end (pos 0)

-- the smallest and the greatest number that an entry may hold (CiA 306, LowLimit and HighLimit)
abbrev pub low_of : Row → ℤ
low_of row = limit_or row.low (least_of row.data_type)

abbrev pub high_of : Row → ℤ
high_of row = limit_or row.high (greatest_of row.data_type)

-- a number is one of an entry's type, and is within its limits
pub record IsWithinRow (row : Row) (value : ℤ) : Type 0 where
  pub in_type : InRange row.data_type value
  pub above_low : IfSome row.low (λ low. low ≤ℤ value)
  pub below_high : IfSome row.high (λ high. value ≤ℤ high)

-- What holds of each entry of a sheet: its index is 1000h or above; limits are numbers of its type,
-- in order; a default has its type's form, is within the limits if it is a number, and has at most
-- 512 bytes of text; a type that is fixed is that one.
pub record IsSheetRow (row : Row) : Type 0 where
  pub from_1000 : 0x1000 ≤ row.key.index
  pub low_in_type : IfSome row.low (InRange row.data_type)
  pub high_in_type : IfSome row.high (InRange row.data_type)
  pub limits_in_order : IfSome row.low (λ low. IfSome row.high (λ high. low ≤ℤ high))
  pub lowest_in_type : is_numeric row.data_type ≡ true → InRange row.data_type (low_of row)
  pub highest_in_type : is_numeric row.data_type ≡ true → InRange row.data_type (high_of row)
  pub lowest_to_highest : low_of row ≤ℤ high_of row
  pub no_low : is_numeric row.data_type ≡ false → row.low ≡ None
  pub no_high : is_numeric row.data_type ≡ false → row.high ≡ None
  pub number_within : (value : ℤ) → row.default ≡ number value → IsWithinRow row value
  pub node_id_numeric : (n : ℕ) → row.default ≡ node_id n → is_numeric row.data_type ≡ true
  pub text_at_string : (bytes : List ℕ) → row.default ≡ text bytes → row.data_type ≡ VisibleString
  pub pairs_at_octets : (digits : List ℕ) → row.default ≡ pairs digits → row.data_type ≡ OctetString
  pub pairs_paired : (digits : List ℕ) → row.default ≡ pairs digits → is_pairs digits ≡ true
  pub pairs_digits : (digits : List ℕ) → row.default ≡ pairs digits
      → list_all is_hexadecimal_digit digits ≡ true
  pub text_short : (bytes : List ℕ) → row.default ≡ text bytes → length bytes ≤ 512
  pub pairs_short : (digits : List ℕ) → row.default ≡ pairs digits → length digits ≤ 512
  pub domain_absent : row.data_type ≡ Domain → row.default ≡ absent
  pub fixed_type : (t : DataType) → fixed_type_of row.key ≡ Some t → row.data_type ≡ t

-- one entry's key is below another's
abbrev pub IsRowBefore : Row → Row → Type 0
IsRowBefore r s = is_key_before r.key s.key ≡ true

-- one object's index is below another's
abbrev pub IsObjectBefore : ObjectRow → ObjectRow → Type 0
IsObjectBefore o p = o.index < p.index

-- whether an object of this index is there
abbrev pub has_object : List ObjectRow → ℕ → Bool
has_object objects index = list_any (λ o. o.index == index) objects

-- What holds of every sheet: each entry is as above; keys and indices increase, so none is there
-- twice; the mandatory objects are there (CiA 301, communication profile); a node-ID is 1 to 127.
pub record IsSheetContent (sheet : SheetContent) : Type 0 where
  pub each_row : All IsSheetRow sheet.rows
  pub keys_increase : AllPairs IsRowBefore sheet.rows
  pub indices_increase : AllPairs IsObjectBefore sheet.objects
  pub has_1000 : has_object sheet.objects 0x1000 ≡ true
  pub has_1001 : has_object sheet.objects 0x1001 ≡ true
  pub has_1018 : has_object sheet.objects 0x1018 ≡ true
  pub node_id_range : IfSome sheet.node_id (λ id. (1 ≤ id) × (id ≤ 127))

-- no entry is left out: each has a row, of its key
abbrev pub KeepsEntries : List TextSection → Type 0
KeepsEntries sections =
    map (λ r. r.key) (filter_map row_of (entries_of sections))
    ≡ map (λ e. e.key) (entries_of sections)
