-- An entry can be made of each row of a data sheet, where no default is a sum out of range.
use Rattle.std.proofs.Common.{◌≡◌, ℕ, ◌+◌, ◌≤◌, ◌<◌, ◌^◌, Bool, true, false, cond, pos, Some, refl, sym, subst, arith, lit≤, length}
use Rattle.std.proofs.lemmas.Int.{ints}
use Rattle.std.proofs.lemmas.Bool.Decides.{nat_tests}
use Rattle.std.specs.Prelude.{ℤ, ◌&&◌, not}
use Rattle.co_value.specs.declared.key.Key.{Key}
use Rattle.co_value.specs.declared.data_type.DataType.{DataType}
use Rattle.co_value.specs.declared.data_type.DataType.TheVariants.{Unsigned32}
use Rattle.co_value.specs.Keys.{same_key}
use Rattle.co_value.specs.Types.{InRange}
use Rattle.co_profile.specs.FixedTypes.{fixed_type_of}
use Rattle.co_sheet.specs.Limits.{Default, absent, number, node_id, text, pairs, is_numeric, is_in_type, at_most}
use Rattle.co_sheet.specs.Content.{Row as SheetRow}
use Rattle.co_sheet.specs.SheetLaws.{IsSheetRow}
use Rattle.co_sheet.specs.SheetLaws.{low_of, high_of}
use Rattle.co_dict.specs.SdoChannels.{request_key, answer_key}
use Rattle.co_dict_build.specs.InitialBytes.{number_with, initial_number, nearest_to_zero}
use Rattle.co_dict_build.specs.BuildFaults.{is_sum_outside}
use Rattle.co_dict_build.specs.SheetRows.{HasShortDefault, IsReady}
use Rattle.co_dict_build.specs.Capacities.{default_bytes}
use Rattle.co_dict_build.proofs.Pairs.{length-decoded}
use Rattle.co_dict_build.proofs.Ranges.{ends_of, limits_within, nearest_within, allowed_in_range}

-- the number that a default says
nearest_ready : (row : SheetRow) → IsSheetRow row → is_numeric row.data_type ≡ true → InRange row.data_type (nearest_to_zero (low_of row) (high_of row))
nearest_ready row sheet numeric =
    let e = ends_of row.data_type numeric in
    let within = limits_within row.data_type e.0 e.1 (low_of row) (high_of row) e.2 (sheet.lowest_in_type numeric) (sheet.highest_in_type numeric) sheet.lowest_to_highest in
    nearest_within row.data_type e.0 e.1 (low_of row) (high_of row) e.2 within

allowed : (p q r : Bool) → not (p && q && r) ≡ false → p ≡ true
allowed p q r h = grind arith

default_ready : (node : ℕ) (row : SheetRow) (d : Default) → IsSheetRow row → is_numeric row.data_type ≡ true → row.default ≡ d → is_sum_outside node row d ≡ false → InRange row.data_type (number_with node row d)
default_ready node row (number value) sheet numeric is inside = (sheet.number_within value is).in_type
default_ready node row (node_id n) sheet numeric is inside =
    let e = ends_of row.data_type numeric in
    allowed_in_range row.data_type e.0 e.1 (pos (node + n)) e.2 (allowed (is_in_type row.data_type (pos (node + n))) (at_most row.low (Some (pos (node + n)))) (at_most (Some (pos (node + n))) row.high) inside)
default_ready node row absent sheet numeric is inside = nearest_ready row sheet numeric
default_ready node row (text bytes) sheet numeric is inside = nearest_ready row sheet numeric
default_ready node row (pairs digits) sheet numeric is inside = nearest_ready row sheet numeric

-- the words of channel 0
chosen : (b c : Bool) (t : DataType) (x y z : ℤ) → (b ≡ true → InRange t x) → (c ≡ true → InRange t y) → InRange t z → InRange t (cond b x (cond c y z))
chosen true c t x y z p q r = p refl
chosen false true t x y z p q r = q refl
chosen false false t x y z p q r = r

word_type : (key : Key) (sub : ℕ) → 1 ≤ sub → sub ≤ 2 → same_key key (record { index = 0x1200; sub = sub }) ≡ true → fixed_type_of key ≡ Some Unsigned32
word_type key sub first last h = grind (arith, nat_tests)

word_ready : (row : SheetRow) (word : ℕ) → IsSheetRow row → word < 2 ^ 32 → fixed_type_of row.key ≡ Some Unsigned32 → InRange row.data_type (pos word)
word_ready row word sheet small fixed =
    let same : row.data_type ≡ Unsigned32 = sheet.fixed_type Unsigned32 fixed in
    let range : InRange Unsigned32 (pos word) = (omega (arith, ints), omega (arith, ints)) in
    subst (λ (t : DataType). InRange t (pos word)) (sym same) range

number_ready : (node : ℕ) (row : SheetRow) → node ≤ 127 → IsSheetRow row → is_sum_outside node row row.default ≡ false → is_numeric row.data_type ≡ true → InRange row.data_type (initial_number node row)
number_ready node row last sheet inside numeric =
    chosen (same_key row.key (request_key 0)) (same_key row.key (answer_key 0)) row.data_type (pos (0x600 + node)) (pos (0x580 + node)) (number_with node row row.default)
    (λ h. word_ready row (0x600 + node) sheet (omega arith) (word_type row.key 1 (omega arith) (omega arith) h))
    (λ h. word_ready row (0x580 + node) sheet (omega arith) (word_type row.key 2 (omega arith) (omega arith) h))
    (default_ready node row row.default sheet numeric refl inside)

-- a default is as short as a line of the sheet
short_default : (row : SheetRow) (d : Default) → IsSheetRow row → row.default ≡ d → length (default_bytes d) ≤ 65535
short_default row (text bytes) sheet is = let short = sheet.text_short bytes is in omega (arith, short)
short_default row (pairs digits) sheet is = let short = sheet.pairs_short digits is in let halved = length-decoded digits in omega (arith, short, halved)
short_default row d sheet is = lit≤ tt

pub short : (row : SheetRow) → IsSheetRow row → HasShortDefault row
short row sheet = short_default row row.default sheet refl

-- a row of a sheet is ready
pub ready : (node : ℕ) (row : SheetRow) → node ≤ 127 → IsSheetRow row → is_sum_outside node row row.default ≡ false → IsReady node row
ready node row last sheet inside = record { sheet = sheet; short = short row sheet; number = number_ready node row last sheet inside }
