-- The number that a data sheet gives an entry is that which a device built of it begins with.
use Rattle.std.proofs.Common.{◌≡◌, ℕ, ◌+◌, ◌^◌, ◌≤◌, Bool, true, false, List, [], ◌∷◌, map, Option, Some, None, refl, ap, ◌∙◌, subst, arith, pos, negsuc}
use Rattle.std.specs.Prelude.{if◌then◌else◌, nat_lt, find, option_and_then, option_map, unwrap_or, IfSome}
use Rattle.std.specs.List.{All}
use Rattle.std.specs.Option.{option_map_or}
use Rattle.std.proofs.lemmas.Int.{ints}
use Rattle.std.proofs.lemmas.List.Elements.{All-head, All-tail}
use Rattle.co_value.specs.declared.data_type.DataType.{DataType}
use Rattle.co_value.specs.declared.data_type.DataType.TheVariants.{Unsigned8, Unsigned16, Unsigned32}
use Rattle.co_value.specs.declared.key.Key.{Key}
use Rattle.co_value.specs.Keys.{same_key, same_key-is, same_key-refl}
use Rattle.co_value.specs.Numbers.{bytes_of, unsigned_of}
use Rattle.co_value.specs.Types.{InRange}
use Rattle.co_value.proofs.Bytes.{unsigned_of-low_bytes}
use Rattle.co_profile.specs.FixedTypes.{fixed_type_of}
use Rattle.co_dict.specs.Rows.{number_at}
use Rattle.co_dict.specs.SdoChannels.{answer_key, request_key}
use Rattle.co_dict_build.specs.Built.{Plan, built_contents, entry_of}
use Rattle.co_dict_build.specs.BuildFaults.{is_sum_outside, value_out_of_range}
use Rattle.co_dict_build.specs.Capacities.{Limits}
use Rattle.co_dict_build.specs.InitialBytes.{initial_at, initial_number, initial_of, number_with}
use Rattle.co_dict_build.specs.ListedEntries.{ListedEntry, entry_at}
use Rattle.co_dict_build.proofs.Readiness.{ready}
use Rattle.co_sheet.specs.Content.{Row}
use Rattle.co_sheet.specs.Limits.{Default, is_numeric, number, node_id}
use Rattle.co_sheet.specs.SheetLaws.{IsSheetRow}
use Rattle.co_sheet_changes.specs.Names.{row_at}
use Rattle.conode_compare_pdos.specs.SheetNumbers.{number_of, preset_at, small, time_at, tiny}

-- ---- the row of an entry

pub same_back : (a b : Key) (x : Bool) → same_key a b ≡ x → same_key b a ≡ x
same_back a b true is = ap (λ k. same_key b k) (same_key-is a b is) ∙ same_key-refl b
same_back a b false is = by (same_key b a) refl
  where
    by : (y : Bool) → same_key b a ≡ y → y ≡ false
    by false on = refl
    by true on = absurd (let yes : same_key a b ≡ true = ap (λ k. same_key a k) (same_key-is b a on) ∙ same_key-refl a in cc)

-- the number that the entry of a key begins with, 0 where there is none
pub number_found : (node : ℕ) (limits : Limits) (rows : List Row) (key : Key)
    → unsigned_of (unwrap_or (option_map (λ (e : ListedEntry). e.bytes) (entry_at (map (entry_of node limits) rows) key)) []) ≡ option_map_or (λ row. unsigned_of (initial_of node row)) (row_at rows key) 0
number_found node limits [] key = refl
number_found node limits (row ∷ rows) key = by (same_key row.key key) refl (number_found node limits rows key)
  where
    by : (b : Bool) → same_key row.key key ≡ b
        → unsigned_of (unwrap_or (option_map (λ (e : ListedEntry). e.bytes) (entry_at (map (entry_of node limits) rows) key)) []) ≡ option_map_or (λ r. unsigned_of (initial_of node r)) (row_at rows key) 0
        → unsigned_of (unwrap_or (option_map (λ (e : ListedEntry). e.bytes) (entry_at (map (entry_of node limits) (row ∷ rows)) key)) []) ≡ option_map_or (λ r. unsigned_of (initial_of node r)) (row_at (row ∷ rows) key) 0
    by true is later = rw (is, same_back row.key key true is) refl
    by false is later = rw (is, same_back row.key key false is) later

-- a row of this key is lawful, and its sum with the node-ID is in range
pub record IsFound (node : ℕ) (key : Key) (row : Row) : Type 0 where
  pub sheet : IsSheetRow row
  pub key_is : row.key ≡ key
  pub inside : is_sum_outside node row row.default ≡ false

none_of : (b : Bool) (row : Row) (rest : Option Row) → option_map (λ (r : Row). r.key) (if b then Some row else rest) ≡ None → (b ≡ false) × (option_map (λ (r : Row). r.key) rest ≡ None)
none_of true row rest h = absurd (cc)
none_of false row rest h = (refl, h)

pub row_found : (node : ℕ) (rows : List Row) (key : Key) → All IsSheetRow rows → value_out_of_range node rows ≡ None → IfSome (row_at rows key) (IsFound node key)
row_found node [] key all none = tt
row_found node (row ∷ rows) key all none =
    let here = none_of (is_sum_outside node row row.default) row (find (λ r. is_sum_outside node r r.default) rows) none in
    by (same_key row.key key) refl (row_found node rows key (All-tail IsSheetRow row rows all) here.1) here.0
  where
    by : (b : Bool) → same_key row.key key ≡ b → IfSome (row_at rows key) (IsFound node key) → is_sum_outside node row row.default ≡ false → IfSome (if b then Some row else row_at rows key) (IsFound node key)
    by true is later inside = record { sheet = All-head IsSheetRow row rows all; key_is = same_key-is row.key key is; inside = inside }
    by false is later inside = later

-- ---- its number

-- a type of unsigned numbers of so many bytes
abbrev pub IsUnsigned : DataType → Type 0
IsUnsigned t = (n : ℕ) (node : ℕ) (row : Row) → row.data_type ≡ t → initial_number node row ≡ pos n → InRange t (pos n) → unsigned_of (initial_of node row) ≡ n

pub byte : IsUnsigned Unsigned8
byte n node row is initial range = ap (λ t. unsigned_of (initial_at node row t)) is ∙ ap (λ x. unsigned_of (bytes_of Unsigned8 x)) initial ∙ unsigned_of-low_bytes 1 n (omega (arith, ints))

pub word : IsUnsigned Unsigned16
word n node row is initial range = ap (λ t. unsigned_of (initial_at node row t)) is ∙ ap (λ x. unsigned_of (bytes_of Unsigned16 x)) initial ∙ unsigned_of-low_bytes 2 n (omega (arith, ints))

pub long : IsUnsigned Unsigned32
long n node row is initial range = ap (λ t. unsigned_of (initial_at node row t)) is ∙ ap (λ x. unsigned_of (bytes_of Unsigned32 x)) initial ∙ unsigned_of-low_bytes 4 n (omega (arith, ints))

-- the default of a row is this number
pub default_is : (node : ℕ) (row : Row) (d : Default) (n : ℕ) → number_of node d ≡ Some n → number_with node row d ≡ pos n
default_is node row (number (pos v)) n h = by (nat_lt v (2 ^ 32)) h
  where
    by : (b : Bool) → (if b then Some v else None) ≡ Some n → pos v ≡ pos n
    by true g = ap pos (cc)
    by false g = absurd (cc)
default_is node row (number (negsuc v)) n h = absurd (cc)
default_is node row (node_id v) n h = by (nat_lt v (2 ^ 32)) h
  where
    by : (b : Bool) → (if b then Some (v + node) else None) ≡ Some n → pos (node + v) ≡ pos n
    by true g = ap pos (let same : v + node ≡ n = cc in omega arith)
    by false g = absurd (cc)
default_is node row _ n h = absurd (cc)

-- a key that isn't one of the default SDO channel
pub record IsOwnKey (key : Key) (t : DataType) : Type 0 where
  pub request : same_key key (request_key 0) ≡ false
  pub answer : same_key key (answer_key 0) ≡ false
  pub fixed : fixed_type_of key ≡ Some t
  pub numeric : is_numeric t ≡ true

initial_is : (node : ℕ) (key : Key) (t : DataType) (row : Row) (n : ℕ) → IsOwnKey key t → row.key ≡ key → number_of node row.default ≡ Some n → initial_number node row ≡ pos n
initial_is node key t row n own is h =
    rw (ap (λ k. same_key k (request_key 0)) is ∙ own.request, ap (λ k. same_key k (answer_key 0)) is ∙ own.answer) (default_is node row row.default n h)

row_number : (node : ℕ) (key : Key) (t : DataType) (row : Row) (n : ℕ) → IsUnsigned t → IsOwnKey key t → node ≤ 127 → IsFound node key row → number_of node row.default ≡ Some n → unsigned_of (initial_of node row) ≡ n
row_number node key t row n unsigned own last found h =
    let data_type : row.data_type ≡ t = found.sheet.fixed_type t (ap fixed_type_of found.key_is ∙ own.fixed) in
    let initial : initial_number node row ≡ pos n = initial_is node key t row n own found.key_is h in
    let range : InRange row.data_type (initial_number node row) = (ready node row last found.sheet found.inside).number (ap is_numeric data_type ∙ own.numeric) in
    unsigned n node row data_type initial (subst (λ x. InRange t x) initial (subst (λ x. InRange x (initial_number node row)) data_type range))

pub from_some : (P : ℕ → Type 0) (o : Option ℕ) → ((n : ℕ) → o ≡ Some n → P n) → IfSome o P
from_some P None f = tt
from_some P (Some n) f = f n refl

pub tiny_is : (o : Option ℕ) (n : ℕ) → tiny o ≡ Some n → o ≡ Some n
tiny_is None n h = absurd (cc)
tiny_is (Some x) n h = by (nat_lt x (2 ^ 8)) h
  where
    by : (b : Bool) → (if b then Some x else None) ≡ Some n → Some x ≡ Some n
    by true g = g
    by false g = absurd (cc)

pub small_is : (o : Option ℕ) (n : ℕ) → small o ≡ Some n → o ≡ Some n
small_is None n h = absurd (cc)
small_is (Some x) n h = by (nat_lt x (2 ^ 16)) h
  where
    by : (b : Bool) → (if b then Some x else None) ≡ Some n → Some x ≡ Some n
    by true g = g
    by false g = absurd (cc)

-- ---- an entry of a plan

module _ (plan : Plan) (last : plan.node ≤ 127) (lawful : All IsSheetRow plan.rows) (none : value_out_of_range plan.node plan.rows ≡ None) where
  pub preset_is : (key : Key) (t : DataType) (n : ℕ) → IsUnsigned t → IsOwnKey key t → preset_at plan.rows plan.node key ≡ Some n → number_at (built_contents plan) key ≡ n
  preset_is key t n unsigned own h = number_found plan.node plan.limits plan.rows key ∙ by (row_at plan.rows key) (row_found plan.node plan.rows key lawful none) h
    where
      by : (o : Option Row) → IfSome o (IsFound plan.node key) → option_and_then (λ row. number_of plan.node row.default) o ≡ Some n → option_map_or (λ row. unsigned_of (initial_of plan.node row)) o 0 ≡ n
      by None found g = absurd (cc)
      by (Some row) found g = row_number plan.node key t row n unsigned own last found g

  pub time_is : (key : Key) (n : ℕ) → IsOwnKey key Unsigned16 → time_at plan.rows plan.node key ≡ Some n → number_at (built_contents plan) key ≡ n
  time_is key n own h = number_found plan.node plan.limits plan.rows key ∙ by (row_at plan.rows key) (row_found plan.node plan.rows key lawful none) h
    where
      by : (o : Option Row) → IfSome o (IsFound plan.node key) → option_map_or (λ row. small (number_of plan.node row.default)) o (Some 0) ≡ Some n → option_map_or (λ row. unsigned_of (initial_of plan.node row)) o 0 ≡ n
      by None found g = cc
      by (Some row) found g = row_number plan.node key Unsigned16 row n word own last found (small_is (number_of plan.node row.default) n g)
