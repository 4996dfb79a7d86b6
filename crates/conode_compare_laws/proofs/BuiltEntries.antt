-- A device that is built from a data sheet begins with bytes that fit its entries, and so does each reset of it; the rows have the types
-- that CiA 301 fixes.
use Rattle.std.proofs.Common.{◌≡◌, ℕ, Bool, true, false, List, [], ◌∷◌, length, map, Some, refl, ap, sym, ◌∙◌, subst, arith}
use Rattle.std.specs.Prelude.{if◌then◌else◌, ◌==◌, max, nat_le, option_map}
use Rattle.std.specs.List.{All}
use Rattle.std.specs.Option.{option_map_or}
use Rattle.std.proofs.lemmas.Bool.Decides.{nat_tests}
use Rattle.std.proofs.lemmas.List.Elements.{All-head, All-tail}
use Rattle.co_value.specs.declared.data_type.DataType.{DataType}
use Rattle.co_value.specs.declared.data_type.DataType.TheVariants.{Boolean, Integer8, Integer16, Integer24, Integer32, Integer40, Integer48, Integer56, Integer64, Unsigned8, Unsigned16, Unsigned24, Unsigned32, Unsigned40, Unsigned48, Unsigned56, Unsigned64, VisibleString, OctetString, Domain}
use Rattle.co_value.specs.declared.key.Key.{Key}
use Rattle.co_value.specs.Keys.{same_key, same_key-is}
use Rattle.co_value.specs.Types.{width_of}
use Rattle.co_profile.specs.FixedTypes.{fixed_type_of}
use Rattle.co_dict.specs.declared.row.Row.{Row}
use Rattle.co_dict_build.specs.Built.{Plan, built_contents, built_description, entry_of}
use Rattle.co_dict_build.specs.Capacities.{Limits, capacity_at, configured, default_bytes, is_read_only}
use Rattle.co_dict_build.specs.EntryLimits.{row_in}
use Rattle.co_dict_build.specs.InitialBytes.{initial_at}
use Rattle.co_dict_build.specs.ListedEntries.{ListedEntry, entry_at}
use Rattle.co_dict_build.proofs.Plans.{begins_initially}
use Rattle.co_sheet.specs.Content.{Row as SheetRow}
use Rattle.co_sheet.specs.SheetLaws.{IsSheetRow}
use Rattle.conode_compare_laws.proofs.Fitting.{AreFitted, FitsAt, HaveTypes}

-- ---- one entry

default_fits : (read_only : Bool) (size room : ℕ) → nat_le size (if read_only then size else max size room) ≡ true
default_fits true size room = grind (arith, nat_tests)
default_fits false size room = grind (arith, nat_tests)

none_fit : (room : ℕ) → nat_le 0 room ≡ true
none_fit room = grind (arith, nat_tests)

initial_fits : (node : ℕ) (limits : Limits) (row : SheetRow) (t : DataType) → option_map_or (λ width. length (initial_at node row t) == width) (width_of t) (nat_le (length (initial_at node row t)) (capacity_at limits row t)) ≡ true
initial_fits node limits row Boolean = refl
initial_fits node limits row Integer8 = refl
initial_fits node limits row Integer16 = refl
initial_fits node limits row Integer24 = refl
initial_fits node limits row Integer32 = refl
initial_fits node limits row Integer40 = refl
initial_fits node limits row Integer48 = refl
initial_fits node limits row Integer56 = refl
initial_fits node limits row Integer64 = refl
initial_fits node limits row Unsigned8 = refl
initial_fits node limits row Unsigned16 = refl
initial_fits node limits row Unsigned24 = refl
initial_fits node limits row Unsigned32 = refl
initial_fits node limits row Unsigned40 = refl
initial_fits node limits row Unsigned48 = refl
initial_fits node limits row Unsigned56 = refl
initial_fits node limits row Unsigned64 = refl
initial_fits node limits row VisibleString = default_fits (is_read_only row.access) (length (default_bytes row.default)) (configured limits.own row.key limits.strings)
initial_fits node limits row OctetString = default_fits (is_read_only row.access) (length (default_bytes row.default)) (configured limits.own row.key limits.strings)
initial_fits node limits row Domain = none_fit (configured limits.own row.key limits.domains)

width_is : (limits : Limits) (row : SheetRow) (t : DataType) (w : ℕ) → width_of t ≡ Some w → capacity_at limits row t ≡ w
width_is limits row Boolean w e = cc
width_is limits row Integer8 w e = cc
width_is limits row Integer16 w e = cc
width_is limits row Integer24 w e = cc
width_is limits row Integer32 w e = cc
width_is limits row Integer40 w e = cc
width_is limits row Integer48 w e = cc
width_is limits row Integer56 w e = cc
width_is limits row Integer64 w e = cc
width_is limits row Unsigned8 w e = cc
width_is limits row Unsigned16 w e = cc
width_is limits row Unsigned24 w e = cc
width_is limits row Unsigned32 w e = cc
width_is limits row Unsigned40 w e = cc
width_is limits row Unsigned48 w e = cc
width_is limits row Unsigned56 w e = cc
width_is limits row Unsigned64 w e = cc
width_is limits row VisibleString w e = absurd (cc)
width_is limits row OctetString w e = absurd (cc)
width_is limits row Domain w e = absurd (cc)

-- ---- all entries of a plan

all_fit : (node : ℕ) (limits : Limits) (rows : List SheetRow) (key : Key)
    → FitsAt (option_map (λ (e : ListedEntry). e.row) (entry_at (map (entry_of node limits) rows) key)) (option_map (λ (e : ListedEntry). e.bytes) (entry_at (map (entry_of node limits) rows) key))
all_fit node limits [] key = tt
all_fit node limits (row ∷ rows) key = by (same_key key row.key) (all_fit node limits rows key)
  where
    by : (b : Bool) → FitsAt (option_map (λ (e : ListedEntry). e.row) (entry_at (map (entry_of node limits) rows) key)) (option_map (λ (e : ListedEntry). e.bytes) (entry_at (map (entry_of node limits) rows) key))
        → FitsAt (option_map (λ (e : ListedEntry). e.row) (if b then Some (entry_of node limits row) else entry_at (map (entry_of node limits) rows) key))
        (option_map (λ (e : ListedEntry). e.bytes) (if b then Some (entry_of node limits row) else entry_at (map (entry_of node limits) rows) key))
    by true later = initial_fits node limits row row.data_type
    by false later = later

pub start_fits : (plan : Plan) → AreFitted (built_description plan).rows (built_contents plan)
start_fits plan = record { entry = all_fit plan.node plan.limits plan.rows }

pub initial_fit : (plan : Plan) → AreFitted (built_description plan).rows (built_description plan).initial
initial_fit plan = record { entry = λ key. subst (FitsAt ((built_description plan).rows key)) (begins_initially plan (built_description plan) (built_contents plan) refl refl key) ((start_fits plan).entry key) }

-- ---- their types

-- a row of the dictionary is that of a row of the sheet
record IsRowOf (limits : Limits) (key : Key) (row : Row) : Type 0 where
  sheet : SheetRow
  lawful : IsSheetRow sheet
  key_is : sheet.key ≡ key
  is : row_in limits sheet ≡ row

row_found : (node : ℕ) (limits : Limits) (rows : List SheetRow) (key : Key) (row : Row) → All IsSheetRow rows → option_map (λ (e : ListedEntry). e.row) (entry_at (map (entry_of node limits) rows) key) ≡ Some row → IsRowOf limits key row
row_found node limits [] key row all h = absurd (cc)
row_found node limits (r ∷ rows) key row all h = by (same_key key r.key) refl h (row_found node limits rows key row (All-tail IsSheetRow r rows all))
  where
    by : (b : Bool) → same_key key r.key ≡ b → option_map (λ (e : ListedEntry). e.row) (if b then Some (entry_of node limits r) else entry_at (map (entry_of node limits) rows) key) ≡ Some row
        → (option_map (λ (e : ListedEntry). e.row) (entry_at (map (entry_of node limits) rows) key) ≡ Some row → IsRowOf limits key row) → IsRowOf limits key row
    by true same g later = record { sheet = r; lawful = All-head IsSheetRow r rows all; key_is = sym (same_key-is key r.key same); is = cc }
    by false same g later = later g

pub types_built : (plan : Plan) → All IsSheetRow plan.rows → HaveTypes (built_description plan).rows
types_built plan lawful = record {
  fixed = λ key row t is fixed.
      let r : IsRowOf plan.limits key row = row_found plan.node plan.limits plan.rows key row lawful is in
      ap (λ (x : Row). x.data_type) (sym r.is) ∙ r.lawful.fixed_type t (ap fixed_type_of r.key_is ∙ fixed);
  width = λ key row w is wide.
      let r : IsRowOf plan.limits key row = row_found plan.node plan.limits plan.rows key row lawful is in
      ap (λ (x : Row). x.capacity) (sym r.is) ∙ width_is plan.limits r.sheet r.sheet.data_type w (ap (λ (x : Row). width_of x.data_type) r.is ∙ wide);
}
