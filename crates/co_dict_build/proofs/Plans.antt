-- From the rows of a sheet to the entries of a dictionary: each row is ready, and the keys stay as they are.
use Rattle.std.proofs.Common.{◌≡◌, ℕ, suc, ◌≤◌, Bool, true, false, cond, List, [], ◌∷◌, Option, Some, None, refl, sym, ap, ◌∙◌, map, get_or, All, arith}
use Rattle.std.proofs.lemmas.Bool.{and_from}
use Rattle.std.proofs.lemmas.List.Elements.{All-nil, All-cons, All-head, All-tail}
use Rattle.std.specs.Prelude.{find, option_map, AllPairs}
use Rattle.std.specs.List.{list_all}
use Rattle.co_value.specs.declared.key.Key.{Key}
use Rattle.co_value.specs.Keys.{same_key, is_key_before}
use Rattle.co_sheet_rows.specs.declared.entry.EntryRow.{EntryRow}
use Rattle.co_sheet.specs.SheetViews.{row_view}
use Rattle.co_sheet.specs.SheetLaws.{IsSheetRow}
use Rattle.co_sheet.specs.Content.{Row as SheetRow}
use Rattle.co_dict.specs.Rows.{Contents}
use Rattle.co_dict.specs.Stores.{Description}
use Rattle.co_dict_build.specs.ListedEntries.{ListedEntry, entry_at, contents_in, initial_in, keys_in, are_increasing}
use Rattle.co_dict_build.specs.Capacities.{Limits}
use Rattle.co_dict_build.specs.Built.{Plan, entry_of, built_description, built_contents}
use Rattle.co_dict_build.specs.BuildFaults.{is_sum_outside, value_out_of_range}
use Rattle.co_dict_build.specs.SheetRows.{IsReady}
use Rattle.co_dict_build.proofs.Readiness.{ready}

-- ---- no sum is out of range

none_of : (b : Bool) (row : SheetRow) (rest : Option SheetRow) → option_map (λ (r : SheetRow). r.key) (cond b (Some row) rest) ≡ None → (b ≡ false) × (option_map (λ (r : SheetRow). r.key) rest ≡ None)
none_of true row rest h = absurd (cc)
none_of false row rest h = (refl, h)

inside : (node : ℕ) (rows : List EntryRow) → value_out_of_range node (map row_view rows) ≡ None → All (λ row. is_sum_outside node (row_view row) (row_view row).default ≡ false) rows
inside node [] h = All-nil (λ row. is_sum_outside node (row_view row) (row_view row).default ≡ false)
inside node (row ∷ rows) h =
    let here = none_of (is_sum_outside node (row_view row) (row_view row).default) (row_view row) (find (λ r. is_sum_outside node r r.default) (map row_view rows)) h in
    All-cons (λ row. is_sum_outside node (row_view row) (row_view row).default ≡ false) row rows here.0 (inside node rows here.1)

-- each row is ready
pub all_ready : (node : ℕ) (rows : List EntryRow) → node ≤ 127 → All (λ row. IsSheetRow (row_view row)) rows → value_out_of_range node (map row_view rows) ≡ None
    → All (λ row. IsReady node (row_view row)) rows
all_ready node rows last sheets none = λ k d h. ready node (row_view (get_or rows k d)) last (sheets k d h) (inside node rows none k d h)

-- ---- the keys

pub keys_built : (node : ℕ) (limits : Limits) (rows : List EntryRow) → keys_in (map (entry_of node limits) (map row_view rows)) ≡ map (λ row. row.key) rows
keys_built node limits [] = refl
keys_built node limits (row ∷ rows) = ap (λ keys. row.key ∷ keys) (keys_built node limits rows)

before_all : (key : Key) (rows : List EntryRow) → All (λ (row : EntryRow). is_key_before key row.key ≡ true) rows → list_all (is_key_before key) (map (λ (row : EntryRow). row.key) rows) ≡ true
before_all key [] h = refl
before_all key (row ∷ rows) h =
    rw (All-head (λ (row : EntryRow). is_key_before key row.key ≡ true) row rows h) (before_all key rows (All-tail (λ (row : EntryRow). is_key_before key row.key ≡ true) row rows h))

pub keys_increase : (rows : List EntryRow) → AllPairs (λ (e f : EntryRow). is_key_before e.key f.key ≡ true) rows → are_increasing (map (λ (row : EntryRow). row.key) rows) ≡ true
keys_increase [] h = refl
keys_increase (row ∷ rows) h =
    and_from (list_all (is_key_before row.key) (map (λ (row : EntryRow). row.key) rows)) (are_increasing (map (λ (row : EntryRow). row.key) rows))
    (before_all row.key rows (λ k d i. h 0 (suc k) d (omega arith) (omega arith)))
    (keys_increase rows (λ i j d l m. h (suc i) (suc j) d (omega arith) (omega arith)))

-- ---- the contents are the initial bytes

same_here : (b : Bool) (e : ListedEntry) (rest : Option ListedEntry) → e.bytes ≡ e.initial → option_map (λ (x : ListedEntry). x.bytes) rest ≡ option_map (λ (x : ListedEntry). x.initial) rest
    → option_map (λ (x : ListedEntry). x.bytes) (cond b (Some e) rest) ≡ option_map (λ (x : ListedEntry). x.initial) (cond b (Some e) rest)
same_here true e rest here h = ap Some here
same_here false e rest here h = h

initially : (node : ℕ) (limits : Limits) (rows : List SheetRow) (key : Key) → contents_in (map (entry_of node limits) rows) key ≡ initial_in (map (entry_of node limits) rows) key
initially node limits [] key = refl
initially node limits (row ∷ rows) key =
    same_here (same_key key row.key) (entry_of node limits row) (entry_at (map (entry_of node limits) rows) key) refl (initially node limits rows key)

pub begins_initially : (plan : Plan) (d : Description) (contents : Contents) → d ≡ built_description plan → contents ≡ built_contents plan → (key : Key) → contents key ≡ d.initial key
begins_initially plan d contents e f key =
    ap (λ (c : Contents). c key) f ∙ initially plan.node plan.limits plan.rows key ∙ sym (ap (λ (x : Description). x.initial key) e)
