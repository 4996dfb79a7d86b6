-- The rows without sums out of range: an entry can be made of each, and their keys are those of the sheet.
use Rattle.std.proofs.Common.{◌≡◌, ℕ, suc, ◌<◌, ◌≤◌, Bool, true, false, List, [], ◌∷◌, refl, sym, ap, ◌∙◌, subst, map, length, get_or, All, arith}
use Rattle.std.proofs.lemmas.List.{get_or-map}
use Rattle.std.proofs.lemmas.List.Elements.{All-from_recursion, All-head, All-tail}
use Rattle.std.specs.Prelude.{AllPairs}
use Rattle.std.specs.List.{AllByRecursion}
use Rattle.co_value.specs.declared.key.Key.{Key}
use Rattle.co_value.specs.Keys.{is_key_before}
use Rattle.co_sheet_rows.specs.declared.entry.EntryRow.{EntryRow}
use Rattle.co_sheet.specs.Content.{Row as SheetRow}
use Rattle.co_sheet.specs.Limits.{absent}
use Rattle.co_sheet.specs.SheetViews.{row_view}
use Rattle.co_sheet.specs.SheetLaws.{IsSheetRow}
use Rattle.co_dict_build.specs.SheetRows.{IsReady}
use Rattle.co_dict_build.specs.BuildFaults.{is_sum_outside}
use Rattle.co_dict_build.proofs.Readiness.{ready}
use Rattle.co_dict_faults.specs.SoundPlans.{sound_default, sound_row}

-- ---- each is ready

without_default : (row : SheetRow) → IsSheetRow row → IsSheetRow (record row { default = absent })
without_default row sheet = record {
  from_1000 = sheet.from_1000;
  low_in_type = sheet.low_in_type;
  high_in_type = sheet.high_in_type;
  limits_in_order = sheet.limits_in_order;
  lowest_in_type = sheet.lowest_in_type;
  highest_in_type = sheet.highest_in_type;
  lowest_to_highest = sheet.lowest_to_highest;
  no_low = sheet.no_low;
  no_high = sheet.no_high;
  number_within = λ value h. absurd (cc);
  node_id_numeric = λ n h. absurd (cc);
  text_at_string = λ bytes h. absurd (cc);
  pairs_at_octets = λ digits h. absurd (cc);
  pairs_paired = λ digits h. absurd (cc);
  pairs_digits = λ digits h. absurd (cc);
  text_short = λ bytes h. absurd (cc);
  pairs_short = λ digits h. absurd (cc);
  domain_absent = λ h. refl;
  fixed_type = sheet.fixed_type;
}

sound_ready : (node : ℕ) (row : SheetRow) → node ≤ 127 → IsSheetRow row → IsReady node (sound_row node row)
sound_ready node row last sheet = by_test (is_sum_outside node row row.default) refl
  where
    by_test : (b : Bool) → is_sum_outside node row row.default ≡ b → IsReady node (record row { default = sound_default b row.default })
    by_test true e = ready node (record row { default = absent }) last (without_default row sheet) refl
    by_test false e = ready node row last sheet e

all_sound_ready : (node : ℕ) → node ≤ 127 → (rows : List EntryRow) → All (λ row. IsSheetRow (row_view row)) rows
    → AllByRecursion (IsReady node) (map (sound_row node) (map row_view rows))
all_sound_ready node last [] h = tt
all_sound_ready node last (row ∷ rows) h = (
  sound_ready node (row_view row) last (All-head (λ (row : EntryRow). IsSheetRow (row_view row)) row rows h),
  all_sound_ready node last rows (All-tail (λ (row : EntryRow). IsSheetRow (row_view row)) row rows h),
)

of_views : (P : SheetRow → Type 0) (rows : List EntryRow) → AllByRecursion P (map row_view rows) → AllByRecursion (λ row. P (row_view row)) rows
of_views P [] h = tt
of_views P (row ∷ rows) h = (h.0, of_views P rows h.1)

pub rows_ready : (node : ℕ) (rows sound : List EntryRow) → node ≤ 127 → All (λ row. IsSheetRow (row_view row)) rows → map row_view sound ≡ map (sound_row node) (map row_view rows)
    → All (λ row. IsReady node (row_view row)) sound
rows_ready node rows sound last sheets view =
    All-from_recursion (λ (row : EntryRow). IsReady node (row_view row)) sound
    (of_views (IsReady node) sound (subst (AllByRecursion (IsReady node)) (sym view) (all_sound_ready node last rows sheets)))

-- ---- the keys

abbrev keys_of : List EntryRow → List Key
keys_of rows = map (λ row. row.key) rows

view_keys : (rows : List EntryRow) → map (λ (row : SheetRow). row.key) (map row_view rows) ≡ keys_of rows
view_keys [] = refl
view_keys (row ∷ rows) = ap (λ (keys : List Key). row.key ∷ keys) (view_keys rows)

sound_keys : (node : ℕ) (rows : List EntryRow) → map (λ (row : SheetRow). row.key) (map (sound_row node) (map row_view rows)) ≡ keys_of rows
sound_keys node [] = refl
sound_keys node (row ∷ rows) = ap (λ (keys : List Key). row.key ∷ keys) (sound_keys node rows)

pub same_keys : (node : ℕ) (rows sound : List EntryRow) → map row_view sound ≡ map (sound_row node) (map row_view rows) → map (λ row. row.key) sound ≡ map (λ row. row.key) rows
same_keys node rows sound view = sym (view_keys sound) ∙ ap (map (λ (row : SheetRow). row.key)) view ∙ sound_keys node rows

key_length : (rows : List EntryRow) → length (keys_of rows) ≡ length rows
key_length [] = refl
key_length (row ∷ rows) = ap (λ n. suc n) (key_length rows)

pub view_length : (rows : List EntryRow) → length (map row_view rows) ≡ length rows
view_length [] = refl
view_length (row ∷ rows) = ap (λ n. suc n) (view_length rows)

pub sound_increase : (node : ℕ) (rows sound : List EntryRow) → map row_view sound ≡ map (sound_row node) (map row_view rows)
    → AllPairs (λ (e f : EntryRow). is_key_before e.key f.key ≡ true) rows → AllPairs (λ (e f : EntryRow). is_key_before e.key f.key ≡ true) sound
sound_increase node rows sound view h = λ i j d low high.
    let within : j < length rows = omega (arith, high, same_length) in
    subst (λ k. is_key_before k (get_or sound j d).key ≡ true) (sym (key_at i d (omega (arith, high, low))))
    (subst (λ k. is_key_before (get_or rows i d).key k ≡ true) (sym (key_at j d high)) (h i j d low within))
  where
    same : keys_of sound ≡ keys_of rows
    same = same_keys node rows sound view

    same_length : length sound ≡ length rows
    same_length = sym (key_length sound) ∙ ap length same ∙ key_length rows

    key_at : (i : ℕ) (d : EntryRow) → i < length sound → (get_or sound i d).key ≡ (get_or rows i d).key
    key_at i d lt =
        sym (get_or-map (λ (row : EntryRow). row.key) sound i d d.key lt)
        ∙ ap (λ (keys : List Key). get_or keys i d.key) same
        ∙ get_or-map (λ (row : EntryRow). row.key) rows i d d.key (omega (arith, lt, same_length))
