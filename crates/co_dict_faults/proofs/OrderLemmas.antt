-- All faults of the rows of a sheet are in increasing order: by the number of the kind, and then by key.
use Rattle.std.proofs.Common.{◌≡◌, ℕ, suc, ◌+◌, ◌==◌, ◌<◌, ◌≤◌, Bool, true, false, cond, List, [], ◌∷◌, ◌++◌, length, Option, Some, None, refl, sym, ap, subst, map, get_or, ltb, arith}
use Rattle.std.proofs.lemmas.Bool.{true≢false}
use Rattle.std.proofs.lemmas.Bool.Decides.{nat_tests}
use Rattle.std.specs.Prelude.{flat_map, not, ◌&&◌, sum_by, AllPairs}
use Rattle.std.specs.List.{AllByRecursion}
use Rattle.std.specs.List.Sorted.{IsStrictlySortedBy}
use Rattle.std.specs.Ordering.{nat_cmp, ordering_then}
use Rattle.std.specs.declared.cmp.Ordering.{Ordering}
use Rattle.std.specs.declared.cmp.Ordering.TheVariants.{Less, Equal, Greater}
use Rattle.co_value.specs.declared.key.Key.{Key}
use Rattle.co_value.specs.Keys.{is_key_before, key_cmp}
use Rattle.co_sheet.specs.Content.{Row as SheetRow}
use Rattle.co_sheet.specs.SheetLaws.{IsRowBefore}
use Rattle.co_dict.specs.Rows.{Rows, Contents}
use Rattle.co_dict.specs.Stores.{Description}
use Rattle.co_dict_build.specs.declared.build_fault.BuildFault.{BuildFault}
use Rattle.co_dict_build.specs.declared.build_fault.BuildFault.TheVariants.{NodeId, ValueRange, BadCobId, PdoPair, BadMapping, TooMany}
use Rattle.co_dict_build.specs.BuildFaultTexts.{fault_number}
use Rattle.co_dict_build.specs.Capacities.{Limits, capacity_of}
use Rattle.co_dict_build.specs.Built.{Plan, entry_of, built_description, built_contents}
use Rattle.co_dict_build.specs.BuildFaults.{is_node, is_sum_outside, is_unpaired, is_too_many}
use Rattle.co_dict_build.specs.ListedEntries.{keys_in}
use Rattle.co_dict_build.proofs.Search.{before_compares}
use Rattle.co_dict_faults.specs.AllBuildFaults.{list_if, is_index, is_word_found, is_mapping_found, unpaired_past, bad_words, bad_mappings, parameter_faults, room_faults, build_faults_of}
use Rattle.co_dict_faults.specs.BuildFaultLaws.{place_of, build_cmp}
use Rattle.co_dict_faults.specs.SoundPlans.{sums_outside, sound_row, sound_plan}
use Rattle.co_dict_faults.proofs.EachLemmas.{each_append, each_flat, each_if}

abbrev IsSorted : List BuildFault → Type 0
IsSorted faults = IsStrictlySortedBy build_cmp faults

abbrev AreAbove : BuildFault → List BuildFault → Type 0
AreAbove fault faults = AllByRecursion (λ f. build_cmp fault f ≡ Less) faults

-- ---- by the number of the kind

abbrev AreFrom : ℕ → List BuildFault → Type 0
AreFrom n faults = AllByRecursion (λ f. n ≤ fault_number f) faults

abbrev AreTo : ℕ → List BuildFault → Type 0
AreTo n faults = AllByRecursion (λ f. fault_number f ≤ n) faults

number_less : (m n : ℕ) (o : Ordering) → m < n → ordering_then (nat_cmp m n) o ≡ Less
number_less m n o less = by_test (ltb m n) (grind (arith, nat_tests))
  where
    by_test : (b : Bool) → b ≡ true → ordering_then (cond b Less (cond (m == n) Equal Greater)) o ≡ Less
    by_test true h = refl
    by_test false h = absurd (true≢false (sym h))

above_all : (n : ℕ) (fault : BuildFault) → fault_number fault ≤ n → (faults : List BuildFault) → AreFrom (n + 1) faults → AreAbove fault faults
above_all n fault low [] h = tt
above_all n fault low (f ∷ faults) h =
    let here = h.0 in
    (number_less (fault_number fault) (fault_number f) (key_cmp (place_of fault) (place_of f)) (omega (arith, here)), above_all n fault low faults h.1)

sorted_append : (n : ℕ) (xs ys : List BuildFault) → IsSorted xs → AreTo n xs → IsSorted ys → AreFrom (n + 1) ys → IsSorted (xs ++ ys)
unfolding IsStrictlySortedBy
sorted_append n [] ys s low t high = t
sorted_append n (x ∷ xs) ys s low t high =
    (each_append (λ f. build_cmp x f ≡ Less) xs ys s.0 (above_all n x low.0 ys high), sorted_append n xs ys s.1 low.1 t high)

-- ---- by key

-- each is before all that come after it
abbrev Increase : List Key → Type 0
Increase [] = Unit {0}
Increase (key ∷ keys) = AllByRecursion (λ other. is_key_before key other ≡ true) keys × Increase keys

module _ {X : Type 0} (key_of : X → Key) (test : X → Bool) (fault : Key → BuildFault) (by_key : (a b : Key) → is_key_before a b ≡ true → build_cmp (fault a) (fault b) ≡ Less) where
  abbrev fault_at : X → List BuildFault
  fault_at x = list_if (test x) (fault (key_of x))

  mapped : (P : Key → Type 0) (xs : List X) → AllByRecursion P (map key_of xs) → AllByRecursion (λ x. P (key_of x)) xs
  mapped P [] h = tt
  mapped P (x ∷ xs) h = (h.0, mapped P xs h.1)

  sorted_flat : (xs : List X) → Increase (map key_of xs) → IsSorted (flat_map fault_at xs)
  unfolding IsStrictlySortedBy
  sorted_flat [] h = tt
  sorted_flat (x ∷ xs) h = by_test (test x) (sorted_flat xs h.1)
    where
      above : AreAbove (fault (key_of x)) (flat_map fault_at xs)
      above =
          each_flat (λ f. build_cmp (fault (key_of x)) f ≡ Less) (λ y. is_key_before (key_of x) (key_of y) ≡ true) fault_at xs
          (λ y before. each_if (λ f. build_cmp (fault (key_of x)) f ≡ Less) (test y) (fault (key_of y)) (λ found. by_key (key_of x) (key_of y) before))
          (mapped (λ other. is_key_before (key_of x) other ≡ true) xs h.0)

      by_test : (b : Bool) → IsSorted (flat_map fault_at xs) → IsSorted (list_if b (fault (key_of x)) ++ flat_map fault_at xs)
      by_test true rest = (above, rest)
      by_test false rest = rest

-- the sums, as the others are said
sums_as : (node : ℕ) (rows : List SheetRow) → map ValueRange (sums_outside node rows) ≡ flat_map (λ row. list_if (is_sum_outside node row row.default) (ValueRange row.key)) rows
sums_as node [] = refl
sums_as node (row ∷ rows) = by_test (is_sum_outside node row row.default) (sums_as node rows)
  where
    rest : List BuildFault
    rest = flat_map (λ r. list_if (is_sum_outside node r r.default) (ValueRange r.key)) rows

    by_test : (b : Bool) → map ValueRange (sums_outside node rows) ≡ rest → map ValueRange (cond b (row.key ∷ []) [] ++ sums_outside node rows) ≡ list_if b (ValueRange row.key) ++ rest
    by_test true later = ap (λ (fs : List BuildFault). ValueRange row.key ∷ fs) later
    by_test false later = later

-- ---- objects

index_up : (a b : Key) → is_key_before a b ≡ true → a.index ≤ b.index
index_up a b h = grind (arith, nat_tests)

all_from : (key : Key) (keys : List Key) → AllByRecursion (λ other. is_key_before key other ≡ true) keys → AllByRecursion (λ (other : Key). key.index ≤ other.index) keys
all_from key [] h = tt
all_from key (other ∷ keys) h = (index_up key other h.0, all_from key keys h.1)

lone_before : (i k : ℕ) → i < k → build_cmp (PdoPair i) (PdoPair k) ≡ Less
lone_before i k less = number_less i k (nat_cmp 0 0) less

other_index : (last k : ℕ) → (last == k) ≡ false → last ≤ k → last < k
other_index last k h low = grind (arith, nat_tests)

above_lone : (rows : Rows) (i last : ℕ) (keys : List Key) → i ≤ last → AllByRecursion (λ (key : Key). last ≤ key.index) keys → Increase keys → AreAbove (PdoPair i) (unpaired_past rows (Some last) keys)
above_lone rows i last [] low from up = tt
above_lone rows i last (key ∷ keys) low from up =
    let below = from.0 in
    by_test (last == key.index) refl (above_lone rows i key.index keys (omega (arith, below, low)) (all_from key keys up.0) up.1)
  where
    here : last ≤ key.index
    here = from.0

    by_test : (b : Bool) → (last == key.index) ≡ b → AreAbove (PdoPair i) (unpaired_past rows (Some key.index) keys) → AreAbove (PdoPair i) (list_if (not b && is_unpaired rows key.index) (PdoPair key.index) ++ unpaired_past rows (Some key.index) keys)
    by_test true same rest = rest
    by_test false other rest =
        let less = other_index last key.index other here in
        each_append (λ f. build_cmp (PdoPair i) f ≡ Less) (list_if (is_unpaired rows key.index) (PdoPair key.index)) (unpaired_past rows (Some key.index) keys)
        (each_if (λ f. build_cmp (PdoPair i) f ≡ Less) (is_unpaired rows key.index) (PdoPair key.index) (λ found. lone_before i key.index (omega (arith, less, low))))
        rest

sorted_lone : (rows : Rows) (last : Option ℕ) (keys : List Key) → Increase keys → IsSorted (unpaired_past rows last keys)
unfolding IsStrictlySortedBy
sorted_lone rows last [] up = tt
sorted_lone rows last (key ∷ keys) up = by_test (not (is_index last key.index) && is_unpaired rows key.index) (sorted_lone rows (Some key.index) keys up.1)
  where
    by_test : (b : Bool) → IsSorted (unpaired_past rows (Some key.index) keys) → IsSorted (list_if b (PdoPair key.index) ++ unpaired_past rows (Some key.index) keys)
    by_test true rest = (above_lone rows key.index key.index keys (omega arith) (all_from key keys up.0) up.1, rest)
    by_test false rest = rest

-- ---- the numbers of the kinds

module _ (P : BuildFault → Type 0) where
  each_at : {X : Type 0} (key_of : X → Key) (test : X → Bool) (fault : Key → BuildFault) → ((key : Key) → P (fault key)) → (xs : List X) → AllByRecursion P (flat_map (λ x. list_if (test x) (fault (key_of x))) xs)
  each_at key_of test fault p [] = tt
  each_at key_of test fault p (x ∷ xs) =
      each_append P (list_if (test x) (fault (key_of x))) (flat_map (λ y. list_if (test y) (fault (key_of y))) xs) (each_if P (test x) (fault (key_of x)) (λ h. p (key_of x))) (each_at key_of test fault p xs)

  each_lone : (rows : Rows) (last : Option ℕ) (keys : List Key) → ((index : ℕ) → P (PdoPair index)) → AllByRecursion P (unpaired_past rows last keys)
  each_lone rows last [] p = tt
  each_lone rows last (key ∷ keys) p =
      let is_lone = not (is_index last key.index) && is_unpaired rows key.index in
      each_append P (list_if is_lone (PdoPair key.index)) (unpaired_past rows (Some key.index) keys) (each_if P is_lone (PdoPair key.index) (λ h. p key.index)) (each_lone rows (Some key.index) keys p)

-- ---- all

keys_stay : (node : ℕ) (limits : Limits) (rows : List SheetRow) → keys_in (map (entry_of node limits) (map (sound_row node) rows)) ≡ map (λ (row : SheetRow). row.key) rows
keys_stay node limits [] = refl
keys_stay node limits (row ∷ rows) = ap (λ (keys : List Key). row.key ∷ keys) (keys_stay node limits rows)

before_all : (key : Key) (rows : List SheetRow) → ((k : ℕ) (d : SheetRow) → k < length rows → is_key_before key (get_or rows k d).key ≡ true)
    → AllByRecursion (λ other. is_key_before key other ≡ true) (map (λ (row : SheetRow). row.key) rows)
before_all key [] h = tt
before_all key (row ∷ rows) h = (h 0 row (omega arith), before_all key rows (λ k d lt. h (suc k) d (omega arith)))

rows_increase : (rows : List SheetRow) → AllPairs IsRowBefore rows → Increase (map (λ (row : SheetRow). row.key) rows)
rows_increase [] h = tt
rows_increase (row ∷ rows) h =
    (before_all row.key rows (λ k d lt. h 0 (suc k) d (omega arith) (omega arith)), rows_increase rows (λ i j d l m. h (suc i) (suc j) d (omega arith) (omega arith)))

map_id : (keys : List Key) → map (λ (key : Key). key) keys ≡ keys
map_id [] = refl
map_id (key ∷ keys) = ap (λ (ks : List Key). key ∷ ks) (map_id keys)

module _ (plan : Plan) (pairs : AllPairs IsRowBefore plan.rows) where
  abbrev d : Description
  d = built_description (sound_plan plan)

  abbrev contents : Contents
  contents = built_contents (sound_plan plan)

  abbrev outside : List Key
  outside = sums_outside plan.node plan.rows

  rows_up : Increase (map (λ (row : SheetRow). row.key) plan.rows)
  rows_up = rows_increase plan.rows pairs

  keys_up : Increase d.keys
  keys_up = subst Increase (sym (keys_stay plan.node (sound_plan plan).limits plan.rows)) rows_up

  ids_up : Increase (map (λ (key : Key). key) d.keys)
  ids_up = subst Increase (sym (map_id d.keys)) keys_up

  abbrev sums : List BuildFault
  sums = flat_map (λ row. list_if (is_sum_outside plan.node row row.default) (ValueRange row.key)) plan.rows

  sorted_sums : IsSorted sums
  sorted_sums = sorted_flat (λ (row : SheetRow). row.key) (λ row. is_sum_outside plan.node row row.default) ValueRange (λ a b h. before_compares a b h) plan.rows rows_up

  sorted_words : IsSorted (bad_words outside d contents d.keys)
  sorted_words = sorted_flat (λ (key : Key). key) (is_word_found outside d contents) BadCobId (λ a b h. before_compares a b h) d.keys ids_up

  sorted_mappings : IsSorted (bad_mappings outside d contents d.keys)
  sorted_mappings = sorted_flat (λ (key : Key). key) (is_mapping_found outside d contents) BadMapping (λ a b h. before_compares a b h) d.keys ids_up

  sorted_room : (b : Bool) → IsSorted (list_if b TooMany)
  unfolding IsStrictlySortedBy
  sorted_room true = (tt, tt)
  sorted_room false = tt

  abbrev From : ℕ → BuildFault → Type 0
  From n f = n ≤ fault_number f

  abbrev To : ℕ → BuildFault → Type 0
  To n f = fault_number f ≤ n

  room_from : (b : Bool) (n : ℕ) → n ≤ 6 → AreFrom n (list_if b TooMany)
  room_from true n h = (h, tt)
  room_from false n h = tt

  abbrev lone : List BuildFault
  lone = unpaired_past d.rows None d.keys

  abbrev words : List BuildFault
  words = bad_words outside d contents d.keys

  abbrev mappings : List BuildFault
  mappings = bad_mappings outside d contents d.keys

  from_mappings : (n : ℕ) → n ≤ 5 → AreFrom n mappings
  from_mappings n h = each_at (From n) (λ (key : Key). key) (is_mapping_found outside d contents) BadMapping (λ key. h) d.keys

  from_lone : (n : ℕ) → n ≤ 4 → AreFrom n lone
  from_lone n h = each_lone (From n) d.rows None d.keys (λ index. h)

  from_words : (n : ℕ) → n ≤ 3 → AreFrom n words
  from_words n h = each_at (From n) (λ (key : Key). key) (is_word_found outside d contents) BadCobId (λ key. h) d.keys

  to_words : (n : ℕ) → 3 ≤ n → AreTo n words
  to_words n h = each_at (To n) (λ (key : Key). key) (is_word_found outside d contents) BadCobId (λ key. h) d.keys

  to_lone : (n : ℕ) → 4 ≤ n → AreTo n lone
  to_lone n h = each_lone (To n) d.rows None d.keys (λ index. h)

  to_mappings : AreTo 5 mappings
  to_mappings = each_at (To 5) (λ (key : Key). key) (is_mapping_found outside d contents) BadMapping (λ key. omega arith) d.keys

  to_sums : (n : ℕ) → 2 ≤ n → AreTo n sums
  to_sums n h = each_at (To n) (λ (row : SheetRow). row.key) (λ row. is_sum_outside plan.node row row.default) ValueRange (λ key. h) plan.rows

  abbrev parameters : List BuildFault
  parameters = parameter_faults outside d contents

  sorted_parameters : IsSorted parameters
  sorted_parameters =
      sorted_append 4 (words ++ lone) mappings
      (sorted_append 3 words lone sorted_words (to_words 3 (omega arith)) (sorted_lone d.rows None d.keys keys_up) (from_lone 4 (omega arith)))
      (each_append (To 4) words lone (to_words 4 (omega arith)) (to_lone 4 (omega arith)))
      sorted_mappings (from_mappings 5 (omega arith))

  to_parameters : AreTo 5 parameters
  to_parameters =
      each_append (To 5) (words ++ lone) mappings (each_append (To 5) words lone (to_words 5 (omega arith)) (to_lone 5 (omega arith))) to_mappings

  from_parameters : AreFrom 3 parameters
  from_parameters =
      each_append (From 3) (words ++ lone) mappings (each_append (From 3) words lone (from_words 3 (omega arith)) (from_lone 3 (omega arith))) (from_mappings 3 (omega arith))

  abbrev is_many : Bool
  is_many = is_too_many (length plan.rows) (sum_by (capacity_of plan.limits) plan.rows)

  sorted_found : IsSorted (sums ++ parameters ++ room_faults plan)
  sorted_found =
      sorted_append 5 (sums ++ parameters) (room_faults plan)
      (sorted_append 2 sums parameters sorted_sums (to_sums 2 (omega arith)) sorted_parameters from_parameters)
      (each_append (To 5) sums parameters (to_sums 5 (omega arith)) to_parameters)
      (sorted_room is_many) (room_from is_many 6 (omega arith))

  sorted_all : (b : Bool) → IsSorted (cond (not b) (NodeId ∷ []) (map ValueRange outside ++ parameter_faults outside d contents ++ room_faults plan))
  unfolding IsStrictlySortedBy
  sorted_all false = (tt, tt)
  sorted_all true = subst (λ (fs : List BuildFault). IsSorted (fs ++ parameter_faults outside d contents ++ room_faults plan)) (sym (sums_as plan.node plan.rows)) sorted_found

pub all_increase : (plan : Plan) → AllPairs IsRowBefore plan.rows → IsStrictlySortedBy build_cmp (build_faults_of plan)
all_increase plan pairs = sorted_all plan pairs (is_node plan.node)
