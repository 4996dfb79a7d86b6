-- The first of all faults is the one that is answered.
use Rattle.std.proofs.Common.{◌≡◌, ℕ, ◌==◌, Bool, true, false, cond, List, [], ◌∷◌, ◌++◌, length, Option, Some, None, refl, sym, ap, ◌∙◌, map, arith}
use Rattle.std.proofs.lemmas.Bool.{true≢false}
use Rattle.std.proofs.lemmas.Bool.Decides.{nat_tests}
use Rattle.std.specs.Prelude.{slice_get, find, flat_map, option_map, not, ◌&&◌, sum_by}
use Rattle.std.specs.Option.{option_or, option_map_or}
use Rattle.co_value.specs.declared.key.Key.{Key}
use Rattle.co_sheet.specs.Content.{Row as SheetRow}
use Rattle.co_dict.specs.Rows.{Rows, Contents}
use Rattle.co_dict.specs.Stores.{Description}
use Rattle.co_dict_build.specs.declared.build_fault.BuildFault.{BuildFault}
use Rattle.co_dict_build.specs.declared.build_fault.BuildFault.TheVariants.{NodeId, ValueRange, BadCobId, PdoPair, BadMapping, TooMany}
use Rattle.co_dict_build.specs.Capacities.{capacity_of}
use Rattle.co_dict_build.specs.Built.{Plan, plan_with, built_description, built_contents}
use Rattle.co_dict_build.specs.BuildFaults.{is_node, is_sum_outside, value_out_of_range, is_unpaired, unpaired, is_bad_cob_id, is_bad_mapping, bad_cob_id, bad_mapping, is_too_many, fault_if, first_there, parameter_fault, dictionary_fault, room_fault, build_fault}
use Rattle.co_dict_build.proofs.Roomless.{same_parameters}
use Rattle.co_dict_faults.specs.AllBuildFaults.{list_if, is_index, unpaired_past, bad_words, bad_mappings, parameter_faults, room_faults, build_faults_of}
use Rattle.co_dict_faults.specs.SoundPlans.{sums_outside, sound_default, sound_row, no_room, sound_plan}

abbrev first : List BuildFault → Option BuildFault
first faults = slice_get faults 0

first_append : (xs ys : List BuildFault) → first (xs ++ ys) ≡ option_or (first xs) (first ys)
first_append [] ys = refl
first_append (x ∷ xs) ys = refl

first_if : (condition : Bool) (fault : BuildFault) → first (list_if condition fault) ≡ fault_if condition fault
first_if true fault = refl
first_if false fault = refl

-- ---- by kind

module _ (test : Key → Bool) (fault : Key → BuildFault) where
  first_of_keys : (keys : List Key) → first (flat_map (λ key. list_if (test key) (fault key)) keys) ≡ option_map fault (find test keys)
  first_of_keys [] = refl
  first_of_keys (key ∷ keys) = by_test (test key) (first_of_keys keys)
    where
      rest : List BuildFault
      rest = flat_map (λ k. list_if (test k) (fault k)) keys

      by_test : (b : Bool) → first rest ≡ option_map fault (find test keys) → first (list_if b (fault key) ++ rest) ≡ option_map fault (cond b (Some key) (find test keys))
      by_test true later = refl
      by_test false later = later

first_of_sums : (node : ℕ) (rows : List SheetRow) → first (map ValueRange (sums_outside node rows)) ≡ option_map ValueRange (value_out_of_range node rows)
first_of_sums node [] = refl
first_of_sums node (row ∷ rows) = by_test (is_sum_outside node row row.default) (first_of_sums node rows)
  where
    by_test : (b : Bool) → first (map ValueRange (sums_outside node rows)) ≡ option_map ValueRange (value_out_of_range node rows) → first (map ValueRange (cond b (row.key ∷ []) [] ++ sums_outside node rows))
        ≡ option_map ValueRange (option_map (λ (r : SheetRow). r.key) (cond b (Some row) (find (λ r. is_sum_outside node r r.default) rows)))
    by_test true later = refl
    by_test false later = later

-- the object before isn't one without its partner
abbrev was_lone : Rows → Option ℕ → Bool
was_lone rows last = option_map_or (is_unpaired rows) last false

no_clash : (rows : Rows) (last : Option ℕ) (index : ℕ) → was_lone rows last ≡ false → is_unpaired rows index ≡ true → is_index last index ≡ false
no_clash rows None index h lone = refl
no_clash rows (Some before) index h lone = by_test (before == index) refl
  where
    by_test : (b : Bool) → (before == index) ≡ b → b ≡ false
    by_test false e = refl
    by_test true e =
        let same : before ≡ index = grind (arith, nat_tests) in
        absurd (true≢false (sym lone ∙ ap (is_unpaired rows) (sym same) ∙ h))

not_lone : (was : Bool) → (not was && false) ≡ false
not_lone true = refl
not_lone false = refl

first_lone : (rows : Rows) (last : Option ℕ) (keys : List Key) → was_lone rows last ≡ false
    → first (unpaired_past rows last keys) ≡ option_map (λ (i : ℕ). PdoPair i) (find (is_unpaired rows) (map (λ (k : Key). k.index) keys))
first_lone rows last [] h = refl
first_lone rows last (key ∷ keys) h = by_test (is_unpaired rows key.index) refl (λ other. first_lone rows (Some key.index) keys other)
  where
    rest : List BuildFault
    rest = unpaired_past rows (Some key.index) keys

    found : Option BuildFault
    found = option_map (λ (i : ℕ). PdoPair i) (find (is_unpaired rows) (map (λ (k : Key). k.index) keys))

    by_test : (b : Bool) → is_unpaired rows key.index ≡ b → (was_lone rows (Some key.index) ≡ false → first rest ≡ found) → first (list_if (not (is_index last key.index) && b) (PdoPair key.index) ++ rest)
        ≡ option_map (λ (i : ℕ). PdoPair i) (cond b (Some key.index) (find (is_unpaired rows) (map (λ (k : Key). k.index) keys)))
    by_test true lone later = ap (λ was. first (list_if (not was && true) (PdoPair key.index) ++ rest)) (no_clash rows last key.index h lone)
    by_test false other later = ap (λ b. first (list_if b (PdoPair key.index) ++ rest)) (not_lone (is_index last key.index)) ∙ later other

-- ---- the parameters, where no sum is out of range

either : (a b c : Option BuildFault) → option_or (option_or a b) c ≡ first_there (a ∷ b ∷ c ∷ [])
either (Some a) b c = refl
either None (Some b) c = refl
either None None (Some c) = refl
either None None None = refl

first_of_parameters : (d : Description) (contents : Contents) → first (parameter_faults [] d contents) ≡ parameter_fault d contents
first_of_parameters d contents =
    let words = bad_words [] d contents d.keys in
    let lone = unpaired_past d.rows None d.keys in
    let mappings = bad_mappings [] d contents d.keys in
    let word = option_map BadCobId (bad_cob_id d contents) in
    let pair = option_map (λ (i : ℕ). PdoPair i) (unpaired d) in
    let mapping = option_map BadMapping (bad_mapping d contents) in
    first_append (words ++ lone) mappings
    ∙ ap (λ o. option_or o (first mappings)) (first_append words lone)
    ∙ ap (λ o. option_or (option_or o (first lone)) (first mappings)) (first_of_keys (is_bad_cob_id d.node contents) BadCobId d.keys)
    ∙ ap (λ o. option_or (option_or word o) (first mappings)) (first_lone d.rows None d.keys refl)
    ∙ ap (λ o. option_or (option_or word pair) o) (first_of_keys (is_bad_mapping d contents) BadMapping d.keys)
    ∙ either word pair mapping

-- the rows are sound then
no_key : (b : Bool) (key : Key) (keys : List Key) → cond b (key ∷ []) [] ++ keys ≡ [] → (b ≡ false) × (keys ≡ [])
no_key true key keys h = absurd (cc)
no_key false key keys h = (refl, h)

all_sound : (node : ℕ) (rows : List SheetRow) → sums_outside node rows ≡ [] → map (sound_row node) rows ≡ rows
all_sound node [] h = refl
all_sound node (row ∷ rows) h =
    let parts = no_key (is_sum_outside node row row.default) row.key (sums_outside node rows) h in
    let rest = all_sound node rows parts.1 in
    let here : sound_row node row ≡ row = ap (λ b. let r : SheetRow = record row { default = sound_default b row.default } in r) parts.0 in
    ap (λ (r : SheetRow). r ∷ map (sound_row node) rows) here ∙ ap (λ (rs : List SheetRow). row ∷ rs) rest

-- ---- all

joined : (a b c d : Option BuildFault) → option_or (first_there (a ∷ b ∷ c ∷ [])) d ≡ first_there (a ∷ b ∷ c ∷ d ∷ [])
joined (Some a) b c d = refl
joined None (Some b) c d = refl
joined None None (Some c) d = refl
joined None None None (Some d) = refl
joined None None None None = refl

or_assoc : (a b c : Option BuildFault) → option_or (option_or a b) c ≡ option_or a (option_or b c)
or_assoc (Some a) b c = refl
or_assoc None b c = refl

last_none : (o : Option BuildFault) → option_or o None ≡ o
last_none (Some fault) = refl
last_none None = refl

module _ (plan : Plan) where
  abbrev outside : List Key
  outside = sums_outside plan.node plan.rows

  abbrev found_with : List Key → List BuildFault
  found_with keys = parameter_faults keys (built_description (sound_plan plan)) (built_contents (sound_plan plan))

  abbrev answered : Option BuildFault
  answered = dictionary_fault plan.limits plan.rows (built_description plan) (built_contents plan)

  -- the dictionary is that of the rows as they are
  of_rows : List SheetRow → Option BuildFault
  of_rows rows = parameter_fault (built_description (plan_with plan.node no_room rows plan.dummies)) (built_contents (plan_with plan.node no_room rows plan.dummies))

  dictionary_first : outside ≡ [] → option_or (first (found_with [])) (first (room_faults plan)) ≡ answered
  unfolding of_rows
  dictionary_first none =
      ap (λ o. option_or o (first (room_faults plan)))
      (first_of_parameters (built_description (sound_plan plan)) (built_contents (sound_plan plan))
      ∙ ap of_rows (all_sound plan.node plan.rows none)
      ∙ same_parameters plan.node no_room plan.limits plan.rows plan.dummies)
      ∙ ap (option_or (parameter_fault (built_description plan) (built_contents plan))) (first_if (is_too_many (length plan.rows) (sum_by (capacity_of plan.limits) plan.rows)) TooMany)
      ∙ joined (option_map BadCobId (bad_cob_id (built_description plan) (built_contents plan))) (option_map (λ (i : ℕ). PdoPair i) (unpaired (built_description plan)))
      (option_map BadMapping (bad_mapping (built_description plan) (built_contents plan))) (room_fault plan.limits plan.rows)

  by_outside : (keys : List Key) → outside ≡ keys → option_or (first (map ValueRange keys)) (option_or (first (found_with keys)) (first (room_faults plan)))
      ≡ option_or (first (map ValueRange keys)) (option_or answered None)
  by_outside (key ∷ keys) e = refl
  by_outside [] e = dictionary_first e ∙ sym (last_none answered)

  by_node : (b : Bool) → is_node plan.node ≡ b
      → first (cond (not b) (NodeId ∷ []) (map ValueRange outside ++ found_with outside ++ room_faults plan))
      ≡ option_or (fault_if (not b) NodeId) (option_or (option_map ValueRange (value_out_of_range plan.node plan.rows)) (option_or answered None))
  by_node false e = refl
  by_node true e =
      first_append (map ValueRange outside ++ found_with outside) (room_faults plan)
      ∙ ap (λ o. option_or o (first (room_faults plan))) (first_append (map ValueRange outside) (found_with outside))
      ∙ or_assoc (first (map ValueRange outside)) (first (found_with outside)) (first (room_faults plan))
      ∙ by_outside outside refl
      ∙ ap (λ o. option_or o (option_or answered None)) (first_of_sums plan.node plan.rows)

pub first_is_answered : (plan : Plan) → slice_get (build_faults_of plan) 0 ≡ build_fault plan
first_is_answered plan = by_node plan (is_node plan.node) refl
