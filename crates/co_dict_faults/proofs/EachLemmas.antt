-- Each of all faults is one by the definition of its kind.
use Rattle.std.proofs.Common.{◌≡◌, ℕ, Bool, true, false, cond, List, [], ◌∷◌, ◌++◌, length, Option, Some, None, refl, sym, map, Contains}
use Rattle.std.proofs.lemmas.Bool.{true≢false}
use Rattle.std.proofs.lemmas.List.Elements.{All-from_recursion, All-contains, All-contains_itself, recursion_from_All}
use Rattle.std.specs.Prelude.{flat_map, not, ◌&&◌, sum_by}
use Rattle.std.specs.List.{AllByRecursion}
use Rattle.co_value.specs.declared.key.Key.{Key}
use Rattle.co_dict.specs.Rows.{Contents}
use Rattle.co_dict.specs.Stores.{Description}
use Rattle.co_dict_build.specs.declared.build_fault.BuildFault.{BuildFault}
use Rattle.co_dict_build.specs.declared.build_fault.BuildFault.TheVariants.{NodeId, ValueRange, BadCobId, PdoPair, BadMapping, TooMany}
use Rattle.co_dict_build.specs.Capacities.{capacity_of}
use Rattle.co_dict_build.specs.Built.{Plan, built_description, built_contents}
use Rattle.co_dict_build.specs.BuildFaults.{is_node, is_sum_outside, is_bad_cob_id, is_unpaired, is_bad_mapping, is_too_many}
use Rattle.co_dict_faults.specs.AllBuildFaults.{list_if, is_index, is_word_found, is_mapping_found, unpaired_past, bad_words, bad_mappings, parameter_faults, room_faults, build_faults_of}
use Rattle.co_dict_faults.specs.BuildFaultLaws.{IsFaultOf}
use Rattle.co_dict_faults.specs.SoundPlans.{sum_outside, sums_outside, sound_plan, rests_word, rests_mapping}

-- ---- what holds of each of a list

module _ {X : Type 0} (P : X → Type 0) where
  pub each_append : (xs ys : List X) → AllByRecursion P xs → AllByRecursion P ys → AllByRecursion P (xs ++ ys)
  each_append [] ys p q = q
  each_append (x ∷ xs) ys p q = (p.0, each_append xs ys p.1 q)

  pub each_map : {Y : Type 0} (f : Y → X) (ys : List Y) → AllByRecursion (λ y. P (f y)) ys → AllByRecursion P (map f ys)
  each_map f [] h = tt
  each_map f (y ∷ ys) h = (h.0, each_map f ys h.1)

  pub each_flat : {Y : Type 0} (Q : Y → Type 0) (f : Y → List X) (ys : List Y) → ((y : Y) → Q y → AllByRecursion P (f y)) → AllByRecursion Q ys → AllByRecursion P (flat_map f ys)
  each_flat Q f [] p h = tt
  each_flat Q f (y ∷ ys) p h = each_append (f y) (flat_map f ys) (p y h.0) (each_flat Q f ys p h.1)

  pub each_if : (test : Bool) (x : X) → (test ≡ true → P x) → AllByRecursion P (cond test (x ∷ []) [])
  each_if true x p = (p refl, tt)
  each_if false x p = tt

itself : {X : Type 0} (xs : List X) → AllByRecursion (Contains xs) xs
itself xs = recursion_from_All (Contains xs) xs (All-contains_itself xs)

second : (a b : Bool) → (a && b) ≡ true → b ≡ true
second true b h = h
second false b h = absurd (true≢false (sym h))

-- ---- by kind

module _ (plan : Plan) where
  abbrev d : Description
  d = built_description (sound_plan plan)

  abbrev contents : Contents
  contents = built_contents (sound_plan plan)

  abbrev outside : List Key
  outside = sums_outside plan.node plan.rows

  each_sum : AllByRecursion (IsFaultOf plan) (map ValueRange outside)
  each_sum =
      each_map (IsFaultOf plan) ValueRange outside
      (each_flat (λ key. IsFaultOf plan (ValueRange key)) (Contains plan.rows) (sum_outside plan.node) plan.rows
      (λ row there. each_if (λ key. IsFaultOf plan (ValueRange key)) (is_sum_outside plan.node row row.default) row.key
      (λ h. record { row = row; there = there; key_is = refl; outside = h }))
      (itself plan.rows))

  each_word : AllByRecursion (IsFaultOf plan) (bad_words outside d contents d.keys)
  each_word =
      each_flat (IsFaultOf plan) (Contains d.keys) (λ key. list_if (is_word_found outside d contents key) (BadCobId key)) d.keys
      (λ key there. each_if (IsFaultOf plan) (is_word_found outside d contents key) (BadCobId key)
      (λ h. record { there = there; found = second (not (rests_word outside key)) (is_bad_cob_id d.node contents key) h }))
      (itself d.keys)

  each_mapping : AllByRecursion (IsFaultOf plan) (bad_mappings outside d contents d.keys)
  each_mapping =
      each_flat (IsFaultOf plan) (Contains d.keys) (λ key. list_if (is_mapping_found outside d contents key) (BadMapping key)) d.keys
      (λ key there. each_if (IsFaultOf plan) (is_mapping_found outside d contents key) (BadMapping key)
      (λ h. record { there = there; found = second (not (rests_mapping outside key.index)) (is_bad_mapping d contents key) h }))
      (itself d.keys)

  each_lone : (last : Option ℕ) (keys : List Key) → AllByRecursion (Contains d.keys) keys → AllByRecursion (IsFaultOf plan) (unpaired_past d.rows last keys)
  each_lone last [] h = tt
  each_lone last (key ∷ keys) h =
      let is_lone = not (is_index last key.index) && is_unpaired d.rows key.index in
      each_append (IsFaultOf plan) (list_if is_lone (PdoPair key.index)) (unpaired_past d.rows (Some key.index) keys)
      (each_if (IsFaultOf plan) is_lone (PdoPair key.index)
      (λ found. record { key = key; there = h.0; index_is = refl; found = second (not (is_index last key.index)) (is_unpaired d.rows key.index) found }))
      (each_lone (Some key.index) keys h.1)

  each_room : AllByRecursion (IsFaultOf plan) (room_faults plan)
  each_room = each_if (IsFaultOf plan) (is_too_many (length plan.rows) (sum_by (capacity_of plan.limits) plan.rows)) TooMany (λ h. h)

  each_fault : AllByRecursion (IsFaultOf plan) (build_faults_of plan)
  each_fault = by_node (is_node plan.node) refl
    where
      words : List BuildFault
      words = bad_words outside d contents d.keys

      by_node : (b : Bool) → is_node plan.node ≡ b → AllByRecursion (IsFaultOf plan) (cond (not b) (NodeId ∷ []) (map ValueRange outside ++ parameter_faults outside d contents ++ room_faults plan))
      by_node false e = (e, tt)
      by_node true e =
          each_append (IsFaultOf plan) (map ValueRange outside ++ parameter_faults outside d contents) (room_faults plan)
          (each_append (IsFaultOf plan) (map ValueRange outside) (parameter_faults outside d contents) each_sum
          (each_append (IsFaultOf plan) (words ++ unpaired_past d.rows None d.keys) (bad_mappings outside d contents d.keys)
          (each_append (IsFaultOf plan) words (unpaired_past d.rows None d.keys) each_word (each_lone None d.keys (itself d.keys))) each_mapping))
          each_room

pub each_is_one : (plan : Plan) (fault : BuildFault) → Contains (build_faults_of plan) fault → IsFaultOf plan fault
each_is_one plan fault h =
    All-contains (IsFaultOf plan) (build_faults_of plan) fault (All-from_recursion (IsFaultOf plan) (build_faults_of plan) (each_fault plan)) h
