-- A build's marks have an error exactly where it has a fault.
use Rattle.std.proofs.Common.{◌≡◌, ◌∙◌, ℕ, Bool, true, false, not, ◌==◌, ◌&&◌, ◌||◌, if◌then◌else◌, List, [], ◌∷◌, ◌++◌, map, Option, Some, None, refl, sym, ap}
use Rattle.std.specs.Prelude.{is_some, slice_get, flat_map}
use Rattle.std.proofs.lemmas.List.Concat.{flat_map-append}
use Rattle.std.proofs.lemmas.List.Folds.{list_any-append}
use Rattle.co_value.specs.declared.key.Key.{Key}
use Rattle.co_profile.specs.Indices.{is_within, rpdo_mapping, tpdo_mapping}
use Rattle.co_sheet.specs.Content.{SheetContent}
use Rattle.co_sheet_text.specs.Sections.{TextSection}
use Rattle.co_dict.specs.declared.side.Side.{Side}
use Rattle.co_dict.specs.declared.side.Side.TheVariants.{Rpdo, Tpdo}
use Rattle.co_dict.specs.Rows.{Rows, Contents, number_at}
use Rattle.co_dict.specs.MappingCounts.{count_refusal, is_mapping_index}
use Rattle.co_dict.specs.Stores.{Description}
use Rattle.co_dict_build.specs.Built.{Plan, built_contents, built_description}
use Rattle.co_dict_build.specs.BuildFaults.{build_fault, is_bad_count, is_bad_mapping, is_node, is_unpaired}
use Rattle.co_dict_build.specs.declared.build_fault.BuildFault.{BuildFault}
use Rattle.co_dict_build.specs.declared.build_fault.BuildFault.TheVariants.{NodeId, ValueRange, BadCobId, PdoPair, BadMapping, TooMany}
use Rattle.co_dict_faults.specs.AllBuildFaults.{bad_mappings, bad_words, build_faults_of, is_index, is_mapping_found, is_word_found, list_if, parameter_faults, room_faults, unpaired_past, words_at_fault}
use Rattle.co_dict_faults.specs.MappingReasons.{is_empty, mapping_faults, side_of}
use Rattle.co_dict_faults.specs.SoundPlans.{rests_mapping, sound_plan, sums_outside}
use Rattle.co_dict_faults.specs.declared.mapping_fault.MappingFault.{MappingFault}
use Rattle.conode_lint_marks.specs.declared.mark.Mark.{Mark}
use Rattle.conode_lint_marks.specs.BuildLines.{build_marks, built_marks, mapping_mark, marks_with}
use Rattle.conode_lint.specs.Linted.{has_error}

-- a list has an element
abbrev pub has_any : {X : Type 0} → List X → Bool
has_any xs = not (is_empty xs)

any-append : {X : Type 0} (xs ys : List X) → has_any (xs ++ ys) ≡ has_any xs || has_any ys
any-append [] ys = refl
any-append (x ∷ xs) ys = refl

-- ---- which index a mapping at fault has

second : (a b : Bool) → (a && b) ≡ true → b ≡ true
second true b h = h
second false b h = absurd (cc)

either_index : (r t x y u v : Bool) → ((r && x && y) || (t && u && v)) ≡ true → (if r then r else t) ≡ true
either_index true t x y u v h = refl
either_index false true x y u v h = refl
either_index false false x y u v h = h

side_fits : (index : ℕ) (b : Bool) → is_mapping_index (if b then Rpdo else Tpdo) index ≡ (if b then is_within rpdo_mapping index else is_within tpdo_mapping index)
side_fits index true = refl
side_fits index false = refl

-- what is known of mappings: one has faults exactly where it can't be as it begins
abbrev pub MappingLaw : Type 0
MappingLaw = (d : Description) (contents : Contents) (index : ℕ) → is_mapping_index (side_of index) index ≡ true
    → is_empty (mapping_faults (side_of index) d contents index) ≡ not (is_bad_mapping d contents (record { index = index; sub = 0 }))

abbrev words_of : Description → Contents → Key → List MappingFault
words_of d contents key = mapping_faults (side_of key.index) d contents key.index

-- a count is refused
abbrev is_refused : Side → Description → Contents → ℕ → Bool
is_refused side d contents index = is_some (count_refusal side d contents index (number_at contents (record { index = index; sub = 0 })))

-- a count is not 0
abbrev is_counted : Contents → ℕ → Bool
is_counted contents index = not (number_at contents (record { index = index; sub = 0 }) == 0)

bad_index : (d : Description) (contents : Contents) (index : ℕ) → (is_bad_count Rpdo d contents index || is_bad_count Tpdo d contents index) ≡ true
    → (if is_within rpdo_mapping index then is_within rpdo_mapping index else is_within tpdo_mapping index) ≡ true
bad_index d contents index bad =
    either_index (is_within rpdo_mapping index) (is_within tpdo_mapping index) (is_counted contents index) (is_refused Rpdo d contents index) (is_counted contents index) (is_refused Tpdo d contents index) bad

full : MappingLaw → (outside : List Key) (d : Description) (contents : Contents) (key : Key) → is_mapping_found outside d contents key ≡ true
    → is_empty (words_of d contents key) ≡ false
full law outside d contents key found =
    let bad : is_bad_mapping d contents key ≡ true = second (not (rests_mapping outside key.index)) (is_bad_mapping d contents key) found in
    let counts : (is_bad_count Rpdo d contents key.index || is_bad_count Tpdo d contents key.index) ≡ true = second (key.sub == 0) (is_bad_count Rpdo d contents key.index || is_bad_count Tpdo d contents key.index) bad in
    let fits : is_mapping_index (side_of key.index) key.index ≡ true = side_fits key.index (is_within rpdo_mapping key.index) ∙ bad_index d contents key.index counts in
    law d contents key.index fits ∙ ap not counts

module _ (sheet : SheetContent) (sections : List TextSection) where
  abbrev marks_of : List BuildFault → List Mark
  marks_of faults = flat_map (build_marks sheet sections) faults

  abbrev words_marks : List MappingFault → List Mark
  words_marks faults = map (mapping_mark sheet sections) faults

  -- ---- kind by kind

  values : (keys : List Key) → has_error (marks_of (map ValueRange keys)) ≡ has_any (map ValueRange keys)
  values [] = refl
  values (key ∷ keys) = refl

  words : (outside : List Key) (d : Description) (contents : Contents) (keys : List Key)
      → has_error (marks_of (bad_words outside d contents keys)) ≡ has_any (bad_words outside d contents keys)
  words outside d contents [] = refl
  words outside d contents (key ∷ keys) = by_test (is_word_found outside d contents key) (words outside d contents keys)
    where
      by_test : (b : Bool) → has_error (marks_of (bad_words outside d contents keys)) ≡ has_any (bad_words outside d contents keys) → has_error (marks_of (list_if b (BadCobId key) ++ bad_words outside d contents keys)) ≡ has_any (list_if b (BadCobId key) ++ bad_words outside d contents keys)
      by_test true rest = refl
      by_test false rest = rest

  pairs : (rows : Rows) (last : Option ℕ) (keys : List Key) → has_error (marks_of (unpaired_past rows last keys)) ≡ has_any (unpaired_past rows last keys)
  pairs rows last [] = refl
  pairs rows last (key ∷ keys) = by_test (not (is_index last key.index) && is_unpaired rows key.index) (pairs rows (Some key.index) keys)
    where
      by_test : (b : Bool) → has_error (marks_of (unpaired_past rows (Some key.index) keys)) ≡ has_any (unpaired_past rows (Some key.index) keys) → has_error (marks_of (list_if b (PdoPair key.index) ++ unpaired_past rows (Some key.index) keys)) ≡ has_any (list_if b (PdoPair key.index) ++ unpaired_past rows (Some key.index) keys)
      by_test true rest = refl
      by_test false rest = rest

  no_mapping_mark : (outside : List Key) (d : Description) (contents : Contents) (keys : List Key)
      → has_error (marks_of (bad_mappings outside d contents keys)) ≡ false
  no_mapping_mark outside d contents [] = refl
  no_mapping_mark outside d contents (key ∷ keys) = by_test (is_mapping_found outside d contents key) (no_mapping_mark outside d contents keys)
    where
      by_test : (b : Bool) → has_error (marks_of (bad_mappings outside d contents keys)) ≡ false → has_error (marks_of (list_if b (BadMapping key) ++ bad_mappings outside d contents keys)) ≡ false
      by_test true rest = rest
      by_test false rest = rest

  mappings : MappingLaw → (outside : List Key) (d : Description) (contents : Contents) (keys : List Key)
      → has_error (words_marks (words_at_fault outside d contents keys)) ≡ has_any (bad_mappings outside d contents keys)
  mappings law outside d contents [] = refl
  mappings law outside d contents (key ∷ keys) = by_words (is_mapping_found outside d contents key) refl (words_of d contents key) refl (mappings law outside d contents keys)
    where
      by_words : (b : Bool) → is_mapping_found outside d contents key ≡ b → (found : List MappingFault) → words_of d contents key ≡ found
          → has_error (words_marks (words_at_fault outside d contents keys)) ≡ has_any (bad_mappings outside d contents keys)
          → has_error (words_marks ((if b then found else []) ++ words_at_fault outside d contents keys)) ≡ has_any (list_if b (BadMapping key) ++ bad_mappings outside d contents keys)
      by_words true e (word ∷ found) is rest = refl
      by_words true e [] is rest = absurd (let no : true ≡ false = sym (ap is_empty is) ∙ full law outside d contents key e in cc)
      by_words false e found is rest = rest

  room : (b : Bool) → has_error (marks_of (list_if b TooMany)) ≡ has_any (list_if b TooMany)
  room true = refl
  room false = refl

  -- ---- all

  same : (a b c d r : Bool) → (((a || ((b || c) || false)) || r) || d) ≡ ((a || ((b || c) || d)) || r)
  same true b c d r = refl
  same false true c d r = refl
  same false false true d r = refl
  same false false false true true = refl
  same false false false true false = refl
  same false false false false true = refl
  same false false false false false = refl

  parts : (a b c d r : List BuildFault) (w : List MappingFault) → has_error (marks_of a) ≡ has_any a → has_error (marks_of b) ≡ has_any b → has_error (marks_of c) ≡ has_any c
      → has_error (marks_of d) ≡ false → has_error (marks_of r) ≡ has_any r → has_error (words_marks w) ≡ has_any d
      → has_error (marks_of ((a ++ ((b ++ c) ++ d)) ++ r) ++ words_marks w) ≡ has_any ((a ++ ((b ++ c) ++ d)) ++ r)
  parts a b c d r w ha hb hc hd hr hw =
      simp (flat_map-append, list_any-append, any-append) (rw (ha, hb, hc, hd, hr, hw) (same (has_any a) (has_any b) (has_any c) (has_any d) (has_any r)))

  built_error : MappingLaw → (plan : Plan) → has_error (built_marks sheet sections plan) ≡ has_any (build_faults_of plan)
  unfolding built_marks marks_with
  built_error law plan = by_node (is_node plan.node)
    where
      outside : List Key
      outside = sums_outside plan.node plan.rows

      d : Description
      d = built_description (sound_plan plan)

      contents : Contents
      contents = built_contents (sound_plan plan)

      faults : List BuildFault
      faults = map ValueRange outside ++ parameter_faults outside d contents ++ room_faults plan

      by_node : (b : Bool) → has_error (marks_of (if not b then NodeId ∷ [] else faults) ++ words_marks (if not b then [] else words_at_fault outside d contents d.keys))
          ≡ has_any (if not b then NodeId ∷ [] else faults)
      by_node false = refl
      by_node true =
          parts (map ValueRange outside) (bad_words outside d contents d.keys) (unpaired_past d.rows None d.keys) (bad_mappings outside d contents d.keys) (room_faults plan) (words_at_fault outside d contents d.keys)
          (values outside) (words outside d contents d.keys) (pairs d.rows None d.keys) (no_mapping_mark outside d contents d.keys) (room _) (mappings law outside d contents d.keys)

  first_there : (faults : List BuildFault) → has_any faults ≡ is_some (slice_get faults 0)
  first_there [] = refl
  first_there (fault ∷ faults) = refl

  -- an error exactly where the build has a fault, which is the first of all
  pub error-build : MappingLaw → ((plan : Plan) → slice_get (build_faults_of plan) 0 ≡ build_fault plan) → (plan : Plan)
      → has_error (built_marks sheet sections plan) ≡ is_some (build_fault plan)
  error-build law first plan = built_error law plan ∙ first_there (build_faults_of plan) ∙ ap is_some (first plan)
