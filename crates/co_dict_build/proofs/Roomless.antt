-- No fault of a dictionary but TooMany looks at the room of its entries: a dictionary whose strings and domains have no room has the same.
use Rattle.std.proofs.Common.{◌≡◌, ℕ, ◌+◌, ◌-◌, Bool, true, false, cond, List, [], ◌∷◌, length, Option, Some, None, refl, sym, ap, ◌∙◌, map}
use Rattle.std.specs.Prelude.{◌==◌, ◌&&◌, ◌||◌, ◌*◌, nat_lt, not, find, is_some, is_none, unwrap_or, option_map, option_and_then, sum_by, if◌then◌else◌}
use Rattle.std.specs.List.{list_any, range_with_len, take_while}
use Rattle.co_value.specs.declared.key.Key.{Key}
use Rattle.co_value.specs.Keys.{same_key}
use Rattle.co_value.specs.Types.{width_of}
use Rattle.co_sheet.specs.Content.{Row as SheetRow}
use Rattle.co_frame_aborts.specs.AbortCodes.{invalid_value, not_mappable, mapping_too_long}
use Rattle.co_dict.specs.declared.row.Row.{Row}
use Rattle.co_dict.specs.declared.side.Side.{Side}
use Rattle.co_dict.specs.declared.side.Side.TheVariants.{Rpdo, Tpdo}
use Rattle.co_dict.specs.Rows.{Rows, Contents, number_at}
use Rattle.co_dict.specs.Stores.{Description}
use Rattle.co_dict.specs.Refusals.{refused_if, first_refusal}
use Rattle.co_dict.specs.Objects.{has_sub, has_object, subs_present}
use Rattle.co_dict.specs.MappingWords.{mapped_key, mapped_bits, usable_dummy, may_be_mapped, word_width}
use Rattle.co_dict.specs.MappingCounts.{is_mapping_index, counted_words, count_refusal}
use Rattle.co_dict_build.specs.declared.build_fault.BuildFault.{BuildFault}
use Rattle.co_dict_build.specs.declared.build_fault.BuildFault.TheVariants.{BadCobId, PdoPair, BadMapping}
use Rattle.co_dict_build.specs.ListedEntries.{ListedEntry, entry_at, rows_in, contents_in, initial_in, keys_in, description_in}
use Rattle.co_dict_build.specs.Capacities.{Limits}
use Rattle.co_dict_build.specs.Built.{entry_of, plan_with, built_description, built_contents}
use Rattle.co_dict_build.specs.BuildFaults.{is_communication, is_mapping, is_unpaired, unpaired, is_bad_count, is_bad_mapping, bad_mapping, bad_cob_id, first_there, parameter_fault}

-- ---- a dictionary without its capacities

abbrev bare : Row → Row
bare row = record row { capacity = 0 }

abbrev bare_rows : Rows → Rows
bare_rows rows = λ key. option_map bare (rows key)

abbrev bare_of : Description → Description
bare_of d = record d { rows = bare_rows d.rows }

is_there : (o : Option Row) → is_some (option_map bare o) ≡ is_some o
is_there None = refl
is_there (Some row) = refl

same_sub : (rows : Rows) (index : ℕ) → has_sub (bare_rows rows) index ≡ has_sub rows index
same_sub rows index = λ j. λ sub. is_there (rows (record { index = index; sub = sub })) j

same_object : (rows : Rows) (index : ℕ) → has_object (bare_rows rows) index ≡ has_object rows index
unfolding has_object
same_object rows index = ap (λ (has : ℕ → Bool). list_any has (range_with_len 0 256)) (same_sub rows index)

same_present : (rows : Rows) (index most : ℕ) → subs_present (bare_rows rows) index most ≡ subs_present rows index most
unfolding subs_present
same_present rows index most = ap (λ (has : ℕ → Bool). length (take_while has (range_with_len 1 most))) (same_sub rows index)

-- ---- PdoPair

abbrev unpaired_by : (ℕ → Bool) → (ℕ → Bool) → ℕ → Bool
unpaired_by object sub index =
    (is_communication index && not (object (index + 0x200) && sub 1 && sub 2)) || (is_mapping index && not (object (index - 0x200) && sub 0))

same_unpaired : (rows : Rows) (index : ℕ) → is_unpaired (bare_rows rows) index ≡ is_unpaired rows index
same_unpaired rows index =
    ap (λ (object : ℕ → Bool). unpaired_by object (has_sub (bare_rows rows) index) index) (λ j. λ i. same_object rows i j)
    ∙ ap (λ (sub : ℕ → Bool). unpaired_by (has_object rows) sub index) (same_sub rows index)

-- ---- BadMapping

same_width : (side : Side) (index : ℕ) (o : Option Row)
    → option_and_then (λ (row : Row). if may_be_mapped side index row then width_of row.data_type else None) (option_map bare o)
    ≡ option_and_then (λ (row : Row). if may_be_mapped side index row then width_of row.data_type else None) o
same_width side index None = refl
same_width side index (Some row) = refl

abbrev width_by : Side → Description → ℕ → Option ℕ → Option ℕ
width_by side d word entry = option_and_then (λ width. if mapped_bits word == 8 * width then Some width else None)
    (if is_some (usable_dummy side d.dummies (mapped_key word).index)
    then (if (mapped_key word).sub == 0 then usable_dummy side d.dummies (mapped_key word).index else None)
    else entry)

same_word : (side : Side) (d : Description) (word : ℕ) → word_width side (bare_of d) word ≡ word_width side d word
same_word side d word = ap (width_by side d word) (same_width side (mapped_key word).index (d.rows (mapped_key word)))

abbrev count_by : ℕ → (ℕ → Option ℕ) → List ℕ → ℕ → Option ℕ
count_by present width words count = first_refusal (
    refused_if (nat_lt present count) invalid_value
    ∷ refused_if (list_any (λ word. is_none (width word)) words) not_mappable
    ∷ refused_if (nat_lt 8 (sum_by (λ word. unwrap_or (width word) 0) words)) mapping_too_long
    ∷ [])

same_count : (side : Side) (d : Description) (contents : Contents) (index count : ℕ) → count_refusal side (bare_of d) contents index count ≡ count_refusal side d contents index count
same_count side d contents index count =
    ap (λ present. count_by present (word_width side (bare_of d)) (counted_words contents index count) count) (same_present d.rows index 64)
    ∙ ap (λ (width : ℕ → Option ℕ). count_by (subs_present d.rows index 64) width (counted_words contents index count) count) (λ j. λ word. same_word side d word j)

same_bad_count : (side : Side) (d : Description) (contents : Contents) (index : ℕ) → is_bad_count side (bare_of d) contents index ≡ is_bad_count side d contents index
same_bad_count side d contents index =
    let count = number_at contents (record { index = index; sub = 0 }) in
    ap (λ (refusal : Option ℕ). is_mapping_index side index && not (count == 0) && is_some refusal) (same_count side d contents index count)

same_bad_mapping : (d : Description) (contents : Contents) (key : Key) → is_bad_mapping (bare_of d) contents key ≡ is_bad_mapping d contents key
same_bad_mapping d contents key =
    ap (λ bad. (key.sub == 0) && (bad || is_bad_count Tpdo (bare_of d) contents key.index)) (same_bad_count Rpdo d contents key.index)
    ∙ ap (λ bad. (key.sub == 0) && (is_bad_count Rpdo d contents key.index || bad)) (same_bad_count Tpdo d contents key.index)

-- ---- the faults

abbrev fault_by : Option Key → Option ℕ → Option Key → Option BuildFault
fault_by word pair mapping = first_there (option_map BadCobId word ∷ option_map PdoPair pair ∷ option_map BadMapping mapping ∷ [])

same_fault : (d : Description) (contents : Contents) → parameter_fault (bare_of d) contents ≡ parameter_fault d contents
same_fault d contents =
    ap (λ (test : ℕ → Bool). fault_by (bad_cob_id d contents) (find test (map (λ (key : Key). key.index) d.keys)) (bad_mapping (bare_of d) contents)) (λ j. λ index. same_unpaired d.rows index j)
    ∙ ap (λ (test : Key → Bool). fault_by (bad_cob_id d contents) (unpaired d) (find test d.keys)) (λ j. λ key. same_bad_mapping d contents key j)

-- ---- the rows of a sheet with other limits

module _ (node : ℕ) (limits others : Limits) where
  abbrev entries_of : Limits → List SheetRow → List ListedEntry
  entries_of limits rows = map (entry_of node limits) rows

  same_part : {A : Type 0} (part : ListedEntry → A) → ((row : SheetRow) → part (entry_of node limits row) ≡ part (entry_of node others row)) → (rows : List SheetRow) (key : Key)
      → option_map part (entry_at (entries_of limits rows) key) ≡ option_map part (entry_at (entries_of others rows) key)
  same_part part same [] key = refl
  same_part part same (row ∷ rows) key = by_test (same_key key row.key) (same_part part same rows key)
    where
      by_test : (b : Bool) → option_map part (entry_at (entries_of limits rows) key) ≡ option_map part (entry_at (entries_of others rows) key)
          → option_map part (cond b (Some (entry_of node limits row)) (entry_at (entries_of limits rows) key))
          ≡ option_map part (cond b (Some (entry_of node others row)) (entry_at (entries_of others rows) key))
      by_test true later = ap Some (same row)
      by_test false later = later

  then_bare : (o : Option ListedEntry) → option_map bare (option_map (λ (e : ListedEntry). e.row) o) ≡ option_map (λ (e : ListedEntry). bare e.row) o
  then_bare None = refl
  then_bare (Some e) = refl

  same_rows : (rows : List SheetRow) → bare_rows (rows_in (entries_of limits rows)) ≡ bare_rows (rows_in (entries_of others rows))
  same_rows rows = λ j. λ key.
      (then_bare (entry_at (entries_of limits rows) key)
      ∙ same_part (λ (e : ListedEntry). bare e.row) (λ row. refl) rows key
      ∙ sym (then_bare (entry_at (entries_of others rows) key))) j

  same_initial : (rows : List SheetRow) → initial_in (entries_of limits rows) ≡ initial_in (entries_of others rows)
  same_initial rows = λ j. λ key. same_part (λ (e : ListedEntry). e.initial) (λ row. refl) rows key j

  same_contents : (rows : List SheetRow) → contents_in (entries_of limits rows) ≡ contents_in (entries_of others rows)
  same_contents rows = λ j. λ key. same_part (λ (e : ListedEntry). e.bytes) (λ row. refl) rows key j

  same_keys : (rows : List SheetRow) → keys_in (entries_of limits rows) ≡ keys_in (entries_of others rows)
  same_keys [] = refl
  same_keys (row ∷ rows) = ap (λ keys. row.key ∷ keys) (same_keys rows)

  same_bare : (rows : List SheetRow) (dummies : List Bool) → bare_of (description_in node dummies (entries_of limits rows)) ≡ bare_of (description_in node dummies (entries_of others rows))
  same_bare rows dummies = λ j. record {
    node = node;
    rows = same_rows rows j;
    initial = same_initial rows j;
    dummies = (description_in node dummies []).dummies;
    keys = same_keys rows j;
  }

  -- the room of strings and domains changes no fault of the parameters
  pub same_parameters : (rows : List SheetRow) (dummies : List Bool)
      → parameter_fault (built_description (plan_with node limits rows dummies)) (built_contents (plan_with node limits rows dummies))
      ≡ parameter_fault (built_description (plan_with node others rows dummies)) (built_contents (plan_with node others rows dummies))
  same_parameters rows dummies =
      let d = built_description (plan_with node limits rows dummies) in
      let e = built_description (plan_with node others rows dummies) in
      let contents = built_contents (plan_with node limits rows dummies) in
      sym (same_fault d contents)
      ∙ ap (λ (d : Description). parameter_fault d contents) (same_bare rows dummies)
      ∙ same_fault e contents
      ∙ ap (parameter_fault e) (same_contents rows)

  -- the same, of a dictionary that was made with some limits
  pub same_faults : (rows : List SheetRow) (dummies : List Bool) (d : Description) (contents : Contents) (fault : Option BuildFault)
      → d ≡ built_description (plan_with node limits rows dummies) → contents ≡ built_contents (plan_with node limits rows dummies) → fault ≡ parameter_fault d contents
      → fault ≡ parameter_fault (built_description (plan_with node others rows dummies)) (built_contents (plan_with node others rows dummies))
  same_faults rows dummies d contents fault e f h =
      h ∙ ap (λ (d : Description). parameter_fault d contents) e ∙ ap (parameter_fault (built_description (plan_with node limits rows dummies))) f ∙ same_parameters rows dummies
