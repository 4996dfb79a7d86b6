-- The faults in the order of the code are those of the checks.
use Rattle.std.proofs.Common.{◌≡◌, Bool, true, false, cond, not, List, [], ◌∷◌, ◌++◌, refl, sym, ap, ◌∙◌, subst, Contains, ◌⊎◌, inl, inr}
use Rattle.std.specs.Prelude.{flat_map, codes}
use Rattle.std.specs.Option.{option_map_or}
use Rattle.std.proofs.lemmas.List.Elements.{Contains-append_left, Contains-append_right}
use Rattle.co_sheet_rows.specs.declared.fault.SheetFault.{SheetFault}
use Rattle.co_sheet_text.specs.Names.{is_list}
use Rattle.co_sheet_text.specs.Sections.{TextSection}
use Rattle.co_sheet.specs.ObjectLists.{is_one_of, Listing, listings}
use Rattle.co_sheet.specs.Entries.{single_codes, compound_codes, object_code, ListedObject, Entry, sub_indices, entries_in}
use Rattle.co_sheet.specs.SectionViews.{object_at}
use Rattle.co_sheet.specs.Checks.{at_key, unread_number, missing_lists, has_numbers, unread_list_numbers, listed_twice, missing_section, sub_indices_checked, unread_object_numbers, unread_entry_numbers, bad_type, left_out_type, bad_access, in_numeric, unread_limits}
use Rattle.co_sheet_faults.specs.Soundness.{unless, is_unread_at, is_index, is_sound, sound_objects, sound_entries, is_data_type_at_fault}
use Rattle.co_sheet_faults.specs.AllChecks.{bad_list, all_bad_lists, all_listed_twice, all_missing_sections, of_sound_objects, object_type_found, object_types_found, all_compact_forms, sub_index_0_found, key_found, of_sound_type, limits_found, default_found, all_missing_mandatory, of_sound_entries, all_checks}
use Rattle.co_sheet_faults.specs.AllFaults.{found_by}
use Rattle.co_sheet_faults.specs.private.Collected.{type_collected, values_collected, entry_collected, object_type_collected, compact_in, compact_collected, part_collected, own_entry, parts_collected, object_collected, listing_collected, numbers_collected, list_collected, section_collected, compact_pdo, collected}
use Rattle.co_sheet_faults.proofs.SubLemmas.{Sub, sub-nil, sub-same, sub-flat, flat-flat}
use Rattle.co_sheet_faults.proofs.CompleteLemmas.{sub-twice}
use Rattle.co_sheet_faults.proofs.EntryOrderLemmas.{values_checked, sub-trans, in-front, at-end, flat-twice, flat-within, flat-none, filter-flat, some-flat, unless-two, unless-each, option-each, typed-values, typed-checks}

-- ---- a check is among all

abbrev IsIn : (List TextSection → List SheetFault) → List (List TextSection → List SheetFault) → Type 0
IsIn c [] = ⊥
IsIn c (d ∷ ds) = (c ≡ d) ⊎ IsIn c ds

check-in : (c : List TextSection → List SheetFault) (ds : List (List TextSection → List SheetFault)) (sections : List TextSection) → IsIn c ds → Sub (c sections) (found_by ds sections)
check-in c [] sections h = absurd h
check-in c (d ∷ ds) sections (inl same) = λ a there.
    Contains-append_left (d sections) (found_by ds sections) a (subst (λ (g : List TextSection → List SheetFault). Contains (g sections) a) same there)
check-in c (d ∷ ds) sections (inr later) = λ a there.
    Contains-append_right (d sections) (found_by ds sections) a (check-in c ds sections later a there)

module _ (sections : List TextSection) where
  abbrev found_all : List SheetFault
  found_all = found_by all_checks sections

  in-lists : Sub (missing_lists sections) found_all
  in-lists = check-in missing_lists all_checks sections (inl refl)

  in-numbers : Sub (unread_list_numbers sections) found_all
  in-numbers = check-in unread_list_numbers all_checks sections (inr (inl refl))

  in-bad_lists : Sub (all_bad_lists sections) found_all
  in-bad_lists = check-in all_bad_lists all_checks sections (inr (inr (inl refl)))

  in-twice : Sub (all_listed_twice sections) found_all
  in-twice = check-in all_listed_twice all_checks sections (inr (inr (inr (inl refl))))

  in-missing : Sub (all_missing_sections sections) found_all
  in-missing = check-in all_missing_sections all_checks sections (inr (inr (inr (inr (inl refl)))))

  in-object_numbers : Sub (of_sound_objects unread_object_numbers sections) found_all
  in-object_numbers = check-in (of_sound_objects unread_object_numbers) all_checks sections (inr (inr (inr (inr (inr (inl refl))))))

  in-types : Sub (of_sound_objects object_types_found sections) found_all
  in-types = check-in (of_sound_objects object_types_found) all_checks sections (inr (inr (inr (inr (inr (inr (inl refl)))))))

  in-compact : Sub (all_compact_forms sections) found_all
  in-compact = check-in all_compact_forms all_checks sections (inr (inr (inr (inr (inr (inr (inr (inl refl))))))))

  in-sub_0 : Sub (of_sound_objects sub_index_0_found sections) found_all
  in-sub_0 = check-in (of_sound_objects sub_index_0_found) all_checks sections (inr (inr (inr (inr (inr (inr (inr (inr (inl refl)))))))))

  in-keys : Sub (of_sound_entries key_found sections) found_all
  in-keys = check-in (of_sound_entries key_found) all_checks sections (inr (inr (inr (inr (inr (inr (inr (inr (inr (inl refl))))))))))

  in-entry_numbers : Sub (of_sound_entries unread_entry_numbers sections) found_all
  in-entry_numbers = check-in (of_sound_entries unread_entry_numbers) all_checks sections (inr (inr (inr (inr (inr (inr (inr (inr (inr (inr (inl refl)))))))))))

  in-data_types : Sub (of_sound_entries bad_type sections) found_all
  in-data_types = check-in (of_sound_entries bad_type) all_checks sections (inr (inr (inr (inr (inr (inr (inr (inr (inr (inr (inr (inl refl))))))))))))

  in-left_out : Sub (of_sound_entries (of_sound_type left_out_type) sections) found_all
  in-left_out = check-in (of_sound_entries (of_sound_type left_out_type)) all_checks sections (inr (inr (inr (inr (inr (inr (inr (inr (inr (inr (inr (inr (inl refl)))))))))))))

  in-access : Sub (of_sound_entries bad_access sections) found_all
  in-access = check-in (of_sound_entries bad_access) all_checks sections (inr (inr (inr (inr (inr (inr (inr (inr (inr (inr (inr (inr (inr (inl refl))))))))))))))

  in-values : Sub (of_sound_entries (of_sound_type (in_numeric unread_limits)) sections) found_all
  in-values = check-in (of_sound_entries (of_sound_type (in_numeric unread_limits))) all_checks sections (inr (inr (inr (inr (inr (inr (inr (inr (inr (inr (inr (inr (inr (inr (inl refl)))))))))))))))

  in-limits : Sub (of_sound_entries (of_sound_type (in_numeric limits_found)) sections) found_all
  in-limits = check-in (of_sound_entries (of_sound_type (in_numeric limits_found))) all_checks sections (inr (inr (inr (inr (inr (inr (inr (inr (inr (inr (inr (inr (inr (inr (inr (inl refl))))))))))))))))

  in-defaults : Sub (of_sound_entries (of_sound_type default_found) sections) found_all
  in-defaults = check-in (of_sound_entries (of_sound_type default_found)) all_checks sections (inr (inr (inr (inr (inr (inr (inr (inr (inr (inr (inr (inr (inr (inr (inr (inr (inl refl)))))))))))))))))

  in-mandatory : Sub (all_missing_mandatory sections) found_all
  in-mandatory = check-in all_missing_mandatory all_checks sections (inr (inr (inr (inr (inr (inr (inr (inr (inr (inr (inr (inr (inr (inr (inr (inr (inr (inl refl))))))))))))))))))

-- ---- what is collected is found

module _ (sections : List TextSection) where
  abbrev entries : List Entry
  entries = sound_entries sections

  -- checks 15 to 17, each by itself
  values-found : Sub (flat_map (of_sound_type values_collected) entries) (found_by all_checks sections)
  values-found =
      let unreads = of_sound_type (in_numeric unread_limits) in
      let limits = of_sound_type (in_numeric limits_found) in
      let defaults = of_sound_type default_found in
      flat-within (of_sound_type values_collected) (λ e. unreads e ++ (limits e ++ defaults e)) entries (found_by all_checks sections)
      (λ e. sub-trans (of_sound_type values_collected e) (of_sound_type values_checked e) (unreads e ++ (limits e ++ defaults e)) (typed-values e)
      (sub-same (of_sound_type values_checked e) (unreads e ++ (limits e ++ defaults e))
      (unless-two (is_data_type_at_fault e) (in_numeric unread_limits e) (in_numeric limits_found e ++ default_found e)
      ∙ ap (λ (l : List SheetFault). unreads e ++ l) (unless-two (is_data_type_at_fault e) (in_numeric limits_found e) (default_found e)))))
      (flat-twice unreads (λ e. limits e ++ defaults e) entries (found_by all_checks sections) (in-values sections)
      (flat-twice limits defaults entries (found_by all_checks sections) (in-limits sections) (in-defaults sections)))

  type-found : Sub (flat_map type_collected entries) (found_by all_checks sections)
  type-found =
      let number = λ (e : Entry). at_key unread_number (codes "DataType") e.section in
      flat-twice number (λ e. bad_type e ++ of_sound_type left_out_type e) entries (found_by all_checks sections)
      (flat-within number unread_entry_numbers entries (found_by all_checks sections) (λ e. in-front (number e) (at_key unread_number (codes "PDOMapping") e.section)) (in-entry_numbers sections))
      (flat-twice bad_type (of_sound_type left_out_type) entries (found_by all_checks sections) (in-data_types sections) (in-left_out sections))

  entries-found : Sub (flat_map entry_collected entries) (found_by all_checks sections)
  entries-found =
      let all = found_by all_checks sections in
      let mapping = λ (e : Entry). at_key unread_number (codes "PDOMapping") e.section in
      flat-twice key_found (λ e. type_collected e ++ (mapping e ++ (bad_access e ++ of_sound_type values_collected e))) entries all (in-keys sections)
      (flat-twice type_collected (λ e. mapping e ++ (bad_access e ++ of_sound_type values_collected e)) entries all type-found
      (flat-twice mapping (λ e. bad_access e ++ of_sound_type values_collected e) entries all
      (flat-within mapping unread_entry_numbers entries all (λ e. at-end (at_key unread_number (codes "DataType") e.section) (mapping e)) (in-entry_numbers sections))
      (flat-twice bad_access (of_sound_type values_collected) entries all (in-access sections) values-found)))

-- ---- objects

-- what is collected of the parts of an object: the ObjectType of its sub-index sections, and its entries
parts-apart : (subs : List Entry) (own : Entry) (single compound : Bool)
    → Sub (cond single (entry_collected own) (flat_map (part_collected compound) subs))
    (flat_map (λ e. object_type_collected single_codes e.section) (cond single [] subs) ++ flat_map entry_collected (cond single (own ∷ []) (cond compound subs [])))
parts-apart subs own true compound = in-front (entry_collected own) []
parts-apart subs own false true =
    let types = λ (e : Entry). object_type_collected single_codes e.section in
    flat-twice types entry_collected subs (flat_map types subs ++ flat_map entry_collected subs)
    (in-front (flat_map types subs) (flat_map entry_collected subs)) (at-end (flat_map types subs) (flat_map entry_collected subs))
parts-apart subs own false false =
    let types = λ (e : Entry). object_type_collected single_codes e.section in
    flat-twice types (λ e. []) subs (flat_map types subs ++ [])
    (in-front (flat_map types subs) []) (sub-trans (flat_map (λ (e : Entry). let none : List SheetFault = [] in none) subs) [] (flat_map types subs ++ []) (sub-same _ [] (flat-none subs)) (sub-nil (flat_map types subs ++ [])))

module _ (sections : List TextSection) where
  abbrev objects : List ListedObject
  objects = sound_objects sections

  abbrev sub_types : ListedObject → List SheetFault
  sub_types o = flat_map (λ e. object_type_collected single_codes e.section) (sub_indices_checked sections o)

  -- check 6: the two numbers of an object, and those of its parts
  type_number : (o : ListedObject) → Sub (at_key unread_number (codes "ObjectType") o.section) (unread_object_numbers sections o)
  type_number o =
      let first = at_key unread_number (codes "ObjectType") o.section in
      let second = at_key unread_number (codes "CompactSubObj") o.section in
      let parts = flat_map (λ (e : Entry). at_key unread_number (codes "ObjectType") e.section) (sub_indices_checked sections o) in
      λ a c. in-front (first ++ second) parts a (in-front first second a c)

  compact_number : (o : ListedObject) → Sub (at_key unread_number (codes "CompactSubObj") o.section) (unread_object_numbers sections o)
  compact_number o =
      let first = at_key unread_number (codes "ObjectType") o.section in
      let second = at_key unread_number (codes "CompactSubObj") o.section in
      let parts = flat_map (λ (e : Entry). at_key unread_number (codes "ObjectType") e.section) (sub_indices_checked sections o) in
      λ a c. in-front (first ++ second) parts a (at-end first second a c)

  part_numbers : (o : ListedObject) → Sub (flat_map (λ (e : Entry). at_key unread_number (codes "ObjectType") e.section) (sub_indices_checked sections o)) (unread_object_numbers sections o)
  part_numbers o =
      let first = at_key unread_number (codes "ObjectType") o.section in
      let second = at_key unread_number (codes "CompactSubObj") o.section in
      at-end (first ++ second) (flat_map (λ (e : Entry). at_key unread_number (codes "ObjectType") e.section) (sub_indices_checked sections o))

  abbrev own_types : ListedObject → List SheetFault
  own_types o = object_type_found (single_codes ++ compound_codes) o.section

  abbrev part_types : ListedObject → List SheetFault
  part_types o = flat_map (λ (e : Entry). object_type_found single_codes e.section) (sub_indices_checked sections o)

  sub-types-found : Sub (flat_map sub_types objects) (found_by all_checks sections)
  sub-types-found =
      let all = found_by all_checks sections in
      let numbers = λ (o : ListedObject). flat_map (λ (e : Entry). at_key unread_number (codes "ObjectType") e.section) (sub_indices_checked sections o) in
      flat-within sub_types (λ o. numbers o ++ part_types o) objects all
      (λ o. flat-twice (λ (e : Entry). at_key unread_number (codes "ObjectType") e.section) (λ (e : Entry). object_type_found single_codes e.section) (sub_indices_checked sections o) (numbers o ++ part_types o) (in-front (numbers o) (part_types o)) (at-end (numbers o) (part_types o)))
      (flat-twice numbers part_types objects all
      (flat-within numbers (unread_object_numbers sections) objects all part_numbers (in-object_numbers sections))
      (flat-within part_types (object_types_found sections) objects all (λ o. at-end (own_types o) (part_types o)) (in-types sections)))

  own-types-found : Sub (flat_map (λ o. object_type_collected (single_codes ++ compound_codes) o.section) objects) (found_by all_checks sections)
  own-types-found =
      let all = found_by all_checks sections in
      let number = λ (o : ListedObject). at_key unread_number (codes "ObjectType") o.section in
      flat-twice number own_types objects all
      (flat-within number (unread_object_numbers sections) objects all type_number (in-object_numbers sections))
      (flat-within own_types (object_types_found sections) objects all (λ o. in-front (own_types o) (part_types o)) (in-types sections))

  compact-found : Sub (flat_map (λ o. compact_collected o.section) objects) (found_by all_checks sections)
  compact-found =
      let all = found_by all_checks sections in
      let number = λ (o : ListedObject). at_key unread_number (codes "CompactSubObj") o.section in
      let form = λ (o : ListedObject). compact_in o.section in
      flat-twice number form objects all
      (flat-within number (unread_object_numbers sections) objects all compact_number (in-object_numbers sections))
      (λ a c. in-compact sections a (at-end (compact_pdo sections) (flat_map form objects) a c))

  parts-found : Sub (flat_map (parts_collected sections) objects) (found_by all_checks sections)
  parts-found =
      let all = found_by all_checks sections in
      let entries_at = λ (o : ListedObject). flat_map entry_collected (entries_in sections o) in
      flat-within (parts_collected sections) (λ o. sub_types o ++ entries_at o) objects all
      (λ o. parts-apart (sub_indices sections o.index) (own_entry o) (is_one_of single_codes (object_code o.section)) (is_one_of compound_codes (object_code o.section)))
      (flat-twice sub_types entries_at objects all sub-types-found
      (λ a c. entries-found sections a (sub-same (flat_map entries_at objects) (flat_map entry_collected (sound_entries sections)) (sym (flat-flat entry_collected (entries_in sections) objects)) a c)))

  objects-found : Sub (flat_map (object_collected sections) objects) (found_by all_checks sections)
  objects-found =
      let all = found_by all_checks sections in
      let types = λ (o : ListedObject). object_type_collected (single_codes ++ compound_codes) o.section in
      let compact = λ (o : ListedObject). compact_collected o.section in
      flat-twice types (λ o. compact o ++ (sub_index_0_found sections o ++ parts_collected sections o)) objects all own-types-found
      (flat-twice compact (λ o. sub_index_0_found sections o ++ parts_collected sections o) objects all compact-found
      (flat-twice (sub_index_0_found sections) (parts_collected sections) objects all (in-sub_0 sections) parts-found))

  -- ---- listings and sections

  abbrev object_of : (ListedObject → List SheetFault) → Listing → List SheetFault
  object_of f l = unless (not (is_sound sections l)) (option_map_or f (object_at l.index sections) [])

  by-listing : (f : ListedObject → List SheetFault) → flat_map f objects ≡ flat_map (object_of f) (listings sections)
  by-listing f = some-flat (λ (l : Listing). object_at l.index sections) (is_sound sections) f (listings sections)

  listings-found : Sub (flat_map (listing_collected sections) (listings sections)) (found_by all_checks sections)
  listings-found =
      let all = found_by all_checks sections in
      let twice = λ (l : Listing). unless (not (is_index l.index)) (listed_twice sections l) in
      let missing = λ (l : Listing). unless (not (is_sound sections l)) (missing_section sections l) in
      let rest = λ (l : Listing). unless (not (is_sound sections l)) (missing_section sections l ++ option_map_or (object_collected sections) (object_at l.index sections) []) in
      flat-twice twice rest (listings sections) all (in-twice sections)
      (flat-within rest (λ l. missing l ++ object_of (object_collected sections) l) (listings sections) all
      (λ l. sub-same (rest l) (missing l ++ object_of (object_collected sections) l) (unless-two (not (is_sound sections l)) (missing_section sections l) (option_map_or (object_collected sections) (object_at l.index sections) [])))
      (flat-twice missing (object_of (object_collected sections)) (listings sections) all (in-missing sections)
      (λ a c. objects-found a (sub-same (flat_map (object_of (object_collected sections)) (listings sections)) (flat_map (object_collected sections) objects) (sym (by-listing (object_collected sections))) a c))))

  numbers-same : unread_list_numbers sections ≡ flat_map numbers_collected sections
  numbers-same = filter-flat (λ (s : TextSection). flat_map unread_number s.properties) (λ s. has_numbers s.kind) sections

  lists-same : all_bad_lists sections ≡ flat_map list_collected sections
  lists-same = filter-flat (λ (s : TextSection). unless (is_unread_at (codes "SupportedObjects") s) (bad_list s)) (λ s. is_list s.kind) sections

  sections-found : Sub (flat_map section_collected sections) (found_by all_checks sections)
  sections-found =
      let all = found_by all_checks sections in
      flat-twice numbers_collected list_collected sections all
      (λ a c. in-numbers sections a (sub-same (flat_map numbers_collected sections) (unread_list_numbers sections) (sym numbers-same) a c))
      (λ a c. in-bad_lists sections a (sub-same (flat_map list_collected sections) (all_bad_lists sections) (sym lists-same) a c))

  pub collected-found : Sub (collected sections) (found_by all_checks sections)
  collected-found =
      let all = found_by all_checks sections in
      let of_lists = flat_map (listing_collected sections) (listings sections) in
      sub-twice (missing_lists sections) (flat_map section_collected sections ++ (compact_pdo sections ++ (of_lists ++ all_missing_mandatory sections))) all (in-lists sections)
      (sub-twice (flat_map section_collected sections) (compact_pdo sections ++ (of_lists ++ all_missing_mandatory sections)) all sections-found
      (sub-twice (compact_pdo sections) (of_lists ++ all_missing_mandatory sections) all
      (λ a c. in-compact sections a (in-front (compact_pdo sections) (flat_map (λ (o : ListedObject). compact_in o.section) objects) a c))
      (sub-twice of_lists (all_missing_mandatory sections) all listings-found (in-mandatory sections))))

-- ---- what is found is collected

-- each check of an entry
abbrev OfEntry : (Entry → List SheetFault) → Type 0
OfEntry check = (e : Entry) → Sub (check e) (entry_collected e)

module _ (e : Entry) where
  abbrev mapping_number : List SheetFault
  mapping_number = at_key unread_number (codes "PDOMapping") e.section

  abbrev type_number_of : List SheetFault
  type_number_of = at_key unread_number (codes "DataType") e.section

  abbrev values_of : List SheetFault
  values_of = of_sound_type values_collected e

  after-key : Sub (type_collected e ++ (mapping_number ++ (bad_access e ++ values_of))) (entry_collected e)
  after-key = at-end (key_found e) (type_collected e ++ (mapping_number ++ (bad_access e ++ values_of)))

  type-in-entry : Sub (type_collected e) (entry_collected e)
  type-in-entry a c = after-key a (in-front (type_collected e) (mapping_number ++ (bad_access e ++ values_of)) a c)

  after-type : Sub (mapping_number ++ (bad_access e ++ values_of)) (entry_collected e)
  after-type a c = after-key a (at-end (type_collected e) (mapping_number ++ (bad_access e ++ values_of)) a c)

  after-mapping : Sub (bad_access e ++ values_of) (entry_collected e)
  after-mapping a c = after-type a (at-end mapping_number (bad_access e ++ values_of) a c)

  key-in-entry : Sub (key_found e) (entry_collected e)
  key-in-entry = in-front (key_found e) (type_collected e ++ (mapping_number ++ (bad_access e ++ values_of)))

  numbers-in-entry : Sub (unread_entry_numbers e) (entry_collected e)
  numbers-in-entry =
      sub-twice type_number_of mapping_number (entry_collected e)
      (λ a c. type-in-entry a (in-front type_number_of (bad_type e ++ of_sound_type left_out_type e) a c))
      (λ a c. after-type a (in-front mapping_number (bad_access e ++ values_of) a c))

  bad-type-in-entry : Sub (bad_type e) (entry_collected e)
  bad-type-in-entry a c = type-in-entry a (at-end type_number_of (bad_type e ++ of_sound_type left_out_type e) a (in-front (bad_type e) (of_sound_type left_out_type e) a c))

  left-out-in-entry : Sub (of_sound_type left_out_type e) (entry_collected e)
  left-out-in-entry a c = type-in-entry a (at-end type_number_of (bad_type e ++ of_sound_type left_out_type e) a (at-end (bad_type e) (of_sound_type left_out_type e) a c))

  access-in-entry : Sub (bad_access e) (entry_collected e)
  access-in-entry a c = after-mapping a (in-front (bad_access e) values_of a c)

  checked-in-entry : Sub (of_sound_type values_checked e) (entry_collected e)
  checked-in-entry a c = after-mapping a (at-end (bad_access e) values_of a (typed-checks e a c))

  unreads-in-entry : Sub (of_sound_type (in_numeric unread_limits) e) (entry_collected e)
  unreads-in-entry a c =
      checked-in-entry a (unless-each (is_data_type_at_fault e) (in_numeric unread_limits e) (values_checked e) (in-front (in_numeric unread_limits e) (in_numeric limits_found e ++ default_found e)) a c)

  limits-in-entry : Sub (of_sound_type (in_numeric limits_found) e) (entry_collected e)
  limits-in-entry a c =
      checked-in-entry a (unless-each (is_data_type_at_fault e) (in_numeric limits_found e) (values_checked e)
      (λ b d. at-end (in_numeric unread_limits e) (in_numeric limits_found e ++ default_found e) b (in-front (in_numeric limits_found e) (default_found e) b d)) a c)

  defaults-in-entry : Sub (of_sound_type default_found e) (entry_collected e)
  defaults-in-entry a c =
      checked-in-entry a (unless-each (is_data_type_at_fault e) (default_found e) (values_checked e)
      (λ b d. at-end (in_numeric unread_limits e) (in_numeric limits_found e ++ default_found e) b (at-end (in_numeric limits_found e) (default_found e) b d)) a c)

-- of the parts of an object
parts-of-types : (f : Entry → List SheetFault) → ((e : Entry) → Sub (f e) (object_type_collected single_codes e.section)) → (subs : List Entry) (own : Entry) (single compound : Bool)
    → Sub (flat_map f (cond single [] subs)) (cond single (entry_collected own) (flat_map (part_collected compound) subs))
parts-of-types f each subs own true compound = sub-nil (entry_collected own)
parts-of-types f each subs own false compound =
    sub-flat f (part_collected compound) (λ e. sub-trans (f e) (object_type_collected single_codes e.section) (part_collected compound e) (each e) (in-front (object_type_collected single_codes e.section) (cond compound (entry_collected e) []))) subs

parts-of-entries : (check : Entry → List SheetFault) → OfEntry check → (subs : List Entry) (own : Entry) (single compound : Bool)
    → Sub (flat_map check (cond single (own ∷ []) (cond compound subs []))) (cond single (entry_collected own) (flat_map (part_collected compound) subs))
parts-of-entries check each subs own true compound =
    sub-twice (check own) [] (entry_collected own) (each own) (sub-nil (entry_collected own))
parts-of-entries check each subs own false true =
    sub-flat check (part_collected true) (λ e. sub-trans (check e) (entry_collected e) (part_collected true e) (each e) (at-end (object_type_collected single_codes e.section) (entry_collected e))) subs
parts-of-entries check each subs own false false = sub-nil (flat_map (part_collected false) subs)

module _ (sections : List TextSection) (o : ListedObject) where
  abbrev type_part : List SheetFault
  type_part = object_type_collected (single_codes ++ compound_codes) o.section

  abbrev after_type : List SheetFault
  after_type = compact_collected o.section ++ (sub_index_0_found sections o ++ parts_collected sections o)

  abbrev after_compact : List SheetFault
  after_compact = sub_index_0_found sections o ++ parts_collected sections o

  type-in-object : Sub type_part (object_collected sections o)
  type-in-object = in-front type_part after_type

  compact-in-object : Sub (compact_collected o.section) (object_collected sections o)
  compact-in-object a c = at-end type_part after_type a (in-front (compact_collected o.section) after_compact a c)

  sub_0-in-object : Sub (sub_index_0_found sections o) (object_collected sections o)
  sub_0-in-object a c = at-end type_part after_type a (at-end (compact_collected o.section) after_compact a (in-front (sub_index_0_found sections o) (parts_collected sections o) a c))

  parts-in-object : Sub (parts_collected sections o) (object_collected sections o)
  parts-in-object a c = at-end type_part after_type a (at-end (compact_collected o.section) after_compact a (at-end (sub_index_0_found sections o) (parts_collected sections o) a c))

  types-in-parts : (f : Entry → List SheetFault) → ((e : Entry) → Sub (f e) (object_type_collected single_codes e.section)) → Sub (flat_map f (sub_indices_checked sections o)) (object_collected sections o)
  types-in-parts f each a c =
      parts-in-object a (parts-of-types f each (sub_indices sections o.index) (own_entry o) (is_one_of single_codes (object_code o.section)) (is_one_of compound_codes (object_code o.section)) a c)

  entries-in-object : (check : Entry → List SheetFault) → OfEntry check → Sub (flat_map check (entries_in sections o)) (object_collected sections o)
  entries-in-object check each a c =
      parts-in-object a (parts-of-entries check each (sub_indices sections o.index) (own_entry o) (is_one_of single_codes (object_code o.section)) (is_one_of compound_codes (object_code o.section)) a c)

  numbers-in-object : Sub (unread_object_numbers sections o) (object_collected sections o)
  numbers-in-object =
      let first = at_key unread_number (codes "ObjectType") o.section in
      let second = at_key unread_number (codes "CompactSubObj") o.section in
      let number = λ (e : Entry). at_key unread_number (codes "ObjectType") e.section in
      sub-twice (first ++ second) (flat_map number (sub_indices_checked sections o)) (object_collected sections o)
      (sub-twice first second (object_collected sections o)
      (λ a c. type-in-object a (in-front first (object_type_found (single_codes ++ compound_codes) o.section) a c))
      (λ a c. compact-in-object a (in-front second (compact_in o.section) a c)))
      (types-in-parts number (λ e. in-front (number e) (object_type_found single_codes e.section)))

  kinds-in-object : Sub (object_types_found sections o) (object_collected sections o)
  kinds-in-object =
      let found = λ (e : Entry). object_type_found single_codes e.section in
      let own = object_type_found (single_codes ++ compound_codes) o.section in
      sub-twice own (flat_map found (sub_indices_checked sections o)) (object_collected sections o)
      (λ a c. type-in-object a (at-end (at_key unread_number (codes "ObjectType") o.section) own a c))
      (types-in-parts found (λ e. at-end (at_key unread_number (codes "ObjectType") e.section) (found e)))

  form-in-object : Sub (compact_in o.section) (object_collected sections o)
  form-in-object a c = compact-in-object a (at-end (at_key unread_number (codes "CompactSubObj") o.section) (compact_in o.section) a c)

module _ (sections : List TextSection) where
  abbrev of_lists : List SheetFault
  of_lists = flat_map (listing_collected sections) (listings sections)

  abbrev after_sections : List SheetFault
  after_sections = compact_pdo sections ++ (of_lists ++ all_missing_mandatory sections)

  abbrev after_missing : List SheetFault
  after_missing = flat_map section_collected sections ++ after_sections

  sections-in-all : Sub (flat_map section_collected sections) (collected sections)
  sections-in-all a c = at-end (missing_lists sections) after_missing a (in-front (flat_map section_collected sections) after_sections a c)

  rest-in-all : Sub after_sections (collected sections)
  rest-in-all a c = at-end (missing_lists sections) after_missing a (at-end (flat_map section_collected sections) after_sections a c)

  listings-in-all : Sub of_lists (collected sections)
  listings-in-all a c = rest-in-all a (at-end (compact_pdo sections) (of_lists ++ all_missing_mandatory sections) a (in-front of_lists (all_missing_mandatory sections) a c))

  -- what each object has is collected at its listing
  object-in-listing : (f : ListedObject → List SheetFault) → ((o : ListedObject) → Sub (f o) (object_collected sections o)) → (l : Listing) → Sub (object_of sections f l) (listing_collected sections l)
  object-in-listing f each l =
      let twice = unless (not (is_index l.index)) (listed_twice sections l) in
      let object = option_map_or (object_collected sections) (object_at l.index sections) [] in
      let all = unless (not (is_sound sections l)) (missing_section sections l ++ object) in
      λ a c. at-end twice all a (unless-each (not (is_sound sections l)) (option_map_or f (object_at l.index sections) []) (missing_section sections l ++ object)
      (λ b d. at-end (missing_section sections l) object b (option-each f (object_collected sections) each (object_at l.index sections) b d)) a c)

  objects-in-all : (f : ListedObject → List SheetFault) → ((o : ListedObject) → Sub (f o) (object_collected sections o)) → Sub (flat_map f (sound_objects sections)) (collected sections)
  objects-in-all f each a c =
      listings-in-all a (sub-flat (object_of sections f) (listing_collected sections) (object-in-listing f each) (listings sections) a
      (sub-same (flat_map f (sound_objects sections)) (flat_map (object_of sections f) (listings sections)) (by-listing sections f) a c))

  entries-in-all : (check : Entry → List SheetFault) → OfEntry check → Sub (of_sound_entries check sections) (collected sections)
  entries-in-all check each a c =
      objects-in-all (λ o. flat_map check (entries_in sections o)) (λ o. entries-in-object sections o check each) a
      (sub-same (of_sound_entries check sections) (flat_map (λ o. flat_map check (entries_in sections o)) (sound_objects sections)) (flat-flat check (entries_in sections) (sound_objects sections)) a c)

  twice-in-all : Sub (all_listed_twice sections) (collected sections)
  twice-in-all a c =
      listings-in-all a (sub-flat (λ l. unless (not (is_index l.index)) (listed_twice sections l)) (listing_collected sections)
      (λ l. in-front (unless (not (is_index l.index)) (listed_twice sections l)) (unless (not (is_sound sections l)) (missing_section sections l ++ option_map_or (object_collected sections) (object_at l.index sections) [])))
      (listings sections) a c)

  missing-in-listing : (l : Listing) → Sub (unless (not (is_sound sections l)) (missing_section sections l)) (listing_collected sections l)
  missing-in-listing l =
      let twice = unless (not (is_index l.index)) (listed_twice sections l) in
      let object = option_map_or (object_collected sections) (object_at l.index sections) [] in
      let all = unless (not (is_sound sections l)) (missing_section sections l ++ object) in
      λ a c. at-end twice all a (unless-each (not (is_sound sections l)) (missing_section sections l) (missing_section sections l ++ object) (in-front (missing_section sections l) object) a c)

  missing-in-all : Sub (all_missing_sections sections) (collected sections)
  missing-in-all a c =
      listings-in-all a (sub-flat (λ l. unless (not (is_sound sections l)) (missing_section sections l)) (listing_collected sections) missing-in-listing (listings sections) a c)

  numbers-in-all : Sub (unread_list_numbers sections) (collected sections)
  numbers-in-all a c =
      sections-in-all a (sub-flat numbers_collected section_collected (λ s. in-front (numbers_collected s) (list_collected s)) sections a
      (sub-same (unread_list_numbers sections) (flat_map numbers_collected sections) (numbers-same sections) a c))

  lists-in-all : Sub (all_bad_lists sections) (collected sections)
  lists-in-all a c =
      sections-in-all a (sub-flat list_collected section_collected (λ s. at-end (numbers_collected s) (list_collected s)) sections a
      (sub-same (all_bad_lists sections) (flat_map list_collected sections) (lists-same sections) a c))

  compact-in-all : Sub (all_compact_forms sections) (collected sections)
  compact-in-all =
      sub-twice (compact_pdo sections) (flat_map (λ (o : ListedObject). compact_in o.section) (sound_objects sections)) (collected sections)
      (λ a c. rest-in-all a (in-front (compact_pdo sections) (of_lists ++ all_missing_mandatory sections) a c))
      (objects-in-all (λ o. compact_in o.section) (form-in-object sections))

  mandatory-in-all : Sub (all_missing_mandatory sections) (collected sections)
  mandatory-in-all a c = rest-in-all a (at-end (compact_pdo sections) (of_lists ++ all_missing_mandatory sections) a (at-end of_lists (all_missing_mandatory sections) a c))

-- each of these checks finds nothing that isn't there
abbrev AreIn : List (List TextSection → List SheetFault) → List TextSection → List SheetFault → Type 0
AreIn [] sections all = Unit {0}
AreIn (c ∷ cs) sections all = Sub (c sections) all × AreIn cs sections all

all-in : (cs : List (List TextSection → List SheetFault)) (sections : List TextSection) (all : List SheetFault) → AreIn cs sections all → Sub (found_by cs sections) all
all-in [] sections all h = sub-nil all
all-in (c ∷ cs) sections all h = sub-twice (c sections) (found_by cs sections) all h.0 (all-in cs sections all h.1)

pub found-collected : (sections : List TextSection) → Sub (found_by all_checks sections) (collected sections)
found-collected sections =
    all-in all_checks sections (collected sections) (
      (in-front (missing_lists sections) (after_missing sections)),
      (
        numbers-in-all sections,
        (
          lists-in-all sections,
          (
            twice-in-all sections,
            (
              missing-in-all sections,
              (
                (objects-in-all sections (unread_object_numbers sections) (numbers-in-object sections)),
                (
                  (objects-in-all sections (object_types_found sections) (kinds-in-object sections)),
                  (
                    compact-in-all sections,
                    (
                      (objects-in-all sections (sub_index_0_found sections) (sub_0-in-object sections)),
                      (
                        (entries-in-all sections key_found key-in-entry),
                        (
                          (entries-in-all sections unread_entry_numbers numbers-in-entry),
                          (
                            (entries-in-all sections bad_type bad-type-in-entry),
                            (
                              (entries-in-all sections (of_sound_type left_out_type) left-out-in-entry),
                              (
                                (entries-in-all sections bad_access access-in-entry),
                                (
                                  (entries-in-all sections (of_sound_type (in_numeric unread_limits)) unreads-in-entry),
                                  (
                                    (entries-in-all sections (of_sound_type (in_numeric limits_found)) limits-in-entry),
                                    (
                                      (entries-in-all sections (of_sound_type default_found) defaults-in-entry),
                                      (
                                        mandatory-in-all sections,
                                        tt,
                                      ),
                                    ),
                                  ),
                                ),
                              ),
                            ),
                          ),
                        ),
                      ),
                    ),
                  ),
                ),
              ),
            ),
          ),
        ),
      ),
    )
