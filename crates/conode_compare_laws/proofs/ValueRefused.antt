-- With which codes a device that is built from a data sheet refuses: where one says that an entry can't be read at all, the sheet says so too,
-- or hasn't the entry.
use Rattle.std.proofs.Common.{◌≡◌, ℕ, Bool, true, false, not, List, [], ◌∷◌, length, Option, Some, None, refl, sym, ap, ◌∙◌, subst}
use Rattle.std.specs.Prelude.{◌&&◌, ◌||◌, ◌==◌, if◌then◌else◌, nat_lt, int_lt, find, is_none, is_some, option_and_then, option_map, unwrap_or, IfSome}
use Rattle.std.specs.List.{AllByRecursion, list_any}
use Rattle.std.specs.Option.{option_map_or}
use Rattle.std.proofs.lemmas.Bool.{and_parts, eqb-true, false≢true}
use Rattle.co_value.specs.declared.key.Key.{Key}
use Rattle.co_value.specs.Keys.{same_key, same_key-is}
use Rattle.co_value.specs.Numbers.{low_bytes, number_of, unsigned_of}
use Rattle.co_value.specs.Types.{width_of}
use Rattle.co_frame_aborts.specs.AbortCodes.{above_high_limit, below_low_limit, invalid_value, no_value, not_in_this_state, not_mappable, object_missing, mapping_too_long, not_storable, parameter_incompatible, read_only, sub_index_missing, too_long, too_short, write_only}
use Rattle.co_profile.specs.declared.access.Access.{Access}
use Rattle.co_profile.specs.declared.access.Access.TheVariants.{Wo}
use Rattle.co_profile.specs.declared.indices.IndexRange.{IndexRange}
use Rattle.co_profile.specs.Indices.{is_within, rpdo_mapping, tpdo_mapping}
use Rattle.co_profile.specs.TransmissionTypes.{is_supported_type}
use Rattle.co_dict.specs.declared.row.Row.{Row as DictionaryRow}
use Rattle.co_dict.specs.CobIds.{is_from_to}
use Rattle.co_dict.specs.ConsumerHeartbeats.{consumer_node, consumer_refusal, is_consumed_elsewhere, is_consumer}
use Rattle.co_dict.specs.ErrorField.{error_count_refusal, is_past_errors}
use Rattle.co_dict.specs.declared.side.Side.{Side}
use Rattle.co_dict.specs.declared.side.Side.TheVariants.{Rpdo, Tpdo}
use Rattle.co_dict.specs.CobIdRules.{changes_while_valid, cob_id_refusal, sync_cob_id_refusal}
use Rattle.co_dict.specs.FreeIds.{is_good_sync_word, is_good_word}
use Rattle.co_dict.specs.MappingCounts.{counted_words, total_width}
use Rattle.co_dict.specs.PdoRules.{communication_index, inhibit_time_refusal, is_pdo_valid, mapping_count_refusal, mapping_entry_refusal, sync_start_refusal, transmission_type_refusal}
use Rattle.co_dict.specs.MappingWords.{mapped_key, usable_dummy, word_refusal, word_width}
use Rattle.co_dict.specs.Objects.{has_object, missing_entry, subs_present}
use Rattle.co_dict.specs.OwnRules.{counter_overflow_refusal, error_behaviour_refusal, own_refusal, own_rules, rule_refusal}
use Rattle.co_dict.specs.ReadRefusals.{is_write_only}
use Rattle.co_dict.specs.Refusals.{first_of, first_refusal, refused_if}
use Rattle.co_dict.specs.Rows.{Contents, Rows, number_at}
use Rattle.co_dict.specs.Stores.{Description, IsDescription}
use Rattle.co_dict.specs.WriteRefusals.{is_read_only, is_sdo_parameter, limit_refusal, size_refusal, total_refusal, value_refusal}
use Rattle.co_dict.proofs.ObjectLemmas.{entry_in_object}
use Rattle.co_dict_build.specs.Built.{Plan, built_description}
use Rattle.co_dict_build.specs.EntryLimits.{row_in}
use Rattle.co_sdo.specs.Refused.{completion_refusal, initiate_refusal, reading_refusal}
use Rattle.co_sheet.specs.Content.{Row}
use Rattle.co_sheet_changes.specs.Names.{row_at}
use Rattle.conode_compare_values.specs.SheetValues.{denies, is_mandatory, is_readable}
use Rattle.conode_compare_laws.proofs.ValueAllowed.{row_built}

-- ---- codes that don't say so

-- a code as four bytes of an abort have it
abbrev pub as_sent : ℕ → ℕ
as_sent code = unsigned_of (low_bytes 4 code)

abbrev pub is_plain : ℕ → Bool
is_plain code = not (as_sent code == write_only) && (not (as_sent code == object_missing) && not (as_sent code == sub_index_missing))

-- a refusal has such a code
pub record Such (T : ℕ → Bool) (o : Option ℕ) : Type 0 where
  pub holds : IfSome o (λ code. T code ≡ true)

no_code : (T : ℕ → Bool) → Such T None
no_code T = record { holds = tt }

such_code : (T : ℕ → Bool) (code : ℕ) → T code ≡ true → Such T (Some code)
such_code T code h = record { holds = h }

such_if : (T : ℕ → Bool) (b : Bool) (code : ℕ) → T code ≡ true → Such T (refused_if b code)
such_if T true code h = such_code T code h
such_if T false code h = no_code T

such_first : (T : ℕ → Bool) {a b : Option ℕ} → Such T a → Such T b → Such T (first_of a b)
such_first T {a = None} p q = q
such_first T {a = Some code} p q = such_code T code p.holds

weakened : (T : ℕ → Bool) → ((code : ℕ) → is_plain code ≡ true → T code ≡ true) → {o : Option ℕ} → Such is_plain o → Such T o
weakened T weak {o = None} h = no_code T
weakened T weak {o = Some code} h = such_code T code (weak code h.holds)

abbrev pub ArePlain : Option ℕ → Type 0
ArePlain o = Such is_plain o

pub plain_if : (b : Bool) (code : ℕ) → is_plain code ≡ true → ArePlain (refused_if b code)
plain_if b code h = such_if is_plain b code h

pub plain_first : {a b : Option ℕ} → ArePlain a → ArePlain b → ArePlain (first_of a b)
plain_first p q = such_first is_plain p q

pub plain_none : ArePlain None
plain_none = no_code is_plain

plain_denies : (key : Key) (code : ℕ) → is_plain code ≡ true → denies key (as_sent code) ≡ false
plain_denies key code h = by (as_sent code == write_only) (as_sent code == object_missing) (as_sent code == sub_index_missing) (is_mandatory key) h
  where
    by : (a b c z : Bool) → (not a && (not b && not c)) ≡ true → (a || (z && (b || c))) ≡ false
    by true b c z h = absurd (false≢true h)
    by false true c z h = absurd (false≢true h)
    by false false true z h = absurd (false≢true h)
    by false false false true h = refl
    by false false false false h = refl

-- the code of a write-only entry denies each, the others deny those that have to be there
sub_denies : (key : Key) (code : ℕ) → (as_sent code == write_only) ≡ false → is_mandatory key ≡ false → denies key (as_sent code) ≡ false
sub_denies key code other off = by (as_sent code == write_only) (is_mandatory key) ((as_sent code == object_missing) || (as_sent code == sub_index_missing)) other off
  where
    by : (a z missing : Bool) → a ≡ false → z ≡ false → (a || (z && missing)) ≡ false
    by true z missing h g = absurd (false≢true (sym h))
    by false true missing h g = absurd (false≢true (sym g))
    by false false missing h g = refl

-- ---- other codes than that of a write-only entry

abbrev pub is_other : ℕ → Bool
is_other code = not (as_sent code == write_only)

abbrev pub AreOther : Option ℕ → Type 0
AreOther o = Such is_other o

plain_other : (code : ℕ) → is_plain code ≡ true → is_other code ≡ true
plain_other code h = (and_parts (is_other code) (not (as_sent code == object_missing) && not (as_sent code == sub_index_missing)) h).0

-- ---- an entry's own rule

missing_other : (rows : Rows) (key : Key) → AreOther (missing_entry rows key)
missing_other rows key =
    such_first is_other (such_if is_other (not (has_object rows key.index)) object_missing refl) (such_first is_other (such_if is_other (is_none (rows key)) sub_index_missing refl) (no_code is_other))

word_other : (side : Side) (d : Description) (word : ℕ) → AreOther (word_refusal side d word)
word_other side d word = such_first is_other (by (is_some (usable_dummy side d.dummies (mapped_key word).index))) (such_if is_other (is_none (word_width side d word)) not_mappable refl)
  where
    by : (b : Bool) → AreOther (if b then refused_if (not ((mapped_key word).sub == 0)) sub_index_missing else missing_entry d.rows (mapped_key word))
    by true = such_if is_other (not ((mapped_key word).sub == 0)) sub_index_missing refl
    by false = missing_other d.rows (mapped_key word)

-- sub-index 0 is no word of a mapping, which may map an entry that isn't there
not_first : (index sub : ℕ) (range : IndexRange) → (sub == 0) ≡ true → (is_within range index && is_from_to 1 64 sub) ≡ true → ⊥
not_first index sub range zero is = false≢true (sym (from_one sub zero) ∙ (and_parts (is_within range index) (is_from_to 1 64 sub) is).1)
  where
    from_one : (n : ℕ) → (n == 0) ≡ true → is_from_to 1 64 n ≡ false
    from_one n h = subst (λ x. is_from_to 1 64 x ≡ false) (sym (eqb-true n 0 h)) refl

-- nor is the vendor-ID
not_word : (key : Key) (range : IndexRange) → is_within range 0x1018 ≡ false → is_mandatory key ≡ true → (is_within range key.index && is_from_to 1 64 key.sub) ≡ true → ⊥
not_word key range off must is = by (key.sub == 0) refl must
  where
    by : (b : Bool) → (key.sub == 0) ≡ b → (b || ((key.index == 0x1018) && (key.sub == 1))) ≡ true → ⊥
    by true zero h = not_first key.index key.sub range zero is
    by false more h =
        let identity : (key.index == 0x1018) ≡ true = (and_parts (key.index == 0x1018) (key.sub == 1) h).0 in
        let inside : is_within range key.index ≡ true = (and_parts (is_within range key.index) (is_from_to 1 64 key.sub) is).0 in
        false≢true (sym off ∙ subst (λ i. is_within range i ≡ true) (eqb-true key.index 0x1018 identity) inside)

found_such : {A : Type 0} (p : A → Bool) (Q : A → Type 0) (all : List A) → AllByRecursion (λ x. p x ≡ true → Q x) all → IfSome (find p all) Q
found_such p Q [] h = tt
found_such p Q (x ∷ more) h = by (p x) refl (found_such p Q more h.1)
  where
    by : (b : Bool) → p x ≡ b → IfSome (find p more) Q → IfSome (if b then Some x else find p more) Q
    by true is later = h.0 is
    by false is later = later

and_such : {A B : Type 0} (T : ℕ → Bool) (f : A → B) (g : B → Option ℕ) (o : Option A) → IfSome o (λ x. Such T (g (f x))) → Such T (option_and_then g (option_map f o))
and_such T f g None h = no_code T
and_such T f g (Some x) h = h

module _ (d : Description) (c : Contents) (key : Key) (number : ℕ) where
  error_plain : ArePlain (error_count_refusal number)
  error_plain = plain_if (not (number == 0)) invalid_value refl

  sync_plain : ArePlain (sync_cob_id_refusal d.node c number)
  sync_plain = plain_if (not (is_good_sync_word d.node c number)) invalid_value refl

  word_plain : ArePlain (cob_id_refusal d.node c key number)
  word_plain =
      plain_first (plain_if (not (is_good_word d.node c number)) invalid_value refl) (plain_first (plain_if (changes_while_valid (number_at c key) number) not_in_this_state refl) plain_none)

  consumer_plain : ArePlain (consumer_refusal c key.sub number)
  consumer_plain = plain_if (is_consumer number && is_consumed_elsewhere c key.sub (consumer_node number)) parameter_incompatible refl

  overflow_plain : ArePlain (counter_overflow_refusal number)
  overflow_plain = plain_if ((number == 1) || nat_lt 240 number) invalid_value refl

  behaviour_plain : ArePlain (error_behaviour_refusal number)
  behaviour_plain = plain_if (nat_lt 2 number) invalid_value refl

  type_plain : ArePlain (transmission_type_refusal number)
  type_plain = plain_if (not (is_supported_type number)) invalid_value refl

  inhibit_plain : ArePlain (inhibit_time_refusal c key.index)
  inhibit_plain = plain_if (is_pdo_valid c key.index) not_in_this_state refl

  start_plain : ArePlain (sync_start_refusal c key.index number)
  start_plain = plain_first (plain_if (is_pdo_valid c key.index) not_in_this_state refl) (plain_if (nat_lt 240 number) invalid_value refl)

  count_plain : (side : Side) → ArePlain (mapping_count_refusal side d c key.index number)
  count_plain side =
      plain_first (plain_if (is_pdo_valid c (communication_index key.index)) not_in_this_state refl)
      (plain_first (plain_if (nat_lt (subs_present d.rows key.index 64) number) invalid_value refl)
      (plain_first (plain_if (list_any (λ word. is_none (word_width side d word)) (counted_words c key.index number)) not_mappable refl)
      (plain_first (plain_if (nat_lt 8 (total_width side d (counted_words c key.index number))) mapping_too_long refl) plain_none)))

  entry_other : (side : Side) → AreOther (mapping_entry_refusal side d c key.index number)
  entry_other side =
      such_first is_other (such_if is_other (is_pdo_valid c (communication_index key.index) || not (number_at c (record { index = key.index; sub = 0 }) == 0)) not_in_this_state refl) (by (number == 0))
    where
      by : (b : Bool) → AreOther (if b then None else word_refusal side d number)
      by true = no_code is_other
      by false = word_other side d number

  weak : {o : Option ℕ} → ArePlain o → AreOther o
  weak h = weakened is_other plain_other h

  at_mandatory : is_mandatory key ≡ true → IfSome (find (λ r. is_within r.1 key.index && is_from_to r.2 r.3 key.sub) own_rules) (λ r. ArePlain (rule_refusal r.0 d c key number))
  at_mandatory must =
      found_such (λ r. is_within r.1 key.index && is_from_to r.2 r.3 key.sub) (λ r. ArePlain (rule_refusal r.0 d c key number)) own_rules (
        λ h. error_plain,
        (
          λ h. sync_plain,
          (
            λ h. such_code is_plain not_storable refl,
            (
              λ h. word_plain,
              (
                λ h. consumer_plain,
                (
                  λ h. overflow_plain,
                  (
                    λ h. behaviour_plain,
                    (
                      λ h. word_plain,
                      (
                        λ h. type_plain,
                        (
                          λ h. count_plain Rpdo,
                          (
                            λ h. absurd (not_word key rpdo_mapping refl must h),
                            (
                              λ h. word_plain,
                              (
                                λ h. type_plain,
                                (
                                  λ h. inhibit_plain,
                                  (
                                    λ h. start_plain,
                                    (
                                      λ h. count_plain Tpdo,
                                      (
                                        λ h. absurd (not_word key tpdo_mapping refl must h),
                                        tt,
                                      ),
                                    ),
                                  ),
                                ),
                              ),
                            ),
                          ),
                        ),
                      ),
                    ),
                  ),
                ),
              ),
            ),
          ),
        ),
      )

  at_any : IfSome (find (λ r. is_within r.1 key.index && is_from_to r.2 r.3 key.sub) own_rules) (λ r. AreOther (rule_refusal r.0 d c key number))
  at_any =
      found_such (λ r. is_within r.1 key.index && is_from_to r.2 r.3 key.sub) (λ r. AreOther (rule_refusal r.0 d c key number)) own_rules (
        λ h. weak error_plain,
        (
          λ h. weak sync_plain,
          (
            λ h. such_code is_other not_storable refl,
            (
              λ h. weak word_plain,
              (
                λ h. weak consumer_plain,
                (
                  λ h. weak overflow_plain,
                  (
                    λ h. weak behaviour_plain,
                    (
                      λ h. weak word_plain,
                      (
                        λ h. weak type_plain,
                        (
                          λ h. weak (count_plain Rpdo),
                          (
                            λ h. entry_other Rpdo,
                            (
                              λ h. weak word_plain,
                              (
                                λ h. weak type_plain,
                                (
                                  λ h. weak inhibit_plain,
                                  (
                                    λ h. weak start_plain,
                                    (
                                      λ h. weak (count_plain Tpdo),
                                      (
                                        λ h. entry_other Tpdo,
                                        tt,
                                      ),
                                    ),
                                  ),
                                ),
                              ),
                            ),
                          ),
                        ),
                      ),
                    ),
                  ),
                ),
              ),
            ),
          ),
        ),
      )

own_plain : (d : Description) (c : Contents) (key : Key) (bytes : List ℕ) → is_mandatory key ≡ true → ArePlain (own_refusal d c key bytes)
own_plain d c key bytes must = and_such is_plain (λ r. r.0) (λ rule. rule_refusal rule d c key (unsigned_of bytes)) (find (λ r. is_within r.1 key.index && is_from_to r.2 r.3 key.sub) own_rules) (at_mandatory d c key (unsigned_of bytes) must)

own_other : (d : Description) (c : Contents) (key : Key) (bytes : List ℕ) → AreOther (own_refusal d c key bytes)
own_other d c key bytes = and_such is_other (λ r. r.0) (λ rule. rule_refusal rule d c key (unsigned_of bytes)) (find (λ r. is_within r.1 key.index && is_from_to r.2 r.3 key.sub) own_rules) (at_any d c key (unsigned_of bytes))

-- ---- by a row

size_plain : (row : DictionaryRow) (size : ℕ) → ArePlain (size_refusal row size)
size_plain row size = plain_first (plain_if (nat_lt row.capacity size) too_long refl) (plain_first (plain_if (nat_lt size (unwrap_or (width_of row.data_type) 0)) too_short refl) plain_none)

and_plain : {A : Type 0} (f : A → Option ℕ) (o : Option A) → ((x : A) → ArePlain (f x)) → ArePlain (option_and_then f o)
and_plain f None h = plain_none
and_plain f (Some x) h = h x

total_plain : (indicated total : ℕ) → ArePlain (total_refusal indicated total)
total_plain indicated total = plain_first (plain_if (nat_lt indicated total) too_long refl) (plain_first (plain_if (nat_lt total indicated) too_short refl) plain_none)

limit_plain : (row : DictionaryRow) (bytes : List ℕ) → ArePlain (limit_refusal row bytes)
limit_plain row bytes = by (is_some (width_of row.data_type))
  where
    by : (b : Bool) → ArePlain (if b then first_refusal (refused_if (int_lt row.high (number_of row.data_type bytes)) above_high_limit ∷ refused_if (int_lt (number_of row.data_type bytes) row.low) below_low_limit ∷ []) else None)
    by true =
        plain_first (plain_if (int_lt row.high (number_of row.data_type bytes)) above_high_limit refl) (plain_first (plain_if (int_lt (number_of row.data_type bytes) row.low) below_low_limit refl) plain_none)
    by false = plain_none

-- what refuses a write by a row, where the entry's own rule gives such codes
writing_such : (T : ℕ → Bool) → ((code : ℕ) → is_plain code ≡ true → T code ≡ true) → (d : Description) (c : Contents) (key : Key) (indicated : Option ℕ) (bytes : List ℕ) (row : DictionaryRow) → Such T (own_refusal d c key bytes)
    → Such T (first_refusal (
    refused_if (is_read_only row.access || is_sdo_parameter key.index) read_only
    ∷ option_and_then (size_refusal row) indicated
    ∷ option_and_then (λ size. total_refusal size (length bytes)) indicated
    ∷ value_refusal d c key row bytes
    ∷ []))
writing_such T weak d c key indicated bytes row own =
    such_first T (weakened T weak (plain_if (is_read_only row.access || is_sdo_parameter key.index) read_only refl))
    (such_first T (weakened T weak (and_plain (size_refusal row) indicated (size_plain row)))
    (such_first T (weakened T weak (and_plain (λ size. total_refusal size (length bytes)) indicated (λ size. total_plain size (length bytes))))
    (such_first T
    (such_first T (weakened T weak (size_plain row (length bytes))) (such_first T (weakened T weak (limit_plain row bytes)) (such_first T own (no_code T))))
    (no_code T))))

key_found : (rows : List Row) (key : Key) (row : Row) → row_at rows key ≡ Some row → row.key ≡ key
key_found [] key row h = absurd (cc)
key_found (r ∷ rows) key row h = by (same_key r.key key) refl h (key_found rows key row)
  where
    by : (b : Bool) → same_key r.key key ≡ b → (if b then Some r else row_at rows key) ≡ Some row → (row_at rows key ≡ Some row → row.key ≡ key) → row.key ≡ key
    by true is g later = let same : r ≡ row = cc in subst (λ (x : Row). x.key ≡ key) same (same_key-is r.key key is)
    by false is g later = later g

-- ---- what is refused

-- a refusal at a key with this code isn't one of an entry that the sheet has as readable
abbrev pub IsMild : List Row → Key → ℕ → Type 0
IsMild rows key code = IfSome (row_at rows key) (λ row. (denies row.key code && is_readable row.access) ≡ false)

pub record Mild (rows : List Row) (key : Key) (code : ℕ) : Type 0 where
  pub holds : IsMild rows key (as_sent code)

pub record MildAt (rows : List Row) (key : Key) (o : Option ℕ) : Type 0 where
  pub all : IfSome o (Mild rows key)

pub mild_none : (rows : List Row) (key : Key) → MildAt rows key None
mild_none rows key = record { all = tt }

mild_some : (rows : List Row) (key : Key) (code : ℕ) → Mild rows key code → MildAt rows key (Some code)
mild_some rows key code h = record { all = h }

pub plain_mild : (rows : List Row) (key : Key) (code : ℕ) → is_plain code ≡ true → Mild rows key code
plain_mild rows key code h = record { holds = by (row_at rows key) }
  where
    by : (o : Option Row) → IfSome o (λ row. (denies row.key (as_sent code) && is_readable row.access) ≡ false)
    by None = tt
    by (Some row) = ap (λ b. b && is_readable row.access) (plain_denies row.key code h)

pub are_mild : (rows : List Row) (key : Key) (o : Option ℕ) → ArePlain o → MildAt rows key o
are_mild rows key None h = mild_none rows key
are_mild rows key (Some code) h = mild_some rows key code (plain_mild rows key code h.holds)

pub first_mild : (rows : List Row) (key : Key) (a b : Option ℕ) → MildAt rows key a → MildAt rows key b → MildAt rows key (first_of a b)
first_mild rows key None b p q = q
first_mild rows key (Some code) b p q = mild_some rows key code p.all

module _ (plan : Plan) where
  abbrev d : Description
  d = built_description plan

  abbrev MildIn : Key → Option ℕ → Type 0
  MildIn key o = MildAt plan.rows key o

  -- where the dictionary hasn't the entry, the sheet hasn't
  absent_mild : (key : Key) (code : ℕ) → d.rows key ≡ None → Mild plan.rows key code
  absent_mild key code none = record { holds = by (row_at plan.rows key) refl }
    where
      by : (o : Option Row) → row_at plan.rows key ≡ o → IfSome o (λ row. (denies row.key (as_sent code) && is_readable row.access) ≡ false)
      by None is = tt
      by (Some row) is = absurd (let e : None ≡ Some (row_in plan.limits row) = sym none ∙ row_built plan.node plan.limits plan.rows key row is in cc)

  module _ (lawful : IsDescription d) where
    missing_mild : (key : Key) → MildIn key (missing_entry d.rows key)
    missing_mild key = by (has_object d.rows key.index) (d.rows key) refl refl
      where
        by : (found : Bool) (o : Option DictionaryRow) → has_object d.rows key.index ≡ found → d.rows key ≡ o → MildIn key (first_of (refused_if (not found) object_missing) (first_of (refused_if (is_none o) sub_index_missing) None))
        by false None f is = mild_some plan.rows key object_missing (absent_mild key object_missing is)
        by true None f is = mild_some plan.rows key sub_index_missing (absent_mild key sub_index_missing is)
        by true (Some row) f is = mild_none plan.rows key
        by false (Some row) f is = absurd (false≢true (sym f ∙ entry_in_object d.rows key row (lawful.key key row is).sub is))

    -- with what comes of a row
    entry_mild : (key : Key) (refusals : DictionaryRow → Option ℕ) → ((row : DictionaryRow) → d.rows key ≡ Some row → MildIn key (refusals row)) → MildIn key (first_of (missing_entry d.rows key) (option_and_then refusals (d.rows key)))
    entry_mild key refusals h = first_mild plan.rows key (missing_entry d.rows key) _ (missing_mild key) (by (d.rows key) refl)
      where
        by : (o : Option DictionaryRow) → d.rows key ≡ o → MildIn key (option_and_then refusals o)
        by None is = mild_none plan.rows key
        by (Some row) is = h row is

    -- ---- an upload

    write_only_mild : (key : Key) (row : DictionaryRow) → d.rows key ≡ Some row → is_write_only row.access ≡ true → Mild plan.rows key write_only
    write_only_mild key row is on = record { holds = by (row_at plan.rows key) refl }
      where
        unreadable : (access : Access) → is_write_only access ≡ true → is_readable access ≡ false
        unreadable Wo h = refl
        unreadable _ h = absurd (false≢true h)

        off : (b : Bool) → (b && false) ≡ false
        off true = refl
        off false = refl

        by : (o : Option Row) → row_at plan.rows key ≡ o → IfSome o (λ r. (denies r.key (as_sent write_only) && is_readable r.access) ≡ false)
        by None at = tt
        by (Some r) at =
            let same : Some (row_in plan.limits r) ≡ Some row = sym (row_built plan.node plan.limits plan.rows key r at) ∙ is in
            let access : r.access ≡ row.access = ap (λ (o : Option DictionaryRow). option_map_or (λ (x : DictionaryRow). x.access) o row.access) same in
            ap (λ b. denies r.key (as_sent write_only) && b) (unreadable r.access (ap is_write_only access ∙ on)) ∙ off (denies r.key (as_sent write_only))

    pub reading_mild : (c : Contents) (key : Key) → MildIn key (reading_refusal d c key)
    unfolding reading_refusal
    reading_mild c key =
        entry_mild key _
        (λ row is. first_mild plan.rows key (refused_if (is_write_only row.access) write_only) _ (by row is (is_write_only row.access) refl)
        (first_mild plan.rows key (refused_if (is_past_errors c key) no_value) None (are_mild plan.rows key (refused_if (is_past_errors c key) no_value) (plain_if (is_past_errors c key) no_value refl)) (mild_none plan.rows key)))
      where
        by : (row : DictionaryRow) → d.rows key ≡ Some row → (b : Bool) → is_write_only row.access ≡ b → MildIn key (refused_if b write_only)
        by row is true on = mild_some plan.rows key write_only (write_only_mild key row is on)
        by row is false on = mild_none plan.rows key

    -- ---- a download

    pub initiating_mild : (key : Key) (indicated : Option ℕ) → MildIn key (initiate_refusal d key indicated)
    unfolding initiate_refusal
    initiating_mild key indicated =
        entry_mild key _ (λ row is. are_mild plan.rows key _ (plain_first (plain_if (is_read_only row.access || is_sdo_parameter key.index) read_only refl) (plain_first (and_plain (size_refusal row) indicated (size_plain row)) plain_none)))

    -- of one that may be missing only a write-only entry is denied
    sub_mild : (key : Key) (code : ℕ) → is_mandatory key ≡ false → is_other code ≡ true → Mild plan.rows key code
    sub_mild key code off other = record { holds = by (row_at plan.rows key) refl }
      where
        at : (b : Bool) → not b ≡ true → b ≡ false
        at true h = absurd (false≢true h)
        at false h = refl

        not_that : (as_sent code == write_only) ≡ false
        not_that = at (as_sent code == write_only) other

        by : (o : Option Row) → row_at plan.rows key ≡ o → IfSome o (λ row. (denies row.key (as_sent code) && is_readable row.access) ≡ false)
        by None is = tt
        by (Some row) is = ap (λ b. b && is_readable row.access) (sub_denies row.key code not_that (ap is_mandatory (key_found plan.rows key row is) ∙ off))

    subs_mild : (key : Key) (o : Option ℕ) → is_mandatory key ≡ false → AreOther o → MildIn key o
    subs_mild key None off h = mild_none plan.rows key
    subs_mild key (Some code) off h = mild_some plan.rows key code (sub_mild key code off h.holds)

    pub completing_mild : (c : Contents) (key : Key) (indicated : Option ℕ) (bytes : List ℕ) → MildIn key (completion_refusal d c key indicated bytes)
    unfolding completion_refusal
    completing_mild c key indicated bytes = entry_mild key _ (λ row is. by row (is_mandatory key) refl)
      where
        by : (row : DictionaryRow) (b : Bool) → is_mandatory key ≡ b
            → MildIn key (first_refusal (refused_if (is_read_only row.access || is_sdo_parameter key.index) read_only ∷ option_and_then (size_refusal row) indicated ∷ option_and_then (λ size. total_refusal size (length bytes)) indicated ∷ value_refusal d c key row bytes ∷ []))
        by row true must = are_mild plan.rows key _ (writing_such is_plain (λ code h. h) d c key indicated bytes row (own_plain d c key bytes must))
        by row false off = subs_mild key _ off (writing_such is_other plain_other d c key indicated bytes row (own_other d c key bytes))

-- ---- all of them

pub record Milds (rows : List Row) (d : Description) : Type 0 where
  pub reading : (c : Contents) (key : Key) → MildAt rows key (reading_refusal d c key)
  pub initiating : (key : Key) (indicated : Option ℕ) → MildAt rows key (initiate_refusal d key indicated)
  pub completing : (c : Contents) (key : Key) (indicated : Option ℕ) (bytes : List ℕ) → MildAt rows key (completion_refusal d c key indicated bytes)

pub built_milds : (plan : Plan) → IsDescription (built_description plan) → Milds plan.rows (built_description plan)
built_milds plan lawful = record { reading = reading_mild plan lawful; initiating = initiating_mild plan lawful; completing = completing_mild plan lawful }
