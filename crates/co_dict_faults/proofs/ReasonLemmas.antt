-- A word of a mapping has a reason exactly where it is refused.
use Rattle.std.proofs.Common.{◌≡◌, ℕ, ◌*◌, ◌==◌, ◌<◌, Bool, true, false, cond, Option, Some, None, refl, sym, ap, ◌∙◌, arith}
use Rattle.std.proofs.lemmas.Bool.Decides.{nat_tests}
use Rattle.std.specs.Prelude.{is_some, is_none, not, option_and_then, if◌then◌else◌}
use Rattle.std.specs.Option.{option_map_or}
use Rattle.co_value.specs.declared.key.Key.{Key}
use Rattle.co_value.specs.declared.data_type.DataType.{DataType}
use Rattle.co_value.specs.declared.data_type.DataType.TheVariants.{Boolean}
use Rattle.co_value.specs.Types.{width_of}
use Rattle.co_frame_aborts.specs.AbortCodes.{not_mappable, sub_index_missing}
use Rattle.co_dict.specs.declared.row.Row.{Row}
use Rattle.co_dict.specs.declared.side.Side.{Side}
use Rattle.co_dict.specs.declared.side.Side.TheVariants.{Rpdo, Tpdo}
use Rattle.co_dict.specs.Rows.{Rows}
use Rattle.co_dict.specs.Stores.{Description}
use Rattle.co_dict.specs.Refusals.{refused_if, first_of}
use Rattle.co_dict.specs.Objects.{missing_entry}
use Rattle.co_dict.specs.MappingWords.{mapped_key, mapped_bits, dummy_width, usable_dummy, may_be_mapped, entry_width, mapping_width, word_width, missing_mapped, word_refusal}
use Rattle.co_dict.proofs.ObjectLemmas.{nothing_missing}
use Rattle.co_dict_faults.specs.declared.mapping_fault.MappingReason.{MappingReason}
use Rattle.co_dict_faults.specs.declared.mapping_fault.MappingReason.TheVariants.{Zero, OneBit, WrongLength}
use Rattle.co_dict_faults.specs.MappingReasons.{length_reason, unmapped_reason, word_reason}

-- ---- a word that isn't 0

length_by_tests : (same one : Bool) (width : ℕ) → is_some (cond same None (cond one (Some OneBit) (Some WrongLength))) ≡ is_none (cond same (Some width) None)
length_by_tests true one width = refl
length_by_tests false true width = refl
length_by_tests false false width = refl

reason_by_width : (o : Option ℕ) (bits : ℕ) (reason : MappingReason)
    → is_some (option_map_or (λ width. length_reason width bits) o (Some reason)) ≡ is_none (option_and_then (λ width. if bits == 8 * width then Some width else None) o)
reason_by_width None bits reason = refl
reason_by_width (Some width) bits reason = length_by_tests (bits == 8 * width) _ width

-- ---- 0 maps nothing

no_dummy : (side : Side) (dummies : ℕ → Bool) → usable_dummy side dummies 0 ≡ None
no_dummy Rpdo dummies = by_test (dummies 0)
  where
    by_test : (b : Bool) → cond b (dummy_width 0) None ≡ None
    by_test true = refl
    by_test false = refl
no_dummy Tpdo dummies = refl

abbrev of_zero : Option ℕ → Option ℕ
of_zero o = option_and_then (λ width. if 0 == 8 * width then Some width else None) o

zero_width : (t : DataType) → of_zero (width_of t) ≡ None
zero_width Boolean = refl
zero_width other = refl

zero_entry : (side : Side) (key : Key) (o : Option Row) → of_zero (option_and_then (λ (row : Row). if may_be_mapped side key.index row then width_of row.data_type else None) o) ≡ None
zero_entry side key None = refl
zero_entry side key (Some row) = by_test (may_be_mapped side key.index row)
  where
    by_test : (b : Bool) → of_zero (cond b (width_of row.data_type) None) ≡ None
    by_test true = zero_width row.data_type
    by_test false = refl

zero_maps_nothing : (side : Side) (d : Description) → word_width side d 0 ≡ None
zero_maps_nothing side d =
    let key : Key = record { index = 0; sub = 0 } in
    ap (λ dummy. of_zero (cond (is_some dummy) dummy (entry_width side d.rows key))) (no_dummy side d.dummies)
    ∙ zero_entry side key (d.rows key)

-- a word has a reason exactly where it maps nothing
pub reason_of_word : (side : Side) (d : Description) (word : ℕ) → is_some (word_reason side d word) ≡ is_none (word_width side d word)
reason_of_word side d word = by_test (word == 0) refl
  where
    rest : Option MappingReason
    rest = option_map_or (λ width. length_reason width (mapped_bits word)) (mapping_width side d (mapped_key word)) (Some (unmapped_reason side d (mapped_key word)))

    by_test : (b : Bool) → (word == 0) ≡ b → is_some (cond b (Some Zero) rest) ≡ is_none (word_width side d word)
    by_test true e =
        let zero : word ≡ 0 = grind (arith, nat_tests) in
        sym (ap (λ w. is_none (word_width side d w)) zero ∙ ap is_none (zero_maps_nothing side d))
    by_test false e = reason_by_width (mapping_width side d (mapped_key word)) (mapped_bits word) (unmapped_reason side d (mapped_key word))

-- ---- refusals

dummy_present : (zero : Bool) (dummy : Option ℕ) (width : ℕ) → cond zero dummy None ≡ Some width → refused_if (not zero) sub_index_missing ≡ None
dummy_present true dummy width h = refl
dummy_present false dummy width h = absurd (cc)

entry_present : (side : Side) (rows : Rows) (key : Key) (width : ℕ) → key.sub < 256 → (o : Option Row) → rows key ≡ o
    → option_and_then (λ (row : Row). if may_be_mapped side key.index row then width_of row.data_type else None) o ≡ Some width → missing_entry rows key ≡ None
entry_present side rows key width small None is h = absurd (cc)
entry_present side rows key width small (Some row) is h = sym (nothing_missing rows key row small is)

-- what is mapped is there
present : (side : Side) (d : Description) (key : Key) (width : ℕ) → key.sub < 256 → mapping_width side d key ≡ Some width → missing_mapped side d key ≡ None
present side d key width small h = by_test (is_some (usable_dummy side d.dummies key.index)) h
  where
    by_test : (b : Bool) → cond b (cond (key.sub == 0) (usable_dummy side d.dummies key.index) None) (entry_width side d.rows key) ≡ Some width
        → cond b (refused_if (not (key.sub == 0)) sub_index_missing) (missing_entry d.rows key) ≡ None
    by_test true h = dummy_present (key.sub == 0) (usable_dummy side d.dummies key.index) width h
    by_test false h = entry_present side d.rows key width small (d.rows key) refl h

then_some : (bits : ℕ) (o : Option ℕ) (width : ℕ) → option_and_then (λ w. if bits == 8 * w then Some w else None) o ≡ Some width → (w : ℕ) × (o ≡ Some w)
then_some bits None width h = absurd (cc)
then_some bits (Some w) width h = (w, refl)

refused_either : (o : Option ℕ) → is_some (first_of o (Some not_mappable)) ≡ true
refused_either None = refl
refused_either (Some code) = refl

refusal_by_width : (side : Side) (d : Description) (word : ℕ) (o : Option ℕ) → word_width side d word ≡ o
    → is_some (first_of (missing_mapped side d (mapped_key word)) (refused_if (is_none o) not_mappable)) ≡ is_none o
refusal_by_width side d word None is = refused_either (missing_mapped side d (mapped_key word))
refusal_by_width side d word (Some width) is =
    let mapped = then_some (mapped_bits word) (mapping_width side d (mapped_key word)) width is in
    let small : (mapped_key word).sub < 256 = omega arith in
    ap (λ missing. is_some (first_of missing None)) (present side d (mapped_key word) mapped.0 small mapped.1)

pub refusal_of_word : (side : Side) (d : Description) (word : ℕ) → is_some (word_refusal side d word) ≡ is_none (word_width side d word)
refusal_of_word side d word = refusal_by_width side d word (word_width side d word) refl
