-- What a device that is built from a data sheet permits to be written: an entry that can be written by the sheet, and a number within its limits.
use Rattle.std.proofs.Common.{◌≡◌, ℕ, Bool, true, false, List, [], ◌∷◌, map, length, Option, Some, None, refl, sym, ap, ◌∙◌, subst}
use Rattle.std.specs.Prelude.{◌||◌, if◌then◌else◌, int_lt, is_some, option_and_then, ℤ}
use Rattle.std.proofs.lemmas.Bool.{false≢true, or_parts}
use Rattle.co_value.specs.declared.data_type.DataType.{DataType}
use Rattle.co_value.specs.declared.data_type.DataType.TheVariants.{Domain, OctetString, VisibleString}
use Rattle.co_value.specs.declared.key.Key.{Key}
use Rattle.co_value.specs.Keys.{same_key}
use Rattle.co_value.specs.Numbers.{number_of}
use Rattle.co_value.specs.Types.{greatest_of, least_of, width_of}
use Rattle.co_frame_aborts.specs.AbortCodes.{above_high_limit, below_low_limit, read_only}
use Rattle.co_profile.specs.declared.access.Access.{Access}
use Rattle.co_profile.specs.declared.access.Access.TheVariants.{Constant, Ro}
use Rattle.co_dict.specs.declared.row.Row.{Row as DictionaryRow}
use Rattle.co_dict.specs.Objects.{missing_entry}
use Rattle.co_dict.specs.Refusals.{first_refusal, refused_if}
use Rattle.co_dict.specs.Rows.{Contents}
use Rattle.co_dict.specs.Stores.{Description}
use Rattle.co_dict.specs.WriteRefusals.{is_read_only, is_sdo_parameter, limit_refusal, size_refusal, total_refusal, value_refusal}
use Rattle.co_dict_build.specs.Built.{entry_of}
use Rattle.co_dict_build.specs.Capacities.{Limits}
use Rattle.co_dict_build.specs.EntryLimits.{row_in}
use Rattle.co_dict_build.specs.ListedEntries.{rows_in}
use Rattle.co_sdo.specs.Refused.{completion_refusal}
use Rattle.co_sdo.proofs.RefusalLemmas.{first_none, not_refused, second_none}
use Rattle.co_sheet.specs.Content.{Row}
use Rattle.co_sheet.specs.SheetLaws.{high_of, limit_or, low_of}
use Rattle.co_sheet_changes.specs.Names.{row_at}
use Rattle.conode_compare_values.specs.SheetValues as sheet
use Rattle.conode_compare_laws.proofs.SheetNumbers.{same_back}

-- ---- the row of an entry

-- an entry of the sheet is in the dictionary
pub row_built : (node : ℕ) (limits : Limits) (rows : List Row) (key : Key) (row : Row) → row_at rows key ≡ Some row → rows_in (map (entry_of node limits) rows) key ≡ Some (row_in limits row)
row_built node limits [] key row h = absurd (cc)
row_built node limits (r ∷ rows) key row h = by (same_key r.key key) refl h (row_built node limits rows key row)
  where
    by : (b : Bool) → same_key r.key key ≡ b → (if b then Some r else row_at rows key) ≡ Some row
        → (row_at rows key ≡ Some row → rows_in (map (entry_of node limits) rows) key ≡ Some (row_in limits row))
        → rows_in (map (entry_of node limits) (r ∷ rows)) key ≡ Some (row_in limits row)
    by true is g later = rw (same_back r.key key true is) (let same : r ≡ row = cc in ap (λ x. Some (row_in limits x)) same)
    by false is g later = rw (same_back r.key key false is) (later g)

-- ---- what isn't refused

pub record Accepted (row : DictionaryRow) (bytes : List ℕ) : Type 0 where
  pub writable : is_read_only row.access ≡ false
  pub size : size_refusal row (length bytes) ≡ None
  pub limit : limit_refusal row bytes ≡ None

pub accepted : (d : Description) (c : Contents) (key : Key) (indicated : Option ℕ) (bytes : List ℕ) (row : DictionaryRow) → completion_refusal d c key indicated bytes ≡ None → d.rows key ≡ Some row → Accepted row bytes
unfolding completion_refusal
accepted d c key indicated bytes row h is = by (d.rows key) is (second_none (missing_entry d.rows key) _ h)
  where
    all : DictionaryRow → Option ℕ
    all r = first_refusal (
        refused_if (is_read_only r.access || is_sdo_parameter key.index) read_only
        ∷ option_and_then (size_refusal r) indicated
        ∷ option_and_then (λ size. total_refusal size (length bytes)) indicated
        ∷ value_refusal d c key r bytes
        ∷ [])

    one : (r : DictionaryRow) → all r ≡ None → Accepted r bytes
    one r g =
        let first : refused_if (is_read_only r.access || is_sdo_parameter key.index) read_only ≡ None = first_none (refused_if (is_read_only r.access || is_sdo_parameter key.index) read_only) _ g in
        let sizes = second_none (refused_if (is_read_only r.access || is_sdo_parameter key.index) read_only) _ g in
        let totals = second_none (option_and_then (size_refusal r) indicated) _ sizes in
        let values = second_none (option_and_then (λ size. total_refusal size (length bytes)) indicated) _ totals in
        let value : value_refusal d c key r bytes ≡ None = first_none (value_refusal d c key r bytes) _ values in
        record {
          writable = (or_parts (is_read_only r.access) (is_sdo_parameter key.index) (not_refused (is_read_only r.access || is_sdo_parameter key.index) read_only first)).0;
          size = first_none (size_refusal r (length bytes)) _ value;
          limit = first_none (limit_refusal r bytes) _ (second_none (size_refusal r (length bytes)) _ value);
        }

    by : (o : Option DictionaryRow) → o ≡ Some row → option_and_then all o ≡ None → Accepted row bytes
    by None is g = absurd (cc)
    by (Some r) is g = let same : r ≡ row = cc in subst (λ (x : DictionaryRow). Accepted x bytes) same (one r g)

-- the sheet says so too
pub can_write : (access : Access) → is_read_only access ≡ false → sheet.is_read_only access ≡ false
can_write Ro h = absurd (false≢true (sym h))
can_write Constant h = absurd (false≢true (sym h))
can_write _ h = refl

-- ---- limits

-- a type with a width has ends
has_greatest : (t : DataType) → is_some (width_of t) ≡ true → is_some (greatest_of t) ≡ true
has_greatest VisibleString h = absurd (false≢true h)
has_greatest OctetString h = absurd (false≢true h)
has_greatest Domain h = absurd (false≢true h)
has_greatest _ h = refl

has_least : (t : DataType) → is_some (width_of t) ≡ true → is_some (least_of t) ≡ true
has_least VisibleString h = absurd (false≢true h)
has_least OctetString h = absurd (false≢true h)
has_least Domain h = absurd (false≢true h)
has_least _ h = refl

stated : (limit : ℤ) (end : Option ℤ) → is_some end ≡ true → limit_or (Some limit) end ≡ limit
stated limit None h = absurd (false≢true h)
stated limit (Some n) h = refl

not_above : (limit end : Option ℤ) (value : ℤ) → is_some end ≡ true → int_lt (limit_or limit end) value ≡ false → sheet.is_above limit value ≡ false
not_above None end value h off = refl
not_above (Some high) end value h off = subst (λ x. int_lt x value ≡ false) (stated high end h) off

not_below : (limit end : Option ℤ) (value : ℤ) → is_some end ≡ true → int_lt value (limit_or limit end) ≡ false → sheet.is_below limit value ≡ false
not_below None end value h off = refl
not_below (Some low) end value h off = subst (λ x. int_lt value x ≡ false) (stated low end h) off

pub record IsInside (row : Row) (value : ℤ) : Type 0 where
  pub above : sheet.is_above row.high value ≡ false
  pub below : sheet.is_below row.low value ≡ false

pub inside : (limits : Limits) (row : Row) (bytes : List ℕ) → is_some (width_of row.data_type) ≡ true → limit_refusal (row_in limits row) bytes ≡ None → IsInside row (number_of row.data_type bytes)
inside limits row bytes wide h = record {
  above = not_above row.high (greatest_of row.data_type) value (has_greatest row.data_type wide) (not_refused (int_lt (high_of row) value) above_high_limit (first_none (refused_if (int_lt (high_of row) value) above_high_limit) _ both));
  below = not_below row.low (least_of row.data_type) value (has_least row.data_type wide)
      (not_refused (int_lt value (low_of row)) below_low_limit (first_none (refused_if (int_lt value (low_of row)) below_low_limit) _ (second_none (refused_if (int_lt (high_of row) value) above_high_limit) _ both)));
}
  where
    value : ℤ
    value = number_of row.data_type bytes

    both : first_refusal (refused_if (int_lt (high_of row) value) above_high_limit ∷ refused_if (int_lt value (low_of row)) below_low_limit ∷ []) ≡ None
    both = sym (ap (λ b. if b then first_refusal (refused_if (int_lt (high_of row) value) above_high_limit ∷ refused_if (int_lt value (low_of row)) below_low_limit ∷ []) else None) wide) ∙ h
