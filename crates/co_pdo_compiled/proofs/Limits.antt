-- Where no entry has limits, no data are outside them.
use Rattle.std.proofs.Common.{◌≡◌, ◌≤◌, ◌+◌, ◌≤ℤ◌, ℕ, zero, suc, Bool, true, false, cond, pos, List, [], ◌∷◌, length, take, get_or, Option, Some, None, Fits, w8, true≢false, refl, sym, ap, ◌∙◌, subst, arith}
use Rattle.std.specs.Prelude.{ℤ, drop, ◌||◌, int_lt, is_some, option_map, IsSomeAnd}
use Rattle.std.specs.List.{list_any}
use Rattle.std.specs.Option.{option_map_or}
use Rattle.std.proofs.lemmas.Int.{ints}
use Rattle.std.proofs.lemmas.List.{length-take-le, length-drop}
use Rattle.std.proofs.lemmas.List.Sums.{sum_by-cons}
use Rattle.co_value.specs.Types.{width_of, is_signed, is_boolean, least_at, greatest_at}
use Rattle.co_value.specs.Numbers.{AreBytes, number_of}
use Rattle.co_value.proofs.Bytes.{bytes_by_index, number_of-FitsWidth}
use Rattle.co_frame_aborts.specs.AbortCodes.{above_high_limit, below_low_limit}
use Rattle.co_dict.specs.declared.row.Row.{Row}
use Rattle.co_dict.specs.Stores.{Description}
use Rattle.co_dict.specs.Refusals.{refused_if, first_refusal}
use Rattle.co_dict.specs.WriteRefusals.{limit_refusal}
use Rattle.co_pdo.specs.Mappings.{width_in, total_of}
use Rattle.co_pdo.specs.Images.{is_outside, any_outside}
use Rattle.co_pdo_compiled.specs.declared.part.Part.{Part}
use Rattle.co_pdo_compiled.specs.declared.part.Part.TheVariants.{Placed, PassedOver}
use Rattle.co_pdo_compiled.specs.CompiledMappings.{mapped_in, mapping_in, has_limits, is_limited, HasPart, HasParts}

-- ---- bytes

bytes-take : (n : ℕ) (bytes : List ℕ) → AreBytes bytes → AreBytes (take n bytes)
bytes-take zero bytes h = tt
bytes-take (suc n) [] h = tt
bytes-take (suc n) (byte ∷ bytes) h = (h.0, bytes-take n bytes h.1)

bytes-drop : (n : ℕ) (bytes : List ℕ) → AreBytes bytes → AreBytes (drop n bytes)
bytes-drop zero bytes h = h
bytes-drop (suc n) [] h = tt
bytes-drop (suc n) (byte ∷ bytes) h = bytes-drop n bytes h.1

-- the items of a slice of bytes are bytes
pub are_bytes : (bytes : List ℕ) → ((i : ℕ) → Fits w8 (get_or bytes i 0)) → AreBytes bytes
are_bytes bytes fit = bytes_by_index bytes (λ k less. omega (arith, fit k))

-- ---- one entry

either_false : (p q : Bool) → (p || q) ≡ false → (p ≡ false) × (q ≡ false)
either_false p q h = (grind arith, grind arith)

not_less : (x y : ℤ) → y ≤ℤ x → int_lt x y ≡ false
not_less x y le = by (int_lt x y) refl
  where
    by : (t : Bool) → int_lt x y ≡ t → t ≡ false
    by true e = absurd (omega (arith, ints))
    by false e = refl

-- a number of the type is within limits that are not narrower
within : (least greatest n low high : ℤ) → int_lt least low ≡ false → int_lt high greatest ≡ false → least ≤ℤ n → n ≤ℤ greatest → first_refusal (refused_if (int_lt high n) above_high_limit ∷ refused_if (int_lt n low) below_low_limit ∷ []) ≡ None
within least greatest n low high l g above below =
    let p : int_lt high n ≡ false = not_less high n (omega (arith, ints)) in
    let q : int_lt n low ≡ false = not_less n low (omega (arith, ints)) in
    rw (p, q) refl

by_width : (boolean signed : Bool) (width : Option ℕ) (n low high : ℤ)
    → (boolean || (option_map_or (λ least. int_lt least low) (option_map (least_at signed) width) false
    || option_map_or (λ greatest. int_lt high greatest) (cond boolean (Some (pos 1)) (option_map (greatest_at signed) width)) false)) ≡ false
    → IsSomeAnd width (λ w. (least_at signed w ≤ℤ n) × (n ≤ℤ greatest_at signed w))
    → cond (is_some width) (first_refusal (refused_if (int_lt high n) above_high_limit ∷ refused_if (int_lt n low) below_low_limit ∷ [])) None ≡ None
by_width true signed width n low high h fit = absurd (true≢false h)
by_width false signed None n low high h fit = absurd fit
by_width false signed (Some w) n low high h fit =
    let two = either_false (int_lt (least_at signed w) low) (int_lt high (greatest_at signed w)) h in
    within (least_at signed w) (greatest_at signed w) n low high two.0 two.1 fit.0 fit.1

-- bytes as many as the type is wide are within the limits of an entry that has none
within_limits : (row : Row) (bytes : List ℕ) → has_limits row ≡ false → AreBytes bytes → width_of row.data_type ≡ Some (length bytes) → limit_refusal row bytes ≡ None
within_limits row bytes free are width =
    by_width (is_boolean row.data_type) (is_signed row.data_type) (width_of row.data_type) (number_of row.data_type bytes) row.low row.high free
    (number_of-FitsWidth row.data_type bytes are width)

-- ---- all parts

module _ (d : Description) where
  one_within : (part : Part) (bytes : List ℕ) → HasPart d part → is_limited part ≡ false → AreBytes bytes → length bytes ≡ width_in (mapped_in part) → is_outside d.rows (mapped_in part) bytes ≡ false
  one_within (Placed entry) bytes has free are same =
      ap (λ o. option_map_or (λ row. is_some (limit_refusal row bytes)) o false) has.row
      ∙ ap is_some (within_limits entry.row bytes free are (has.width ∙ ap Some (sym same)))
  one_within (PassedOver width) bytes has free are same = refl

  pub none_outside : (parts : List Part) (bytes : List ℕ) → HasParts d parts → list_any is_limited parts ≡ false → AreBytes bytes → total_of (mapping_in parts) ≤ length bytes → any_outside d.rows (mapping_in parts) bytes ≡ false
  none_outside [] bytes has free are enough = refl
  none_outside (part ∷ parts) bytes has free are enough =
      let two = either_false (is_limited part) (list_any is_limited parts) free in
      let w = width_in (mapped_in part) in
      let total : w + total_of (mapping_in parts) ≤ length bytes = subst (λ n. n ≤ length bytes) (sum_by-cons width_in (mapped_in part) (mapping_in parts)) enough in
      let taken : length (take w bytes) ≡ w = length-take-le w bytes (omega arith) in
      let dropped = length-drop w bytes in
      ap (λ b. b || any_outside d.rows (mapping_in parts) (drop w bytes)) (one_within part (take w bytes) (has 0 part (omega arith)) two.0 (bytes-take w bytes are) taken)
      ∙ none_outside parts (drop w bytes) (λ i other less. has (suc i) other (omega arith)) two.1 (bytes-drop w bytes are) (omega arith)
