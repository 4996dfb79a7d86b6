-- Limits and first numbers of the rows of a sheet are numbers of their types.
use Rattle.std.proofs.Common.{◌≡◌, Bool, true, false, cond, pos, ◌≤ℤ◌, Option, Some, refl, sym, ap, ◌∙◌, subst, arith}
use Rattle.std.proofs.lemmas.Int.{ints, by_lt_z}
use Rattle.std.proofs.lemmas.Float.{T_from_true}
use lib.Dec.{T}
use Rattle.std.specs.Prelude.{ℤ, IsSomeAnd, ◌&&◌, int_le, int_lt}
use Rattle.co_value.specs.declared.data_type.DataType.{DataType}
use Rattle.co_value.specs.declared.data_type.DataType.TheVariants.{Boolean, VisibleString, OctetString, Domain}
use Rattle.co_value.specs.Types.{least_of, greatest_of, InRange}
use Rattle.co_sheet.specs.Limits.{is_numeric, at_most, is_in_type}
use Rattle.co_dict_build.specs.InitialBytes.{nearest_to_zero}

-- the ends of a type
pub record HasEnds (t : DataType) (least greatest : ℤ) : Type 0 where
  pub least_is : least_of t ≡ Some least
  pub greatest_is : greatest_of t ≡ Some greatest
  pub in_order : least ≤ℤ greatest

-- a numeric type has ends
pub ends_of : (t : DataType) → is_numeric t ≡ true → (least : ℤ) × (greatest : ℤ) × HasEnds t least greatest
ends_of Boolean h = (pos 0, pos 1, record { least_is = refl; greatest_is = refl; in_order = omega (arith, ints) })
ends_of VisibleString h = absurd (cc)
ends_of OctetString h = absurd (cc)
ends_of Domain h = absurd (cc)
ends_of t h = (_, _, record { least_is = refl; greatest_is = refl; in_order = omega (arith, ints) })

-- a number between the ends is one of the type, and the other way round
between : (low high : Option ℤ) (least greatest value : ℤ) → low ≡ Some least → high ≡ Some greatest → least ≤ℤ value → value ≤ℤ greatest → IsSomeAnd low (λ l. l ≤ℤ value) × IsSomeAnd high (λ g. value ≤ℤ g)
between low high least greatest value e f above below =
    (subst (λ (o : Option ℤ). IsSomeAnd o (λ l. l ≤ℤ value)) (sym e) above, subst (λ (o : Option ℤ). IsSomeAnd o (λ g. value ≤ℤ g)) (sym f) below)

pub in_range : (t : DataType) (least greatest value : ℤ) → HasEnds t least greatest → least ≤ℤ value → value ≤ℤ greatest → InRange t value
in_range t least greatest value ends above below = between (least_of t) (greatest_of t) least greatest value ends.least_is ends.greatest_is above below

pub above_least : (t : DataType) (least greatest value : ℤ) → HasEnds t least greatest → InRange t value → least ≤ℤ value
above_least t least greatest value ends range = subst (λ (o : Option ℤ). IsSomeAnd o (λ l. l ≤ℤ value)) ends.least_is range.0

pub below_greatest : (t : DataType) (least greatest value : ℤ) → HasEnds t least greatest → InRange t value → value ≤ℤ greatest
below_greatest t least greatest value ends range = subst (λ (o : Option ℤ). IsSomeAnd o (λ g. value ≤ℤ g)) ends.greatest_is range.1

-- limits between the ends, in order
pub record AreWithin (least greatest low high : ℤ) : Type 0 where
  pub low_above : least ≤ℤ low
  pub low_below : low ≤ℤ greatest
  pub high_above : least ≤ℤ high
  pub high_below : high ≤ℤ greatest
  pub in_order : low ≤ℤ high

pub limits_within : (t : DataType) (least greatest low high : ℤ) → HasEnds t least greatest → InRange t low → InRange t high → low ≤ℤ high → AreWithin least greatest low high
limits_within t least greatest low high ends l h o =
    record {
      low_above = above_least t least greatest low ends l;
      low_below = below_greatest t least greatest low ends l;
      high_above = above_least t least greatest high ends h;
      high_below = below_greatest t least greatest high ends h;
      in_order = o;
    }

-- the number that is nearest to 0 is between the limits
nearest : (b c : Bool) (least greatest low high : ℤ) → (b ≡ false → low ≤ℤ pos 0) → (c ≡ false → pos 0 ≤ℤ high) → AreWithin least greatest low high → (least ≤ℤ cond b low (cond c high (pos 0))) × (cond b low (cond c high (pos 0)) ≤ℤ greatest)
nearest true c least greatest low high p q within = (within.low_above, within.low_below)
nearest false true least greatest low high p q within = (within.high_above, within.high_below)
nearest false false least greatest low high p q within = let l = p refl in let h = q refl in let a = within.low_above in let b = within.high_below in (omega (arith, ints), omega (arith, ints))

not_less : (x y : ℤ) → int_lt x y ≡ false → y ≤ℤ x
not_less x y h = by_lt_z x y (λ lt. absurd (subst T h lt.lt)) (λ le. le)

pub nearest_within : (t : DataType) (least greatest low high : ℤ) → HasEnds t least greatest → AreWithin least greatest low high → InRange t (nearest_to_zero low high)
nearest_within t least greatest low high ends within =
    let two = nearest (int_lt (pos 0) low) (int_lt high (pos 0)) least greatest low high (not_less (pos 0) low) (not_less high (pos 0)) within in
    in_range t least greatest (nearest_to_zero low high) ends two.0 two.1

-- what the tests say
at_most_true : (x y : ℤ) → int_le x y ≡ true → x ≤ℤ y
at_most_true x y h = record { le = T_from_true _ h }

both_true : (p q : Bool) → (p && q) ≡ true → (p ≡ true) × (q ≡ true)
both_true p q h = (grind arith, grind arith)

pub allowed_in_range : (t : DataType) (least greatest value : ℤ) → HasEnds t least greatest → is_in_type t value ≡ true → InRange t value
allowed_in_range t least greatest value ends h =
    let parts = both_true (at_most (least_of t) (Some value)) (at_most (Some value) (greatest_of t)) h in
    let low : int_le least value ≡ true = sym (ap (λ (o : Option ℤ). at_most o (Some value)) ends.least_is) ∙ parts.0 in
    let high : int_le value greatest ≡ true = sym (ap (λ (o : Option ℤ). at_most (Some value) o) ends.greatest_is) ∙ parts.1 in
    in_range t least greatest value ends (at_most_true least value low) (at_most_true value greatest high)
