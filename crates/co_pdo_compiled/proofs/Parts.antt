-- What holds of the parts of compiled mappings.
use Rattle.std.proofs.Common.{◌≡◌, ℕ, true, eqb, leb, List, length, get_or, Some, sym, ap, ◌∙◌, arith}
use Rattle.std.specs.Option.{option_map_or}
use Rattle.std.proofs.lemmas.Bool.Decides.{nat_tests}
use Rattle.co_value.specs.declared.key.Key.{Key}
use Rattle.co_value.specs.Types.{width_of}
use Rattle.co_dict.specs.declared.row.Row.{Row}
use Rattle.co_dict.specs.Rows.{Contents, fits}
use Rattle.co_dict.specs.Stores.{Description, IsDictionary}
use Rattle.co_dict.specs.Places.{place_of}
use Rattle.co_pdo_compiled.specs.declared.part.PlacedEntry.{PlacedEntry}
use Rattle.co_pdo_compiled.specs.declared.part.Part.{Part}
use Rattle.co_pdo_compiled.specs.declared.part.Part.TheVariants.{Placed, PassedOver}
use Rattle.co_pdo_compiled.specs.CompiledMappings.{HasEntry, HasPart, HasParts}

-- as many bytes as a row is wide fit it, and no others
pub fits_by_width : (row : Row) (w n : ℕ) → width_of row.data_type ≡ Some w → fits row n ≡ eqb n w
fits_by_width row w n width = ap (λ o. option_map_or (λ v. eqb n v) o (leb n row.capacity)) width

-- the bytes of an entry are as many as it is wide
pub entry_wide : (d : Description) (contents : Contents) (entry : PlacedEntry) (bytes : List ℕ) → IsDictionary d contents → HasEntry d entry → contents entry.key ≡ Some bytes → length bytes ≡ entry.width
entry_wide d contents entry bytes laws has held =
    let fitting : fits entry.row (length bytes) ≡ true = laws.filled.fitting entry.key entry.row bytes has.row held in
    let test : eqb (length bytes) entry.width ≡ true = sym (fits_by_width entry.row entry.width (length bytes) has.width) ∙ fitting in
    grind (arith, nat_tests)

-- ---- another dictionary with the same rows and places

module _ (d e : Description) (rows : (key : Key) → d.rows key ≡ e.rows key) (places : (key : Key) → place_of d key ≡ place_of e key) where
  part_stays : (part : Part) → HasPart d part → HasPart e part
  part_stays (Placed entry) has = record {
    place = sym (places entry.key) ∙ has.place;
    row = sym (rows entry.key) ∙ has.row;
    width = has.width;
  }
  part_stays (PassedOver width) has = has

  pub parts_stay : (parts : List Part) → HasParts d parts → HasParts e parts
  parts_stay parts has = λ i part less. part_stays (get_or parts i part) (has i part less)
