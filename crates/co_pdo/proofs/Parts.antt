-- The bytes of what is mapped are as many as it is wide, so that an image is cut back into them.
use Rattle.std.proofs.lemmas.Bool.{and_parts}
use Rattle.std.proofs.Common.{◌≡◌, ℕ, ◌+◌, ◌≤◌, true, false, eqb, leb, List, [], ◌∷◌, ◌++◌, length, map, take, drop, Option, Some, None, refl, sym, ap, ◌∙◌, arith, Bor}
use Rattle.std.specs.Prelude.{is_some, unwrap_or, option_map}
use Rattle.std.specs.Option.{option_map_or}
use Rattle.std.specs.List.{concat}
use Rattle.std.proofs.Math.ListN.{replicate}
use Rattle.std.proofs.Math.Seq.{take-append_seam, drop-append_seam}
use Rattle.std.proofs.lemmas.List.{length-replicate, take-replicate, drop-take, take-append-drop, take-take}
use Rattle.std.proofs.lemmas.List.Sums.{sum_by-cons}
use Rattle.std.proofs.lemmas.Bool.Decides.{nat_tests}
use Rattle.co_value.specs.declared.key.Key.{Key}
use Rattle.co_value.specs.Types.{width_of}
use Rattle.co_dict.specs.declared.row.Row.{Row}
use Rattle.co_dict.specs.Rows.{Contents, fits}
use Rattle.co_dict.specs.Stores.{Description, IsDictionary}
use Rattle.co_pdo.specs.declared.mapping.Mapped.{Mapped}
use Rattle.co_pdo.specs.declared.mapping.Mapped.TheVariants.{Entry, Dummy}
use Rattle.co_pdo.specs.Mappings.{width_in, total_of, is_there, all_there}
use Rattle.co_pdo.specs.Images.{bytes_in, image_of, parts_of}

-- the row of an entry that is there with a width
record HasWidth (o : Option Row) (w : ℕ) : Type 0 where
  row : Row
  is : o ≡ Some row
  width : width_of row.data_type ≡ Some w

type_width : (o : Option ℕ) (w : ℕ) → option_map_or (λ v. eqb v w) o false ≡ true → o ≡ Some w
type_width None w h = cc
type_width (Some v) w h = let same : v ≡ w = grind (arith, nat_tests) in ap Some same

row_width : (o : Option Row) (w : ℕ) → option_map_or (λ row. option_map_or (λ v. eqb v w) (width_of row.data_type) false) o false ≡ true → HasWidth o w
row_width None w h = cc
row_width (Some row) w h = record { row = row; is = refl; width = type_width (width_of row.data_type) w h }

found : {X : Type 0} (o : Option X) → is_some o ≡ true → (x : X) × (o ≡ Some x)
found None e = cc
found (Some x) e = (x, refl)

fits_width : (row : Row) (n w : ℕ) → width_of row.data_type ≡ Some w → fits row n ≡ true → n ≡ w
fits_width row n w width h =
    let test : eqb n w ≡ true = sym (ap (λ o. option_map_or (λ v. eqb n v) o (leb n row.capacity)) width) ∙ h in
    grind (arith, nat_tests)

-- the bytes of an entry that is there with a width
pub entry_bytes : (d : Description) (contents : Contents) (key : Key) (w : ℕ) → IsDictionary d contents → is_there d.rows (Entry key w) ≡ true → length (unwrap_or (contents key) []) ≡ w
entry_bytes d contents key w laws there =
    let r : HasWidth (d.rows key) w = row_width (d.rows key) w there in
    let present : is_some (contents key) ≡ true = laws.filled.present key ∙ ap is_some r.is in
    let bytes = (found (contents key) present).0 in
    let held : contents key ≡ Some bytes = (found (contents key) present).1 in
    ap (λ o. length (unwrap_or o [])) held ∙ fits_width r.row (length bytes) w r.width (laws.filled.fitting key r.row bytes r.is held)

pub bytes_wide : (d : Description) (contents : Contents) (mapped : Mapped) → IsDictionary d contents → is_there d.rows mapped ≡ true → length (bytes_in contents mapped) ≡ width_in mapped
bytes_wide d contents (Entry key w) laws there = entry_bytes d contents key w laws there
bytes_wide d contents (Dummy w) laws there = length-replicate w 0

-- the image is cut into the bytes of each
pub parts_of_image : (d : Description) (contents : Contents) (mapping : List Mapped) → IsDictionary d contents → all_there d.rows mapping ≡ true → parts_of mapping (image_of contents mapping) ≡ map (bytes_in contents) mapping
parts_of_image d contents [] laws there = refl
parts_of_image d contents (mapped ∷ mapping) laws there =
    let both = and_parts (is_there d.rows mapped) (all_there d.rows mapping) there in
    let width : length (bytes_in contents mapped) ≡ width_in mapped = bytes_wide d contents mapped laws both.0 in
    let front : take (width_in mapped) (bytes_in contents mapped ++ image_of contents mapping) ≡ bytes_in contents mapped =
    ap (λ n. take n (bytes_in contents mapped ++ image_of contents mapping)) (sym width) ∙ take-append_seam (bytes_in contents mapped) (image_of contents mapping) in
    let back : drop (width_in mapped) (bytes_in contents mapped ++ image_of contents mapping) ≡ image_of contents mapping =
    ap (λ n. drop n (bytes_in contents mapped ++ image_of contents mapping)) (sym width) ∙ drop-append_seam (bytes_in contents mapped) (image_of contents mapping) in
    ap (λ x. x ∷ parts_of mapping (drop (width_in mapped) (bytes_in contents mapped ++ image_of contents mapping))) front
    ∙ ap (λ xs. bytes_in contents mapped ∷ parts_of mapping xs) back
    ∙ ap (λ xs. bytes_in contents mapped ∷ xs) (parts_of_image d contents mapping laws both.1)

take_both : (m n : ℕ) (xs : List ℕ) → take m xs ++ take n (drop m xs) ≡ take (m + n) xs
take_both m n xs = ap (λ ys. take m xs ++ ys) (sym (drop-take m n xs)) ∙ ap (λ ys. ys ++ drop m (take (m + n) xs)) (sym (take-take m (m + n) xs (omega arith))) ∙ take-append-drop m (take (m + n) xs)

-- the parts of data, joined
pub parts_join : (mapping : List Mapped) (bytes : List ℕ) → concat (parts_of mapping bytes) ≡ take (total_of mapping) bytes
parts_join [] bytes = refl
parts_join (mapped ∷ mapping) bytes =
    ap (λ ys. take (width_in mapped) bytes ++ ys) (parts_join mapping (drop (width_in mapped) bytes)) ∙ take_both (width_in mapped) (total_of mapping) bytes
    ∙ ap (λ n. take n bytes) (sym (sum_by-cons width_in mapped mapping))

-- ---- the bytes that are appended

pub held_bytes : (o : Option (Bor (List ℕ))) (none : Bor (List ℕ)) (p : Option (List ℕ)) → option_map (λ b. b.now) o ≡ p → none.now ≡ [] → (unwrap_or o none).now ≡ unwrap_or p []
held_bytes None none p e n = n ∙ ap (λ q. unwrap_or q []) e
held_bytes (Some b) none p e n = ap (λ q. unwrap_or q []) e

pub zeros_are : (n : ℕ) → n ≤ 8 → take {A = ℕ} n (0 ∷ 0 ∷ 0 ∷ 0 ∷ 0 ∷ 0 ∷ 0 ∷ 0 ∷ []) ≡ replicate {A = ℕ} n 0
zeros_are n le = take-replicate {X = ℕ} n 8 0 le
