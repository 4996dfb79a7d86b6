-- What is said of changes, evaluated.
use Rattle.std.proofs.Common.{◌≡◌, ℕ, List, [], ◌∷◌, ◌++◌, Some, None, true, false, refl, codes, map}
use Rattle.conode_adapt.specs.Listing.{is_sub_number, objects_text, open_line}

-- the line of a SubNumber, in any case of its letters
sub_numbers : map is_sub_number (codes "SubNumber=0" ∷ codes " subnumber = 0" ∷ codes "CompactSubObj=3" ∷ codes "SubNumber" ∷ codes "=0" ∷ [])
    ≡ true ∷ true ∷ false ∷ false ∷ false ∷ []
sub_numbers = refl

none_missing : objects_text 0 0x17 ≡ codes ", no object is missing"
none_missing = refl

-- a last line without an end; not one of end marks alone, which is dropped
open_lines : map (open_line 1 false) (codes "a\nb" ∷ codes "a\nb\n" ∷ (97 ∷ 10 ∷ 26 ∷ []) ∷ (97 ∷ 10 ∷ 0 ∷ 26 ∷ []) ∷ (97 ∷ 10 ∷ 98 ∷ 26 ∷ []) ∷ (97 ∷ 10 ∷ 26 ∷ 98 ∷ []) ∷ [])
    ≡ Some 2 ∷ None ∷ None ∷ None ∷ Some 2 ∷ Some 2 ∷ []
open_lines = refl
