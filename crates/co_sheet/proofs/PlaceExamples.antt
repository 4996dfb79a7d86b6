-- The places of a list, counted and asked one by one.
use Rattle.std.proofs.Common.{◌≡◌, ℕ, ◌+◌, List, [], ◌∷◌, refl, true, false, codes}
use Rattle.std.specs.Prelude.{length, nat_lt}
use Rattle.co_sheet_text.specs.declared.section_kind.SectionKind.{SectionKind}
use Rattle.co_sheet_text.specs.declared.section_kind.SectionKind.TheVariants.{MandatoryObjects}
use Rattle.co_sheet_text.specs.Sections.{Property, TextSection}
use Rattle.co_sheet.specs.ObjectLists.{keys_to, lacks_place}
use Rattle.co_sheet.specs.PlaceLaws.{CountsPlaces}

-- keys of these names, at lines from 2 on
abbrev keys_from : ℕ → List (List ℕ) → List Property
keys_from line [] = []
keys_from line (name ∷ names) = record { name = name; value = codes "0x1000"; line = line } ∷ keys_from (line + 1) names

abbrev section : SectionKind → List (List ℕ) → TextSection
section kind names = record { kind = kind; name = []; line = 1; properties = keys_from 2 names }

-- a list whose places are counted, and asked one by one
abbrev of_list : TextSection
of_list = section MandatoryObjects (codes "3" ∷ codes "1" ∷ codes "10" ∷ [])

one_is_there : lacks_place of_list 1 ≡ false
one_is_there = refl

two_is_missing : lacks_place of_list 2 ≡ true
two_is_missing = refl

fewer_than_two : nat_lt (length (keys_to of_list 2)) 2 ≡ true
fewer_than_two = refl

none_of_none : lacks_place of_list 0 ≡ false
none_of_none = refl

other_names : lacks_place (section MandatoryObjects (codes "01" ∷ codes "0" ∷ codes "x" ∷ [])) 1 ≡ true
other_names = refl

place_twice : CountsPlaces (section MandatoryObjects (codes "1" ∷ codes "1" ∷ [])) → ⊥
place_twice counts = let h = counts 2 in cc
