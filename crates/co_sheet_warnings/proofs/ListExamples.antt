-- Objects and their lists, on both sides of each edge.
use Rattle.std.proofs.Common.{◌≡◌, ℕ, List, [], ◌∷◌, ◌++◌, refl, codes, map}
use Rattle.co_sheet_text.specs.declared.section_kind.SectionKind.TheVariants.{MandatoryObjects, OptionalObjects, ManufacturerObjects}
use Rattle.co_sheet_text_warnings.specs.declared.warning.WarningKind.TheVariants.{WrongList, UncountedKey, Unlisted, NoErrorControl, ListOrder}
use Rattle.co_sheet_warnings.specs.Warnings.{few_places, places_in, places_of}
use Rattle.co_sheet_text_warnings.specs.InText.{place_in_text}
use Rattle.co_sheet_warnings.proofs.ExampleTexts.{places}

-- a list's keys from 1 to its count, whose values are indices from 1000h on
wrong : places WrongList (codes "[OptionalObjects]" ∷ codes "SupportedObjects=5" ∷ codes "1=0x1000" ∷ codes "2=0x1017" ∷ codes "3=0x10000" ∷ codes "4=0x1008" ∷ codes "5=0x2000" ∷ codes "6=0x2001" ∷ codes "05=0x2002" ∷ []) ≡ 3 ∷ 7 ∷ []
unfolding places_of few_places place_in_text places_in
wrong = refl

-- a key from 1 to the count of any list, whose value is below 1000h; they come after the others of their list
low : places WrongList (codes "[ManufacturerObjects]" ∷ codes "SupportedObjects=4" ∷ codes "1=0x0FFF" ∷ codes "2=0x1000" ∷ codes "3=1008" ∷ codes "4=0x2000" ∷ codes "5=0x5" ∷ codes "04=0x5" ∷ codes "Unit=5" ∷ codes "[OptionalObjects]" ∷ codes "SupportedObjects=1" ∷ codes "1=0" ∷ codes "[Comments]" ∷ codes "SupportedObjects=1" ∷ codes "1=5" ∷ []) ≡ 4 ∷ 3 ∷ 5 ∷ 12 ∷ []
unfolding places_of few_places place_in_text places_in
low = refl

no_list : places WrongList (codes "[OptionalObjects]" ∷ codes "1=0x1000" ∷ []) ≡ []
unfolding places_of few_places place_in_text places_in
no_list = refl

-- the first key past the count of a list, in the order of its lines; a number with a leading zero is no place
abbrev counted : List ℕ → List (List ℕ)
counted count =
    codes "[OptionalObjects]" ∷ count ∷ codes "1=0x1008" ∷ codes "4=0x1016" ∷ codes "3=0x1017" ∷ codes "2=0x1009" ∷ codes "05=0x2002" ∷ []

uncounted : map (λ count. places UncountedKey (counted count)) (codes "SupportedObjects=4" ∷ codes "SupportedObjects=3" ∷ codes "SupportedObjects=0x2" ∷ codes "SupportedObjects=0" ∷ codes "SupportedObjects=5" ∷ codes "SupportedObjects=x" ∷ codes "1=0x1010" ∷ [])
    ≡ [] ∷ (4 ∷ []) ∷ (4 ∷ []) ∷ (3 ∷ []) ∷ [] ∷ [] ∷ [] ∷ []
unfolding places_of few_places place_in_text places_in
uncounted = refl

-- of a bad list the count is at fault, or an index
bad_list : places UncountedKey (codes "[OptionalObjects]" ∷ codes "SupportedObjects=2" ∷ codes "1=0x1008" ∷ codes "3=0x1016" ∷ codes "[ManufacturerObjects]" ∷ codes "SupportedObjects=1" ∷ codes "1=0x20000" ∷ codes "2=0x2000" ∷ []) ≡ []
unfolding places_of few_places place_in_text places_in
bad_list = refl

-- each list; the keys of other sections are no places
each_count : places UncountedKey (codes "[MandatoryObjects]" ∷ codes "SupportedObjects=0" ∷ codes "1=0x1000" ∷ codes "[ManufacturerObjects]" ∷ codes "SupportedObjects=1" ∷ codes "2=0x2001" ∷ codes "1=0x2000" ∷ codes "[Comments]" ∷ codes "SupportedObjects=0" ∷ codes "1=a" ∷ []) ≡ 3 ∷ 6 ∷ []
unfolding places_of few_places place_in_text places_in
each_count = refl

abbrev listed : List ℕ → List ℕ → List ℕ → List (List ℕ)
listed first second third =
    codes "[OptionalObjects]" ∷ codes "SupportedObjects=3" ∷ first ∷ second ∷ third ∷ []

-- the first index of a list that is smaller than the one before it
falls : places ListOrder (listed (codes "1=0x1005") (codes "2=0x1003") (codes "3=0x1002")) ≡ 4 ∷ []
unfolding places_of few_places place_in_text places_in
falls = refl

rises : places ListOrder (listed (codes "1=0x1002") (codes "2=0x1003") (codes "3=0x1003")) ≡ []
unfolding places_of few_places place_in_text places_in
rises = refl

each_list : places ListOrder (listed (codes "1=0x1005") (codes "2=0x1006") (codes "3=0x1007") ++ codes "[ManufacturerObjects]" ∷ codes "SupportedObjects=2" ∷ codes "2=0x1004" ∷ codes "1=0x1003" ∷ []) ≡ 9 ∷ []
unfolding places_of few_places place_in_text places_in
each_list = refl

not_listed : places Unlisted (listed (codes "1=0x1002") (codes "2=0x1003") (codes "3=0x1003") ++ codes "[1002]" ∷ codes "[1004]" ∷ codes "[FFF]" ∷ codes "[1000]" ∷ codes "[1005sub0]" ∷ []) ≡ 7 ∷ 9 ∷ 10 ∷ []
unfolding places_of few_places place_in_text places_in
not_listed = refl

-- of an object without a section its first sub-index in the text; not of one that has a section or is listed
sub_indices_alone : places Unlisted (listed (codes "1=0x1002") (codes "2=0x1003") (codes "3=0x1004") ++ codes "[3001sub1]" ∷ codes "[3001sub0]" ∷ codes "[3002sub0]" ∷ codes "[3002]" ∷ codes "[1002sub0]" ∷ codes "[FFFsub0]" ∷ codes "[1081sub2]" ∷ []) ≡ 6 ∷ 9 ∷ 12 ∷ []
unfolding places_of few_places place_in_text places_in
sub_indices_alone = refl

no_heartbeat : places NoErrorControl (listed (codes "1=0x1000") (codes "2=0x100C") (codes "3=0x1018")) ≡ 0 ∷ []
unfolding places_of few_places place_in_text places_in
no_heartbeat = refl

half_guarding : places NoErrorControl (listed (codes "1=0x1000") (codes "2=0x100D") (codes "3=0x1018")) ≡ 0 ∷ []
unfolding places_of few_places place_in_text places_in
half_guarding = refl

guarding : places NoErrorControl (listed (codes "1=0x1000") (codes "2=0x100C") (codes "3=0x100D")) ≡ []
unfolding places_of few_places place_in_text places_in
guarding = refl

heartbeat : places NoErrorControl (listed (codes "1=0x1000") (codes "2=0x1017") (codes "3=0x1018")) ≡ []
unfolding places_of few_places place_in_text places_in
heartbeat = refl

-- where the lists don't even name 1000h, other things are missing
no_device : places NoErrorControl (listed (codes "1=0x1001") (codes "2=0x1005") (codes "3=0x1018")) ≡ []
unfolding places_of few_places place_in_text places_in
no_device = refl
