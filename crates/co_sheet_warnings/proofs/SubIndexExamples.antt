-- What an object says of its sub-indices, on both sides of each edge.
use Rattle.std.proofs.Common.{◌≡◌, ℕ, List, [], ◌∷◌, ◌++◌, true, false, refl, codes, map}
use Rattle.co_sheet_text_warnings.specs.declared.warning.WarningKind.TheVariants.{SubNumber, SubIndex0, VarSubIndices, MandatoryForm, MissingName}
use Rattle.co_sheet_warnings.specs.SubIndices.{is_highest_by_rule, counted}
use Rattle.co_sheet_warnings.specs.Warnings.{few_places, places_in, places_of}
use Rattle.co_sheet_text_warnings.specs.InText.{place_in_text}
use Rattle.co_sheet_warnings.proofs.ExampleTexts.{places}

-- ---- SubNumber

abbrev with_sub_number : List ℕ → List (List ℕ)
with_sub_number line =
    codes "[1018]" ∷ line ∷ codes "[1018sub0]" ∷ codes "[1018sub2]" ∷ codes "[1017sub1]" ∷ []

sub_numbers : map (λ line. places SubNumber (with_sub_number line)) (codes "SubNumber=1" ∷ codes "SubNumber=0x2" ∷ codes "SubNumber=3" ∷ codes "SubNumber=two" ∷ codes "SubNumber=" ∷ [])
    ≡ (2 ∷ []) ∷ [] ∷ (2 ∷ []) ∷ (2 ∷ []) ∷ [] ∷ []
unfolding places_of few_places place_in_text places_in
sub_numbers = refl

-- ---- SubIndex0

abbrev with_count : List ℕ → List ℕ → List (List ℕ)
with_count access value =
    codes "[2000sub1]" ∷ codes "[2000sub4]" ∷ codes "[2000sub0]" ∷ access ∷ value ∷ codes "[2001sub5]" ∷ []

highest : places SubIndex0 (with_count (codes "AccessType=RO") (codes "DefaultValue=4")) ≡ []
unfolding places_of few_places place_in_text places_in
highest = refl

number_of_sections : places SubIndex0 (with_count (codes "AccessType=ro") (codes "DefaultValue=2")) ≡ 5 ∷ []
unfolding places_of few_places place_in_text places_in
number_of_sections = refl

above_highest : places SubIndex0 (with_count (codes "AccessType=const") (codes "DefaultValue=5")) ≡ 5 ∷ []
unfolding places_of few_places place_in_text places_in
above_highest = refl

written : places SubIndex0 (with_count (codes "AccessType=rw") (codes "DefaultValue=2")) ≡ []
unfolding places_of few_places place_in_text places_in
written = refl

no_access : places SubIndex0 (with_count (codes "ObjectType=7") (codes "DefaultValue=2")) ≡ []
unfolding places_of few_places place_in_text places_in
no_access = refl

no_default : places SubIndex0 (with_count (codes "AccessType=ro") (codes "DataType=5")) ≡ []
unfolding places_of few_places place_in_text places_in
no_default = refl

-- a value that is at fault: none of one byte
greatest_byte : places SubIndex0 (with_count (codes "AccessType=ro") (codes "DefaultValue=255")) ≡ 5 ∷ []
unfolding places_of few_places place_in_text places_in
greatest_byte = refl

no_byte : places SubIndex0 (with_count (codes "AccessType=ro") (codes "DefaultValue=256")) ≡ []
unfolding places_of few_places place_in_text places_in
no_byte = refl

no_number : places SubIndex0 (with_count (codes "AccessType=ro") (codes "DefaultValue=many")) ≡ []
unfolding places_of few_places place_in_text places_in
no_number = refl

-- a configured value comes before the default
configured : places SubIndex0 (with_count (codes "AccessType=ro") (codes "DefaultValue=2") ++ codes "[2002sub0]" ∷ codes "AccessType=ro" ∷ codes "DefaultValue=0" ∷ codes "ParameterValue=1" ∷ []) ≡ 5 ∷ 10 ∷ []
unfolding places_of few_places place_in_text places_in
configured = refl

-- FFh isn't counted, FEh is
description : map counted (0 ∷ 1 ∷ 0xFE ∷ 0xFF ∷ []) ≡ 0 ∷ 1 ∷ 0xFE ∷ 0 ∷ []
description = refl

by_rule : map is_highest_by_rule (0x1002 ∷ 0x1003 ∷ 0x1004 ∷ 0x1026 ∷ 0x1027 ∷ 0x1028 ∷ 0x15FF ∷ 0x1600 ∷ 0x17FF ∷ 0x1800 ∷ 0x19FF ∷ 0x1A00 ∷ 0x1BFF ∷ 0x1C00 ∷ [])
    ≡ true ∷ false ∷ true ∷ true ∷ false ∷ true ∷ true ∷ false ∷ false ∷ true ∷ true ∷ false ∷ false ∷ true ∷ []
by_rule = refl

-- ---- VarSubIndices

abbrev with_type : List ℕ → List (List ℕ)
with_type line = codes "[2000sub0]" ∷ codes "[2001]" ∷ codes "[2000]" ∷ line ∷ codes "[2000sub1]" ∷ []

-- without an ObjectType an object is a VAR; of another code or none it isn't known
vars : map (λ line. places VarSubIndices (with_type line)) (codes "ObjectType=0x7" ∷ codes "DataType=7" ∷ codes "ObjectType=" ∷ codes "ObjectType=2" ∷ codes "ObjectType=8" ∷ codes "ObjectType=9" ∷ codes "ObjectType=5" ∷ codes "ObjectType=VAR" ∷ [])
    ≡ (3 ∷ []) ∷ (3 ∷ []) ∷ (3 ∷ []) ∷ (3 ∷ []) ∷ [] ∷ [] ∷ [] ∷ [] ∷ []
unfolding places_of few_places place_in_text places_in
vars = refl

-- the description of the object, FFh, is a sub-index; one of another object isn't its own
one_sub : places VarSubIndices (codes "[2000]" ∷ codes "[2001subFF]" ∷ codes "[2001]" ∷ []) ≡ 3 ∷ []
unfolding places_of few_places place_in_text places_in
one_sub = refl

-- ---- MandatoryForm

-- 1000h and 1001h as a VAR, which they are without an ObjectType, and as no other; whether ObjectType is a number isn't asked here
abbrev as_type : List ℕ → List (List ℕ)
as_type line = codes "[0FFF]" ∷ line ∷ codes "[1000]" ∷ line ∷ codes "[1001]" ∷ line ∷ codes "[1002]" ∷ line ∷ []

forms : map (λ line. places MandatoryForm (as_type line)) (codes "ObjectType=0x7" ∷ codes "DataType=9" ∷ codes "ObjectType=" ∷ codes "ObjectType=9" ∷ codes "ObjectType=8" ∷ codes "ObjectType=2" ∷ codes "ObjectType=VAR" ∷ [])
    ≡ [] ∷ [] ∷ [] ∷ (3 ∷ 5 ∷ []) ∷ (3 ∷ 5 ∷ []) ∷ (3 ∷ 5 ∷ []) ∷ (3 ∷ 5 ∷ []) ∷ []
unfolding places_of few_places place_in_text places_in
forms = refl

-- 1018h as a RECORD with sub-index 1
abbrev identity : List ℕ → List ℕ → List (List ℕ)
identity line sub = codes "[1018]" ∷ line ∷ codes "[1018sub0]" ∷ sub ∷ []

identities : places MandatoryForm (identity (codes "ObjectType=9") (codes "[1018sub1]")) ∷ places MandatoryForm (identity (codes "ObjectType=9") (codes "[1018sub2]"))
    ∷ places MandatoryForm (identity (codes "ObjectType=9") (codes "[1017sub1]")) ∷ places MandatoryForm (identity (codes "ObjectType=8") (codes "[1018sub1]")) ∷ []
    ≡ [] ∷ (1 ∷ []) ∷ (1 ∷ []) ∷ (1 ∷ []) ∷ []
unfolding places_of few_places place_in_text places_in
identities = refl

-- a VAR; with sub-index sections, which aren't read, it has VarSubIndices
identity_var : places MandatoryForm (codes "[1018]" ∷ codes "ObjectType=7" ∷ []) ∷ places MandatoryForm (codes "[1018]" ∷ []) ∷ places MandatoryForm (identity (codes "ObjectType=7") (codes "[1018sub1]")) ∷ places VarSubIndices (identity (codes "ObjectType=7") (codes "[1018sub1]")) ∷ []
    ≡ (1 ∷ []) ∷ (1 ∷ []) ∷ [] ∷ (1 ∷ []) ∷ []
unfolding places_of few_places place_in_text places_in
identity_var = refl

-- ---- MissingName

names : places MissingName (codes "[1000]" ∷ codes "ParameterName=a" ∷ codes "[1001]" ∷ codes "[1018sub0]" ∷ codes "ParameterName=" ∷ codes "[FileInfo]" ∷ codes "[DummyUsage]" ∷ []) ≡ 3 ∷ 4 ∷ []
unfolding places_of few_places place_in_text places_in
names = refl
