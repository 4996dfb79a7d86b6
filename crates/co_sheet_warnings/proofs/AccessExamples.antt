-- The access that CiA 301 has for an entry, on both sides of each edge.
use Rattle.std.proofs.Common.{◌≡◌, ℕ, List, [], ◌∷◌, Some, None, true, false, refl, codes, map}
use Rattle.co_sheet_text.specs.declared.section_kind.SectionKind.TheVariants.{Object, PassedOver}
use Rattle.co_sheet_warnings.specs.declared.accesses.FixedAccess.TheVariants.{ReadOnly, Readable, ReadWrite}
use Rattle.co_sheet_text_warnings.specs.declared.warning.WarningKind.TheVariants.{WrongAccess}
use Rattle.co_sheet_warnings.specs.Accesses.{fixed_access, is_against}
use Rattle.co_sheet_warnings.specs.Warnings.{few_places, places_in, places_of}
use Rattle.co_sheet_text_warnings.specs.InText.{place_in_text}
use Rattle.co_sheet_warnings.proofs.ExampleTexts.{places, sub_index}

-- 1002h is the last register, 1003h has sub-indices, 1005h is SYNC; 1008h to 100Ah are texts
objects : map (λ index. fixed_access (Object index)) (0x0FFF ∷ 0x1000 ∷ 0x1001 ∷ 0x1002 ∷ 0x1003 ∷ 0x1005 ∷ 0x1007 ∷ 0x1008 ∷ 0x100A ∷ 0x100B ∷ 0x1010 ∷ 0x1018 ∷ [])
    ≡ None ∷ Some ReadOnly ∷ Some ReadOnly ∷ Some ReadOnly ∷ None ∷ None ∷ None ∷ Some ReadOnly ∷ Some ReadOnly ∷ None ∷ None ∷ None ∷ []
objects = refl

errors : map (λ sub. fixed_access (sub_index 0x1003 sub)) (0 ∷ 1 ∷ 254 ∷ []) ≡ Some ReadWrite ∷ Some ReadOnly ∷ Some ReadOnly ∷ []
errors = refl

beside_errors : map (λ index. fixed_access (sub_index index 1)) (0x1002 ∷ 0x1004 ∷ []) ≡ None ∷ None ∷ []
beside_errors = refl

parameters : map (λ index. fixed_access (sub_index index 1)) (0x100F ∷ 0x1010 ∷ 0x1011 ∷ 0x1012 ∷ []) ≡ None ∷ Some Readable ∷ Some Readable ∷ None ∷ []
parameters = refl

counts : map (λ index. fixed_access (sub_index index 0)) (0x100F ∷ 0x1010 ∷ 0x1011 ∷ 0x1012 ∷ []) ≡ None ∷ Some ReadOnly ∷ Some ReadOnly ∷ None ∷ []
counts = refl

records : map (λ index. fixed_access (sub_index index 1)) (0x1000 ∷ 0x1017 ∷ 0x1018 ∷ 0x1019 ∷ 0x11FF ∷ 0x1200 ∷ 0x1201 ∷ []) ≡ None ∷ None ∷ Some ReadOnly ∷ None ∷ None ∷ Some ReadOnly ∷ None ∷ []
records = refl

-- 1200:03 is the node-ID of the SDO client
first_server : map (λ sub. fixed_access (sub_index 0x1200 sub)) (0 ∷ 1 ∷ 2 ∷ 3 ∷ []) ≡ Some ReadOnly ∷ Some ReadOnly ∷ Some ReadOnly ∷ None ∷ []
first_server = refl

passed_over : fixed_access PassedOver ≡ None
passed_over = refl

-- the six words, one in another case of letters, and none of them
abbrev words : List (List ℕ)
words = codes "ro" ∷ codes "const" ∷ codes "wo" ∷ codes "rw" ∷ codes "rwr" ∷ codes "rww" ∷ codes "RW" ∷ codes "read" ∷ []

read_only : map (is_against ReadOnly) words ≡ false ∷ false ∷ true ∷ true ∷ true ∷ true ∷ true ∷ false ∷ []
read_only = refl

readable : map (is_against Readable) words ≡ false ∷ false ∷ true ∷ false ∷ false ∷ false ∷ false ∷ false ∷ []
readable = refl

read_write : map (is_against ReadWrite) words ≡ true ∷ true ∷ true ∷ false ∷ false ∷ false ∷ false ∷ false ∷ []
read_write = refl

accesses : places WrongAccess (codes "[1003]" ∷ codes "AccessType=ro" ∷ codes "[1003sub0]" ∷ codes "AccessType=ro" ∷ codes "[1003sub1]" ∷ codes "AccessType=ro" ∷ codes "[1010sub1]" ∷ codes "DataType=7" ∷ codes "AccessType=WO" ∷ codes "[1018sub4]" ∷ codes "AccessType=rw" ∷ codes "[1017]" ∷ codes "AccessType=const" ∷ codes "[1001]" ∷ codes "DataType=5" ∷ []) ≡ 4 ∷ 9 ∷ 11 ∷ []
unfolding places_of few_places place_in_text places_in
accesses = refl
