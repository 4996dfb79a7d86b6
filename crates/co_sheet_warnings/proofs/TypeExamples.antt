-- The types that CiA 301 has for entries, at both ends of each row and just past them.
use Rattle.std.proofs.Common.{◌≡◌, ℕ, List, [], ◌∷◌, Some, None, refl, codes, map}
use Rattle.std.specs.Prelude.{Option, replicate}
use Rattle.co_value.specs.declared.data_type.DataType.{DataType}
use Rattle.co_value.specs.declared.data_type.DataType.TheVariants.{Unsigned8, Unsigned16, Unsigned32, VisibleString}
use Rattle.co_sheet_text.specs.declared.section_kind.SectionKind.TheVariants.{Object, MandatoryObjects, PassedOver}
use Rattle.co_sheet_text_warnings.specs.declared.warning.WarningKind.TheVariants.{WrongType}
use Rattle.co_sheet_warnings.specs.Types.{standard_type}
use Rattle.co_sheet_warnings.specs.Warnings.{few_places, places_in, places_of}
use Rattle.co_sheet_text_warnings.specs.InText.{place_in_text}
use Rattle.co_sheet_warnings.proofs.ExampleTexts.{places, sub_index}

-- 1000h, 1001h and 1005h have theirs by the check of sheets, and so have 1014h, 1015h, 1017h and 1019h
objects : map (λ index. standard_type (Object index)) (0x1000 ∷ 0x1001 ∷ 0x1002 ∷ 0x1003 ∷ 0x1005 ∷ 0x1006 ∷ 0x1007 ∷ 0x1008 ∷ 0x100A ∷ 0x100B ∷ 0x100C ∷ 0x100D ∷ 0x100E ∷ [])
    ≡ None ∷ None ∷ Some Unsigned32 ∷ None ∷ None ∷ Some Unsigned32 ∷ Some Unsigned32 ∷ Some VisibleString ∷ Some VisibleString ∷ None ∷ Some Unsigned16 ∷ Some Unsigned8 ∷ None ∷ []
objects = refl

later_objects : map (λ index. standard_type (Object index)) (0x1010 ∷ 0x1011 ∷ 0x1012 ∷ 0x1013 ∷ 0x1014 ∷ 0x1017 ∷ 0x1018 ∷ 0x1019 ∷ 0x1020 ∷ 0x1027 ∷ 0x1200 ∷ 0x1400 ∷ 0x2000 ∷ [])
    ≡ None ∷ None ∷ Some Unsigned32 ∷ Some Unsigned32 ∷ None ∷ None ∷ None ∷ None ∷ None ∷ None ∷ None ∷ None ∷ None ∷ []
later_objects = refl

-- the number of sub-indices, of an object of any profile and of its maker; of no VAR of CiA 301, and of
-- none that it reserves with another number
counts : map (λ index. standard_type (sub_index index 0)) (0xFFF ∷ 0x1003 ∷ 0x1010 ∷ 0x1011 ∷ 0x1016 ∷ 0x1018 ∷ 0x101A ∷ 0x1020 ∷ 0x1023 ∷ 0x1025 ∷ 0x1029 ∷ 0x102B ∷ 0x1400 ∷ 0x1A00 ∷ 0x2000 ∷ 0x6000 ∷ []) ≡ replicate 16 (Some Unsigned8)
counts = refl

uncounted : map (λ index. standard_type (sub_index index 0)) (0x1000 ∷ 0x1002 ∷ 0x1004 ∷ 0x1006 ∷ 0x100F ∷ 0x1012 ∷ 0x1015 ∷ 0x1017 ∷ 0x1019 ∷ 0x1021 ∷ 0x1022 ∷ 0x1024 ∷ 0x102A ∷ []) ≡ replicate 13 None
uncounted = refl

abbrev types_at : ℕ → List ℕ → List (Option DataType)
types_at index subs = map (λ sub. standard_type (sub_index index sub)) subs

stored : map (λ index. types_at index (1 ∷ 0x7F ∷ 0x80 ∷ [])) (0x100F ∷ 0x1010 ∷ 0x1011 ∷ 0x1012 ∷ [])
    ≡ (None ∷ None ∷ None ∷ []) ∷ (Some Unsigned32 ∷ Some Unsigned32 ∷ None ∷ []) ∷ (Some Unsigned32 ∷ Some Unsigned32 ∷ None ∷ []) ∷ (None ∷ None ∷ None ∷ []) ∷ []
stored = refl

identity : types_at 0x1017 (1 ∷ []) ∷ types_at 0x1018 (1 ∷ 4 ∷ 5 ∷ []) ∷ types_at 0x1019 (1 ∷ []) ∷ []
    ≡ (None ∷ []) ∷ (Some Unsigned32 ∷ Some Unsigned32 ∷ None ∷ []) ∷ (None ∷ []) ∷ []
identity = refl

configuration : types_at 0x101F (1 ∷ []) ∷ types_at 0x1020 (1 ∷ 2 ∷ 3 ∷ []) ∷ types_at 0x1021 (1 ∷ []) ∷ []
    ≡ (None ∷ []) ∷ (Some Unsigned32 ∷ Some Unsigned32 ∷ None ∷ []) ∷ (None ∷ []) ∷ []
configuration = refl

modules : types_at 0x1026 (1 ∷ []) ∷ types_at 0x1027 (1 ∷ 0xFE ∷ 0xFF ∷ []) ∷ types_at 0x1028 (1 ∷ 0x7F ∷ 0x80 ∷ []) ∷ types_at 0x1029 (1 ∷ 2 ∷ 0xFE ∷ 0xFF ∷ []) ∷ types_at 0x102A (2 ∷ []) ∷ []
    ≡ (None ∷ []) ∷ (Some Unsigned16 ∷ Some Unsigned16 ∷ None ∷ []) ∷ (Some Unsigned32 ∷ Some Unsigned32 ∷ None ∷ []) ∷ (None ∷ Some Unsigned8 ∷ Some Unsigned8 ∷ None ∷ []) ∷ (None ∷ []) ∷ []
modules = refl

-- the identifiers of a server have theirs by the check of sheets
channels : map (λ index. types_at index (1 ∷ 2 ∷ 3 ∷ 4 ∷ [])) (0x11FF ∷ 0x1200 ∷ 0x127F ∷ 0x1280 ∷ 0x12FF ∷ 0x1300 ∷ [])
    ≡ (None ∷ None ∷ None ∷ None ∷ []) ∷ (None ∷ None ∷ Some Unsigned8 ∷ None ∷ []) ∷ (None ∷ None ∷ Some Unsigned8 ∷ None ∷ [])
    ∷ (Some Unsigned32 ∷ Some Unsigned32 ∷ Some Unsigned8 ∷ None ∷ []) ∷ (Some Unsigned32 ∷ Some Unsigned32 ∷ Some Unsigned8 ∷ None ∷ []) ∷ (None ∷ None ∷ None ∷ None ∷ []) ∷ []
channels = refl

pdos : map (λ index. types_at index (2 ∷ 3 ∷ 4 ∷ 5 ∷ 6 ∷ 7 ∷ [])) (0x13FF ∷ 0x1400 ∷ 0x15FF ∷ 0x1600 ∷ 0x1800 ∷ [])
    ≡ (None ∷ None ∷ None ∷ None ∷ None ∷ None ∷ []) ∷ (None ∷ Some Unsigned16 ∷ None ∷ Some Unsigned16 ∷ Some Unsigned8 ∷ None ∷ []) ∷ (None ∷ Some Unsigned16 ∷ None ∷ Some Unsigned16 ∷ Some Unsigned8 ∷ None ∷ [])
    ∷ (None ∷ None ∷ None ∷ None ∷ None ∷ None ∷ []) ∷ (None ∷ None ∷ None ∷ None ∷ None ∷ None ∷ []) ∷ []
pdos = refl

other_sections : map standard_type (MandatoryObjects ∷ PassedOver ∷ []) ≡ None ∷ None ∷ []
other_sections = refl

-- in decimal and in hexadecimal digits; no number; no DataType; a right one; the section of an ARRAY
types : places WrongType (codes "[1006]" ∷ codes "DataType=6" ∷ codes "[1007]" ∷ codes "DataType=0x0007" ∷ codes "[1008]" ∷ codes "AccessType=ro" ∷ codes "datatype=0x000A" ∷ codes "[1012]" ∷ codes "AccessType=ro" ∷ codes "[2000]" ∷ codes "ObjectType=8" ∷ codes "DataType=7" ∷ codes "[2000sub0]" ∷ codes "DataType=6" ∷ codes "[2000sub1]" ∷ codes "DataType=6" ∷ codes "[1200sub3]" ∷ codes "DataType=x" ∷ codes "[1018sub0]" ∷ codes "DataType=5" ∷ codes "[1018sub1]" ∷ codes "DataType=4" ∷ []) ≡ 2 ∷ 7 ∷ 14 ∷ 22 ∷ []
unfolding places_of few_places place_in_text places_in
types = refl

-- sub-index 0 of an ARRAY and of a RECORD alone: not of a VAR, which an object is without ObjectType, nor of a DOMAIN, nor where the ObjectType is a fault
by_object_type : map (λ line. places WrongType (codes "[2000]" ∷ line ∷ codes "[2000sub0]" ∷ codes "DataType=6" ∷ codes "[2000sub1]" ∷ codes "DataType=6" ∷ []))
    (codes "ObjectType=0x8" ∷ codes "objecttype=9" ∷ codes "ObjectType=7" ∷ codes "ObjectType=0x2" ∷ codes "AccessType=ro" ∷ codes "ObjectType=5" ∷ codes "ObjectType=10" ∷ codes "ObjectType=x" ∷ [])
    ≡ (4 ∷ []) ∷ (4 ∷ []) ∷ replicate 6 []
unfolding places_of few_places place_in_text places_in
by_object_type = refl

-- by the object's own section, after the sub-index too, and the first of several; without one there is none
own_section : map (λ lines. places WrongType lines)
    ((codes "[2000sub0]" ∷ codes "DataType=6" ∷ codes "[2000]" ∷ codes "ObjectType=8" ∷ codes "[2000]" ∷ codes "ObjectType=7" ∷ [])
    ∷ (codes "[2000sub0]" ∷ codes "DataType=6" ∷ codes "[2000]" ∷ codes "ObjectType=7" ∷ codes "[2000]" ∷ codes "ObjectType=8" ∷ [])
    ∷ (codes "[2000sub0]" ∷ codes "DataType=6" ∷ codes "[2001]" ∷ codes "ObjectType=8" ∷ []) ∷ [])
    ≡ (2 ∷ []) ∷ [] ∷ [] ∷ []
unfolding places_of few_places place_in_text places_in
own_section = refl

-- the entry of a VAR of CiA 301, whatever its ObjectType is; the numbers of PDOs and SDOs; other sub-indices without a section of the object
values : map (λ lines. places WrongType lines)
    ((codes "[1006]" ∷ codes "DataType=7" ∷ codes "[1006sub0]" ∷ codes "DataType=7" ∷ [])
    ∷ (codes "[1006]" ∷ codes "ObjectType=8" ∷ codes "[1006sub0]" ∷ codes "DataType=7" ∷ [])
    ∷ (codes "[1004]" ∷ codes "ObjectType=8" ∷ codes "[1004sub0]" ∷ codes "DataType=7" ∷ codes "[100F]" ∷ codes "ObjectType=8" ∷ codes "[100Fsub0]" ∷ codes "DataType=7" ∷ [])
    ∷ (codes "[1018]" ∷ codes "ObjectType=7" ∷ codes "[1018sub1]" ∷ codes "DataType=6" ∷ codes "[1020sub1]" ∷ codes "DataType=6" ∷ []) ∷ [])
    ≡ [] ∷ [] ∷ [] ∷ (4 ∷ 6 ∷ []) ∷ []
unfolding places_of few_places place_in_text places_in
values = refl
