-- Which of several a build fault is, on both sides of each edge.
use Rattle.std.proofs.Common.{◌≡◌, ℕ, List, [], ◌∷◌, true, false, Some, None, refl, codes, map}
use Rattle.co_value.specs.declared.key.Key.{Key}
use Rattle.co_sheet_text.specs.LinesAtFault.{sections_read}
use Rattle.co_sheet_text.specs.Sections.{TextSection}
use Rattle.co_sheet_text.specs.Text.{lines_of}
use Rattle.co_dict_build.specs.declared.build_fault.BuildFault.TheVariants.{BadCobId, PdoPair, ValueRange}
use Rattle.conode_lint.specs.BuildReasons.{meaning_in, pair_meaning, word_meaning, word_of}
use Rattle.conode_lint.specs.BuildWords.{build_meaning}

-- ---- words: a number, a sum with the node-ID that is known, neither; of at most 32 bits

words : map (word_of (Some 5)) (codes "0x601" ∷ codes "1537" ∷ codes "$NODEID+0x580" ∷ codes "0x80 + $nodeid" ∷ codes "$NODEID" ∷ codes "$NODEID+0xFFFFFFFF" ∷ codes "$NODEID+0x100000000" ∷ codes "x" ∷ codes "" ∷ [])
    ≡ Some 0x601 ∷ Some 0x601 ∷ Some 0x585 ∷ Some 0x85 ∷ Some 5 ∷ Some 0x100000004 ∷ None ∷ None ∷ None ∷ []
words = refl

unknown_words : map (word_of None) (codes "0x601" ∷ codes "$NODEID+0x580" ∷ []) ≡ Some 0x601 ∷ None ∷ []
unknown_words = refl

-- ---- what is wrong with a word: bit 30 of SYNC alone, bits 11 to 29, identifiers that are reserved, others

abbrev bit_30 : List ℕ
bit_30 = codes "bit 30 of the COB-ID is set: the device sends SYNC"

abbrev long : List ℕ
long = codes "the COB-ID has more than 11 bits"

abbrev reserved : List ℕ
reserved = codes "the COB-ID is reserved"

abbrev of_channel : List ℕ
of_channel = codes "the COB-ID belongs to an SDO channel"

of_sync : map (word_meaning true) (0x40000080 ∷ 0x60000080 ∷ 0xC0000080 ∷ 0x20000080 ∷ 0x80000601 ∷ 0x101 ∷ []) ≡ bit_30 ∷ bit_30 ∷ bit_30 ∷ long ∷ of_channel ∷ reserved ∷ []
of_sync = refl

of_others : map (word_meaning false) (0x40000601 ∷ 0x20000185 ∷ 0x801 ∷ 0x7FF ∷ 0x6E0 ∷ 0x6DF ∷ 0x67F ∷ 0x581 ∷ 0x181 ∷ 0x180 ∷ 0x101 ∷ 0x100 ∷ 0x80 ∷ 0x7F ∷ 1 ∷ [])
    ≡ of_channel ∷ long ∷ long ∷ reserved ∷ reserved ∷ of_channel ∷ of_channel ∷ of_channel ∷ of_channel ∷ reserved ∷ reserved ∷ of_channel ∷ of_channel ∷ reserved ∷ reserved ∷ []
of_others = refl

-- ---- what a PDO lacks: its other object by the lists, sub-index 1 or 2, both; what the lists and the sections don't show

abbrev text : List ℕ
text = codes "[OptionalObjects]\nSupportedObjects=6\n1=0x1400\n2=0x1A00\n3=0x1A01\n4=0x1A02\n5=0x1BFF\n6=0x1600\n[1600]\n[1800sub2]\n[1801sub1]\n[19FFsub1]\n[19FFsub2]\n[DeviceComissioning]\nNodeID=7\n"

abbrev sections : List TextSection
sections = sections_read (lines_of text)

abbrev no_mapping : List ℕ
no_mapping = codes "no list names the mapping parameter of this PDO"

abbrev no_communication : List ℕ
no_communication = codes "no list names the communication parameter of this PDO"

pairs : map (λ index. pair_meaning sections index (codes "x")) (0x1401 ∷ 0x1803 ∷ 0x15FF ∷ 0x1800 ∷ 0x1801 ∷ 0x1802 ∷ 0x19FF ∷ 0x1A00 ∷ 0x1BFF ∷ 0x1600 ∷ [])
    ≡ no_mapping ∷ no_mapping ∷ no_mapping ∷ codes "the PDO lacks sub-index 1, its COB-ID" ∷ codes "the PDO lacks sub-index 2, its transmission type" ∷ codes "the PDO lacks sub-indices 1 and 2, its COB-ID and its transmission type" ∷ codes "x"
    ∷ no_communication ∷ no_communication ∷ codes "x" ∷ []
pairs = refl

-- ---- by the node-ID that is given, or else the sheet's own

abbrev key : Key
key = record { index = 0x1014; sub = 0 }

by_node : meaning_in None sections (codes "DefaultValue=$NODEID+0x6D9") (BadCobId key) ∷ meaning_in (Some 6) sections (codes "DefaultValue=$NODEID+0x6D9") (BadCobId key) ∷ meaning_in None [] (codes "DefaultValue=$NODEID+0x6D9") (BadCobId key)
    ∷ meaning_in None [] (codes "ParameterValue = 0x601") (BadCobId key) ∷ meaning_in None sections [] (PdoPair 0x1803) ∷ meaning_in None sections [] (ValueRange key) ∷ []
    ≡ reserved ∷ of_channel ∷ build_meaning (BadCobId key) ∷ of_channel ∷ no_mapping ∷ build_meaning (ValueRange key) ∷ []
by_node = refl
