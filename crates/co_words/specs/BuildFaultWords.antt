-- What a build fault means and how it is fixed, in words.
use Rattle.std.specs.Prelude.{ℕ, List, codes}
use Rattle.co_dict_build.specs.declared.build_fault.BuildFault.{BuildFault}
use Rattle.co_dict_build.specs.declared.build_fault.BuildFault.TheVariants.{NodeId, ValueRange, BadCobId, PdoPair, BadMapping, TooMany, Memory}

-- what it means
abbrev pub build_meaning_of : BuildFault → List ℕ
build_meaning_of NodeId = codes "the node-ID isn't one of 1 to 127"
build_meaning_of (ValueRange key) = codes "the default is a sum with $NODEID outside the type or the limits for this node-ID"
build_meaning_of (BadCobId key) = codes "the COB-ID is reserved, belongs to an SDO channel or has bits that it may not have"
build_meaning_of (PdoPair index) = codes "the PDO has no partner object, or lacks a sub-index that it needs"
build_meaning_of (BadMapping key) = codes "the PDO counts a missing or unmappable entry, a wrong length, or more than 64 bits"
build_meaning_of TooMany = codes "there are more than 16,384 entries, or more than 16,777,216 bytes of room"
build_meaning_of Memory = codes "memory ran out"

-- how it is fixed
abbrev pub build_fix_of : BuildFault → List ℕ
build_fix_of NodeId = codes "give one of these"
build_fix_of (ValueRange key) = codes "correct the number or the limit"
build_fix_of (BadCobId key) = codes "give a free identifier, or set bit 31 of a PDO that isn't used"
build_fix_of (PdoPair index) = codes "list or describe it; or take the partner out too"
build_fix_of (BadMapping key) = codes "set PDOMapping=1 for the entry, correct the words, or lower the count"
build_fix_of TooMany = codes "take objects out of the lists; give strings and domains less room"
build_fix_of Memory = codes "run it again with more memory"
