-- The numbers, the names and the printed lines of the faults of a dictionary.
use Rattle.std.specs.Prelude.{ℕ, List, [], ◌++◌, codes}
use Rattle.std.specs.Fmt.{decimal}
use Rattle.co_text.specs.Printed.{digits_text}
use Rattle.co_value.specs.KeyTexts.{key_text}
use Rattle.co_dict_build.specs.declared.build_fault.BuildFault.{BuildFault}
use Rattle.co_dict_build.specs.declared.build_fault.BuildFault.TheVariants.{NodeId, ValueRange, BadCobId, PdoPair, BadMapping, TooMany, Memory}

-- the number of a fault: of several that apply, the one with the smallest number is returned
abbrev pub fault_number : BuildFault → ℕ
fault_number NodeId = 1
fault_number (ValueRange key) = 2
fault_number (BadCobId key) = 3
fault_number (PdoPair index) = 4
fault_number (BadMapping key) = 5
fault_number TooMany = 6
fault_number Memory = 7

-- the name of a fault
abbrev pub fault_name : BuildFault → List ℕ
fault_name NodeId = codes "NodeId"
fault_name (ValueRange key) = codes "ValueRange"
fault_name (BadCobId key) = codes "BadCobId"
fault_name (PdoPair index) = codes "PdoPair"
fault_name (BadMapping key) = codes "BadMapping"
fault_name TooMany = codes "TooMany"
fault_name Memory = codes "Memory"

-- where a fault is, after a space: at a key, at an index or at no place
abbrev pub fault_place : BuildFault → List ℕ
fault_place (ValueRange key) = codes " " ++ key_text key
fault_place (BadCobId key) = codes " " ++ key_text key
fault_place (PdoPair index) = codes " " ++ digits_text 16 4 index
fault_place (BadMapping key) = codes " " ++ key_text key
fault_place other = []

-- the printed line of a fault: `build fault 3 BadCobId 1800:01`
abbrev pub fault_text : BuildFault → List ℕ
fault_text fault = codes "build fault " ++ decimal (fault_number fault) ++ codes " " ++ fault_name fault ++ fault_place fault
