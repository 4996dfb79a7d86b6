-- The faults of numbers and their bytes, and how they are printed.
use Rattle.std.specs.Prelude.{ℕ, List, codes}
use Rattle.co_value.specs.declared.value.ValueFault.{ValueFault}
use Rattle.co_value.specs.declared.value.ValueFault.TheVariants.{OutOfRange, WrongLength}

-- a fault is printed as its name
abbrev pub fault_name : ValueFault → List ℕ
fault_name OutOfRange = codes "OutOfRange"
fault_name WrongLength = codes "WrongLength"
