-- The faults of a frame: their numbers, and how they are printed.
use Rattle.std.specs.Prelude.{ℕ, List, codes}
use Rattle.co_frame.specs.declared.frame.FrameFault.{FrameFault}
use Rattle.co_frame.specs.declared.frame.FrameFault.TheVariants.{BadId, TooLong}

-- the identifier is looked at first
abbrev pub fault_number : FrameFault → ℕ
fault_number BadId = 1
fault_number TooLong = 2

-- a fault is printed as its name
abbrev pub fault_name : FrameFault → List ℕ
fault_name BadId = codes "BadId"
fault_name TooLong = codes "TooLong"
