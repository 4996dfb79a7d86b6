-- Faults for C.
use Rattle.co_value.specs.declared.key.Key.{Key}
use Rattle.co_sheet_rows.specs.declared.fault.SheetFault.{SheetFault}
use Rattle.co_sheet_rows.specs.FaultTexts.{fault_number as sheet_number}
use Rattle.co_dict_build.specs.declared.build_fault.BuildFault.{BuildFault}
use Rattle.co_dict_build.specs.declared.build_fault.BuildFault.TheVariants.{NodeId, ValueRange, BadCobId, PdoPair, BadMapping, TooMany, Memory}
use Rattle.co_dict_build.specs.BuildFaultTexts.{fault_number}
use Rattle.bafokun.specs.declared.build.Fault.{Fault}

-- no fault
abbrev pub no_fault : Fault
no_fault = record { line = 0; stage = 0; number = 0; index = 0; sub_index = 0 }

-- a fault of the data sheet
abbrev pub sheet_fault : SheetFault → Fault
sheet_fault f = record { line = f.line; stage = 1; number = sheet_number f.kind; index = 0; sub_index = 0 }

-- the entry that a fault of the device names
abbrev pub named_entry : BuildFault → Key
named_entry NodeId = record { index = 0; sub = 0 }
named_entry (ValueRange key) = key
named_entry (BadCobId key) = key
named_entry (PdoPair index) = record { index = index; sub = 0 }
named_entry (BadMapping key) = key
named_entry TooMany = record { index = 0; sub = 0 }
named_entry Memory = record { index = 0; sub = 0 }

-- a fault of the device
abbrev pub device_fault : BuildFault → Fault
device_fault f = record {
  line = 0;
  stage = 2;
  number = fault_number f;
  index = (named_entry f).index;
  sub_index = (named_entry f).sub;
}
