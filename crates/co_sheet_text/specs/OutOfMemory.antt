-- Out of memory, which is no line's fault.
use Rattle.std.specs.Prelude.{Bool, true, false}
use Rattle.co_sheet_text.specs.declared.fault.TextFaultKind.{TextFaultKind}
use Rattle.co_sheet_text.specs.declared.fault.TextFaultKind.TheVariants.{Memory}
use Rattle.co_sheet_text.specs.declared.fault.TextFault.{TextFault}

-- it has no line
abbrev pub out_of_memory : TextFault
out_of_memory = record { kind = Memory; line = 0 }

abbrev pub is_memory : TextFaultKind → Bool
is_memory Memory = true
is_memory kind = false
