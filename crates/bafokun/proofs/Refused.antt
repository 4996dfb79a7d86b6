-- Why there is no device of a text.
use Rattle.std.proofs.Common.{ℕ, List}
use Rattle.co_sheet.specs.Content.{SheetContent, IsSheet}
use Rattle.bafokun.specs.declared.build.Settings.{Settings}
use Rattle.bafokun.specs.declared.build.Fault.{Fault}
use Rattle.bafokun.specs.Builds.{ByFault, ByMemory, IsRefused, IsUnbuilt, OfDevice, OfMemory, plan_for}

pub refused : (text : List ℕ) (node : ℕ) (settings : Settings) (sheet : SheetContent) (fault : Fault)
    → IsSheet text sheet → IsUnbuilt (plan_for node settings sheet) fault → IsRefused text node settings fault
refused text node settings sheet fault is (ByFault f why same) = OfDevice sheet is f why same
refused text node settings sheet fault is (ByMemory same) = OfMemory same
