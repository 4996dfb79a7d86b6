-- A seal that lends its device.
use Rattle.std.specs.Prelude.{Some}
use Rattle.std.specs.Borrow.{Fml, Lends, MutBor}
use Rattle.bafokun.specs.declared.held.Held.{Held}
use Rattle.bafokun.specs.declared.seal.Seal.{Seal}
use Rattle.bafokun.specs.contracts.seal.Seal.{the_row as seal_row}
use Rattle.bafokun.specs.contracts.held.Held.{the_row as held_row}

-- the seal of another device, at the same place
abbrev pub with_held : Seal → Held → Seal
with_held s held = record s { value = Some held }

-- the seal ends with the last value of the device that it lends
abbrev pub LendsHeld : MutBor Seal → MutBor Held → Fml
LendsHeld s r = Lends seal_row held_row s r (with_held s.now)
