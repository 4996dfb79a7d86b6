use Rattle.std.proofs.Common.{◌≡◌, take}
use Rattle.std.specs.Prelude.{string_bytes}
use Rattle.std.specs.List.{flat_map}
use Rattle.co_sheet_adapt.specs.LeftOut.{utf16_byte}
use Rattle.co_sheet_adapt.proofs.left_out.utf16.Given as goal

-- those so far
abbrev pub invariant-loop-byte : goal.invariant-loop-byte
invariant-loop-byte l = string_bytes l.made ≡ flat_map utf16_byte (take l.byte-index l.text)
