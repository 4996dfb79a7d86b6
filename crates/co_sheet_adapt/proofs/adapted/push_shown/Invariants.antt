use Rattle.std.proofs.Common.{◌≡◌, ◌++◌, map, take}
use Rattle.co_sheet_adapt.specs.Adapted.{shown_byte}
use Rattle.co_sheet_adapt.proofs.adapted.push_shown.Given as goal

-- those so far
abbrev pub invariant-loop-byte : goal.invariant-loop-byte
invariant-loop-byte l = l.text.items ≡ l.fn.text.items ++ map shown_byte (take l.byte-index l.bytes)
