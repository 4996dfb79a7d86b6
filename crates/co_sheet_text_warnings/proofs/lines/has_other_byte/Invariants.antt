use Rattle.std.proofs.Common.{◌≡◌, ◌||◌, drop, nat_lt}
use Rattle.std.specs.List.{list_any}
use Rattle.co_sheet_text_warnings.proofs.lines.has_other_byte.Given as goal

-- what those so far and the rest have is what the line has
abbrev pub invariant-loop-byte : goal.invariant-loop-byte
invariant-loop-byte l = (l.is_found || list_any (nat_lt 0x7F) (drop l.byte-index l.line)) ≡ list_any (nat_lt 0x7F) l.line
