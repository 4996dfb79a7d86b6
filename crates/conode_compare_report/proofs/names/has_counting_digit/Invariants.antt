use Rattle.std.proofs.Common.{◌≡◌, drop}
use Rattle.std.specs.List.{list_any}
use Rattle.conode_compare_report.specs.SheetNames.{is_counting_digit}
use Rattle.conode_compare_report.proofs.names.has_counting_digit.Given as goal

-- none of those so far is one
abbrev pub invariant-loop-byte : goal.invariant-loop-byte
invariant-loop-byte l = list_any is_counting_digit (drop l.byte-index l.value) ≡ list_any is_counting_digit l.value
