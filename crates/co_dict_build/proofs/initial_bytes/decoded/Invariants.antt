-- What is decoded and what the rest gives is what all digits give.
use Rattle.std.proofs.Common.{◌≡◌, ◌++◌, length, true}
use Rattle.std.specs.List.{list_all}
use Rattle.co_sheet.specs.Names.{is_hexadecimal_digit}
use Rattle.co_dict_build.specs.Capacities.{decoded}
use Rattle.co_dict_build.proofs.initial_bytes.decoded.Given as goal

abbrev pub invariant-loop-rest : goal.invariant-loop-rest
invariant-loop-rest l = (l.bytes.items ++ decoded l.rest ≡ decoded l.digits) × (list_all is_hexadecimal_digit l.rest ≡ true)

abbrev pub decreases-loop-rest : goal.decreases-loop-rest
decreases-loop-rest l = length l.rest
