use Rattle.std.proofs.Common.{◌≡◌, ◌++◌, map, drop}
use Rattle.co_dict_build.specs.declared.build_fault.BuildFault.TheVariants.{ValueRange}
use Rattle.co_dict_faults.proofs.find.add_value_ranges.Given as goal

-- those so far, and after them those of the rest
abbrev pub invariant-loop-key : goal.invariant-loop-key
invariant-loop-key l = l.faults.items ++ map ValueRange (drop l.key-index l.outside) ≡ l.fn.faults.items ++ map ValueRange l.outside
