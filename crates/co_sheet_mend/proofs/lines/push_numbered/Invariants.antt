use Rattle.std.proofs.Common.{◌≡◌, ◌+◌, ◌++◌, drop, map}
use Rattle.co_sheet_mend.specs.Repairs.{numbered_from}
use Rattle.co_sheet_mend.proofs.lines.push_numbered.Given as goal

-- those so far, and after them the rest
abbrev pub invariant-loop-value : goal.invariant-loop-value
invariant-loop-value l = record {
  number : l.number ≡ l.value-index + 1;
  made : l.made.items ++ numbered_from l.number (map (λ value. value.now) (drop l.value-index l.values))
      ≡ l.fn.made.items ++ numbered_from 1 (map (λ value. value.now) l.values);
}
