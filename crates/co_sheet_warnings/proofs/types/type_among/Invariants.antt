use Rattle.std.proofs.Common.{◌≡◌, ◌&&◌, nat_le, drop}
use Rattle.std.specs.Prelude.{find}
use Rattle.co_sheet_text_warnings.specs.Ranges.{is_within}
use Rattle.co_sheet_warnings.proofs.types.type_among.Given as goal

-- what is found in the rest is found in all
abbrev pub invariant-loop-row : goal.invariant-loop-row
invariant-loop-row l =
    find (λ r. is_within r.1 r.2 l.key.index && nat_le r.3 l.key.sub && nat_le l.key.sub r.4) (drop l.row-index l.types)
    ≡ find (λ r. is_within r.1 r.2 l.key.index && nat_le r.3 l.key.sub && nat_le l.key.sub r.4) l.types
