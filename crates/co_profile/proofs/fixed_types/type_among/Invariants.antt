use Rattle.std.proofs.Common.{◌≡◌, ◌&&◌, nat_le, drop}
use Rattle.std.specs.Prelude.{find}
use Rattle.co_profile.specs.Indices.{is_within}
use Rattle.co_profile.proofs.fixed_types.type_among.Given as goal

-- what is found in the rest is found in all
abbrev pub invariant-loop-fixed : goal.invariant-loop-fixed
invariant-loop-fixed l =
    find (λ f. is_within f.1 l.key.index && nat_le f.2 l.key.sub && nat_le l.key.sub f.3) (drop l.fixed-index l.types)
    ≡ find (λ f. is_within f.1 l.key.index && nat_le f.2 l.key.sub && nat_le l.key.sub f.3) l.types
