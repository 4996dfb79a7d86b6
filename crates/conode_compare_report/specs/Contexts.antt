-- The lines of the recording around differences.
use Rattle.std.specs.Prelude.{ℕ, ◌+◌, ◌-◌, ◌^◌, min, nat_lt, List, drop, take, position}
use Rattle.std.specs.Option.{option_map_or}
use Rattle.conode_compare_report.specs.declared.noted.Noted.{Noted}

-- a line with its number, from 1 on
pub record KeptLine : Type 0 where
  pub number : ℕ
  pub bytes : List ℕ

-- the line three after, up to 2^64 - 1
abbrev pub greatest_around : ℕ → ℕ
greatest_around line = min (line + 3) (2 ^ 64 - 1)

-- the lines around a difference, among those that are kept: they begin at its place, and end at the
-- third after its own
abbrev pub around : List KeptLine → Noted → List KeptLine
around context noted =
    option_map_or (λ count. take count (drop noted.first context))
    (position (λ line. nat_lt (greatest_around noted.line) line.number) (drop noted.first context))
    (drop noted.first context)
