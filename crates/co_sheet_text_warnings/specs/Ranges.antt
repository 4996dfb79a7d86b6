-- Ranges of numbers, as those of indices (CiA 301, structure of the object dictionary).
use Rattle.std.specs.Prelude.{ℕ, Bool, ◌&&◌, nat_le}

-- a range of numbers, with both its ends
abbrev pub is_within : ℕ → ℕ → ℕ → Bool
is_within low high n = nat_le low n && nat_le n high
