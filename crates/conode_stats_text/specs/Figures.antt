-- Figures derived from the counts. Times are in microseconds.
use Rattle.std.specs.Prelude.{ℕ, ◌+◌, ◌-◌, ◌*◌, ◌/◌, ◌%◌, ◌^◌, ◌==◌, nat_lt, ◌||◌, if◌then◌else◌, Option, Some, None}
use Rattle.conode_stats_counts.specs.declared.tally.Tally.{Tally}

-- number * scale / whole, rounded down; none if whole is 0, or the product needs more than 64 bits
unfoldable pub ratio : ℕ → ℕ → ℕ → Option ℕ
ratio number scale whole =
    if (whole == 0) || nat_lt (2 ^ 64 - 1) (number * scale) then None else Some (number * scale / whole)

-- frames per second, in tenths: each frame after the first adds a gap
abbrev pub rate : Tally → Option ℕ
rate tally = ratio tally.gaps 10000000 tally.total

-- a gap, if there is one; in a log without stamps each stamp is 0
abbrev pub gap_of : Tally → ℕ → Option ℕ
gap_of tally gap = if (tally.gaps == 0) || (tally.last == 0) then None else Some gap

-- the mean gap
abbrev pub mean : Tally → Option ℕ
mean tally = if tally.gaps == 0 then None else gap_of tally (tally.total / tally.gaps)

-- how many bits fit on a bus with this bit rate, in a time
unfoldable pub room_in : ℕ → ℕ → ℕ
room_in bit_rate micros = micros / 1000000 * bit_rate + micros % 1000000 * bit_rate / 1000000

-- the share of that room that bits take, in tenths of a percent
abbrev pub load : ℕ → ℕ → Option ℕ
load bits room = ratio bits 1000 room
