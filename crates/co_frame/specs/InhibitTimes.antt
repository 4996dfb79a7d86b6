-- The inhibit time, in 100 µs, between two sendings of a frame (CiA 301, 7.5.2.18 and 7.5.2.37). A
-- tick is 1 ms.
use Rattle.std.specs.Prelude.{ℕ, ◌+◌, ◌/◌, Bool, nat_le}

-- from 100 µs to ms, rounded up
abbrev pub in_ms : ℕ → ℕ
in_ms n = (n + 9) / 10

-- an inhibit time has elapsed this many ticks after a frame was sent
abbrev pub has_elapsed : ℕ → ℕ → Bool
has_elapsed inhibit_time age = nat_le (in_ms inhibit_time) age
