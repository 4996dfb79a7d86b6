-- Times: stamps in microseconds, limits in milliseconds.
use Rattle.std.specs.Prelude.{ℕ, ◌*◌, ◌-◌, nat_lt, Bool}

-- milliseconds in microseconds
abbrev pub micros_of : ℕ → ℕ
micros_of millis = millis * 1000

-- a stamp is more than so many ms after another one
abbrev pub is_past : ℕ → ℕ → ℕ → Bool
is_past from millis micros = nat_lt (micros_of millis) (micros - from)
