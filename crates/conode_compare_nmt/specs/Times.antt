-- How far the clocks of the device and the recorder may differ, and how much time has passed between two frames.
use Rattle.std.specs.Prelude.{ℕ, ◌*◌, ◌-◌, nat_lt, if◌then◌else◌, Option, Some, option_map}
use Rattle.conode_compare_nmt.specs.declared.limits.Limits.{Limits}

-- so many percent of so many ms, in microseconds
abbrev pub drift_of : Limits → ℕ → ℕ
drift_of limits millis = (millis * limits.drift) * 10

-- How much time has passed at most between two frames, by their stamps. Where a recorder rounds these, or gives one to all frames
-- that it has read once none is left, two with one stamp are no farther apart than that is from the last other one, `earlier`.
-- Of a recorder that stamps a batch at its begin, or reads its queue in parts, they may be: so no difference is made by this time
-- alone. Where no other stamp came before, as in a recording without stamps, nothing is known.
abbrev pub most_passed : Option ℕ → ℕ → ℕ → Option ℕ
most_passed earlier from micros = if nat_lt from micros then Some (micros - from) else option_map (λ stamp. micros - stamp) earlier
