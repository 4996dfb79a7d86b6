-- The status of a comparison.
use Rattle.std.specs.Prelude.{ℕ, ◌==◌, nat_lt, Bool, ◌&&◌, ◌||◌, if◌then◌else◌}
use Rattle.conode_compare_text.specs.declared.tally.Tally.{Tally}

-- no frame of the device came
abbrev pub no_frame : Tally → Bool
no_frame tally = (tally.prescribed == 0) && ((tally.different == 0) && (tally.unjudged == 0))

-- 2 where the device isn't seen, or it isn't said on which interface it is; 1 where there is a
-- difference; else 0
abbrev pub verdict_status : Tally → Bool → ℕ
verdict_status tally several = if several || no_frame tally then 2 else (if nat_lt 0 tally.different then 1 else 0)
