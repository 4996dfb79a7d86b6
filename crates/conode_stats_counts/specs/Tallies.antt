-- What is kept of the stamps of frames.
use Rattle.std.specs.Prelude.{ℕ, ◌+◌, ◌-◌, ◌==◌, nat_lt, min, max, if◌then◌else◌, List, length, sum}
use Rattle.conode_stats_counts.specs.declared.tally.Tally.{Tally}
use Rattle.conode_stats_counts.specs.Gaps.{counted, gaps, greatest, most, newest, oldest, smallest, step_from, step_to, steps_back}

-- the tally of stamps, the newest first
unfoldable pub tally_of : List ℕ → Tally
tally_of stamps = record {
  first = oldest stamps;
  last = newest stamps;
  frames = counted (length stamps);
  steps_back = counted (steps_back stamps);
  step_from = step_from stamps;
  step_to = step_to stamps;
  gaps = counted (length (gaps stamps));
  total = counted (sum (gaps stamps));
  smallest = smallest (gaps stamps);
  greatest = greatest (gaps stamps);
}

-- ---- the time that passed

-- the time from a stamp to the last one. A stamp above the last one came before the last step back:
-- the time up to this step, and from it on
abbrev pub elapsed : Tally → ℕ → ℕ
elapsed tally stamp =
    if nat_lt tally.last stamp then counted ((tally.step_from - stamp) + (tally.last - tally.step_to)) else tally.last - stamp

-- ---- one stamp more, as it is counted

-- the first stamp
abbrev pub first_tally : ℕ → Tally
first_tally micros = record {
  first = micros;
  last = micros;
  frames = 1;
  steps_back = 0;
  step_from = 0;
  step_to = 0;
  gaps = 0;
  total = 0;
  smallest = most;
  greatest = 0;
}

-- a stamp that steps back
abbrev pub tally_back : Tally → ℕ → Tally
tally_back tally micros = record tally {
  last = micros;
  frames = counted (tally.frames + 1);
  steps_back = counted (tally.steps_back + 1);
  step_from = tally.last;
  step_to = micros;
}

-- a stamp that doesn't
abbrev pub tally_on : Tally → ℕ → Tally
tally_on tally micros = record tally {
  last = micros;
  frames = counted (tally.frames + 1);
  gaps = counted (tally.gaps + 1);
  total = counted (tally.total + (micros - tally.last));
  smallest = min tally.smallest (micros - tally.last);
  greatest = max tally.greatest (micros - tally.last);
}

unfoldable pub tally_with : Tally → ℕ → Tally
tally_with tally micros =
    if tally.frames == 0 then first_tally micros
    else (if nat_lt micros tally.last then tally_back tally micros else tally_on tally micros)
