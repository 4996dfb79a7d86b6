-- How often a node should send a heartbeat, or its PDOs, and which waits were too long. Times are in
-- microseconds, producer heartbeat times in milliseconds.
use Rattle.std.specs.Prelude.{ℕ, ◌+◌, ◌-◌, ◌*◌, ◌/◌, ◌^◌, Bool, nat_le, nat_lt, min, fold, ◌&&◌, if◌then◌else◌, List, [], ◌∷◌, codes, decimal, length, Option, Some, None}
use Rattle.std.specs.List.{concat, count_by}
use Rattle.conode_stats_counts.specs.declared.heartbeats.Heartbeats.{Heartbeats}
use Rattle.conode_stats_counts.specs.Heartbeats.{is_late}
use Rattle.conode_stats_text.specs.declared.pace.Pace.{Pace}
use Rattle.conode_stats_text.specs.declared.pace.Pace.TheVariants.{Written, Sheet, Median, Pdos}
use Rattle.conode_stats_text.specs.Cells.{seconds, thousandths}
use Rattle.conode_stats_text.specs.StatsLines.{node_front}

-- ---- the median

-- whether half of the gaps, or more, are no longer than this one
abbrev pub is_half : List ℕ → ℕ → Bool
is_half gaps gap = nat_le (length gaps) (2 * count_by (λ other. nat_le other gap) gaps)

-- the shorter one, if the new one passes
abbrev pub shorter_if : List ℕ → ℕ → ℕ → ℕ
shorter_if gaps least gap = if is_half gaps gap then min least gap else least

-- the median: the shortest gap such that half of the gaps, or more, are no longer
abbrev pub median_of : List ℕ → ℕ
median_of gaps = fold (shorter_if gaps) (2 ^ 64 - 1) gaps

-- of fewer than two gaps there is none
unfoldable pub median : List ℕ → Option ℕ
median gaps = if nat_lt (length gaps) 2 then None else Some (median_of gaps)

-- ---- how often

abbrev pub median_pace : Option ℕ → Option Pace
median_pace None = None
median_pace (Some gap) = Some (Median gap)

-- while no transfer shows the time: that of the sheet, or else the median of the first gaps
abbrev pub usual_pace : Option ℕ → Heartbeats → Option Pace
usual_pace (Some time) heartbeats = Some (Sheet time)
usual_pace None heartbeats = median_pace (median heartbeats.first)

-- at the end
abbrev pub pace_by : Option ℕ → Option ℕ → Heartbeats → Option Pace
pace_by (Some time) sheet heartbeats = Some (Written time)
pace_by None sheet heartbeats = usual_pace sheet heartbeats

abbrev pub pace_of : Option ℕ → Heartbeats → Option Pace
pace_of sheet heartbeats = pace_by heartbeats.written sheet heartbeats

-- whether a wait is more than 1.5 times as long; for PDOs more than three times their greatest gap, and more
-- than a second
abbrev pub is_long : Pace → ℕ → Bool
is_long (Written time) gap = is_late time gap
is_long (Sheet time) gap = is_late time gap
is_long (Median median) gap = nat_lt (median + median / 2) gap
is_long (Pdos greatest) gap = nat_lt 1000000 gap && nat_lt greatest (gap / 3)

-- ---- the lines

-- to the end of the line
abbrev pub pace_front : Pace → List ℕ
pace_front (Written time) = codes ", 1017h as recorded "
pace_front (Sheet time) = codes ", 1017h of the sheet "
pace_front (Median median) = codes ", median "
pace_front (Pdos greatest) = codes ", greatest gap of its PDOs "

abbrev pub pace_figure : Pace → List ℕ
pace_figure (Written time) = decimal time
pace_figure (Sheet time) = decimal time
pace_figure (Median median) = thousandths median
pace_figure (Pdos greatest) = thousandths greatest

unfoldable pub silent_line : List ℕ → ℕ → ℕ → Pace → List ℕ
silent_line interface node stamp pace =
    concat (node_front interface node ∷ codes " silent since " ∷ seconds stamp ∷ pace_front pace ∷ pace_figure pace ∷ codes " ms\n" ∷ [])

unfoldable pub lost_line : List ℕ → ℕ → ℕ → Pace → List ℕ
lost_line interface node gap pace =
    concat (node_front interface node ∷ codes " heartbeats up to " ∷ thousandths gap ∷ codes " ms apart" ∷ pace_front pace ∷ pace_figure pace
    ∷ codes " ms\n" ∷ [])

unfoldable pub late_line : List ℕ → ℕ → ℕ → ℕ → List ℕ
late_line interface node count gap =
    concat (node_front interface node ∷ codes " heartbeats later than 1.5 times 1017h as recorded: " ∷ decimal count
    ∷ codes ", up to " ∷ thousandths gap ∷ codes " ms\n" ∷ [])

-- ---- what looks wrong

-- the longest wait, if it is too long
abbrev pub lost_gap : Option Pace → ℕ → Option ℕ
lost_gap (Some pace) gap = if is_long pace gap then Some gap else None
lost_gap None gap = None
