-- How often heartbeats should come, evaluated.
use Rattle.std.proofs.Common.{ℕ, Option, [], ◌∷◌, ◌≡◌, Some, None, true, false, refl}
use Rattle.std.specs.Prelude.{List, codes}
use Rattle.std.specs.Fmt.{digits}
use Rattle.co_text.specs.Printed.{digits_text}
use Rattle.conode_stats_counts.specs.declared.heartbeats.Heartbeats.{Heartbeats}
use Rattle.conode_stats_text.specs.declared.pace.Pace.TheVariants.{Written, Sheet, Median, Pdos}
use Rattle.conode_stats_text.specs.declared.finding.Finding.TheVariants.{Late, Lost}
use Rattle.conode_stats_text.specs.Cells.{seconds, thousandths}
use Rattle.conode_stats_text.specs.Findings.{late_in, lost_in}
use Rattle.conode_stats_text.specs.StatsLines.{node_front}
use Rattle.conode_stats_text.specs.Paces.{is_long, late_line, lost_line, median, pace_of, silent_line, usual_pace}

-- ---- the median

of_five : median (200 ∷ 900 ∷ 100 ∷ 300 ∷ 250 ∷ []) ≡ Some 250
unfolding median
of_five = refl

-- the shorter of the two in the middle
of_four : median (200 ∷ 900 ∷ 100 ∷ 300 ∷ []) ≡ Some 200
unfolding median
of_four = refl

of_equal : median (200 ∷ 200 ∷ []) ≡ Some 200
unfolding median
of_equal = refl

of_one : median (200 ∷ []) ≡ None
unfolding median
of_one = refl

-- ---- what counts

abbrev pub heartbeats : Option ℕ → ℕ → ℕ → List ℕ → Heartbeats
heartbeats written late longest first = record { written = written; since = Some 1000000; late = late; longest_late = 151000; longest = longest; first = first }

recorded : pace_of (Some 300) (heartbeats (Some 100) 0 0 []) ≡ Some (Written 100)
recorded = refl

by_sheet : pace_of (Some 300) (heartbeats None 0 0 (200000 ∷ 200000 ∷ [])) ≡ Some (Sheet 300)
by_sheet = refl

by_median : pace_of None (heartbeats None 0 0 (200000 ∷ 200000 ∷ [])) ≡ Some (Median 200000)
unfolding median
by_median = refl

unknown : pace_of None (heartbeats None 0 0 (200000 ∷ [])) ≡ None
unfolding median
unknown = refl

-- for waits while no transfer showed the time
usual : usual_pace (Some 300) (heartbeats (Some 100) 0 0 []) ≡ Some (Sheet 300)
usual = refl

-- ---- 1.5 times as long

not_long : is_long (Median 200001) 300001 ≡ false
not_long = refl

long : is_long (Median 200001) 300002 ≡ true
long = refl

long_by_sheet : is_long (Sheet 200) 300001 ≡ true
long_by_sheet = refl

not_long_by_recording : is_long (Written 200) 300000 ≡ false
not_long_by_recording = refl

-- PDOs with a gap of 200 ms are missed after a second, with one of 400 ms after three such gaps
not_long_by_pdos : is_long (Pdos 200000) 1000000 ≡ false
not_long_by_pdos = refl

long_by_pdos : is_long (Pdos 200000) 1000001 ≡ true
long_by_pdos = refl

not_long_by_slow_pdos : is_long (Pdos 400000) 1200002 ≡ false
not_long_by_slow_pdos = refl

long_by_slow_pdos : is_long (Pdos 400000) 1200003 ≡ true
long_by_slow_pdos = refl

-- ---- what looks wrong

abbrev two : List ℕ
two = 200000 ∷ 200000 ∷ []

not_lost : lost_in None (heartbeats None 0 300000 two) ≡ None
unfolding median
not_lost = refl

lost_by_median : lost_in None (heartbeats None 0 300001 two) ≡ Some (Lost 300001 (Median 200000))
unfolding median
lost_by_median = refl

lost_by_sheet : lost_in (Some 100) (heartbeats None 0 150001 []) ≡ Some (Lost 150001 (Sheet 100))
lost_by_sheet = refl

not_lost_by_sheet : lost_in (Some 100) (heartbeats None 0 150000 []) ≡ None
not_lost_by_sheet = refl

late : late_in (heartbeats (Some 100) 2 0 []) ≡ Some (Late 2 151000)
late = refl

not_late : late_in (heartbeats (Some 100) 0 0 []) ≡ None
not_late = refl

-- ---- lines

silent_by_recording : silent_line (codes "can0") 5 1000000 (Written 100) ≡ codes "  can0: node 5 silent since 1.000000, 1017h as recorded 100 ms\n"
unfolding silent_line node_front seconds digits_text digits
silent_by_recording = refl

silent_by_pdos : silent_line (codes "can0") 5 1000000 (Pdos 103000) ≡ codes "  can0: node 5 silent since 1.000000, greatest gap of its PDOs 103.000 ms\n"
unfolding silent_line node_front seconds thousandths digits_text digits
silent_by_pdos = refl

late_by_recording : late_line (codes "can0") 5 2 151000
    ≡ codes "  can0: node 5 heartbeats later than 1.5 times 1017h as recorded: 2, up to 151.000 ms\n"
unfolding late_line node_front thousandths digits_text digits
late_by_recording = refl

by_the_median : lost_line (codes "can0") 5 300001 (Median 200000) ≡ codes "  can0: node 5 heartbeats up to 300.001 ms apart, median 200.000 ms\n"
unfolding lost_line node_front thousandths digits_text digits
by_the_median = refl

by_the_sheet : lost_line (codes "can0") 5 300000 (Sheet 100)
    ≡ codes "  can0: node 5 heartbeats up to 300.000 ms apart, 1017h of the sheet 100 ms\n"
unfolding lost_line node_front thousandths digits_text digits
by_the_sheet = refl
