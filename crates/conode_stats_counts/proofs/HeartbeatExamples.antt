-- Heartbeats and answers, evaluated. Logs have the newest event first.
use Rattle.std.proofs.Common.{List, [], ◌∷◌, ◌≡◌, Some, None, true, false, refl}
use Rattle.conode_explain_transfers.specs.declared.kinds.Direction.TheVariants.{Download, Upload}
use Rattle.conode_stats_counts.specs.declared.sdo_frame.SdoFrame.TheVariants.{Abort, Request, Response}
use Rattle.conode_stats_counts.specs.declared.state.NmtState.TheVariants.{BootUp, Operational}
use Rattle.conode_stats_counts.specs.Heartbeats.{first_gaps, is_late, late_gaps, longest_answer, other_gaps, pending, since, written_time}
use Rattle.conode_stats_counts.specs.States.{NodeEvent, Commanded, Sent, Exchanged, Timed, Asked}

-- ---- which wait is too long

-- 1.5 times 200 ms
not_late : is_late 200 300000 ≡ false
not_late = refl

late : is_late 200 300001 ≡ true
late = refl

-- without heartbeats none is too late
never_late : is_late 0 1000000 ≡ false
never_late = refl

-- ---- heartbeats without a download: gaps of 20 and 30 ms; none up to a boot-up, nor where a stamp
-- steps back

abbrev beats : List NodeEvent
beats = Sent Operational false 90000 ∷ Sent Operational false 95000 ∷ Sent BootUp false 65000 ∷ Sent Operational false 60000 ∷ Commanded ∷ Sent Operational false 40000 ∷ []

gaps_without : other_gaps beats ≡ 30000 ∷ 20000 ∷ []
unfolding other_gaps since written_time
gaps_without = refl

none_late_without : late_gaps beats ≡ []
unfolding late_gaps since written_time
none_late_without = refl

-- of guarding answers
gaps_guarded : other_gaps (Sent Operational false 90000 ∷ Asked 89000 ∷ Sent Operational false 60000 ∷ []) ≡ 30000 ∷ []
unfolding other_gaps since written_time
gaps_guarded = refl

-- the first two, in the order in which they came
first_two : first_gaps (30000 ∷ 20000 ∷ []) ≡ 20000 ∷ 30000 ∷ []
first_two = refl

-- ---- a download of 10 ms: 16 ms after it is too late, and then 15 ms is not

abbrev written : List NodeEvent
written = Timed Download 10 101000 ∷ beats

time_written : written_time written ≡ Some 10
unfolding written_time
time_written = refl

since_written : since written ≡ Some 101000
unfolding since
since_written = refl

late_after : late_gaps (Sent Operational false 132000 ∷ Sent Operational false 117000 ∷ written) ≡ 16000 ∷ []
unfolding late_gaps since written_time
late_after = refl

-- they are none of those without a download
others_after : other_gaps (Sent Operational false 132000 ∷ Sent Operational false 117000 ∷ written) ≡ 30000 ∷ 20000 ∷ []
unfolding other_gaps since written_time
others_after = refl

-- a boot-up ends it
booted_since : written_time (Sent BootUp false 120000 ∷ written) ≡ None
unfolding written_time
booted_since = refl

-- the newer one counts
newer_written : written_time (Timed Upload 20 103000 ∷ written) ≡ Some 20
unfolding written_time
newer_written = refl

-- ---- an upload of 10 ms: the wait goes on since the heartbeat before it, so that 15 ms is in time,
-- and 16 ms too late

abbrev read : List NodeEvent
read = Timed Upload 10 101000 ∷ beats

since_read : since read ≡ Some 90000
unfolding since
since_read = refl

in_time_after : late_gaps (Sent Operational false 105000 ∷ read) ≡ []
unfolding late_gaps since written_time
in_time_after = refl

late_after_read : late_gaps (Sent Operational false 106000 ∷ read) ≡ 16000 ∷ []
unfolding late_gaps since written_time
late_after_read = refl

-- before any heartbeat it begins there
since_first_read : since (Timed Upload 10 101000 ∷ []) ≡ Some 101000
unfolding since
since_first_read = refl

-- ---- answers: 1 ms, 4 ms since the newer of two requests, none after an abort or another answer, or
-- where the stamp steps back

abbrev answers : List NodeEvent
answers = Exchanged Response 30000 ∷ Exchanged Request 31000 ∷ Exchanged Response 29000 ∷ Exchanged Response 16000
    ∷ Exchanged Request 12000 ∷ Exchanged Request 3000 ∷ Exchanged Response 2000 ∷ Exchanged Request 1000 ∷ []

four_ms : longest_answer answers ≡ Some 4000
unfolding longest_answer pending
four_ms = refl

one_ms : longest_answer (Exchanged Response 2000 ∷ Sent Operational false 1500 ∷ Commanded ∷ Exchanged Request 1000 ∷ []) ≡ Some 1000
unfolding longest_answer pending
one_ms = refl

no_answer : longest_answer (Exchanged Response 9000 ∷ Exchanged Abort 8000 ∷ Exchanged Request 1000 ∷ []) ≡ None
unfolding longest_answer pending
no_answer = refl

booted_before_answer : longest_answer (Exchanged Response 9000 ∷ Sent BootUp false 8000 ∷ Exchanged Request 1000 ∷ []) ≡ None
unfolding longest_answer pending
booted_before_answer = refl
