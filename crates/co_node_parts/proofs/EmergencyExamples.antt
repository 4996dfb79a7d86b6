-- Which emergency is sent, computed from the definitions: both sides of each edge.
use Rattle.std.proofs.Common.{◌≡◌, ℕ, true, false, List, [], ◌∷◌, refl}
use Rattle.std.specs.Prelude.{map, zero, suc, Some, None}
use Rattle.co_frame.specs.InhibitTimes.{in_ms}
use Rattle.co_frame.specs.declared.emergency.Emergency.{Emergency}
use Rattle.co_node_parts.specs.declared.emergencies.EmergencyEvent.TheVariants.{Queue, Empty, Tick, Quiet}
use Rattle.co_node_parts.specs.EmergencyQueues.{EmergencyLog, Noted, Sent, queue_of, emergency_due, with_sending, with_queued}

-- an emergency with a code, the error register 1 and no bytes of the manufacturer's
abbrev coded : ℕ → Emergency
coded code = record { code = code; register = 1; manufacturer = 0 ∷ 0 ∷ 0 ∷ 0 ∷ 0 ∷ [] }

-- several with these codes
abbrev several : List ℕ → List Emergency
several codes = map coded codes

abbrev eight : List ℕ
eight = 0x1001 ∷ 0x1002 ∷ 0x1003 ∷ 0x1004 ∷ 0x1005 ∷ 0x1006 ∷ 0x1007 ∷ 0x1008 ∷ []

-- so many ticks more
abbrev after_ticks : ℕ → EmergencyLog → EmergencyLog
after_ticks zero log = log
after_ticks (suc n) log = Noted Tick ∷ after_ticks n log

-- ---- the queue

nothing_waits : emergency_due true [] ≡ None
nothing_waits = refl

in_order : queue_of (with_queued (several (0x1001 ∷ 0x1002 ∷ [])) []) ≡ several (0x1001 ∷ 0x1002 ∷ [])
in_order = refl

eight_wait : queue_of (with_queued (several eight) []) ≡ several eight
eight_wait = refl

ninth_overwrites_the_oldest : queue_of (Noted (Queue (coded 0x1009)) ∷ with_queued (several eight) []) ≡ several (0x1002 ∷ 0x1003 ∷ 0x1004 ∷ 0x1005 ∷ 0x1006 ∷ 0x1007 ∷ 0x1008 ∷ 0x1009 ∷ [])
ninth_overwrites_the_oldest = refl

sending_takes_the_oldest : queue_of (Sent 0 ∷ with_queued (several (0x1001 ∷ 0x1002 ∷ [])) []) ≡ several (0x1002 ∷ [])
sending_takes_the_oldest = refl

ticks_leave_it : queue_of (Noted Quiet ∷ Noted Tick ∷ with_queued (several (0x1001 ∷ [])) []) ≡ several (0x1001 ∷ [])
ticks_leave_it = refl

reset_empties : queue_of (Noted Empty ∷ with_queued (several eight) []) ≡ []
reset_empties = refl

-- ---- when the front is sent

at_once : emergency_due true (Noted (Queue (coded 0x1001)) ∷ []) ≡ Some (coded 0x1001)
at_once = refl

may_not : emergency_due false (Noted (Queue (coded 0x1001)) ∷ []) ≡ None
may_not = refl

rounded_up : map in_ms (0 ∷ 1 ∷ 10 ∷ 11 ∷ 1000 ∷ 65535 ∷ []) ≡ 0 ∷ 1 ∷ 1 ∷ 2 ∷ 100 ∷ 6554 ∷ []
rounded_up = refl

-- the second of two, so many ticks after the first was sent with this inhibit time
abbrev second : ℕ → ℕ → EmergencyLog
second inhibit n = after_ticks n (Sent inhibit ∷ with_queued (several (0x1001 ∷ 0x1002 ∷ [])) [])

no_inhibit_time : emergency_due true (second 0 0) ≡ Some (coded 0x1002)
no_inhibit_time = refl

hundred_us_in_one_input : emergency_due true (second 1 0) ≡ None
hundred_us_in_one_input = refl

hundred_us : emergency_due true (second 1 1) ≡ Some (coded 0x1002)
hundred_us = refl

eleven_too_early : emergency_due true (second 11 1) ≡ None
eleven_too_early = refl

eleven : emergency_due true (second 11 2) ≡ Some (coded 0x1002)
eleven = refl

still_may_not : emergency_due false (second 11 2) ≡ None
still_may_not = refl

-- a reset ends the inhibit time
after_reset : emergency_due true (Noted (Queue (coded 0x1003)) ∷ Noted Empty ∷ second 1000 1) ≡ Some (coded 0x1003)
after_reset = refl

-- the inhibit time is that of the sending: 2 ms at the second of two counts from there
each_its_own : emergency_due true (Noted (Queue (coded 0x1003)) ∷ after_ticks 1 (Sent 20 ∷ second 11 2)) ≡ None
each_its_own = refl

each_its_own_over : emergency_due true (Noted (Queue (coded 0x1003)) ∷ after_ticks 2 (Sent 20 ∷ second 11 2)) ≡ Some (coded 0x1003)
each_its_own_over = refl

-- ten in ten inputs at an inhibit time of 100 ms: the first goes at once, the second is overwritten, the third goes at
-- tick 100
abbrev ten : EmergencyLog
ten = with_queued (several (0x1002 ∷ 0x1003 ∷ 0x1004 ∷ 0x1005 ∷ 0x1006 ∷ 0x1007 ∷ 0x1008 ∷ 0x1009 ∷ 0x100A ∷ []))
    (with_sending (Some (coded 0x1001)) 1000 (Noted (Queue (coded 0x1001)) ∷ []))

tick_99 : emergency_due true (after_ticks 99 ten) ≡ None
tick_99 = refl

tick_100 : emergency_due true (after_ticks 100 ten) ≡ Some (coded 0x1003)
tick_100 = refl

-- two at an inhibit time of 10 ms, the first sent before tick 1; at tick 10 another frame is sent in place of the second,
-- which goes at tick 12 where none may be sent at tick 11 either
waits_for_may : emergency_due true (after_ticks 12 (with_sending None 100 (second 100 0))) ≡ Some (coded 0x1002)
waits_for_may = refl
