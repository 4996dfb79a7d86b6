-- Guarding requests, answers and heartbeats, evaluated. Logs have the newest event first.
use Rattle.std.proofs.Common.{List, [], ◌∷◌, ◌≡◌, Some, None, true, false, refl}
use Rattle.conode_explain_transfers.specs.declared.kinds.Direction.TheVariants.{Download, Upload}
use Rattle.conode_stats_counts.specs.declared.guarding.ErrorControl.TheVariants.{Nothing, Heartbeat, AskedHeartbeat, TimedHeartbeat, Requested, Answer}
use Rattle.conode_stats_counts.specs.declared.sdo_frame.SdoFrame.TheVariants.{Request}
use Rattle.conode_stats_counts.specs.declared.state.NmtState.TheVariants.{BootUp, Operational, Unknown}
use Rattle.conode_stats_counts.specs.Guardings.{control_of, unanswered}
use Rattle.conode_stats_counts.specs.States.{NodeEvent, Commanded, Sent, Exchanged, Timed, Asked}

-- ---- requests

-- a node that answered one
abbrev answered : List NodeEvent
answered = Sent Operational false 120 ∷ Asked 100 ∷ []

none_open : unanswered answered ≡ None
unfolding unanswered
none_open = refl

-- the first of two, whatever else came
first_open : unanswered (Asked 300 ∷ Exchanged Request 280 ∷ Commanded ∷ Asked 200 ∷ answered) ≡ Some 200
unfolding unanswered
first_open = refl

asked_alone : unanswered (Asked 100 ∷ []) ≡ Some 100
unfolding unanswered
asked_alone = refl

still_open : unanswered (Timed Download 500 220 ∷ Asked 200 ∷ answered) ≡ Some 200
unfolding unanswered
still_open = refl

-- ---- the first frame

nothing_sent : control_of (Asked 100 ∷ []) ≡ Nothing
unfolding control_of
nothing_sent = refl

without_request : control_of (Sent Operational false 120 ∷ []) ≡ Heartbeat
unfolding control_of unanswered
without_request = refl

after_request : control_of answered ≡ Requested
unfolding control_of unanswered
after_request = refl

with_toggle : control_of (Sent Operational true 120 ∷ []) ≡ Answer true
unfolding control_of unanswered
with_toggle = refl

-- a request that isn't answered, a command and an SDO frame make it no other
still_the_same : control_of (Exchanged Request 280 ∷ Commanded ∷ Asked 200 ∷ answered) ≡ Requested
unfolding control_of unanswered
still_the_same = refl

-- ---- answers

-- with a toggle bit that alternates
alternating : control_of (Sent Operational true 220 ∷ Asked 200 ∷ answered) ≡ Answer true
unfolding control_of unanswered
alternating = refl

alternating_back : control_of (Sent Operational false 320 ∷ Asked 300 ∷ Sent Operational true 220 ∷ Asked 200 ∷ answered) ≡ Answer false
unfolding control_of unanswered
alternating_back = refl

-- though the recording lacks the request
unrecorded : control_of (Sent Operational false 320 ∷ Sent Operational true 220 ∷ []) ≡ Answer false
unfolding control_of unanswered
unrecorded = refl

-- the bit is the same twice: an answer is missing
missing_set : control_of (Sent Operational true 320 ∷ Asked 300 ∷ Sent Operational true 220 ∷ []) ≡ Answer true
unfolding control_of unanswered
missing_set = refl

missing_clear : control_of (Sent Operational false 420 ∷ Asked 400 ∷ Sent Operational false 320 ∷ Sent Operational true 220 ∷ []) ≡ Requested
unfolding control_of unanswered
missing_clear = refl

-- it toggles not at all
never_toggled : control_of (Sent Operational false 220 ∷ Asked 200 ∷ answered) ≡ Requested
unfolding control_of unanswered
never_toggled = refl

-- of no state
toggled_zero : control_of (Sent Unknown true 120 ∷ Asked 100 ∷ []) ≡ Answer true
unfolding control_of unanswered
toggled_zero = refl

-- ---- heartbeats

-- without a request, after what may be an answer
unasked : control_of (Sent Operational false 220 ∷ answered) ≡ Heartbeat
unfolding control_of unanswered
unasked = refl

-- a second one without the toggle bit, after an answer with it
unasked_twice : control_of (Sent Operational false 420 ∷ Sent Operational false 320 ∷ Sent Operational true 220 ∷ []) ≡ Heartbeat
unfolding control_of unanswered
unasked_twice = refl

-- one request between heartbeats
abbrev asked_once : List NodeEvent
asked_once = Sent Operational false 220 ∷ Asked 210 ∷ Sent Operational false 120 ∷ []

asked_between : control_of asked_once ≡ AskedHeartbeat
unfolding control_of unanswered
asked_between = refl

-- a heartbeat that nobody asked for: the next request is the first again
not_again : control_of (Sent Operational false 320 ∷ asked_once) ≡ Heartbeat
unfolding control_of unanswered
not_again = refl

asked_apart : control_of (Sent Operational false 420 ∷ Asked 410 ∷ Sent Operational false 320 ∷ asked_once) ≡ AskedHeartbeat
unfolding control_of unanswered
asked_apart = refl

-- two requests before one frame
asked_twice_for_one : control_of (Sent Operational false 220 ∷ Asked 211 ∷ Asked 210 ∷ Sent Operational false 120 ∷ []) ≡ AskedHeartbeat
unfolding control_of unanswered
asked_twice_for_one = refl

-- two frames in a row with a request before each: the recording may lack a request
asked_twice : control_of (Sent Operational false 320 ∷ Asked 310 ∷ asked_once) ≡ Requested
unfolding control_of unanswered
asked_twice = refl

asked_on : control_of (Sent Operational false 420 ∷ Asked 410 ∷ Sent Operational false 320 ∷ Asked 310 ∷ asked_once) ≡ Requested
unfolding control_of unanswered
asked_on = refl

-- after that the toggle bit shows an answer
no_longer : control_of (Sent Operational true 320 ∷ Asked 310 ∷ Sent Operational false 220 ∷ Asked 210 ∷ Sent Operational false 120 ∷ []) ≡ Answer true
unfolding control_of unanswered
no_longer = refl

-- ---- boot-up messages are left out

booted_guarded : control_of (Sent BootUp false 220 ∷ answered) ≡ Requested
unfolding control_of unanswered
booted_guarded = refl

booted_with_heartbeats : control_of (Sent BootUp false 220 ∷ Asked 200 ∷ Sent Operational false 120 ∷ []) ≡ Heartbeat
unfolding control_of unanswered
booted_with_heartbeats = refl

booted_asked_once : control_of (Sent BootUp false 240 ∷ asked_once) ≡ AskedHeartbeat
unfolding control_of unanswered
booted_asked_once = refl

booted_toggle_clear : control_of (Sent BootUp false 420 ∷ Sent Operational false 320 ∷ Sent Operational true 220 ∷ []) ≡ Answer false
unfolding control_of unanswered
booted_toggle_clear = refl

-- the toggle bit begins anew
abbrev booted_toggle : List NodeEvent
booted_toggle = Sent BootUp false 220 ∷ Sent Operational true 120 ∷ []

toggle_anew : control_of booted_toggle ≡ Answer false
unfolding control_of unanswered
toggle_anew = refl

heartbeat_after_boot : control_of (Sent Operational false 240 ∷ booted_toggle) ≡ Heartbeat
unfolding control_of unanswered
heartbeat_after_boot = refl

answer_after_boot : control_of (Sent Operational false 240 ∷ Asked 230 ∷ booted_toggle) ≡ Requested
unfolding control_of unanswered
answer_after_boot = refl

toggle_after_boot : control_of (Sent Operational true 340 ∷ Asked 330 ∷ Sent Operational false 240 ∷ Asked 230 ∷ booted_toggle) ≡ Answer true
unfolding control_of unanswered
toggle_after_boot = refl

-- a request that came while the node was off
booted_asked : control_of (Sent BootUp false 220 ∷ Asked 200 ∷ []) ≡ Nothing
unfolding control_of unanswered
booted_asked = refl

-- it was for the boot-up message
asked_before_boot : control_of (Sent Operational false 240 ∷ Sent BootUp false 220 ∷ Asked 200 ∷ []) ≡ Heartbeat
unfolding control_of unanswered
asked_before_boot = refl

asked_after_boot : control_of (Sent Operational false 240 ∷ Asked 230 ∷ Sent BootUp false 220 ∷ []) ≡ Requested
unfolding control_of unanswered
asked_after_boot = refl

-- ---- 1017:00

written : control_of (Timed Download 1 220 ∷ answered) ≡ TimedHeartbeat
unfolding control_of unanswered
written = refl

read : control_of (Timed Upload 500 220 ∷ []) ≡ TimedHeartbeat
unfolding control_of unanswered
read = refl

-- from then on all requests are for nothing
abbrev asked_after : List NodeEvent
asked_after = Sent Operational false 420 ∷ Asked 400 ∷ Sent Operational false 320 ∷ Asked 300 ∷ Timed Download 500 220 ∷ answered

asked_twice_after : control_of asked_after ≡ TimedHeartbeat
unfolding control_of unanswered
asked_twice_after = refl

booted_after : control_of (Sent Operational false 520 ∷ Asked 510 ∷ Sent BootUp false 500 ∷ asked_after) ≡ TimedHeartbeat
unfolding control_of unanswered
booted_after = refl

unasked_after : control_of (Sent Operational false 320 ∷ Timed Download 500 220 ∷ answered) ≡ TimedHeartbeat
unfolding control_of unanswered
unasked_after = refl

-- after an answer with the toggle bit too
written_after_toggle : control_of (Sent Operational false 320 ∷ Timed Download 500 220 ∷ Sent Operational true 120 ∷ []) ≡ TimedHeartbeat
unfolding control_of unanswered
written_after_toggle = refl

-- after a heartbeat with a request before it
written_after_heartbeat : control_of (Timed Download 500 240 ∷ asked_once) ≡ TimedHeartbeat
unfolding control_of unanswered
written_after_heartbeat = refl

-- until the toggle bit shows an answer
toggle_after : control_of (Sent Operational true 520 ∷ asked_after) ≡ Answer true
unfolding control_of unanswered
toggle_after = refl

guarded_after : control_of (Sent Operational false 720 ∷ Asked 710 ∷ Sent Operational false 620 ∷ Sent Operational true 520 ∷ asked_after) ≡ Requested
unfolding control_of unanswered
guarded_after = refl

-- or until a transfer shows 0
zero_after : control_of (Timed Upload 0 440 ∷ asked_after) ≡ Nothing
unfolding control_of unanswered
zero_after = refl

-- with 0 the node sends no heartbeats, and may be guarded
written_zero : control_of (Timed Download 0 220 ∷ Sent Operational false 120 ∷ []) ≡ Nothing
unfolding control_of unanswered
written_zero = refl

written_zero_asked : control_of (Timed Download 0 240 ∷ asked_once) ≡ Nothing
unfolding control_of unanswered
written_zero_asked = refl

guarded_since : control_of (Sent Operational false 320 ∷ Asked 300 ∷ Timed Download 0 220 ∷ Sent Operational false 120 ∷ []) ≡ Requested
unfolding control_of unanswered
guarded_since = refl

still_guarded : control_of (Timed Upload 0 220 ∷ answered) ≡ Requested
unfolding control_of unanswered
still_guarded = refl

still_toggling : control_of (Timed Download 0 220 ∷ Sent Operational true 120 ∷ []) ≡ Answer true
unfolding control_of unanswered
still_toggling = refl
