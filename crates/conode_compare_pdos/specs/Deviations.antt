-- Where a TPDO differs from CiA 301 (7.2.2, 7.3.2.2 and 7.5.2.37).
use Rattle.std.specs.Prelude.{ℕ, ◌+◌, ◌-◌, ◌*◌, ◌/◌, ◌==◌, nat_lt, nat_le, Bool, true, false, not, ◌&&◌, ◌||◌, if◌then◌else◌, Option, Some, None, is_some}
use Rattle.conode_compare_pdos.specs.declared.cycle.Cycle.{Cycle}
use Rattle.conode_compare_pdos.specs.declared.deviation.Deviation.{Deviation}
use Rattle.conode_compare_pdos.specs.declared.deviation.Deviation.TheVariants.{Length, NotOperational, WithoutSync, FewSyncs, Inhibit, Timer}
use Rattle.conode_compare_pdos.specs.declared.deviation.Moment.{Moment}
use Rattle.conode_compare_pdos.specs.declared.parameters.Parameters.{Parameters}
use Rattle.conode_compare_pdos.specs.declared.tpdo.Sent.{Sent}
use Rattle.conode_compare_pdos.specs.declared.tpdo.Tpdo.{Tpdo}
use Rattle.conode_compare_pdos.specs.Cycles.{is_cyclic, is_early}

-- milliseconds in microseconds
abbrev pub micros_of : ℕ → ℕ
micros_of millis = millis * 1000

-- so many percent of so many ms, in microseconds
abbrev pub drift_of : Moment → ℕ → ℕ
drift_of moment millis = (millis * moment.drift) * 10

-- the tolerance is over since one of its parameters was written or read
abbrev pub is_settled : Moment → Option ℕ → Bool
is_settled moment None = true
is_settled moment (Some changed) = nat_lt (micros_of moment.tolerance) (moment.free - changed)

-- so it was at an earlier time, since something happened
abbrev pub was_settled : Moment → Option ℕ → ℕ → Bool
was_settled moment None at = true
was_settled moment (Some happened) at = nat_lt (micros_of moment.tolerance) (at - happened)

-- the transmission types: 0 to 240 with SYNC, 254 and 255 at events
abbrev pub is_synchronous : Option ℕ → Bool
is_synchronous None = false
is_synchronous (Some kind) = nat_le kind 240

abbrev pub is_event_driven : Option ℕ → Bool
is_event_driven None = false
is_event_driven (Some kind) = nat_le 254 kind

abbrev pub is_number : Option ℕ → ℕ → Bool
is_number (Some n) other = n == other
is_number None other = false

-- `pdo-length`: another number of bytes than is mapped, and than the last such difference showed,
-- `odd`
abbrev pub length_deviation : Option ℕ → Option ℕ → ℕ → Option Deviation
length_deviation None odd length = None
length_deviation (Some mapped) odd length = if (length == mapped) || is_number odd length then None else Some (Length length mapped)

-- `pdo-sync`: a synchronous TPDO, and since its last one no SYNC came
abbrev pub sync_deviation : Bool → Tpdo → Option Deviation
sync_deviation has_sync pdo =
    if has_sync && (is_synchronous pdo.parameters.kind && (pdo.syncs == 0)) then Some WithoutSync else None

-- the device is known to be operational, and the parameters are settled
abbrev pub is_certain : Moment → Option ℕ → Bool
is_certain moment changed = (moment.known && not moment.idle) && is_settled moment changed

-- The tolerance is over since its frame before: that one may have been so much later than prescribed.
abbrev pub is_apart : Moment → Option Sent → Bool
is_apart moment None = true
is_apart moment (Some sent) = nat_lt (micros_of moment.tolerance) (moment.free - sent.micros)

abbrev pub few_syncs : ℕ → Option Cycle → Option Deviation
few_syncs n None = None
few_syncs n (Some cycle) = if is_cyclic n && is_early n cycle then Some (FewSyncs cycle.syncs n) else None

abbrev pub few_syncs_of : Option ℕ → Option Cycle → Option Deviation
few_syncs_of None cycle = None
few_syncs_of (Some kind) cycle = few_syncs kind cycle

-- `pdo-sync`: a TPDO of type n = 2 to 240 that comes after fewer SYNCs than it may
abbrev pub cycle_deviation : Moment → Bool → Tpdo → Option Deviation
cycle_deviation moment has_sync pdo =
    if has_sync && (is_certain moment pdo.changed && is_apart moment pdo.sent) then few_syncs_of pdo.parameters.kind pdo.cycle else None

-- how many microseconds two frames are apart at least, with an inhibit time in 100 µs
abbrev pub least_gap : Moment → ℕ → ℕ
least_gap moment inhibit = (inhibit * 100 - micros_of moment.tolerance) - drift_of moment (inhibit / 10)

-- how many microseconds two frames are apart at most: an event that falls within the inhibit time
-- is sent after it
abbrev pub greatest_gap : Moment → ℕ → ℕ → ℕ
greatest_gap moment inhibit timer = micros_of timer + inhibit * 100 + micros_of moment.tolerance + drift_of moment timer + drift_of moment (inhibit / 10)

-- `pdo-inhibit`: a frame within the inhibit time of the one before, which may have waited for a
-- free bus
abbrev pub inhibit_deviation : Moment → ℕ → Sent → Option Deviation
inhibit_deviation moment inhibit sent =
    if nat_lt (moment.micros - sent.free) (least_gap moment inhibit) then Some (Inhibit (moment.micros - sent.micros) inhibit) else None

-- The frame before came later than the tolerance after the newest command, and after one of its parameters
-- was written or read. Else it may be one that was sent before that, and waited: with a command the device
-- may begin its times anew.
abbrev pub is_counted : Moment → Option ℕ → Sent → Bool
is_counted moment changed sent = was_settled moment moment.commanded sent.free && was_settled moment changed sent.free

abbrev pub inhibit_since : Moment → Option ℕ → ℕ → Sent → Option Deviation
inhibit_since moment changed inhibit sent = if is_counted moment changed sent then inhibit_deviation moment inhibit sent else None

-- `pdo-late`: a frame later than the event timer after the one before, when the bus was free last
abbrev pub timer_deviation : Moment → ℕ → ℕ → Sent → Option Deviation
timer_deviation moment inhibit timer sent =
    if (timer == 0) || nat_le (moment.free - sent.micros) (greatest_gap moment inhibit timer) then None
    else Some (Timer (moment.micros - sent.micros) timer)

-- Not where the frame before came within the tolerance after the newest command: it may have been on its way,
-- and the device may have left operational since, and followed a Start late.
abbrev pub timer_since : Moment → ℕ → ℕ → Sent → Option Deviation
timer_since moment inhibit timer sent =
    if was_settled moment moment.commanded sent.free then timer_deviation moment inhibit timer sent else None

abbrev pub first_of : Option Deviation → Option Deviation → Option Deviation
first_of (Some deviation) other = Some deviation
first_of None other = other

abbrev pub timed : Moment → Option ℕ → Option ℕ → ℕ → Sent → Option Deviation
timed moment changed None inhibit sent = inhibit_since moment changed inhibit sent
timed moment changed (Some timer) inhibit sent = first_of (inhibit_since moment changed inhibit sent) (timer_since moment inhibit timer sent)

abbrev pub timed_since : Moment → Option ℕ → Parameters → Option ℕ → Option Sent → Option Deviation
timed_since moment changed parameters None sent = None
timed_since moment changed parameters (Some inhibit) None = None
timed_since moment changed parameters (Some inhibit) (Some sent) = timed moment changed parameters.timer inhibit sent

-- of an event-driven TPDO
unfoldable pub time_deviation : Moment → Tpdo → Option Deviation
time_deviation moment pdo =
    if is_event_driven pdo.parameters.kind then timed_since moment pdo.changed pdo.parameters pdo.parameters.inhibit pdo.sent else None

-- `pdo-state`: the device isn't operational
abbrev pub state_deviation : Moment → Option Deviation
state_deviation moment = if moment.idle then Some NotOperational else None

-- the first of them
unfoldable pub deviation_at : Moment → Bool → Tpdo → ℕ → Option Deviation
deviation_at moment has_sync pdo length =
    if is_settled moment pdo.changed then
    first_of (state_deviation moment)
    (first_of (length_deviation pdo.parameters.length pdo.odd length)
    (first_of (sync_deviation has_sync pdo)
    (first_of (cycle_deviation moment has_sync pdo) (time_deviation moment pdo))))
    else None

-- the frame is `pdo-length`
abbrev pub shows_length : Moment → Tpdo → ℕ → Bool
shows_length moment pdo length =
    is_settled moment pdo.changed && (not moment.idle && is_some (length_deviation pdo.parameters.length pdo.odd length))

-- a frame is judged where it has as many bytes as are mapped, and the state of the device is known
abbrev pub is_judged : Moment → Tpdo → ℕ → Bool
is_judged moment pdo length = moment.known && (is_settled moment pdo.changed && is_number pdo.parameters.length length)
