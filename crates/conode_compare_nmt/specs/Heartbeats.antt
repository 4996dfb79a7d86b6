-- Heartbeats that are late, and those that come early (CiA 301, 7.2.8.3.2).
use Rattle.std.specs.Prelude.{ℕ, ◌+◌, ◌-◌, ◌*◌, ◌==◌, nat_lt, nat_le, Bool, true, false, not, ◌&&◌, ◌||◌, if◌then◌else◌, Option, Some, None, is_some, option_map, unwrap_or, length}
use Rattle.co_frame.specs.FrameContent.{FrameContent}
use Rattle.co_profile.specs.Keys.{producer_key}
use Rattle.co_value.specs.declared.key.Key.{Key}
use Rattle.co_value.specs.Keys.{same_key}
use Rattle.conode_explain_transfers.specs.declared.ended.Ended.{Ended}
use Rattle.conode_explain_transfers.specs.declared.kinds.Direction.{Direction}
use Rattle.conode_explain_transfers.specs.declared.kinds.Direction.TheVariants.{Download, Upload}
use Rattle.conode_explain_transfers.specs.declared.kinds.Side.{Side}
use Rattle.conode_explain_transfers.specs.declared.kinds.Side.TheVariants.{Client, Server}
use Rattle.conode_compare_transfers.specs.Breaches.{byte_at, key_in}
use Rattle.conode_compare_transfers.specs.Dialogues.{asks_to_write}
use Rattle.conode_compare_nmt.specs.declared.finding.Finding.{Finding}
use Rattle.conode_compare_nmt.specs.declared.finding.Finding.TheVariants.{HeartbeatLate, HeartbeatOff, LateAfterBootUp, LateAfterTransfer}
use Rattle.conode_compare_nmt.specs.declared.finding.Remark.{Remark}
use Rattle.conode_compare_nmt.specs.declared.finding.Remark.TheVariants.{EarlyHeartbeat}
use Rattle.conode_compare_nmt.specs.declared.heartbeats.Heartbeats.{Heartbeats}
use Rattle.conode_compare_nmt.specs.declared.heartbeats.Since.{Since}
use Rattle.conode_compare_nmt.specs.declared.heartbeats.Since.TheVariants.{Heartbeat, BootUp, Transfer, Disabled, Off}
use Rattle.conode_compare_nmt.specs.declared.limits.Limits.{Limits}
use Rattle.conode_compare_nmt.specs.EntriesInForce.{shown_period}
use Rattle.conode_compare_nmt.specs.OtherClients.{is_channel}
use Rattle.conode_compare_nmt.specs.declared.nmt.Nmt.{Nmt}
use Rattle.conode_compare_nmt.specs.States.{is_guarded_state, same_state, state_of}
use Rattle.conode_compare_transfers.specs.Times.{is_past, micros_of}
use Rattle.conode_compare_nmt.specs.Times.{drift_of, most_passed}

-- the longest period: 1017:00 has 16 bits (CiA 301, 7.5.2.20)
abbrev pub longest_period : ℕ
longest_period = 65535

-- No heartbeat came. What was written to 1017:00 before the recording isn't known, so any period may run.
abbrev pub no_heartbeat : Heartbeats
no_heartbeat = record { guarded = false; since = None; awaited = Heartbeat; sent = None; shown = None; slow = None; former = Some longest_period; answered = None; asked = None }

-- A heartbeat came, or an answer of node guarding. It may have waited since the bus was free last,
-- `free`.
abbrev pub after_byte : Heartbeats → ℕ → ℕ → ℕ → Heartbeats
after_byte heartbeats free micros byte = record {
  guarded = heartbeats.guarded || is_guarded_state byte;
  since = Some micros;
  awaited = Heartbeat;
  sent = Some free;
  shown = heartbeats.shown;
  slow = heartbeats.slow;
  former = heartbeats.former;
  answered = heartbeats.answered;
  asked = heartbeats.asked;
}

-- With a transfer of 1017:00 the wait for the next one begins anew. By a download the device counts
-- its period anew, from the request on or later.
abbrev pub sent_after : Direction → Ended → Option ℕ → Option ℕ
sent_after Download ended sent = Some ended.begun
sent_after Upload ended sent = sent

abbrev pub after_ended : Heartbeats → Ended → ℕ → Heartbeats
after_ended heartbeats ended micros =
    if is_some (shown_period ended) then record heartbeats {
      since = Some micros;
      awaited = Transfer;
      sent = sent_after ended.direction ended heartbeats.sent;
      slow = None;
    }
    else heartbeats

abbrev pub after_transfer : Heartbeats → Option Ended → ℕ → Heartbeats
after_transfer heartbeats None micros = heartbeats
after_transfer heartbeats (Some ended) micros = after_ended heartbeats ended micros

-- a heartbeat is late after its period, the tolerance, and by how much the clocks may differ
abbrev pub allowance : Limits → ℕ → ℕ
allowance limits period = micros_of period + micros_of limits.tolerance + drift_of limits period

-- ---- a period that changes

-- CiA 301 doesn't say when a change of 1017:00 takes effect, so the period that ran when it was asked to be
-- written may end first. Where that isn't known, it is the one that a client asked to write last, or it counts already; where
-- that isn't known either, it may be any. So it may where a client asks to write the parameters of another SDO channel, whose
-- client may write 1017:00 then.
abbrev pub period_asked : Key → Option ℕ → Option ℕ
period_asked key period =
    if is_channel key then Some longest_period
    else (if same_key key producer_key then Some (unwrap_or period longest_period) else None)

-- by a frame, whatever it is in the transfers of the channel, as in `asked_by`
abbrev pub period_asked_by : Side → FrameContent → Option ℕ → Option ℕ
period_asked_by Client frame period = if asks_to_write frame then period_asked (key_in frame) period else None
period_asked_by Server frame period = None

-- of several the longest
abbrev pub longest : Option ℕ → ℕ → ℕ
longest None period = period
longest (Some former) period = if nat_le period former then former else period

abbrev pub former_asked : Option ℕ → Option ℕ → Option ℕ
former_asked (Some period) former = Some (longest former period)
former_asked None former = former

-- a frame comes with which what 1017:00 has is known again: the answer
abbrev pub answered_at : Option ℕ → Option ℕ → Option ℕ → ℕ → Option ℕ
answered_at None (Some period) answered micros = Some micros
answered_at before after answered micros = answered

-- `asked`: the period that may run, where the frame asks to write it
abbrev pub with_former : Heartbeats → Option ℕ → Option ℕ → Option ℕ → ℕ → Heartbeats
with_former heartbeats asked before after micros = record heartbeats {
  former = former_asked asked heartbeats.former;
  answered = answered_at before after heartbeats.answered micros;
}

-- the number that a client's frame asks to write to 1017:00 in one frame, of two bytes: ccs = 1, n = 2, e = 1, s = 1
abbrev pub word_asked : FrameContent → Option ℕ
word_asked frame =
    if (length frame.bytes == 8) && (byte_at frame 0 == 0x2B) then Some (byte_at frame 4 + byte_at frame 5 * 256) else None

-- by a frame, whatever it is in the transfers of the channel
abbrev pub newest_asked : Side → FrameContent → Option ℕ → Option ℕ
newest_asked Client frame before = if asks_to_write frame && same_key (key_in frame) producer_key then word_asked frame else before
newest_asked Server frame before = before

abbrev pub with_asked : Option ℕ → Heartbeats → Heartbeats
with_asked asked heartbeats = record heartbeats { asked = asked }

-- it may still run: since the answer no more time has passed than until a heartbeat would be late by it
abbrev pub runs_still : Limits → Option ℕ → Option ℕ → ℕ → Bool
runs_still limits None answered free = false
runs_still limits (Some former) None free = false
runs_still limits (Some former) (Some answered) free = nat_le (free - answered) (allowance limits former)

-- A heartbeat may be sent at a change of the state: it is the first that shows this one, or the one that a command
-- leads to.
abbrev pub may_be_of_change : Nmt → ℕ → Bool
may_be_of_change nmt byte = not (same_state (state_of byte) nmt.state) || same_state (state_of byte) nmt.due

-- After a heartbeat what 1017:00 has runs. One that comes within the tolerance after the answer may have been on its
-- way before the device took what was written. After one that may be sent `aside`, at a change of the state or early by
-- what 1017:00 has, the period that runs goes on.
abbrev pub former_after : Limits → Bool → Option ℕ → Option ℕ → Option ℕ → ℕ → Option ℕ
former_after limits aside None period answered free = None
former_after limits aside (Some former) None answered free = Some former
former_after limits aside (Some former) (Some period) None free = None
former_after limits aside (Some former) (Some period) (Some answered) free =
    if aside || not (is_past answered limits.tolerance free) then Some former else None

-- ---- gaps

-- Nothing at all was recorded for longer than three periods; where none is known, or no heartbeat
-- is sent, for longer than an answer may take: the recorder may have rested.
abbrev pub is_gap : Limits → Option ℕ → ℕ → ℕ → Bool
is_gap limits None newest micros = is_past newest limits.answer micros
is_gap limits (Some period) newest micros =
    if nat_lt 0 period then nat_lt (3 * micros_of period) (micros - newest) else is_past newest limits.answer micros

-- A frame that ends within 1.5 ms after another one may have waited for it: at 100 kbit/s one of
-- eight bytes takes 1.35 ms.
abbrev pub follows_closely : ℕ → ℕ → Bool
follows_closely newest micros = nat_le (micros - newest) 1500

-- ---- late ones

-- How long the next one is awaited, where that is too long, and the period; with a period of 0 none
-- is sent. Error control has the lowest priority: it counts when the bus was free last, `free`.
abbrev pub overdue_for : Limits → Bool → ℕ → ℕ → ℕ → ℕ → Option (ℕ × ℕ)
overdue_for limits guarded period since free micros =
    if guarded || ((period == 0) || nat_le (free - since) (allowance limits period)) then None else Some (micros - since, period)

abbrev pub overdue_since : Limits → Bool → ℕ → Option ℕ → ℕ → ℕ → Option (ℕ × ℕ)
overdue_since limits guarded period None free micros = None
overdue_since limits guarded period (Some since) free micros = overdue_for limits guarded period since free micros

abbrev pub overdue_with : Limits → Option ℕ → Heartbeats → ℕ → ℕ → Option (ℕ × ℕ)
overdue_with limits None heartbeats free micros = None
overdue_with limits (Some period) heartbeats free micros = overdue_since limits heartbeats.guarded period heartbeats.since free micros

-- not while a period may still run that 1017:00 had before
unfoldable pub overdue_by : Limits → Option ℕ → Heartbeats → ℕ → ℕ → Option (ℕ × ℕ)
overdue_by limits period heartbeats free micros =
    if runs_still limits heartbeats.former heartbeats.answered free then None else overdue_with limits period heartbeats free micros

-- it is awaited since the last one, since the boot-up, or since a transfer of 1017:00 ended
abbrev pub late_since : Since → ℕ × ℕ → Finding
late_since Heartbeat late = HeartbeatLate late.0 late.1
late_since BootUp late = LateAfterBootUp late.0 late.1
late_since Transfer late = LateAfterTransfer late.0 late.1
late_since Disabled late = HeartbeatLate late.0 late.1
late_since Off late = HeartbeatLate late.0 late.1

-- `heartbeat-late`: the device sends, and its next heartbeat is late
unfoldable pub late_finding : Limits → Option ℕ → Heartbeats → ℕ → ℕ → Option Finding
late_finding limits period heartbeats free micros =
    option_map (late_since heartbeats.awaited) (overdue_by limits period heartbeats free micros)

-- An answer, an EMCY or a TPDO showed that the device sends while its heartbeat was late, `shown`: the first one
-- since that heartbeat is awaited.
abbrev pub shown_after : ℕ → Option ℕ → Bool
shown_after since None = false
shown_after since (Some shown) = nat_lt since shown

abbrev pub is_shown : Option ℕ → Option ℕ → Bool
is_shown None shown = false
is_shown (Some since) shown = shown_after since shown

abbrev pub with_shown : Heartbeats → Bool → ℕ → Heartbeats
with_shown heartbeats late micros = record heartbeats {
  shown = if late && not (is_shown heartbeats.since heartbeats.shown) then Some micros else heartbeats.shown;
}

-- A heartbeat that hasn't come is missing when as long as until a late one has passed since then: a
-- device that was switched on again may send such a frame before its boot-up, whose priority is lower.
abbrev pub missing_after : Limits → ℕ → Option ℕ → ℕ → Bool
missing_after limits period None free = false
missing_after limits period (Some shown) free = nat_lt (allowance limits period) (free - shown)

unfoldable pub is_missing : Limits → Option ℕ → Heartbeats → ℕ → Bool
is_missing limits None heartbeats free = false
is_missing limits (Some period) heartbeats free =
    is_shown heartbeats.since heartbeats.shown && missing_after limits period heartbeats.shown free

-- ---- late ones in a row

-- how long the heartbeat takes that comes next, by when the bus was free
abbrev pub time_taken : Heartbeats → ℕ → Option ℕ
time_taken heartbeats free = option_map (λ sent. free - sent) heartbeats.sent

-- Heartbeats that come late one after another are one mistake, unless one takes longer than each before it
-- in the row, `slow`, by more than the tolerance and by how much the clocks may differ.
abbrev pub leeway : Limits → ℕ → ℕ
leeway limits period = micros_of limits.tolerance + drift_of limits period

abbrev pub is_as_slow : Limits → ℕ → Option ℕ → Option ℕ → Bool
is_as_slow limits period None taken = false
is_as_slow limits period (Some slow) None = false
is_as_slow limits period (Some slow) (Some taken) =
    nat_le (taken - slow) (leeway limits period)

abbrev pub is_late_again : Limits → Option ℕ → Heartbeats → ℕ → Bool
is_late_again limits None heartbeats free = false
is_late_again limits (Some period) heartbeats free =
    is_as_slow limits period heartbeats.slow (time_taken heartbeats free)

-- One that took more than two periods is a pause: only those that take about as long go on with its row, by the
-- tolerance and by how much the clocks may differ.
abbrev pub is_of_row : Limits → ℕ → Option ℕ → Option ℕ → Bool
is_of_row limits period None taken = true
is_of_row limits period (Some slow) None = true
is_of_row limits period (Some slow) (Some taken) = nat_le slow (2 * micros_of period) || nat_le (slow - taken) (leeway limits period)

abbrev pub stays_in_row : Limits → Option ℕ → Heartbeats → ℕ → Bool
stays_in_row limits None heartbeats free = false
stays_in_row limits (Some period) heartbeats free = is_of_row limits period heartbeats.slow (time_taken heartbeats free)

-- a heartbeat that comes late is the same mistake as those before it
abbrev pub comes_again : Limits → Option ℕ → Heartbeats → ℕ → Bool
comes_again limits period heartbeats free =
    is_late_again limits period heartbeats free && stays_in_row limits period heartbeats free

abbrev pub longer : Option ℕ → Option ℕ → Option ℕ
longer None taken = taken
longer (Some slow) None = Some slow
longer (Some slow) (Some taken) = Some (if nat_lt slow taken then taken else slow)

-- A heartbeat comes late, or it was said before it came that it is late.
abbrev pub comes_late : Limits → Option ℕ → Heartbeats → ℕ → ℕ → Bool
comes_late limits period heartbeats free micros =
    not (is_some heartbeats.since) || is_some (overdue_by limits period heartbeats free micros)

-- a row goes on, or begins anew with the heartbeat; where the period isn't known, there is none
abbrev pub row_after : Limits → Option ℕ → Heartbeats → ℕ → Option ℕ
row_after limits None heartbeats free = None
row_after limits (Some period) heartbeats free =
    if is_of_row limits period heartbeats.slow (time_taken heartbeats free)
    then longer heartbeats.slow (time_taken heartbeats free) else time_taken heartbeats free

-- the longest time of the row, after a heartbeat: one that comes in time ends it
abbrev pub slow_after : Limits → Option ℕ → Heartbeats → ℕ → ℕ → Option ℕ
slow_after limits period heartbeats free micros =
    if comes_late limits period heartbeats free micros then row_after limits period heartbeats free else None

-- ---- heartbeats of a producer that is disabled: 1017:00 has 0 (CiA 301, 7.5.2.20)

-- what 1017:00 has is known, and is 0
abbrev pub is_zero : Option ℕ → Bool
is_zero None = false
is_zero (Some period) = period == 0

-- A heartbeat came since a transfer showed that. So the one of a period that ran before has come.
abbrev pub is_disabled : Since → Bool
is_disabled Disabled = true
is_disabled Heartbeat = false
is_disabled BootUp = false
is_disabled Transfer = false
is_disabled Off = false

-- `heartbeat-off`: another one comes, no answer of node guarding, and none that may be sent `aside`, at a change of the state
abbrev pub off_finding : Option ℕ → Heartbeats → Bool → ℕ → Option Finding
off_finding period heartbeats aside byte =
    if (is_zero period && is_disabled heartbeats.awaited) && not (heartbeats.guarded || (is_guarded_state byte || aside))
    then Some HeartbeatOff else None

-- A heartbeat comes where 1017:00 has 0: after a transfer that showed that it counts once no period that ran before may run,
-- `former`; and once `heartbeat-off` was found, that isn't said again.
abbrev pub disabled_after : Since → Option ℕ → Bool → Since
disabled_after Heartbeat former off = Heartbeat
disabled_after BootUp former off = Heartbeat
disabled_after Transfer former off = if is_some former then Transfer else Disabled
disabled_after Disabled former off = if off then Off else Disabled
disabled_after Off former off = Off

abbrev pub awaited_after : Option ℕ → Since → Option ℕ → Bool → Since
awaited_after period awaited former off = if is_zero period then disabled_after awaited former off else Heartbeat

-- it was found, and no transfer has shown what 1017:00 has since
abbrev pub is_off : Since → Bool
is_off Off = true
is_off Heartbeat = false
is_off BootUp = false
is_off Transfer = false
is_off Disabled = false

abbrev pub is_off_again : Option ℕ → Heartbeats → Bool
is_off_again period heartbeats = is_zero period && is_off heartbeats.awaited

-- ---- early ones

-- a heartbeat is early before its period, less the tolerance and by how much the clocks may differ;
-- with a period of 0 none is
abbrev pub least_time : Limits → ℕ → ℕ
least_time limits period = micros_of period - micros_of limits.tolerance - drift_of limits period

abbrev pub early_after : Limits → Bool → ℕ → Option ℕ → ℕ → Option Remark
early_after limits guarded period None passed = None
early_after limits guarded period (Some most) passed =
    if guarded || nat_le (least_time limits period) most then None else Some (EarlyHeartbeat passed period)

abbrev pub early_since : Limits → Bool → ℕ → Option ℕ → Option ℕ → ℕ → Option Remark
early_since limits guarded period earlier None micros = None
early_since limits guarded period earlier (Some sent) micros =
    early_after limits guarded period (most_passed earlier sent micros) (micros - sent)

abbrev pub early_with : Limits → Bool → Option ℕ → Option ℕ → Option ℕ → ℕ → Option Remark
early_with limits guarded None earlier sent micros = None
early_with limits guarded (Some period) earlier sent micros = early_since limits guarded period earlier sent micros

-- `choice-heartbeat`: it comes sooner than its period after the last one, the boot-up, or the request
-- to write 1017:00; answers of node guarding aren't looked at. `earlier`: the last other stamp.
unfoldable pub early_remark : Limits → Option ℕ → Heartbeats → Option ℕ → ℕ → ℕ → Option Remark
early_remark limits period heartbeats earlier micros byte =
    early_with limits (heartbeats.guarded || is_guarded_state byte) period earlier heartbeats.sent micros
