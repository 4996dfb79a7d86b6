-- EMCY messages (CiA 301, 7.2.7, 7.5.2.2 and 7.5.2.18).
use Rattle.std.specs.Prelude.{ℕ, ◌-◌, ◌*◌, ◌/◌, ◌%◌, ◌==◌, nat_lt, Bool, true, false, not, ◌&&◌, ◌||◌, if◌then◌else◌, Option, Some, None, is_some}
use Rattle.std.specs.Option.{option_map_or}
use Rattle.conode_compare_nmt.specs.declared.entries.Entries.{Entries}
use Rattle.conode_compare_nmt.specs.declared.finding.Finding.{Finding}
use Rattle.conode_compare_nmt.specs.declared.finding.Finding.TheVariants.{EmergencyLength, EmergencyStopped, EmergencyRegister, EmergencyInhibit}
use Rattle.conode_compare_nmt.specs.declared.finding.NmtState.{NmtState}
use Rattle.conode_compare_nmt.specs.declared.limits.Limits.{Limits}
use Rattle.conode_compare_nmt.specs.EntriesInForce.{is_number}
use Rattle.conode_compare_nmt.specs.Leavings.{was_stopped}
use Rattle.conode_compare_nmt.specs.States.{is_initialising, has_followed, judged_state, with_followed, with_left, is_stopped}
use Rattle.conode_compare_transfers.specs.Times.{micros_of, is_past}
use Rattle.conode_compare_nmt.specs.Times.{drift_of}
use Rattle.conode_compare_rules.specs.declared.progress.Progress.{Progress}
use Rattle.conode_compare_nmt.specs.declared.limits.Subject.{Subject}
use Rattle.conode_compare_rules.specs.declared.verdict.Findings.{Findings}
use Rattle.conode_compare_rules.specs.Verdicts.{found}
use Rattle.conode_compare_rules.specs.NmtFrames.{is_overdue, steady_when_free, late_by, heartbeats_by}
use Rattle.conode_compare_rules.specs.Waits.{was_held_up}

-- bit 0 of the error register is set; or no bit is, and the code is one of "error reset or no
-- error", 00xxh
abbrev pub has_register : ℕ → ℕ → Bool
has_register code register = (register % 2 == 1) || ((register == 0) && nat_lt code 0x100)

abbrev pub fits_register : Bool → ℕ → ℕ → Bool
fits_register waits code register = has_register code register || ((register == 0) && waits)

-- how many microseconds two EMCY are apart at least, with an inhibit time in 100 µs
abbrev pub least_gap : Limits → ℕ → ℕ
least_gap limits inhibit = (inhibit * 100 - micros_of limits.tolerance) - drift_of limits (inhibit / 10)

abbrev pub gap_finding : Limits → ℕ → ℕ → Option Finding
gap_finding limits inhibit passed = if nat_lt passed (least_gap limits inhibit) then Some (EmergencyInhibit passed inhibit) else None

-- an EMCY came when the inhibit time was in force: the tolerance after a transfer showed it was
-- over
abbrev pub is_in_force : Limits → Option ℕ → ℕ → Bool
is_in_force limits shown last = option_map_or (λ s. is_past s limits.tolerance last) shown true

-- it was when the last EMCY came; where none is known, unless a transfer showed it
abbrev pub was_in_force : Limits → Option ℕ → Option ℕ → Bool
was_in_force limits shown None = not (is_some shown)
was_in_force limits shown (Some last) = is_in_force limits shown last

-- One that may have waited for the inhibit time has the register of the moment at which it is sent: the error may
-- be over. None waits where 1015:00 has 0, unless it has that only since the last one: the time that ran then may
-- still run.
abbrev pub may_wait : Limits → Entries → Option ℕ → Bool
may_wait limits entries last = not (is_number entries.inhibit 0 && was_in_force limits entries.inhibit_shown last)

-- `emcy-inhibit`: a second EMCY within the inhibit time
abbrev pub inhibit_with : Limits → Option ℕ → Option ℕ → ℕ → ℕ → Option Finding
inhibit_with limits None shown last micros = None
inhibit_with limits (Some inhibit) shown last micros =
    if is_in_force limits shown last then gap_finding limits inhibit (micros - last) else None

unfoldable pub inhibit_finding : Limits → Entries → Option ℕ → ℕ → Option Finding
inhibit_finding limits entries None micros = None
inhibit_finding limits entries (Some last) micros = inhibit_with limits entries.inhibit entries.inhibit_shown last micros

-- None comes too soon where no inhibit time counts from the last one.
abbrev pub is_inhibited : Option Finding → Bool
is_inhibited (Some (EmergencyInhibit passed inhibit)) = true
is_inhibited finding = false

abbrev pub unless_uncounted : Bool → Option Finding → Option Finding
unless_uncounted uncounted finding = if is_inhibited finding && uncounted then None else finding

-- `emcy-state`, once the state is settled, `emcy-register`, `emcy-inhibit`: the first of them. None
-- where the identifier may not be that of its EMCY, and none while the boot-up is awaited. `waits`: it may have
-- waited for another reason than the inhibit time.
unfoldable pub emergency_finding : Limits → Entries → NmtState → Bool → Bool → Option ℕ → ℕ → ℕ → ℕ → Option Finding
emergency_finding limits entries state settled waits last micros code register =
    if not entries.emergencies || is_initialising state then None
    else (if settled && is_stopped state then Some EmergencyStopped
    else (if not (fits_register (waits || may_wait limits entries last) code register) then Some (EmergencyRegister code register)
    else inhibit_finding limits entries last micros))

-- `emcy-length`
abbrev pub length_finding : Entries → ℕ → Option Finding
length_finding entries length = if entries.emergencies then Some (EmergencyLength length) else None

-- ---- by what a recording shows

-- Nobody switches a device off and on within a second (as for `second_boot_up`): it runs since a frame that came so shortly
-- before.
abbrev pub came_just_now : Option ℕ → ℕ → Bool
came_just_now last micros = option_map_or (λ l. not (is_past l 1000 micros)) last false

-- So it runs since its newest EMCY where that, or its newest heartbeat, came so, and the next heartbeat isn't late.
abbrev pub may_be_restarted : Subject → Progress → ℕ → Bool
may_be_restarted subject progress micros =
    is_overdue subject progress || not (came_just_now progress.emergency micros || came_just_now progress.heartbeats.since micros)

-- the tolerance since the boot-up wasn't over when the bus was free last
abbrev pub has_just_booted : Subject → Progress → Bool
has_just_booted subject progress =
    option_map_or (λ b. not (is_past b subject.limits.tolerance progress.free)) progress.nmt.booted false

-- A device that was switched off and on knows nothing of the EMCY that it sent before. And the last one may have waited until
-- the device could send again.
abbrev pub is_uncounted : Subject → Progress → ℕ → Bool
is_uncounted subject progress micros =
    may_be_restarted subject progress micros || option_map_or (λ last. was_held_up subject progress last) progress.emergency false

-- A device sends none while it is stopped or boots up, and on a bus that isn't free, or can't be used, it sends one later: the
-- error may be over by then.
abbrev pub may_have_waited : Subject → Progress → ℕ → Bool
may_have_waited subject progress micros =
    (not (steady_when_free subject progress) || nat_lt progress.free micros)
    || (was_stopped progress.nmt.leaving micros || (has_just_booted subject progress || was_held_up subject progress progress.free))

abbrev pub emergency_difference : Subject → Progress → ℕ → ℕ → ℕ → Option Finding
emergency_difference subject progress micros code register =
    unless_uncounted (is_uncounted subject progress micros)
    (emergency_finding subject.limits progress.entries (judged_state progress.nmt) (steady_when_free subject progress) (may_have_waited subject progress micros) progress.emergency micros code register)

unfoldable pub emergency_findings : Subject → Progress → ℕ → ℕ → ℕ → Findings
emergency_findings subject progress micros code register =
    found None (late_by subject progress progress.entries.emergencies micros) None
    (emergency_difference subject progress micros code register)
    progress.entries.emergencies

abbrev pub odd_emergency_findings : Progress → ℕ → Findings
odd_emergency_findings progress length = found None None None (length_finding progress.entries length) progress.entries.emergencies

-- it may have waited since the bus was free last: its inhibit time counts from then
unfoldable pub after_emergency : Progress → Progress
after_emergency progress = record progress { nmt = record progress.nmt { booted = None }; emergency = Some progress.free }

-- a stopped device sends none
abbrev pub shows_by_emergency : Subject → Progress → Bool
shows_by_emergency subject progress = progress.entries.emergencies && steady_when_free subject progress

-- that the device has followed a command, where a heartbeat showed stopped
abbrev pub follows_by_emergency : Subject → Progress → Bool
follows_by_emergency subject progress = has_followed is_stopped progress.nmt && shows_by_emergency subject progress

-- by an EMCY of eight bytes a heartbeat may be missing
abbrev pub emergency_noted : Subject → Progress → ℕ → Progress
emergency_noted subject progress micros =
    after_emergency (record progress {
      nmt = with_left (with_followed progress.nmt (follows_by_emergency subject progress) micros) (shows_by_emergency subject progress) micros;
      heartbeats = heartbeats_by subject progress progress.entries.emergencies micros;
    })
