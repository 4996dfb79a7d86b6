-- NMT commands, boot-ups and heartbeats of a recording (CiA 301, 7.2.8): what they show of a device, and where it differs.
use Rattle.std.specs.Prelude.{ℕ, ◌==◌, Bool, true, false, not, ◌&&◌, ◌||◌, if◌then◌else◌, Option, Some, None, is_some}
use Rattle.std.specs.Option.{option_map_or, option_or}
use Rattle.co_frame.specs.declared.nmt.NmtService.{NmtService}
use Rattle.conode_compare_pdos.specs.declared.pdos.Pdos.{Pdos}
use Rattle.conode_compare_pdos.specs.Followed as tpdos
use Rattle.conode_compare_rules.specs.declared.progress.Progress.{Progress}
use Rattle.conode_compare_nmt.specs.declared.entries.Entries.{Entries}
use Rattle.conode_compare_nmt.specs.declared.finding.Finding.{Finding}
use Rattle.conode_compare_nmt.specs.declared.finding.NmtState.{NmtState}
use Rattle.conode_compare_nmt.specs.declared.finding.NmtState.TheVariants.{Unknown, Initialising}
use Rattle.conode_compare_nmt.specs.declared.heartbeats.Heartbeats.{Heartbeats}
use Rattle.conode_compare_nmt.specs.declared.heartbeats.Since.{Since}
use Rattle.conode_compare_nmt.specs.declared.heartbeats.Since.TheVariants.{Heartbeat, BootUp}
use Rattle.conode_compare_nmt.specs.declared.limits.Subject.{Subject}
use Rattle.conode_compare_nmt.specs.declared.repeated.Odd.TheVariants.{Length}
use Rattle.conode_compare_rules.specs.declared.verdict.Findings.{Findings}
use Rattle.conode_compare_rules.specs.Answers.{silence_finding}
use Rattle.conode_compare_transfers.specs.Dialogues.{given_up, interrupted, nothing_left}
use Rattle.conode_compare_values.specs.HeldNumbers.{nothing_written}
use Rattle.conode_compare_nmt.specs.EntriesInForce.{reset_entries}
use Rattle.conode_compare_nmt.specs.Heartbeats as beats
use Rattle.conode_compare_nmt.specs.Heartbeats.{after_byte, awaited_after, early_remark, former_after, late_finding, longest_period, may_be_of_change, is_late_again, is_missing, is_off_again, off_finding, overdue_with, slow_after, with_shown}
use Rattle.conode_compare_nmt.specs.States as states
use Rattle.conode_compare_nmt.specs.States.{boot_finding, control_finding, is_reset, is_same_byte, is_same_length, is_settled, is_steady, after_turn, odd_after, odd_finding, restart_remark, second_boot_up, with_odd}
use Rattle.conode_compare_transfers.specs.Times.{is_past}
use Rattle.conode_compare_rules.specs.Verdicts.{found}
use Rattle.conode_compare_rules.specs.Gaps.{with_gap}

-- ---- commands and node guarding

-- A command, which the device needn't follow where it is perhaps its own, or has more than two bytes.
-- After a reset nothing is known of its PDOs until the
-- boot-up, nor of the inhibit time of its EMCY.
unfoldable pub after_command : Progress → NmtService → Bool → ℕ → Progress
after_command progress service own micros =
    let commanded = record progress {
      nmt = states.after_command progress.nmt service own micros;
      heartbeats = record progress.heartbeats { slow = None };
      pdos = tpdos.commanded progress.pdos;
    } in
    if is_reset service then record (with_gap commanded micros) { entries = reset_entries progress.entries; pdos = tpdos.unknown_pdos }
    else commanded

abbrev pub after_guarding : Progress → Progress
after_guarding progress = record progress { heartbeats = record progress.heartbeats { guarded = true } }

-- ---- boot-ups

abbrev pub boot_findings : Progress → ℕ → Findings
boot_findings progress micros = found None None None (second_boot_up progress.nmt.booted micros) true

-- A client asked to write an entry of the communication profile within the tolerance before the boot-up frame,
-- when the bus was free last: the device may have booted up by then, and its frame waited.
abbrev pub was_asked : Subject → Progress → Bool
was_asked subject progress = option_map_or (λ a. not (is_past a subject.limits.tolerance progress.free)) progress.asked_at false

-- What the data sheet says of the entries and the TPDOs, as far as that is known: only what never changes, where
-- a client may have written them since, and once that of another SDO channel has sent, whose request the device
-- may take after the boot-up.
abbrev pub may_differ : Subject → Progress → Bool
may_differ subject progress = progress.other_client || was_asked subject progress

abbrev pub booted_entries : Subject → Progress → Entries
booted_entries subject progress = if may_differ subject progress then subject.facts.before else subject.facts.booted

abbrev pub booted_pdos : Subject → Progress → Pdos
booted_pdos subject progress = if may_differ subject progress then tpdos.unknown_pdos else subject.facts.pdos

-- A client may have written 1017:00 since, so any period may run: also one of another SDO channel whose frames can't be
-- told, where the sheet's period isn't known though nothing is stored and no master writes it.
abbrev pub may_be_written : Subject → Progress → Bool
may_be_written subject progress = may_differ subject progress || (subject.facts.as_sheet && not (is_some subject.facts.booted.period))

abbrev pub booted_former : Subject → Progress → Option ℕ
booted_former subject progress = if may_be_written subject progress then Some longest_period else None

-- the entries have that, and the next heartbeat is awaited; no earlier request is answered any more,
-- however long it took
unfoldable pub booted : Subject → Progress → ℕ → Progress
booted subject progress micros = record progress {
  nmt = states.after_control subject.limits progress.started progress.nmt progress.free micros 0;
  heartbeats = record progress.heartbeats { since = Some micros; awaited = BootUp; sent = Some progress.free; slow = None; former = booted_former subject progress; asked = None };
  entries = booted_entries subject progress;
  emergency = None;
  dialogue = record (interrupted progress.dialogue micros) { slow = nothing_left; sub_block = false };
  pdos = booted_pdos subject progress;
  written = nothing_written;
  remark = restart_remark subject.limits progress.nmt micros;
}

-- ---- heartbeats

abbrev pub is_known : NmtState → Bool
is_known Unknown = false
is_known Initialising = false
is_known state = true

-- the tolerance since the begin and since the newest command was over when the bus was free last
abbrev pub settled_when_free : Subject → Progress → Bool
settled_when_free subject progress = is_settled subject.limits progress.started progress.nmt.commanded progress.free

-- By what 1017:00 has the next heartbeat was late when the bus was free last, whichever period runs: the device may have
-- been switched off and on. The frames of its new life may come before its boot-up, which has the lowest priority.
abbrev pub is_overdue : Subject → Progress → Bool
is_overdue subject progress =
    is_some (overdue_with subject.limits progress.entries.period progress.heartbeats progress.free progress.free)

-- and since a heartbeat showed that it left operational or stopped, or entered stopped; and none is late
abbrev pub steady_when_free : Subject → Progress → Bool
steady_when_free subject progress =
    (settled_when_free subject progress && is_steady subject.limits progress.nmt progress.free)
    && not (is_overdue subject progress)

-- a heartbeat is judged where the state is known, and was settled when the bus was free last
unfoldable pub control_judged : Subject → Progress → Bool
control_judged subject progress =
    (not progress.heartbeats.guarded && is_known progress.nmt.state) && settled_when_free subject progress

-- a heartbeat is late, whether the last one was late, too, or not
abbrev pub late_alone : Subject → Progress → ℕ → Option Finding
late_alone subject progress micros = late_finding subject.limits progress.entries.period progress.heartbeats progress.free micros

-- it takes no longer so far than the last ones, which were late, too
abbrev pub is_again : Subject → Progress → Bool
is_again subject progress = is_late_again subject.limits progress.entries.period progress.heartbeats progress.free

-- before it comes
abbrev pub late_at : Subject → Progress → ℕ → Option Finding
late_at subject progress micros = if is_again subject progress then None else late_alone subject progress micros

-- it comes, and is the same mistake as the last ones
abbrev pub comes_again : Subject → Progress → Bool
comes_again subject progress = beats.comes_again subject.limits progress.entries.period progress.heartbeats progress.free

-- as it comes
abbrev pub late_coming : Subject → Progress → ℕ → Option Finding
late_coming subject progress micros = if comes_again subject progress then None else late_alone subject progress micros

abbrev pub is_missing_at : Subject → Progress → Bool
is_missing_at subject progress = is_missing subject.limits progress.entries.period progress.heartbeats progress.free

-- an answer, an EMCY or a TPDO that is surely the device's shows that it sends, so its heartbeat may be missing
abbrev pub late_by : Subject → Progress → Bool → ℕ → Option Finding
late_by subject progress own micros = if own && is_missing_at subject progress then late_at subject progress micros else None

-- where it is, that isn't said again until the next one
abbrev pub said_late : Heartbeats → Option Finding → Heartbeats
said_late heartbeats late = record heartbeats { since = if is_some late then None else heartbeats.since }

-- the heartbeats after an answer, an EMCY or a TPDO
abbrev pub heartbeats_by : Subject → Progress → Bool → ℕ → Heartbeats
heartbeats_by subject progress own micros =
    said_late (with_shown progress.heartbeats (own && is_some (late_at subject progress micros)) micros) (late_by subject progress own micros)

-- it comes sooner than its period
abbrev pub comes_early : Subject → Progress → ℕ → ℕ → Bool
comes_early subject progress micros byte =
    is_some (early_remark subject.limits progress.entries.period progress.heartbeats progress.earlier micros byte)

-- the difference of its byte
abbrev pub byte_finding : Subject → Progress → ℕ → ℕ → Option Finding
byte_finding subject progress micros byte =
    control_finding subject progress.started progress.heartbeats.guarded (comes_early subject progress micros byte) progress.nmt progress.free byte

-- it comes early, or may be sent at a change of the state
abbrev pub comes_aside : Subject → Progress → ℕ → ℕ → Bool
comes_aside subject progress micros byte = comes_early subject progress micros byte || may_be_of_change progress.nmt byte

-- it comes though 1017:00 has 0
abbrev pub off_coming : Subject → Progress → ℕ → ℕ → Option Finding
off_coming subject progress micros byte =
    off_finding progress.entries.period progress.heartbeats (comes_aside subject progress micros byte) byte

-- A heartbeat has the same byte as the last one, which is no state, is late as the last one was, or comes though 1017:00
-- has 0, as the last ones did. Each was said of an earlier one, so it is unjudged.
abbrev pub is_repeated : Subject → Progress → ℕ → ℕ → Bool
is_repeated subject progress micros byte =
    is_same_byte byte progress.nmt.odd
    || ((comes_again subject progress && is_some (late_alone subject progress micros)) || is_off_again progress.entries.period progress.heartbeats)

unfoldable pub heartbeat_findings : Subject → Progress → Option Finding → ℕ → ℕ → Findings
heartbeat_findings subject progress answer micros byte =
    found (boot_finding subject.limits progress.nmt micros)
    (option_or (late_coming subject progress micros) (off_coming subject progress micros byte))
    answer
    (byte_finding subject progress micros byte)
    (control_judged subject progress && not (is_repeated subject progress micros byte))

abbrev pub silence_at : Subject → Progress → ℕ → ℕ → Option Finding
silence_at subject progress micros byte = silence_finding subject.limits progress.started progress.nmt progress.dialogue micros byte

unfoldable pub control_findings : Subject → Progress → ℕ → ℕ → Findings
control_findings subject progress micros byte = heartbeat_findings subject progress (silence_at subject progress micros byte) micros byte

abbrev pub slow_then : Subject → Progress → ℕ → Option ℕ
slow_then subject progress micros = slow_after subject.limits progress.entries.period progress.heartbeats progress.free micros

abbrev pub former_then : Subject → Progress → ℕ → ℕ → Option ℕ
former_then subject progress micros byte =
    former_after subject.limits (comes_aside subject progress micros byte) progress.heartbeats.former progress.entries.period progress.heartbeats.answered progress.free

abbrev pub awaited_then : Subject → Progress → ℕ → ℕ → Since
awaited_then subject progress micros byte =
    awaited_after progress.entries.period progress.heartbeats.awaited (former_then subject progress micros byte) (is_some (off_coming subject progress micros byte))

unfoldable pub after_control : Subject → Progress → ℕ → ℕ → Progress
after_control subject progress micros byte = record progress {
  nmt = with_odd (odd_after (byte_finding subject progress micros byte) byte progress.nmt.odd)
      (after_turn subject progress.started progress.heartbeats.guarded (comes_early subject progress micros byte) progress.nmt progress.free byte
      (states.after_control subject.limits progress.started progress.nmt progress.free micros byte));
  heartbeats = record (after_byte progress.heartbeats progress.free micros byte) {
    awaited = awaited_then subject progress micros byte;
    slow = slow_then subject progress micros;
    former = former_then subject progress micros byte;
  };
  pdos = if byte == 5 then progress.pdos else tpdos.commanded progress.pdos;
  dialogue = if is_some (silence_at subject progress micros byte) then given_up progress.dialogue micros else progress.dialogue;
  remark = early_remark subject.limits progress.entries.period progress.heartbeats progress.earlier micros byte;
}

-- of another number of bytes than one
abbrev pub odd_control_findings : Subject → Progress → ℕ → ℕ → Findings
odd_control_findings subject progress micros length =
    found (boot_finding subject.limits progress.nmt micros)
    (late_coming subject progress micros)
    None
    (odd_finding progress.nmt length)
    (not (is_same_length length progress.nmt.odd))

unfoldable pub after_odd_control : Subject → Progress → ℕ → Progress
after_odd_control subject progress micros = record progress {
  nmt = states.after_other subject.limits progress.nmt micros;
  heartbeats = record progress.heartbeats { since = Some micros; awaited = Heartbeat; sent = None };
}

abbrev pub after_length : Subject → Progress → ℕ → ℕ → Progress
after_length subject progress micros length =
    let after = after_odd_control subject progress micros in
    record after { nmt = with_odd (Some (Length length)) after.nmt }
