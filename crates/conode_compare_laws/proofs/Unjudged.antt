-- EMCY that aren't judged: by the data sheet a TPDO may have their identifier.
use Rattle.std.proofs.Common.{◌≡◌, ℕ, Bool, true, false, List, [], ◌∷◌, ◌++◌, Option, Some, None, refl, ap, ◌∙◌}
use Rattle.std.specs.Prelude.{if◌then◌else◌, ◌==◌, ◌&&◌, not}
use Rattle.co_frame.specs.FrameContent.{FrameContent}
use Rattle.co_frame.specs.declared.nmt.NmtService.{NmtService}
use Rattle.co_sheet.specs.Content.{Row}
use Rattle.co_value.specs.declared.key.Key.{Key}
use Rattle.conode_explain_transfers.specs.declared.ended.Ended.{Ended}
use Rattle.conode_explain_transfers.specs.declared.kinds.Side.{Side}
use Rattle.conode_explain_transfers.specs.declared.kinds.Side.TheVariants.{Client, Server}
use Rattle.conode_compare_transfers.specs.declared.dialogue.Asked.{Asked}
use Rattle.conode_compare_transfers.specs.Dialogues.{asks_to_write, dialogue_heard}
use Rattle.conode_compare_transfers.specs.Breaches.{key_in}
use Rattle.conode_compare_nmt.specs.declared.entries.Entries.{Entries}
use Rattle.conode_compare_nmt.specs.declared.finding.Finding.{Finding}
use Rattle.conode_compare_rules.specs.declared.kind.FrameKind.{FrameKind}
use Rattle.conode_compare_rules.specs.declared.kind.FrameKind.TheVariants.{Command, CommandToAll, LongCommand, Control, OddControl, Emergency as Emcy, OddEmergency, Process, Sdo, Fault}
use Rattle.conode_compare_nmt.specs.declared.limits.Subject.{Subject}
use Rattle.conode_compare_rules.specs.declared.progress.Progress.{Progress}
use Rattle.conode_compare_rules.specs.FrameKinds.{data_kind}
use Rattle.conode_compare_rules.specs.EmergencyRules.{emergency_finding, after_emergency, emergency_findings}
use Rattle.conode_compare_nmt.specs.EntriesInForce.{asked_by, asked_to_write, overwritten, shares_id, shown_inhibit, shown_period, with_inhibit, with_period, with_sharing}
use Rattle.conode_compare_rules.specs.Gaps as gaps
use Rattle.conode_compare_rules.specs.NmtFrames as nmt_frames
use Rattle.conode_compare_rules.specs.Channels as channels
use Rattle.conode_compare_rules.specs.Progresses as progresses
use Rattle.conode_compare_rules.specs.Gaps.{after_fault, begins_anew, begun, with_gap}
use Rattle.conode_compare_rules.specs.NmtFrames.{after_command, after_odd_control, booted, may_differ}
use Rattle.conode_compare_rules.specs.Channels.{channel_heard, entries_asked, entries_ended, entries_heard, exchange_noted, late_noted}
use Rattle.conode_compare_rules.specs.Processes.{after_process, is_of_client}
use Rattle.conode_compare_rules.specs.Progresses.{after_frame, findings_at, progress_with}
use Rattle.conode_compare_nmt.specs.States.{is_reset}
use Rattle.conode_compare_rules.specs.Verdicts.{found}
use Rattle.conode_compare_laws.specs.Differences.{differences_from, differences_in, emergency_differences}
use Rattle.conode_compare_laws.specs.Identifiers.{JudgesNone}
use Rattle.conode_compare_laws.specs.Recordings.{Recorded}

-- EMCY isn't judged
abbrev IsOff : Progress → Type 0
IsOff p = p.entries.emergencies ≡ false

-- ---- what is found

judged_off : (subject : Subject) (rows : List Row) (p : Progress) (micros code register : ℕ) → IsOff p → emergency_differences (Emcy code register) (progresses.findings_in subject rows p micros (Emcy code register)) ≡ []
unfolding emergency_findings found emergency_finding
judged_off subject rows p micros code register off = rw off refl

odd_off : (subject : Subject) (rows : List Row) (p : Progress) (micros length : ℕ) → IsOff p → emergency_differences (OddEmergency length) (progresses.findings_in subject rows p micros (OddEmergency length)) ≡ []
unfolding found
odd_off subject rows p micros length off = rw off refl

found_off : (subject : Subject) (rows : List Row) (p : Progress) (micros : ℕ) (kind : FrameKind) → IsOff p → emergency_differences kind (progresses.findings_in subject rows p micros kind) ≡ []
found_off subject rows p micros (Emcy code register) off = judged_off subject rows p micros code register off
found_off subject rows p micros (OddEmergency length) off = odd_off subject rows p micros length off
found_off subject rows p micros _ off = refl

-- ---- what is known then

and_off : (a b : Bool) → b ≡ false → (a && b) ≡ false
and_off true b h = h
and_off false b h = refl

period_same : (e : Entries) (period : Option ℕ) → (with_period e period).emergencies ≡ e.emergencies
period_same e (Some period) = refl
period_same e None = refl

inhibit_same : (e : Entries) (inhibit : Option ℕ) (end : ℕ) → (with_inhibit e inhibit end).emergencies ≡ e.emergencies
inhibit_same e (Some inhibit) end = refl
inhibit_same e None end = refl

ended_off : (e : Entries) (o : Option Ended) → e.emergencies ≡ false → (entries_ended e o).emergencies ≡ false
ended_off e None off = off
ended_off e (Some ended) off =
    inhibit_same (with_period e (shown_period ended)) (shown_inhibit ended) ended.end ∙ period_same e (shown_period ended) ∙ off

written_off : (e : Entries) (key : Key) (writes : Bool) → e.emergencies ≡ false → (if writes then asked_to_write e key else e).emergencies ≡ false
unfolding asked_to_write
written_off e key true off = and_off _ e.emergencies off
written_off e key false off = off

asked_off : (e : Entries) (o : Option Asked) → e.emergencies ≡ false → (entries_asked e o).emergencies ≡ false
asked_off e None off = off
asked_off e (Some asked) off = written_off e asked.key asked.writes off

by_off : (e : Entries) (side : Side) (frame : FrameContent) → e.emergencies ≡ false → (asked_by side frame e).emergencies ≡ false
by_off e Server frame off = off
by_off e Client frame off = written_off e (key_in frame) (asks_to_write frame) off

heard_off : (e : Entries) (ended : Option Ended) (asked : Option Asked) (shares : Bool) (side : Side) (frame : FrameContent) → e.emergencies ≡ false
    → (with_sharing shares (asked_by side frame (entries_heard e ended asked))).emergencies ≡ false
heard_off e ended asked shares side frame off =
    and_off (not shares) (asked_by side frame (entries_heard e ended asked)).emergencies (by_off (entries_heard e ended asked) side frame (asked_off (entries_ended e ended) asked (ended_off e ended off)))

either : (b : Bool) (x y : Progress) → IsOff x → IsOff y → IsOff (if b then x else y)
either true x y p q = p
either false x y p q = q

begun_off : (subject : Subject) (p : Progress) (micros : ℕ) → JudgesNone subject → IsOff p → IsOff (begun subject p micros)
unfolding begun
begun_off subject p micros none off = either (begins_anew subject.limits p micros) _ _ none.before off

command_off : (p : Progress) (service : NmtService) (own : Bool) (micros : ℕ) → IsOff p → IsOff (after_command p service own micros)
unfolding after_command with_gap
command_off p service own micros off = either (is_reset service) _ _ off off

booted_off : (subject : Subject) (b : Bool) → JudgesNone subject → (if b then subject.facts.before else subject.facts.booted).emergencies ≡ false
booted_off subject true none = none.before
booted_off subject false none = none.booted

control_off : (subject : Subject) (p : Progress) (micros byte : ℕ) → JudgesNone subject → IsOff p → IsOff (after_frame subject p micros (Control byte))
unfolding booted nmt_frames.after_control
control_off subject p micros byte none off = either (byte == 0) _ _ (booted_off subject (may_differ subject p) none) off

odd_control_off : (subject : Subject) (p : Progress) (micros length : ℕ) → IsOff p → IsOff (after_frame subject p micros (OddControl length))
unfolding after_odd_control
odd_control_off subject p micros length off = off

emergency_off : (subject : Subject) (p : Progress) (micros code register : ℕ) → IsOff p → IsOff (after_frame subject p micros (Emcy code register))
unfolding after_emergency
emergency_off subject p micros code register off = off

odd_emergency_off : (subject : Subject) (p : Progress) (micros length : ℕ) → IsOff p → IsOff (after_frame subject p micros (OddEmergency length))
unfolding after_emergency
odd_emergency_off subject p micros length off = off

server_off : (subject : Subject) (p : Progress) (micros : ℕ) (frame : FrameContent) → IsOff p → IsOff (after_frame subject p micros (Sdo Server frame))
unfolding channel_heard exchange_noted late_noted
server_off subject p micros frame off =
    let noted : Progress = channels.answer_noted subject p micros in
    let ended : Option Ended = (channels.exchange_at subject noted micros Server frame).heard.ended in
    heard_off p.entries (channels.shown_beside (channels.hides_end subject noted micros ended) ended) (dialogue_heard subject.limits.answer noted.started noted.dialogue micros Server frame).asked (shares_id subject.node Server frame) Server frame off

client_off : (subject : Subject) (p : Progress) (micros : ℕ) (frame : FrameContent) → IsOff p → IsOff (after_frame subject p micros (Sdo Client frame))
unfolding channel_heard exchange_noted
client_off subject p micros frame off = heard_off p.entries _ _ _ Client frame off

client_off_by : (e : Entries) (b : Bool) → e.emergencies ≡ false → (if b then overwritten e else e).emergencies ≡ false
unfolding overwritten
client_off_by e true off = refl
client_off_by e false off = off

process_off : (subject : Subject) (p : Progress) (micros id length : ℕ) → IsOff p → IsOff (after_frame subject p micros (Process id length))
unfolding after_process
process_off subject p micros id length off = client_off_by p.entries (is_of_client subject id) off

fault_off : (p : Progress) (micros : ℕ) → IsOff p → IsOff (after_fault p micros)
unfolding after_fault with_gap
fault_off p micros off = off

after_off : (subject : Subject) (p : Progress) (micros : ℕ) (kind : FrameKind) → JudgesNone subject → IsOff p → IsOff (after_frame subject p micros kind)
after_off subject p micros (Command service) none off = command_off p service false micros off
after_off subject p micros (CommandToAll service) none off = command_off p service subject.facts.starts_itself micros off
after_off subject p micros (LongCommand service) none off = command_off p service true micros off
after_off subject p micros (Control byte) none off = control_off subject p micros byte none off
after_off subject p micros (OddControl length) none off = odd_control_off subject p micros length off
after_off subject p micros (Emcy code register) none off = emergency_off subject p micros code register off
after_off subject p micros (OddEmergency length) none off = odd_emergency_off subject p micros length off
after_off subject p micros (Sdo Server frame) none off = server_off subject p micros frame off
after_off subject p micros (Sdo Client frame) none off = client_off subject p micros frame off
after_off subject p micros (Process id length) none off = process_off subject p micros id length off
after_off subject p micros Fault none off = fault_off p micros off
after_off subject p micros _ none off = off

-- ---- all frames

all_off : (subject : Subject) (rows : List Row) (recorded : List Recorded) (p : Progress) → JudgesNone subject → IsOff p → differences_from emergency_differences subject rows p recorded ≡ []
unfolding findings_at progress_with
all_off subject rows [] p none off = refl
all_off subject rows (r ∷ later) p none off =
    let kind : FrameKind = data_kind subject.node r.frame in
    let q : Progress = begun subject p r.micros in
    ap (λ (x : List Finding). x ++ differences_from emergency_differences subject rows (progress_with subject p r.micros kind) later) (found_off subject rows q r.micros kind (begun_off subject p r.micros none off))
    ∙ all_off subject rows later (progress_with subject p r.micros kind) none (after_off subject q r.micros kind none (begun_off subject p r.micros none off))

pub none_judged : (subject : Subject) (rows : List Row) (recorded : List Recorded) → JudgesNone subject → differences_in emergency_differences subject rows recorded ≡ []
none_judged subject rows recorded none = all_off subject rows recorded (gaps.before_recording subject) none none.before
