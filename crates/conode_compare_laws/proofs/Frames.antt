-- What compare finds at one frame, and what it knows of the NMT state after it.
use Rattle.std.proofs.Common.{◌≡◌, ℕ, ◌+◌, Bool, true, false, List, [], ◌++◌, length, Option, Some, None, refl, ap, ◌∙◌, arith}
use Rattle.std.specs.Prelude.{if◌then◌else◌, ◌==◌, ◌&&◌, ◌||◌, not, is_some, option_map}
use Rattle.std.specs.Option.{option_to_list}
use Rattle.std.proofs.lemmas.Bool.Decides.{nat_tests}
use Rattle.co_frame.specs.FrameContent.{FrameContent}
use Rattle.co_frame.specs.Emergencies.{emergency_in}
use Rattle.co_frame.specs.Heartbeats.{state_byte, heartbeat_bytes}
use Rattle.co_frame.specs.declared.emergency.Emergency.{Emergency}
use Rattle.co_frame.specs.declared.heartbeat.Heartbeat.{Heartbeat}
use Rattle.co_frame.specs.declared.nmt.NmtCommand.{NmtCommand}
use Rattle.co_frame.specs.declared.nmt.NmtService.{NmtService}
use Rattle.co_frame.specs.declared.nmt.NmtService.TheVariants.{Start, Stop, EnterPreOperational, ResetNode, ResetCommunication}
use Rattle.co_sheet.specs.Content.{Row}
use Rattle.co_node_parts.specs.declared.nmt_state.NodeState.{NodeState}
use Rattle.co_node_parts.specs.declared.nmt_state.NodeState.TheVariants as node
use Rattle.co_node_parts.specs.NmtStates.{heartbeat_of}
use Rattle.co_node_model.specs.Nmt.{service_for}
use Rattle.conode_explain_transfers.specs.declared.kinds.Side.TheVariants.{Client, Server}
use Rattle.conode_compare_pdos.specs.declared.pdos.Sighting.{Sighting}
use Rattle.conode_compare_nmt.specs.declared.finding.Finding.{Finding}
use Rattle.conode_compare_nmt.specs.declared.finding.Finding.TheVariants.{BootMissing, TwoStates}
use Rattle.conode_compare_nmt.specs.declared.finding.NmtState.{NmtState}
use Rattle.conode_compare_nmt.specs.declared.finding.NmtState.TheVariants.{Unknown, PreOperational}
use Rattle.conode_compare_rules.specs.declared.kind.FrameKind.{FrameKind}
use Rattle.conode_compare_rules.specs.declared.kind.FrameKind.TheVariants.{Command, CommandToAll, Control, Emergency as Emcy, OddEmergency, Sdo, Process, Other}
use Rattle.conode_compare_nmt.specs.declared.limits.Limits.{Limits}
use Rattle.conode_compare_nmt.specs.declared.limits.Subject.{Subject}
use Rattle.conode_compare_rules.specs.declared.progress.Progress.{Progress}
use Rattle.conode_compare_rules.specs.Answers.{confirmed_finding}
use Rattle.conode_compare_rules.specs.FrameKinds.{command_kind, command_to, control_kind, data_kind, emergency_kind, emergency_with, length_of}
use Rattle.conode_compare_rules.specs.NmtFrames as nmt_frames
use Rattle.conode_compare_rules.specs.Processes as processes
use Rattle.conode_compare_rules.specs.Gaps.{begins_anew, begun, with_gap}
use Rattle.conode_compare_rules.specs.NmtFrames.{after_command, booted, comes_early, control_findings, heartbeat_findings}
use Rattle.conode_compare_rules.specs.EmergencyRules.{after_emergency, emergency_findings}
use Rattle.conode_compare_rules.specs.Channels.{answer_findings, channel_heard, confirmed_findings, exchange_at, exchange_noted, late_noted, request_findings}
use Rattle.conode_compare_rules.specs.Processes.{after_process, late_by_tpdo, process_findings, sighting_findings}
use Rattle.conode_compare_rules.specs.Progresses.{after_frame, findings_in}
use Rattle.conode_compare_nmt.specs.States as states
use Rattle.conode_compare_nmt.specs.States.{after_boot_up, after_other, awaits_boot_up, boot_finding, boots_known, control_finding, is_guarded_state, is_settled, is_state, said_of, second_boot_up, shows_state, state_commanded, state_finding, strays_again}
use Rattle.conode_compare_rules.specs.Verdicts.{found}
use Rattle.conode_compare_pdos.specs.Followed as tpdos
use Rattle.conode_compare_laws.specs.Differences.{state_differences}
use Rattle.conode_compare_laws.proofs.LongCommands.{long_such}
use Rattle.conode_compare_laws.proofs.Shown.{Stage, boots, runs, Fits, fits_nothing, unbooted, or_unknown, none_overdue, none_judged, freer_not_wrong, is_shown, stage_after, command_fits, either_shown}

-- what compare knows of the NMT state fits
abbrev pub FitsAt : ℕ → Stage → Progress → Type 0
FitsAt micros stage p = Fits micros stage p.nmt.state p.nmt.reset p.nmt.booted

-- at a frame nothing is found of these, and what it knows then fits
pub record Passes (subject : Subject) (rows : List Row) (p : Progress) (micros : ℕ) (kind : FrameKind) (stage : Stage) : Type 0 where
  pub none : state_differences kind (findings_in subject rows p micros kind) ≡ []
  pub fits : FitsAt micros stage (after_frame subject p micros kind)

-- ---- a recording that begins anew at a frame

either : (micros : ℕ) (stage : Stage) (b : Bool) (x y : Progress) → FitsAt micros stage x → FitsAt micros stage y → FitsAt micros stage (if b then x else y)
either micros stage true x y p q = p
either micros stage false x y p q = q

pub begun_fits : (subject : Subject) (p : Progress) (micros now : ℕ) (stage : Stage) → FitsAt micros stage p → FitsAt micros stage (begun subject p now)
unfolding begun
begun_fits subject p micros now stage h = either micros stage (begins_anew subject.limits p now) _ _ (fits_nothing micros stage _) h

-- ---- a boot-up that is missing

none_missing : (limits : Limits) (p : Progress) (micros : ℕ) (stage : Stage) → FitsAt micros stage p → boot_finding limits p.nmt micros ≡ None
unfolding boot_finding awaits_boot_up
none_missing limits p micros stage h = ap (λ o. option_map (λ waited. BootMissing waited) o) (none_overdue limits micros stage p.nmt.state p.nmt.reset p.nmt.booted h)

-- ---- frames that are neither commands nor error control

abbrev pub is_aside : FrameKind → Bool
is_aside (Emcy code register) = true
is_aside (OddEmergency length) = true
is_aside (Sdo side frame) = true
is_aside (Process id length) = true
is_aside _ = false

emergency_aside : (length : ℕ) (o : Option Emergency) → is_aside (emergency_with length o) ≡ true
emergency_aside length None = refl
emergency_aside length (Some emergency) = refl

pub aside_kind : (node : ℕ) (frame : FrameContent) → (frame.id == 0) ≡ false → (frame.id == 0x700 + node) ≡ false → is_aside (data_kind node frame) ≡ true
aside_kind node frame command control = by (frame.id == 0) (frame.id == 0x80 + node) (frame.id == 0x580 + node) (frame.id == 0x600 + node) (frame.id == 0x700 + node) command control
  where
    by : (a b c d e : Bool) → a ≡ false → e ≡ false
        → is_aside (if a then command_kind node frame
        else (if b then emergency_kind frame
        else (if c then Sdo Server frame
        else (if d then Sdo Client frame
        else (if e then control_kind frame else Process frame.id (length_of frame)))))) ≡ true
    by true b c d e p q = absurd (cc)
    by false true c d e p q = emergency_aside (length_of frame) (emergency_in frame.bytes)
    by false false true d e p q = refl
    by false false false true e p q = refl
    by false false false false true p q = absurd (cc)
    by false false false false false p q = refl

confirmed_none : (side : FrameKind) (o : Option Finding) → is_aside side ≡ true → state_differences side (confirmed_findings o) ≡ []
unfolding found
confirmed_none (Emcy code register) None h = refl
confirmed_none (Emcy code register) (Some finding) h = refl
confirmed_none (OddEmergency length) None h = refl
confirmed_none (OddEmergency length) (Some finding) h = refl
confirmed_none (Sdo side frame) None h = refl
confirmed_none (Sdo side frame) (Some finding) h = refl
confirmed_none (Process id length) None h = refl
confirmed_none (Process id length) (Some finding) h = refl
confirmed_none _ o h = absurd (cc)

sighted_none : (late : Option Finding) (id length : ℕ) (o : Option Sighting) → state_differences (Process id length) (sighting_findings late o) ≡ []
unfolding found
sighted_none late id length None = refl
sighted_none late id length (Some sighting) = refl

emergency_passes : (subject : Subject) (rows : List Row) (p : Progress) (micros code register : ℕ) (stage : Stage) → FitsAt micros stage p → Passes subject rows p micros (Emcy code register) stage
unfolding emergency_findings after_emergency found
emergency_passes subject rows p micros code register stage h = record { none = refl; fits = unbooted micros stage p.nmt.state p.nmt.reset p.nmt.booted h }

odd_emergency_passes : (subject : Subject) (rows : List Row) (p : Progress) (micros length : ℕ) (stage : Stage) → FitsAt micros stage p → Passes subject rows p micros (OddEmergency length) stage
unfolding after_emergency found
odd_emergency_passes subject rows p micros length stage h = record { none = refl; fits = unbooted micros stage p.nmt.state p.nmt.reset p.nmt.booted h }

request_passes : (subject : Subject) (rows : List Row) (p : Progress) (micros : ℕ) (frame : FrameContent) (stage : Stage) → FitsAt micros stage p → Passes subject rows p micros (Sdo Client frame) stage
unfolding request_findings channel_heard exchange_noted
request_passes subject rows p micros frame stage h = record {
  none = confirmed_none (Sdo Client frame) (confirmed_finding subject rows p.written (exchange_at subject p micros Client frame) frame) refl;
  fits = h;
}

process_passes : (subject : Subject) (rows : List Row) (p : Progress) (micros id length : ℕ) (stage : Stage) → FitsAt micros stage p → Passes subject rows p micros (Process id length) stage
unfolding process_findings after_process
process_passes subject rows p micros id length stage h = record {
  none = sighted_none (late_by_tpdo subject p micros id length) id length (processes.sighted subject p micros id length);
  fits = h;
}

answer_none : (subject : Subject) (rows : List Row) (p : Progress) (micros : ℕ) (frame : FrameContent) (stage : Stage) → FitsAt micros stage p
    → state_differences (Sdo Server frame) (answer_findings subject rows p micros frame) ≡ []
unfolding answer_findings found
answer_none subject rows p micros frame stage h = ap (λ o. option_to_list o ++ []) (none_missing subject.limits p micros stage h)

answer_fits : (subject : Subject) (p : Progress) (micros : ℕ) (frame : FrameContent) (stage : Stage) → FitsAt micros stage p → FitsAt micros stage (after_frame subject p micros (Sdo Server frame))
unfolding channel_heard exchange_noted late_noted after_other
answer_fits subject p micros frame stage h = or_unknown micros stage (is_some (awaits_boot_up subject.limits p.nmt micros)) p.nmt.state p.nmt.reset p.nmt.booted h

pub aside_passes : (subject : Subject) (rows : List Row) (p : Progress) (micros : ℕ) (kind : FrameKind) (stage : Stage) → is_aside kind ≡ true → FitsAt micros stage p → Passes subject rows p micros kind stage
aside_passes subject rows p micros (Emcy code register) stage is h = emergency_passes subject rows p micros code register stage h
aside_passes subject rows p micros (OddEmergency length) stage is h = odd_emergency_passes subject rows p micros length stage h
aside_passes subject rows p micros (Sdo Server frame) stage is h = record { none = answer_none subject rows p micros frame stage h; fits = answer_fits subject p micros frame stage h }
aside_passes subject rows p micros (Sdo Client frame) stage is h = request_passes subject rows p micros frame stage h
aside_passes subject rows p micros (Process id length) stage is h = process_passes subject rows p micros id length stage h
aside_passes subject rows p micros _ stage is h = absurd (cc)

-- ---- commands

pub nmt_kind : (node : ℕ) (frame : FrameContent) → (frame.id == 0) ≡ true → data_kind node frame ≡ command_kind node frame
nmt_kind node frame is = rw is refl

service_passes : (subject : Subject) (p : Progress) (micros : ℕ) (service : NmtService) (own : Bool) (actual : NodeState) → FitsAt micros (runs actual) p
    → FitsAt micros (stage_after (Some service) actual) (after_command p service own micros)
unfolding after_command states.after_command with_gap
service_passes subject p micros Start own actual h = command_fits micros Start own p.nmt.state actual p.nmt.reset p.nmt.booted h
service_passes subject p micros Stop own actual h = command_fits micros Stop own p.nmt.state actual p.nmt.reset p.nmt.booted h
service_passes subject p micros EnterPreOperational own actual h = command_fits micros EnterPreOperational own p.nmt.state actual p.nmt.reset p.nmt.booted h
service_passes subject p micros ResetNode own actual h = command_fits micros ResetNode own p.nmt.state actual p.nmt.reset p.nmt.booted h
service_passes subject p micros ResetCommunication own actual h = command_fits micros ResetCommunication own p.nmt.state actual p.nmt.reset p.nmt.booted h

-- with more than two bytes: the device doesn't take it
long_passes : (p : Progress) (micros : ℕ) (service : NmtService) (actual : NodeState) → FitsAt micros (runs actual) p → FitsAt micros (runs actual) (after_command p service true micros)
unfolding after_command states.after_command with_gap
long_passes p micros Start actual h = either_shown p.nmt.state (state_commanded Start p.nmt.state) actual h
long_passes p micros Stop actual h = either_shown p.nmt.state (state_commanded Stop p.nmt.state) actual h
long_passes p micros EnterPreOperational actual h = either_shown p.nmt.state (state_commanded EnterPreOperational p.nmt.state) actual h
long_passes p micros ResetNode actual h = either_shown p.nmt.state (state_commanded ResetNode p.nmt.state) actual h
long_passes p micros ResetCommunication actual h = either_shown p.nmt.state (state_commanded ResetCommunication p.nmt.state) actual h

pub command_passes : (subject : Subject) (rows : List Row) (p : Progress) (micros : ℕ) (long command : Option NmtCommand) (actual : NodeState) → FitsAt micros (runs actual) p
    → Passes subject rows p micros (command_to subject.node long command) (stage_after (service_for subject.node command) actual)
command_passes subject rows p micros long None actual h =
    long_such (λ kind. Passes subject rows p micros kind (runs actual)) subject.node long
    (λ service. record { none = refl; fits = long_passes p micros service actual h })
    (record { none = refl; fits = h })
command_passes subject rows p micros long (Some command) actual h = by (command.node == 0) (command.node == subject.node)
  where
    by : (all this : Bool)
        → Passes subject rows p micros (if all then CommandToAll command.service else (if this then Command command.service else Other))
        (stage_after (if all || this then Some command.service else None) actual)
    by true this = record { none = refl; fits = service_passes subject p micros command.service subject.facts.starts_itself actual h }
    by false true = record { none = refl; fits = service_passes subject p micros command.service false actual h }
    by false false = record { none = refl; fits = h }

-- ---- the boot-up, and heartbeats

pub life_kind : (node : ℕ) (life : Heartbeat) → data_kind node (record { id = 0x700 + node; bytes = heartbeat_bytes life }) ≡ Control (state_byte life)
life_kind node life = by (0x700 + node == 0) (0x700 + node == 0x80 + node) (0x700 + node == 0x580 + node) (0x700 + node == 0x600 + node) (0x700 + node == 0x700 + node)
    (grind (arith, nat_tests)) (grind (arith, nat_tests)) (grind (arith, nat_tests)) (grind (arith, nat_tests)) (grind (arith, nat_tests))
  where
    frame : FrameContent
    frame = record { id = 0x700 + node; bytes = heartbeat_bytes life }

    by : (a b c d e : Bool) → a ≡ false → b ≡ false → c ≡ false → d ≡ false → e ≡ true
        → (if a then command_kind node frame
        else (if b then emergency_kind frame
        else (if c then Sdo Server frame
        else (if d then Sdo Client frame
        else (if e then control_kind frame else Process frame.id (length_of frame)))))) ≡ Control (state_byte life)
    by true b c d e p q r s t = absurd (cc)
    by false true c d e p q r s t = absurd (cc)
    by false false true d e p q r s t = absurd (cc)
    by false false false true e p q r s t = absurd (cc)
    by false false false false true p q r s t = refl
    by false false false false false p q r s t = absurd (cc)

boots_shown : (b : Bool) → is_shown (if b then PreOperational else Unknown) node.PreOperational ≡ true
boots_shown true = refl
boots_shown false = refl

pub boot_passes : (subject : Subject) (rows : List Row) (p : Progress) (micros : ℕ) → FitsAt micros boots p → Passes subject rows p micros (Control 0) (runs node.PreOperational)
unfolding found second_boot_up booted states.after_control after_boot_up
boot_passes subject rows p micros h = record {
  none = ap (λ b. option_to_list (second_boot_up b micros)) h.0;
  fits = boots_shown (boots_known subject.limits p.nmt.commanded micros);
}

-- a heartbeat of its state is none that it can't have reached by itself
none_wrong : (settled wrong same : Bool) → wrong ≡ false → ((settled && wrong) && same) ≡ false
none_wrong true true same e = absurd (cc)
none_wrong true false same e = refl
none_wrong false wrong same e = refl

never_again : (subject : Subject) (p : Progress) (micros : ℕ) (actual : NodeState) → FitsAt micros (runs actual) p
    → strays_again subject p.started p.heartbeats.guarded (comes_early subject p micros (state_byte (heartbeat_of actual))) p.nmt p.free (state_byte (heartbeat_of actual)) ≡ false
never_again subject p micros node.PreOperational h = none_wrong (not p.heartbeats.guarded && is_settled subject.limits p.started p.nmt.commanded p.free) _ _ (freer_not_wrong subject.facts.starts_itself p.nmt.state p.nmt.due node.PreOperational h)
never_again subject p micros node.Operational h = none_wrong (not p.heartbeats.guarded && is_settled subject.limits p.started p.nmt.commanded p.free) _ _ (freer_not_wrong subject.facts.starts_itself p.nmt.state p.nmt.due node.Operational h)
never_again subject p micros node.Stopped h = none_wrong (not p.heartbeats.guarded && is_settled subject.limits p.started p.nmt.commanded p.free) _ _ (freer_not_wrong subject.facts.starts_itself p.nmt.state p.nmt.due node.Stopped h)

none_controlled : (subject : Subject) (p : Progress) (micros : ℕ) (actual : NodeState) → FitsAt micros (runs actual) p
    → control_finding subject p.started p.heartbeats.guarded (comes_early subject p micros (state_byte (heartbeat_of actual))) p.nmt p.free (state_byte (heartbeat_of actual)) ≡ None
unfolding control_finding
none_controlled subject p micros node.PreOperational h = by (strays_again subject p.started p.heartbeats.guarded (comes_early subject p micros 127) p.nmt p.free 127) ((p.heartbeats.guarded && is_state 127) || (is_guarded_state 127 || not (is_settled subject.limits p.started p.nmt.commanded p.free)))
    (never_again subject p micros node.PreOperational h)
  where
    by : (again b : Bool) → again ≡ false
        → (if again then Some (TwoStates (states.state_of 127) (states.judged_state p.nmt)) else (if b then None else said_of p.nmt.odd (state_finding subject.facts.starts_itself (states.judged_state p.nmt) 127))) ≡ None
    by true b e = absurd (cc)
    by false true e = refl
    by false false e = ap (said_of p.nmt.odd) (none_judged subject.facts.starts_itself p.nmt.state p.nmt.due node.PreOperational h)
none_controlled subject p micros node.Operational h = by (strays_again subject p.started p.heartbeats.guarded (comes_early subject p micros 5) p.nmt p.free 5) ((p.heartbeats.guarded && is_state 5) || (is_guarded_state 5 || not (is_settled subject.limits p.started p.nmt.commanded p.free)))
    (never_again subject p micros node.Operational h)
  where
    by : (again b : Bool) → again ≡ false
        → (if again then Some (TwoStates (states.state_of 5) (states.judged_state p.nmt)) else (if b then None else said_of p.nmt.odd (state_finding subject.facts.starts_itself (states.judged_state p.nmt) 5))) ≡ None
    by true b e = absurd (cc)
    by false true e = refl
    by false false e = ap (said_of p.nmt.odd) (none_judged subject.facts.starts_itself p.nmt.state p.nmt.due node.Operational h)
none_controlled subject p micros node.Stopped h = by (strays_again subject p.started p.heartbeats.guarded (comes_early subject p micros 4) p.nmt p.free 4) ((p.heartbeats.guarded && is_state 4) || (is_guarded_state 4 || not (is_settled subject.limits p.started p.nmt.commanded p.free)))
    (never_again subject p micros node.Stopped h)
  where
    by : (again b : Bool) → again ≡ false
        → (if again then Some (TwoStates (states.state_of 4) (states.judged_state p.nmt)) else (if b then None else said_of p.nmt.odd (state_finding subject.facts.starts_itself (states.judged_state p.nmt) 4))) ≡ None
    by true b e = absurd (cc)
    by false true e = refl
    by false false e = ap (said_of p.nmt.odd) (none_judged subject.facts.starts_itself p.nmt.state p.nmt.due node.Stopped h)

heartbeat_none : (subject : Subject) (rows : List Row) (p : Progress) (micros : ℕ) (actual : NodeState) → FitsAt micros (runs actual) p
    → option_to_list (boot_finding subject.limits p.nmt micros)
    ++ option_to_list (control_finding subject p.started p.heartbeats.guarded (comes_early subject p micros (state_byte (heartbeat_of actual))) p.nmt p.free (state_byte (heartbeat_of actual))) ≡ []
heartbeat_none subject rows p micros actual h =
    ap (λ o. option_to_list o ++ option_to_list (control_finding subject p.started p.heartbeats.guarded (comes_early subject p micros (state_byte (heartbeat_of actual))) p.nmt p.free (state_byte (heartbeat_of actual)))) (none_missing subject.limits p micros (runs actual) h)
    ∙ ap (λ o. [] ++ option_to_list o) (none_controlled subject p micros actual h)

-- what is known after a heartbeat: its state, or what was known
other_shown : (limits : Limits) (p : Progress) (micros : ℕ) (actual : NodeState) → FitsAt micros (runs actual) p → is_shown (after_other limits p.nmt micros).state actual ≡ true
unfolding after_other
other_shown limits p micros actual h = or_unknown micros (runs actual) (is_some (awaits_boot_up limits p.nmt micros)) p.nmt.state p.nmt.reset p.nmt.booted h

-- unless they are those of two devices
unless_two : (two : Bool) (state : NmtState) (actual : NodeState) → is_shown state actual ≡ true → is_shown (if two then Unknown else state) actual ≡ true
unless_two true state actual h = refl
unless_two false state actual h = h

pub heartbeat_passes : (subject : Subject) (rows : List Row) (p : Progress) (micros : ℕ) (actual : NodeState) → FitsAt micros (runs actual) p
    → Passes subject rows p micros (Control (state_byte (heartbeat_of actual))) (runs actual)
unfolding found control_findings heartbeat_findings nmt_frames.after_control states.after_control
heartbeat_passes subject rows p micros node.PreOperational h = record {
  none = heartbeat_none subject rows p micros node.PreOperational h;
  fits = unless_two (strays_again subject p.started p.heartbeats.guarded (comes_early subject p micros 127) p.nmt p.free 127) _ node.PreOperational (by (shows_state subject.limits p.started p.nmt p.free 127));
}
  where
    by : (b : Bool) → is_shown (if b then states.with_state (after_other subject.limits p.nmt micros) (states.state_of 127) micros else after_other subject.limits p.nmt micros).state node.PreOperational ≡ true
    by true = refl
    by false = other_shown subject.limits p micros node.PreOperational h
heartbeat_passes subject rows p micros node.Operational h = record {
  none = heartbeat_none subject rows p micros node.Operational h;
  fits = unless_two (strays_again subject p.started p.heartbeats.guarded (comes_early subject p micros 5) p.nmt p.free 5) _ node.Operational (by (shows_state subject.limits p.started p.nmt p.free 5));
}
  where
    by : (b : Bool) → is_shown (if b then states.with_state (after_other subject.limits p.nmt micros) (states.state_of 5) micros else after_other subject.limits p.nmt micros).state node.Operational ≡ true
    by true = refl
    by false = other_shown subject.limits p micros node.Operational h
heartbeat_passes subject rows p micros node.Stopped h = record {
  none = heartbeat_none subject rows p micros node.Stopped h;
  fits = unless_two (strays_again subject p.started p.heartbeats.guarded (comes_early subject p micros 4) p.nmt p.free 4) _ node.Stopped (by (shows_state subject.limits p.started p.nmt p.free 4));
}
  where
    by : (b : Bool) → is_shown (if b then states.with_state (after_other subject.limits p.nmt micros) (states.state_of 4) micros else after_other subject.limits p.nmt micros).state node.Stopped ≡ true
    by true = refl
    by false = other_shown subject.limits p micros node.Stopped h
