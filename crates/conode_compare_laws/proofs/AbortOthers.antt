-- Frames of other services and of other channels, for the law about timeouts: what is known of the channel stays, or nothing is.
use Rattle.std.proofs.Common.{◌≡◌, ℕ, ◌+◌, Bool, true, false, List, [], ◌∷◌, length, Option, Some, None, refl, sym, ap}
use Rattle.std.specs.Prelude.{◌==◌, if◌then◌else◌, is_some}
use Rattle.std.proofs.lemmas.Bool.{false≢true}
use Rattle.co_frame.specs.FrameContent.{FrameContent}
use Rattle.co_frame.specs.Heartbeats.{heartbeat_bytes}
use Rattle.co_frame.specs.declared.heartbeat.Heartbeat.{Heartbeat}
use Rattle.co_frame.specs.declared.nmt.NmtService.{NmtService}
use Rattle.co_frame.specs.declared.nmt.NmtService.TheVariants.{Start, Stop, EnterPreOperational, ResetNode, ResetCommunication}
use Rattle.co_node_model.specs.Heartbeats.{life_frames}
use Rattle.co_sheet.specs.Content.{Row}
use Rattle.conode_compare_transfers.specs.declared.dialogue.Dialogue.{Dialogue}
use Rattle.conode_compare_transfers.specs.Dialogues.{given_up, interrupted}
use Rattle.conode_compare_rules.specs.declared.kind.FrameKind.{FrameKind}
use Rattle.conode_compare_rules.specs.declared.kind.FrameKind.TheVariants.{Command, CommandToAll, LongCommand, Control, Emergency as Emcy, Fault, Guarding, OddControl, OddEmergency, Other, Polled, Process, Sdo}
use Rattle.conode_compare_nmt.specs.declared.limits.Subject.{Subject}
use Rattle.conode_compare_nmt.specs.declared.finding.Finding.{Finding}
use Rattle.conode_compare_rules.specs.declared.progress.Progress.{Progress}
use Rattle.conode_compare_rules.specs.declared.verdict.Findings.{Findings}
use Rattle.conode_compare_rules.specs.FrameKinds.{data_kind}
use Rattle.conode_compare_rules.specs.NmtFrames as nmt_frames
use Rattle.conode_compare_rules.specs.Gaps.{after_fault, begins_anew, begun, breaks_off, with_gap}
use Rattle.conode_compare_rules.specs.NmtFrames.{after_command, after_odd_control, booted, silence_at}
use Rattle.conode_compare_rules.specs.EmergencyRules.{after_emergency, emergency_noted}
use Rattle.conode_compare_rules.specs.Processes.{after_process}
use Rattle.conode_compare_rules.specs.Progresses.{after_frame, findings_at, findings_in, progress_with}
use Rattle.conode_compare_laws.specs.AnswerSenders.{AreOther}
use Rattle.conode_compare_laws.proofs.Frames.{life_kind}
use Rattle.conode_compare_laws.proofs.AnswerOthers.{is_sdo, other_kind}
use Rattle.conode_compare_laws.proofs.Runs.{AllRun}

-- ---- what holds of a channel of which nothing is known

module _ (P : Dialogue → Type 0) (none : (d : Dialogue) → d.newest ≡ None → P d) where
  abbrev Has : Progress → Type 0
  Has q = P q.dialogue

  either : (b : Bool) (x y : Progress) → Has x → Has y → Has (if b then x else y)
  either true x y p q = p
  either false x y p q = q

  either_dialogue : (b : Bool) (x y : Dialogue) → P x → P y → P (if b then x else y)
  either_dialogue true x y p q = p
  either_dialogue false x y p q = q

  pub begun_has : (subject : Subject) (p : Progress) (micros : ℕ) → Has p → Has (begun subject p micros)
  unfolding begun
  begun_has subject p micros h = either (begins_anew subject.limits p micros) _ _ (none _ refl) (either_dialogue (breaks_off subject.limits p micros) (interrupted p.dialogue micros) p.dialogue (none _ refl) h)

  command_has : (p : Progress) (service : NmtService) (own : Bool) (micros : ℕ) → Has p → Has (after_command p service own micros)
  unfolding after_command with_gap
  command_has p Start own micros h = h
  command_has p Stop own micros h = h
  command_has p EnterPreOperational own micros h = h
  command_has p ResetNode own micros h = none _ refl
  command_has p ResetCommunication own micros h = none _ refl

  boot_has : (subject : Subject) (p : Progress) (micros : ℕ) → Has (booted subject p micros)
  unfolding booted
  boot_has subject p micros = none _ refl

  control_has : (subject : Subject) (p : Progress) (micros byte : ℕ) → Has p → Has (nmt_frames.after_control subject p micros byte)
  unfolding nmt_frames.after_control
  control_has subject p micros byte h = either_dialogue (is_some (silence_at subject p micros byte)) (given_up p.dialogue micros) p.dialogue (none _ refl) h

  odd_has : (subject : Subject) (p : Progress) (micros : ℕ) → Has p → Has (after_odd_control subject p micros)
  unfolding after_odd_control
  odd_has subject p micros h = h

  emergency_has : (p : Progress) → Has p → Has (after_emergency p)
  unfolding after_emergency
  emergency_has p h = h

  noted_has : (subject : Subject) (p : Progress) (micros : ℕ) → Has p → Has (emergency_noted subject p micros)
  unfolding after_emergency
  noted_has subject p micros h = h

  process_has : (subject : Subject) (p : Progress) (micros id length : ℕ) → Has p → Has (after_process subject p micros id length)
  unfolding after_process
  process_has subject p micros id length h = h

  fault_has : (p : Progress) (micros : ℕ) → Has (after_fault p micros)
  unfolding after_fault with_gap
  fault_has p micros = none _ refl

  kind_has : (subject : Subject) (p : Progress) (micros : ℕ) (kind : FrameKind) → is_sdo kind ≡ false → Has p → Has (after_frame subject p micros kind)
  kind_has subject p micros (Control byte) off h = either (byte == 0) _ _ (boot_has subject p micros) (control_has subject p micros byte h)
  kind_has subject p micros (OddControl length) off h = odd_has subject p micros h
  kind_has subject p micros (Emcy code register) off h = noted_has subject p micros h
  kind_has subject p micros (OddEmergency length) off h = emergency_has p h
  kind_has subject p micros (Sdo side frame) off h = absurd (false≢true (sym off))
  kind_has subject p micros (Command service) off h = command_has p service false micros h
  kind_has subject p micros (CommandToAll service) off h = command_has p service subject.facts.starts_itself micros h
  kind_has subject p micros (LongCommand service) off h = command_has p service true micros h
  kind_has subject p micros (Process id length) off h = process_has subject p micros id length h
  kind_has subject p micros (Polled id) off h = h
  kind_has subject p micros Guarding off h = h
  kind_has subject p micros Fault off h = fault_has p micros
  kind_has subject p micros Other off h = h

-- ---- one after another

module _ (these : FrameKind → Findings → List Finding) (quiet : (kind : FrameKind) (found : Findings) → is_sdo kind ≡ false → these kind found ≡ []) (P : Dialogue → Type 0) (none : (d : Dialogue) → d.newest ≡ None → P d) where
  kind_runs : (subject : Subject) (rows : List Row) (micros : ℕ) (p : Progress) (frame : FrameContent) (later : List FrameContent) (after : Progress → Type 0) → is_sdo (data_kind subject.node frame) ≡ false → P p.dialogue
      → ((q : Progress) → P q.dialogue → AllRun these subject rows micros q later after) → AllRun these subject rows micros p (frame ∷ later) after
  unfolding findings_at progress_with
  kind_runs subject rows micros p frame later after off h rest = (
    quiet (data_kind subject.node frame) (findings_in subject rows (begun subject p micros) micros (data_kind subject.node frame)) off,
    rest (after_frame subject (begun subject p micros) micros (data_kind subject.node frame)) (kind_has P none subject (begun subject p micros) micros (data_kind subject.node frame) off (begun_has P none subject p micros h)),
  )

  pub others_run : (subject : Subject) (rows : List Row) (micros : ℕ) (frames : List FrameContent) (p : Progress) → AreOther subject.node frames → P p.dialogue → AllRun these subject rows micros p frames (λ q. P q.dialogue)
  others_run subject rows micros [] p other h = h
  others_run subject rows micros (frame ∷ later) p other h =
      kind_runs subject rows micros p frame later (λ q. P q.dialogue) (other_kind subject.node frame other.0) h (λ q g. others_run subject rows micros later q other.1 g)

  pub life_run : (subject : Subject) (rows : List Row) (micros : ℕ) (life : Option Heartbeat) (p : Progress) → P p.dialogue → AllRun these subject rows micros p (life_frames subject.node life) (λ q. P q.dialogue)
  life_run subject rows micros None p h = h
  life_run subject rows micros (Some life) p h =
      kind_runs subject rows micros p (record { id = 0x700 + subject.node; bytes = heartbeat_bytes life }) [] (λ q. P q.dialogue) (ap is_sdo (life_kind subject.node life)) h (λ q g. g)
