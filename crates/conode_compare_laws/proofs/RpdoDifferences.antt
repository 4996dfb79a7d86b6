-- What RPDOs write to the entries that are held changes no difference other than `value-held`: of what compare knows it changes `written`
-- alone, on which no other difference rests, nor anything else that compare knows.
use Rattle.std.proofs.Common.{◌≡◌, ℕ, Bool, true, false, List, [], ◌∷◌, ◌++◌, map, Option, Some, None, refl, sym, ap, ◌∙◌}
use Rattle.std.specs.Prelude.{if◌then◌else◌, ◌==◌, option_map}
use Rattle.std.specs.Option.{option_or, option_to_list}
use Rattle.co_frame.specs.FrameContent.{FrameContent}
use Rattle.co_frame.specs.declared.nmt.NmtService.{NmtService}
use Rattle.co_sheet.specs.Content.{Row}
use Rattle.conode_explain_transfers.specs.declared.kinds.Side.TheVariants.{Client, Server}
use Rattle.conode_record.specs.declared.content.Content.{Content}
use Rattle.conode_record.specs.declared.fields.Identifier.{Identifier}
use Rattle.conode_record.specs.declared.fields.Identifier.TheVariants.{Base}
use Rattle.conode_record.specs.declared.line.Record.{Record}
use Rattle.conode_compare_transfers.specs.declared.dialogue.Exchange.{Exchange}
use Rattle.conode_compare_values.specs.declared.written.HeldMismatch.{HeldMismatch}
use Rattle.conode_compare_values.specs.HeldNumbers.{held_mismatch, nothing_written}
use Rattle.conode_compare_nmt.specs.declared.finding.Finding.{Finding}
use Rattle.conode_compare_nmt.specs.declared.finding.Finding.TheVariants.{Held}
use Rattle.conode_compare_rules.specs.declared.kind.FrameKind.{FrameKind}
use Rattle.conode_compare_rules.specs.declared.kind.FrameKind.TheVariants.{Command, CommandToAll, LongCommand, Control, OddControl, Emergency as Emcy, OddEmergency, Process, Sdo, Fault}
use Rattle.conode_compare_nmt.specs.declared.limits.Subject.{Subject}
use Rattle.conode_compare_rules.specs.declared.progress.Progress.{Progress}
use Rattle.conode_compare_rules.specs.declared.verdict.Findings.{Findings}
use Rattle.conode_compare_rules.specs.Answers.{answer_finding, breach_finding, confirmed_finding, ended_finding, held_finding, stopped_finding}
use Rattle.conode_compare_rules.specs.NmtFrames as nmt_frames
use Rattle.conode_compare_rules.specs.Gaps.{after_fault, before_recording, begins_anew, begun, with_gap}
use Rattle.conode_compare_rules.specs.NmtFrames.{after_command, after_odd_control, booted, control_findings, control_judged, heartbeat_findings}
use Rattle.conode_compare_rules.specs.EmergencyRules.{after_emergency, emergency_findings, emergency_noted}
use Rattle.conode_compare_rules.specs.Channels.{answer_findings, answer_nmt, answer_noted, channel_heard, confirmed_findings, exchange_at, exchange_noted, late_noted, request_findings}
use Rattle.conode_compare_rules.specs.Processes.{after_process, moment_at, process_findings}
use Rattle.conode_compare_rules.specs.Progresses.{after_frame, findings_at, findings_in, progress_with}
use Rattle.conode_compare_nmt.specs.States.{is_reset}
use Rattle.conode_compare_rules.specs.Verdicts.{found}
use Rattle.conode_compare_receptions.specs.declared.receptions.Receptions.{Receptions}
use Rattle.conode_compare_receptions.specs.AllFrames.{kind_at, program_from, program_over, progress_after, receptions_after}
use Rattle.conode_compare_receptions.specs.Receptions.{holds_none, no_receptions, with_receptions}
use Rattle.conode_compare_laws.specs.AnswerFindings.{of_answers, of_data, of_timeouts, of_toggles, of_transfers}
use Rattle.conode_compare_laws.specs.Differences.{differences_from, differences_in, kind_in}
use Rattle.conode_compare_laws.specs.Recordings.{Recorded}
use Rattle.conode_compare_laws.specs.RpdoDifferences.{
  AreReadAs,
  LawsPickNoHeld,
  PicksNoHeld,
  all_besides_held,
  as_read,
  besides_held,
  findings_from,
  findings_over,
  without_held,
}

-- what compare knows, but for what was written
abbrev pub unwritten : Progress → Progress
unwritten p = record p { written = nothing_written }

-- what doesn't rest on that
carried : {A : Type 0} (f : Progress → A) → ((p : Progress) → f (unwritten p) ≡ f p) → (p q : Progress) → unwritten p ≡ unwritten q → f p ≡ f q
carried f h p q e = sym (h p) ∙ ap f e ∙ h q

either : (b : Bool) (x y z w : Progress) → unwritten x ≡ unwritten z → unwritten y ≡ unwritten w → unwritten (if b then x else y) ≡ unwritten (if b then z else w)
either true x y z w p q = p
either false x y z w p q = q

-- ---- what compare knows after a frame

begun_same : (subject : Subject) (micros : ℕ) (p : Progress) → unwritten (begun subject (unwritten p) micros) ≡ unwritten (begun subject p micros)
unfolding begun
begun_same subject micros p = either (begins_anew subject.limits p micros) _ _ _ _ refl refl

command_same : (service : NmtService) (own : Bool) (micros : ℕ) (p : Progress) → unwritten (after_command (unwritten p) service own micros) ≡ unwritten (after_command p service own micros)
unfolding after_command with_gap
command_same service own micros p = either (is_reset service) _ _ _ _ refl refl

control_same : (subject : Subject) (micros byte : ℕ) (p : Progress) → unwritten (after_frame subject (unwritten p) micros (Control byte)) ≡ unwritten (after_frame subject p micros (Control byte))
unfolding booted nmt_frames.after_control
control_same subject micros byte p = either (byte == 0) _ _ _ _ refl refl

odd_control_same : (subject : Subject) (micros length : ℕ) (p : Progress) → unwritten (after_frame subject (unwritten p) micros (OddControl length)) ≡ unwritten (after_frame subject p micros (OddControl length))
unfolding after_odd_control
odd_control_same subject micros length p = refl

emergency_same : (micros : ℕ) (p : Progress) → unwritten (after_emergency (unwritten p)) ≡ unwritten (after_emergency p)
unfolding after_emergency
emergency_same micros p = refl

noted_same : (subject : Subject) (micros : ℕ) (p : Progress) → unwritten (emergency_noted subject (unwritten p) micros) ≡ unwritten (emergency_noted subject p micros)
unfolding after_emergency
noted_same subject micros p = refl

server_same : (subject : Subject) (micros : ℕ) (frame : FrameContent) (p : Progress) → unwritten (after_frame subject (unwritten p) micros (Sdo Server frame)) ≡ unwritten (after_frame subject p micros (Sdo Server frame))
unfolding channel_heard exchange_at exchange_noted late_noted
server_same subject micros frame p = refl

client_same : (subject : Subject) (micros : ℕ) (frame : FrameContent) (p : Progress) → unwritten (after_frame subject (unwritten p) micros (Sdo Client frame)) ≡ unwritten (after_frame subject p micros (Sdo Client frame))
unfolding channel_heard exchange_at exchange_noted
client_same subject micros frame p = refl

process_same : (subject : Subject) (micros id length : ℕ) (p : Progress) → unwritten (after_process subject (unwritten p) micros id length) ≡ unwritten (after_process subject p micros id length)
unfolding after_process moment_at
process_same subject micros id length p = refl

fault_same : (micros : ℕ) (p : Progress) → unwritten (after_fault (unwritten p) micros) ≡ unwritten (after_fault p micros)
unfolding after_fault with_gap
fault_same micros p = refl

after_same : (subject : Subject) (micros : ℕ) (kind : FrameKind) (p : Progress) → unwritten (after_frame subject (unwritten p) micros kind) ≡ unwritten (after_frame subject p micros kind)
after_same subject micros (Command service) p = command_same service false micros p
after_same subject micros (CommandToAll service) p = command_same service subject.facts.starts_itself micros p
after_same subject micros (LongCommand service) p = command_same service true micros p
after_same subject micros (Control byte) p = control_same subject micros byte p
after_same subject micros (OddControl length) p = odd_control_same subject micros length p
after_same subject micros (Emcy code register) p = noted_same subject micros p
after_same subject micros (OddEmergency length) p = emergency_same micros p
after_same subject micros (Sdo Server frame) p = server_same subject micros frame p
after_same subject micros (Sdo Client frame) p = client_same subject micros frame p
after_same subject micros (Process id length) p = process_same subject micros id length p
after_same subject micros Fault p = fault_same micros p
after_same subject micros _ p = refl

progress_same : (subject : Subject) (micros : ℕ) (kind : FrameKind) (p q : Progress) → unwritten p ≡ unwritten q → unwritten (progress_with subject p micros kind) ≡ unwritten (progress_with subject q micros kind)
unfolding progress_with
progress_same subject micros kind p q e =
    carried (λ s. unwritten (after_frame subject s micros kind)) (after_same subject micros kind) (begun subject p micros) (begun subject q micros)
    (carried (λ s. unwritten (begun subject s micros)) (begun_same subject micros) p q e)

-- what RPDOs write is `written` alone
written_alone : (subject : Subject) (p : Progress) (r : Receptions) → unwritten (with_receptions subject p r) ≡ unwritten p
unfolding with_receptions
written_alone subject p r = by (holds_none subject)
  where
    by : (b : Bool) → unwritten (if b then p else record p { written = r.writes.written }) ≡ unwritten p
    by true = refl
    by false = refl

-- ---- what is found at a frame

held_last : (o : Option Finding) (a b : Option HeldMismatch) → besides_held (option_or o (option_map (λ m. Held m) a)) ≡ besides_held (option_or o (option_map (λ m. Held m) b))
held_last None None None = refl
held_last None None (Some b) = refl
held_last None (Some a) None = refl
held_last None (Some a) (Some b) = refl
held_last (Some finding) a b = refl

held_last_of_three : (s o : Option Finding) (a b : Option HeldMismatch)
    → besides_held (option_or s (option_or o (option_map (λ m. Held m) a))) ≡ besides_held (option_or s (option_or o (option_map (λ m. Held m) b)))
held_last_of_three None o a b = held_last o a b
held_last_of_three (Some finding) o a b = refl

-- what is found, with another difference of the frame
abbrev with_frame : Findings → Option Finding → Findings
with_frame f finding = record f { frame = finding; verdict = None }

answer_same : (subject : Subject) (rows : List Row) (micros : ℕ) (frame : FrameContent) (p : Progress)
    → without_held (findings_in subject rows (unwritten p) micros (Sdo Server frame)) ≡ without_held (findings_in subject rows p micros (Sdo Server frame))
unfolding answer_findings exchange_at found held_finding late_noted
answer_same subject rows micros frame p =
    let noted : Progress = answer_noted subject p micros in
    let exchange : Exchange = exchange_at subject noted micros Server frame in
    ap (with_frame (findings_in subject rows p micros (Sdo Server frame)))
    (held_last_of_three (stopped_finding subject.limits noted.started (answer_nmt subject p micros) exchange) (answer_finding subject rows micros (answer_nmt subject p micros) exchange frame)
    (held_mismatch subject.held.entries.items nothing_written exchange.certain exchange.heard.ended)
    (held_mismatch subject.held.entries.items p.written exchange.certain exchange.heard.ended))

only_frame : (o : Option Finding) → without_held (confirmed_findings o) ≡ record { boot = None; heartbeat = None; answer = None; frame = besides_held o; verdict = None }
unfolding found
only_frame None = refl
only_frame (Some finding) = refl

request_same : (subject : Subject) (rows : List Row) (micros : ℕ) (frame : FrameContent) (p : Progress)
    → without_held (findings_in subject rows (unwritten p) micros (Sdo Client frame)) ≡ without_held (findings_in subject rows p micros (Sdo Client frame))
unfolding confirmed_finding exchange_at held_finding request_findings
request_same subject rows micros frame p =
    only_frame _
    ∙ ap (λ (o : Option Finding). with_frame (confirmed_findings None) o) (by exchange.certain)
    ∙ sym (only_frame _)
  where
    exchange : Exchange
    exchange = exchange_at subject p micros Client frame

    by : (certain : Bool)
        → besides_held (if certain then option_or (breach_finding exchange.breach) (option_or (ended_finding subject rows frame exchange.heard.ended) (option_map (λ m. Held m) (held_mismatch subject.held.entries.items nothing_written exchange.certain exchange.heard.ended))) else None)
        ≡ besides_held (if certain then option_or (breach_finding exchange.breach) (option_or (ended_finding subject rows frame exchange.heard.ended) (option_map (λ m. Held m) (held_mismatch subject.held.entries.items p.written exchange.certain exchange.heard.ended))) else None)
    by true = held_last_of_three (breach_finding exchange.breach) (ended_finding subject rows frame exchange.heard.ended) _ _
    by false = refl

module _ (these : FrameKind → Findings → List Finding) (picks : PicksNoHeld these) where
  picked : (subject : Subject) (rows : List Row) (micros : ℕ) (kind : FrameKind) (p : Progress) → these kind (findings_in subject rows (unwritten p) micros kind) ≡ these kind (findings_in subject rows p micros kind)
  unfolding control_findings control_judged emergency_findings heartbeat_findings moment_at process_findings
  picked subject rows micros (Sdo Server frame) p =
      picks Server frame (findings_in subject rows (unwritten p) micros (Sdo Server frame))
      ∙ ap (these (Sdo Server frame)) (answer_same subject rows micros frame p)
      ∙ sym (picks Server frame (findings_in subject rows p micros (Sdo Server frame)))
  picked subject rows micros (Sdo Client frame) p =
      picks Client frame (findings_in subject rows (unwritten p) micros (Sdo Client frame))
      ∙ ap (these (Sdo Client frame)) (request_same subject rows micros frame p)
      ∙ sym (picks Client frame (findings_in subject rows p micros (Sdo Client frame)))
  picked subject rows micros _ p = refl

  found_same : (subject : Subject) (rows : List Row) (micros : ℕ) (kind : FrameKind) (p q : Progress) → unwritten p ≡ unwritten q → these kind (findings_at subject rows p micros kind) ≡ these kind (findings_at subject rows q micros kind)
  unfolding findings_at
  found_same subject rows micros kind p q e =
      carried (λ s. these kind (findings_in subject rows s micros kind)) (picked subject rows micros kind) (begun subject p micros) (begun subject q micros)
      (carried (λ s. unwritten (begun subject s micros)) (begun_same subject micros) p q e)

  -- ---- all frames

  all_same : (subject : Subject) (rows : List Row) (frames : List Record) (p q : Progress) (r : Receptions) → unwritten p ≡ unwritten q → program_from these subject rows p r frames ≡ findings_from these subject rows q frames
  all_same subject rows [] p q r e = refl
  all_same subject rows (x ∷ later) p q r e =
      ap (λ (l : List Finding). l ++ program_from these subject rows (progress_after subject rows p r x) (receptions_after subject rows p r x) later)
      (found_same subject rows x.micros (kind_at subject x) p q e)
      ∙ ap (λ (l : List Finding). these (kind_at subject x) (findings_at subject rows q x.micros (kind_at subject x)) ++ l)
      (all_same subject rows later (progress_after subject rows p r x) (progress_with subject q x.micros (kind_at subject x)) (receptions_after subject rows p r x)
      (written_alone subject (progress_with subject p x.micros (kind_at subject x)) (receptions_after subject rows p r x) ∙ progress_same subject x.micros (kind_at subject x) p q e))

  pub same : (subject : Subject) (rows : List Row) (frames : List Record) → program_over these subject rows frames ≡ findings_over these subject rows frames
  same subject rows frames = all_same subject rows frames (before_recording subject) (before_recording subject) no_receptions refl

  read_same : (subject : Subject) (rows : List Row) (recorded : List Recorded) (p : Progress) → findings_from these subject rows p (map as_read recorded) ≡ differences_from these subject rows p recorded
  read_same subject rows [] p = refl
  read_same subject rows (x ∷ later) p =
      ap (λ (l : List Finding). these (kind_in subject x) (findings_at subject rows p x.micros (kind_in subject x)) ++ l)
      (read_same subject rows later (progress_with subject p x.micros (kind_in subject x)))

  pub same_read : (subject : Subject) (rows : List Row) (recorded : List Recorded) → program_over these subject rows (map as_read recorded) ≡ differences_in these subject rows recorded
  same_read subject rows recorded = same subject rows (map as_read recorded) ∙ read_same subject rows recorded (before_recording subject)

  -- at a frame with this stamp, identifier and content, and at those that follow
  abbrev at : Subject → List Row → Progress → Receptions → ℕ → Identifier → Content → List Record → List Finding
  at subject rows p r micros id content later =
      program_from these subject rows p r (record { micros = micros; interface = []; id = id; content = content; direction = None } ∷ later)

  any_read : (subject : Subject) (rows : List Row) (frames : List Record) (recorded : List Recorded) (p : Progress) (r : Receptions) → AreReadAs frames recorded
      → program_from these subject rows p r frames ≡ program_from these subject rows p r (map as_read recorded)
  any_read subject rows [] [] p r h = refl
  any_read subject rows [] (y ∷ later) p r h = absurd h
  any_read subject rows (x ∷ more) [] p r h = absurd h
  any_read subject rows (x ∷ more) (y ∷ later) p r h =
      ap (λ (micros : ℕ). at subject rows p r micros x.id x.content more) h.0.micros
      ∙ ap (λ (id : Identifier). at subject rows p r y.micros id x.content more) h.0.id
      ∙ ap (λ (content : Content). at subject rows p r y.micros (Base y.frame.id) content more) h.0.content
      ∙ ap (λ (l : List Finding). these (kind_in subject y) (findings_at subject rows p y.micros (kind_in subject y)) ++ l)
      (any_read subject rows more later (progress_after subject rows p r (as_read y)) (receptions_after subject rows p r (as_read y)) h.1)

  pub all_read : (subject : Subject) (rows : List Row) (frames : List Record) (recorded : List Recorded) → AreReadAs frames recorded
      → program_over these subject rows frames ≡ differences_in these subject rows recorded
  all_read subject rows frames recorded h = any_read subject rows frames recorded (before_recording subject) no_receptions h ∙ same_read subject rows recorded

-- ---- which differences these are

-- where the difference of the frame is picked from
module _ (pick : Option Finding → List Finding) (none : (m : HeldMismatch) → pick (Some (Held m)) ≡ pick None) where
  pick_same : (o : Option Finding) → pick o ≡ pick (besides_held o)
  pick_same None = refl
  pick_same (Some (Held m)) = none m
  pick_same (Some finding) = refl

pub laws_pick : LawsPickNoHeld
laws_pick = record {
  states = λ side frame f. refl;
  emergencies = λ side frame f. refl;
  inhibits = λ side frame f. refl;
  lates = λ side frame f. refl;
  tpdos = λ is side frame f. refl;
  answers = λ side frame f. ap (λ (l : List Finding). option_to_list f.answer ++ l) (pick_same of_answers (λ m. refl) f.frame);
  transfers = λ side frame f. pick_same of_transfers (λ m. refl) f.frame;
  uploads = λ side frame f. pick_same of_data (λ m. refl) f.frame;
  toggles = λ side frame f. pick_same of_toggles (λ m. refl) f.frame;
  timeouts = λ side frame f. pick_same of_timeouts (λ m. refl) f.frame;
}

pub all_pick : PicksNoHeld all_besides_held
all_pick side frame f =
    ap (λ (l : List Finding). option_to_list f.boot ++ (option_to_list f.heartbeat ++ (option_to_list f.answer ++ l)))
    (pick_same (λ o. option_to_list (besides_held o)) (λ m. refl) f.frame)
