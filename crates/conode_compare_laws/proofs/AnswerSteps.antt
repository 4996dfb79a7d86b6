-- What holds of what compare knows of the channel, frame by frame: which transfer is open, and why an initiate request isn't answered.
use Rattle.std.proofs.Common.{◌≡◌, ℕ, ◌-◌, ◌*◌, ◌≤◌, Bool, true, false, not, List, [], ◌∷◌, Option, Some, None, refl, sym, ap, ◌∙◌, ◌⊎◌, inl, inr, subst, arith}
use Rattle.std.specs.Prelude.{◌==◌, ◌&&◌, ◌||◌, if◌then◌else◌, is_some, IfSome, nat_lt}
use Rattle.std.specs.Option.{option_map_or, option_or, option_to_list}
use Rattle.std.proofs.lemmas.Bool.{false≢true}
use Rattle.std.proofs.lemmas.Bool.Decides.{nat_tests}
use Rattle.co_frame.specs.FrameContent.{FrameContent}
use Rattle.co_frame.specs.Heartbeats.{state_byte}
use Rattle.co_frame.specs.declared.nmt.NmtCommand.{NmtCommand}
use Rattle.co_frame.specs.declared.nmt.NmtService.{NmtService}
use Rattle.co_frame.specs.declared.nmt.NmtService.TheVariants.{Start, Stop, EnterPreOperational, ResetNode, ResetCommunication}
use Rattle.co_sheet.specs.Content.{Row}
use Rattle.co_node_model.specs.Nmt.{service_for}
use Rattle.co_node_parts.specs.declared.nmt_state.NodeState.{NodeState}
use Rattle.co_node_parts.specs.declared.nmt_state.NodeState.TheVariants as node
use Rattle.co_node_parts.specs.NmtStates.{heartbeat_of}
use Rattle.conode_explain_transfers.specs.declared.kinds.Side.TheVariants.{Client, Server}
use Rattle.conode_compare_transfers.specs.declared.dialogue.Asked.{Asked}
use Rattle.conode_compare_transfers.specs.declared.dialogue.Dialogue.{Dialogue}
use Rattle.conode_compare_transfers.specs.declared.dialogue.Exchange.{Exchange}
use Rattle.conode_compare_transfers.specs.Dialogues.{dialogue_heard, exchange_in, given_up, interrupted, is_awaited, is_certain}
use Rattle.conode_compare_transfers.specs.declared.left.Left.{Left}
use Rattle.conode_compare_transfers.specs.Times.{is_past, micros_of}
use Rattle.conode_compare_nmt.specs.declared.finding.Finding.{Finding}
use Rattle.conode_compare_rules.specs.declared.kind.FrameKind.{FrameKind}
use Rattle.conode_compare_rules.specs.declared.kind.FrameKind.TheVariants.{Command, CommandToAll, Control, Emergency as Emcy, OddEmergency, Process, Sdo, Other}
use Rattle.conode_compare_nmt.specs.declared.limits.Limits.{Limits}
use Rattle.conode_compare_nmt.specs.declared.limits.Subject.{Subject}
use Rattle.conode_compare_nmt.specs.declared.nmt.Commanded.{Commanded}
use Rattle.conode_compare_nmt.specs.declared.nmt.Nmt.{Nmt}
use Rattle.conode_compare_rules.specs.declared.progress.Progress.{Progress}
use Rattle.conode_compare_rules.specs.Answers.{answer_finding, breach_finding, confirmed_finding, ended_finding, held_finding, silence_finding, stopped_finding}
use Rattle.conode_compare_rules.specs.FrameKinds.{command_to, data_kind}
use Rattle.conode_compare_nmt.specs.Heartbeats.{is_gap}
use Rattle.conode_compare_rules.specs.NmtFrames as nmt_frames
use Rattle.conode_compare_rules.specs.Processes as processes
use Rattle.conode_compare_rules.specs.Gaps.{anew_after, begins_anew, begun, breaks_off, is_later, with_gap}
use Rattle.conode_compare_rules.specs.NmtFrames.{after_command, booted, control_findings, heartbeat_findings, silence_at}
use Rattle.conode_compare_rules.specs.EmergencyRules.{after_emergency, emergency_findings}
use Rattle.conode_compare_rules.specs.Channels.{answer_findings, answer_nmt, channel_heard, confirmed_findings, exchange_at, exchange_noted, late_noted, left_open, may_miss_end, request_findings}
use Rattle.conode_compare_rules.specs.Processes.{after_process, late_by_tpdo, process_findings, sighting_findings}
use Rattle.conode_compare_rules.specs.Progresses.{after_frame, findings_at, findings_in, progress_with}
use Rattle.conode_compare_pdos.specs.declared.pdos.Sighting.{Sighting}
use Rattle.conode_compare_nmt.specs.States as states
use Rattle.conode_compare_nmt.specs.States.{after_other, shows_state}
use Rattle.conode_compare_rules.specs.Verdicts.{found}
use Rattle.conode_compare_laws.specs.AnswerFindings.{answer_differences, of_answers}
use Rattle.conode_compare_laws.proofs.LongCommands.{long_such}
use Rattle.conode_compare_laws.proofs.BlockTurns.{Live}
use Rattle.conode_compare_laws.proofs.BlockCovers.{Covers, covers_interrupted, covers_open, interrupted_kept}
use Rattle.conode_compare_laws.proofs.AnswerFound.{commanded_since, doubted_silent, held_none, never_past, no_end, none_awaited, none_confirmed, only_or, silent, unsettled_after}
use Rattle.conode_compare_laws.proofs.Runs.{AllRun}
use Rattle.conode_compare_laws.proofs.Shown.{Stage, boots, runs, stage_after}

-- ---- what holds

-- not later than the newest frame
abbrev pub IsBy : ℕ → Option ℕ → Type 0
IsBy micros None = ⊥
IsBy micros (Some newest) = micros ≤ newest

-- a command came since
abbrev pub Since : ℕ → Option Commanded → Type 0
Since micros None = ⊥
Since micros (Some c) = micros ≤ c.micros

-- the device needn't have answered what was asked then: it is stopped, or was before a command that came since
abbrev pub Excused : Stage → ℕ → Option Commanded → Type 0
Excused boots micros commanded = ⊥
Excused (runs node.Stopped) micros commanded = Unit {0}
Excused (runs node.PreOperational) micros commanded = Since micros commanded
Excused (runs node.Operational) micros commanded = Since micros commanded

-- an earlier request could be answered then
abbrev pub InDoubt : ℕ → Option ℕ → Type 0
InDoubt micros None = ⊥
InDoubt micros (Some doubted) = micros ≤ doubted

-- an initiate request that isn't answered: the channel is idle; or it may be a segment of a sub-block
pub record Awaits (Idle : Type 0) (stage : Stage) (newest : Option ℕ) (commanded : Option Commanded) (doubted : Option ℕ) (a : Asked) : Type 0 where
  pub by : IsBy a.micros newest
  pub why : (Excused stage a.micros commanded × Idle) ⊎ InDoubt a.micros doubted

-- `Inside`: the device is inside a sub-block of a download
pub record HoldsOf (Idle Inside : Type 0) (stage : Stage) (newest : Option ℕ) (commanded : Option Commanded) (d : Dialogue) : Type 0 where
  pub live : IfSome d.channel.transfer Live
  pub asked : IfSome d.asked (Awaits Idle stage newest commanded d.doubted)
  pub covers : Inside → Covers d

abbrev pub Holds : Type 0 → Type 0 → Stage → Progress → Type 0
Holds Idle Inside stage p = HoldsOf Idle Inside stage p.newest p.nmt.commanded p.dialogue

pub some_map : {A : Type 0} (o : Option A) (P Q : A → Type 0) → ((x : A) → P x → Q x) → IfSome o P → IfSome o Q
some_map None P Q f h = tt
some_map (Some x) P Q f h = f x h

pub if_none : {A : Type 0} (o : Option A) (P : A → Type 0) → o ≡ None → IfSome o P
if_none None P h = tt
if_none (Some x) P h = absurd (let no : is_some (Some x) ≡ false = ap is_some h in false≢true (sym no))

-- nothing is asked
pub none_holds : (Idle Inside : Type 0) (stage : Stage) (newest : Option ℕ) (commanded : Option Commanded) (d : Dialogue) → IfSome d.channel.transfer Live → d.asked ≡ None → (Inside → Covers d)
    → HoldsOf Idle Inside stage newest commanded d
none_holds Idle Inside stage newest commanded d s none c = record { live = s; asked = if_none d.asked (Awaits Idle stage newest commanded d.doubted) none; covers = c }

-- a frame of the client that the device may not have taken
pub holds_open : (Idle Inside : Type 0) (stage : Stage) (newest : Option ℕ) (commanded : Option Commanded) (misses : Bool) (d : Dialogue) → HoldsOf Idle Inside stage newest commanded d
    → HoldsOf Idle Inside stage newest commanded (left_open Client misses d)
holds_open Idle Inside stage newest commanded misses d h = record { live = h.live; asked = h.asked; covers = λ i. covers_open misses d (h.covers i) }

-- ---- a recording that begins anew at a frame, and one that was quiet

quiet_holds : (Idle Inside : Type 0) (stage : Stage) (newest : Option ℕ) (commanded : Option Commanded) (d : Dialogue) (micros : ℕ) (quiet : Bool) → HoldsOf Idle Inside stage newest commanded d
    → HoldsOf Idle Inside stage newest commanded (if quiet then interrupted d micros else d)
quiet_holds Idle Inside stage newest commanded d micros true h = record { live = tt; asked = tt; covers = λ i. covers_interrupted d micros (h.covers i) }
quiet_holds Idle Inside stage newest commanded d micros false h = h

up_to_now : (period : Option ℕ) (limits : Limits) (t micros : ℕ) (newest : Option ℕ) → anew_after limits period newest micros ≡ false → IsBy t newest → IsBy t (Some micros)
up_to_now period limits t micros None e h = absurd h
up_to_now period limits t micros (Some n) e h = by (nat_lt micros n) (is_gap limits period n micros) refl e
  where
    by : (back gap : Bool) → nat_lt micros n ≡ back → (back || gap) ≡ false → t ≤ micros
    by true gap b off = absurd (false≢true (sym off))
    by false gap b off = grind (arith, nat_tests)

newer : (Idle Inside : Type 0) (stage : Stage) (limits : Limits) (period : Option ℕ) (micros : ℕ) (newest : Option ℕ) (commanded : Option Commanded) (d : Dialogue) → anew_after limits period newest micros ≡ false
    → HoldsOf Idle Inside stage newest commanded d → HoldsOf Idle Inside stage (Some micros) commanded d
newer Idle Inside stage limits period micros newest commanded d e h = record {
  live = h.live;
  asked = some_map d.asked (Awaits Idle stage newest commanded d.doubted) (Awaits Idle stage (Some micros) commanded d.doubted)
      (λ a w. record { by = up_to_now period limits a.micros micros newest e w.by; why = w.why }) h.asked;
  covers = h.covers;
}

begun_either : (Idle Inside : Type 0) (stage : Stage) (b : Bool) (x y : Progress) → Holds Idle Inside stage x → (b ≡ false → Holds Idle Inside stage y) → Holds Idle Inside stage (if b then x else y)
begun_either Idle Inside stage true x y p q = p
begun_either Idle Inside stage false x y p q = q refl

pub begun_holds : (Idle Inside : Type 0) (subject : Subject) (p : Progress) (micros : ℕ) (stage : Stage) → Holds Idle Inside stage p → Holds Idle Inside stage (begun subject p micros)
unfolding begun
begun_holds Idle Inside subject p micros stage h =
    begun_either Idle Inside stage (begins_anew subject.limits p micros) _ _ (record { live = tt; asked = tt; covers = λ i. record { apart = tt; covered = inl (interrupted_kept p.dialogue micros (h.covers i)) } })
    (λ e. quiet_holds Idle Inside stage (Some micros) p.nmt.commanded p.dialogue micros (breaks_off subject.limits p micros) (newer Idle Inside stage subject.limits p.entries.period micros p.newest p.nmt.commanded p.dialogue e h))

newest_either : (b : Bool) (x y : Progress) (n : Option ℕ) → x.newest ≡ n → y.newest ≡ n → (if b then x else y).newest ≡ n
newest_either true x y n p q = p
newest_either false x y n p q = q

pub begun_newest : (subject : Subject) (p : Progress) (micros : ℕ) → (begun subject p micros).newest ≡ Some micros
unfolding begun
begun_newest subject p micros = newest_either (begins_anew subject.limits p micros) _ _ (Some micros) refl refl

-- at the same time as the frame before nothing of it changes
pub record Same (p q : Progress) (micros : ℕ) : Type 0 where
  pub newest : q.newest ≡ Some micros
  pub dialogue : q.dialogue ≡ p.dialogue
  pub nmt : q.nmt ≡ p.nmt

no_gap : (limits : Limits) (period : Option ℕ) (micros : ℕ) → anew_after limits period (Some micros) micros ≡ false
no_gap limits None micros = grind (arith, nat_tests)
no_gap limits (Some period) micros = by (nat_lt 0 period) (nat_lt micros micros) (nat_lt (3 * micros_of period) (micros - micros)) (is_past micros limits.answer micros) (grind (arith, nat_tests)) (grind (arith, nat_tests)) (never_past micros limits.answer)
  where
    by : (some back far past : Bool) → back ≡ false → far ≡ false → past ≡ false → (back || (if some then far else past)) ≡ false
    by true back far past b f p = rw (b, f) refl
    by false back far past b f p = rw (b, p) refl

not_broken : (limits : Limits) (wrong : Bool) (micros : ℕ) (newest : Option ℕ) → newest ≡ Some micros
    → (option_map_or (λ n. is_past n limits.answer micros) newest false || (wrong && is_later newest micros)) ≡ false
not_broken limits wrong micros newest e =
    ap (λ o. option_map_or (λ n. is_past n limits.answer micros) o false || (wrong && is_later o micros)) e
    ∙ by wrong (is_past micros limits.answer micros) (nat_lt micros micros) (never_past micros limits.answer) (grind (arith, nat_tests))
  where
    by : (wrong past later : Bool) → past ≡ false → later ≡ false → (past || (wrong && later)) ≡ false
    by true past later p l = rw (p, l) refl
    by false past later p l = rw p refl

pub begun_same : (subject : Subject) (p : Progress) (micros : ℕ) → p.newest ≡ Some micros → Same p (begun subject p micros) micros
unfolding begun
begun_same subject p micros now =
    let same : begins_anew subject.limits p micros ≡ false = ap (λ o. anew_after subject.limits p.entries.period o micros) now ∙ no_gap subject.limits p.entries.period micros in
    let heard : breaks_off subject.limits p micros ≡ false = not_broken subject.limits p.wrong micros p.newest now in
    rw same (record { newest = refl; dialogue = ap (λ b. if b then interrupted p.dialogue micros else p.dialogue) heard; nmt = refl })

-- ---- one frame

-- nothing is found at it, and this holds then
pub record Quiet (subject : Subject) (rows : List Row) (p : Progress) (micros : ℕ) (kind : FrameKind) (after : Progress → Type 0) : Type 0 where
  pub none : answer_differences kind (findings_in subject rows p micros kind) ≡ []
  pub next : after (after_frame subject p micros kind)

pub frame_runs : (subject : Subject) (rows : List Row) (micros : ℕ) (p : Progress) (frame : FrameContent) (kind : FrameKind) (after : Progress → Type 0) → data_kind subject.node frame ≡ kind
    → Quiet subject rows (begun subject p micros) micros kind after → AllRun answer_differences subject rows micros p (frame ∷ []) after
unfolding findings_at progress_with
frame_runs subject rows micros p frame kind after is q =
    let at : Quiet subject rows (begun subject p micros) micros (data_kind subject.node frame) after = subst (λ k. Quiet subject rows (begun subject p micros) micros k after) (sym is) q in
    (at.none, at.next)

-- ---- commands

now_by : (t micros : ℕ) (newest : Option ℕ) → newest ≡ Some micros → IsBy t newest → t ≤ micros
now_by t micros newest e h = subst (IsBy t) e h

commanded_holds : (Idle Inside : Type 0) (state : NodeState) (actual : Stage) (micros : ℕ) (newest : Option ℕ) (old : Option Commanded) (service : NmtService) (d : Dialogue) → newest ≡ Some micros → HoldsOf Idle Inside actual newest old d
    → HoldsOf Idle Inside (runs state) newest (Some (record { service = service; micros = micros })) d
commanded_holds Idle Inside state actual micros newest old service d now h = record {
  live = h.live;
  asked = some_map d.asked (Awaits Idle actual newest old d.doubted) (Awaits Idle (runs state) newest (Some (record { service = service; micros = micros })) d.doubted)
      (λ a w. record { by = w.by; why = excuse a.micros (now_by a.micros micros newest now w.by) w.why }) h.asked;
  covers = h.covers;
}
  where
    by : {t : ℕ} (state : NodeState) → t ≤ micros → Excused (runs state) t (Some (record { service = service; micros = micros }))
    by node.Stopped h = tt
    by node.PreOperational h = h
    by node.Operational h = h

    excuse : (t : ℕ) → t ≤ micros → (Excused actual t old × Idle) ⊎ InDoubt t d.doubted → (Excused (runs state) t (Some (record { service = service; micros = micros })) × Idle) ⊎ InDoubt t d.doubted
    excuse t now (inl e) = inl (by state now, e.1)
    excuse t now (inr doubt) = inr doubt

-- a reset breaks off what is open
reset_holds : (Idle Inside : Type 0) {next : Stage} {newest : Option ℕ} {commanded : Option Commanded} (stage : Stage) (p : Progress) (micros : ℕ) → Holds Idle Inside stage p
    → HoldsOf Idle Inside next newest commanded (interrupted p.dialogue micros)
reset_holds Idle Inside stage p micros h = record { live = tt; asked = tt; covers = λ i. covers_interrupted p.dialogue micros (h.covers i) }

service_holds : (Idle Inside : Type 0) (p : Progress) (micros : ℕ) (service : NmtService) (own : Bool) (actual : NodeState) → p.newest ≡ Some micros → Holds Idle Inside (runs actual) p
    → Holds Idle Inside (stage_after (Some service) actual) (after_command p service own micros)
unfolding after_command states.after_command with_gap
service_holds Idle Inside p micros Start own actual now h = commanded_holds Idle Inside node.Operational (runs actual) micros p.newest p.nmt.commanded Start p.dialogue now h
service_holds Idle Inside p micros Stop own actual now h = commanded_holds Idle Inside node.Stopped (runs actual) micros p.newest p.nmt.commanded Stop p.dialogue now h
service_holds Idle Inside p micros EnterPreOperational own actual now h = commanded_holds Idle Inside node.PreOperational (runs actual) micros p.newest p.nmt.commanded EnterPreOperational p.dialogue now h
service_holds Idle Inside p micros ResetNode own actual now h = reset_holds Idle Inside (runs actual) p micros h
service_holds Idle Inside p micros ResetCommunication own actual now h = reset_holds Idle Inside (runs actual) p micros h

-- with more than two bytes: the device doesn't take it
long_holds : (Idle Inside : Type 0) (p : Progress) (micros : ℕ) (service : NmtService) (actual : NodeState) → p.newest ≡ Some micros → Holds Idle Inside (runs actual) p → Holds Idle Inside (runs actual) (after_command p service true micros)
unfolding after_command states.after_command with_gap
long_holds Idle Inside p micros Start actual now h = commanded_holds Idle Inside actual (runs actual) micros p.newest p.nmt.commanded Start p.dialogue now h
long_holds Idle Inside p micros Stop actual now h = commanded_holds Idle Inside actual (runs actual) micros p.newest p.nmt.commanded Stop p.dialogue now h
long_holds Idle Inside p micros EnterPreOperational actual now h = commanded_holds Idle Inside actual (runs actual) micros p.newest p.nmt.commanded EnterPreOperational p.dialogue now h
long_holds Idle Inside p micros ResetNode actual now h = reset_holds Idle Inside (runs actual) p micros h
long_holds Idle Inside p micros ResetCommunication actual now h = reset_holds Idle Inside (runs actual) p micros h

pub command_quiet : (Idle Inside : Type 0) (subject : Subject) (rows : List Row) (p : Progress) (micros : ℕ) (long command : Option NmtCommand) (actual : NodeState) → p.newest ≡ Some micros → Holds Idle Inside (runs actual) p
    → Quiet subject rows p micros (command_to subject.node long command) (Holds Idle Inside (stage_after (service_for subject.node command) actual))
command_quiet Idle Inside subject rows p micros long None actual now h =
    long_such (λ kind. Quiet subject rows p micros kind (Holds Idle Inside (runs actual))) subject.node long
    (λ service. record { none = refl; next = long_holds Idle Inside p micros service actual now h })
    (record { none = refl; next = h })
command_quiet Idle Inside subject rows p micros long (Some command) actual now h = by (command.node == 0) (command.node == subject.node)
  where
    by : (all this : Bool)
        → Quiet subject rows p micros (if all then CommandToAll command.service else (if this then Command command.service else Other))
        (Holds Idle Inside (stage_after (if all || this then Some command.service else None) actual))
    by true this = record { none = refl; next = service_holds Idle Inside p micros command.service subject.facts.starts_itself actual now h }
    by false true = record { none = refl; next = service_holds Idle Inside p micros command.service false actual now h }
    by false false = record { none = refl; next = h }

-- ---- frames that are neither of the channel nor of error control nor commands

abbrev pub is_apart : FrameKind → Bool
is_apart (Emcy code register) = true
is_apart (OddEmergency length) = true
is_apart (Process id length) = true
is_apart _ = false

emergency_quiet : (Idle Inside : Type 0) (subject : Subject) (rows : List Row) (p : Progress) (micros code register : ℕ) (stage : Stage) → Holds Idle Inside stage p → Quiet subject rows p micros (Emcy code register) (Holds Idle Inside stage)
unfolding emergency_findings after_emergency found
emergency_quiet Idle Inside subject rows p micros code register stage h = record { none = refl; next = record { live = h.live; asked = h.asked; covers = h.covers } }

odd_emergency_quiet : (Idle Inside : Type 0) (subject : Subject) (rows : List Row) (p : Progress) (micros length : ℕ) (stage : Stage) → Holds Idle Inside stage p → Quiet subject rows p micros (OddEmergency length) (Holds Idle Inside stage)
unfolding after_emergency found
odd_emergency_quiet Idle Inside subject rows p micros length stage h = record { none = refl; next = record { live = h.live; asked = h.asked; covers = h.covers } }

sighted_none : (late : Option Finding) (id length : ℕ) (o : Option Sighting) → answer_differences (Process id length) (sighting_findings late o) ≡ []
unfolding found
sighted_none late id length None = refl
sighted_none late id length (Some sighting) = refl

process_quiet : (Idle Inside : Type 0) (subject : Subject) (rows : List Row) (p : Progress) (micros id length : ℕ) (stage : Stage) → Holds Idle Inside stage p → Quiet subject rows p micros (Process id length) (Holds Idle Inside stage)
unfolding process_findings after_process
process_quiet Idle Inside subject rows p micros id length stage h = record { none = sighted_none (late_by_tpdo subject p micros id length) id length (processes.sighted subject p micros id length); next = record { live = h.live; asked = h.asked; covers = h.covers } }

pub apart_quiet : (Idle Inside : Type 0) (subject : Subject) (rows : List Row) (p : Progress) (micros : ℕ) (kind : FrameKind) (stage : Stage) → is_apart kind ≡ true → Holds Idle Inside stage p → Quiet subject rows p micros kind (Holds Idle Inside stage)
apart_quiet Idle Inside subject rows p micros (Emcy code register) stage is h = emergency_quiet Idle Inside subject rows p micros code register stage h
apart_quiet Idle Inside subject rows p micros (OddEmergency length) stage is h = odd_emergency_quiet Idle Inside subject rows p micros length stage h
apart_quiet Idle Inside subject rows p micros (Process id length) stage is h = process_quiet Idle Inside subject rows p micros id length stage h
apart_quiet Idle Inside subject rows p micros _ stage is h = absurd (false≢true is)

-- ---- the boot-up, and heartbeats

pub boot_quiet : (Idle Inside : Type 0) (subject : Subject) (rows : List Row) (p : Progress) (micros : ℕ) (stage : Stage) → (Inside → ⊥)
    → Quiet subject rows p micros (Control 0) (Holds Idle Inside stage)
unfolding found booted
boot_quiet Idle Inside subject rows p micros stage never = record { none = refl; next = record { live = tt; asked = tt; covers = λ i. absurd (never i) } }

same_command : (limits : Limits) (started : ℕ) (nmt : Nmt) (free micros : ℕ) (final : NodeState) → (states.after_control limits started nmt free micros (state_byte (heartbeat_of final))).commanded ≡ nmt.commanded
unfolding states.after_control after_other
same_command limits started nmt free micros node.PreOperational = by (shows_state limits started nmt free 127)
  where
    by : (b : Bool) → (if b then states.with_state (after_other limits nmt micros) (states.state_of 127) micros else after_other limits nmt micros).commanded ≡ nmt.commanded
    by true = refl
    by false = refl
same_command limits started nmt free micros node.Operational = by (shows_state limits started nmt free 5)
  where
    by : (b : Bool) → (if b then states.with_state (after_other limits nmt micros) (states.state_of 5) micros else after_other limits nmt micros).commanded ≡ nmt.commanded
    by true = refl
    by false = refl
same_command limits started nmt free micros node.Stopped = by (shows_state limits started nmt free 4)
  where
    by : (b : Bool) → (if b then states.with_state (after_other limits nmt micros) (states.state_of 4) micros else after_other limits nmt micros).commanded ≡ nmt.commanded
    by true = refl
    by false = refl

-- what was asked in doubt isn't certain
pub uncertain_since : (answer started : ℕ) (slow : Left) (doubted : Option ℕ) (micros : ℕ) → InDoubt micros doubted → is_certain answer started slow doubted micros ≡ false
unfolding is_certain
uncertain_since answer started slow None micros h = absurd h
uncertain_since answer started slow (Some doubted) micros h = by (not (is_awaited slow micros)) (is_past started answer micros) (is_past doubted answer micros) (unsettled_after doubted answer micros h)
  where
    by : (a b c : Bool) → c ≡ false → (a && (b && c)) ≡ false
    by true true c h = h
    by true false c h = refl
    by false b c h = refl

-- a request that isn't answered is no difference
excused_by : (limits : Limits) (started : ℕ) (nmt : Nmt) (d : Dialogue) (micros byte : ℕ) (a : Asked) (o : Option Commanded) → d.asked ≡ Some a → nmt.commanded ≡ o → Since a.micros o → silence_finding limits started nmt d micros byte ≡ None
excused_by limits started nmt d micros byte a None is commanded h = absurd h
excused_by limits started nmt d micros byte a (Some c) is commanded h = commanded_since limits started nmt d micros byte a c is commanded h

excused_none : (limits : Limits) (started : ℕ) (nmt : Nmt) (d : Dialogue) (micros : ℕ) (a : Asked) (final : NodeState) → d.asked ≡ Some a → Excused (runs final) a.micros nmt.commanded
    → silence_finding limits started nmt d micros (state_byte (heartbeat_of final)) ≡ None
excused_none limits started nmt d micros a node.Stopped is h = silent limits started nmt d micros 4 refl
excused_none limits started nmt d micros a node.PreOperational is h = excused_by limits started nmt d micros 127 a nmt.commanded is refl h
excused_none limits started nmt d micros a node.Operational is h = excused_by limits started nmt d micros 5 a nmt.commanded is refl h

none_silent : (Idle Inside : Type 0) (subject : Subject) (p : Progress) (micros : ℕ) (final : NodeState) → Holds Idle Inside (runs final) p → silence_at subject p micros (state_byte (heartbeat_of final)) ≡ None
none_silent Idle Inside subject p micros final h = by p.dialogue.asked refl h.asked
  where
    by : (o : Option Asked) → p.dialogue.asked ≡ o → IfSome o (Awaits Idle (runs final) p.newest p.nmt.commanded p.dialogue.doubted) → silence_at subject p micros (state_byte (heartbeat_of final)) ≡ None
    by None is w = none_awaited subject.limits p.started p.nmt p.dialogue micros (state_byte (heartbeat_of final)) is
    by (Some a) is w = elim w.why [
      | inl e ↦ excused_none subject.limits p.started p.nmt p.dialogue micros a final is e.0
      | inr doubt ↦ doubted_silent subject.limits p.started p.nmt p.dialogue micros (state_byte (heartbeat_of final)) a is (uncertain_since subject.limits.answer p.started p.dialogue.slow p.dialogue.doubted a.micros doubt)
    ]

given_up_holds : (Idle Inside : Type 0) (stage : Stage) (newest : Option ℕ) (commanded : Option Commanded) (d : Dialogue) (micros : ℕ) (late : Bool) → HoldsOf Idle Inside stage newest commanded d
    → HoldsOf Idle Inside stage newest commanded (if late then given_up d micros else d)
given_up_holds Idle Inside stage newest commanded d micros true h = record { live = tt; asked = tt; covers = λ i. record { apart = tt; covered = inl (interrupted_kept d micros (h.covers i)) } }
given_up_holds Idle Inside stage newest commanded d micros false h = h

life_none : (Idle Inside : Type 0) (subject : Subject) (rows : List Row) (p : Progress) (micros : ℕ) (final : NodeState) → Holds Idle Inside (runs final) p
    → answer_differences (Control (state_byte (heartbeat_of final))) (findings_in subject rows p micros (Control (state_byte (heartbeat_of final)))) ≡ []
unfolding found control_findings heartbeat_findings
life_none Idle Inside subject rows p micros node.PreOperational h = ap option_to_list (none_silent Idle Inside subject p micros node.PreOperational h)
life_none Idle Inside subject rows p micros node.Operational h = ap option_to_list (none_silent Idle Inside subject p micros node.Operational h)
life_none Idle Inside subject rows p micros node.Stopped h = ap option_to_list (none_silent Idle Inside subject p micros node.Stopped h)

life_holds : (Idle Inside : Type 0) (subject : Subject) (p : Progress) (micros : ℕ) (final : NodeState) → Holds Idle Inside (runs final) p → Holds Idle Inside (runs final) (nmt_frames.after_control subject p micros (state_byte (heartbeat_of final)))
unfolding nmt_frames.after_control
life_holds Idle Inside subject p micros final h =
    subst (λ c. HoldsOf Idle Inside (runs final) p.newest c (if is_some (silence_at subject p micros (state_byte (heartbeat_of final))) then given_up p.dialogue micros else p.dialogue))
    (sym (same_command subject.limits p.started p.nmt p.free micros final))
    (given_up_holds Idle Inside (runs final) p.newest p.nmt.commanded p.dialogue micros (is_some (silence_at subject p micros (state_byte (heartbeat_of final)))) h)

pub life_quiet : (Idle Inside : Type 0) (subject : Subject) (rows : List Row) (p : Progress) (micros : ℕ) (final : NodeState) → Holds Idle Inside (runs final) p
    → Quiet subject rows p micros (Control (state_byte (heartbeat_of final))) (Holds Idle Inside (runs final))
life_quiet Idle Inside subject rows p micros node.PreOperational h = record { none = life_none Idle Inside subject rows p micros node.PreOperational h; next = life_holds Idle Inside subject p micros node.PreOperational h }
life_quiet Idle Inside subject rows p micros node.Operational h = record { none = life_none Idle Inside subject rows p micros node.Operational h; next = life_holds Idle Inside subject p micros node.Operational h }
life_quiet Idle Inside subject rows p micros node.Stopped h = record { none = life_none Idle Inside subject rows p micros node.Stopped h; next = life_holds Idle Inside subject p micros node.Stopped h }

-- ---- a frame of the client

confirmed_none : (frame : FrameContent) (o : Option Finding) → of_answers o ≡ [] → answer_differences (Sdo Client frame) (confirmed_findings o) ≡ []
unfolding found
confirmed_none frame None h = refl
confirmed_none frame (Some finding) h = h

client_none : (subject : Subject) (rows : List Row) (p : Progress) (micros : ℕ) (frame : FrameContent) → answer_differences (Sdo Client frame) (findings_in subject rows p micros (Sdo Client frame)) ≡ []
unfolding request_findings confirmed_finding
client_none subject rows p micros frame = by (exchange_at subject p micros Client frame).certain
  where
    x : Exchange
    x = exchange_at subject p micros Client frame

    by : (certain : Bool) → answer_differences (Sdo Client frame) (confirmed_findings (if certain then option_or (breach_finding (exchange_at subject p micros Client frame).breach) (option_or (ended_finding subject rows frame (exchange_at subject p micros Client frame).heard.ended) (held_finding subject p.written (exchange_at subject p micros Client frame))) else None)) ≡ []
    by true =
        confirmed_none frame _
        (only_or (breach_finding x.breach) (option_or (ended_finding subject rows frame x.heard.ended) (held_finding subject p.written x))
        (none_confirmed x.breach)
        (only_or (ended_finding subject rows frame x.heard.ended) (held_finding subject p.written x)
        (no_end subject rows frame x.heard.ended) (held_none subject p.written x)))
    by false = refl

-- after which this holds of what is known of the channel
pub client_quiet : (subject : Subject) (rows : List Row) (p : Progress) (micros : ℕ) (frame : FrameContent) (After : Option ℕ → Nmt → Dialogue → Type 0)
    → After p.newest p.nmt (left_open Client (may_miss_end p.nmt micros frame) (dialogue_heard subject.limits.answer p.started p.dialogue micros Client frame))
    → Quiet subject rows p micros (Sdo Client frame) (λ q. After q.newest q.nmt q.dialogue)
unfolding channel_heard exchange_noted
client_quiet subject rows p micros frame After h = record { none = client_none subject rows p micros frame; next = h }

-- ---- a frame of the server

-- the answer's own finding
abbrev pub answer_found : Subject → List Row → Progress → ℕ → FrameContent → List Finding
answer_found subject rows p micros frame =
    let x = exchange_in subject.limits.answer p.started p.dialogue micros Server frame in
    of_answers (option_or (stopped_finding subject.limits p.started (answer_nmt subject p micros) x)
    (option_or (answer_finding subject rows micros (answer_nmt subject p micros) x frame) (held_finding subject p.written x)))

server_none : (subject : Subject) (rows : List Row) (p : Progress) (micros : ℕ) (frame : FrameContent) → answer_found subject rows p micros frame ≡ []
    → answer_differences (Sdo Server frame) (findings_in subject rows p micros (Sdo Server frame)) ≡ []
unfolding answer_findings found exchange_at late_noted
server_none subject rows p micros frame h = h

pub server_quiet : (subject : Subject) (rows : List Row) (p : Progress) (micros : ℕ) (frame : FrameContent) (After : Option ℕ → Dialogue → Type 0) → answer_found subject rows p micros frame ≡ []
    → After p.newest (dialogue_heard subject.limits.answer p.started p.dialogue micros Server frame)
    → Quiet subject rows p micros (Sdo Server frame) (λ q. After q.newest q.dialogue)
unfolding channel_heard exchange_noted late_noted
server_quiet subject rows p micros frame After none h = record { none = server_none subject rows p micros frame none; next = h }
