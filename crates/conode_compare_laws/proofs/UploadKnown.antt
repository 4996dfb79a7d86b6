-- What compare knows of the channel where explain is as far as the device in a block upload: after frames of other services, and after the
-- channel's other events.
use Rattle.std.proofs.Common.{◌≡◌, ℕ, ◌+◌, ◌<◌, Bool, true, false, List, [], ◌∷◌, length, Option, Some, None, refl, sym, ap, ◌∙◌, ◌⊎◌, inl, inr, subst}
use Rattle.std.specs.Prelude.{◌==◌, ◌&&◌, if◌then◌else◌, is_some, IfSome}
use Rattle.std.proofs.lemmas.Bool.{false≢true}
use Rattle.co_value.specs.declared.key.Key.{Key}
use Rattle.co_frame.specs.FrameContent.{FrameContent}
use Rattle.co_frame.specs.Heartbeats.{heartbeat_bytes}
use Rattle.co_frame.specs.declared.heartbeat.Heartbeat.{Heartbeat}
use Rattle.co_frame.specs.declared.nmt.NmtService.{NmtService}
use Rattle.co_frame.specs.declared.nmt.NmtService.TheVariants.{Start, Stop, EnterPreOperational, ResetNode, ResetCommunication}
use Rattle.co_sdo.specs.declared.stage.Stage.TheVariants.{BlockUploadInitiated as Begun, BlockUpload, BlockUploadEnded}
use Rattle.co_sdo.specs.Channels.{ChannelSettings}
use Rattle.co_sdo.specs.Events.{ChannelEvent, logs_after, time_out_on}
use Rattle.co_sdo.specs.Log.{Event, Log, Ticked as Elapsed, TimedOut, Dropped}
use Rattle.co_sdo.specs.Opened.{OpenTransfer, is_time_over, opened, opened_after}
use Rattle.co_sdo.specs.OpenTransfers.{Since, and_event, open_since, open_transfer, since_initiate}
use Rattle.co_sdo.specs.Replies.{open_key}
use Rattle.co_sdo_laws.proofs.Channel.{ended, tick_opens}
use Rattle.co_node_model.specs.Heartbeats.{life_frames}
use Rattle.co_node_model.specs.Inputs.{InputView}
use Rattle.co_node_model.specs.Marks.{marked_tick}
use Rattle.co_node_model.specs.Moments.{Constants, History, Moment}
use Rattle.co_node_model.specs.Device.{moment}
use Rattle.co_node_model.specs.Sdo.{channel_logs, drops, with_channel_ticks, with_drop}
use Rattle.conode_explain_transfers.specs.declared.kinds.Direction.TheVariants.{Download, Upload}
use Rattle.conode_explain_transfers.specs.declared.stage.Stage.TheVariants.{BlockEnded, Initiated}
use Rattle.conode_explain_transfers.specs.declared.transfer.Transfer.{Transfer}
use Rattle.co_sheet.specs.Content.{Row}
use Rattle.conode_compare_transfers.specs.declared.dialogue.Dialogue.{Dialogue}
use Rattle.conode_compare_transfers.specs.Dialogues.{given_up, interrupted}
use Rattle.conode_compare_rules.specs.declared.kind.FrameKind.{FrameKind}
use Rattle.conode_compare_rules.specs.declared.kind.FrameKind.TheVariants.{Command, CommandToAll, LongCommand, Control, Emergency as Emcy, Fault, Guarding, OddControl, OddEmergency, Other, Polled, Process, Sdo}
use Rattle.conode_compare_nmt.specs.declared.limits.Subject.{Subject}
use Rattle.conode_compare_nmt.specs.declared.finding.Finding.{Finding}
use Rattle.conode_compare_rules.specs.declared.progress.Progress.{Progress}
use Rattle.conode_compare_rules.specs.declared.verdict.Findings.{Findings}
use Rattle.conode_compare_rules.specs.FrameKinds.{data_kind}
use Rattle.conode_compare_rules.specs.NmtFrames as nmt_frames
use Rattle.conode_compare_rules.specs.Gaps.{after_fault, begins_anew, begun, breaks_off, with_gap}
use Rattle.conode_compare_rules.specs.NmtFrames.{after_command, after_odd_control, booted, silence_at}
use Rattle.conode_compare_rules.specs.EmergencyRules.{after_emergency, emergency_noted}
use Rattle.conode_compare_rules.specs.Processes.{after_process}
use Rattle.conode_compare_rules.specs.Progresses.{after_frame, findings_at, findings_in, progress_with}
use Rattle.conode_compare_laws.specs.AnswerSenders.{AreOther}
use Rattle.conode_compare_laws.proofs.Frames.{life_kind}
use Rattle.conode_compare_laws.proofs.AnswerOthers.{is_sdo, other_kind}
use Rattle.conode_compare_laws.proofs.AnswerDevice.{IsTimeOut, expired_at, timed_out}
use Rattle.conode_compare_laws.proofs.AnswerOpened.{none_of}
use Rattle.conode_compare_laws.proofs.AnswerSteps.{some_map}
use Rattle.conode_compare_laws.proofs.AnswerTransferExchange.{Tied}
use Rattle.conode_compare_laws.proofs.AnswerTurns.{Sound, in_blocks, unconfirmed}
use Rattle.conode_compare_laws.proofs.Runs.{AllRun}
use Rattle.conode_compare_laws.proofs.UploadAnswers.{InSubBlock, IsBegun, IsBlockUp}

-- ---- how far both are

-- a transfer that isn't in blocks, of the entry that the channel has open; or a block upload: before its start, in a sub-block, or after
-- the device's end; or one that the channel has dropped; or one whose initiate request the device ignored
pub data InStep (log : Log) (t : Transfer) : Type 0 where
  tied : Tied log t → InStep log t
  begun_so : (size : ℕ) (bytes : List ℕ) → IsBegun t size → opened_after log ≡ Some (record { key = t.key; stage = Begun size; bytes = bytes }) → InStep log t
  sub_block : (bytes : List ℕ) (position sent : ℕ) → InSubBlock t bytes position sent → opened_after log ≡ Some (record { key = t.key; stage = BlockUpload position sent; bytes = bytes }) → InStep log t
  at_end : (bytes : List ℕ) (crc : ℕ) → IsBlockUp t → t.stage ≡ BlockEnded crc → opened_after log ≡ Some (record { key = t.key; stage = BlockUploadEnded; bytes = bytes }) → InStep log t
  dropped : IsBlockUp t → in_blocks t.stage ≡ true → opened_after log ≡ None → InStep log t
  unanswered : Sound t → t.stage ≡ Initiated → opened_after log ≡ None → InStep log t

no_download : (t : Transfer) (P : Type 0) → t.direction ≡ Upload → t.direction ≡ Download → P
no_download t P up down = let no : Download ≡ Upload = sym down ∙ up in absurd (cc)

block_sound : (t : Transfer) → IsBlockUp t → in_blocks t.stage ≡ true → Sound t
block_sound t is b = record {
  unconfirmed = unconfirmed t.stage b;
  plain = λ down. no_download t _ is.direction down;
  blocks = λ h. record { direction = is.direction; protocol = is.protocol };
}

pub step_sound : (log : Log) (t : Transfer) → InStep log t → Sound t
step_sound log t (tied h) = h.shape.sound
step_sound log t (begun_so size bytes h e) = block_sound t h.is (ap in_blocks h.stage)
step_sound log t (sub_block bytes position sent h e) = block_sound t h.is (ap in_blocks h.stage)
step_sound log t (at_end bytes crc is s e) = block_sound t is (ap in_blocks s)
step_sound log t (dropped is b e) = block_sound t is b
step_sound log t (unanswered s i e) = s

-- no transfer is known
abbrev pub Unknown : Dialogue → Type 0
Unknown d = (d.newest ≡ None) × IfSome d.channel.transfer Sound

abbrev pub Known : Log → Dialogue → Type 0
Known log d = Unknown d ⊎ IfSome d.channel.transfer (InStep log)

pub known_sound : (log : Log) (d : Dialogue) → Known log d → IfSome d.channel.transfer Sound
known_sound log d (inl u) = u.1
known_sound log d (inr h) = some_map d.channel.transfer (InStep log) Sound (λ t s. step_sound log t s) h

pub none_known : (log : Log) (d : Dialogue) → d.channel.transfer ≡ None → Known log d
none_known log d e = inr (subst (λ o. IfSome o (InStep log)) (sym e) tt)

pub known_given_up : (log : Log) (d : Dialogue) (micros : ℕ) → Known log d → Known log (given_up d micros)
known_given_up log d micros h = none_known log (given_up d micros) refl

-- ---- the channel's other events: what is open stays, or is closed

abbrev pub Stays : Log → Log → Type 0
Stays log later = (opened_after later ≡ opened_after log) ⊎ (opened_after later ≡ None)

then_stays : (a b c : Log) → Stays a b → Stays b c → Stays a c
then_stays a b c x (inr none) = inr none
then_stays a b c (inl e) (inl f) = inl (f ∙ e)
then_stays a b c (inr none) (inl f) = inr (f ∙ none)

step_stays : (log later : Log) (t : Transfer) → Stays log later → InStep log t → InStep later t
step_stays log later t (inl same) (tied h) = tied (record { shape = h.shape; of = λ o is. h.of o (sym same ∙ is) })
step_stays log later t (inr none) (tied h) = tied (record { shape = h.shape; of = none_of t.key later none })
step_stays log later t (inl same) (begun_so size bytes h e) = begun_so size bytes h (same ∙ e)
step_stays log later t (inr none) (begun_so size bytes h e) = dropped h.is (ap in_blocks h.stage) none
step_stays log later t (inl same) (sub_block bytes position sent h e) = sub_block bytes position sent h (same ∙ e)
step_stays log later t (inr none) (sub_block bytes position sent h e) = dropped h.is (ap in_blocks h.stage) none
step_stays log later t (inl same) (at_end bytes crc is s e) = at_end bytes crc is s (same ∙ e)
step_stays log later t (inr none) (at_end bytes crc is s e) = dropped is (ap in_blocks s) none
step_stays log later t (inl same) (dropped is b e) = dropped is b (same ∙ e)
step_stays log later t (inr none) (dropped is b e) = dropped is b none
step_stays log later t (inl same) (unanswered s i e) = unanswered s i (same ∙ e)
step_stays log later t (inr none) (unanswered s i e) = unanswered s i none

pub known_stays : (log later : Log) (d : Dialogue) → Stays log later → Known log d → Known later d
known_stays log later d s (inl u) = inl u
known_stays log later d s (inr h) = inr (some_map d.channel.transfer (InStep log) (InStep later) (λ t x. step_stays log later t s x) h)

dropped_since : (log : Log) → open_transfer (Dropped ∷ log) ≡ None
dropped_since log = by (since_initiate log)
  where
    by : (x : Option Since) → open_since (and_event Dropped x) ≡ None
    by None = refl
    by (Some s) = refl

drop_stays : (b : Bool) (logs : ℕ → Log) → Stays (logs 0) (with_drop b logs 0)
drop_stays true logs = inr (ap opened (dropped_since (logs 0)))
drop_stays false logs = inl refl

ticks_stay : (b : Bool) (logs : ℕ → Log) → Stays (logs 0) (with_channel_ticks b logs 0)
ticks_stay true logs = inl (ap opened (tick_opens (logs 0)))
ticks_stay false logs = inl refl

time_out_stays : (event : Option ChannelEvent) (logs : ℕ → Log) → IfSome event (λ e. IsTimeOut e.event) → Stays (logs 0) (logs_after event logs 0)
time_out_stays None logs t = inl refl
time_out_stays (Some e) logs t = by (0 == e.channel.number)
  where
    closed : (event : Event) → IsTimeOut event → Stays (logs 0) (event ∷ logs 0)
    closed (TimedOut answers) t = inr (ap opened (ended (logs 0) answers))
    closed _ t = absurd t

    by : (b : Bool) → Stays (logs 0) (if b then e.event ∷ logs 0 else logs 0)
    by true = closed e.event t
    by false = inl refl

all_time_outs : (k : Constants) (history : History) (c : Option ChannelSettings) → IfSome c (λ one. IsTimeOut (time_out_on one (Elapsed ∷ channel_logs history one.number)).event)
all_time_outs k history None = tt
all_time_outs k history (Some c) = tt

-- after the answers to an input
pub end_stays : (k : Constants) (history : History) (input : InputView) → Stays (logs_after (moment k history input).exchange (channel_logs history) 0) (channel_logs (moment k history input ∷ history) 0)
end_stays k history input =
    let m : Moment = moment k history input in
    let answered : ℕ → Log = logs_after m.exchange (channel_logs history) in
    let ticked : ℕ → Log = with_channel_ticks (marked_tick m.mark) answered in
    let timed : ℕ → Log = logs_after m.timed_out ticked in
    then_stays (answered 0) (timed 0) (with_drop (drops m history) timed 0)
    (then_stays (answered 0) (ticked 0) (timed 0) (ticks_stay (marked_tick m.mark) answered) (time_out_stays m.timed_out ticked (timed_out (λ e. IsTimeOut e.event) k history input (all_time_outs k history (expired_at k history)))))
    (drop_stays (drops m history) timed)

-- ---- a time-out: of which entry it is

is_open : (time : ℕ) (log : Log) → is_time_over time log ≡ true → is_some (opened_after log) ≡ true
is_open time log over = by (is_some (opened_after log)) _ over
  where
    by : (a b : Bool) → (a && b) ≡ true → a ≡ true
    by true b h = refl
    by false b h = absurd (false≢true h)

key_is : (key : Key) (o : Option OpenTransfer) → is_some o ≡ true → ((x : OpenTransfer) → o ≡ Some x → x.key ≡ key) → open_key o ≡ key
key_is key None some h = absurd (false≢true some)
key_is key (Some x) some h = h x refl

pub record IsTimedOutOf (log : Log) (t : Transfer) : Type 0 where
  pub key : open_key (opened_after (Elapsed ∷ log)) ≡ t.key
  pub small : t.key.index < 65536

pub timed_out_of : (time : ℕ) (log : Log) (t : Transfer) → is_time_over time (Elapsed ∷ log) ≡ true → InStep log t → IsTimedOutOf log t
timed_out_of time log t over (tied h) = record {
  key = key_is t.key (opened_after (Elapsed ∷ log)) (is_open time (Elapsed ∷ log) over) (λ o is. h.of o (sym (ap opened (tick_opens log)) ∙ is));
  small = h.shape.small;
}
timed_out_of time log t over (begun_so size bytes h e) = record { key = ap open_key (ap opened (tick_opens log) ∙ e); small = h.is.small }
timed_out_of time log t over (sub_block bytes position sent h e) = record { key = ap open_key (ap opened (tick_opens log) ∙ e); small = h.is.small }
timed_out_of time log t over (at_end bytes crc is s e) = record { key = ap open_key (ap opened (tick_opens log) ∙ e); small = is.small }
timed_out_of time log t over (dropped is b e) = absurd (false≢true (sym (ap is_some (ap opened (tick_opens log) ∙ e)) ∙ is_open time (Elapsed ∷ log) over))
timed_out_of time log t over (unanswered s i e) = absurd (false≢true (sym (ap is_some (ap opened (tick_opens log) ∙ e)) ∙ is_open time (Elapsed ∷ log) over))

-- ---- what frames of other services leave: the transfer, or none, or nothing is known any more

module _ (P : Dialogue → Type 0) (none : (d : Dialogue) → d.channel.transfer ≡ None → P d) (gives_up : (d : Dialogue) (micros : ℕ) → P d → P (given_up d micros)) where
  abbrev Has : Progress → Type 0
  Has q = P q.dialogue

  either : (b : Bool) (x y : Progress) → Has x → Has y → Has (if b then x else y)
  either true x y p q = p
  either false x y p q = q

  either_dialogue : (b : Bool) (x y : Dialogue) → P x → P y → P (if b then x else y)
  either_dialogue true x y p q = p
  either_dialogue false x y p q = q

  pub begun_has : (subject : Subject) (p : Progress) (micros : ℕ) → Has p → Has (begun subject p micros)
  unfolding begun
  begun_has subject p micros h = either (begins_anew subject.limits p micros) _ _ (none _ refl) (either_dialogue (breaks_off subject.limits p micros) (interrupted p.dialogue micros) p.dialogue (none _ refl) h)

  command_has : (p : Progress) (service : NmtService) (own : Bool) (micros : ℕ) → Has p → Has (after_command p service own micros)
  unfolding after_command with_gap
  command_has p Start own micros h = h
  command_has p Stop own micros h = h
  command_has p EnterPreOperational own micros h = h
  command_has p ResetNode own micros h = none _ refl
  command_has p ResetCommunication own micros h = none _ refl

  boot_has : (subject : Subject) (p : Progress) (micros : ℕ) → Has (booted subject p micros)
  unfolding booted
  boot_has subject p micros = none _ refl

  control_has : (subject : Subject) (p : Progress) (micros byte : ℕ) → Has p → Has (nmt_frames.after_control subject p micros byte)
  unfolding nmt_frames.after_control
  control_has subject p micros byte h = either_dialogue (is_some (silence_at subject p micros byte)) (given_up p.dialogue micros) p.dialogue (gives_up p.dialogue micros h) h

  odd_has : (subject : Subject) (p : Progress) (micros : ℕ) → Has p → Has (after_odd_control subject p micros)
  unfolding after_odd_control
  odd_has subject p micros h = h

  emergency_has : (p : Progress) → Has p → Has (after_emergency p)
  unfolding after_emergency
  emergency_has p h = h

  noted_has : (subject : Subject) (p : Progress) (micros : ℕ) → Has p → Has (emergency_noted subject p micros)
  unfolding after_emergency
  noted_has subject p micros h = h

  process_has : (subject : Subject) (p : Progress) (micros id length : ℕ) → Has p → Has (after_process subject p micros id length)
  unfolding after_process
  process_has subject p micros id length h = h

  fault_has : (p : Progress) (micros : ℕ) → Has (after_fault p micros)
  unfolding after_fault with_gap
  fault_has p micros = none _ refl

  kind_has : (subject : Subject) (p : Progress) (micros : ℕ) (kind : FrameKind) → is_sdo kind ≡ false → Has p → Has (after_frame subject p micros kind)
  kind_has subject p micros (Control byte) off h = either (byte == 0) _ _ (boot_has subject p micros) (control_has subject p micros byte h)
  kind_has subject p micros (OddControl length) off h = odd_has subject p micros h
  kind_has subject p micros (Emcy code register) off h = noted_has subject p micros h
  kind_has subject p micros (OddEmergency length) off h = emergency_has p h
  kind_has subject p micros (Sdo side frame) off h = absurd (false≢true (sym off))
  kind_has subject p micros (Command service) off h = command_has p service false micros h
  kind_has subject p micros (CommandToAll service) off h = command_has p service subject.facts.starts_itself micros h
  kind_has subject p micros (LongCommand service) off h = command_has p service true micros h
  kind_has subject p micros (Process id length) off h = process_has subject p micros id length h
  kind_has subject p micros (Polled id) off h = h
  kind_has subject p micros Guarding off h = h
  kind_has subject p micros Fault off h = fault_has p micros
  kind_has subject p micros Other off h = h

-- ---- one after another

module _ (these : FrameKind → Findings → List Finding) (quiet : (kind : FrameKind) (found : Findings) → is_sdo kind ≡ false → these kind found ≡ []) (P : Dialogue → Type 0) (none : (d : Dialogue) → d.channel.transfer ≡ None → P d) (gives_up : (d : Dialogue) (micros : ℕ) → P d → P (given_up d micros)) where
  kind_runs : (subject : Subject) (rows : List Row) (micros : ℕ) (p : Progress) (frame : FrameContent) (later : List FrameContent) (after : Progress → Type 0) → is_sdo (data_kind subject.node frame) ≡ false → P p.dialogue
      → ((q : Progress) → P q.dialogue → AllRun these subject rows micros q later after) → AllRun these subject rows micros p (frame ∷ later) after
  unfolding findings_at progress_with
  kind_runs subject rows micros p frame later after off h rest = (
    quiet (data_kind subject.node frame) (findings_in subject rows (begun subject p micros) micros (data_kind subject.node frame)) off,
    rest (after_frame subject (begun subject p micros) micros (data_kind subject.node frame)) (kind_has P none gives_up subject (begun subject p micros) micros (data_kind subject.node frame) off (begun_has P none gives_up subject p micros h)),
  )

  pub others_run : (subject : Subject) (rows : List Row) (micros : ℕ) (frames : List FrameContent) (p : Progress) → AreOther subject.node frames → P p.dialogue → AllRun these subject rows micros p frames (λ q. P q.dialogue)
  others_run subject rows micros [] p other h = h
  others_run subject rows micros (frame ∷ later) p other h =
      kind_runs subject rows micros p frame later (λ q. P q.dialogue) (other_kind subject.node frame other.0) h (λ q g. others_run subject rows micros later q other.1 g)

  pub life_run : (subject : Subject) (rows : List Row) (micros : ℕ) (life : Option Heartbeat) (p : Progress) → P p.dialogue → AllRun these subject rows micros p (life_frames subject.node life) (λ q. P q.dialogue)
  life_run subject rows micros None p h = h
  life_run subject rows micros (Some life) p h =
      kind_runs subject rows micros p (record { id = 0x700 + subject.node; bytes = heartbeat_bytes life }) [] (λ q. P q.dialogue) (ap is_sdo (life_kind subject.node life)) h (λ q g. g)
