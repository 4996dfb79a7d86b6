-- All inputs, for the laws about the ends of transfers: what is asked of one frame of the channel with its answers, and of the channel's other
-- events (`Obeys`), holds over a whole recording.
use Rattle.std.proofs.Common.{◌≡◌, ℕ, ◌+◌, Bool, true, false, List, [], ◌∷◌, ◌++◌, map, length, Option, Some, None, refl, sym, ap, inl, inr, subst, ◌⊎◌}
use Rattle.std.specs.Prelude.{◌==◌, if◌then◌else◌, IfSome}
use Rattle.std.specs.List.{AllByRecursion}
use Rattle.std.proofs.lemmas.Bool.{eqb-true}
use Rattle.co_value.specs.Numbers.{AreBytes}
use Rattle.co_frame.specs.FrameContent.{FrameContent}
use Rattle.co_frame.specs.declared.heartbeat.Heartbeat.{Heartbeat}
use Rattle.co_frame.specs.declared.heartbeat.Heartbeat.TheVariants.{BootUp}
use Rattle.co_dict.specs.Rows.{Contents}
use Rattle.co_dict.specs.Stores.{Description}
use Rattle.co_sdo.specs.Channels.{ChannelSettings}
use Rattle.co_sdo.specs.Events.{ChannelEvent, exchange_on, frames_at, logs_after, time_out_on}
use Rattle.co_sdo.specs.Log.{Exchanged, Log, Ticked as Elapsed, TimedOut, Dropped, frames_on}
use Rattle.co_sdo.specs.Opened.{is_time_over, opened, opened_after}
use Rattle.co_sdo.specs.OpenTransfers.{Since, and_event, open_since, open_transfer, since_initiate}
use Rattle.co_sdo.specs.Replies.{reply_to, time_out_reply}
use Rattle.co_node_laws.proofs.Channel.{default_channel}
use Rattle.co_node_parts.specs.declared.nmt_state.NodeState.TheVariants as node
use Rattle.co_node_parts.specs.NmtStates.{is_state}
use Rattle.co_node_model.specs.Device.{contents_of, moment, moments, prescribed, state_of}
use Rattle.co_node_model.specs.Emergencies.{emergency_frames}
use Rattle.co_node_model.specs.Heartbeats.{boot_up, life_frames}
use Rattle.co_node_model.specs.Inputs.{Applied, Framed, Inputs, InputView, Ticked}
use Rattle.co_node_model.specs.Marks.{marked_tick}
use Rattle.co_node_model.specs.Moments.{Constants, History, Moment, channels}
use Rattle.co_node_model.specs.Sdo.{channel_logs, drops, with_channel_ticks, with_drop}
use Rattle.co_node_model.specs.Sync.{is_sync_id}
use Rattle.co_node_model.specs.Tpdos.{tpdo_frame}
use Rattle.co_sheet.specs.Content.{Row}
use Rattle.conode_explain_transfers.specs.declared.transfer.Transfer.{Transfer}
use Rattle.conode_compare_nmt.specs.declared.finding.Finding.{Finding}
use Rattle.conode_compare_rules.specs.declared.kind.FrameKind.{FrameKind}
use Rattle.conode_compare_nmt.specs.declared.limits.Subject.{Subject}
use Rattle.conode_compare_rules.specs.declared.progress.Progress.{Progress}
use Rattle.conode_compare_rules.specs.declared.verdict.Findings.{Findings}
use Rattle.conode_compare_rules.specs.Gaps.{before_recording, begun}
use Rattle.conode_compare_laws.specs.AnswerSenders.{AllSendOther, AreOther, HasBytes, HaveBytes, HaveOtherChannels, IsOther, SendsOther}
use Rattle.conode_compare_laws.specs.Differences.{differences_from, differences_in}
use Rattle.conode_compare_laws.specs.Identifiers.{AreElsewhere, IsAside, IsElsewhere}
use Rattle.conode_compare_laws.specs.Recordings.{Stamped, frame_of, heard_from, recording}
use Rattle.conode_compare_laws.proofs.Heard.{of_device}
use Rattle.conode_compare_laws.proofs.Runs.{AllRun, joined, then_none}
use Rattle.conode_compare_laws.proofs.AnswerCalm.{another_exchange, calm_exchange}
use Rattle.conode_compare_laws.proofs.AnswerOpened.{exchange_with}
use Rattle.conode_compare_laws.proofs.AnswerDevice.{IsNumbered, expired_at, found_with, idle_stopped, no_exchange_of_event, none_at_event, none_at_frame, none_stopped, numbered, timed_out}
use Rattle.conode_compare_laws.proofs.AnswerInputs.{nmt_exchange, served_is}
use Rattle.conode_compare_laws.proofs.AnswerTimeOuts.{not_zero, zero_is}
use Rattle.conode_compare_laws.proofs.AnswerOthers.{begun_has, is_sdo, life_run, others_run}
use Rattle.conode_compare_laws.proofs.AnswerSteps.{some_map}
use Rattle.conode_compare_laws.proofs.AnswerTransferInputs.{answers_other, log_at, nmt_other, not_equal, only_other, same_log}

-- ---- what is asked

-- of these differences of a device that has what holds of its entries, and of what explain's transfer and the channel have to do with one
-- another
pub record Obeys (d : Description) (s : Subject) (rows : List Row) (these : FrameKind → Findings → List Finding) (P : Contents → Type 0) (Stands : Log → Option Transfer → Type 0) : Type 0 where
  pub quiet : (kind : FrameKind) (found : Findings) → is_sdo kind ≡ false → these kind found ≡ []
  pub first : Stands [] None
  pub none : (log : Log) (o : Option Transfer) → Stands log o → Stands log None
  pub ticked : (log : Log) (o : Option Transfer) → Stands log o → Stands (Elapsed ∷ log) o
  pub dropped : (log : Log) (o : Option Transfer) → open_transfer (Dropped ∷ log) ≡ None → Stands log o → Stands (Dropped ∷ log) o
  -- the abort when a transfer times out
  pub aborted : (micros : ℕ) (log : Log) (q : Progress) → Stands log (begun s q micros).dialogue.channel.transfer
      → AllRun these s rows micros q (frames_on (0x580 + s.node) (time_out_reply log)) (λ x. Stands (TimedOut (time_out_reply log) ∷ log) x.dialogue.channel.transfer)
  -- a request, and its answers
  pub request : (micros : ℕ) (contents : Contents) (log : Log) (frame : FrameContent) (p : Progress) → frame.id ≡ 0x600 + s.node → AreBytes frame.bytes → length frame.bytes ≡ 8 → P contents
      → Stands log (begun s p micros).dialogue.channel.transfer
      → AllRun these s rows micros p (frame ∷ [])
      (λ q. AllRun these s rows micros q (frames_on (0x580 + s.node) (reply_to d contents log frame.bytes)) (λ x. Stands (Exchanged (exchange_with d contents log frame.bytes) ∷ log) x.dialogue.channel.transfer))
  -- one that the device ignores
  pub ignored : (micros : ℕ) (contents : Contents) (log : Log) (frame : FrameContent) (p : Progress) → frame.id ≡ 0x600 + s.node → AreBytes frame.bytes → P contents → ((length frame.bytes == 8) ≡ false) ⊎ (opened_after log ≡ None)
      → Stands log (begun s p micros).dialogue.channel.transfer → AllRun these s rows micros p (frame ∷ []) (λ q. Stands log q.dialogue.channel.transfer)

-- before each of these inputs, which come after those before, this holds of the entries
abbrev pub AllHold : (Contents → Type 0) → Constants → Inputs → List Stamped → Type 0
AllHold P k before [] = Unit {0}
AllHold P k before (s ∷ later) = P (contents_of k before) × AllHold P k (s.input ∷ before) later

-- ---- the channel's log at an input

module _ (k : Constants) (history : History) (input : InputView) where
  abbrev ticked : ℕ → Log
  ticked = with_channel_ticks (marked_tick (moment k history input).mark) (logs_after (moment k history input).exchange (channel_logs history))

  abbrev timed : ℕ → Log
  timed = logs_after (moment k history input).timed_out (with_channel_ticks (marked_tick (moment k history input).mark) (logs_after (moment k history input).exchange (channel_logs history)))

dropped_since : (x : Option Since) → open_since (and_event Dropped x) ≡ None
dropped_since None = refl
dropped_since (Some x) = refl

pub mapped : (these : FrameKind → Findings → List Finding) (subject : Subject) (rows : List Row) (micros : ℕ) (frames : List FrameContent) (p : Progress) (x y : Progress → Type 0) → ((q : Progress) → x q → y q)
    → AllRun these subject rows micros p frames x → AllRun these subject rows micros p frames y
mapped these subject rows micros [] p x y f h = f p h
mapped these subject rows micros (frame ∷ later) p x y f h = (h.0, mapped these subject rows micros later _ x y f h.1)

pub record Given (P : Contents → Type 0) (k : Constants) (before : Inputs) (input : InputView) : Type 0 where
  pub answers : IsElsewhere (0x580 + k.description.node) input
  pub bytes : HasBytes input
  pub entries : P (contents_of k before)
  pub other : SendsOther k (moment k (moments k before) input)
  pub sync : is_sync_id (contents_of k before) (0x600 + k.description.node) ≡ false
  pub channels : AllByRecursion (IsNumbered k.description.node) (channels k)

module _ (k : Constants) (subject : Subject) (rows : List Row) (these : FrameKind → Findings → List Finding) (P : Contents → Type 0) (Stands : Log → Option Transfer → Type 0) (obeys : Obeys k.description (of_device k subject) rows these P Stands) where
  abbrev Has : Log → Progress → Type 0
  Has log q = Stands log q.dialogue.channel.transfer

  abbrev Runs : ℕ → Progress → List FrameContent → (Progress → Type 0) → Type 0
  Runs micros p frames after = AllRun these (of_device k subject) rows micros p frames after

  other_runs : (log : Log) (micros : ℕ) (frames : List FrameContent) (p : Progress) → AreOther k.description.node frames → Has log p → Runs micros p frames (Has log)
  other_runs log micros frames p other h = others_run these obeys.quiet (Stands log) (obeys.none log p.dialogue.channel.transfer h) (of_device k subject) rows micros frames p other h

  life_runs : (log : Log) (micros : ℕ) (life : Option Heartbeat) (p : Progress) → Has log p → Runs micros p (life_frames k.description.node life) (Has log)
  life_runs log micros life p h = life_run these obeys.quiet (Stands log) (obeys.none log p.dialogue.channel.transfer h) (of_device k subject) rows micros life p h

  begun_stands : (log : Log) (p : Progress) (micros : ℕ) → Has log p → Has log (begun (of_device k subject) p micros)
  begun_stands log p micros h = begun_has (Stands log) (obeys.none log p.dialogue.channel.transfer h) (of_device k subject) p micros h

  tick_stands : (b : Bool) (logs : ℕ → Log) (o : Option Transfer) → Stands (logs 0) o → Stands (with_channel_ticks b logs 0) o
  tick_stands true logs o h = obeys.ticked (logs 0) o h
  tick_stands false logs o h = h

  drop_stands : (b : Bool) (logs : ℕ → Log) (o : Option Transfer) → Stands (logs 0) o → Stands (with_drop b logs 0) o
  drop_stands true logs o h = obeys.dropped (logs 0) o (dropped_since (since_initiate (logs 0))) h
  drop_stands false logs o h = h

  -- ---- a transfer times out

  tick_runs : (micros : ℕ) (history : History) → AllByRecursion (IsNumbered k.description.node) (channels k)
      → (q : Progress) → Has (ticked k history Ticked 0) q → Runs micros q (frames_at (moment k history Ticked).timed_out) (Has (timed k history Ticked 0))
  tick_runs micros history all = runs_by (moment k history Ticked).timed_out (timed_out Rests k history Ticked each)
    where
      Rests : ChannelEvent → Type 0
      Rests e = (q : Progress) → Has (ticked k history Ticked 0) q → Runs micros q (frames_on e.channel.response e.responses) (Has (logs_after (Some e) (ticked k history Ticked) 0))

      runs_by : (event : Option ChannelEvent) → IfSome event Rests → (q : Progress) → Has (ticked k history Ticked 0) q → Runs micros q (frames_at event) (Has (logs_after event (ticked k history Ticked) 0))
      runs_by None h q g = g
      runs_by (Some e) h q g = h q g

      one : (c : ChannelSettings) → IsNumbered k.description.node c → Rests (time_out_on c (Elapsed ∷ channel_logs history c.number))
      one c n = by (0 == c.number) refl
        where
          by : (b : Bool) → (0 == c.number) ≡ b → Rests (time_out_on c (Elapsed ∷ channel_logs history c.number))
          by true is = λ q g.
              let zero : c.number ≡ 0 = zero_is c.number is in
              subst (λ b. Runs micros q (frames_on c.response (time_out_reply (Elapsed ∷ channel_logs history c.number)))
              (Has (if b then TimedOut (time_out_reply (Elapsed ∷ channel_logs history c.number)) ∷ ticked k history Ticked 0 else ticked k history Ticked 0))) (sym is)
              (subst (λ i. Runs micros q (frames_on i (time_out_reply (Elapsed ∷ channel_logs history c.number)))
              (Has (TimedOut (time_out_reply (Elapsed ∷ channel_logs history c.number)) ∷ ticked k history Ticked 0))) (sym (n.first zero).1)
              (subst (λ j. Runs micros q (frames_on (0x580 + k.description.node) (time_out_reply (Elapsed ∷ channel_logs history j)))
              (Has (TimedOut (time_out_reply (Elapsed ∷ channel_logs history j)) ∷ ticked k history Ticked 0))) (sym zero)
              (obeys.aborted micros (Elapsed ∷ channel_logs history 0) q (begun_stands (Elapsed ∷ channel_logs history 0) q micros g))))
          by false is = λ q g.
              subst (λ b. Runs micros q (frames_on c.response (time_out_reply (Elapsed ∷ channel_logs history c.number)))
              (Has (if b then TimedOut (time_out_reply (Elapsed ∷ channel_logs history c.number)) ∷ ticked k history Ticked 0 else ticked k history Ticked 0))) (sym is)
              (other_runs (ticked k history Ticked 0) micros (frames_on c.response (time_out_reply (Elapsed ∷ channel_logs history c.number))) q
              (answers_other k.description.node c.response (time_out_reply (Elapsed ∷ channel_logs history c.number)) (n.other (not_zero c.number is))) g)

      each : IfSome (expired_at k history) (λ c. Rests (time_out_on c (Elapsed ∷ channel_logs history c.number)))
      each =
          some_map (expired_at k history) (λ c. IsNumbered k.description.node c × (is_time_over c.time (Elapsed ∷ channel_logs history c.number) ≡ true)) (λ c. Rests (time_out_on c (Elapsed ∷ channel_logs history c.number)))
          (λ c found. one c found.0)
          (found_with (IsNumbered k.description.node) (λ c. is_time_over c.time (Elapsed ∷ channel_logs history c.number)) (channels k) all)

  no_time_out : (event : Option ChannelEvent) (logs : ℕ → Log) (micros : ℕ) (q : Progress) → event ≡ None → Has (logs 0) q → Runs micros q (frames_at event) (Has (logs_after event logs 0))
  no_time_out event logs micros q none h = subst (λ e. Runs micros q (frames_at e) (Has (logs_after e logs 0))) (sym none) h

  time_runs : (micros : ℕ) (before : Inputs) (input : InputView) → AllByRecursion (IsNumbered k.description.node) (channels k)
      → (q : Progress) → Has (ticked k (moments k before) input 0) q → Runs micros q (frames_at (moment k (moments k before) input).timed_out) (Has (timed k (moments k before) input 0))
  time_runs micros before Ticked all q h = tick_runs micros (moments k before) all q h
  time_runs micros before (Framed frame) all q h =
      no_time_out (moment k (moments k before) (Framed frame)).timed_out (ticked k (moments k before) (Framed frame)) micros q (none_at_frame k (moments k before) frame) h
  time_runs micros before (Applied event) all q h =
      no_time_out (moment k (moments k before) (Applied event)).timed_out (ticked k (moments k before) (Applied event)) micros q (none_at_event k (moments k before) event) h

  -- ---- an input

  module _ (micros : ℕ) (before : Inputs) where
    abbrev Before : Progress → Type 0
    Before p = Has (channel_logs (moments k before) 0) p

    -- the frame that an input is, and the answers to it
    abbrev First : InputView → Progress → Type 0
    First input p = Runs micros p (frame_of input) (λ q. Runs micros q (frames_at (moment k (moments k before) input).exchange) (Has (log_at k before input)))

    unanswered : (input : InputView) (p : Progress) → (moment k (moments k before) input).exchange ≡ None → Runs micros p (frame_of input) Before → First input p
    unanswered input p none h =
        subst (λ e. Runs micros p (frame_of input) (λ q. Runs micros q (frames_at e) (Has (logs_after e (channel_logs (moments k before)) 0)))) (sym none) h

    by_other : (frame : FrameContent) (p : Progress) → IsOther k.description.node frame.id → AllByRecursion (IsNumbered k.description.node) (channels k) → AreOther k.description.node (frames_at (moment k (moments k before) (Framed frame)).exchange)
        → Before p → First (Framed frame) p
    by_other frame p other all frames h =
        let log : Log = channel_logs (moments k before) 0 in
        let same : log_at k before (Framed frame) ≡ log = same_log (moment k (moments k before) (Framed frame)).exchange (channel_logs (moments k before)) (another_exchange k (moments k before) frame all other.1) in
        mapped these (of_device k subject) rows micros (frame ∷ []) p Before _
        (λ q g. subst (λ l. Runs micros q (frames_at (moment k (moments k before) (Framed frame)).exchange) (Has l)) (sym same)
        (other_runs log micros (frames_at (moment k (moments k before) (Framed frame)).exchange) q frames g))
        (other_runs log micros (frame ∷ []) p (other, tt) h)

    by_served : (frame : FrameContent) (p : Progress) → Given P k before (Framed frame) → frame.id ≡ 0x600 + k.description.node → length frame.bytes ≡ 8
        → (moment k (moments k before) (Framed frame)).exchange ≡ Some (exchange_on (default_channel k) k.description (contents_of k before) (channel_logs (moments k before) 0) frame.bytes)
        → Before p → First (Framed frame) p
    by_served frame p g id eight exchange h =
        let log : Log = channel_logs (moments k before) 0 in
        subst (λ e. Runs micros p (frame ∷ []) (λ q. Runs micros q (frames_at e) (Has (logs_after e (channel_logs (moments k before)) 0)))) (sym exchange)
        (obeys.request micros (contents_of k before) log frame p id g.bytes eight g.entries (begun_stands log p micros h))

    by_request : (frame : FrameContent) (p : Progress) → Given P k before (Framed frame) → frame.id ≡ 0x600 + k.description.node → Before p → First (Framed frame) p
    by_request frame p g id h = by (is_state node.Stopped (state_of k before)) (length frame.bytes == 8) refl refl
      where
        log : Log
        log = channel_logs (moments k before) 0

        by : (stopped eight : Bool) → is_state node.Stopped (state_of k before) ≡ stopped → (length frame.bytes == 8) ≡ eight → First (Framed frame) p
        by true eight on e =
            unanswered (Framed frame) p (none_stopped k (moments k before) (Framed frame) on)
            (obeys.ignored micros (contents_of k before) log frame p id g.bytes g.entries (inr (ap opened (idle_stopped k before on))) (begun_stands log p micros h))
        by false false on e =
            unanswered (Framed frame) p (served_is k (moments k before) frame false e id g.sync on)
            (obeys.ignored micros (contents_of k before) log frame p id g.bytes g.entries (inl e) (begun_stands log p micros h))
        by false true on e = by_served frame p g id (eqb-true (length frame.bytes) 8 e) (served_is k (moments k before) frame true e id g.sync on) h

    first : (input : InputView) (p : Progress) → Given P k before input → Before p → First input p
    first Ticked p g h = h
    first (Applied event) p g h = unanswered (Applied event) p (no_exchange_of_event k (moments k before) event) h
    first (Framed frame) p g h = by (frame.id == 0) (frame.id == 0x600 + k.description.node) refl refl
      where
        by : (command request : Bool) → (frame.id == 0) ≡ command → (frame.id == 0x600 + k.description.node) ≡ request → First (Framed frame) p
        by true request is r =
            unanswered (Framed frame) p (nmt_exchange k (moments k before) frame is)
            (other_runs (channel_logs (moments k before) 0) micros (frame ∷ []) p (nmt_other k subject rows micros before frame is, tt) h)
        by false true is r = by_request frame p g (eqb-true frame.id (0x600 + k.description.node) r) h
        by false false is r =
            let other : IsOther k.description.node frame.id = (g.answers, not_equal frame.id (0x600 + k.description.node) r) in
            by_other frame p other g.channels (only_other k.description.node _ (calm_exchange k (moments k before) frame g.channels other.1)) h

    input_runs : (input : InputView) (p : Progress) → Given P k before input → Before p → Runs micros p (frame_of input ++ prescribed k before input) (Has (channel_logs (moments k (input ∷ before)) 0))
    input_runs input p given h =
        let s : Subject = of_device k subject in
        let m : Moment = moment k (moments k before) input in
        let a : List FrameContent = frames_at m.exchange in
        let b : List FrameContent = frames_at m.timed_out in
        let c : List FrameContent = emergency_frames m.contents m.emergency in
        let d : List FrameContent = life_frames k.description.node m.life in
        let e : List FrameContent = map (tpdo_frame k.description m.contents) m.due in
        let log : Log = log_at k before input in
        let end_log : Log = timed k (moments k before) input 0 in
        let After : Progress → Type 0 = Has (timed k (moments k before) input 0) in
        joined these s rows micros (frame_of input) (prescribed k before input) p (λ q. Runs micros q a (Has log)) (Has (channel_logs (moments k (input ∷ before)) 0))
        (first input p given h)
        (λ q answered. mapped these s rows micros (prescribed k before input) q After (Has (channel_logs (moments k (input ∷ before)) 0)) (λ x t. drop_stands (drops m (moments k before)) (timed k (moments k before) input) x.dialogue.channel.transfer t)
        (joined these s rows micros (a ++ b ++ c ++ d) e q After After
        (joined these s rows micros (a ++ b ++ c) d q After After
        (joined these s rows micros (a ++ b) c q After After
        (joined these s rows micros a b q (Has log) After answered
        (λ x g. time_runs micros before input given.channels x (tick_stands (marked_tick m.mark) (logs_after m.exchange (channel_logs (moments k before))) x.dialogue.channel.transfer g)))
        (λ x g. other_runs end_log micros c x given.other.emergency g))
        (λ x g. life_runs end_log micros m.life x g))
        (λ x g. other_runs end_log micros e x given.other.tpdos g)))

  -- ---- all inputs

  all_none : (inputs : List Stamped) (before : Inputs) (p : Progress) → AreElsewhere (0x580 + k.description.node) inputs → HaveBytes inputs → AllHold P k before inputs
      → AllSendOther k before inputs → ((all : Inputs) → is_sync_id (contents_of k all) (0x600 + k.description.node) ≡ false) → AllByRecursion (IsNumbered k.description.node) (channels k)
      → Has (channel_logs (moments k before) 0) p → differences_from these (of_device k subject) rows p (heard_from k before inputs) ≡ []
  all_none [] before p answers bytes held other sync all h = refl
  all_none (s ∷ later) before p answers bytes held other sync all h =
      let given : Given P k before s.input = record { answers = answers.0; bytes = bytes.0; entries = held.0; other = other.0; sync = sync before; channels = all } in
      then_none these (of_device k subject) rows s.micros (frame_of s.input ++ prescribed k before s.input) (heard_from k (s.input ∷ before) later) p (Has (channel_logs (moments k (s.input ∷ before)) 0))
      (input_runs s.micros before s.input p given h)
      (λ q g. all_none later (s.input ∷ before) q answers.1 bytes.1 held.1 other.1 sync all g)

  of_recording : (inputs : List Stamped) → AreElsewhere (0x580 + k.description.node) inputs → HaveBytes inputs → AllHold P k [] inputs
      → AllSendOther k [] inputs → ((all : Inputs) → is_sync_id (contents_of k all) (0x600 + k.description.node) ≡ false) → AllByRecursion (IsNumbered k.description.node) (channels k)
      → differences_in these (of_device k subject) rows (recording k inputs) ≡ []
  of_recording [] answers bytes held other sync all = refl
  of_recording (s ∷ later) answers bytes held other sync all =
      then_none these (of_device k subject) rows s.micros (boot_up k ∷ []) (heard_from k [] (s ∷ later)) (before_recording (of_device k subject)) (Has [])
      (life_runs [] s.micros (Some BootUp) (before_recording (of_device k subject)) obeys.first)
      (λ q g. all_none (s ∷ later) [] q answers bytes held other sync all g)

  pub none_in : (inputs : List Stamped) → subject.node ≡ k.description.node → AreElsewhere (0x580 + k.description.node) inputs → HaveBytes inputs → AllHold P k [] inputs
      → AllSendOther k [] inputs → ((all : Inputs) → is_sync_id (contents_of k all) (0x600 + k.description.node) ≡ false) → HaveOtherChannels k
      → AllByRecursion (λ c. IsAside k.description.node c.response) (channels k) → differences_in these subject rows (recording k inputs) ≡ []
  none_in inputs is answers bytes held other sync others aside =
      subst (λ n. differences_in these (record subject { node = n }) rows (recording k inputs) ≡ []) (sym is)
      (of_recording inputs answers bytes held other sync (numbered k others aside))
