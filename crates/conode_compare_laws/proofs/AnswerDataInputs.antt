-- All inputs: no transfer of the default channel ends with another size or CRC than was indicated.
use Rattle.std.proofs.Common.{◌≡◌, ℕ, ◌+◌, Bool, true, false, List, [], ◌∷◌, ◌++◌, map, length, Option, Some, None, refl, sym, ap, ◌∙◌, inl, inr, subst}
use Rattle.std.specs.Prelude.{◌==◌, if◌then◌else◌, IfSome}
use Rattle.std.specs.List.{AllByRecursion}
use Rattle.std.proofs.lemmas.Bool.{eqb-true, false≢true}
use Rattle.co_frame_aborts.specs.AbortCodes.{timed_out as timed_out_code}
use Rattle.co_frame.specs.FrameContent.{FrameContent}
use Rattle.co_frame.specs.declared.heartbeat.Heartbeat.TheVariants.{BootUp}
use Rattle.co_dict.specs.Rows.{Rows}
use Rattle.co_dict.specs.Stores.{IsDictionary}
use Rattle.co_sdo.specs.Channels.{ChannelSettings}
use Rattle.co_sdo.specs.Events.{ChannelEvent, exchange_on, frames_at, logs_after, time_out_on}
use Rattle.co_sdo.specs.Log.{Answer, Log, Ticked as Elapsed, TimedOut, Dropped, frames_on}
use Rattle.co_sdo.specs.Opened.{is_time_over, opened, opened_after}
use Rattle.co_sdo.specs.OpenTransfers.{Since, and_event, open_since, open_transfer, since_initiate}
use Rattle.co_sdo.specs.Replies.{open_key, time_out_reply}
use Rattle.co_sdo.specs.Standing.{is_under_way}
use Rattle.co_sdo_laws.proofs.Channel.{ended}
use Rattle.co_node_laws.proofs.Channel.{default_channel}
use Rattle.co_node_parts.specs.declared.nmt_state.NodeState.TheVariants as node
use Rattle.co_node_parts.specs.NmtStates.{is_state}
use Rattle.co_node_model.specs.Device.{contents_of, moment, moments, prescribed, state_of}
use Rattle.co_node_model.specs.Emergencies.{emergency_frames}
use Rattle.co_node_model.specs.Heartbeats.{boot_up, life_frames}
use Rattle.co_node_model.specs.Inputs.{Applied, Framed, Inputs, InputView, Ticked}
use Rattle.co_node_model.specs.Marks.{marked_tick}
use Rattle.co_node_model.specs.Moments.{Constants, History, Moment, channels}
use Rattle.co_node_model.specs.Sdo.{channel_logs, drops, with_channel_ticks, with_drop}
use Rattle.co_node_model.specs.Sync.{is_sync_id}
use Rattle.co_node_model.specs.Tpdos.{tpdo_frame}
use Rattle.co_sheet.specs.Content.{Row}
use Rattle.conode_explain_transfers.specs.Followed.{Following}
use Rattle.conode_explain_transfers.specs.declared.transfer.Transfer.{Transfer}
use Rattle.conode_explain_laws.proofs.UploadViews.{aborted_closes, hears_answers}
use Rattle.conode_explain_laws.proofs.Views.{View}
use Rattle.conode_compare_rules.specs.declared.kind.FrameKind.{FrameKind}
use Rattle.conode_compare_rules.specs.declared.kind.FrameKind.TheVariants.{Sdo}
use Rattle.conode_compare_nmt.specs.declared.limits.Subject.{Subject}
use Rattle.conode_compare_rules.specs.declared.progress.Progress.{Progress}
use Rattle.conode_compare_rules.specs.declared.verdict.Findings.{Findings}
use Rattle.conode_compare_rules.specs.Gaps.{before_recording, begun}
use Rattle.conode_compare_laws.specs.AnswerEntries.{AllAreHeld}
use Rattle.conode_compare_laws.specs.AnswerFindings.{data_differences}
use Rattle.conode_compare_laws.specs.AnswerSenders.{AllSendOther, AreOther, HasBytes, HaveBytes, HaveOtherChannels, IsOther, SendsOther}
use Rattle.conode_compare_laws.specs.Differences.{differences_from, differences_in}
use Rattle.conode_compare_laws.specs.Identifiers.{AreElsewhere, IsAside, IsElsewhere}
use Rattle.conode_compare_laws.specs.Recordings.{Stamped, frame_of, heard_from, recording}
use Rattle.conode_compare_laws.proofs.Heard.{of_device}
use Rattle.conode_compare_laws.proofs.Runs.{AllRun, joined, then_none}
use Rattle.conode_compare_laws.proofs.AnswerCalm.{another_exchange, calm_exchange}
use Rattle.conode_compare_laws.proofs.AnswerDataExchange.{Standing, ignored_runs, nothing_known, request_runs, standing_dropped, standing_ticked}
use Rattle.conode_compare_laws.proofs.AnswerDataFrames.{abort_run, begun_view, mapped}
use Rattle.conode_compare_laws.proofs.AnswerDevice.{IsNumbered, expired_at, found_with, idle_stopped, no_exchange_of_event, none_at_event, none_at_frame, none_stopped, numbered, timed_out}
use Rattle.conode_compare_laws.proofs.AnswerInputs.{nmt_exchange, served_is}
use Rattle.conode_compare_laws.proofs.AnswerTimeOuts.{not_zero, zero_is}
use Rattle.conode_compare_laws.proofs.AnswerOthers.{begun_has, is_sdo, life_run, others_run}
use Rattle.conode_compare_laws.proofs.AnswerSteps.{some_map}
use Rattle.conode_compare_laws.proofs.AnswerTransferInputs.{answers_other, log_at, nmt_other, not_equal, only_other, same_log}

no_data : (kind : FrameKind) (found : Findings) → is_sdo kind ≡ false → data_differences kind found ≡ []
no_data (Sdo side frame) found off = absurd (false≢true (sym off))
no_data _ found off = refl

-- what both have of the channel, after frames
abbrev Stands : Rows → Log → Progress → Type 0
Stands rows log q = Standing rows log q.dialogue.channel.transfer

module _ (d_rows : Rows) (log : Log) (under_way : is_under_way d_rows (open_transfer log)) where
  other_runs : (subject : Subject) (rows : List Row) (micros : ℕ) (frames : List FrameContent) (p : Progress) → AreOther subject.node frames → Stands d_rows log p → AllRun data_differences subject rows micros p frames (Stands d_rows log)
  other_runs subject rows micros frames p other h = others_run data_differences no_data (Standing d_rows log) (nothing_known d_rows log under_way) subject rows micros frames p other h

  begun_stands : (subject : Subject) (p : Progress) (micros : ℕ) → Stands d_rows log p → Stands d_rows log (begun subject p micros)
  begun_stands subject p micros h = begun_has (Standing d_rows log) (nothing_known d_rows log under_way) subject p micros h

-- ---- the channel's log at an input

module _ (k : Constants) (history : History) (input : InputView) where
  abbrev ticked : ℕ → Log
  ticked = with_channel_ticks (marked_tick (moment k history input).mark) (logs_after (moment k history input).exchange (channel_logs history))

  abbrev timed : ℕ → Log
  timed = logs_after (moment k history input).timed_out (with_channel_ticks (marked_tick (moment k history input).mark) (logs_after (moment k history input).exchange (channel_logs history)))

tick_stands : (rows : Rows) (b : Bool) (logs : ℕ → Log) (o : Option Transfer) → Standing rows (logs 0) o → Standing rows (with_channel_ticks b logs 0) o
tick_stands rows true logs o h = standing_ticked rows (logs 0) o h
tick_stands rows false logs o h = h

dropped_since : (x : Option Since) → open_since (and_event Dropped x) ≡ None
dropped_since None = refl
dropped_since (Some x) = refl

drop_stands : (rows : Rows) (b : Bool) (logs : ℕ → Log) (o : Option Transfer) → Standing rows (logs 0) o → Standing rows (with_drop b logs 0) o
drop_stands rows true logs o h = standing_dropped rows (logs 0) o (dropped_since (since_initiate (logs 0))) h
drop_stands rows false logs o h = h

-- ---- an abort when a transfer times out

closed : (rows : Rows) (log : Log) (answers : List Answer) → Standing rows (TimedOut answers ∷ log) None
closed rows log answers = nothing_known rows (TimedOut answers ∷ log) (subst (is_under_way rows) (sym (ended log answers)) tt)

abort_runs : (d_rows : Rows) (subject : Subject) (rows : List Row) (micros : ℕ) (log : Log) (q : Progress)
    → AllRun data_differences subject rows micros q (frames_on (0x580 + subject.node) (time_out_reply log)) (Stands d_rows (TimedOut (time_out_reply log) ∷ log))
abort_runs d_rows subject rows micros log q =
    let v : View = begun_view subject q micros in
    mapped subject rows micros (frames_on (0x580 + subject.node) (time_out_reply log)) q (λ x. x.dialogue.channel ≡ (hears_answers (λ n. micros) (time_out_reply log) (begun_view subject q micros)).following) _
    (λ x is. subst (Standing d_rows (TimedOut (time_out_reply log) ∷ log)) (sym (ap (λ (f : Following). f.transfer) is ∙ (aborted_closes (λ n. micros) (open_key (opened_after log)) timed_out_code v).none)) (closed d_rows log (time_out_reply log)))
    (abort_run subject rows micros (open_key (opened_after log)) timed_out_code q)

tick_runs : (k : Constants) (subject : Subject) (rows : List Row) (micros : ℕ) (history : History) → AllByRecursion (IsNumbered k.description.node) (channels k)
    → (q : Progress) → Stands k.description.rows (ticked k history Ticked 0) q → AllRun data_differences (of_device k subject) rows micros q (frames_at (moment k history Ticked).timed_out) (Stands k.description.rows (timed k history Ticked 0))
tick_runs k subject rows micros history all = runs_by (moment k history Ticked).timed_out (timed_out Runs k history Ticked each)
  where
    Runs : ChannelEvent → Type 0
    Runs e = (q : Progress) → Stands k.description.rows (ticked k history Ticked 0) q
        → AllRun data_differences (of_device k subject) rows micros q (frames_on e.channel.response e.responses) (Stands k.description.rows (logs_after (Some e) (ticked k history Ticked) 0))

    runs_by : (event : Option ChannelEvent) → IfSome event Runs → (q : Progress) → Stands k.description.rows (ticked k history Ticked 0) q
        → AllRun data_differences (of_device k subject) rows micros q (frames_at event) (Stands k.description.rows (logs_after event (ticked k history Ticked) 0))
    runs_by None h q g = g
    runs_by (Some e) h q g = h q g

    one : (c : ChannelSettings) → IsNumbered k.description.node c → Runs (time_out_on c (Elapsed ∷ channel_logs history c.number))
    one c n = by (0 == c.number) refl
      where
        by : (b : Bool) → (0 == c.number) ≡ b → Runs (time_out_on c (Elapsed ∷ channel_logs history c.number))
        by true is = λ q g.
            let zero : c.number ≡ 0 = zero_is c.number is in
            subst (λ b. AllRun data_differences (of_device k subject) rows micros q (frames_on c.response (time_out_reply (Elapsed ∷ channel_logs history c.number)))
            (Stands k.description.rows (if b then TimedOut (time_out_reply (Elapsed ∷ channel_logs history c.number)) ∷ ticked k history Ticked 0 else ticked k history Ticked 0))) (sym is)
            (subst (λ i. AllRun data_differences (of_device k subject) rows micros q (frames_on i (time_out_reply (Elapsed ∷ channel_logs history c.number)))
            (Stands k.description.rows (TimedOut (time_out_reply (Elapsed ∷ channel_logs history c.number)) ∷ ticked k history Ticked 0))) (sym (n.first zero).1)
            (subst (λ j. AllRun data_differences (of_device k subject) rows micros q (frames_on (0x580 + k.description.node) (time_out_reply (Elapsed ∷ channel_logs history j)))
            (Stands k.description.rows (TimedOut (time_out_reply (Elapsed ∷ channel_logs history j)) ∷ ticked k history Ticked 0))) (sym zero)
            (abort_runs k.description.rows (of_device k subject) rows micros (Elapsed ∷ channel_logs history 0) q)))
        by false is = λ q g.
            subst (λ b. AllRun data_differences (of_device k subject) rows micros q (frames_on c.response (time_out_reply (Elapsed ∷ channel_logs history c.number)))
            (Stands k.description.rows (if b then TimedOut (time_out_reply (Elapsed ∷ channel_logs history c.number)) ∷ ticked k history Ticked 0 else ticked k history Ticked 0))) (sym is)
            (other_runs k.description.rows (ticked k history Ticked 0) g.under_way (of_device k subject) rows micros (frames_on c.response (time_out_reply (Elapsed ∷ channel_logs history c.number))) q
            (answers_other k.description.node c.response (time_out_reply (Elapsed ∷ channel_logs history c.number)) (n.other (not_zero c.number is))) g)

    each : IfSome (expired_at k history) (λ c. Runs (time_out_on c (Elapsed ∷ channel_logs history c.number)))
    each =
        some_map (expired_at k history) (λ c. IsNumbered k.description.node c × (is_time_over c.time (Elapsed ∷ channel_logs history c.number) ≡ true)) (λ c. Runs (time_out_on c (Elapsed ∷ channel_logs history c.number)))
        (λ c found. one c found.0)
        (found_with (IsNumbered k.description.node) (λ c. is_time_over c.time (Elapsed ∷ channel_logs history c.number)) (channels k) all)

no_time_out : (event : Option ChannelEvent) (logs : ℕ → Log) (d_rows : Rows) (subject : Subject) (rows : List Row) (micros : ℕ) (q : Progress) → event ≡ None → Stands d_rows (logs 0) q
    → AllRun data_differences subject rows micros q (frames_at event) (Stands d_rows (logs_after event logs 0))
no_time_out event logs d_rows subject rows micros q none h = subst (λ e. AllRun data_differences subject rows micros q (frames_at e) (Stands d_rows (logs_after e logs 0))) (sym none) h

time_runs : (k : Constants) (subject : Subject) (rows : List Row) (micros : ℕ) (before : Inputs) (input : InputView) → AllByRecursion (IsNumbered k.description.node) (channels k)
    → (q : Progress) → Stands k.description.rows (ticked k (moments k before) input 0) q
    → AllRun data_differences (of_device k subject) rows micros q (frames_at (moment k (moments k before) input).timed_out) (Stands k.description.rows (timed k (moments k before) input 0))
time_runs k subject rows micros before Ticked all q h = tick_runs k subject rows micros (moments k before) all q h
time_runs k subject rows micros before (Framed frame) all q h =
    no_time_out (moment k (moments k before) (Framed frame)).timed_out (ticked k (moments k before) (Framed frame)) k.description.rows (of_device k subject) rows micros q (none_at_frame k (moments k before) frame) h
time_runs k subject rows micros before (Applied event) all q h =
    no_time_out (moment k (moments k before) (Applied event)).timed_out (ticked k (moments k before) (Applied event)) k.description.rows (of_device k subject) rows micros q (none_at_event k (moments k before) event) h

-- ---- an input

pub record Given (k : Constants) (before : Inputs) (input : InputView) : Type 0 where
  pub answers : IsElsewhere (0x580 + k.description.node) input
  pub bytes : HasBytes input
  pub dictionary : IsDictionary k.description (contents_of k before)
  pub other : SendsOther k (moment k (moments k before) input)
  pub sync : is_sync_id (contents_of k before) (0x600 + k.description.node) ≡ false
  pub channels : AllByRecursion (IsNumbered k.description.node) (channels k)

module _ (k : Constants) (subject : Subject) (rows : List Row) (micros : ℕ) (before : Inputs) where
  abbrev Before : Progress → Type 0
  Before p = Stands k.description.rows (channel_logs (moments k before) 0) p

  -- the frame that an input is, and the answers to it
  abbrev First : InputView → Progress → Type 0
  First input p =
      AllRun data_differences (of_device k subject) rows micros p (frame_of input)
      (λ q. AllRun data_differences (of_device k subject) rows micros q (frames_at (moment k (moments k before) input).exchange) (Stands k.description.rows (log_at k before input)))

  unanswered : (input : InputView) (p : Progress) → (moment k (moments k before) input).exchange ≡ None → AllRun data_differences (of_device k subject) rows micros p (frame_of input) Before → First input p
  unanswered input p none h =
      subst (λ e. AllRun data_differences (of_device k subject) rows micros p (frame_of input)
      (λ q. AllRun data_differences (of_device k subject) rows micros q (frames_at e) (Stands k.description.rows (logs_after e (channel_logs (moments k before)) 0)))) (sym none) h

  by_other : (frame : FrameContent) (p : Progress) → IsOther k.description.node frame.id → AllByRecursion (IsNumbered k.description.node) (channels k) → AreOther k.description.node (frames_at (moment k (moments k before) (Framed frame)).exchange)
      → Before p → First (Framed frame) p
  by_other frame p other all frames h =
      let log : Log = channel_logs (moments k before) 0 in
      let same : log_at k before (Framed frame) ≡ log = same_log (moment k (moments k before) (Framed frame)).exchange (channel_logs (moments k before)) (another_exchange k (moments k before) frame all other.1) in
      mapped (of_device k subject) rows micros (frame ∷ []) p Before _
      (λ q g. subst (λ l. AllRun data_differences (of_device k subject) rows micros q (frames_at (moment k (moments k before) (Framed frame)).exchange) (Stands k.description.rows l)) (sym same)
      (other_runs k.description.rows log g.under_way (of_device k subject) rows micros (frames_at (moment k (moments k before) (Framed frame)).exchange) q frames g))
      (other_runs k.description.rows log h.under_way (of_device k subject) rows micros (frame ∷ []) p (other, tt) h)

  by_served : (frame : FrameContent) (p : Progress) → Given k before (Framed frame) → frame.id ≡ 0x600 + k.description.node → length frame.bytes ≡ 8
      → (moment k (moments k before) (Framed frame)).exchange ≡ Some (exchange_on (default_channel k) k.description (contents_of k before) (channel_logs (moments k before) 0) frame.bytes)
      → Before p → First (Framed frame) p
  by_served frame p g id eight exchange h =
      let log : Log = channel_logs (moments k before) 0 in
      subst (λ e. AllRun data_differences (of_device k subject) rows micros p (frame ∷ [])
      (λ q. AllRun data_differences (of_device k subject) rows micros q (frames_at e) (Stands k.description.rows (logs_after e (channel_logs (moments k before)) 0)))) (sym exchange)
      (request_runs (of_device k subject) rows micros k.description (contents_of k before) log frame p id g.bytes eight g.dictionary (begun_stands k.description.rows log h.under_way (of_device k subject) p micros h))

  by_request : (frame : FrameContent) (p : Progress) → Given k before (Framed frame) → frame.id ≡ 0x600 + k.description.node → Before p → First (Framed frame) p
  by_request frame p g id h = by (is_state node.Stopped (state_of k before)) (length frame.bytes == 8) refl refl
    where
      log : Log
      log = channel_logs (moments k before) 0

      by : (stopped eight : Bool) → is_state node.Stopped (state_of k before) ≡ stopped → (length frame.bytes == 8) ≡ eight → First (Framed frame) p
      by true eight on e =
          unanswered (Framed frame) p (none_stopped k (moments k before) (Framed frame) on)
          (ignored_runs (of_device k subject) rows micros k.description (contents_of k before) log frame p id (inr (ap opened (idle_stopped k before on))) (begun_stands k.description.rows log h.under_way (of_device k subject) p micros h))
      by false false on e =
          unanswered (Framed frame) p (served_is k (moments k before) frame false e id g.sync on)
          (ignored_runs (of_device k subject) rows micros k.description (contents_of k before) log frame p id (inl e) (begun_stands k.description.rows log h.under_way (of_device k subject) p micros h))
      by false true on e = by_served frame p g id (eqb-true (length frame.bytes) 8 e) (served_is k (moments k before) frame true e id g.sync on) h

  first : (input : InputView) (p : Progress) → Given k before input → Before p → First input p
  first Ticked p g h = h
  first (Applied event) p g h = unanswered (Applied event) p (no_exchange_of_event k (moments k before) event) h
  first (Framed frame) p g h = by (frame.id == 0) (frame.id == 0x600 + k.description.node) refl refl
    where
      by : (command request : Bool) → (frame.id == 0) ≡ command → (frame.id == 0x600 + k.description.node) ≡ request → First (Framed frame) p
      by true request is r =
          unanswered (Framed frame) p (nmt_exchange k (moments k before) frame is)
          (other_runs k.description.rows (channel_logs (moments k before) 0) h.under_way (of_device k subject) rows micros (frame ∷ []) p (nmt_other k subject rows micros before frame is, tt) h)
      by false true is r = by_request frame p g (eqb-true frame.id (0x600 + k.description.node) r) h
      by false false is r =
          let other : IsOther k.description.node frame.id = (g.answers, not_equal frame.id (0x600 + k.description.node) r) in
          by_other frame p other g.channels (only_other k.description.node _ (calm_exchange k (moments k before) frame g.channels other.1)) h

  input_runs : (input : InputView) (p : Progress) → Given k before input → Before p
      → AllRun data_differences (of_device k subject) rows micros p (frame_of input ++ prescribed k before input) (Stands k.description.rows (channel_logs (moments k (input ∷ before)) 0))
  input_runs input p given h =
      let s : Subject = of_device k subject in
      let r : Rows = k.description.rows in
      let m : Moment = moment k (moments k before) input in
      let a : List FrameContent = frames_at m.exchange in
      let b : List FrameContent = frames_at m.timed_out in
      let c : List FrameContent = emergency_frames m.contents m.emergency in
      let d : List FrameContent = life_frames k.description.node m.life in
      let e : List FrameContent = map (tpdo_frame k.description m.contents) m.due in
      let log : Log = log_at k before input in
      let end_log : Log = timed k (moments k before) input 0 in
      let After : Progress → Type 0 = Stands r (timed k (moments k before) input 0) in
      joined data_differences s rows micros (frame_of input) (prescribed k before input) p
      (λ q. AllRun data_differences s rows micros q a (Stands r log)) (Stands r (channel_logs (moments k (input ∷ before)) 0))
      (first input p given h)
      (λ q answered. mapped s rows micros (prescribed k before input) q After (Stands r (channel_logs (moments k (input ∷ before)) 0)) (λ x t. drop_stands r (drops m (moments k before)) (timed k (moments k before) input) x.dialogue.channel.transfer t)
      (joined data_differences s rows micros (a ++ b ++ c ++ d) e q After After
      (joined data_differences s rows micros (a ++ b ++ c) d q After After
      (joined data_differences s rows micros (a ++ b) c q After After
      (joined data_differences s rows micros a b q (Stands r log) After answered
      (λ x g. time_runs k subject rows micros before input given.channels x (tick_stands r (marked_tick m.mark) (logs_after m.exchange (channel_logs (moments k before))) x.dialogue.channel.transfer g)))
      (λ x g. other_runs r end_log g.under_way s rows micros c x given.other.emergency g))
      (λ x g. life_run data_differences no_data (Standing r end_log) (nothing_known r end_log g.under_way) s rows micros m.life x g))
      (λ x g. other_runs r end_log g.under_way s rows micros e x given.other.tpdos g)))

-- ---- all inputs

all_none : (k : Constants) (subject : Subject) (rows : List Row) (inputs : List Stamped) (before : Inputs) (p : Progress) → AreElsewhere (0x580 + k.description.node) inputs → HaveBytes inputs → AllAreHeld k before inputs
    → AllSendOther k before inputs → ((all : Inputs) → is_sync_id (contents_of k all) (0x600 + k.description.node) ≡ false) → AllByRecursion (IsNumbered k.description.node) (channels k)
    → Stands k.description.rows (channel_logs (moments k before) 0) p → differences_from data_differences (of_device k subject) rows p (heard_from k before inputs) ≡ []
all_none k subject rows [] before p answers bytes held other sync all h = refl
all_none k subject rows (s ∷ later) before p answers bytes held other sync all h =
    let given : Given k before s.input = record { answers = answers.0; bytes = bytes.0; dictionary = held.0; other = other.0; sync = sync before; channels = all } in
    then_none data_differences (of_device k subject) rows s.micros (frame_of s.input ++ prescribed k before s.input) (heard_from k (s.input ∷ before) later) p (Stands k.description.rows (channel_logs (moments k (s.input ∷ before)) 0))
    (input_runs k subject rows s.micros before s.input p given h)
    (λ q g. all_none k subject rows later (s.input ∷ before) q answers.1 bytes.1 held.1 other.1 sync all g)

of_recording : (k : Constants) (subject : Subject) (rows : List Row) (inputs : List Stamped) → AreElsewhere (0x580 + k.description.node) inputs → HaveBytes inputs → AllAreHeld k [] inputs
    → AllSendOther k [] inputs → ((all : Inputs) → is_sync_id (contents_of k all) (0x600 + k.description.node) ≡ false) → AllByRecursion (IsNumbered k.description.node) (channels k)
    → differences_in data_differences (of_device k subject) rows (recording k inputs) ≡ []
of_recording k subject rows [] answers bytes held other sync all = refl
of_recording k subject rows (s ∷ later) answers bytes held other sync all =
    then_none data_differences (of_device k subject) rows s.micros (boot_up k ∷ []) (heard_from k [] (s ∷ later)) (before_recording (of_device k subject)) (Stands k.description.rows [])
    (life_run data_differences no_data (Standing k.description.rows []) (nothing_known k.description.rows [] tt) (of_device k subject) rows s.micros (Some BootUp) (before_recording (of_device k subject)) (nothing_known k.description.rows [] tt))
    (λ q g. all_none k subject rows (s ∷ later) [] q answers bytes held other sync all g)

pub no_data_differences : (k : Constants) (subject : Subject) (rows : List Row) (inputs : List Stamped) → subject.node ≡ k.description.node → AreElsewhere (0x580 + k.description.node) inputs → HaveBytes inputs
    → AllAreHeld k [] inputs → AllSendOther k [] inputs → ((all : Inputs) → is_sync_id (contents_of k all) (0x600 + k.description.node) ≡ false) → HaveOtherChannels k
    → AllByRecursion (λ c. IsAside k.description.node c.response) (channels k) → differences_in data_differences subject rows (recording k inputs) ≡ []
no_data_differences k subject rows inputs is answers bytes held other sync others aside =
    subst (λ n. differences_in data_differences (record subject { node = n }) rows (recording k inputs) ≡ []) (sym is)
    (of_recording k subject rows inputs answers bytes held other sync (numbered k others aside))
