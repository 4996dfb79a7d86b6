-- All inputs of a device without block downloads: nothing is found within the transfers of its default channel, block uploads too.
use Rattle.std.proofs.Common.{◌≡◌, ℕ, ◌+◌, ◌<◌, Bool, true, false, List, [], ◌∷◌, ◌++◌, map, length, Option, Some, None, refl, sym, ap, ◌∙◌, ◌⊎◌, inl, inr, subst}
use Rattle.std.specs.Prelude.{◌==◌, IfSome}
use Rattle.std.specs.List.{AllByRecursion}
use Rattle.std.proofs.lemmas.Bool.{eqb-true, false≢true}
use Rattle.co_value.specs.declared.key.Key.{Key}
use Rattle.co_frame_aborts.specs.AbortCodes.{timed_out as timed_out_code}
use Rattle.co_frame.specs.FrameContent.{FrameContent}
use Rattle.co_frame.specs.SdoRequests.{request_in}
use Rattle.co_frame.specs.declared.heartbeat.Heartbeat.{Heartbeat}
use Rattle.co_frame.specs.declared.heartbeat.Heartbeat.TheVariants.{BootUp}
use Rattle.co_frame.specs.declared.sdo_response.SdoResponse.TheVariants.{Abort as Refuse}
use Rattle.co_sdo.specs.Channels.{ChannelSettings}
use Rattle.co_sdo.specs.Events.{ChannelEvent, exchange_on, frames_at, logs_after, time_out_on}
use Rattle.co_sdo.specs.Log.{Log, Response as Replied, Ticked as Elapsed, answer_bytes, frames_on}
use Rattle.co_sdo.specs.Opened.{is_time_over, opened, opened_after}
use Rattle.co_sdo.specs.Replies.{open_key, time_out_reply}
use Rattle.co_node_laws.proofs.Channel.{default_channel}
use Rattle.co_node_parts.specs.declared.nmt_state.NodeState.TheVariants as node
use Rattle.co_node_parts.specs.NmtStates.{is_state}
use Rattle.co_node_model.specs.Device.{contents_of, moment, moments, prescribed, state_of}
use Rattle.co_node_model.specs.Emergencies.{emergency_frames}
use Rattle.co_node_model.specs.Heartbeats.{boot_up, life_frames}
use Rattle.co_node_model.specs.Inputs.{Applied, Framed, Inputs, InputView, Ticked}
use Rattle.co_node_model.specs.Moments.{Constants, History, Moment, channels}
use Rattle.co_node_model.specs.Sdo.{channel_logs}
use Rattle.co_node_model.specs.Sync.{is_sync_id}
use Rattle.co_node_model.specs.Tpdos.{tpdo_frame}
use Rattle.co_sheet.specs.Content.{Row}
use Rattle.conode_explain_transfers.specs.declared.kinds.Side.TheVariants.{Server}
use Rattle.conode_explain_transfers.specs.declared.transfer.Transfer.{Transfer}
use Rattle.conode_compare_rules.specs.declared.kind.FrameKind.{FrameKind}
use Rattle.conode_compare_rules.specs.declared.kind.FrameKind.TheVariants.{Sdo}
use Rattle.conode_compare_nmt.specs.declared.limits.Subject.{Subject}
use Rattle.conode_compare_rules.specs.declared.progress.Progress.{Progress}
use Rattle.conode_compare_rules.specs.declared.verdict.Findings.{Findings}
use Rattle.conode_compare_rules.specs.Gaps.{before_recording, begun}
use Rattle.conode_compare_laws.specs.AnswerFindings.{transfer_differences}
use Rattle.conode_compare_laws.specs.AnswerSenders.{AllSendOther, AreOther, BeginNoBlocks, BeginsNoBlocks, HasBytes, HaveBytes, HaveOtherChannels, IsOther, SendsOther}
use Rattle.conode_compare_laws.specs.Differences.{differences_from, differences_in}
use Rattle.conode_compare_laws.specs.Identifiers.{AreElsewhere, IsAside, IsElsewhere}
use Rattle.conode_compare_laws.specs.Recordings.{Stamped, frame_of, heard_from, recording}
use Rattle.conode_compare_laws.proofs.Heard.{of_device}
use Rattle.conode_compare_laws.proofs.Runs.{AllRun, joined, then_none}
use Rattle.conode_compare_laws.proofs.AnswerDevice.{Clean, IsNumbered, clean_at, expired_at, found_with, idle_stopped, no_exchange_of_event, none_at_event, none_at_frame, none_stopped, numbered, timed_out}
use Rattle.conode_compare_laws.proofs.AnswerOthers.{is_sdo}
use Rattle.conode_compare_laws.proofs.AnswerSteps.{some_map}
use Rattle.conode_compare_laws.proofs.AnswerExchange.{answer_kind}
use Rattle.conode_compare_laws.proofs.AnswerCalm.{another_exchange, calm_exchange, clean_exchange}
use Rattle.conode_compare_laws.proofs.AnswerInputs.{nmt_exchange, served_is}
use Rattle.conode_compare_laws.proofs.AnswerTimeOuts.{not_zero, zero_is}
use Rattle.conode_compare_laws.proofs.AnswerTransferRuns.{frame_runs}
use Rattle.conode_compare_laws.proofs.AnswerTransferExchange.{map_runs}
use Rattle.co_sdo.specs.Replies.{aborted}
use Rattle.conode_explain_transfers.specs.Followed.{Following}
use Rattle.conode_compare_transfers.specs.Dialogues.{dialogue_heard}
use Rattle.conode_compare_laws.proofs.AnswerDialogues.{channel_is}
use Rattle.conode_compare_laws.proofs.AnswerTransferInputs.{answers_other, log_at, nmt_other, not_equal, only_other, same_log}
use Rattle.conode_compare_laws.proofs.AnswerTransferRuns.{Quiet, server_quiet}
use Rattle.conode_compare_laws.proofs.UploadAnswers.{AllFine, aborted_fine, has, own_fine}
use Rattle.conode_compare_laws.proofs.UploadExchange.{ignored_runs, known_runs}
use Rattle.conode_compare_laws.proofs.UploadKnown.{InStep, IsTimedOutOf, Known, begun_has, end_stays, known_given_up, known_stays, life_run, none_known, others_run, timed_out_of}
use Rattle.conode_compare_laws.proofs.UploadRuns.{KnownAt, unknown_next, unknown_quiet}

-- ---- frames of other services

no_transfer : (kind : FrameKind) (found : Findings) → is_sdo kind ≡ false → transfer_differences kind found ≡ []
no_transfer (Sdo side frame) found off = absurd (false≢true (sym off))
no_transfer _ found off = refl

begun_known : (log : Log) (subject : Subject) (p : Progress) (micros : ℕ) → KnownAt log p → KnownAt log (begun subject p micros)
begun_known log subject p micros h = begun_has (Known log) (none_known log) (known_given_up log) subject p micros h

other_runs : (log : Log) (subject : Subject) (rows : List Row) (micros : ℕ) (frames : List FrameContent) (p : Progress) → AreOther subject.node frames → KnownAt log p → AllRun transfer_differences subject rows micros p frames (KnownAt log)
other_runs log subject rows micros frames p other h = others_run transfer_differences no_transfer (Known log) (none_known log) (known_given_up log) subject rows micros frames p other h

life_runs : (log : Log) (subject : Subject) (rows : List Row) (micros : ℕ) (life : Option Heartbeat) (p : Progress) → KnownAt log p → AllRun transfer_differences subject rows micros p (life_frames subject.node life) (KnownAt log)
life_runs log subject rows micros life p h = life_run transfer_differences no_transfer (Known log) (none_known log) (known_given_up log) subject rows micros life p h

-- ---- an abort when a transfer times out

abort_runs : (subject : Subject) (rows : List Row) (micros time : ℕ) (log : Log) (q : Progress) → is_time_over time (Elapsed ∷ log) ≡ true → KnownAt log q
    → AllRun transfer_differences subject rows micros q (frames_on (0x580 + subject.node) (time_out_reply (Elapsed ∷ log))) (KnownAt log)
abort_runs subject rows micros time log q over h = frame_runs subject rows micros q frame (Sdo Server frame) (KnownAt log) (answer_kind subject.node frame.bytes) (by (begun_known log subject q micros h))
  where
    frame : FrameContent
    frame = record { id = 0x580 + subject.node; bytes = answer_bytes (Replied (Refuse (open_key (opened_after (Elapsed ∷ log))) (record { 0 = timed_out_code }))) }

    -- nothing is found of it, and no transfer is open then
    fine_so : (heard : Bool) (o : Option Transfer) → IfSome o (InStep log)
        → AllFine (0x580 + subject.node) micros (aborted (open_key (opened_after (Elapsed ∷ log))) timed_out_code) (has heard o) (λ g. g.transfer ≡ None)
    fine_so heard None s = aborted_fine (0x580 + subject.node) micros (open_key (opened_after (Elapsed ∷ log))) timed_out_code heard None (λ g. g.transfer ≡ None) tt (λ x. refl)
    fine_so heard (Some t) s =
        let of : IsTimedOutOf log t = timed_out_of time log t over s in
        own_fine (0x580 + subject.node) micros (open_key (opened_after (Elapsed ∷ log))) timed_out_code heard t (λ g. g.transfer ≡ None) (subst (λ (k : Key). k.index < 65536) (sym of.key) of.small) of.key (λ x. refl)

    by : Known log (begun subject q micros).dialogue → Quiet subject rows (begun subject q micros) micros (Sdo Server frame) (KnownAt log)
    by (inl u) =
        unknown_quiet subject rows (begun subject q micros) micros frame (λ newest d. Known log d) u.0
        (inl (unknown_next subject.limits.answer (begun subject q micros).started (begun subject q micros).dialogue micros frame u))
    by (inr s) =
        let f = fine_so (begun subject q micros).dialogue.channel.heard (begun subject q micros).dialogue.channel.transfer s in
        server_quiet subject rows (begun subject q micros) micros frame (λ newest d. Known log d) (inr f.0)
        (none_known log (dialogue_heard subject.limits.answer (begun subject q micros).started (begun subject q micros).dialogue micros Server frame) (ap (λ (g : Following). g.transfer) (channel_is subject.limits.answer (begun subject q micros).started (begun subject q micros).dialogue micros Server frame) ∙ f.1))

tick_runs : (k : Constants) (subject : Subject) (rows : List Row) (micros : ℕ) (history : History) → AllByRecursion (IsNumbered k.description.node) (channels k)
    → (q : Progress) → KnownAt (channel_logs history 0) q → AllRun transfer_differences (of_device k subject) rows micros q (frames_at (moment k history Ticked).timed_out) (KnownAt (channel_logs history 0))
tick_runs k subject rows micros history all = runs_by (moment k history Ticked).timed_out (timed_out Runs k history Ticked each)
  where
    Runs : ChannelEvent → Type 0
    Runs e = (q : Progress) → KnownAt (channel_logs history 0) q → AllRun transfer_differences (of_device k subject) rows micros q (frames_on e.channel.response e.responses) (KnownAt (channel_logs history 0))

    runs_by : (event : Option ChannelEvent) → IfSome event Runs → (q : Progress) → KnownAt (channel_logs history 0) q → AllRun transfer_differences (of_device k subject) rows micros q (frames_at event) (KnownAt (channel_logs history 0))
    runs_by None h q g = g
    runs_by (Some e) h q g = h q g

    one : (c : ChannelSettings) → IsNumbered k.description.node c → is_time_over c.time (Elapsed ∷ channel_logs history c.number) ≡ true → Runs (time_out_on c (Elapsed ∷ channel_logs history c.number))
    one c n over = by (0 == c.number) refl
      where
        default : c.number ≡ 0 → Runs (time_out_on c (Elapsed ∷ channel_logs history c.number))
        default zero = λ q g.
            subst (λ i. AllRun transfer_differences (of_device k subject) rows micros q (frames_on i (time_out_reply (Elapsed ∷ channel_logs history c.number))) (KnownAt (channel_logs history 0))) (sym (n.first zero).1)
            (subst (λ j. AllRun transfer_differences (of_device k subject) rows micros q (frames_on (0x580 + k.description.node) (time_out_reply (Elapsed ∷ channel_logs history j))) (KnownAt (channel_logs history 0))) (sym zero)
            (abort_runs (of_device k subject) rows micros c.time (channel_logs history 0) q (subst (λ j. is_time_over c.time (Elapsed ∷ channel_logs history j) ≡ true) zero over) g))

        by : (b : Bool) → (0 == c.number) ≡ b → Runs (time_out_on c (Elapsed ∷ channel_logs history c.number))
        by true is = default (zero_is c.number is)
        by false is = λ q g.
            other_runs (channel_logs history 0) (of_device k subject) rows micros (frames_on c.response (time_out_reply (Elapsed ∷ channel_logs history c.number))) q
            (answers_other k.description.node c.response (time_out_reply (Elapsed ∷ channel_logs history c.number)) (n.other (not_zero c.number is))) g

    each : IfSome (expired_at k history) (λ c. Runs (time_out_on c (Elapsed ∷ channel_logs history c.number)))
    each =
        some_map (expired_at k history) (λ c. IsNumbered k.description.node c × (is_time_over c.time (Elapsed ∷ channel_logs history c.number) ≡ true)) (λ c. Runs (time_out_on c (Elapsed ∷ channel_logs history c.number)))
        (λ c found. one c found.0 found.1)
        (found_with (IsNumbered k.description.node) (λ c. is_time_over c.time (Elapsed ∷ channel_logs history c.number)) (channels k) all)

no_frames : (event : Option ChannelEvent) (subject : Subject) (rows : List Row) (micros : ℕ) (q : Progress) (after : Progress → Type 0) → event ≡ None → after q → AllRun transfer_differences subject rows micros q (frames_at event) after
no_frames event subject rows micros q after none h = subst (λ e. AllRun transfer_differences subject rows micros q (frames_at e) after) (sym none) h

time_runs : (k : Constants) (subject : Subject) (rows : List Row) (micros : ℕ) (before : Inputs) (input : InputView) → AllByRecursion (IsNumbered k.description.node) (channels k)
    → (q : Progress) → KnownAt (log_at k before input) q → AllRun transfer_differences (of_device k subject) rows micros q (frames_at (moment k (moments k before) input).timed_out) (KnownAt (log_at k before input))
time_runs k subject rows micros before Ticked all q h = tick_runs k subject rows micros (moments k before) all q h
time_runs k subject rows micros before (Framed frame) all q h =
    no_frames (moment k (moments k before) (Framed frame)).timed_out (of_device k subject) rows micros q (KnownAt (log_at k before (Framed frame))) (none_at_frame k (moments k before) frame) h
time_runs k subject rows micros before (Applied event) all q h =
    no_frames (moment k (moments k before) (Applied event)).timed_out (of_device k subject) rows micros q (KnownAt (log_at k before (Applied event))) (none_at_event k (moments k before) event) h

-- ---- an input

pub record Given (k : Constants) (before : Inputs) (input : InputView) : Type 0 where
  pub answers : IsElsewhere (0x580 + k.description.node) input
  pub bytes : HasBytes input
  pub blocks : BeginsNoBlocks k.description.node input
  pub other : SendsOther k (moment k (moments k before) input)
  pub sync : is_sync_id (contents_of k before) (0x600 + k.description.node) ≡ false
  pub clean : Clean (channel_logs (moments k before) 0)
  pub channels : AllByRecursion (IsNumbered k.description.node) (channels k)

-- a frame that hasn't eight bytes is no request
short_request : (bytes : List ℕ) → (length bytes == 8) ≡ false → request_in bytes ≡ None
short_request bytes off = rw off refl

module _ (k : Constants) (subject : Subject) (rows : List Row) (micros : ℕ) (before : Inputs) where
  -- the frame that an input is, and the answers to it
  abbrev First : InputView → Progress → Type 0
  First input p =
      AllRun transfer_differences (of_device k subject) rows micros p (frame_of input)
      (λ q. AllRun transfer_differences (of_device k subject) rows micros q (frames_at (moment k (moments k before) input).exchange) (KnownAt (log_at k before input)))

  unanswered : (input : InputView) (p : Progress) → (moment k (moments k before) input).exchange ≡ None
      → AllRun transfer_differences (of_device k subject) rows micros p (frame_of input) (KnownAt (channel_logs (moments k before) 0)) → First input p
  unanswered input p none h =
      map_runs (of_device k subject) rows micros (frame_of input) p (KnownAt (channel_logs (moments k before) 0)) _
      (λ q g. no_frames (moment k (moments k before) input).exchange (of_device k subject) rows micros q (KnownAt (log_at k before input)) none
      (subst (λ e. KnownAt (logs_after e (channel_logs (moments k before)) 0) q) (sym none) g)) h

  by_other : (frame : FrameContent) (p : Progress) → IsOther k.description.node frame.id → AllByRecursion (IsNumbered k.description.node) (channels k) → AreOther k.description.node (frames_at (moment k (moments k before) (Framed frame)).exchange)
      → KnownAt (channel_logs (moments k before) 0) p → First (Framed frame) p
  by_other frame p other all frames h =
      let same : log_at k before (Framed frame) ≡ channel_logs (moments k before) 0 =
      same_log (moment k (moments k before) (Framed frame)).exchange (channel_logs (moments k before)) (another_exchange k (moments k before) frame all other.1) in
      map_runs (of_device k subject) rows micros (frame ∷ []) p (KnownAt (channel_logs (moments k before) 0)) _
      (λ q g. other_runs (log_at k before (Framed frame)) (of_device k subject) rows micros (frames_at (moment k (moments k before) (Framed frame)).exchange) q frames (subst (λ l. KnownAt l q) (sym same) g))
      (other_runs (channel_logs (moments k before) 0) (of_device k subject) rows micros (frame ∷ []) p (other, tt) h)

  by_served : (frame : FrameContent) (p : Progress) → Given k before (Framed frame) → frame.id ≡ 0x600 + k.description.node
      → (moment k (moments k before) (Framed frame)).exchange ≡ Some (exchange_on (default_channel k) k.description (contents_of k before) (channel_logs (moments k before) 0) frame.bytes)
      → KnownAt (channel_logs (moments k before) 0) p → First (Framed frame) p
  by_served frame p g id exchange h =
      subst (λ e. AllRun transfer_differences (of_device k subject) rows micros p (frame ∷ [])
      (λ q. AllRun transfer_differences (of_device k subject) rows micros q (frames_at e) (KnownAt (logs_after e (channel_logs (moments k before)) 0)))) (sym exchange)
      (known_runs (of_device k subject) rows micros k.description (contents_of k before) (channel_logs (moments k before) 0) frame p id g.clean g.bytes (g.blocks id) (begun_known (channel_logs (moments k before) 0) (of_device k subject) p micros h))

  by_ignored : (frame : FrameContent) (p : Progress) → Given k before (Framed frame) → frame.id ≡ 0x600 + k.description.node → (moment k (moments k before) (Framed frame)).exchange ≡ None
      → (request_in frame.bytes ≡ None) ⊎ (opened_after (channel_logs (moments k before) 0) ≡ None) → KnownAt (channel_logs (moments k before) 0) p → First (Framed frame) p
  by_ignored frame p g id none ignores h =
      unanswered (Framed frame) p none
      (ignored_runs (channel_logs (moments k before) 0) (of_device k subject) rows micros p frame id g.bytes (g.blocks id) ignores (begun_known (channel_logs (moments k before) 0) (of_device k subject) p micros h))

  by_request : (frame : FrameContent) (p : Progress) → Given k before (Framed frame) → frame.id ≡ 0x600 + k.description.node → KnownAt (channel_logs (moments k before) 0) p → First (Framed frame) p
  by_request frame p g id h = by (is_state node.Stopped (state_of k before)) (length frame.bytes == 8) refl refl
    where
      by : (stopped eight : Bool) → is_state node.Stopped (state_of k before) ≡ stopped → (length frame.bytes == 8) ≡ eight → First (Framed frame) p
      by true eight on e = by_ignored frame p g id (none_stopped k (moments k before) (Framed frame) on) (inr (ap opened (idle_stopped k before on))) h
      by false false on e = by_ignored frame p g id (served_is k (moments k before) frame false e id g.sync on) (inl (short_request frame.bytes e)) h
      by false true on e = by_served frame p g id (served_is k (moments k before) frame true e id g.sync on) h

  first : (input : InputView) (p : Progress) → Given k before input → KnownAt (channel_logs (moments k before) 0) p → First input p
  first Ticked p g h = h
  first (Applied event) p g h = unanswered (Applied event) p (no_exchange_of_event k (moments k before) event) h
  first (Framed frame) p g h = by (frame.id == 0) (frame.id == 0x600 + k.description.node) refl refl
    where
      by : (command request : Bool) → (frame.id == 0) ≡ command → (frame.id == 0x600 + k.description.node) ≡ request → First (Framed frame) p
      by true request is r =
          unanswered (Framed frame) p (nmt_exchange k (moments k before) frame is)
          (other_runs (channel_logs (moments k before) 0) (of_device k subject) rows micros (frame ∷ []) p (nmt_other k subject rows micros before frame is, tt) h)
      by false true is r = by_request frame p g (eqb-true frame.id (0x600 + k.description.node) r) h
      by false false is r =
          let other : IsOther k.description.node frame.id = (g.answers, not_equal frame.id (0x600 + k.description.node) r) in
          by_other frame p other g.channels (only_other k.description.node _ (calm_exchange k (moments k before) frame g.channels other.1)) h

  input_runs : (input : InputView) (p : Progress) → Given k before input → KnownAt (channel_logs (moments k before) 0) p
      → AllRun transfer_differences (of_device k subject) rows micros p (frame_of input ++ prescribed k before input) (KnownAt (channel_logs (moments k (input ∷ before)) 0))
  input_runs input p given h =
      let s : Subject = of_device k subject in
      let m : Moment = moment k (moments k before) input in
      let a : List FrameContent = frames_at m.exchange in
      let b : List FrameContent = frames_at m.timed_out in
      let c : List FrameContent = emergency_frames m.contents m.emergency in
      let d : List FrameContent = life_frames k.description.node m.life in
      let e : List FrameContent = map (tpdo_frame k.description m.contents) m.due in
      let log : Log = log_at k before input in
      joined transfer_differences s rows micros (frame_of input) (prescribed k before input) p
      (λ q. AllRun transfer_differences s rows micros q a (KnownAt log)) (KnownAt (channel_logs (moments k (input ∷ before)) 0))
      (first input p given h)
      (λ q r. map_runs s rows micros (prescribed k before input) q (KnownAt log) (KnownAt (channel_logs (moments k (input ∷ before)) 0)) (λ x t. known_stays (log_at k before input) (channel_logs (moments k (input ∷ before)) 0) x.dialogue (end_stays k (moments k before) input) t)
      (joined transfer_differences s rows micros (a ++ b ++ c ++ d) e q (KnownAt log) (KnownAt log)
      (joined transfer_differences s rows micros (a ++ b ++ c) d q (KnownAt log) (KnownAt log)
      (joined transfer_differences s rows micros (a ++ b) c q (KnownAt log) (KnownAt log)
      (joined transfer_differences s rows micros a b q (KnownAt log) (KnownAt log) r (λ x g. time_runs k subject rows micros before input given.channels x g))
      (λ x g. other_runs log s rows micros c x given.other.emergency g))
      (λ x g. life_runs log s rows micros m.life x g))
      (λ x g. other_runs log s rows micros e x given.other.tpdos g)))

-- ---- all inputs

all_none : (k : Constants) (subject : Subject) (rows : List Row) (inputs : List Stamped) (before : Inputs) (p : Progress) → AreElsewhere (0x580 + k.description.node) inputs → HaveBytes inputs → BeginNoBlocks k.description.node inputs
    → AllSendOther k before inputs → ((all : Inputs) → is_sync_id (contents_of k all) (0x600 + k.description.node) ≡ false) → AllByRecursion (IsNumbered k.description.node) (channels k)
    → Clean (channel_logs (moments k before) 0) → KnownAt (channel_logs (moments k before) 0) p → differences_from transfer_differences (of_device k subject) rows p (heard_from k before inputs) ≡ []
all_none k subject rows [] before p answers bytes blocks other sync all clean h = refl
all_none k subject rows (s ∷ later) before p answers bytes blocks other sync all clean h =
    let given : Given k before s.input = record {
      answers = answers.0;
      bytes = bytes.0;
      blocks = blocks.0;
      other = other.0;
      sync = sync before;
      clean = clean;
      channels = all;
    } in
    then_none transfer_differences (of_device k subject) rows s.micros (frame_of s.input ++ prescribed k before s.input) (heard_from k (s.input ∷ before) later) p (KnownAt (channel_logs (moments k (s.input ∷ before)) 0))
    (input_runs k subject rows s.micros before s.input p given h)
    (λ q g. all_none k subject rows later (s.input ∷ before) q answers.1 bytes.1 blocks.1 other.1 sync all (clean_at k (moments k before) s.input (clean_exchange k (moments k before) s.input all blocks.0) clean) g)

of_recording : (k : Constants) (subject : Subject) (rows : List Row) (inputs : List Stamped) → AreElsewhere (0x580 + k.description.node) inputs → HaveBytes inputs → BeginNoBlocks k.description.node inputs
    → AllSendOther k [] inputs → ((all : Inputs) → is_sync_id (contents_of k all) (0x600 + k.description.node) ≡ false) → AllByRecursion (IsNumbered k.description.node) (channels k)
    → differences_in transfer_differences (of_device k subject) rows (recording k inputs) ≡ []
of_recording k subject rows [] answers bytes blocks other sync all = refl
of_recording k subject rows (s ∷ later) answers bytes blocks other sync all =
    then_none transfer_differences (of_device k subject) rows s.micros (boot_up k ∷ []) (heard_from k [] (s ∷ later)) (before_recording (of_device k subject)) (KnownAt [])
    (life_runs [] (of_device k subject) rows s.micros (Some BootUp) (before_recording (of_device k subject)) (none_known [] (before_recording (of_device k subject)).dialogue refl))
    (λ q g. all_none k subject rows (s ∷ later) [] q answers bytes blocks other sync all tt g)

pub no_transfer_differences : (k : Constants) (subject : Subject) (rows : List Row) (inputs : List Stamped) → subject.node ≡ k.description.node → AreElsewhere (0x580 + k.description.node) inputs → HaveBytes inputs
    → BeginNoBlocks k.description.node inputs → AllSendOther k [] inputs → ((all : Inputs) → is_sync_id (contents_of k all) (0x600 + k.description.node) ≡ false) → HaveOtherChannels k
    → AllByRecursion (λ c. IsAside k.description.node c.response) (channels k) → differences_in transfer_differences subject rows (recording k inputs) ≡ []
no_transfer_differences k subject rows inputs is answers bytes blocks other sync others aside =
    subst (λ n. differences_in transfer_differences (record subject { node = n }) rows (recording k inputs) ≡ []) (sym is)
    (of_recording k subject rows inputs answers bytes blocks other sync (numbered k others aside))
