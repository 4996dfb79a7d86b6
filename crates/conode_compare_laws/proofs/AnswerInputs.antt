-- All inputs of a device: what is found of its answers at the frames of each.
use Rattle.std.proofs.Common.{◌≡◌, ℕ, ◌+◌, ◌≢◌, Bool, true, false, List, [], ◌∷◌, ◌++◌, map, length, Option, Some, None, refl, sym, ap, ◌∙◌, ◌⊎◌, inl, inr, subst, arith}
use Rattle.std.specs.Prelude.{◌==◌, if◌then◌else◌, IfSome}
use Rattle.std.specs.List.{AllByRecursion}
use Rattle.std.proofs.lemmas.Bool.{eqb-true, false≢true}
use Rattle.std.proofs.lemmas.Bool.Decides.{nat_tests}
use Rattle.co_value.specs.Numbers.{AreBytes}
use Rattle.co_frame.specs.FrameContent.{FrameContent}
use Rattle.co_frame.specs.Heartbeats.{heartbeat_bytes, state_byte}
use Rattle.co_frame.specs.Nmt.{nmt_command_in}
use Rattle.co_frame.specs.SdoRequests.{request_in}
use Rattle.co_frame.specs.declared.heartbeat.Heartbeat.TheVariants.{BootUp}
use Rattle.co_frame.specs.declared.nmt.NmtService.{NmtService}
use Rattle.co_frame.specs.declared.nmt.NmtService.TheVariants.{Start, Stop, EnterPreOperational, ResetNode, ResetCommunication}
use Rattle.co_sdo.specs.Channels.{ChannelSettings}
use Rattle.co_sdo.specs.Events.{ChannelEvent, exchange_at, exchange_of, exchange_on, frames_at, receiver}
use Rattle.co_sdo.specs.Log.{Ticked as Elapsed, frames_on}
use Rattle.co_sdo.specs.Opened.{is_time_over, opened_after}
use Rattle.co_sdo.specs.OpenTransfers.{is_initiate as initiates, open_transfer}
use Rattle.co_sdo.specs.Replies.{is_in_sub_block, reply_to, time_out_reply}
use Rattle.co_node_laws.proofs.Channel.{default_channel, receives, takes}
use Rattle.co_node_parts.specs.declared.nmt_state.LossReaction.{LossReaction}
use Rattle.co_node_parts.specs.declared.nmt_state.LossReaction.TheVariants.{LeaveOperational, NoChange, EnterStopped}
use Rattle.co_node_parts.specs.declared.nmt_state.NodeState.{NodeState}
use Rattle.co_node_parts.specs.declared.nmt_state.NodeState.TheVariants as node
use Rattle.co_node_parts.specs.NmtStates.{after_loss, heartbeat_of, is_state}
use Rattle.co_node_parts.specs.Producers.{is_heartbeat_due}
use Rattle.co_node_model.specs.declared.address.Address.TheVariants.{Channel}
use Rattle.co_node_model.specs.Addresses.{address_at}
use Rattle.co_node_model.specs.Device.{contents_of, moment, moments, prescribed, state_of}
use Rattle.co_node_model.specs.Emergencies.{emergency_frames}
use Rattle.co_node_model.specs.Heartbeats.{boot_up, life_frames, producer_event, producer_log}
use Rattle.co_node_model.specs.Inputs.{Applied, Framed, Inputs, InputView, Ticked}
use Rattle.co_node_model.specs.Marks.{marked_command}
use Rattle.co_node_model.specs.Moments.{Constants, History, Moment, channels, contents_at}
use Rattle.co_node_model.specs.Nmt.{is_reset_by, service_for, state_at}
use Rattle.co_node_model.specs.Sdo.{channel_logs}
use Rattle.co_node_model.specs.Sync.{is_sync_id}
use Rattle.co_node_model.specs.Tpdos.{tpdo_frame}
use Rattle.co_sheet.specs.Content.{Row}
use Rattle.conode_compare_transfers.specs.declared.dialogue.Dialogue.{Dialogue}
use Rattle.conode_compare_nmt.specs.declared.finding.Finding.{Finding}
use Rattle.conode_compare_rules.specs.declared.kind.FrameKind.{FrameKind}
use Rattle.conode_compare_rules.specs.declared.kind.FrameKind.TheVariants.{Control}
use Rattle.conode_compare_nmt.specs.declared.limits.Subject.{Subject}
use Rattle.conode_compare_nmt.specs.declared.nmt.Commanded.{Commanded}
use Rattle.conode_compare_rules.specs.declared.progress.Progress.{Progress}
use Rattle.conode_compare_rules.specs.declared.verdict.Findings.{Findings}
use Rattle.conode_compare_rules.specs.FrameKinds.{command_kind, data_kind, long_command_in}
use Rattle.conode_compare_rules.specs.Gaps.{before_recording, begun}
use Rattle.conode_compare_rules.specs.Progresses.{progress_with}
use Rattle.conode_compare_laws.specs.AnswerFindings.{answer_differences}
use Rattle.conode_compare_laws.specs.AnswerSenders.{AllSendOther, HasBytes, HaveBytes, HaveOtherChannels, SendsOther}
use Rattle.conode_compare_laws.specs.Differences.{differences_from, differences_in, state_differences}
use Rattle.conode_compare_laws.specs.Identifiers.{AllSendAside, AreElsewhere, IsAside, IsElsewhere, SendsAside}
use Rattle.conode_compare_laws.specs.Recordings.{Stamped, frame_of, heard_from, recording}
use Rattle.conode_compare_laws.proofs.Along.{AllGo}
use Rattle.conode_compare_laws.proofs.Frames.{FitsAt, begun_fits, life_kind, nmt_kind}
use Rattle.conode_compare_laws.proofs.Heard.{boot_goes, input_goes, of_device, stage_at}
use Rattle.conode_compare_laws.proofs.Inputs.{command_in, command_is, state_by}
use Rattle.conode_compare_laws.proofs.Runs.{AllRun, joined, then_none}
use Rattle.conode_compare_laws.proofs.Shown.{Stage, boots, fits_nothing, is_shown, runs, stage_after}
use Rattle.conode_compare_laws.proofs.BlockDevice.{IsInside, closed_never, inside_before, inside_served, reset_never, timed_out_never, times_out}
use Rattle.conode_compare_laws.proofs.BlockExchange.{finished_holds, inside_runs}
use Rattle.conode_compare_laws.proofs.BlockIgnored.{ignored_runs}
use Rattle.conode_compare_laws.proofs.AnswerSteps.{Awaits, Excused, Holds, HoldsOf, InDoubt, begun_holds, begun_newest, boot_quiet, command_quiet, frame_runs, life_quiet, some_map}
use Rattle.conode_compare_laws.proofs.AnswerExchange.{IsFinished, OpensAt, Ready, exchange_runs, map_runs, shown_running}
use Rattle.conode_compare_laws.proofs.AnswerDevice.{IsAnother, IsNumbered, at_end, expired_at, found_with, idle_stays, idle_stopped, no_exchange_of_event, none_at_event, none_at_frame, none_stopped, numbered}
use Rattle.conode_compare_laws.proofs.AnswerCalm.{IsCalm, another_exchange, answers_calm, both_calm, calm_exchange, calm_runs}
use Rattle.conode_compare_laws.proofs.AnswerTimeOuts.{abort_runs, never_over, not_zero, zero_is}

-- ---- what holds before an input

abbrev IsIdle : Constants → Inputs → Type 0
IsIdle k before = open_transfer (channel_logs (moments k before) 0) ≡ None

-- the device is inside a sub-block of a download
abbrev IsIn : Constants → Inputs → Type 0
IsIn k before = IsInside (channel_logs (moments k before) 0)

pub record Given (k : Constants) (before : Inputs) (input : InputView) : Type 0 where
  pub answers : IsElsewhere (0x580 + k.description.node) input
  pub control : IsElsewhere (0x700 + k.description.node) input
  pub bytes : HasBytes input
  pub aside : SendsAside k (moment k (moments k before) input)
  pub other : SendsOther k (moment k (moments k before) input)
  pub sync : is_sync_id (contents_of k before) (0x600 + k.description.node) ≡ false
  pub channels : AllByRecursion (IsNumbered k.description.node) (channels k)

-- ---- the frame that an input is, and the answers to it

-- where the device takes it as a request, none is open then; else what was, and the channel goes on only by another frame
abbrev IdleIf : Bool → Constants → Inputs → Type 0
IdleIf true k before = ⊥
IdleIf false k before = IsIdle k before

pub record First (served : Bool) (k : Constants) (subject : Subject) (rows : List Row) (micros : ℕ) (before : Inputs) (input : InputView) (p : Progress) : Type 0 where
  pub runs_on : AllRun answer_differences subject rows micros p (frame_of input)
      (λ q. AllRun answer_differences subject rows micros q (frames_at (moment k (moments k before) input).exchange) (Holds (IdleIf served k before) (IsIn k (input ∷ before)) (stage_after (command_in k.description.node input) (state_of k before))))
  pub another : served ≡ false → IsAnother (moment k (moments k before) input).exchange

-- after it no answer comes
silent_after : (subject : Subject) (rows : List Row) (micros : ℕ) (p : Progress) (frames : List FrameContent) (exchange : Option ChannelEvent) (after : Progress → Type 0) → exchange ≡ None
    → AllRun answer_differences subject rows micros p frames after → AllRun answer_differences subject rows micros p frames (λ q. AllRun answer_differences subject rows micros q (frames_at exchange) after)
silent_after subject rows micros p frames exchange after none h =
    map_runs subject rows micros frames p after _ (λ q g. subst (λ e. AllRun answer_differences subject rows micros q (frames_at e) after) (sym none) g) h

none_another : (event : Option ChannelEvent) → event ≡ None → IsAnother event
none_another event none = subst IsAnother (sym none) tt

pub nmt_exchange : (k : Constants) (history : History) (frame : FrameContent) → (frame.id == 0) ≡ true → (moment k history (Framed frame)).exchange ≡ None
nmt_exchange k history frame is = rw is refl

-- a request that the device ignores, since it is stopped; or since it hasn't eight bytes
same_eqb : (n : ℕ) → (n == n) ≡ true
same_eqb n = grind (arith, nat_tests)

pub stopped_is : (state : NodeState) → is_state node.Stopped state ≡ true → state ≡ node.Stopped
stopped_is node.Stopped h = refl
stopped_is node.PreOperational h = absurd (false≢true h)
stopped_is node.Operational h = absurd (false≢true h)

-- ---- each input

-- the exchange of a request that the device takes
taken_is : (k : Constants) (history : History) (frame : FrameContent) → frame.id ≡ 0x600 + k.description.node → is_sync_id (contents_at k history) (0x600 + k.description.node) ≡ false → is_state node.Stopped (state_at history) ≡ false
    → (moment k history (Framed frame)).exchange ≡ exchange_of (channels k) k.description (contents_at k history) (channel_logs history) frame
taken_is k history frame id sync running =
    let address : address_at k history frame.id ≡ Channel 0 = ap (address_at k history) id ∙ takes k history sync in
    rw (address, running) refl

exchange_id : (k : Constants) (history : History) (frame : FrameContent) (c : Option ChannelSettings) → receiver (channels k) frame.id ≡ c
    → exchange_of (channels k) k.description (contents_at k history) (channel_logs history) frame ≡ exchange_at c k.description (contents_at k history) (channel_logs history) frame
exchange_id k history frame c is = ap (λ o. exchange_at o k.description (contents_at k history) (channel_logs history) frame) is

received_by : (k : Constants) (frame : FrameContent) → frame.id ≡ 0x600 + k.description.node → receiver (channels k) frame.id ≡ Some (default_channel k)
received_by k frame id = ap (receiver (channels k)) id ∙ receives k

-- of eight bytes or not
pub served_is : (k : Constants) (history : History) (frame : FrameContent) (eight : Bool) → (length frame.bytes == 8) ≡ eight → frame.id ≡ 0x600 + k.description.node → is_sync_id (contents_at k history) (0x600 + k.description.node) ≡ false
    → is_state node.Stopped (state_at history) ≡ false
    → (moment k history (Framed frame)).exchange
    ≡ (if eight then Some (exchange_on (default_channel k) k.description (contents_at k history) (channel_logs history 0) frame.bytes) else None)
served_is k history frame eight is id sync running =
    taken_is k history frame id sync running ∙ exchange_id k history frame (Some (default_channel k)) (received_by k frame id)
    ∙ ap (λ b. if b then Some (exchange_on (default_channel k) k.description (contents_at k history) (channel_logs history 0) frame.bytes) else None) is

pub not_eight : (bytes : List ℕ) → (length bytes == 8) ≡ false → initiates (request_in bytes) ≡ false
not_eight bytes off = rw off refl

inside_map : (Idle X Y : Type 0) (stage : Stage) (q : Progress) → (Y → X) → Holds Idle X stage q → Holds Idle Y stage q
inside_map Idle X Y stage q f h = record { live = h.live; asked = h.asked; covers = λ y. h.covers (f y) }

-- it is no command
no_command : (node : ℕ) (frame : FrameContent) (actual : NodeState) → (frame.id == 0) ≡ false → stage_after (command_in node (Framed frame)) actual ≡ runs actual
no_command node frame actual off = ap (λ b. stage_after (if b then service_for node (nmt_command_in frame) else None) actual) off

module _ (k : Constants) (subject : Subject) (rows : List Row) (micros : ℕ) (before : Inputs) where
  abbrev Firsts : Bool → FrameContent → Progress → Type 0
  Firsts served frame p = First served k (of_device k subject) rows micros before (Framed frame) p

  still : (frame : FrameContent) (p : Progress) → IsAnother (moment k (moments k before) (Framed frame)).exchange → Holds (IsIdle k before) (IsIn k before) (runs (state_of k before)) p
      → Holds (IsIdle k before) (IsIn k (Framed frame ∷ before)) (runs (state_of k before)) p
  still frame p another h = inside_map (IsIdle k before) (IsIn k before) (IsIn k (Framed frame ∷ before)) (runs (state_of k before)) p (inside_before k (moments k before) (Framed frame) another) h

  by_nmt : (frame : FrameContent) (p : Progress) → (frame.id == 0) ≡ true → Holds (IsIdle k before) (IsIn k before) (runs (state_of k before)) p → Firsts false frame p
  by_nmt frame p is h =
      let none : (moment k (moments k before) (Framed frame)).exchange ≡ None = nmt_exchange k (moments k before) frame is in
      record {
        runs_on = silent_after (of_device k subject) rows micros p (frame ∷ []) (moment k (moments k before) (Framed frame)).exchange _ none
            (subst (λ b. AllRun answer_differences (of_device k subject) rows micros p (frame ∷ []) (Holds (IsIdle k before) (IsIn k (Framed frame ∷ before)) (stage_after (if b then service_for k.description.node (nmt_command_in frame) else None) (state_of k before)))) (sym is)
            (frame_runs (of_device k subject) rows micros p frame (command_kind k.description.node frame) _ (nmt_kind k.description.node frame is)
            (command_quiet (IsIdle k before) (IsIn k (Framed frame ∷ before)) (of_device k subject) rows (begun (of_device k subject) p micros) micros (long_command_in frame) (nmt_command_in frame) (state_of k before) (begun_newest (of_device k subject) p micros)
            (begun_holds (IsIdle k before) (IsIn k (Framed frame ∷ before)) (of_device k subject) p micros (runs (state_of k before)) (still frame p (none_another _ none) h)))));
        another = λ e. none_another _ none;
      }

  by_calm : (frame : FrameContent) (p : Progress) → (frame.id == 0) ≡ false → IsCalm k.description.node frame.id → AllByRecursion (IsNumbered k.description.node) (channels k) → Holds (IsIdle k before) (IsIn k before) (runs (state_of k before)) p
      → Firsts false frame p
  by_calm frame p is calm all h =
      let other : IsAnother (moment k (moments k before) (Framed frame)).exchange = another_exchange k (moments k before) frame all calm.1.1 in
      record {
        runs_on = subst (λ stage. AllRun answer_differences (of_device k subject) rows micros p (frame ∷ []) (λ q. AllRun answer_differences (of_device k subject) rows micros q (frames_at (moment k (moments k before) (Framed frame)).exchange) (Holds (IsIdle k before) (IsIn k (Framed frame ∷ before)) stage)))
            (sym (no_command k.description.node frame (state_of k before) is))
            (map_runs (of_device k subject) rows micros (frame ∷ []) p (Holds (IsIdle k before) (IsIn k (Framed frame ∷ before)) (runs (state_of k before))) _
            (λ q g. calm_runs (IsIdle k before) (IsIn k (Framed frame ∷ before)) (of_device k subject) rows micros (frames_at (moment k (moments k before) (Framed frame)).exchange) (runs (state_of k before)) q (calm_exchange k (moments k before) frame all calm.1.1) g)
            (calm_runs (IsIdle k before) (IsIn k (Framed frame ∷ before)) (of_device k subject) rows micros (frame ∷ []) (runs (state_of k before)) p (calm, tt) (still frame p other h)));
        another = λ e. other;
      }

  -- a request that it ignores
  by_ignored : (frame : FrameContent) (p : Progress) → (frame.id == 0) ≡ false → frame.id ≡ 0x600 + k.description.node
      → (initiates (request_in frame.bytes) ≡ true → (state_of k before ≡ node.Stopped) × IsIdle k before) → (IsIn k (Framed frame ∷ before) → (length frame.bytes == 8) ≡ false) → (moment k (moments k before) (Framed frame)).exchange ≡ None
      → Holds (IsIdle k before) (IsIn k before) (runs (state_of k before)) p → Firsts false frame p
  by_ignored frame p is id ignores short none h =
      record {
        runs_on = subst (λ stage. AllRun answer_differences (of_device k subject) rows micros p (frame ∷ []) (λ q. AllRun answer_differences (of_device k subject) rows micros q (frames_at (moment k (moments k before) (Framed frame)).exchange) (Holds (IsIdle k before) (IsIn k (Framed frame ∷ before)) stage)))
            (sym (no_command k.description.node frame (state_of k before) is))
            (silent_after (of_device k subject) rows micros p (frame ∷ []) (moment k (moments k before) (Framed frame)).exchange _ none
            (ignored_runs (IsIdle k before) (IsIn k (Framed frame ∷ before)) (of_device k subject) rows micros p frame (state_of k before) id ignores short (still frame p (none_another _ none) h)));
        another = λ e. none_another _ none;
      }

  -- one that it takes
  answered_runs : (frame : FrameContent) (p : Progress) → frame.id ≡ 0x600 + k.description.node → AreBytes frame.bytes → is_state node.Stopped (state_of k before) ≡ false → is_shown p.nmt.state (state_of k before) ≡ true
      → Holds (IsIdle k before) (IsIn k before) (runs (state_of k before)) p
      → AllRun answer_differences (of_device k subject) rows micros p (frame ∷ [])
      (λ q. AllRun answer_differences (of_device k subject) rows micros q (frames_on (0x580 + k.description.node) (reply_to k.description (contents_of k before) (channel_logs (moments k before) 0) frame.bytes))
      (Holds ⊥ (OpensAt k.description (contents_of k before) (channel_logs (moments k before) 0) frame.bytes) (runs (state_of k before))))
  answered_runs frame p id bytes running shown h = by (is_in_sub_block (opened_after (channel_logs (moments k before) 0))) refl
    where
      held : Holds (IsIdle k before) (IsIn k before) (runs (state_of k before)) (begun (of_device k subject) p micros)
      held = begun_holds (IsIdle k before) (IsIn k before) (of_device k subject) p micros (runs (state_of k before)) h

      ready : Ready (of_device k subject) (begun (of_device k subject) p micros) micros
      ready = record {
        newest = begun_newest (of_device k subject) p micros;
        running = shown_running (begun (of_device k subject) p micros).nmt.state (state_of k before) (begun_fits (of_device k subject) p micros micros (runs (state_of k before)) shown) running;
        live = held.live;
      }

      by : (inside : Bool) → is_in_sub_block (opened_after (channel_logs (moments k before) 0)) ≡ inside
          → AllRun answer_differences (of_device k subject) rows micros p (frame ∷ [])
          (λ q. AllRun answer_differences (of_device k subject) rows micros q (frames_on (0x580 + k.description.node) (reply_to k.description (contents_of k before) (channel_logs (moments k before) 0) frame.bytes))
          (Holds ⊥ (OpensAt k.description (contents_of k before) (channel_logs (moments k before) 0) frame.bytes) (runs (state_of k before))))
      by true i = inside_runs ⊥ (of_device k subject) rows micros (runs (state_of k before)) k.description (contents_of k before) (channel_logs (moments k before) 0) frame p id i ready (held.covers i)
      by false o =
          map_runs (of_device k subject) rows micros (frame ∷ []) p _ _
          (λ q g. map_runs (of_device k subject) rows micros (frames_on (0x580 + k.description.node) (reply_to k.description (contents_of k before) (channel_logs (moments k before) 0) frame.bytes)) q
          (IsFinished (OpensAt k.description (contents_of k before) (channel_logs (moments k before) 0) frame.bytes)) (Holds ⊥ (OpensAt k.description (contents_of k before) (channel_logs (moments k before) 0) frame.bytes) (runs (state_of k before)))
          (λ x r. finished_holds ⊥ (OpensAt k.description (contents_of k before) (channel_logs (moments k before) 0) frame.bytes) (runs (state_of k before)) x r) g)
          (exchange_runs (of_device k subject) rows micros k.description (contents_of k before) (channel_logs (moments k before) 0) frame p id bytes o ready)

  by_served : (frame : FrameContent) (p : Progress) → (frame.id == 0) ≡ false → frame.id ≡ 0x600 + k.description.node → AreBytes frame.bytes
      → is_state node.Stopped (state_of k before) ≡ false → is_shown p.nmt.state (state_of k before) ≡ true
      → (moment k (moments k before) (Framed frame)).exchange ≡ Some (exchange_on (default_channel k) k.description (contents_of k before) (channel_logs (moments k before) 0) frame.bytes)
      → Holds (IsIdle k before) (IsIn k before) (runs (state_of k before)) p → Firsts true frame p
  by_served frame p is id bytes running shown exchange h =
      record {
        runs_on = subst (λ stage. AllRun answer_differences (of_device k subject) rows micros p (frame ∷ []) (λ q. AllRun answer_differences (of_device k subject) rows micros q (frames_at (moment k (moments k before) (Framed frame)).exchange) (Holds ⊥ (IsIn k (Framed frame ∷ before)) stage)))
            (sym (no_command k.description.node frame (state_of k before) is))
            (subst (λ e. AllRun answer_differences (of_device k subject) rows micros p (frame ∷ []) (λ q. AllRun answer_differences (of_device k subject) rows micros q (frames_at e) (Holds ⊥ (IsIn k (Framed frame ∷ before)) (runs (state_of k before))))) (sym exchange)
            (map_runs (of_device k subject) rows micros (frame ∷ []) p _ _
            (λ q g. map_runs (of_device k subject) rows micros (frames_on (0x580 + k.description.node) (reply_to k.description (contents_of k before) (channel_logs (moments k before) 0) frame.bytes)) q
            (Holds ⊥ (OpensAt k.description (contents_of k before) (channel_logs (moments k before) 0) frame.bytes) (runs (state_of k before))) (Holds ⊥ (IsIn k (Framed frame ∷ before)) (runs (state_of k before)))
            (λ x r. inside_map ⊥ (OpensAt k.description (contents_of k before) (channel_logs (moments k before) 0) frame.bytes) (IsIn k (Framed frame ∷ before)) (runs (state_of k before)) x
            (λ i. inside_served k (moments k before) (Framed frame) (contents_of k before) frame.bytes exchange i) r) g)
            (answered_runs frame p id bytes running shown h)));
        another = λ e. absurd (false≢true (sym e));
      }

  abbrev Either : InputView → Progress → Type 0
  Either input p = First true k (of_device k subject) rows micros before input p ⊎ First false k (of_device k subject) rows micros before input p

  by_request : (frame : FrameContent) (p : Progress) → Given k before (Framed frame) → (frame.id == 0) ≡ false → frame.id ≡ 0x600 + k.description.node → is_shown p.nmt.state (state_of k before) ≡ true
      → Holds (IsIdle k before) (IsIn k before) (runs (state_of k before)) p → Either (Framed frame) p
  by_request frame p g is id shown h = by (is_state node.Stopped (state_of k before)) (length frame.bytes == 8) refl refl
    where
      by : (stopped eight : Bool) → is_state node.Stopped (state_of k before) ≡ stopped → (length frame.bytes == 8) ≡ eight → Either (Framed frame) p
      by true eight on e =
          let none : (moment k (moments k before) (Framed frame)).exchange ≡ None = none_stopped k (moments k before) (Framed frame) on in
          inr (by_ignored frame p is id (λ i. (stopped_is (state_of k before) on, idle_stopped k before on))
          (λ i. absurd (closed_never (channel_logs (moments k before) 0) (idle_stopped k before on) (inside_before k (moments k before) (Framed frame) (none_another _ none) i))) none h)
      by false false on e =
          inr (by_ignored frame p is id (λ i. absurd (false≢true (sym (not_eight frame.bytes e) ∙ i))) (λ i. e) (served_is k (moments k before) frame false e id g.sync on) h)
      by false true on e =
          inl (by_served frame p is id g.bytes on shown (served_is k (moments k before) frame true e id g.sync on) h)

  pub not_equal : (a b : ℕ) → (a == b) ≡ false → a ≢ b
  not_equal a b off = λ e. absurd (false≢true (sym off ∙ ap (λ x. x == b) e ∙ same_eqb b))

  first : (input : InputView) (p : Progress) → Given k before input → is_shown p.nmt.state (state_of k before) ≡ true → Holds (IsIdle k before) (IsIn k before) (runs (state_of k before)) p → Either input p
  first Ticked p g shown h = inr (record { runs_on = inside_map (IsIdle k before) (IsIn k before) (IsIn k (Ticked ∷ before)) (runs (state_of k before)) p (inside_before k (moments k before) Ticked tt) h; another = λ e. tt })
  first (Applied event) p g shown h =
      let none : (moment k (moments k before) (Applied event)).exchange ≡ None = no_exchange_of_event k (moments k before) event in
      inr (record {
        runs_on = silent_after (of_device k subject) rows micros p [] (moment k (moments k before) (Applied event)).exchange _ none
            (inside_map (IsIdle k before) (IsIn k before) (IsIn k (Applied event ∷ before)) (runs (state_of k before)) p (inside_before k (moments k before) (Applied event) (none_another _ none)) h);
        another = λ e. none_another _ none;
      })
  first (Framed frame) p g shown h = by (frame.id == 0) (frame.id == 0x600 + k.description.node) refl refl
    where
      by : (command request : Bool) → (frame.id == 0) ≡ command → (frame.id == 0x600 + k.description.node) ≡ request → Either (Framed frame) p
      by true request is r = inr (by_nmt frame p is h)
      by false true is r = by_request frame p g is (eqb-true frame.id (0x600 + k.description.node) r) shown h
      by false false is r =
          inr (by_calm frame p is ((not_equal frame.id 0 is, g.control), (g.answers, not_equal frame.id (0x600 + k.description.node) r)) g.channels h)

-- ---- an abort when a transfer times out

-- what is known of the state at a tick
abbrev Watched : Constants → Inputs → InputView → Progress → Type 0
Watched k before Ticked q = is_shown q.nmt.state (state_of k before) ≡ true
Watched k before (Framed frame) q = Unit {0}
Watched k before (Applied event) q = Unit {0}

no_time_out : (subject : Subject) (rows : List Row) (micros : ℕ) (event : Option ChannelEvent) (q : Progress) (after : Progress → Type 0) → event ≡ None → after q → AllRun answer_differences subject rows micros q (frames_at event) after
no_time_out subject rows micros event q after none h = subst (λ e. AllRun answer_differences subject rows micros q (frames_at e) after) (sym none) h

module _ (Idle : Type 0) (k : Constants) (subject : Subject) (rows : List Row) (micros : ℕ) (before : Inputs) (stage : Stage) (all : AllByRecursion (IsNumbered k.description.node) (channels k)) (idle : Idle → IsIdle k before) where
  -- what times out is open, so the device isn't stopped
  not_stopped : (c : ChannelSettings) → c.number ≡ 0 → is_time_over c.time (Elapsed ∷ channel_logs (moments k before) c.number) ≡ true → is_state node.Stopped (state_of k before) ≡ false
  not_stopped c zero over = by (is_state node.Stopped (state_of k before)) refl
    where
      by : (b : Bool) → is_state node.Stopped (state_of k before) ≡ b → is_state node.Stopped (state_of k before) ≡ false
      by true on = absurd (never_over c.time (channel_logs (moments k before) c.number) (subst (λ j. open_transfer (channel_logs (moments k before) j) ≡ None) (sym zero) (idle_stopped k before on)) over)
      by false off = off

  one_runs : (c : ChannelSettings) → IsNumbered k.description.node c → is_time_over c.time (Elapsed ∷ channel_logs (moments k before) c.number) ≡ true → expired_at k (moments k before) ≡ Some c
      → (q : Progress) → is_shown q.nmt.state (state_of k before) ≡ true → Holds Idle (IsIn k (Ticked ∷ before)) stage q
      → AllRun answer_differences (of_device k subject) rows micros q (frames_on c.response (time_out_reply (Elapsed ∷ channel_logs (moments k before) c.number))) (Holds Idle (IsIn k (Ticked ∷ before)) stage)
  one_runs c n over expired q shown h = by (0 == c.number) refl
    where
      by : (b : Bool) → (0 == c.number) ≡ b
          → AllRun answer_differences (of_device k subject) rows micros q (frames_on c.response (time_out_reply (Elapsed ∷ channel_logs (moments k before) c.number))) (Holds Idle (IsIn k (Ticked ∷ before)) stage)
      by true is =
          abort_runs Idle (IsIn k (Ticked ∷ before)) (of_device k subject) rows micros stage q c.response (Elapsed ∷ channel_logs (moments k before) c.number) (n.first (zero_is c.number is)).1
          (λ i. never_over c.time (channel_logs (moments k before) c.number) (subst (λ j. open_transfer (channel_logs (moments k before) j) ≡ None) (sym (zero_is c.number is)) (idle i)) over)
          (timed_out_never k (moments k before) c expired is)
          (shown_running (begun (of_device k subject) q micros).nmt.state (state_of k before) (begun_fits (of_device k subject) q micros micros (runs (state_of k before)) shown) (not_stopped c (zero_is c.number is) over))
          h
      by false is =
          calm_runs Idle (IsIn k (Ticked ∷ before)) (of_device k subject) rows micros (frames_on c.response (time_out_reply (Elapsed ∷ channel_logs (moments k before) c.number))) stage q
          (answers_calm k.description.node c.response (time_out_reply (Elapsed ∷ channel_logs (moments k before) c.number)) (n.aside, n.other (not_zero c.number is))) h

  time_out_runs : (input : InputView) (q : Progress) → Watched k before input q → Holds Idle (IsIn k (input ∷ before)) stage q
      → AllRun answer_differences (of_device k subject) rows micros q (frames_at (moment k (moments k before) input).timed_out) (Holds Idle (IsIn k (input ∷ before)) stage)
  time_out_runs (Framed frame) q w h = no_time_out (of_device k subject) rows micros (moment k (moments k before) (Framed frame)).timed_out q _ (none_at_frame k (moments k before) frame) h
  time_out_runs (Applied event) q w h = no_time_out (of_device k subject) rows micros (moment k (moments k before) (Applied event)).timed_out q _ (none_at_event k (moments k before) event) h
  time_out_runs Ticked q w h =
      by (expired_at k (moments k before)) refl (found_with (IsNumbered k.description.node) (λ c. is_time_over c.time (Elapsed ∷ channel_logs (moments k before) c.number)) (channels k) all)
    where
      by : (o : Option ChannelSettings) → expired_at k (moments k before) ≡ o → IfSome o (λ c. IsNumbered k.description.node c × (is_time_over c.time (Elapsed ∷ channel_logs (moments k before) c.number) ≡ true))
          → AllRun answer_differences (of_device k subject) rows micros q (frames_at (moment k (moments k before) Ticked).timed_out) (Holds Idle (IsIn k (Ticked ∷ before)) stage)
      by None e found = no_time_out (of_device k subject) rows micros (moment k (moments k before) Ticked).timed_out q _ (times_out k (moments k before) None e) h
      by (Some c) e found =
          subst (λ event. AllRun answer_differences (of_device k subject) rows micros q (frames_at event) (Holds Idle (IsIn k (Ticked ∷ before)) stage)) (sym (times_out k (moments k before) (Some c) e))
          (one_runs c found.0 found.1 e q w h)

-- ---- the boot-up, or a heartbeat

lives : (Idle Inside : Type 0) (subject : Subject) (rows : List Row) (micros : ℕ) (p : Progress) (command : Option NmtService) (due : Bool) (final : NodeState) → (is_reset_by command ≡ true → Inside → ⊥) → Holds Idle Inside (stage_at command final) p
    → AllRun answer_differences subject rows micros p (life_frames subject.node (if is_reset_by command then Some BootUp else (if due then Some (heartbeat_of final) else None))) (Holds Idle Inside (runs final))
lives Idle Inside subject rows micros p command due final never h = by (is_reset_by command) due refl h
  where
    by : (reset due : Bool) → is_reset_by command ≡ reset → Holds Idle Inside (if reset then boots else runs final) p
        → AllRun answer_differences subject rows micros p (life_frames subject.node (if reset then Some BootUp else (if due then Some (heartbeat_of final) else None))) (Holds Idle Inside (runs final))
    by true due is h =
        frame_runs subject rows micros p (record { id = 0x700 + subject.node; bytes = heartbeat_bytes BootUp }) (Control 0) (Holds Idle Inside (runs final)) (life_kind subject.node BootUp)
        (boot_quiet Idle Inside subject rows (begun subject p micros) micros (runs final) (never is))
    by false false is h = h
    by false true is h =
        frame_runs subject rows micros p (record { id = 0x700 + subject.node; bytes = heartbeat_bytes (heartbeat_of final) }) (Control (state_byte (heartbeat_of final))) (Holds Idle Inside (runs final)) (life_kind subject.node (heartbeat_of final))
        (life_quiet Idle Inside subject rows (begun subject p micros) micros final (begun_holds Idle Inside subject p micros (runs final) h))

-- ---- before the frames that the device sends

excuse_map : (Idle Inside : Type 0) (x y : Stage) (newest : Option ℕ) (commanded : Option Commanded) (d : Dialogue) → ((t : ℕ) → Excused x t commanded → Excused y t commanded) → HoldsOf Idle Inside x newest commanded d → HoldsOf Idle Inside y newest commanded d
excuse_map Idle Inside x y newest commanded d f h = record {
  live = h.live;
  asked = some_map d.asked (Awaits Idle x newest commanded d.doubted) (Awaits Idle y newest commanded d.doubted) (λ a w. record { by = w.by; why = excuse a.micros w.why }) h.asked;
  covers = h.covers;
}
  where
    excuse : (t : ℕ) → (Excused x t commanded × Idle) ⊎ InDoubt t d.doubted → (Excused y t commanded × Idle) ⊎ InDoubt t d.doubted
    excuse t (inl e) = inl (f t e.0, e.1)
    excuse t (inr doubt) = inr doubt

lost_excused : (t : ℕ) (c : Option Commanded) (state : NodeState) (reaction : LossReaction) → Excused (runs state) t c → Excused (runs (after_loss reaction state)) t c
lost_excused t c node.PreOperational LeaveOperational h = h
lost_excused t c node.PreOperational NoChange h = h
lost_excused t c node.PreOperational EnterStopped h = tt
lost_excused t c node.Operational LeaveOperational h = h
lost_excused t c node.Operational NoChange h = h
lost_excused t c node.Operational EnterStopped h = tt
lost_excused t c node.Stopped LeaveOperational h = tt
lost_excused t c node.Stopped NoChange h = tt
lost_excused t c node.Stopped EnterStopped h = tt

sending_holds : (Idle Inside : Type 0) (command : Option NmtService) (actual final : NodeState) (q : Progress) → ((t : ℕ) → Excused (runs (state_by command actual)) t q.nmt.commanded → Excused (runs final) t q.nmt.commanded)
    → Holds Idle Inside (stage_after command actual) q → Holds Idle Inside (stage_at command final) q
sending_holds Idle Inside None actual final q f h = excuse_map Idle Inside (runs actual) (runs final) q.newest q.nmt.commanded q.dialogue f h
sending_holds Idle Inside (Some Start) actual final q f h = excuse_map Idle Inside (runs node.Operational) (runs final) q.newest q.nmt.commanded q.dialogue f h
sending_holds Idle Inside (Some Stop) actual final q f h = excuse_map Idle Inside (runs node.Stopped) (runs final) q.newest q.nmt.commanded q.dialogue f h
sending_holds Idle Inside (Some EnterPreOperational) actual final q f h = excuse_map Idle Inside (runs node.PreOperational) (runs final) q.newest q.nmt.commanded q.dialogue f h
sending_holds Idle Inside (Some ResetNode) actual final q f h = h
sending_holds Idle Inside (Some ResetCommunication) actual final q f h = h

at_sending : (Idle Inside : Type 0) (k : Constants) (before : Inputs) (input : InputView) (q : Progress) → Holds Idle Inside (stage_after (command_in k.description.node input) (state_of k before)) q
    → Holds Idle Inside (stage_at (marked_command (moment k (moments k before) input).mark) (state_of k (input ∷ before))) q
at_sending Idle Inside k before input q h =
    subst (λ c. Holds Idle Inside (stage_at c (state_of k (input ∷ before))) q) (sym (command_is k (moments k before) input))
    (sending_holds Idle Inside (command_in k.description.node input) (state_of k before) (state_of k (input ∷ before)) q
    (λ t e. at_end (λ state. Excused (runs state) t q.nmt.commanded) (lost_excused t q.nmt.commanded) k (moments k before) input e) h)

rest_runs : (Idle : Type 0) (k : Constants) (subject : Subject) (rows : List Row) (micros : ℕ) (before : Inputs) (input : InputView) (p : Progress) → Given k before input → (Idle → IsIdle k before)
    → AllRun answer_differences (of_device k subject) rows micros p (frames_at (moment k (moments k before) input).exchange)
    (λ q. Holds Idle (IsIn k (input ∷ before)) (stage_after (command_in k.description.node input) (state_of k before)) q × Watched k before input q)
    → AllRun answer_differences (of_device k subject) rows micros p (prescribed k before input) (Holds Idle (IsIn k (input ∷ before)) (runs (state_of k (input ∷ before))))
rest_runs Idle k subject rows micros before input p given idle h =
    let s : Subject = of_device k subject in
    let m : Moment = moment k (moments k before) input in
    let command : Option NmtService = marked_command m.mark in
    let final : NodeState = state_of k (input ∷ before) in
    let a : List FrameContent = frames_at m.exchange in
    let b : List FrameContent = frames_at m.timed_out in
    let c : List FrameContent = emergency_frames m.contents m.emergency in
    let d : List FrameContent = life_frames k.description.node m.life in
    let e : List FrameContent = map (tpdo_frame k.description m.contents) m.due in
    let sending : Progress → Type 0 = Holds Idle (IsIn k (input ∷ before)) (stage_at command final) in
    let second : AllRun answer_differences s rows micros p (a ++ b) sending =
    joined answer_differences s rows micros a b p (λ q. Holds Idle (IsIn k (input ∷ before)) (stage_after (command_in k.description.node input) (state_of k before)) q × Watched k before input q) sending h
    (λ q g. time_out_runs Idle k subject rows micros before (stage_at command final) given.channels idle input q g.1 (at_sending Idle (IsIn k (input ∷ before)) k before input q g.0)) in
    let third : AllRun answer_differences s rows micros p (a ++ b ++ c) sending =
    joined answer_differences s rows micros (a ++ b) c p sending sending second
    (λ q g. calm_runs Idle (IsIn k (input ∷ before)) s rows micros c (stage_at command final) q (both_calm k.description.node c given.aside.emergency given.other.emergency) g) in
    let fourth : AllRun answer_differences s rows micros p (a ++ b ++ c ++ d) (Holds Idle (IsIn k (input ∷ before)) (runs final)) =
    joined answer_differences s rows micros (a ++ b ++ c) d p sending (Holds Idle (IsIn k (input ∷ before)) (runs final)) third
    (λ q g. lives Idle (IsIn k (input ∷ before)) s rows micros q command (is_heartbeat_due (producer_event m.mark m.contents) (producer_log k (moments k before))) final (reset_never k (moments k before) input) g) in
    joined answer_differences s rows micros (a ++ b ++ c ++ d) e p (Holds Idle (IsIn k (input ∷ before)) (runs final)) (Holds Idle (IsIn k (input ∷ before)) (runs final)) fourth
    (λ q g. calm_runs Idle (IsIn k (input ∷ before)) s rows micros e (runs final) q (both_calm k.description.node e given.aside.tpdos given.other.tpdos) g)

-- ---- an input

idle_map : (X Y Inside : Type 0) (stage : Stage) (q : Progress) → (X → Y) → Holds X Inside stage q → Holds Y Inside stage q
idle_map X Y Inside stage q f h = record {
  live = h.live;
  asked = some_map q.dialogue.asked (Awaits X stage q.newest q.nmt.commanded q.dialogue.doubted) (Awaits Y stage q.newest q.nmt.commanded q.dialogue.doubted) (λ a w. record { by = w.by; why = reason a.micros w.why }) h.asked;
  covers = h.covers;
}
  where
    reason : (t : ℕ) → (Excused stage t q.nmt.commanded × X) ⊎ InDoubt t q.dialogue.doubted → (Excused stage t q.nmt.commanded × Y) ⊎ InDoubt t q.dialogue.doubted
    reason t (inl e) = inl (e.0, f e.1)
    reason t (inr doubt) = inr doubt

by_first : (Idle : Type 0) (k : Constants) (subject : Subject) (rows : List Row) (micros : ℕ) (before : Inputs) (input : InputView) (p : Progress) → Given k before input → (Idle → IsIdle k before)
    → (Idle → IsIdle k (input ∷ before))
    → AllRun answer_differences (of_device k subject) rows micros p (frame_of input)
    (λ q. AllRun answer_differences (of_device k subject) rows micros q (frames_at (moment k (moments k before) input).exchange)
    (λ x. Holds Idle (IsIn k (input ∷ before)) (stage_after (command_in k.description.node input) (state_of k before)) x × Watched k before input x))
    → AllRun answer_differences (of_device k subject) rows micros p (frame_of input ++ prescribed k before input) (Holds (IsIdle k (input ∷ before)) (IsIn k (input ∷ before)) (runs (state_of k (input ∷ before))))
by_first Idle k subject rows micros before input p given idle stays h =
    joined answer_differences (of_device k subject) rows micros (frame_of input) (prescribed k before input) p _ (Holds (IsIdle k (input ∷ before)) (IsIn k (input ∷ before)) (runs (state_of k (input ∷ before)))) h
    (λ q g. map_runs (of_device k subject) rows micros (prescribed k before input) q (Holds Idle (IsIn k (input ∷ before)) (runs (state_of k (input ∷ before)))) (Holds (IsIdle k (input ∷ before)) (IsIn k (input ∷ before)) (runs (state_of k (input ∷ before))))
    (λ x r. idle_map Idle (IsIdle k (input ∷ before)) (IsIn k (input ∷ before)) (runs (state_of k (input ∷ before))) x stays r)
    (rest_runs Idle k subject rows micros before input q given idle g))

-- nothing times out but at a tick
watched : (P Q : Progress → Type 0) (subject : Subject) (rows : List Row) (micros : ℕ) (frames answers : List FrameContent) (p : Progress) → ((q : Progress) → Q q)
    → AllRun answer_differences subject rows micros p frames (λ q. AllRun answer_differences subject rows micros q answers P)
    → AllRun answer_differences subject rows micros p frames (λ q. AllRun answer_differences subject rows micros q answers (λ x. P x × Q x))
watched P Q subject rows micros frames answers p all h =
    map_runs subject rows micros frames p _ _ (λ q g. map_runs subject rows micros answers q P (λ x. P x × Q x) (λ x r. (r, all x)) g) h

first_runs : (k : Constants) (subject : Subject) (rows : List Row) (micros : ℕ) (before : Inputs) (input : InputView) (p : Progress) → Given k before input → ((q : Progress) → Watched k before input q)
    → First true k (of_device k subject) rows micros before input p ⊎ First false k (of_device k subject) rows micros before input p
    → AllRun answer_differences (of_device k subject) rows micros p (frame_of input ++ prescribed k before input) (Holds (IsIdle k (input ∷ before)) (IsIn k (input ∷ before)) (runs (state_of k (input ∷ before))))
first_runs k subject rows micros before input p given all (inl served) =
    by_first ⊥ k subject rows micros before input p given (λ i. absurd i) (λ i. absurd i)
    (watched _ (Watched k before input) (of_device k subject) rows micros (frame_of input) (frames_at (moment k (moments k before) input).exchange) p all served.runs_on)
first_runs k subject rows micros before input p given all (inr other) =
    by_first (IsIdle k before) k subject rows micros before input p given (λ i. i) (λ i. idle_stays k (moments k before) input (other.another refl) i)
    (watched _ (Watched k before input) (of_device k subject) rows micros (frame_of input) (frames_at (moment k (moments k before) input).exchange) p all other.runs_on)

input_runs : (k : Constants) (subject : Subject) (rows : List Row) (micros : ℕ) (before : Inputs) (input : InputView) (p : Progress) → Given k before input → is_shown p.nmt.state (state_of k before) ≡ true
    → Holds (IsIdle k before) (IsIn k before) (runs (state_of k before)) p
    → AllRun answer_differences (of_device k subject) rows micros p (frame_of input ++ prescribed k before input) (Holds (IsIdle k (input ∷ before)) (IsIn k (input ∷ before)) (runs (state_of k (input ∷ before))))
input_runs k subject rows micros before (Framed frame) p given shown h = first_runs k subject rows micros before (Framed frame) p given (λ q. tt) (first k subject rows micros before (Framed frame) p given shown h)
input_runs k subject rows micros before (Applied event) p given shown h = first_runs k subject rows micros before (Applied event) p given (λ q. tt) (first k subject rows micros before (Applied event) p given shown h)
input_runs k subject rows micros before Ticked p given shown h =
    by_first (IsIdle k before) k subject rows micros before Ticked p given (λ i. i) (λ i. idle_stays k (moments k before) Ticked tt i)
    (inside_map (IsIdle k before) (IsIn k before) (IsIn k (Ticked ∷ before)) (runs (state_of k before)) p (inside_before k (moments k before) Ticked tt) h, shown)

-- ---- all inputs

both : (these : FrameKind → Findings → List Finding) (subject : Subject) (rows : List Row) (micros : ℕ) (frames : List FrameContent) (p : Progress) (stage : Stage) (after : Progress → Type 0)
    → AllGo state_differences subject rows micros p frames stage → AllRun these subject rows micros p frames after → AllRun these subject rows micros p frames (λ q. FitsAt micros stage q × after q)
both these subject rows micros [] p stage after h r = (h, r)
both these subject rows micros (frame ∷ later) p stage after h r = (r.0, both these subject rows micros later (progress_with subject p micros (data_kind subject.node frame)) stage after h.1 r.1)

all_none : (k : Constants) (subject : Subject) (rows : List Row) (inputs : List Stamped) (before : Inputs) (p : Progress) → AreElsewhere (0x580 + k.description.node) inputs → AreElsewhere (0x700 + k.description.node) inputs → HaveBytes inputs
    → AllSendAside k before inputs → AllSendOther k before inputs → ((all : Inputs) → is_sync_id (contents_of k all) (0x600 + k.description.node) ≡ false)
    → AllByRecursion (IsNumbered k.description.node) (channels k) → is_shown p.nmt.state (state_of k before) ≡ true → Holds (IsIdle k before) (IsIn k before) (runs (state_of k before)) p
    → differences_from answer_differences (of_device k subject) rows p (heard_from k before inputs) ≡ []
all_none k subject rows [] before p answers control bytes aside other sync all shown h = refl
all_none k subject rows (s ∷ later) before p answers control bytes aside other sync all shown h =
    let given : Given k before s.input = record {
      answers = answers.0;
      control = control.0;
      bytes = bytes.0;
      aside = aside.0;
      other = other.0;
      sync = sync before;
      channels = all;
    } in
    let frames : List FrameContent = frame_of s.input ++ prescribed k before s.input in
    let state : NodeState = state_of k (s.input ∷ before) in
    then_none answer_differences (of_device k subject) rows s.micros frames (heard_from k (s.input ∷ before) later) p (λ q. FitsAt s.micros (runs state) q × Holds (IsIdle k (s.input ∷ before)) (IsIn k (s.input ∷ before)) (runs state) q)
    (both answer_differences (of_device k subject) rows s.micros frames p (runs state) (Holds (IsIdle k (s.input ∷ before)) (IsIn k (s.input ∷ before)) (runs state))
    (input_goes k subject rows s.micros before s.input p control.0 aside.0 shown) (input_runs k subject rows s.micros before s.input p given shown h))
    (λ q g. all_none k subject rows later (s.input ∷ before) q answers.1 control.1 bytes.1 aside.1 other.1 sync all g.0 g.1)

of_recording : (k : Constants) (subject : Subject) (rows : List Row) (inputs : List Stamped) → AreElsewhere (0x580 + k.description.node) inputs → AreElsewhere (0x700 + k.description.node) inputs → HaveBytes inputs
    → AllSendAside k [] inputs → AllSendOther k [] inputs → ((all : Inputs) → is_sync_id (contents_of k all) (0x600 + k.description.node) ≡ false)
    → AllByRecursion (IsNumbered k.description.node) (channels k)
    → differences_in answer_differences (of_device k subject) rows (recording k inputs) ≡ []
of_recording k subject rows [] answers control bytes aside other sync all = refl
of_recording k subject rows (s ∷ later) answers control bytes aside other sync all =
    let subj : Subject = of_device k subject in
    let p : Progress = before_recording subj in
    let state : Progress → Type 0 = Holds (IsIdle k []) (IsIn k []) (runs node.PreOperational) in
    then_none answer_differences subj rows s.micros (boot_up k ∷ []) (heard_from k [] (s ∷ later)) p (λ q. FitsAt s.micros (runs node.PreOperational) q × state q)
    (both answer_differences subj rows s.micros (boot_up k ∷ []) p (runs node.PreOperational) state
    (let g = boot_goes subj rows s.micros p (fits_nothing s.micros boots None) in (g.none, g.fits))
    (frame_runs subj rows s.micros p (boot_up k) (Control 0) state (life_kind k.description.node BootUp) (boot_quiet (IsIdle k []) (IsIn k []) subj rows (begun subj p s.micros) s.micros (runs node.PreOperational) (λ i. false≢true i))))
    (λ q g. all_none k subject rows (s ∷ later) [] q answers control bytes aside other sync all g.0 g.1)

pub no_answer_differences : (k : Constants) (subject : Subject) (rows : List Row) (inputs : List Stamped) → subject.node ≡ k.description.node → AreElsewhere (0x580 + k.description.node) inputs
    → AreElsewhere (0x700 + k.description.node) inputs → HaveBytes inputs → AllSendAside k [] inputs → AllSendOther k [] inputs
    → ((all : Inputs) → is_sync_id (contents_of k all) (0x600 + k.description.node) ≡ false) → HaveOtherChannels k → AllByRecursion (λ c. IsAside k.description.node c.response) (channels k)
    → differences_in answer_differences subject rows (recording k inputs) ≡ []
no_answer_differences k subject rows inputs is answers control bytes aside other sync others channels =
    subst (λ n. differences_in answer_differences (record subject { node = n }) rows (recording k inputs) ≡ []) (sym is)
    (of_recording k subject rows inputs answers control bytes aside other sync (numbered k others channels))
