-- A device by the kind of its inputs sends what is prescribed, and has the state and the entries of the definitions.
use Rattle.std.proofs.Common.{◌≡◌, ℕ, suc, zero, ◌+◌, ◌-◌, ◌%◌, ◌<◌, ◌≤◌, Bool, true, false, cond, List, [], ◌∷◌, ◌++◌, append_assoc, Option, Some, None, refl, ap, ◌∙◌, arith}
use Rattle.std.specs.Prelude.{◌==◌, ◌&&◌, ◌||◌, not, nat_lt, map, if◌then◌else◌}
use Rattle.std.specs.List.{filter, range_with_len}
use Rattle.std.proofs.lemmas.List.{append-nil}
use Rattle.co_value.specs.declared.key.Key.{Key}
use Rattle.co_value.specs.Keys.{same_key}
use Rattle.co_frame.specs.FrameContent.{FrameContent}
use Rattle.co_frame.specs.Heartbeats.{heartbeat_in}
use Rattle.co_frame.specs.Nmt.{nmt_command_in}
use Rattle.co_frame.specs.declared.emergency.Emergency.{Emergency}
use Rattle.co_frame.specs.declared.nmt.NmtService.{NmtService}
use Rattle.co_frame.specs.declared.nmt.NmtService.TheVariants.{Start, Stop, EnterPreOperational, ResetNode, ResetCommunication}
use Rattle.co_profile.specs.Indices.{rpdo_communication, tpdo_communication, is_within}
use Rattle.co_profile.specs.Keys.{producer_key}
use Rattle.co_dict.specs.ConsumerHeartbeats.{consumer_key}
use Rattle.co_dict.specs.Rows.{Contents, number_at, written}
use Rattle.co_dict.specs.Stores.{Description}
use Rattle.co_sdo.specs.Completed.{contents_with, key_set}
use Rattle.co_sdo.specs.Downloads.{Download}
use Rattle.co_sdo.specs.Events.{ChannelEvent, exchange_of, frames_at, logs_after, set_of}
use Rattle.co_pdo.specs.declared.tpdo.Part.{Part}
use Rattle.co_pdo.specs.Schedules.{History as Schedule}
use Rattle.co_node_parts.specs.declared.heartbeat_producer.ProducerEvent.TheVariants as producer
use Rattle.co_node_parts.specs.declared.heartbeat_consumers.ConsumersEvent.TheVariants as consumers
use Rattle.co_node_parts.specs.declared.nmt_state.LossReaction.{LossReaction}
use Rattle.co_node_parts.specs.declared.nmt_state.LossReaction.TheVariants.{LeaveOperational, NoChange, EnterStopped}
use Rattle.co_node_parts.specs.declared.nmt_state.NodeState.{NodeState}
use Rattle.co_node_parts.specs.declared.nmt_state.NodeState.TheVariants.{PreOperational, Operational, Stopped}
use Rattle.co_node_parts.specs.declared.nmt_state.StateEvent.TheVariants as state
use Rattle.co_node_parts.specs.declared.nmt_state.Transition.{Transition}
use Rattle.co_node_parts.specs.declared.rpdo_slots.KeptFrame.{KeptFrame}
use Rattle.co_node_parts.specs.declared.rpdo_slots.SlotEvent.TheVariants as slot
use Rattle.co_node_parts.specs.Consumers.{is_monitored, is_over_after, monitored_after, monitored_by, silence}
use Rattle.co_node_parts.specs.ConsumerTables.{entry_log, entry_subs, lost_at}
use Rattle.co_node_parts.specs.NmtStates.{after_loss, commanded, enters, is_state, state_after}
use Rattle.co_node_parts.specs.Producers.{ProducerLog, is_heartbeat_due, ticks}
use Rattle.co_node_parts.specs.RpdoSlots.{SlotLog, all_kept, kept_of, taken_at}
use Rattle.co_node_model.specs.declared.address.Address.{Address}
use Rattle.co_node_model.specs.declared.address.Address.TheVariants.{Nmt, Sync, Channel, Rpdo, ErrorControl, Nobody}
use Rattle.co_node_model.specs.declared.device_error.DeviceError.{DeviceError}
use Rattle.co_node_model.specs.declared.turn.Turn.TheVariants as turn
use Rattle.co_node_model.specs.Addresses.{address_at}
use Rattle.co_node_model.specs.AppEvents.{event_refusal, with_app_event}
use Rattle.co_node_model.specs.Device.{contents_of, moments, prescribed, received_at, state_of, with_frame}
use Rattle.co_node_model.specs.Emergencies.{all_raised, emergencies_of, emergency_frames}
use Rattle.co_node_model.specs.Heartbeats.{consumers_call, consumers_log, is_heartbeat, life_frames, life_of, lost_by, producer_event, producer_log, with_lost}
use Rattle.co_node_model.specs.Inputs.{AppView, Applied, ChangedAt, Cleared, EventOn, Framed, Inputs, InputView, Raised, Ticked, Written}
use Rattle.co_node_model.specs.Moments.{Constants, Moment, channels, nothing_of}
use Rattle.co_node_model.specs.Nmt.{commanded_event, is_reset, service_for, state_log, transition_of, with_service}
use Rattle.co_node_model.specs.Rpdos.{all_data_emergencies, arrival_errors, empties_slot, immediate, is_short, rpdo_errors, rpdo_type, slot_event, slot_log, with_rpdo}
use Rattle.co_node_model.specs.Sdo.{channel_logs, timed_out_at, with_channel_frame, with_channel_ticks, with_drop, with_request, with_tick}
use Rattle.co_node_model.specs.Sync.{sync_errors, with_sync}
use Rattle.co_node_model.specs.Tpdos.{due_at, part_started, schedule_log, start_turn, tpdo_frame, turn_by_write, turn_of, with_turn}
use Rattle.co_profile.specs.TransmissionTypes.{is_synchronous}
use Rattle.co_node_laws.specs.ByKind.{Outcome, Heard, Ignored, Commanded, Synced, Requested, Received, Done, kind_of, kind_of_command, kind_of_frame, kind_of_event, outcome, device_after, device_of, frames_of, lost_now, no_frame, sent_by, sent_with, state_after_losses, ticked, with_download, by_heartbeat, by_tick}
use Rattle.co_node_laws.specs.Changes.{after_errors_and_data}
use Rattle.co_node_laws.specs.Devices.{Device, after_sending, emergency_at_end, with_part_started, with_write}
use Rattle.co_node_laws.specs.Distances.{aged, begins_entry, begins_heartbeat, emergencies_sent, heartbeat_ticks, is_multiple, moment_at, monitored, queued, silence_after, ticks_silent, waiting}
use Rattle.co_node_laws.specs.RpdoWaits.{waiting_frame}
use Rattle.co_node_laws.proofs.Below.{Below}
use Rattle.co_node_laws.proofs.Changed.{quiet_rpdo, quiet_sync}
use Rattle.co_node_laws.proofs.EmergencyDistances.{sent_is}
use Rattle.co_node_laws.proofs.HeartbeatDistances.{period_is, ticks_are}
use Rattle.co_node_laws.proofs.Kept.{by_reset}
use Rattle.co_node_laws.proofs.LossDistances.{monitored_is, silence_is}
use Rattle.co_node_laws.proofs.ValuesNow.{monitored_now, period_now}
use Rattle.co_node_model.specs.declared.mark.Mark.TheVariants as was
use Rattle.co_node_model.specs.Marks.{marked_command, marked_rpdo, marked_tick, marked_time_out, written_mark}
use Rattle.co_node_laws.proofs.MarkLemmas.{written_command, written_tick}

-- ---- what the definitions have of a device after its inputs

abbrev view : Constants → Inputs → Device
view k inputs = record {
  state = state_of k inputs;
  entries = contents_of k inputs;
  transfers = channel_logs (moments k inputs);
  queue = waiting k inputs;
  sendings = emergencies_sent k inputs;
  produced = heartbeat_ticks k inputs;
  silence = λ sub. ticks_silent k sub inputs;
  kept = λ n. waiting_frame k n inputs;
  schedule = schedule_log k (moments k inputs);
}

-- the same in another state
abbrev in_view : Constants → Inputs → NodeState → Device
in_view k inputs s = record (view k inputs) { state = s }

-- ---- what they have of one more input, by what was received, the heartbeats lost, and the states before and after it

-- with these errors of length and these frames that take effect
abbrev ended : Constants → Inputs → Transition → List DeviceError → List KeptFrame → Moment → Outcome
ended k inputs t errors taken w =
    let d = k.description in
    let h = moments k inputs in
    let c = after_errors_and_data d errors taken w.watched in
    let due = due_at d (turn_of w.mark t) c (schedule_log k h) in
    record {
      device = record {
        state = t.after;
        entries = c;
        transfers = with_drop (is_reset w.mark || enters Stopped t) (logs_after w.timed_out (with_channel_ticks (marked_tick w.mark) (logs_after w.exchange (channel_logs h))));
        queue = if is_reset w.mark then [] else queued (emergencies_of d.rows errors w.watched ++ all_data_emergencies d (all_raised d.rows errors w.watched) taken) (queued w.raised_by_loss (queued w.raised_by_app (waiting k inputs)));
        sendings = aged w.mark (emergencies_sent k inputs);
        produced = if begins_heartbeat w.mark then 0 else (if marked_tick w.mark then heartbeat_ticks k inputs + 1 else heartbeat_ticks k inputs);
        silence = λ sub. if begins_entry sub w.mark then None else silence_after w.mark (monitored k sub inputs) (ticks_silent k sub inputs);
        kept = λ n. kept_of n (slot_event d w.watched w.mark t ∷ slot_log k h);
        schedule = with_turn d (turn_of w.mark t) c due (schedule_log k h);
      };
      responses = frames_at w.exchange ++ frames_at w.timed_out;
      aborted = marked_time_out w.mark;
      last = life_frames d.node (life_of w.mark t.after (is_heartbeat_due (producer_event w.mark c) (producer_log k h))) ++ map (tpdo_frame d c) due;
    }

abbrev of_watched : Constants → Inputs → Transition → Moment → Outcome
of_watched k inputs t w =
    let d = k.description in
    ended k inputs t (arrival_errors d w)
    (taken_at 512 (slot_event d w.watched w.mark t) (slot_log k (moments k inputs)) ++ immediate d w.watched (marked_rpdo w.mark)) w

-- where no heartbeat is lost
abbrev of_received : Constants → Inputs → Transition → Moment → Outcome
of_received k inputs t r = of_watched k inputs t (with_lost k.description [] r)

-- by the heartbeats that are lost
abbrev of_lost : Constants → Inputs → Moment → List ℕ → Outcome
of_lost k inputs r lost =
    let w = with_lost k.description lost r in
    of_watched k inputs (transition_of w (moments k inputs)) w

-- after this was received
abbrev of_input : Constants → Inputs → Moment → Outcome
of_input k inputs r = of_lost k inputs r (lost_by (consumers_call r.mark r.received) (consumers_log k (moments k inputs)))

-- the state stays
abbrev stays : NodeState → Transition
stays s = record { before = s; after = s }

next : (k : Constants) (inputs : Inputs) (input : InputView) → view k (input ∷ inputs) ≡ device_after (of_input k inputs (received_at k (moments k inputs) input))
next k inputs input = ap (λ e. after_sending e (of_input k inputs (received_at k (moments k inputs) input)).device) (sent_is k inputs input)

gives : (k : Constants) (inputs : Inputs) (input : InputView) → prescribed k inputs input ≡ frames_of (of_input k inputs (received_at k (moments k inputs) input))
gives k inputs input =
    let m = moment_at k inputs input in
    let d = k.description in
    let o = of_input k inputs (received_at k (moments k inputs) input) in
    ap (λ e. frames_at m.exchange ++ frames_at m.timed_out ++ emergency_frames m.contents e ++ life_frames d.node m.life ++ map (tpdo_frame d m.contents) m.due) (sent_is k inputs input)
    ∙ append_assoc (frames_at m.exchange ++ frames_at m.timed_out ++ emergency_frames m.contents (emergency_at_end o.aborted o.device)) (life_frames d.node m.life) (map (tpdo_frame d m.contents) m.due)

-- an input that is no tick and no command loses no heartbeat, and the state stays
uncommanded : (k : Constants) (inputs : Inputs) (r : Moment) → marked_tick r.mark ≡ false → marked_command r.mark ≡ None → of_input k inputs r ≡ of_received k inputs (stays (state_of k inputs)) r
uncommanded k inputs r ticked command =
    let h = moments k inputs in
    ap (of_lost k inputs r) (by_reset r.mark r.received (consumers_log k h) (is_reset r.mark) refl ticked)
    ∙ ap (λ c. of_received k inputs (record { before = state_of k inputs; after = state_after (state.Quiet ∷ commanded_event c ∷ state_log h) }) r) command

-- ---- parts of an outcome, each by itself

abbrev with_queue : Outcome → List Emergency → Outcome
with_queue o queue = record o { device = record o.device { queue = queue } }

abbrev with_kept : Outcome → (ℕ → Option FrameContent) → Outcome
with_kept o kept = record o { device = record o.device { kept = kept } }

abbrev with_responses : Outcome → List FrameContent → Outcome
with_responses o responses = record o { responses = responses }

queued_both : (es fs queue : List Emergency) → queued (es ++ fs) queue ≡ queued fs (queued es queue)
queued_both [] fs queue = refl
queued_both (e ∷ es) fs queue = queued_both es fs _

-- ---- nothing that concerns the device

ignored : (k : Constants) (inputs : Inputs) (input : InputView) (s : NodeState) → of_received k inputs (stays s) (nothing_of input (contents_of k inputs)) ≡ no_frame (in_view k inputs s)
ignored k inputs input PreOperational = refl
ignored k inputs input Operational = refl
ignored k inputs input Stopped = refl

-- ---- an NMT command

by_service : (k : Constants) (inputs : Inputs) (input : InputView) (s : NodeState) (service : NmtService)
    → of_received k inputs (record { before = s; after = commanded service }) (with_service k.description.initial (Some service) (nothing_of input (contents_of k inputs))) ≡ outcome k (Commanded service) (in_view k inputs s)
by_service k inputs input PreOperational Start = refl
by_service k inputs input Operational Start = refl
by_service k inputs input Stopped Start = refl
by_service k inputs input PreOperational Stop = refl
by_service k inputs input Operational Stop = refl
by_service k inputs input Stopped Stop = refl
by_service k inputs input PreOperational EnterPreOperational = refl
by_service k inputs input Operational EnterPreOperational = refl
by_service k inputs input Stopped EnterPreOperational = refl
by_service k inputs input s ResetNode = refl
by_service k inputs input s ResetCommunication = refl

by_command : (k : Constants) (inputs : Inputs) (input : InputView) (service : Option NmtService)
    → of_input k inputs (with_service k.description.initial service (nothing_of input (contents_of k inputs))) ≡ outcome k (kind_of_command service) (view k inputs)
by_command k inputs input None = uncommanded k inputs (with_service k.description.initial None (nothing_of input (contents_of k inputs))) refl refl ∙ ignored k inputs input (state_of k inputs)
by_command k inputs input (Some service) =
    let r = with_service k.description.initial (Some service) (nothing_of input (contents_of k inputs)) in
    ap (of_lost k inputs r) (by_reset r.mark r.received (consumers_log k (moments k inputs)) (is_reset r.mark) refl refl)
    ∙ by_service k inputs input (state_of k inputs) service

-- ---- a SYNC

sync_in : (k : Constants) (inputs : Inputs) (input : InputView) (frame : FrameContent) (s : NodeState)
    → of_received k inputs (stays s) (with_sync s frame (nothing_of input (contents_of k inputs))) ≡ outcome k (Synced frame) (in_view k inputs s)
sync_in k inputs input frame Stopped = refl
sync_in k inputs input frame PreOperational =
    let c = contents_of k inputs in
    let d = k.description in
    let errors = sync_errors c (Some frame) in
    let w = with_lost d [] (with_sync PreOperational frame (nothing_of input c)) in
    ap (λ es. ended k inputs (stays PreOperational) es [] w) (append-nil errors)
    ∙ ap (λ es. with_queue (ended k inputs (stays PreOperational) errors [] w) (queued es (waiting k inputs))) (append-nil (emergencies_of d.rows errors c))
sync_in k inputs input frame Operational =
    let c = contents_of k inputs in
    let d = k.description in
    let errors = sync_errors c (Some frame) in
    let taken = all_kept 512 (slot_log k (moments k inputs)) in
    let w = with_lost d [] (with_sync Operational frame (nothing_of input c)) in
    ap (λ es. ended k inputs (stays Operational) es (taken ++ []) w) (append-nil errors)
    ∙ ap (λ ts. ended k inputs (stays Operational) errors ts w) (append-nil taken)
    ∙ ap (with_queue (ended k inputs (stays Operational) errors taken w))
    (queued_both (emergencies_of d.rows errors c) (all_data_emergencies d (all_raised d.rows errors c) taken) (waiting k inputs))

by_sync : (k : Constants) (inputs : Inputs) (input : InputView) (frame : FrameContent)
    → of_input k inputs (with_sync (state_of k inputs) frame (nothing_of input (contents_of k inputs))) ≡ outcome k (Synced frame) (view k inputs)
by_sync k inputs input frame =
    let quiet_one = quiet_sync frame (contents_of k inputs) input (state_of k inputs) in
    uncommanded k inputs (with_sync (state_of k inputs) frame (nothing_of input (contents_of k inputs))) quiet_one.ticked quiet_one.command
    ∙ sync_in k inputs input frame (state_of k inputs)

-- ---- a frame of an RPDO

rpdo_takes_none : (b : Bool) (n : ℕ) (frame : FrameContent) (log : SlotLog) → taken_at 512 (cond b (slot.Keep n frame) slot.Quiet) log ≡ []
rpdo_takes_none true n frame log = refl
rpdo_takes_none false n frame log = refl

rpdo_kept : (b : Bool) (n j : ℕ) (frame : FrameContent) (log : SlotLog) → kept_of j (cond b (slot.Keep n frame) slot.Quiet ∷ log) ≡ cond (b && j == n) (Some frame) (kept_of j log)
rpdo_kept true n j frame log = refl
rpdo_kept false n j frame log = refl

rpdo_in : (k : Constants) (inputs : Inputs) (input : InputView) (n : ℕ) (frame : FrameContent) (s : NodeState)
    → of_received k inputs (stays s) (with_rpdo n s frame (nothing_of input (contents_of k inputs))) ≡ outcome k (Received (record { number = n; frame = frame })) (in_view k inputs s)
rpdo_in k inputs input n frame Stopped = refl
rpdo_in k inputs input n frame PreOperational = refl
rpdo_in k inputs input n frame Operational =
    let c = contents_of k inputs in
    let d = k.description in
    let log = slot_log k (moments k inputs) in
    let rpdo : KeptFrame = record { number = n; frame = frame } in
    let errors = rpdo_errors d c (Some rpdo) in
    let taken = immediate d c (Some rpdo) in
    let waits = is_synchronous (rpdo_type c n) && not (is_short d c rpdo) in
    let w = with_lost d [] (with_rpdo n Operational frame (nothing_of input c)) in
    ap (λ ts. ended k inputs (stays Operational) errors (ts ++ taken) w) (rpdo_takes_none waits n frame log)
    ∙ ap (with_queue (ended k inputs (stays Operational) errors taken w))
    (queued_both (emergencies_of d.rows errors c) (all_data_emergencies d (all_raised d.rows errors c) taken) (waiting k inputs))
    ∙ (λ i. with_kept (with_queue (ended k inputs (stays Operational) errors taken w) (queued (all_data_emergencies d (all_raised d.rows errors c) taken) (queued (emergencies_of d.rows errors c) (waiting k inputs))))
    (λ j. rpdo_kept waits n j frame log i))

by_rpdo : (k : Constants) (inputs : Inputs) (input : InputView) (n : ℕ) (frame : FrameContent)
    → of_input k inputs (with_rpdo n (state_of k inputs) frame (nothing_of input (contents_of k inputs))) ≡ outcome k (Received (record { number = n; frame = frame })) (view k inputs)
by_rpdo k inputs input n frame =
    let quiet_one = quiet_rpdo n frame (contents_of k inputs) input (state_of k inputs) in
    uncommanded k inputs (with_rpdo n (state_of k inputs) frame (nothing_of input (contents_of k inputs))) quiet_one.ticked quiet_one.command
    ∙ rpdo_in k inputs input n frame (state_of k inputs)

-- ---- a write

-- this was written, with an exchange on an SDO channel or without one
abbrev write_of : InputView → Contents → Option ChannelEvent → Key → Contents → Moment
write_of input c exchange key entries = record (nothing_of input c) { mark = was.Written key; exchange = exchange; received = entries }

emptied_takes_none : (b : Bool) (n : ℕ) (log : SlotLog) → taken_at 512 (cond b (slot.Empty n) slot.Quiet) log ≡ []
emptied_takes_none true n log = refl
emptied_takes_none false n log = refl

emptied_kept : (b : Bool) (n j : ℕ) (log : SlotLog) → kept_of j (cond b (slot.Empty n) slot.Quiet ∷ log) ≡ cond (b && j == n) None (kept_of j log)
emptied_kept true n j log = refl
emptied_kept false n j log = refl

begins_none : (b : Bool) (n : ℕ) (log : ProducerLog) → is_heartbeat_due (cond b (producer.Begin n) producer.Quiet) log ≡ false
begins_none true n log = refl
begins_none false n log = refl

-- no TPDO is due where one starts
starts_due : (d : Description) (b : Bool) (n : ℕ) (part : Option Part) (c : Contents) (log : Schedule) → due_at d (cond b (start_turn n part) turn.Quiet) c log ≡ []
starts_due d true n None c log = refl
starts_due d true n (Some part) c log = refl
starts_due d false n part c log = refl

starts : (d : Description) (b : Bool) (n : ℕ) (part : Option Part) (c : Contents) (due : List ℕ) (log : Schedule)
    → with_turn d (cond b (start_turn n part) turn.Quiet) c due log ≡ cond b (with_part_started n part c log) log
starts d true n None c due log = refl
starts d true n (Some part) c due log = refl
starts d false n part c due log = refl

-- what is sent after it
none_last : (d : Description) (s : NodeState) (key : Key) (c : Contents) (due : List ℕ) (log : ProducerLog) → due ≡ []
    → life_frames d.node (life_of (was.Written key) s (is_heartbeat_due (producer_event (was.Written key) c) log)) ++ map (tpdo_frame d c) due ≡ []
none_last d s key c due log none =
    ap (λ b. life_frames d.node (life_of (was.Written key) s b) ++ map (tpdo_frame d c) due) (begins_none (same_key key producer_key) (number_at c producer_key) log)
    ∙ ap (map (tpdo_frame d c)) none

-- the device, where no exchange is looked at
abbrev wrote : Constants → Inputs → NodeState → Option ChannelEvent → Key → Contents → Outcome
wrote k inputs s exchange key entries = record {
  device = with_write key entries (record (in_view k inputs s) { transfers = logs_after exchange (channel_logs (moments k inputs)) });
  responses = frames_at exchange;
  aborted = false;
  last = [];
}

write_in : (k : Constants) (inputs : Inputs) (input : InputView) (exchange : Option ChannelEvent) (key : Key) (entries : Contents) (s : NodeState)
    → of_received k inputs (stays s) (write_of input (contents_of k inputs) exchange key entries) ≡ wrote k inputs s exchange key entries
write_in k inputs input exchange key entries PreOperational =
    let d = k.description in
    let log = slot_log k (moments k inputs) in
    let w = with_lost d [] (write_of input (contents_of k inputs) exchange key entries) in
    let n = key.index - rpdo_communication.0 in
    let o = ended k inputs (stays PreOperational) [] [] w in
    ap (λ ts. ended k inputs (stays PreOperational) [] (ts ++ []) w) (emptied_takes_none (empties_slot key) n log)
    ∙ (λ i. record {
      device = record o.device { kept = λ j. emptied_kept (empties_slot key) n j log i };
      responses = append-nil (frames_at exchange) i;
      aborted = false;
      last = none_last d PreOperational key entries [] (producer_log k (moments k inputs)) refl i;
    })
write_in k inputs input exchange key entries Stopped =
    let d = k.description in
    let log = slot_log k (moments k inputs) in
    let w = with_lost d [] (write_of input (contents_of k inputs) exchange key entries) in
    let n = key.index - rpdo_communication.0 in
    let o = ended k inputs (stays Stopped) [] [] w in
    ap (λ ts. ended k inputs (stays Stopped) [] (ts ++ []) w) (emptied_takes_none (empties_slot key) n log)
    ∙ (λ i. record {
      device = record o.device { kept = λ j. emptied_kept (empties_slot key) n j log i };
      responses = append-nil (frames_at exchange) i;
      aborted = false;
      last = none_last d Stopped key entries [] (producer_log k (moments k inputs)) refl i;
    })
write_in k inputs input exchange key entries Operational =
    let d = k.description in
    let log = slot_log k (moments k inputs) in
    let schedule = schedule_log k (moments k inputs) in
    let w = with_lost d [] (write_of input (contents_of k inputs) exchange key entries) in
    let n = key.index - rpdo_communication.0 in
    let is_tpdo = is_within tpdo_communication key.index in
    let tpdo = key.index - tpdo_communication.0 in
    let due = due_at d (turn_by_write key) entries schedule in
    let o = ended k inputs (stays Operational) [] [] w in
    ap (λ ts. ended k inputs (stays Operational) [] (ts ++ []) w) (emptied_takes_none (empties_slot key) n log)
    ∙ (λ i. record {
      device = record o.device {
        kept = λ j. emptied_kept (empties_slot key) n j log i;
        schedule = starts d is_tpdo tpdo (part_started key.sub) entries due schedule i;
      };
      responses = append-nil (frames_at exchange) i;
      aborted = false;
      last = none_last d Operational key entries due (producer_log k (moments k inputs)) (starts_due d is_tpdo tpdo (part_started key.sub) entries schedule) i;
    })

-- ---- a request to an SDO channel

-- an exchange that sets this download, or none
abbrev exchanged : InputView → Contents → Option ChannelEvent → Option Download → Moment
exchanged input c exchange set = record (nothing_of input c) { mark = written_mark (key_set set); exchange = exchange; received = contents_with c set }

none_set : (k : Constants) (inputs : Inputs) (input : InputView) (exchange : Option ChannelEvent) (s : NodeState)
    → of_received k inputs (stays s) (exchanged input (contents_of k inputs) exchange None)
    ≡ record { device = record (in_view k inputs s) { transfers = logs_after exchange (channel_logs (moments k inputs)) }; responses = frames_at exchange; aborted = false; last = [] }
none_set k inputs input exchange PreOperational = ap (with_responses (of_received k inputs (stays PreOperational) (exchanged input (contents_of k inputs) exchange None))) (append-nil (frames_at exchange))
none_set k inputs input exchange Operational = ap (with_responses (of_received k inputs (stays Operational) (exchanged input (contents_of k inputs) exchange None))) (append-nil (frames_at exchange))
none_set k inputs input exchange Stopped = ap (with_responses (of_received k inputs (stays Stopped) (exchanged input (contents_of k inputs) exchange None))) (append-nil (frames_at exchange))

exchange_in : (k : Constants) (inputs : Inputs) (input : InputView) (exchange : Option ChannelEvent) (set : Option Download) (s : NodeState)
    → of_received k inputs (stays s) (exchanged input (contents_of k inputs) exchange set)
    ≡ record { device = with_download set (record (in_view k inputs s) { transfers = logs_after exchange (channel_logs (moments k inputs)) }); responses = frames_at exchange; aborted = false; last = [] }
exchange_in k inputs input exchange None s = none_set k inputs input exchange s
exchange_in k inputs input exchange (Some w) s = write_in k inputs input exchange w.key (written (contents_of k inputs) w.key w.bytes) s

-- a request as it is received in a state
abbrev request_in : Constants → Inputs → InputView → FrameContent → NodeState → Moment
request_in k inputs input frame s =
    let m = nothing_of input (contents_of k inputs) in
    if is_state Stopped s then m else with_request k (channel_logs (moments k inputs)) frame m

answered_in : (k : Constants) (inputs : Inputs) (input : InputView) (frame : FrameContent) (s : NodeState)
    → of_received k inputs (stays s) (request_in k inputs input frame s) ≡ outcome k (Requested frame) (in_view k inputs s)
answered_in k inputs input frame Stopped = refl
answered_in k inputs input frame PreOperational =
    let logs = channel_logs (moments k inputs) in
    let c = contents_of k inputs in
    exchange_in k inputs input (exchange_of (channels k) k.description c logs frame) (set_of (channels k) k.description c logs frame) PreOperational
answered_in k inputs input frame Operational =
    let logs = channel_logs (moments k inputs) in
    let c = contents_of k inputs in
    exchange_in k inputs input (exchange_of (channels k) k.description c logs frame) (set_of (channels k) k.description c logs frame) Operational

no_tick : (k : Constants) (inputs : Inputs) (input : InputView) (frame : FrameContent) (s : NodeState) → (marked_tick (request_in k inputs input frame s).mark) ≡ false
no_tick k inputs input frame Stopped = refl
no_tick k inputs input frame PreOperational = written_tick _
no_tick k inputs input frame Operational = written_tick _

no_command : (k : Constants) (inputs : Inputs) (input : InputView) (frame : FrameContent) (s : NodeState) → (marked_command (request_in k inputs input frame s).mark) ≡ None
no_command k inputs input frame Stopped = refl
no_command k inputs input frame PreOperational = written_command _
no_command k inputs input frame Operational = written_command _

by_request_is : (k : Constants) (inputs : Inputs) (input : InputView) (frame : FrameContent)
    → of_input k inputs (with_channel_frame k (moments k inputs) frame (nothing_of input (contents_of k inputs))) ≡ outcome k (Requested frame) (view k inputs)
by_request_is k inputs input frame =
    let s = state_of k inputs in
    uncommanded k inputs (request_in k inputs input frame s) (no_tick k inputs input frame s) (no_command k inputs input frame s)
    ∙ answered_in k inputs input frame s

-- ---- an application event

event_in : (k : Constants) (inputs : Inputs) (input : InputView) (event : AppView) (s : NodeState)
    → of_received k inputs (stays s) (with_app_event k.description event None (nothing_of input (contents_of k inputs))) ≡ outcome k (Done event) (in_view k inputs s)
event_in k inputs input (Written key bytes) s = write_in k inputs input None key (written (contents_of k inputs) key bytes) s
event_in k inputs input (EventOn n) PreOperational = refl
event_in k inputs input (EventOn n) Operational = refl
event_in k inputs input (EventOn n) Stopped = refl
event_in k inputs input (ChangedAt key) PreOperational = refl
event_in k inputs input (ChangedAt key) Operational = refl
event_in k inputs input (ChangedAt key) Stopped = refl
event_in k inputs input (Raised code bits manufacturer) PreOperational = refl
event_in k inputs input (Raised code bits manufacturer) Operational = refl
event_in k inputs input (Raised code bits manufacturer) Stopped = refl
event_in k inputs input (Cleared bits) PreOperational = refl
event_in k inputs input (Cleared bits) Operational = refl
event_in k inputs input (Cleared bits) Stopped = refl

event_ticked : (d : Description) (event : AppView) (input : InputView) (c : Contents) → (marked_tick (with_app_event d event None (nothing_of input c)).mark) ≡ false
event_ticked d (Written key bytes) input c = refl
event_ticked d (EventOn n) input c = refl
event_ticked d (ChangedAt key) input c = refl
event_ticked d (Raised code bits manufacturer) input c = refl
event_ticked d (Cleared bits) input c = refl

event_command : (d : Description) (event : AppView) (input : InputView) (c : Contents) → (marked_command (with_app_event d event None (nothing_of input c)).mark) ≡ None
event_command d (Written key bytes) input c = refl
event_command d (EventOn n) input c = refl
event_command d (ChangedAt key) input c = refl
event_command d (Raised code bits manufacturer) input c = refl
event_command d (Cleared bits) input c = refl

by_event : (k : Constants) (inputs : Inputs) (input : InputView) (event : AppView) (refusal : Option ℕ)
    → of_input k inputs (with_app_event k.description event refusal (nothing_of input (contents_of k inputs))) ≡ outcome k (kind_of_event event refusal) (view k inputs)
by_event k inputs input event (Some code) =
    uncommanded k inputs (with_app_event k.description event (Some code) (nothing_of input (contents_of k inputs))) refl refl
    ∙ ignored k inputs input (state_of k inputs)
by_event k inputs input event None =
    let c = contents_of k inputs in
    uncommanded k inputs (with_app_event k.description event None (nothing_of input c)) (event_ticked k.description event input c) (event_command k.description event input c)
    ∙ event_in k inputs input event (state_of k inputs)

-- ---- a tick

filter_same : (p q : ℕ → Bool) (a n : ℕ) → ((m : ℕ) → a ≤ m → m < a + n → p m ≡ q m) → filter p (range_with_len a n) ≡ filter q (range_with_len a n)
filter_same p q a zero same = refl
filter_same p q a (suc n) same =
    ap (λ b. cond b (a ∷ filter p (range_with_len (a + 1) n)) (filter p (range_with_len (a + 1) n))) (same a (omega arith) (omega arith))
    ∙ ap (λ xs. cond (q a) (a ∷ xs) xs) (filter_same p q (a + 1) n (λ m low high. same m (omega (arith, low)) (omega (arith, high))))

subs_same : (p q : ℕ → Bool) → ((sub : ℕ) → 1 ≤ sub → sub ≤ 127 → p sub ≡ q sub) → filter p entry_subs ≡ filter q entry_subs
unfolding entry_subs
subs_same p q same = filter_same p q 1 127 (λ sub low high. same sub low (omega (arith, high)))

-- after a tick in which a transfer is aborted, or none
abbrev tick_of : Inputs → Constants → Option ChannelEvent → Moment
tick_of inputs k timed_out = with_tick timed_out (nothing_of Ticked (contents_of k inputs))

tick_in : (k : Constants) (inputs : Inputs) (timed_out : Option ChannelEvent) (lost : List ℕ) (s after : NodeState) → enters Operational (record { before = s; after = after }) ≡ false
    → of_watched k inputs (record { before = s; after = after }) (with_lost k.description lost (tick_of inputs k timed_out))
    ≡ ticked k timed_out lost after (is_heartbeat_due producer.Tick (producer_log k (moments k inputs))) (in_view k inputs s)
tick_in k inputs timed_out lost PreOperational PreOperational none = refl
tick_in k inputs timed_out lost PreOperational Operational none = absurd (cc)
tick_in k inputs timed_out lost PreOperational Stopped none = refl
tick_in k inputs timed_out lost Operational PreOperational none = refl
tick_in k inputs timed_out lost Operational Operational none = refl
tick_in k inputs timed_out lost Operational Stopped none = refl
tick_in k inputs timed_out lost Stopped PreOperational none = refl
tick_in k inputs timed_out lost Stopped Operational none = absurd (cc)
tick_in k inputs timed_out lost Stopped Stopped none = refl

-- a lost heartbeat never leads to operational
loss_leads : (reaction : LossReaction) (s : NodeState) → enters Operational (record { before = s; after = after_loss reaction s }) ≡ false
loss_leads LeaveOperational PreOperational = refl
loss_leads LeaveOperational Operational = refl
loss_leads LeaveOperational Stopped = refl
loss_leads NoChange PreOperational = refl
loss_leads NoChange Operational = refl
loss_leads NoChange Stopped = refl
loss_leads EnterStopped PreOperational = refl
loss_leads EnterStopped Operational = refl
loss_leads EnterStopped Stopped = refl

none_leads : (s : NodeState) → enters Operational (stays s) ≡ false
none_leads PreOperational = refl
none_leads Operational = refl
none_leads Stopped = refl

tick_lost : (k : Constants) (inputs : Inputs) (timed_out : Option ChannelEvent) (lost : List ℕ)
    → of_lost k inputs (tick_of inputs k timed_out) lost
    ≡ ticked k timed_out lost (state_after_losses lost (view k inputs)) (is_heartbeat_due producer.Tick (producer_log k (moments k inputs))) (view k inputs)
tick_lost k inputs timed_out [] = tick_in k inputs timed_out [] (state_of k inputs) (state_of k inputs) (none_leads (state_of k inputs))
tick_lost k inputs timed_out (sub ∷ lost) =
    tick_in k inputs timed_out (sub ∷ lost) (state_of k inputs) (state_after_losses (sub ∷ lost) (view k inputs)) (loss_leads _ (state_of k inputs))

module _ (below : Below) where
  lost_is : (k : Constants) (inputs : Inputs) → lost_at consumers.Tick (consumers_log k (moments k inputs)) ≡ lost_now (view k inputs)
  lost_is k inputs =
      let log = consumers_log k (moments k inputs) in
      let c = contents_of k inputs in
      subs_same (λ sub. is_over_after (silence (entry_log sub log)) (monitored_after (entry_log sub log))) (λ sub. is_over_after (ticks_silent k sub inputs) (monitored_by (number_at c (consumer_key sub))))
      (λ sub low high.
      ap (λ o. is_over_after o (monitored_after (entry_log sub log))) (silence_is k sub inputs low high)
      ∙ ap (λ o. is_over_after (ticks_silent k sub inputs) o) (monitored_is k sub inputs low high ∙ monitored_now below k sub inputs))

  heartbeat_is : (k : Constants) (inputs : Inputs) → is_heartbeat_due producer.Tick (producer_log k (moments k inputs)) ≡ is_multiple (heartbeat_ticks k inputs) (number_at (contents_of k inputs) producer_key)
  heartbeat_is k inputs =
      let log = producer_log k (moments k inputs) in
      ap (λ p. nat_lt 0 p && (ticks log + 1) % p == 0) (period_is k inputs ∙ period_now below k inputs)
      ∙ ap (λ n. is_multiple n (number_at (contents_of k inputs) producer_key)) (ticks_are k inputs)

  tick_is : (k : Constants) (inputs : Inputs) → of_input k inputs (tick_of inputs k (timed_out_at k (moments k inputs))) ≡ by_tick k (view k inputs)
  tick_is k inputs =
      let v = view k inputs in
      let timed_out = timed_out_at k (moments k inputs) in
      ap (of_lost k inputs (tick_of inputs k timed_out)) (lost_is k inputs)
      ∙ tick_lost k inputs timed_out (lost_now v)
      ∙ ap (λ due. ticked k timed_out (lost_now v) (state_after_losses (lost_now v) v) due v) (heartbeat_is k inputs)

  -- ---- a heartbeat of another node

  heard_in : (k : Constants) (inputs : Inputs) (input : InputView) (c : ℕ) (s : NodeState)
      → of_received k inputs (stays s) (record (nothing_of input (contents_of k inputs)) { mark = was.Heard c })
      ≡ no_frame (record (in_view k inputs s) { silence = λ sub. if is_monitored c (monitored k sub inputs) then Some 0 else ticks_silent k sub inputs })
  heard_in k inputs input c PreOperational = refl
  heard_in k inputs input c Operational = refl
  heard_in k inputs input c Stopped = refl

  heard_is : (k : Constants) (inputs : Inputs) (input : InputView) (c : ℕ)
      → of_input k inputs (record (nothing_of input (contents_of k inputs)) { mark = was.Heard c }) ≡ by_heartbeat c (view k inputs)
  heard_is k inputs input c =
      uncommanded k inputs (record (nothing_of input (contents_of k inputs)) { mark = was.Heard c }) refl refl
      ∙ heard_in k inputs input c (state_of k inputs)
      ∙ (λ i. no_frame (record (view k inputs) { silence = λ sub. if is_monitored c (monitored_now below k sub inputs i) then Some 0 else ticks_silent k sub inputs }))

  control_is : (k : Constants) (inputs : Inputs) (input : InputView) (c : ℕ) (b : Bool)
      → of_input k inputs (if b then record (nothing_of input (contents_of k inputs)) { mark = was.Heard c } else nothing_of input (contents_of k inputs))
      ≡ outcome k (if b then Heard c else Ignored) (view k inputs)
  control_is k inputs input c true = heard_is k inputs input c
  control_is k inputs input c false = uncommanded k inputs (nothing_of input (contents_of k inputs)) refl refl ∙ ignored k inputs input (state_of k inputs)

  -- ---- all kinds

  by_address : (k : Constants) (inputs : Inputs) (frame : FrameContent) (address : Address)
      → of_input k inputs (with_frame k (moments k inputs) address frame (nothing_of (Framed frame) (contents_of k inputs))) ≡ outcome k (kind_of_frame k address frame) (view k inputs)
  by_address k inputs frame Nmt = by_command k inputs (Framed frame) (service_for k.description.node (nmt_command_in frame))
  by_address k inputs frame Sync = by_sync k inputs (Framed frame) frame
  by_address k inputs frame (Channel j) = by_request_is k inputs (Framed frame) frame
  by_address k inputs frame (Rpdo n) = by_rpdo k inputs (Framed frame) n frame
  by_address k inputs frame (ErrorControl c) = control_is k inputs (Framed frame) c (is_heartbeat (heartbeat_in frame.bytes))
  by_address k inputs frame Nobody = uncommanded k inputs (nothing_of (Framed frame) (contents_of k inputs)) refl refl ∙ ignored k inputs (Framed frame) (state_of k inputs)

  by_kind : (k : Constants) (inputs : Inputs) (input : InputView) → of_input k inputs (received_at k (moments k inputs) input) ≡ outcome k (kind_of k (view k inputs) input) (view k inputs)
  by_kind k inputs (Framed frame) = by_address k inputs frame (address_at k (moments k inputs) frame.id)
  by_kind k inputs Ticked = tick_is k inputs
  by_kind k inputs (Applied event) = by_event k inputs (Applied event) event (event_refusal k.description (contents_of k inputs) event)

  device_is : (k : Constants) (inputs : Inputs) → view k inputs ≡ device_of k inputs
  device_is k [] = refl
  device_is k (input ∷ inputs) =
      next k inputs input
      ∙ ap device_after (by_kind k inputs input)
      ∙ ap (λ d. device_after (outcome k (kind_of k d input) d)) (device_is k inputs)

  pub frames_are : (k : Constants) (inputs : Inputs) (input : InputView) → prescribed k inputs input ≡ sent_by k inputs input
  frames_are k inputs input = gives k inputs input ∙ ap frames_of (by_kind k inputs input) ∙ ap (λ d. sent_with k d input) (device_is k inputs)

  pub state_is : (k : Constants) (inputs : Inputs) → state_of k inputs ≡ (device_of k inputs).state
  state_is k inputs = ap (λ d. d.state) (device_is k inputs)

  pub entries_are : (k : Constants) (inputs : Inputs) → contents_of k inputs ≡ (device_of k inputs).entries
  entries_are k inputs = ap (λ d. d.entries) (device_is k inputs)

  pub transfers_are : (k : Constants) (inputs : Inputs) → channel_logs (moments k inputs) ≡ (device_of k inputs).transfers
  transfers_are k inputs = ap (λ d. d.transfers) (device_is k inputs)
