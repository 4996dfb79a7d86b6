-- A request of eight bytes that comes to the default channel of a node that isn't stopped: what it sends and how it stands then.
use Rattle.std.proofs.Common.{◌≡◌, ℕ, ◌+◌, Bool, true, false, cond, List, [], ◌∷◌, ◌++◌, length, Option, Some, None, refl, ap, ◌∙◌, append-nil}
use Rattle.std.specs.Prelude.{◌||◌, ◌&&◌, not}
use Rattle.co_value.specs.declared.key.Key.{Key}
use Rattle.co_profile.specs.Indices.{tpdo_communication, is_within}
use Rattle.co_frame.specs.FrameContent.{FrameContent}
use Rattle.co_frame.specs.declared.emergency.Emergency.{Emergency}
use Rattle.co_dict.specs.Rows.{Contents, number_at}
use Rattle.co_dict.specs.Stores.{Description}
use Rattle.co_dict.specs.CobIds.{is_valid}
use Rattle.co_sdo.specs.Completed.{contents_with, key_set, set_by}
use Rattle.co_sdo.specs.Log.{Log, Exchanged, frames_on}
use Rattle.co_sdo.specs.Replies.{reply_to}
use Rattle.co_sdo.specs.Events.{ChannelEvent, exchange_of, exchange_on, frames_at, logs_after, set_of, set_at}
use Rattle.co_pdo.specs.Schedules.{History as Schedule}
use Rattle.co_pdo.specs.declared.tpdo.Part.{Part}
use Rattle.co_node_parts.specs.declared.nmt_state.NodeState.{NodeState}
use Rattle.co_node_parts.specs.declared.nmt_state.NodeState.TheVariants.{PreOperational, Operational, Stopped}
use Rattle.co_node_parts.specs.declared.nmt_state.StateEvent.TheVariants as state
use Rattle.co_frame.specs.declared.nmt.NmtService.{NmtService}
use Rattle.co_node_parts.specs.NmtStates.{enters, is_state, state_after}
use Rattle.co_node_parts.specs.EmergencyQueues.{EmergencyLog, emergency_due}
use Rattle.co_node_model.specs.declared.address.Address.TheVariants.{Channel}
use Rattle.co_node_model.specs.declared.mark.Mark.{Mark}
use Rattle.co_node_model.specs.declared.turn.Turn.TheVariants as turn
use Rattle.co_node_model.specs.Sync.{is_sync_id}
use Rattle.co_node_model.specs.Inputs.{Inputs, Framed}
use Rattle.co_node_model.specs.Keys.{is_set}
use Rattle.co_profile.specs.Keys.{emergency_key, producer_key}
use Rattle.co_node_model.specs.Tpdos.{part_started, start_turn, turn_by_write, turn_of, turn_with, schedule_log, due_at}
use Rattle.co_node_model.specs.Moments.{Constants, Moment, History, channels, contents_at, nothing_of}
use Rattle.co_node_model.specs.Nmt.{commanded_event, is_reset, is_reset_by, state_event, state_at, state_log, transition_of}
use Rattle.co_node_model.specs.Heartbeats.{consumers_log, producer_log, loss_event}
use Rattle.co_node_model.specs.Sdo.{channel_logs, drops, with_drop, with_channel_ticks, with_request}
use Rattle.co_node_model.specs.Emergencies.{emergency_log, unsent_log, emergency_frames}
use Rattle.co_node_model.specs.Addresses.{address_at}
use Rattle.co_node_model.specs.Device.{received_at, moment, contents_of, frames, moments, prescribed, state_of}
use Rattle.co_node_model.specs.Marks.{marked_command, marked_key, marked_rpdo, marked_sync, marked_tick, written_mark}
use Rattle.co_node_laws.proofs.Counts.{no_heartbeat_by, no_life}
use Rattle.co_node_laws.proofs.MarkLemmas.{written_command, written_rpdo, written_sync, written_tick}
use Rattle.co_node_laws.proofs.Kept.{by_reset, kept}
use Rattle.co_node_laws.proofs.Channel.{default_channel, receives, takes}

abbrev pub request_to : Constants → List ℕ → FrameContent
request_to k bytes = record { id = 0x600 + k.description.node; bytes = bytes }

abbrev logs_at : History → Log
logs_at history = channel_logs history 0

-- the exchange that it is
abbrev exchanged : Constants → History → List ℕ → ChannelEvent
exchanged k history bytes = exchange_on (default_channel k) k.description (contents_at k history) (logs_at history) bytes

exchange_is : (k : Constants) (history : History) (bytes : List ℕ) → length bytes ≡ 8
    → exchange_of (channels k) k.description (contents_at k history) (channel_logs history) (request_to k bytes) ≡ Some (exchanged k history bytes)
exchange_is k history bytes eight = rw (receives k, eight) refl

set_is : (k : Constants) (history : History) (bytes : List ℕ) → length bytes ≡ 8
    → set_of (channels k) k.description (contents_at k history) (channel_logs history) (request_to k bytes) ≡ set_by k.description (contents_at k history) (logs_at history) bytes
set_is k history bytes eight =
    ap (λ (e : Option ChannelEvent). set_at e k.description (contents_at k history) (channel_logs history) (request_to k bytes)) (exchange_is k history bytes eight)

-- as it is received
received_is : (k : Constants) (history : History) (bytes : List ℕ) → address_at k history (0x600 + k.description.node) ≡ Channel 0 → is_state Stopped (state_at history) ≡ false
    → received_at k history (Framed (request_to k bytes)) ≡ with_request k (channel_logs history) (request_to k bytes) (nothing_of (Framed (request_to k bytes)) (contents_at k history))
received_is k history bytes address running = rw (address, running) refl

-- what a moment is whose mark is that of a request
pub record IsExchange (k : Constants) (history : History) (bytes : List ℕ) (m : Moment) : Type 0 where
  pub mark : m.mark ≡ written_mark (key_set (set_by k.description (contents_at k history) (logs_at history) bytes))
  pub exchange : m.exchange ≡ Some (exchanged k history bytes)
  pub timed_out : m.timed_out ≡ None
  pub received : m.received ≡ contents_with (contents_at k history) (set_by k.description (contents_at k history) (logs_at history) bytes)

exchange_at_moment : (k : Constants) (history : History) (bytes : List ℕ) → length bytes ≡ 8 → address_at k history (0x600 + k.description.node) ≡ Channel 0 → is_state Stopped (state_at history) ≡ false
    → IsExchange k history bytes (moment k history (Framed (request_to k bytes)))
exchange_at_moment k history bytes eight address running =
    let is = received_is k history bytes address running in
    let set = set_is k history bytes eight in
    record {
      mark = ap (λ (m : Moment). m.mark) is ∙ ap (λ s. written_mark (key_set s)) set;
      exchange = ap (λ (m : Moment). m.exchange) is ∙ exchange_is k history bytes eight;
      timed_out = ap (λ (m : Moment). m.timed_out) is;
      received = ap (λ (m : Moment). m.received) is ∙ ap (contents_with (contents_at k history)) set;
    }

-- ---- no TPDO, no heartbeat

started : (d : Description) (c : Contents) (log : Schedule) (n : ℕ) (part : Option Part) → due_at d (start_turn n part) c log ≡ []
started d c log n None = refl
started d c log n (Some part) = refl

by_write : (d : Description) (c : Contents) (log : Schedule) (key : Key) (within : Bool) → is_within tpdo_communication key.index ≡ within → due_at d (turn_by_write key) c log ≡ []
by_write d c log key true is = rw is (started d c log _ (part_started key.sub))
by_write d c log key false is = rw is refl

by_set : (d : Description) (c : Contents) (log : Schedule) (set : Option Key) → due_at d (turn_with (marked_key (written_mark set)) (written_mark set)) c log ≡ []
by_set d c log None = refl
by_set d c log (Some key) = by_write d c log key (is_within tpdo_communication key.index) refl

no_turn : (d : Description) (c : Contents) (log : Schedule) (set : Option Key) (outside entering : Bool)
    → due_at d (cond outside turn.Quiet (cond entering turn.StartAll (turn_with (marked_key (written_mark set)) (written_mark set)))) c log ≡ []
no_turn d c log set true entering = refl
no_turn d c log set false true = refl
no_turn d c log set false false = by_set d c log set

-- ---- together

pub record Answers (k : Constants) (inputs : Inputs) (bytes : List ℕ) : Type 0 where
  pub emergency : Option Emergency
  pub frames : prescribed k inputs (Framed (request_to k bytes))
      ≡ frames_on (0x580 + k.description.node) (reply_to k.description (contents_of k inputs) (channel_logs (moments k inputs) 0) bytes)
      ++ emergency_frames (contents_of k (Framed (request_to k bytes) ∷ inputs)) emergency
  pub valid : is_valid (number_at (contents_of k (Framed (request_to k bytes) ∷ inputs)) emergency_key) ≡ false → emergency ≡ None
  pub contents : contents_of k (Framed (request_to k bytes) ∷ inputs)
      ≡ contents_with (contents_of k inputs) (set_by k.description (contents_of k inputs) (channel_logs (moments k inputs) 0) bytes)
  pub log : channel_logs (moments k (Framed (request_to k bytes) ∷ inputs)) 0
      ≡ Exchanged (record { request = bytes; contents = contents_of k inputs; answers = reply_to k.description (contents_of k inputs) (channel_logs (moments k inputs) 0) bytes }) ∷ channel_logs (moments k inputs) 0
  pub state : state_of k (Framed (request_to k bytes) ∷ inputs) ≡ state_of k inputs

frames_are : (k : Constants) (m : Moment) (e : ChannelEvent) → m.exchange ≡ Some e → m.timed_out ≡ None → m.life ≡ None → m.due ≡ []
    → frames k m ≡ frames_at (Some e) ++ emergency_frames m.contents m.emergency
frames_are k m e exchange timed_out life due =
    rw (exchange, timed_out, life, due)
    (append-nil _ ∙ append-nil _ ∙ ap (λ (xs : List FrameContent). xs ++ emergency_frames m.contents m.emergency) (append-nil (frames_at (Some e))))

unsent : (a c : Bool) (b : Bool) (log : EmergencyLog) → b ≡ false → emergency_due (a && b && c) log ≡ None
unsent true c b log off = rw off refl
unsent false c b log off = refl

never_entered : (a s : Bool) → s ≡ false → (a && s) ≡ false
never_entered true s off = off
never_entered false s off = refl

-- two states compared the other way round
flip : (s : NodeState) → is_state Stopped s ≡ false → is_state s Stopped ≡ false
flip PreOperational off = refl
flip Operational off = refl
flip Stopped off = off

-- the log of the channel: no tick, and nothing is dropped
log_is : (k : Constants) (history : History) (bytes : List ℕ) (m : Moment) → m.exchange ≡ Some (exchanged k history bytes) → m.timed_out ≡ None
    → m.mark ≡ written_mark (key_set (set_by k.description (contents_at k history) (logs_at history) bytes))
    → state_at (m ∷ history) ≡ state_at history → is_state Stopped (state_at history) ≡ false
    → channel_logs (m ∷ history) 0 ≡ (exchanged k history bytes).event ∷ channel_logs history 0
log_is k history bytes m exchange timed_out mark next running =
    let stays : is_state Stopped (state_at (m ∷ history)) ≡ false = ap (is_state Stopped) next ∙ running in
    let drops_none : drops m history ≡ false =
    ap (λ (a : Mark). is_reset a || enters Stopped (transition_of m history)) mark
    ∙ ap (λ (c : Option NmtService). is_reset_by c || enters Stopped (transition_of m history)) (written_command _)
    ∙ never_entered (not (is_state (state_at history) Stopped)) (is_state (state_at (m ∷ history)) Stopped) (flip _ stays) in
    ap (λ b. with_drop b (logs_after m.timed_out (with_channel_ticks (marked_tick m.mark) (logs_after m.exchange (channel_logs history)))) 0) drops_none
    ∙ ap (λ t. logs_after t (with_channel_ticks (marked_tick m.mark) (logs_after m.exchange (channel_logs history))) 0) timed_out
    ∙ ap (λ (b : Bool). with_channel_ticks b (logs_after m.exchange (channel_logs history)) 0) (ap marked_tick mark ∙ written_tick _)
    ∙ ap (λ e. logs_after e (channel_logs history) 0) exchange

pub answers : (k : Constants) (inputs : Inputs) (bytes : List ℕ) → length bytes ≡ 8 → is_sync_id (contents_of k inputs) (0x600 + k.description.node) ≡ false → is_state Stopped (state_of k inputs) ≡ false → Answers k inputs bytes
answers k inputs bytes eight sync running =
    let history : History = moments k inputs in
    let m : Moment = moment k history (Framed (request_to k bytes)) in
    let x = exchange_at_moment k history bytes eight (takes k history sync) running in
    let set : Option Key = key_set (set_by k.description (contents_at k history) (logs_at history) bytes) in
    let uncommanded : marked_command m.mark ≡ None = ap marked_command x.mark ∙ written_command set in
    let off : is_reset m.mark ≡ false = ap is_reset_by uncommanded in
    let unticked : marked_tick m.mark ≡ false = ap marked_tick x.mark ∙ written_tick set in
    let lost : m.lost ≡ [] = by_reset m.mark m.received (consumers_log k history) false off unticked in
    let loss : m.loss ≡ state.Quiet = ap (λ subs. loss_event subs m.received) lost in
    let next : state_at (m ∷ history) ≡ state_at history =
    ap (λ event. state_after (event ∷ state_event m.mark ∷ state_log history)) loss ∙ ap (λ (c : Option NmtService). state_after (commanded_event c ∷ state_log history)) uncommanded in
    let same : m.contents ≡ m.received =
    kept k history (Framed (request_to k bytes)) (record { ticked = unticked; sync = ap marked_sync x.mark ∙ written_sync set; rpdo = ap marked_rpdo x.mark ∙ written_rpdo set }) in
    let life : m.life ≡ None =
    no_life m.mark (state_at (m ∷ history)) _ off (no_heartbeat_by (is_reset m.mark || is_set (marked_key m.mark) producer_key) m.mark m.contents (producer_log k history) refl unticked) in
    let due : m.due ≡ [] =
    ap (λ (a : Mark). due_at k.description (turn_of a (transition_of m history)) m.contents (schedule_log k history)) x.mark
    ∙ no_turn k.description m.contents (schedule_log k history) set _ _ in
    let stays : is_state Stopped (state_at (m ∷ history)) ≡ false = ap (is_state Stopped) next ∙ running in
    record {
      emergency = m.emergency;
      frames = frames_are k m (exchanged k history bytes) x.exchange x.timed_out life due;
      valid = λ none. unsent _ _ (is_valid (number_at m.contents emergency_key)) (unsent_log m (emergency_log history)) none;
      contents = same ∙ x.received;
      log = log_is k history bytes m x.exchange x.timed_out x.mark next running;
      state = next;
    }
