-- After all inputs the entries of a device are those of a dictionary, as each store ensures, where the device began so, and frames and the
-- application's writes have bytes.
use Rattle.std.proofs.Common.{◌≡◌, ℕ, ◌-◌, Bool, true, false, List, [], ◌∷◌, ◌++◌, length, Option, Some, None, refl, subst}
use Rattle.std.specs.Prelude.{if◌then◌else◌, ◌==◌, ◌&&◌, ◌||◌, not, is_some, option_map, IfSome}
use Rattle.std.specs.List.{AllByRecursion, cons_option, filter_map, range_with_len}
use Rattle.co_value.specs.declared.key.Key.{Key}
use Rattle.co_value.specs.Numbers.{AreBytes}
use Rattle.co_frame.specs.FrameContent.{FrameContent}
use Rattle.co_frame.specs.Heartbeats.{heartbeat_in}
use Rattle.co_frame.specs.Nmt.{nmt_command_in}
use Rattle.co_frame.specs.declared.nmt.NmtService.{NmtService}
use Rattle.co_profile.specs.Keys.{error_register_key}
use Rattle.co_profile.specs.TransmissionTypes.{is_event_driven, is_synchronous}
use Rattle.co_dict.specs.declared.side.Side.TheVariants.{Rpdo}
use Rattle.co_dict.specs.Rows.{Contents, Rows}
use Rattle.co_dict.specs.Stores.{Description, IsDictionary, IsFilled}
use Rattle.co_sdo.specs.Channels.{ChannelSettings}
use Rattle.co_sdo.specs.Completed.{key_set}
use Rattle.co_sdo.specs.Events.{ChannelEvent, exchange_at, exchange_of, exchange_on, expired_in, logs_after, receiver, set_at, set_of, time_out_on, with_each}
use Rattle.co_sdo.specs.Log.{Log, Ticked as TickOf}
use Rattle.co_pdo.specs.Mappings.{mapping_of}
use Rattle.co_node_parts.specs.declared.nmt_state.NodeState.TheVariants.{Operational, Stopped}
use Rattle.co_node_parts.specs.declared.nmt_state.Transition.{Transition}
use Rattle.co_node_parts.specs.declared.rpdo_slots.KeptFrame.{KeptFrame}
use Rattle.co_node_parts.specs.declared.rpdo_slots.SlotEvent.{SlotEvent}
use Rattle.co_node_parts.specs.declared.rpdo_slots.SlotEvent.TheVariants.{Empty, EmptyAll, Keep, Quiet as SlotQuiet, Sync as SlotSync}
use Rattle.co_node_parts.specs.NmtStates.{is_state, leaves}
use Rattle.co_node_parts.specs.RpdoSlots.{SlotLog, kept_of, numbered, taken_at}
use Rattle.co_node_model.specs.declared.address.Address.{Address}
use Rattle.co_node_model.specs.declared.address.Address.TheVariants.{Channel, ErrorControl, Nmt, Nobody, Rpdo as RpdoAddress, Sync}
use Rattle.co_node_model.specs.declared.mark.Mark.{Mark}
use Rattle.co_node_model.specs.Addresses.{address_at}
use Rattle.co_node_model.specs.AppEvents.{event_refusal, with_app_event}
use Rattle.co_node_model.specs.Device.{contents_of, moment, moments, with_frame, with_input}
use Rattle.co_node_model.specs.Heartbeats.{is_heartbeat}
use Rattle.co_node_model.specs.Inputs.{AppView, Applied, ChangedAt, Cleared, EventOn, Framed, Inputs, InputView, Raised, Ticked, Written}
use Rattle.co_node_model.specs.Marks.{command_mark, marked_key, marked_rpdo, marked_sync, marked_tick, written_mark}
use Rattle.co_node_model.specs.Moments.{Constants, History, Moment, channels, contents_at, nothing_of}
use Rattle.co_node_model.specs.Nmt.{is_reset, service_for, state_at, transition_of}
use Rattle.co_node_model.specs.Rpdos.{emptied_by, empties_slot, immediate, is_short, kept_by, rpdo_type, slot_event, slot_event_in, slot_log}
use Rattle.co_node_model.specs.Sdo.{channel_logs, drops, with_channel_ticks, with_drop}
use Rattle.conode_compare_laws.specs.AnswerEntries.{AllAreHeld}
use Rattle.conode_compare_laws.specs.AnswerSenders.{HasBytes, HaveBytes}
use Rattle.conode_compare_laws.specs.Recordings.{Stamped}
use Rattle.conode_compare_laws.specs.TpdoParameters.{AllAreFilled}
use Rattle.conode_compare_laws.specs.WrittenEntries.{WritesBytes, WriteBytes}
use Rattle.conode_compare_laws.proofs.AlwaysFitted.{Any, Fit, any_frames, fit_input, fitted_keeps}
use Rattle.conode_compare_laws.proofs.Fitting.{AreFitted, HaveTypes, fitting, of_filled, present}
use Rattle.conode_compare_laws.proofs.KeptEntries.{GoodEvent, GoodFrames, GoodInput, Keeps, SetsPermitted, next}
use Rattle.conode_compare_laws.proofs.WrittenBytes.{EventHasBytes, HasBytesIn, HoldBytes, LogHasBytes, data_bytes, number_bytes, pushed_bytes, reset_bytes, set_bytes, some_both, written_bytes}

-- ---- the logs of the channels

abbrev LogsHaveBytes : (ℕ → Log) → Type 0
LogsHaveBytes logs = (j : ℕ) → LogHasBytes (logs j)

abbrev IsOfBytes : Option ChannelEvent → Type 0
IsOfBytes None = Unit {0}
IsOfBytes (Some e) = EventHasBytes e.event

after_event : (e : Option ChannelEvent) (logs : ℕ → Log) → IsOfBytes e → LogsHaveBytes logs → LogsHaveBytes (logs_after e logs)
after_event None logs g h = h
after_event (Some e) logs g h = λ j. by j (j == e.channel.number)
  where
    by : (j : ℕ) (b : Bool) → LogHasBytes (if b then e.event ∷ logs j else logs j)
    by j true = (g, h j)
    by j false = h j

ticked : (b : Bool) (logs : ℕ → Log) → LogsHaveBytes logs → LogsHaveBytes (with_channel_ticks b logs)
ticked true logs h = λ j. (tt, h j)
ticked false logs h = h

dropped : (b : Bool) (logs : ℕ → Log) → LogsHaveBytes logs → LogsHaveBytes (with_drop b logs)
dropped true logs h = λ j. (tt, h j)
dropped false logs h = h

-- ---- an input as it is received

-- what it is to the channels, and to the RPDOs
record IsHeard (m : Moment) : Type 0 where
  exchange : IsOfBytes m.exchange
  timed_out : IsOfBytes m.timed_out
  rpdo : IfSome (marked_rpdo m.mark) (λ r. AreBytes r.frame.bytes)

either : (b : Bool) (x y : Moment) → IsHeard x → IsHeard y → IsHeard (if b then x else y)
either true x y p q = p
either false x y p q = q

quiet_command : (service : Option NmtService) → IfSome (marked_rpdo (command_mark service)) (λ r. AreBytes r.frame.bytes)
quiet_command None = tt
quiet_command (Some service) = tt

quiet_write : (key : Option Key) → IfSome (marked_rpdo (written_mark key)) (λ r. AreBytes r.frame.bytes)
quiet_write None = tt
quiet_write (Some key) = tt

exchanged : (o : Option ChannelSettings) (d : Description) (c : Contents) (logs : ℕ → Log) (frame : FrameContent) → AreBytes frame.bytes → IsOfBytes (exchange_at o d c logs frame)
exchanged None d c logs frame h = tt
exchanged (Some channel) d c logs frame h = by (length frame.bytes == 8)
  where
    by : (b : Bool) → IsOfBytes (if b then Some (exchange_on channel d c (logs channel.number) frame.bytes) else None)
    by true = h
    by false = tt

frame_heard : (k : Constants) (history : History) (address : Address) (frame : FrameContent) (input : InputView) (c : Contents) → AreBytes frame.bytes → IsHeard (with_frame k history address frame (nothing_of input c))
frame_heard k history Nmt frame input c h = record { exchange = tt; timed_out = tt; rpdo = quiet_command (service_for k.description.node (nmt_command_in frame)) }
frame_heard k history Sync frame input c h = either (is_state Stopped (state_at history)) _ _ (record { exchange = tt; timed_out = tt; rpdo = tt }) (record { exchange = tt; timed_out = tt; rpdo = tt })
frame_heard k history (Channel j) frame input c h =
    either (is_state Stopped (state_at history)) _ _ (record { exchange = tt; timed_out = tt; rpdo = tt })
    (record {
      exchange = exchanged (receiver (channels k) frame.id) k.description c (channel_logs history) frame h;
      timed_out = tt;
      rpdo = quiet_write (key_set (set_of (channels k) k.description c (channel_logs history) frame));
    })
frame_heard k history (RpdoAddress n) frame input c h = either (is_state Operational (state_at history)) _ _ (record { exchange = tt; timed_out = tt; rpdo = h }) (record { exchange = tt; timed_out = tt; rpdo = tt })
frame_heard k history (ErrorControl node) frame input c h = either (is_heartbeat (heartbeat_in frame.bytes)) _ _ (record { exchange = tt; timed_out = tt; rpdo = tt }) (record { exchange = tt; timed_out = tt; rpdo = tt })
frame_heard k history Nobody frame input c h = record { exchange = tt; timed_out = tt; rpdo = tt }

event_heard : (d : Description) (event : AppView) (refusal : Option ℕ) (input : InputView) (c : Contents) → IsHeard (with_app_event d event refusal (nothing_of input c))
event_heard d event (Some code) input c = record { exchange = tt; timed_out = tt; rpdo = tt }
event_heard d (Written key bytes) None input c = record { exchange = tt; timed_out = tt; rpdo = tt }
event_heard d (EventOn n) None input c = record { exchange = tt; timed_out = tt; rpdo = tt }
event_heard d (ChangedAt key) None input c = record { exchange = tt; timed_out = tt; rpdo = tt }
event_heard d (Raised code bits manufacturer) None input c = record { exchange = tt; timed_out = tt; rpdo = tt }
event_heard d (Cleared bits) None input c = record { exchange = tt; timed_out = tt; rpdo = tt }

timed : (o : Option ChannelSettings) (logs : ℕ → Log) → IsOfBytes (option_map (λ c. time_out_on c (logs c.number)) o)
timed None logs = tt
timed (Some c) logs = tt

input_heard : (k : Constants) (history : History) (input as_input : InputView) (c : Contents) → HasBytes input → IsHeard (with_input k history input (nothing_of as_input c))
input_heard k history (Framed frame) as_input c h = frame_heard k history (address_at k history frame.id) frame as_input c h
input_heard k history Ticked as_input c h =
    let logs = with_each TickOf (channel_logs history) in
    record { exchange = tt; timed_out = timed (expired_in (channels k) logs) logs; rpdo = tt }
input_heard k history (Applied event) as_input c h = event_heard k.description event (event_refusal k.description c event) as_input c

-- ---- the frames that wait for a SYNC

abbrev SlotHasBytes : SlotEvent → Type 0
SlotHasBytes (Keep j frame) = AreBytes frame.bytes
SlotHasBytes (Empty j) = Unit {0}
SlotHasBytes EmptyAll = Unit {0}
SlotHasBytes SlotSync = Unit {0}
SlotHasBytes SlotQuiet = Unit {0}

abbrev SlotsHaveBytes : SlotLog → Type 0
SlotsHaveBytes log = AllByRecursion SlotHasBytes log

either_slot : (b : Bool) (x y : SlotEvent) → SlotHasBytes x → SlotHasBytes y → SlotHasBytes (if b then x else y)
either_slot true x y p q = p
either_slot false x y p q = q

emptied : (key : Option Key) → SlotHasBytes (emptied_by key)
emptied None = tt
emptied (Some key) = either_slot (empties_slot key) (Empty (key.index - 0x1400)) SlotQuiet tt tt

kept : (d : Description) (c : Contents) (rpdo : Option KeptFrame) → IfSome rpdo (λ r. AreBytes r.frame.bytes) → SlotHasBytes (kept_by d c rpdo)
kept d c None h = tt
kept d c (Some rpdo) h = either_slot (is_synchronous (rpdo_type c rpdo.number) && not (is_short d c rpdo)) (Keep rpdo.number rpdo.frame) SlotQuiet h tt

slot_heard : (d : Description) (c : Contents) (mark : Mark) (t : Transition) → IfSome (marked_rpdo mark) (λ r. AreBytes r.frame.bytes) → SlotHasBytes (slot_event d c mark t)
slot_heard d c mark t h =
    either_slot (is_reset mark || leaves Operational t) EmptyAll (slot_event_in d c mark t) tt
    (either_slot (is_some (marked_sync mark) && is_state Operational t.after) SlotSync (if is_some (marked_key mark) then emptied_by (marked_key mark) else kept_by d c (marked_rpdo mark)) tt
    (either_slot (is_some (marked_key mark)) (emptied_by (marked_key mark)) (kept_by d c (marked_rpdo mark)) (emptied (marked_key mark)) (kept d c (marked_rpdo mark) h)))

abbrev FrameHasBytes : FrameContent → Type 0
FrameHasBytes frame = AreBytes frame.bytes

waits : (n : ℕ) (log : SlotLog) → SlotsHaveBytes log → IfSome (kept_of n log) FrameHasBytes
waits n [] h = tt
waits n (Keep j frame ∷ log) h = some_both FrameHasBytes (n == j) (Some frame) (kept_of n log) h.0 (waits n log h.1)
waits n (Empty j ∷ log) h = some_both FrameHasBytes (n == j) None (kept_of n log) tt (waits n log h.1)
waits n (EmptyAll ∷ log) h = tt
waits n (SlotSync ∷ log) h = tt
waits n (SlotQuiet ∷ log) h = waits n log h.1

all_wait : (numbers : List ℕ) (log : SlotLog) → SlotsHaveBytes log → GoodFrames AreBytes (filter_map (λ n. numbered n (kept_of n log)) numbers)
all_wait [] log h = tt
all_wait (n ∷ numbers) log h = by (kept_of n log) (waits n log h) (all_wait numbers log h)
  where
    by : (o : Option FrameContent) → IfSome o FrameHasBytes → GoodFrames AreBytes (filter_map (λ n. numbered n (kept_of n log)) numbers) → GoodFrames AreBytes (cons_option (numbered n o) (filter_map (λ n. numbered n (kept_of n log)) numbers))
    by None g later = later
    by (Some frame) g later = (g, later)

at_event : (event : SlotEvent) (log : SlotLog) → SlotsHaveBytes log → GoodFrames AreBytes (taken_at 512 event log)
at_event (Keep j frame) log h = tt
at_event (Empty j) log h = tt
at_event EmptyAll log h = tt
at_event SlotSync log h = all_wait (range_with_len 0 512) log h
at_event SlotQuiet log h = tt

at_once : (d : Description) (c : Contents) (rpdo : Option KeptFrame) → IfSome rpdo (λ r. AreBytes r.frame.bytes) → GoodFrames AreBytes (immediate d c rpdo)
at_once d c None h = tt
at_once d c (Some rpdo) h = by (is_event_driven (rpdo_type c rpdo.number) && not (is_short d c rpdo))
  where
    by : (b : Bool) → GoodFrames AreBytes (if b then rpdo ∷ [] else [])
    by true = (h, tt)
    by false = tt

joined : (a b : List KeptFrame) → GoodFrames AreBytes a → GoodFrames AreBytes b → GoodFrames AreBytes (a ++ b)
joined [] b h g = g
joined (x ∷ a) b h g = (h.0, joined a b h.1 g)

-- ---- all inputs

-- what is known before an input
record HaveBytesAt (k : Constants) (history : History) : Type 0 where
  logs : LogsHaveBytes (channel_logs history)
  slots : SlotsHaveBytes (slot_log k history)

heard_at : (k : Constants) (history : History) (input : InputView) → HasBytes input → IsHeard (moment k history input)
heard_at k history input h =
    let r : IsHeard (with_input k history input (nothing_of input (contents_at k history))) = input_heard k history input input (contents_at k history) h in
    record { exchange = r.exchange; timed_out = r.timed_out; rpdo = r.rpdo }

bytes_next : (k : Constants) (history : History) (input : InputView) → HasBytes input → HaveBytesAt k history → HaveBytesAt k (moment k history input ∷ history)
bytes_next k history input h at =
    let m : Moment = moment k history input in
    let r : IsHeard m = heard_at k history input h in
    record {
      logs = dropped (drops m history) (logs_after m.timed_out (with_channel_ticks (marked_tick m.mark) (logs_after m.exchange (channel_logs history))))
          (after_event m.timed_out (with_channel_ticks (marked_tick m.mark) (logs_after m.exchange (channel_logs history))) r.timed_out
          (ticked (marked_tick m.mark) (logs_after m.exchange (channel_logs history)) (after_event m.exchange (channel_logs history) r.exchange at.logs)));
      slots = (slot_heard k.description m.watched m.mark (transition_of m history) r.rpdo, at.slots);
    }

taken_bytes : (k : Constants) (history : History) (input : InputView) → HasBytes input → HaveBytesAt k history → GoodFrames AreBytes (moment k history input).taken
taken_bytes k history input h at =
    let m : Moment = moment k history input in
    joined (taken_at 512 (slot_event k.description m.watched m.mark (transition_of m history)) (slot_log k history)) (immediate k.description m.watched (marked_rpdo m.mark))
    (at_event (slot_event k.description m.watched m.mark (transition_of m history)) (slot_log k history) at.slots)
    (at_once k.description m.watched (marked_rpdo m.mark) (heard_at k history input h).rpdo)

some_set : (d : Description) (c : Contents) (e : Option ChannelEvent) (logs : ℕ → Log) (frame : FrameContent) → LogsHaveBytes logs → AreBytes frame.bytes → IfSome (set_at e d c logs frame) HasBytesIn
some_set d c None logs frame h g = tt
some_set d c (Some e) logs frame h g = set_bytes d c (logs e.channel.number) frame.bytes (h e.channel.number) g

-- what is written has bytes
abbrev OfBytes : Key → List ℕ → Type 0
OfBytes key bytes = AreBytes bytes

good_event : (d : Description) (c : Contents) (event : AppView) → WritesBytes (Applied event) → GoodEvent d OfBytes c event
good_event d c (Written key bytes) h = λ is. h
good_event d c (EventOn n) h = tt
good_event d c (ChangedAt key) h = tt
good_event d c (Raised code bits manufacturer) h = tt
good_event d c (Cleared bits) h = tt

good_input : (k : Constants) (history : History) (input : InputView) → HasBytes input → WritesBytes input → HaveBytesAt k history → GoodInput k OfBytes history input
good_input k history (Framed frame) h g at = λ w is.
    subst (λ o. IfSome o HasBytesIn) is
    (some_set k.description (contents_at k history) (exchange_of (channels k) k.description (contents_at k history) (channel_logs history) frame) (channel_logs history) frame at.logs h)
good_input k history Ticked h g at = tt
good_input k history (Applied event) h g at = good_event k.description (contents_at k history) event g

bytes_keep : (d : Description) → HoldBytes d.initial → Keeps d HoldBytes OfBytes AreBytes
bytes_keep d initial = record {
  write = λ c key bytes good h. written_bytes c key bytes good h;
  register = λ c n h. number_bytes d.rows error_register_key n c h;
  error = λ c code h. pushed_bytes d.rows c code h;
  data_taken = λ c n bytes good h. data_bytes d.rows (mapping_of Rpdo d c n) bytes c good h;
  reset = λ area c h. reset_bytes area d.initial c initial h;
}

-- ---- a dictionary

holds : (rows : Rows) (c : Contents) → IsFilled rows c → HoldBytes c
holds rows c filled = record { entry = λ key. by (c key) (filled.bytes key) }
  where
    by : (o : Option (List ℕ)) → ((bytes : List ℕ) → o ≡ Some bytes → AreBytes bytes) → IfSome o AreBytes
    by None h = tt
    by (Some bytes) h = h bytes refl

filled_by : (d : Description) (c : Contents) → AreFitted d.rows c → HoldBytes c → IsFilled d.rows c
filled_by d c fitted bytes = record {
  present = λ key. present d.rows c key fitted;
  fitting = λ key row b r h. fitting d.rows c key row b fitted r h;
  bytes = λ key b h. subst (λ o. IfSome o AreBytes) h (bytes.entry key);
}

types_of : (d : Description) (c : Contents) → IsDictionary d c → HaveTypes d.rows
types_of d c h = record { fixed = h.description.fixed; width = h.description.width }

module _ (permitted : SetsPermitted) (k : Constants) where
  -- one input more
  dictionary_next : (history : History) (input : InputView) → HasBytes input → WritesBytes input → HaveBytesAt k history → IsDictionary k.description (contents_at k history) → IsDictionary k.description (moment k history input).contents
  dictionary_next history input h g at is =
      let d : Description = k.description in
      let types : HaveTypes d.rows = types_of d (contents_at k history) is in
      record {
        description = is.description;
        initially = is.initially;
        filled = filled_by d (moment k history input).contents
            (next k (AreFitted d.rows) (Fit d.rows) Any (fitted_keeps d types (of_filled d.rows d.initial is.initially)) history input (fit_input permitted k types history input) (any_frames (moment k history input).taken) (of_filled d.rows (contents_at k history) is.filled))
            (next k HoldBytes OfBytes AreBytes (bytes_keep d (holds d.rows d.initial is.initially)) history input (good_input k history input h g at) (taken_bytes k history input h at) (holds d.rows (contents_at k history) is.filled));
      }

  all_from : (inputs : List Stamped) (before : Inputs) → HaveBytes inputs → WriteBytes inputs → HaveBytesAt k (moments k before) → IsDictionary k.description (contents_of k before) → AllAreHeld k before inputs × AllAreFilled k before inputs
  all_from [] before h g at is = (tt, tt)
  all_from (s ∷ later) before h g at is =
      let after : IsDictionary k.description (moment k (moments k before) s.input).contents = dictionary_next (moments k before) s.input h.0 g.0 at is in
      let rest = all_from later (s.input ∷ before) h.1 g.1 (bytes_next k (moments k before) s.input h.0 at) after in
      ((is, rest.0), (after, rest.1))

  pub all_dictionaries : (inputs : List Stamped) → HaveBytes inputs → WriteBytes inputs → IsDictionary k.description k.start → AllAreHeld k [] inputs × AllAreFilled k [] inputs
  all_dictionaries inputs h g is = all_from inputs [] h g (record { logs = λ j. tt; slots = tt }) is
