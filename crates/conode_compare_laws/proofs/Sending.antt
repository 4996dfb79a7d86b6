-- What a device sends besides its boot-up and heartbeats, by its channels and its COB-IDs.
use Rattle.std.proofs.Common.{◌≡◌, ℕ, zero, suc, ◌+◌, ◌<◌, ◌≤◌, Bool, true, false, [], ◌∷◌, List, map, Option, Some, None, refl, arith}
use Rattle.std.specs.Prelude.{◌==◌, ◌&&◌, not, if◌then◌else◌, find, filter, length, option_map, slice_get, IfSome}
use Rattle.std.specs.List.{AllByRecursion, range_with_len}
use Rattle.co_frame.specs.FrameContent.{FrameContent}
use Rattle.co_frame.specs.Heartbeats.{heartbeat_in}
use Rattle.co_frame.specs.declared.emergency.Emergency.{Emergency}
use Rattle.co_profile.specs.Keys.{emergency_key}
use Rattle.co_dict.specs.CobIds.{identifier_of, is_valid}
use Rattle.co_dict.specs.Rows.{Contents, number_at}
use Rattle.co_dict.specs.Stores.{Description}
use Rattle.co_sdo.specs.Log.{Answer, Log, Ticked as Elapsed, frames_on}
use Rattle.co_sdo.specs.Opened.{is_time_over}
use Rattle.co_sdo.specs.Channels.{ChannelSettings}
use Rattle.co_sdo.specs.Events.{exchange_at, exchange_on, expired_in, frames_at, receiver, time_out_on, with_each}
use Rattle.co_pdo.specs.declared.settings.Settings.{Settings}
use Rattle.co_pdo.specs.declared.tpdo.Occasion.{Occasion}
use Rattle.co_pdo.specs.declared.tpdo.Occasion.TheVariants as occasion
use Rattle.co_pdo.specs.Due.{is_due}
use Rattle.co_pdo.specs.Log as tpdo_log
use Rattle.co_pdo.specs.Schedules.{History as Schedule, is_among, is_tpdo_due, log_of, sync_with}
use Rattle.co_pdo.specs.Tpdos.{is_active, settings_of, tpdo_key, tpdo_numbers}
use Rattle.co_node_parts.specs.EmergencyQueues.{EmergencyLog, emergency_due, is_inhibit_over, queue_of}
use Rattle.co_node_parts.specs.NmtStates.{is_state}
use Rattle.co_node_parts.specs.declared.nmt_state.NodeState.TheVariants.{Operational, Stopped}
use Rattle.co_node_model.specs.declared.address.Address.{Address}
use Rattle.co_node_model.specs.declared.address.Address.TheVariants.{ErrorControl, Nobody, Rpdo, Channel, Nmt, Sync}
use Rattle.co_node_model.specs.declared.turn.Turn.{Turn}
use Rattle.co_node_model.specs.declared.turn.Turn.TheVariants as turn
use Rattle.co_node_model.specs.Addresses.{address_at}
use Rattle.co_node_model.specs.AppEvents.{event_refusal, with_app_event}
use Rattle.co_node_model.specs.Device.{contents_of, moment, moments, with_frame}
use Rattle.co_node_model.specs.Emergencies.{emergency_frames, emergency_log, may_send, unsent_log}
use Rattle.co_node_model.specs.Heartbeats.{is_heartbeat}
use Rattle.co_node_model.specs.Inputs.{AppView, Applied, ChangedAt, Cleared, EventOn, Framed, Inputs, InputView, Raised, Ticked, Written}
use Rattle.co_node_model.specs.Marks.{marked_time_out}
use Rattle.co_node_model.specs.Moments.{Constants, History, Moment, channels, contents_at, nothing_of}
use Rattle.co_node_model.specs.Nmt.{state_at}
use Rattle.co_node_model.specs.Sdo.{channel_logs}
use Rattle.co_node_model.specs.Tpdos.{due_at, numbers_asked, schedule_log, tpdo_frame, turn_at}
use Rattle.conode_compare_laws.specs.Identifiers.{AllSendAside, AreAside, HasAsideWords, IsAside, IsAsideWord, SendsAside}
use Rattle.conode_compare_laws.specs.Recordings.{Stamped}

-- ---- SDO

answers_aside : (node id : ℕ) (answers : List Answer) → IsAside node id → AreAside node (frames_on id answers)
answers_aside node id [] aside = tt
answers_aside node id (answer ∷ later) aside = (aside, answers_aside node id later aside)

found_aside : (P : ChannelSettings → Type 0) (test : ChannelSettings → Bool) (all : List ChannelSettings) → AllByRecursion P all → IfSome (find test all) P
found_aside P test [] h = tt
found_aside P test (c ∷ others) h = by (test c) (found_aside P test others h.1)
  where
    by : (b : Bool) → IfSome (find test others) P → IfSome (if b then Some c else find test others) P
    by true later = h.0
    by false later = later

exchange_aside : (node : ℕ) (c : Option ChannelSettings) (d : Description) (contents : Contents) (logs : ℕ → Log) (frame : FrameContent) → IfSome c (λ one. IsAside node one.response)
    → AreAside node (frames_at (exchange_at c d contents logs frame))
exchange_aside node None d contents logs frame h = tt
exchange_aside node (Some c) d contents logs frame h = by (length frame.bytes == 8)
  where
    by : (b : Bool) → AreAside node (frames_at (if b then Some (exchange_on c d contents (logs c.number) frame.bytes) else None))
    by true = answers_aside node c.response (exchange_on c d contents (logs c.number) frame.bytes).responses h
    by false = tt

time_out_aside : (node : ℕ) (c : Option ChannelSettings) (logs : ℕ → Log) → IfSome c (λ one. IsAside node one.response) → AreAside node (frames_at (option_map (λ one. time_out_on one (logs one.number)) c))
time_out_aside node None logs h = tt
time_out_aside node (Some c) logs h = answers_aside node c.response (time_out_on c (logs c.number)).responses h

-- what a frame or an event gives of SDO
abbrev ExchangesAside : ℕ → Moment → Type 0
ExchangesAside node m = AreAside node (frames_at m.exchange) × AreAside node (frames_at m.timed_out)

either_aside : (node : ℕ) (b : Bool) (x y : Moment) → ExchangesAside node x → ExchangesAside node y → ExchangesAside node (if b then x else y)
either_aside node true x y p q = p
either_aside node false x y p q = q

frame_aside : (k : Constants) (history : History) (address : Address) (frame : FrameContent) (input : InputView) (c : Contents) → AllByRecursion (λ one. IsAside k.description.node one.response) (channels k)
    → ExchangesAside k.description.node (with_frame k history address frame (nothing_of input c))
frame_aside k history Nmt frame input c h = (tt, tt)
frame_aside k history Sync frame input c h = either_aside k.description.node (is_state Stopped (state_at history)) _ _ (tt, tt) (tt, tt)
frame_aside k history (Channel j) frame input c h =
    either_aside k.description.node (is_state Stopped (state_at history)) _ _ (tt, tt) (
      exchange_aside k.description.node (receiver (channels k) frame.id) k.description c (channel_logs history) frame
          (found_aside (λ one. IsAside k.description.node one.response) (λ one. one.request == frame.id) (channels k) h),
      tt,
    )
frame_aside k history (Rpdo n) frame input c h = either_aside k.description.node (is_state Operational (state_at history)) _ _ (tt, tt) (tt, tt)
frame_aside k history (ErrorControl node) frame input c h = either_aside k.description.node (is_heartbeat (heartbeat_in frame.bytes)) _ _ (tt, tt) (tt, tt)
frame_aside k history Nobody frame input c h = (tt, tt)

event_aside : (node : ℕ) (d : Description) (event : AppView) (refusal : Option ℕ) (input : InputView) (c : Contents) → ExchangesAside node (with_app_event d event refusal (nothing_of input c))
event_aside node d event (Some code) input c = (tt, tt)
event_aside node d (Written key bytes) None input c = (tt, tt)
event_aside node d (EventOn n) None input c = (tt, tt)
event_aside node d (ChangedAt key) None input c = (tt, tt)
event_aside node d (Raised code bits manufacturer) None input c = (tt, tt)
event_aside node d (Cleared bits) None input c = (tt, tt)

exchanges_aside : (k : Constants) (history : History) (input : InputView) → AllByRecursion (λ one. IsAside k.description.node one.response) (channels k) → ExchangesAside k.description.node (moment k history input)
exchanges_aside k history (Framed frame) h = frame_aside k history (address_at k history frame.id) frame (Framed frame) (contents_at k history) h
exchanges_aside k history Ticked h =
    let logs : ℕ → Log = with_each Elapsed (channel_logs history) in
    (tt, time_out_aside k.description.node (expired_in (channels k) logs) logs (found_aside (λ one. IsAside k.description.node one.response) (λ one. is_time_over one.time (logs one.number)) (channels k) h))
exchanges_aside k history (Applied event) h = event_aside k.description.node k.description event (event_refusal k.description (contents_at k history) event) (Applied event) (contents_at k history)

-- ---- EMCY

middle_on : (a b c : Bool) → (a && b && c) ≡ true → b ≡ true
middle_on true true c h = refl
middle_on true false c h = absurd (cc)
middle_on false b c h = absurd (cc)

front_aside : (node : ℕ) (c : Contents) (e : Option Emergency) → IsAside node (identifier_of (number_at c emergency_key)) → AreAside node (emergency_frames c e)
front_aside node c None h = tt
front_aside node c (Some e) h = (h, tt)

due_aside : (node : ℕ) (c : Contents) (may : Bool) (log : EmergencyLog) → (may ≡ true → IsAside node (identifier_of (number_at c emergency_key))) → AreAside node (emergency_frames c (emergency_due may log))
due_aside node c false log h = tt
due_aside node c true log h = by (is_inhibit_over log)
  where
    by : (b : Bool) → AreAside node (emergency_frames c (if b then slice_get (queue_of log) 0 else None))
    by true = front_aside node c (slice_get (queue_of log) 0) (h refl)
    by false = tt

emergency_aside : (k : Constants) (history : History) (input : InputView) → IsAsideWord k.description.node (number_at (moment k history input).contents emergency_key)
    → AreAside k.description.node (emergency_frames (moment k history input).contents (moment k history input).emergency)
emergency_aside k history input h =
    let m : Moment = moment k history input in
    due_aside k.description.node m.contents (may_send m.mark (state_at (m ∷ history)) m.contents) (unsent_log m (emergency_log history))
    (λ may. h (middle_on (not (is_state Stopped (state_at (m ∷ history)))) (is_valid (number_at m.contents emergency_key)) (not (marked_time_out m.mark)) may))

-- ---- TPDOs

first_on : (a b c : Bool) → (a && b && c) ≡ true → a ≡ true
first_on true b c h = refl
first_on false b c h = absurd (cc)

left_on : (a b : Bool) → (a && b) ≡ true → a ≡ true
left_on true b h = refl
left_on false b h = absurd (cc)

right_on : (a b : Bool) → (a && b) ≡ true → b ≡ true
right_on true b h = h
right_on false b h = absurd (cc)

due_active : (s : Settings) (log : tpdo_log.Log) (o : Occasion) → is_due s log o ≡ true → s.is_active ≡ true
due_active s log (occasion.Sync overflow counter) h = left_on s.is_active _ h
due_active s log occasion.Event h = left_on s.is_active _ h
due_active s log occasion.Tick h = left_on s.is_active _ h

active_valid : (c : Contents) (n : ℕ) → is_active c n ≡ true → is_valid (number_at c (tpdo_key n 1)) ≡ true
active_valid c n h = first_on (is_valid (number_at c (tpdo_key n 1))) _ _ h

all_below : (first count : ℕ) → first + count ≤ 512 → AllByRecursion (λ n. n < 512) (range_with_len first count)
all_below first zero h = tt
all_below first (suc count) h = (omega arith, all_below (first + 1) count (omega arith))

numbers_below : AllByRecursion (λ n. n < 512) tpdo_numbers
unfolding tpdo_numbers
numbers_below = all_below 0 512 (omega arith)

filtered_aside : (node : ℕ) (d : Description) (c : Contents) (test : ℕ → Bool) (numbers : List ℕ) → ((n : ℕ) → test n ≡ true → is_active c n ≡ true) → HasAsideWords node c
    → AllByRecursion (λ n. n < 512) numbers → AreAside node (map (tpdo_frame d c) (filter test numbers))
filtered_aside node d c test [] active words h = tt
filtered_aside node d c test (n ∷ numbers) active words h = by (test n) refl (filtered_aside node d c test numbers active words h.1)
  where
    by : (b : Bool) → test n ≡ b → AreAside node (map (tpdo_frame d c) (filter test numbers)) → AreAside node (map (tpdo_frame d c) (if b then n ∷ filter test numbers else filter test numbers))
    by true is later = (words.tpdos n h.0 (active_valid c n (active n is)), later)
    by false is later = later

due_numbers_aside : (node : ℕ) (d : Description) (t : Turn) (c : Contents) (schedule : Schedule) → HasAsideWords node c → AreAside node (map (tpdo_frame d c) (due_at d t c schedule))
due_numbers_aside node d turn.Quiet c schedule words = tt
due_numbers_aside node d turn.StartAll c schedule words = tt
due_numbers_aside node d (turn.Start n part) c schedule words = tt
due_numbers_aside node d (turn.Sync counter) c schedule words =
    filtered_aside node d c (λ n. is_tpdo_due c schedule (sync_with counter c) n) tpdo_numbers (λ n due. due_active (settings_of c n) (log_of n schedule) (sync_with counter c) due) words numbers_below
due_numbers_aside node d (turn.Asked asked) c schedule words =
    filtered_aside node d c (λ n. is_among n (numbers_asked d c asked) && is_tpdo_due c schedule occasion.Event n) tpdo_numbers
    (λ n due. due_active (settings_of c n) (log_of n schedule) occasion.Event (right_on (is_among n (numbers_asked d c asked)) _ due)) words numbers_below
due_numbers_aside node d turn.Tick c schedule words =
    filtered_aside node d c (λ n. is_tpdo_due c schedule occasion.Tick n) tpdo_numbers (λ n due. due_active (settings_of c n) (log_of n schedule) occasion.Tick due) words numbers_below

-- ---- all of it

sends_aside : (k : Constants) (before : Inputs) (input : InputView) → AllByRecursion (λ one. IsAside k.description.node one.response) (channels k) → HasAsideWords k.description.node (contents_of k (input ∷ before))
    → SendsAside k (moment k (moments k before) input)
sends_aside k before input on words =
    let m : Moment = moment k (moments k before) input in
    let sdo = exchanges_aside k (moments k before) input on in
    record {
      answers = sdo.0;
      time_out = sdo.1;
      emergency = emergency_aside k (moments k before) input words.emergency;
      tpdos = due_numbers_aside k.description.node k.description (turn_at m (moments k before)) m.contents (schedule_log k (moments k before)) words;
    }

pub all_send_aside : (k : Constants) (inputs : List Stamped) (before : Inputs) → AllByRecursion (λ one. IsAside k.description.node one.response) (channels k)
    → ((all : Inputs) → HasAsideWords k.description.node (contents_of k all)) → AllSendAside k before inputs
all_send_aside k [] before on words = tt
all_send_aside k (s ∷ later) before on words = (sends_aside k before s.input on (words (s.input ∷ before)), all_send_aside k later (s.input ∷ before) on words)
