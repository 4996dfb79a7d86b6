-- What a device holds for the transfer of an SDO channel is no more than its room.
use Rattle.std.proofs.Common.{◌≡◌, ℕ, ◌+◌, ◌≤◌, Bool, true, false, cond, List, [], ◌∷◌, length, Option, Some, None, refl, sym, subst, arith}
use Rattle.std.specs.Prelude.{◌==◌, option_map, if◌then◌else◌}
use Rattle.std.specs.List.{find}
use Rattle.std.specs.Option.{option_map_or}
use Rattle.std.proofs.lemmas.Bool.Decides.{nat_tests}
use Rattle.co_frame.specs.FrameContent.{FrameContent}
use Rattle.co_frame.specs.Heartbeats.{heartbeat_in}
use Rattle.co_frame.specs.SdoRequests.{request_in}
use Rattle.co_frame.specs.declared.sdo_request.SdoRequest.{SdoRequest}
use Rattle.co_frame.specs.declared.sdo_request.SdoRequest.TheVariants.{DownloadInitiate, Upload, BlockUploadInitiate, BlockDownloadInitiate}
use Rattle.co_dict.specs.Rows.{Rows, Contents}
use Rattle.co_dict.specs.Stores.{Description, IsDictionary}
use Rattle.co_sdo.specs.Log.{Event, Exchanged, Ticked as TickOf, TimedOut, Dropped, Log}
use Rattle.co_sdo.specs.OpenTransfers.{Transfer, Since, open_since, and_event, since_with, since_initiate, open_transfer}
use Rattle.co_sdo.specs.Opened.{opened, opened_by, bytes_held, held_bytes}
use Rattle.co_sdo.specs.Refused.{capacity_at}
use Rattle.co_sdo.specs.Standing.{is_under_way, is_transfer_after, room_after}
use Rattle.co_sdo.proofs.TakeLemmas.{steps_to}
use Rattle.co_sdo.specs.Channels.{ChannelSettings}
use Rattle.co_sdo.specs.Events.{ChannelEvent, logs_after, with_each, receiver, exchange_on, exchange_at, time_out_on, expired_in}
use Rattle.co_node_parts.specs.declared.nmt_state.NodeState.TheVariants.{Operational, Stopped}
use Rattle.co_node_parts.specs.NmtStates.{is_state}
use Rattle.co_node_model.specs.declared.address.Address.{Address}
use Rattle.co_node_model.specs.declared.address.Address.TheVariants.{Nmt, Sync, Channel, Rpdo, ErrorControl, Nobody}
use Rattle.co_node_model.specs.AppEvents.{event_refusal, with_app_event}
use Rattle.co_node_model.specs.Inputs.{InputView, Inputs, AppView, Framed, Ticked, Applied}
use Rattle.co_node_model.specs.Moments.{Constants, Moment, History, channels, contents_at, nothing_of}
use Rattle.co_node_model.specs.Nmt.{state_at}
use Rattle.co_node_model.specs.Sdo.{with_channel_ticks, with_drop, drops, channel_logs}
use Rattle.co_node_model.specs.Device.{with_frame, with_input, moment, moments, contents_of, held_of, room_of}
use Rattle.co_node_model.specs.Addresses.{address_at}
use Rattle.co_node_model.specs.Heartbeats.{is_heartbeat}
use Rattle.co_node_model.specs.Marks.{marked_tick}
use Rattle.co_node_laws.specs.Lengths.{AllDictionaries}
use Rattle.co_node_laws.proofs.FewAnswers.{is_exchange}

-- ---- one log

-- what is open after each of these logs is under way
abbrev AllUnderWay : Rows → (ℕ → Log) → Type 0
AllUnderWay rows logs = (j : ℕ) → is_under_way rows (open_transfer (logs j))

ticked_since : (s : Option Since) → open_since (and_event TickOf s) ≡ open_since s
ticked_since None = refl
ticked_since (Some s) = refl

under_way_quiet : (rows : Rows) (e : Event) (s : Option Since) → is_exchange e ≡ false → is_under_way rows (open_since s) → is_under_way rows (open_since (since_with e s))
under_way_quiet rows (Exchanged x) s off under = absurd (cc)
under_way_quiet rows TickOf s off under = subst (λ (t : Option Transfer). is_under_way rows t) (sym (ticked_since s)) under
under_way_quiet rows (TimedOut answers) None off under = tt
under_way_quiet rows (TimedOut answers) (Some s) off under = tt
under_way_quiet rows Dropped None off under = tt
under_way_quiet rows Dropped (Some s) off under = tt

-- ---- all logs

abbrev IsUnderWayIn : Rows → Option ChannelEvent → (ℕ → Log) → Type 0
IsUnderWayIn rows None logs = Unit {0}
IsUnderWayIn rows (Some e) logs = is_under_way rows (open_transfer (e.event ∷ logs e.channel.number))

abbrev IsQuiet : Option ChannelEvent → Type 0
IsQuiet None = Unit {0}
IsQuiet (Some e) = is_exchange e.event ≡ false

same : (a b : ℕ) → (a == b) ≡ true → a ≡ b
same a b e = grind (arith, nat_tests)

under_at : (rows : Rows) (e : ChannelEvent) (logs : ℕ → Log) (j : ℕ) (here : Bool) → (j == e.channel.number) ≡ here → IsUnderWayIn rows (Some e) logs → AllUnderWay rows logs → is_under_way rows (open_transfer (cond here (e.event ∷ logs j) (logs j)))
under_at rows e logs j true is under all = subst (λ (n : ℕ). is_under_way rows (open_transfer (e.event ∷ logs n))) (sym (same j e.channel.number is)) under
under_at rows e logs j false is under all = all j

under_logs : (rows : Rows) (e : Option ChannelEvent) (logs : ℕ → Log) → IsUnderWayIn rows e logs → AllUnderWay rows logs → AllUnderWay rows (logs_after e logs)
under_logs rows None logs under all = all
under_logs rows (Some e) logs under all = λ j. under_at rows e logs j (j == e.channel.number) refl under all

under_in : (rows : Rows) (e : Option ChannelEvent) (logs : ℕ → Log) → IsQuiet e → AllUnderWay rows logs → IsUnderWayIn rows e logs
under_in rows None logs quiet all = tt
under_in rows (Some e) logs quiet all = under_way_quiet rows e.event (since_initiate (logs e.channel.number)) quiet (all e.channel.number)

under_ticked : (rows : Rows) (b : Bool) (logs : ℕ → Log) → AllUnderWay rows logs → AllUnderWay rows (with_channel_ticks b logs)
under_ticked rows true logs all = λ j. under_way_quiet rows TickOf (since_initiate (logs j)) refl (all j)
under_ticked rows false logs all = all

under_dropped : (rows : Rows) (b : Bool) (logs : ℕ → Log) → AllUnderWay rows logs → AllUnderWay rows (with_drop b logs)
under_dropped rows true logs all = λ j. under_way_quiet rows Dropped (since_initiate (logs j)) refl (all j)
under_dropped rows false logs all = all

-- ---- an exchange

under_if : (b : Bool) (channel : ChannelSettings) (d : Description) (c : Contents) (logs : ℕ → Log) (frame : FrameContent) → (length frame.bytes == 8) ≡ b → IsDictionary d c → AllUnderWay d.rows logs
    → IsUnderWayIn d.rows (cond b (Some (exchange_on channel d c (logs channel.number) frame.bytes)) None) logs
under_if true channel d c logs frame eight lawful all =
    let step = steps_to d c (logs channel.number) frame.bytes (all channel.number) lawful (same (length frame.bytes) 8 eight) in
    step.under_way
under_if false channel d c logs frame eight lawful all = tt

under_exchange : (o : Option ChannelSettings) (d : Description) (c : Contents) (logs : ℕ → Log) (frame : FrameContent) → IsDictionary d c → AllUnderWay d.rows logs → IsUnderWayIn d.rows (exchange_at o d c logs frame) logs
under_exchange None d c logs frame lawful all = tt
under_exchange (Some channel) d c logs frame lawful all = under_if (length frame.bytes == 8) channel d c logs frame refl lawful all

-- ---- an input as it is received

record IsUnderWayAt (rows : Rows) (m : Moment) (logs : ℕ → Log) : Type 0 where
  exchange : IsUnderWayIn rows m.exchange logs
  timed_out : IsQuiet m.timed_out

either : (rows : Rows) (b : Bool) (x y : Moment) (logs : ℕ → Log) → IsUnderWayAt rows x logs → IsUnderWayAt rows y logs → IsUnderWayAt rows (if b then x else y) logs
either rows true x y logs p q = p
either rows false x y logs p q = q

under_frame : (k : Constants) (history : History) (address : Address) (frame : FrameContent) (input : InputView) (c : Contents) → IsDictionary k.description c → AllUnderWay k.description.rows (channel_logs history)
    → IsUnderWayAt k.description.rows (with_frame k history address frame (nothing_of input c)) (channel_logs history)
under_frame k history Nmt frame input c lawful all = record { exchange = tt; timed_out = tt }
under_frame k history Sync frame input c lawful all = either k.description.rows (is_state Stopped (state_at history)) _ _ (channel_logs history) (record { exchange = tt; timed_out = tt }) (record { exchange = tt; timed_out = tt })
under_frame k history (Channel j) frame input c lawful all =
    either k.description.rows (is_state Stopped (state_at history)) _ _ (channel_logs history) (record { exchange = tt; timed_out = tt })
    (record { exchange = under_exchange (receiver (channels k) frame.id) k.description c (channel_logs history) frame lawful all; timed_out = tt })
under_frame k history (Rpdo n) frame input c lawful all = either k.description.rows (is_state Operational (state_at history)) _ _ (channel_logs history) (record { exchange = tt; timed_out = tt }) (record { exchange = tt; timed_out = tt })
under_frame k history (ErrorControl node) frame input c lawful all = either k.description.rows (is_heartbeat (heartbeat_in frame.bytes)) _ _ (channel_logs history) (record { exchange = tt; timed_out = tt }) (record { exchange = tt; timed_out = tt })
under_frame k history Nobody frame input c lawful all = record { exchange = tt; timed_out = tt }

quiet_time_out : (o : Option ChannelSettings) (logs : ℕ → Log) → IsQuiet (option_map (λ c. time_out_on c (logs c.number)) o)
quiet_time_out None logs = tt
quiet_time_out (Some c) logs = refl

under_event : (rows : Rows) (d : Description) (event : AppView) (refusal : Option ℕ) (input : InputView) (c : Contents) (logs : ℕ → Log) → IsUnderWayAt rows (with_app_event d event refusal (nothing_of input c)) logs
under_event rows d event None input c logs = record { exchange = tt; timed_out = tt }
under_event rows d event (Some code) input c logs = record { exchange = tt; timed_out = tt }

under_input : (k : Constants) (history : History) (input as_input : InputView) (c : Contents) → IsDictionary k.description c → AllUnderWay k.description.rows (channel_logs history)
    → IsUnderWayAt k.description.rows (with_input k history input (nothing_of as_input c)) (channel_logs history)
under_input k history (Framed frame) as_input c lawful all = under_frame k history (address_at k history frame.id) frame as_input c lawful all
under_input k history Ticked as_input c lawful all =
    let logs = with_each TickOf (channel_logs history) in
    record { exchange = tt; timed_out = quiet_time_out (expired_in (channels k) logs) logs }
under_input k history (Applied event) as_input c lawful all = under_event k.description.rows k.description event (event_refusal k.description c event) as_input c (channel_logs history)

-- ---- over all inputs

under_moment : (rows : Rows) (m : Moment) (history : History) → IsUnderWayIn rows m.exchange (channel_logs history) → IsQuiet m.timed_out → AllUnderWay rows (channel_logs history) → AllUnderWay rows (channel_logs (m ∷ history))
under_moment rows m history exchange quiet all =
    let exchanged = under_logs rows m.exchange (channel_logs history) exchange all in
    let ticked = under_ticked rows (marked_tick m.mark) (logs_after m.exchange (channel_logs history)) exchanged in
    let logs = with_channel_ticks (marked_tick m.mark) (logs_after m.exchange (channel_logs history)) in
    under_dropped rows (drops m history) (logs_after m.timed_out logs) (under_logs rows m.timed_out logs (under_in rows m.timed_out logs quiet ticked) ticked)

lawful_now : (k : Constants) (inputs : Inputs) → AllDictionaries k inputs → IsDictionary k.description (contents_of k inputs)
lawful_now k [] lawful = lawful
lawful_now k (input ∷ inputs) lawful = lawful.0

all_under_way : (k : Constants) (inputs : Inputs) → AllDictionaries k inputs → AllUnderWay k.description.rows (channel_logs (moments k inputs))
all_under_way k [] lawful = λ j. tt
all_under_way k (input ∷ inputs) lawful =
    let all = all_under_way k inputs lawful.1 in
    let p = under_input k (moments k inputs) input input (contents_at k (moments k inputs)) (lawful_now k inputs lawful.1) all in
    under_moment k.description.rows (moment k (moments k inputs) input) (moments k inputs) p.exchange p.timed_out all

-- ---- what is held

within_by : (rows : Rows) (r : Option SdoRequest) (t : Transfer) → is_transfer_after rows r t → bytes_held (opened_by r t) ≤ option_map_or (λ o. capacity_at rows o.key + 889) (opened_by r t) 0
within_by rows (Some (DownloadInitiate key size)) t under = omega (arith, under.bytes)
within_by rows (Some (Upload key)) t under = omega (arith, under)
within_by rows (Some (BlockUploadInitiate key size threshold)) t under = omega (arith, under)
within_by rows (Some (BlockDownloadInitiate key size)) t under = omega (arith, under.bytes)
within_by rows _ t under = absurd under

within : (rows : Rows) (t : Option Transfer) → is_under_way rows t → bytes_held (opened t) ≤ option_map_or (λ o. capacity_at rows o.key + 889) (opened t) 0
within rows None under = omega arith
within rows (Some t) under = within_by rows (request_in t.begin.request) t under

held_found : (o : Option ChannelSettings) (rows : Rows) (logs : ℕ → Log) (j : ℕ) → ((c : ChannelSettings) → o ≡ Some c → c.number ≡ j) → AllUnderWay rows logs → option_map_or (λ c. held_bytes (logs c.number)) o 0 ≤ room_after rows (logs j)
held_found None rows logs j is all = omega arith
held_found (Some c) rows logs j is all = subst (λ (n : ℕ). held_bytes (logs n) ≤ room_after rows (logs j)) (sym (is c refl)) (within rows (open_transfer (logs j)) (all j))

found_next : (s : ChannelSettings) (cs : List ChannelSettings) (j : ℕ) (c : ChannelSettings) (b : Bool) → (s.number == j) ≡ b → cond b (Some s) (find (λ s. s.number == j) cs) ≡ Some c → (find (λ s. s.number == j) cs ≡ Some c → c.number ≡ j) → c.number ≡ j
found_next s cs j c true is e later =
    let same_channel : s ≡ c = cc in
    subst (λ (x : ChannelSettings). x.number ≡ j) same_channel (same s.number j is)
found_next s cs j c false is e later = later e

found_number : (cs : List ChannelSettings) (j : ℕ) (c : ChannelSettings) → find (λ s. s.number == j) cs ≡ Some c → c.number ≡ j
found_number [] j c e = absurd (cc)
found_number (s ∷ cs) j c e = found_next s cs j c (s.number == j) refl e (λ later. found_number cs j c later)

pub held_within : (k : Constants) (inputs : Inputs) (j : ℕ) → AllDictionaries k inputs → held_of k inputs j ≤ room_of k inputs j
held_within k inputs j lawful =
    held_found (find (λ c. c.number == j) (channels k)) k.description.rows (channel_logs (moments k inputs)) j (λ c. found_number (channels k) j c) (all_under_way k inputs lawful)
