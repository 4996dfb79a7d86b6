-- After whatever inputs, an SDO channel answers a frame with at most 127 frames.
use Rattle.std.proofs.Common.{◌≡◌, ℕ, ◌≤◌, Bool, true, false, cond, [], ◌∷◌, List, length, Option, Some, None, refl, sym, subst, arith}
use Rattle.std.specs.Prelude.{◌==◌, option_map, if◌then◌else◌}
use Rattle.std.proofs.lemmas.Bool.Decides.{nat_tests}
use Rattle.std.proofs.lemmas.List.{length-map}
use Rattle.co_frame.specs.FrameContent.{FrameContent}
use Rattle.co_frame.specs.Heartbeats.{heartbeat_in}
use Rattle.co_dict.specs.Rows.{Contents}
use Rattle.co_dict.specs.Stores.{Description}
use Rattle.co_sdo.specs.Log.{Answer, Ticked as TickOf, Dropped, Log, frames_on}
use Rattle.co_sdo.specs.OpenTransfers.{since_initiate}
use Rattle.co_sdo.specs.Replies.{reply_to}
use Rattle.co_sdo.specs.Channels.{ChannelSettings}
use Rattle.co_sdo.specs.Events.{ChannelEvent, frames_at, logs_after, with_each, receiver, exchange_on, exchange_at, time_out_on, expired_in}
use Rattle.co_node_parts.specs.declared.nmt_state.NodeState.TheVariants.{Operational, Stopped}
use Rattle.co_node_parts.specs.NmtStates.{is_state}
use Rattle.co_node_model.specs.declared.address.Address.{Address}
use Rattle.co_node_model.specs.declared.address.Address.TheVariants.{Nmt, Sync, Channel, Rpdo, ErrorControl, Nobody}
use Rattle.co_node_model.specs.AppEvents.{event_refusal, with_app_event}
use Rattle.co_node_model.specs.Inputs.{InputView, Inputs, AppView, Framed, Ticked, Applied}
use Rattle.co_node_model.specs.Moments.{Constants, Moment, History, channels, contents_at, nothing_of}
use Rattle.co_node_model.specs.Nmt.{state_at}
use Rattle.co_node_model.specs.Sdo.{with_channel_ticks, with_drop, drops, channel_logs}
use Rattle.co_node_model.specs.Device.{with_frame, with_input, moment, moments}
use Rattle.co_node_model.specs.Addresses.{address_at}
use Rattle.co_node_model.specs.Heartbeats.{is_heartbeat}
use Rattle.co_node_model.specs.Marks.{marked_tick}
use Rattle.co_node_laws.proofs.FewAnswers.{HasSmallBegin, is_exchange, few_reply, small_quiet, small_exchange}

-- no log has an open block upload with more than 127 segments in a sub-block
abbrev AllSmall : (ℕ → Log) → Type 0
AllSmall logs = (j : ℕ) → HasSmallBegin (since_initiate (logs j))

-- so it stays with an event
abbrev IsSmallIn : Option ChannelEvent → (ℕ → Log) → Type 0
IsSmallIn None logs = Unit {0}
IsSmallIn (Some e) logs = HasSmallBegin (since_initiate (e.event ∷ logs e.channel.number))

-- an event is no exchange
abbrev IsQuiet : Option ChannelEvent → Type 0
IsQuiet None = Unit {0}
IsQuiet (Some e) = is_exchange e.event ≡ false

-- ---- logs

same : (a b : ℕ) → (a == b) ≡ true → a ≡ b
same a b e = grind (arith, nat_tests)

small_at : (e : ChannelEvent) (logs : ℕ → Log) (j : ℕ) (here : Bool) → (j == e.channel.number) ≡ here → IsSmallIn (Some e) logs → AllSmall logs → HasSmallBegin (since_initiate (cond here (e.event ∷ logs j) (logs j)))
small_at e logs j true is small all = subst (λ (n : ℕ). HasSmallBegin (since_initiate (e.event ∷ logs n))) (sym (same j e.channel.number is)) small
small_at e logs j false is small all = all j

small_logs : (e : Option ChannelEvent) (logs : ℕ → Log) → IsSmallIn e logs → AllSmall logs → AllSmall (logs_after e logs)
small_logs None logs small all = all
small_logs (Some e) logs small all = λ j. small_at e logs j (j == e.channel.number) refl small all

small_in : (e : Option ChannelEvent) (logs : ℕ → Log) → IsQuiet e → AllSmall logs → IsSmallIn e logs
small_in None logs quiet all = tt
small_in (Some e) logs quiet all = small_quiet e.event (since_initiate (logs e.channel.number)) quiet (all e.channel.number)

small_ticked : (b : Bool) (logs : ℕ → Log) → AllSmall logs → AllSmall (with_channel_ticks b logs)
small_ticked true logs all = λ j. small_quiet TickOf (since_initiate (logs j)) refl (all j)
small_ticked false logs all = all

small_dropped : (b : Bool) (logs : ℕ → Log) → AllSmall logs → AllSmall (with_drop b logs)
small_dropped true logs all = λ j. small_quiet Dropped (since_initiate (logs j)) refl (all j)
small_dropped false logs all = all

-- ---- an exchange

few_on : (id : ℕ) (answers : List Answer) → length answers ≤ 127 → length (frames_on id answers) ≤ 127
few_on id answers few = let count : length (frames_on id answers) ≡ length answers = length-map answers _ in omega (arith, count, few)

small_if : (b : Bool) (channel : ChannelSettings) (d : Description) (c : Contents) (logs : ℕ → Log) (frame : FrameContent) → AllSmall logs → IsSmallIn (cond b (Some (exchange_on channel d c (logs channel.number) frame.bytes)) None) logs
small_if true channel d c logs frame all = small_exchange d c (logs channel.number) frame.bytes (all channel.number)
small_if false channel d c logs frame all = tt

small_exchange_at : (o : Option ChannelSettings) (d : Description) (c : Contents) (logs : ℕ → Log) (frame : FrameContent) → AllSmall logs → IsSmallIn (exchange_at o d c logs frame) logs
small_exchange_at None d c logs frame all = tt
small_exchange_at (Some channel) d c logs frame all = small_if (length frame.bytes == 8) channel d c logs frame all

few_if : (b : Bool) (channel : ChannelSettings) (d : Description) (c : Contents) (logs : ℕ → Log) (frame : FrameContent) → AllSmall logs → length (frames_at (cond b (Some (exchange_on channel d c (logs channel.number) frame.bytes)) None)) ≤ 127
few_if true channel d c logs frame all = few_on channel.response (reply_to d c (logs channel.number) frame.bytes) (few_reply d c (logs channel.number) frame.bytes (all channel.number))
few_if false channel d c logs frame all = omega arith

few_exchange_at : (o : Option ChannelSettings) (d : Description) (c : Contents) (logs : ℕ → Log) (frame : FrameContent) → AllSmall logs → length (frames_at (exchange_at o d c logs frame)) ≤ 127
few_exchange_at None d c logs frame all = omega arith
few_exchange_at (Some channel) d c logs frame all = few_if (length frame.bytes == 8) channel d c logs frame all

-- ---- an input as it is received

record IsSmallAt (m : Moment) (logs : ℕ → Log) : Type 0 where
  exchange : IsSmallIn m.exchange logs
  timed_out : IsQuiet m.timed_out
  few : length (frames_at m.exchange) ≤ 127

nothing : (input : InputView) (c : Contents) (logs : ℕ → Log) → IsSmallAt (nothing_of input c) logs
nothing input c logs = record { exchange = tt; timed_out = tt; few = omega arith }

either : (b : Bool) (x y : Moment) (logs : ℕ → Log) → IsSmallAt x logs → IsSmallAt y logs → IsSmallAt (if b then x else y) logs
either true x y logs p q = p
either false x y logs p q = q

small_frame : (k : Constants) (history : History) (address : Address) (frame : FrameContent) (input : InputView) (c : Contents) → AllSmall (channel_logs history) → IsSmallAt (with_frame k history address frame (nothing_of input c)) (channel_logs history)
small_frame k history Nmt frame input c all = record { exchange = tt; timed_out = tt; few = omega arith }
small_frame k history Sync frame input c all = either (is_state Stopped (state_at history)) _ _ (channel_logs history) (nothing input c (channel_logs history)) (record { exchange = tt; timed_out = tt; few = omega arith })
small_frame k history (Channel j) frame input c all =
    either (is_state Stopped (state_at history)) _ _ (channel_logs history) (nothing input c (channel_logs history))
    (record {
      exchange = small_exchange_at (receiver (channels k) frame.id) k.description c (channel_logs history) frame all;
      timed_out = tt;
      few = few_exchange_at (receiver (channels k) frame.id) k.description c (channel_logs history) frame all;
    })
small_frame k history (Rpdo n) frame input c all = either (is_state Operational (state_at history)) _ _ (channel_logs history) (record { exchange = tt; timed_out = tt; few = omega arith }) (nothing input c (channel_logs history))
small_frame k history (ErrorControl node) frame input c all = either (is_heartbeat (heartbeat_in frame.bytes)) _ _ (channel_logs history) (record { exchange = tt; timed_out = tt; few = omega arith }) (nothing input c (channel_logs history))
small_frame k history Nobody frame input c all = nothing input c (channel_logs history)

quiet_time_out : (o : Option ChannelSettings) (logs : ℕ → Log) → IsQuiet (option_map (λ c. time_out_on c (logs c.number)) o)
quiet_time_out None logs = tt
quiet_time_out (Some c) logs = refl

small_event : (d : Description) (event : AppView) (refusal : Option ℕ) (input : InputView) (c : Contents) (logs : ℕ → Log) → IsSmallAt (with_app_event d event refusal (nothing_of input c)) logs
small_event d event None input c logs = record { exchange = tt; timed_out = tt; few = omega arith }
small_event d event (Some code) input c logs = record { exchange = tt; timed_out = tt; few = omega arith }

small_input : (k : Constants) (history : History) (input as_input : InputView) (c : Contents) → AllSmall (channel_logs history) → IsSmallAt (with_input k history input (nothing_of as_input c)) (channel_logs history)
small_input k history (Framed frame) as_input c all = small_frame k history (address_at k history frame.id) frame as_input c all
small_input k history Ticked as_input c all =
    let logs = with_each TickOf (channel_logs history) in
    record { exchange = tt; timed_out = quiet_time_out (expired_in (channels k) logs) logs; few = omega arith }
small_input k history (Applied event) as_input c all = small_event k.description event (event_refusal k.description c event) as_input c (channel_logs history)

-- ---- over all inputs

small_moment : (m : Moment) (history : History) → IsSmallIn m.exchange (channel_logs history) → IsQuiet m.timed_out → AllSmall (channel_logs history) → AllSmall (channel_logs (m ∷ history))
small_moment m history exchange quiet all =
    let exchanged = small_logs m.exchange (channel_logs history) exchange all in
    let ticked = small_ticked (marked_tick m.mark) (logs_after m.exchange (channel_logs history)) exchanged in
    let logs = with_channel_ticks (marked_tick m.mark) (logs_after m.exchange (channel_logs history)) in
    small_dropped (drops m history) (logs_after m.timed_out logs) (small_logs m.timed_out logs (small_in m.timed_out logs quiet ticked) ticked)

all_small : (k : Constants) (inputs : Inputs) → AllSmall (channel_logs (moments k inputs))
all_small k [] = λ j. tt
all_small k (input ∷ inputs) =
    let all = all_small k inputs in
    let p = small_input k (moments k inputs) input input (contents_at k (moments k inputs)) all in
    small_moment (moment k (moments k inputs) input) (moments k inputs) p.exchange p.timed_out all

pub few_exchanged : (k : Constants) (inputs : Inputs) (input : InputView) → length (frames_at (moment k (moments k inputs) input).exchange) ≤ 127
few_exchanged k inputs input =
    let p = small_input k (moments k inputs) input input (contents_at k (moments k inputs)) (all_small k inputs) in
    p.few
