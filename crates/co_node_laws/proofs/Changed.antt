-- What each kind of input changes of the entries.
use Rattle.std.proofs.Common.{◌≡◌, ℕ, ◌-◌, Bool, true, false, cond, List, [], ◌∷◌, ◌++◌, Option, Some, None, refl, ap, ◌∙◌, sym, subst}
use Rattle.std.specs.Prelude.{◌==◌, ◌&&◌, not, length, option_map, if◌then◌else◌}
use Rattle.std.proofs.lemmas.List.{append-nil}
use Rattle.co_frame.specs.FrameContent.{FrameContent}
use Rattle.co_frame.specs.Heartbeats.{heartbeat_in}
use Rattle.co_dict.specs.Rows.{Contents}
use Rattle.co_dict.specs.Stores.{Description}
use Rattle.co_sdo.specs.Log.{Log}
use Rattle.co_sdo.specs.Completed.{set_by, contents_with}
use Rattle.co_sdo.specs.Channels.{ChannelSettings}
use Rattle.co_sdo.specs.Events.{receiver, number_for, exchange_on, exchange_at, set_at}
use Rattle.co_node_parts.specs.declared.nmt_state.NodeState.{NodeState}
use Rattle.co_node_parts.specs.declared.nmt_state.NodeState.TheVariants.{PreOperational, Operational, Stopped}
use Rattle.co_node_parts.specs.declared.rpdo_slots.KeptFrame.{KeptFrame}
use Rattle.co_node_parts.specs.declared.rpdo_slots.SlotEvent.TheVariants.{Keep, Quiet}
use Rattle.co_node_parts.specs.NmtStates.{is_state}
use Rattle.co_node_parts.specs.RpdoSlots.{SlotLog, taken_at, all_kept}
use Rattle.co_node_model.specs.declared.address.Address.{Address}
use Rattle.co_node_model.specs.declared.address.Address.TheVariants.{Nmt, Sync, Channel, Rpdo, ErrorControl, Nobody}
use Rattle.co_node_model.specs.Sync.{is_sync_id, sync_errors, with_sync}
use Rattle.co_node_model.specs.Rpdos.{rpdo_type, rpdo_with, is_short, slot_event, rpdo_errors, immediate, after_all_data, slot_log, with_rpdo, with_pdos}
use Rattle.co_profile.specs.TransmissionTypes.{is_synchronous}
use Rattle.co_node_model.specs.Addresses.{is_error_control, address_unless_rpdo, address_unless_channel, address_at}
use Rattle.co_node_model.specs.AppEvents.{event_refusal}
use Rattle.co_node_model.specs.Inputs.{InputView, Inputs, AppView, Framed, Ticked, Applied}
use Rattle.co_node_model.specs.Nmt.{is_reset, state_at, transition_of}
use Rattle.co_node_model.specs.Heartbeats.{consumers_call, consumers_log, is_heartbeat, lost_by, with_lost, with_losses}
use Rattle.co_node_model.specs.Emergencies.{all_raised}
use Rattle.co_node_model.specs.Moments.{Constants, Moment, History, channels, contents_at, nothing_of}
use Rattle.co_node_model.specs.Sdo.{channel_logs, with_request}
use Rattle.co_node_model.specs.Device.{with_frame, moment, moments, contents_of}
use Rattle.co_node_model.specs.Marks.{marked_command, marked_rpdo, marked_sync, marked_tick}
use Rattle.co_node_laws.specs.Changes.{changed_by_sync, changed_by_rpdo, download_set, changed_by_request, changed_by_frame, changed_by_tick, changed_by_event, changed_by}
use Rattle.co_node_laws.proofs.Kept.{IsSilent, kept, none_taken, by_reset, silent_either, event_done, event_refused}
use Rattle.co_node_laws.proofs.MarkLemmas.{command_rpdo, command_sync, command_tick, written_rpdo, written_sync, written_tick}

-- ---- a SYNC and the frame of an RPDO: no heartbeat is lost at them, and the state stays

-- the entries after this was received in a state
abbrev ended : Constants → History → NodeState → Moment → Contents
ended k history state r =
    after_all_data k.description (all_raised k.description.rows (sync_errors r.watched (marked_sync r.mark) ++ rpdo_errors k.description r.watched (marked_rpdo r.mark)) r.watched)
    (taken_at 512 (slot_event k.description r.watched r.mark (record { before = state; after = state })) (slot_log k history) ++ immediate k.description r.watched (marked_rpdo r.mark))

-- a moment at which no command came and no entry changed
pub record IsUncommanded (r : Moment) (c : Contents) : Type 0 where
  pub command : marked_command r.mark ≡ None
  pub ticked : marked_tick r.mark ≡ false
  pub received : r.received ≡ c
  pub watched : r.watched ≡ c

after_quiet : (k : Constants) (history : History) (r : Moment) (c : Contents) (lost : List ℕ) → lost ≡ [] → IsUncommanded r c → (with_pdos k history (with_lost k.description lost r)).contents ≡ ended k history (state_at history) r
after_quiet k history r c lost none u = rw (none, u.command, u.received, u.watched) refl

sync_ended : (k : Constants) (history : History) (frame : FrameContent) (c : Contents) (input : InputView) (state : NodeState)
    → ended k history state (with_sync state frame (nothing_of input c)) ≡ changed_by_sync k.description state (slot_log k history) frame c
sync_ended k history frame c input Stopped = refl
sync_ended k history frame c input PreOperational = ap (λ errors. all_raised k.description.rows errors c) (append-nil (sync_errors c (Some frame)))
sync_ended k history frame c input Operational =
    ap (λ errors. after_all_data k.description (all_raised k.description.rows errors c) (all_kept 512 (slot_log k history) ++ [])) (append-nil (sync_errors c (Some frame)))
    ∙ ap (λ rpdos. after_all_data k.description (all_raised k.description.rows (sync_errors c (Some frame)) c) rpdos) (append-nil (all_kept 512 (slot_log k history)))

pub quiet_sync : (frame : FrameContent) (c : Contents) (input : InputView) (state : NodeState) → IsUncommanded (with_sync state frame (nothing_of input c)) c
quiet_sync frame c input Stopped = record { command = refl; ticked = refl; received = refl; watched = refl }
quiet_sync frame c input PreOperational = record { command = refl; ticked = refl; received = refl; watched = refl }
quiet_sync frame c input Operational = record { command = refl; ticked = refl; received = refl; watched = refl }

-- a frame that came for an RPDO takes nothing that waits
kept_takes_none : (b : Bool) (k : ℕ) (frame : FrameContent) (log : SlotLog) → taken_at 512 (cond b (Keep k frame) Quiet) log ≡ []
kept_takes_none true k frame log = refl
kept_takes_none false k frame log = refl

rpdo_ended : (k : Constants) (history : History) (n : ℕ) (frame : FrameContent) (c : Contents) (input : InputView) (state : NodeState)
    → ended k history state (with_rpdo n state frame (nothing_of input c)) ≡ changed_by_rpdo k.description state (record { number = n; frame = frame }) c
rpdo_ended k history n frame c input Stopped = refl
rpdo_ended k history n frame c input PreOperational = refl
rpdo_ended k history n frame c input Operational =
    let d = k.description in
    let rpdo : KeptFrame = record { number = n; frame = frame } in
    ap (λ taken. after_all_data d (all_raised d.rows (rpdo_errors d c (Some rpdo)) c) (taken ++ immediate d c (Some rpdo)))
    (kept_takes_none (is_synchronous (rpdo_type c n) && not (is_short d c rpdo)) n frame (slot_log k history))

pub quiet_rpdo : (n : ℕ) (frame : FrameContent) (c : Contents) (input : InputView) (state : NodeState) → IsUncommanded (with_rpdo n state frame (nothing_of input c)) c
quiet_rpdo n frame c input Stopped = record { command = refl; ticked = refl; received = refl; watched = refl }
quiet_rpdo n frame c input PreOperational = record { command = refl; ticked = refl; received = refl; watched = refl }
quiet_rpdo n frame c input Operational = record { command = refl; ticked = refl; received = refl; watched = refl }

-- the entries at the end, after this was received
abbrev finally : Constants → History → Moment → Contents
finally k history r = (with_pdos k history (with_losses k history r)).contents

at_end : (k : Constants) (history : History) (r : Moment) (c : Contents) → IsUncommanded r c → finally k history r ≡ ended k history (state_at history) r
at_end k history r c u =
    after_quiet k history r c (lost_by (consumers_call r.mark r.received) (consumers_log k history))
    (by_reset r.mark r.received (consumers_log k history) (is_reset r.mark) refl u.ticked) u

-- ---- frames that are neither

after_silent : (k : Constants) (inputs : Inputs) (frame : FrameContent) (address : Address) → address_at k (moments k inputs) frame.id ≡ address
    → IsSilent (with_frame k (moments k inputs) address frame (nothing_of (Framed frame) (contents_of k inputs)))
    → contents_of k (Framed frame ∷ inputs) ≡ (with_frame k (moments k inputs) address frame (nothing_of (Framed frame) (contents_of k inputs))).received
after_silent k inputs frame address is silent =
    let p = subst (λ (a : Address). IsSilent (with_frame k (moments k inputs) a frame (nothing_of (Framed frame) (contents_of k inputs)))) (sym is) silent in
    kept k (moments k inputs) (Framed frame) (record { ticked = p.ticked; sync = p.sync; rpdo = p.rpdo })
    ∙ ap (λ a. (with_frame k (moments k inputs) a frame (nothing_of (Framed frame) (contents_of k inputs))).received) is

error_control_received : (b : Bool) (x y : Moment) (c : Contents) → x.received ≡ c → y.received ≡ c → (if b then x else y).received ≡ c
error_control_received true x y c p q = p
error_control_received false x y c p q = q

-- ---- SDO

-- error control and nobody are no channel
not_last : (b : Bool) (node j : ℕ) → cond b (ErrorControl node) Nobody ≡ Channel j → ⊥
not_last true node j e = absurd (cc)
not_last false node j e = absurd (cc)

not_rpdo : (o : Option ℕ) (id j : ℕ) → address_unless_rpdo o id ≡ Channel j → ⊥
not_rpdo None id j e = not_last (is_error_control id) (id - 0x700) j e
not_rpdo (Some n) id j e = absurd (cc)

number_unless : (o : Option ℕ) (c : Contents) (id j : ℕ) → address_unless_channel o c id ≡ Channel j → o ≡ Some j
number_unless None c id j e = absurd (not_rpdo (rpdo_with c id) id j e)
number_unless (Some n) c id j e = cc

number_by : (nmt sync : Bool) (o : Option ℕ) (c : Contents) (id j : ℕ) → cond nmt Nmt (cond sync Sync (address_unless_channel o c id)) ≡ Channel j → o ≡ Some j
number_by true sync o c id j e = absurd (cc)
number_by false true o c id j e = absurd (cc)
number_by false false o c id j e = number_unless o c id j e

-- a channel that takes a frame is the one whose requests have its identifier
pub number_at_channel : (k : Constants) (history : History) (id j : ℕ) → address_at k history id ≡ Channel j → number_for (channels k) id ≡ Some j
number_at_channel k history id j e = number_by (id == 0) (is_sync_id (contents_at k history) id) (number_for (channels k) id) (contents_at k history) id j e

set_if : (b : Bool) (channel : ChannelSettings) (d : Description) (c : Contents) (logs : ℕ → Log) (frame : FrameContent) (j : ℕ) → channel.number ≡ j
    → set_at (cond b (Some (exchange_on channel d c (logs channel.number) frame.bytes)) None) d c logs frame ≡ cond b (set_by d c (logs j) frame.bytes) None
set_if true channel d c logs frame j is = ap (λ n. set_by d c (logs n) frame.bytes) is
set_if false channel d c logs frame j is = refl

set_there : (o : Option ChannelSettings) (d : Description) (c : Contents) (logs : ℕ → Log) (frame : FrameContent) (j : ℕ) → option_map (λ s. s.number) o ≡ Some j
    → set_at (exchange_at o d c logs frame) d c logs frame ≡ download_set d c (logs j) frame
set_there None d c logs frame j e = absurd (cc)
set_there (Some channel) d c logs frame j e = set_if (length frame.bytes == 8) channel d c logs frame j (cc)

request_received : (k : Constants) (c : Contents) (logs : ℕ → Log) (frame : FrameContent) (input : InputView) (j : ℕ) (state : NodeState) → number_for (channels k) frame.id ≡ Some j
    → (if is_state Stopped state then nothing_of input c else with_request k logs frame (nothing_of input c)).received ≡ changed_by_request k.description state (logs j) frame c
request_received k c logs frame input j Stopped e = refl
request_received k c logs frame input j PreOperational e = ap (λ set. contents_with c set) (set_there (receiver (channels k) frame.id) k.description c logs frame j e)
request_received k c logs frame input j Operational e = ap (λ set. contents_with c set) (set_there (receiver (channels k) frame.id) k.description c logs frame j e)

-- ---- a frame

pub by_address : (k : Constants) (inputs : Inputs) (frame : FrameContent) (address : Address) → address_at k (moments k inputs) frame.id ≡ address
    → contents_of k (Framed frame ∷ inputs) ≡ changed_by_frame k inputs address frame
by_address k inputs frame Nmt is = after_silent k inputs frame Nmt is (record { ticked = command_tick _; sync = command_sync _; rpdo = command_rpdo _ })
by_address k inputs frame Sync is =
    let h = moments k inputs in
    let c = contents_of k inputs in
    ap (λ a. finally k h (with_frame k h a frame (nothing_of (Framed frame) c))) is
    ∙ at_end k h (with_sync (state_at h) frame (nothing_of (Framed frame) c)) c (quiet_sync frame c (Framed frame) (state_at h))
    ∙ sync_ended k h frame c (Framed frame) (state_at h)
by_address k inputs frame (Channel j) is =
    let h = moments k inputs in
    after_silent k inputs frame (Channel j) is (silent_either (is_state Stopped (state_at h)) _ _ (record { ticked = refl; sync = refl; rpdo = refl })
    (record { ticked = written_tick _; sync = written_sync _; rpdo = written_rpdo _ }))
    ∙ request_received k (contents_of k inputs) (channel_logs h) frame (Framed frame) j (state_at h) (number_at_channel k h frame.id j is)
by_address k inputs frame (Rpdo n) is =
    let h = moments k inputs in
    let c = contents_of k inputs in
    ap (λ a. finally k h (with_frame k h a frame (nothing_of (Framed frame) c))) is
    ∙ at_end k h (with_rpdo n (state_at h) frame (nothing_of (Framed frame) c)) c (quiet_rpdo n frame c (Framed frame) (state_at h))
    ∙ rpdo_ended k h n frame c (Framed frame) (state_at h)
by_address k inputs frame (ErrorControl node) is =
    after_silent k inputs frame (ErrorControl node) is (silent_either (is_heartbeat (heartbeat_in frame.bytes)) _ _ (record { ticked = refl; sync = refl; rpdo = refl }) (record { ticked = refl; sync = refl; rpdo = refl }))
    ∙ error_control_received (is_heartbeat (heartbeat_in frame.bytes)) _ _ (contents_of k inputs) refl refl
by_address k inputs frame Nobody is = after_silent k inputs frame Nobody is (record { ticked = refl; sync = refl; rpdo = refl })

-- ---- a tick

by_tick : (k : Constants) (inputs : Inputs) → contents_of k (Ticked ∷ inputs) ≡ changed_by_tick k.description (consumers_log k (moments k inputs)) (contents_of k inputs)
by_tick k inputs =
    let h = moments k inputs in
    let m = moment k h Ticked in
    let d = k.description in
    ap (λ taken. after_all_data d m.watched (taken ++ []))
    (none_taken d m.watched m.mark (transition_of m h) (slot_log k h) _ None refl refl refl refl)

-- ---- an application event

by_refusal : (k : Constants) (inputs : Inputs) (event : AppView) (refusal : Option ℕ) → event_refusal k.description (contents_of k inputs) event ≡ refusal
    → contents_of k (Applied event ∷ inputs) ≡ changed_by_event k.description event refusal (contents_of k inputs)
by_refusal k inputs event None is = event_done k inputs event is
by_refusal k inputs event (Some code) is = event_refused k inputs event code is

-- ---- together

pub changed : (k : Constants) (inputs : Inputs) (input : InputView) → contents_of k (input ∷ inputs) ≡ changed_by k inputs input
changed k inputs (Framed frame) = by_address k inputs frame (address_at k (moments k inputs) frame.id) refl
changed k inputs Ticked = by_tick k inputs
changed k inputs (Applied event) = by_refusal k inputs event (event_refusal k.description (contents_of k inputs) event) refl
