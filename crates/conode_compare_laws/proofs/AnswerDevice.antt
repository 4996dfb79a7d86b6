-- The default SDO channel of a device: what is open on it, which frames it takes, and which identifiers all others of the device have.
use Rattle.std.proofs.Common.{◌≡◌, ℕ, ◌+◌, ◌≢◌, Bool, true, false, not, List, [], ◌∷◌, map, length, Option, Some, None, refl, sym, ap, ◌∙◌, subst}
use Rattle.std.specs.Prelude.{◌==◌, ◌&&◌, ◌||◌, if◌then◌else◌, is_some, IfSome, find, filter, option_map}
use Rattle.std.specs.List.{AllByRecursion, range_with_len}
use Rattle.std.proofs.lemmas.Bool.{false≢true}
use Rattle.co_frame.specs.FrameContent.{FrameContent}
use Rattle.co_frame.specs.Heartbeats.{heartbeat_in}
use Rattle.co_frame.specs.SdoRequests.{request_in}
use Rattle.co_frame.specs.declared.nmt.NmtService.{NmtService}
use Rattle.co_frame.specs.declared.sdo_request.SdoRequest.{SdoRequest}
use Rattle.co_frame.specs.declared.sdo_request.SdoRequest.TheVariants.{DownloadInitiate, Upload as UploadInitiate, BlockUploadInitiate, BlockDownloadInitiate}
use Rattle.co_dict.specs.Rows.{Contents}
use Rattle.co_dict.specs.SdoChannels.{is_channel}
use Rattle.co_dict.specs.Stores.{Description}
use Rattle.co_sdo.specs.declared.stage.Stage.TheVariants.{BlockUpload, BlockUploadEnded}
use Rattle.co_sdo.specs.Channels.{ChannelSettings, channels_below, settings_for}
use Rattle.co_sdo.specs.Events.{ChannelEvent, exchange_at, exchange_on, expired_in, logs_after, receiver, time_out_on, with_each}
use Rattle.co_sdo.specs.Log.{Event, Exchange, Exchanged, Ticked as Elapsed, TimedOut, Dropped, Log}
use Rattle.co_sdo.specs.Opened.{block_upload_stage, opened, opened_after, opened_by}
use Rattle.co_sdo.specs.OpenTransfers.{Since, Transfer, and_event, begins, has_cut, is_finished, open_since, open_transfer, since_initiate, transfer_of}
use Rattle.co_sdo.specs.Replies.{is_in_sub_block, is_sub_block}
use Rattle.co_sdo_laws.proofs.Channel.{ended, tick_opens}
use Rattle.co_node_parts.specs.declared.nmt_state.LossReaction.{LossReaction}
use Rattle.co_node_parts.specs.declared.nmt_state.NodeState.{NodeState}
use Rattle.co_node_parts.specs.declared.nmt_state.NodeState.TheVariants.{Operational, PreOperational, Stopped}
use Rattle.co_node_parts.specs.NmtStates.{StateLog, after_loss, is_state, state_after}
use Rattle.co_node_model.specs.declared.address.Address.{Address}
use Rattle.co_node_model.specs.declared.address.Address.TheVariants.{Channel, ErrorControl, Nmt, Nobody, Rpdo, Sync}
use Rattle.co_node_model.specs.Addresses.{address_at}
use Rattle.co_node_model.specs.AppEvents.{event_refusal, with_app_event}
use Rattle.co_node_model.specs.Device.{moment, moments, state_of, with_frame}
use Rattle.co_node_model.specs.Heartbeats.{is_heartbeat, loss_event}
use Rattle.co_node_model.specs.Inputs.{AppView, Applied, ChangedAt, Cleared, EventOn, Framed, Inputs, InputView, Raised, Ticked, Written}
use Rattle.co_node_model.specs.Marks.{marked_command, marked_tick}
use Rattle.co_node_model.specs.Moments.{Constants, History, Moment, channels, contents_at, nothing_of}
use Rattle.co_node_model.specs.Nmt.{commanded_event, is_reset, state_at, state_log}
use Rattle.co_node_model.specs.Sdo.{channel_logs, drops, with_channel_ticks, with_drop}
use Rattle.conode_explain_laws.specs.Downloads.{is_block_begin}
use Rattle.conode_compare_laws.specs.AnswerSenders.{HaveOtherChannels, IsOther}
use Rattle.conode_compare_laws.specs.Identifiers.{IsAside}
use Rattle.conode_compare_laws.proofs.Inputs.{command_in, command_is, state_by}

-- ---- the channel of an exchange

exchange_either : (P : ChannelEvent → Type 0) (b : Bool) (x y : Moment) → IfSome x.exchange P → IfSome y.exchange P → IfSome (if b then x else y).exchange P
exchange_either P true x y p q = p
exchange_either P false x y p q = q

exchange_found : (P : ChannelEvent → Type 0) (c : Option ChannelSettings) (d : Description) (contents : Contents) (logs : ℕ → Log) (frame : FrameContent)
    → IfSome c (λ one. P (exchange_on one d contents (logs one.number) frame.bytes)) → IfSome (exchange_at c d contents logs frame) P
exchange_found P None d contents logs frame h = tt
exchange_found P (Some c) d contents logs frame h = by (length frame.bytes == 8)
  where
    by : (b : Bool) → IfSome (if b then Some (exchange_on c d contents (logs c.number) frame.bytes) else None) P
    by true = h
    by false = tt

-- the exchange of a frame that the channel with these settings takes
abbrev pub exchange_of_frame : Constants → History → FrameContent → ChannelSettings → ChannelEvent
exchange_of_frame k history frame c = exchange_on c k.description (contents_at k history) (channel_logs history c.number) frame.bytes

by_address : (P : ChannelEvent → Type 0) (k : Constants) (history : History) (address : Address) (frame : FrameContent) (input : InputView)
    → IfSome (receiver (channels k) frame.id) (λ c. P (exchange_of_frame k history frame c))
    → IfSome (with_frame k history address frame (nothing_of input (contents_at k history))).exchange P
by_address P k history Nmt frame input h = tt
by_address P k history Sync frame input h = exchange_either P (is_state Stopped (state_at history)) _ _ tt tt
by_address P k history (Channel j) frame input h =
    exchange_either P (is_state Stopped (state_at history)) _ _ tt (exchange_found P (receiver (channels k) frame.id) k.description (contents_at k history) (channel_logs history) frame h)
by_address P k history (Rpdo n) frame input h = exchange_either P (is_state Operational (state_at history)) _ _ tt tt
by_address P k history (ErrorControl node) frame input h = exchange_either P (is_heartbeat (heartbeat_in frame.bytes)) _ _ tt tt
by_address P k history Nobody frame input h = tt

pub frame_exchange : (P : ChannelEvent → Type 0) (k : Constants) (history : History) (frame : FrameContent) → IfSome (receiver (channels k) frame.id) (λ c. P (exchange_of_frame k history frame c))
    → IfSome (moment k history (Framed frame)).exchange P
frame_exchange P k history frame h = by_address P k history (address_at k history frame.id) frame (Framed frame) h

event_exchange : (d : Description) (event : AppView) (refusal : Option ℕ) (input : InputView) (c : Contents) → (with_app_event d event refusal (nothing_of input c)).exchange ≡ None
event_exchange d event (Some code) input c = refl
event_exchange d (Written key bytes) None input c = refl
event_exchange d (EventOn n) None input c = refl
event_exchange d (ChangedAt key) None input c = refl
event_exchange d (Raised code bits manufacturer) None input c = refl
event_exchange d (Cleared bits) None input c = refl

pub no_exchange_of_event : (k : Constants) (history : History) (event : AppView) → (moment k history (Applied event)).exchange ≡ None
no_exchange_of_event k history event = event_exchange k.description event (event_refusal k.description (contents_at k history) event) (Applied event) (contents_at k history)

-- while stopped there is none
either_none : (b : Bool) (x y : Moment) → x.exchange ≡ None → y.exchange ≡ None → (if b then x else y).exchange ≡ None
either_none true x y p q = p
either_none false x y p q = q

stopped_by : (k : Constants) (history : History) (address : Address) (frame : FrameContent) (input : InputView) (c : Contents) → is_state Stopped (state_at history) ≡ true
    → (with_frame k history address frame (nothing_of input c)).exchange ≡ None
stopped_by k history Nmt frame input c on = refl
stopped_by k history Sync frame input c on = either_none (is_state Stopped (state_at history)) _ _ refl refl
stopped_by k history (Channel j) frame input c on = rw on refl
stopped_by k history (Rpdo n) frame input c on = either_none (is_state Operational (state_at history)) _ _ refl refl
stopped_by k history (ErrorControl node) frame input c on = either_none (is_heartbeat (heartbeat_in frame.bytes)) _ _ refl refl
stopped_by k history Nobody frame input c on = refl

pub none_stopped : (k : Constants) (history : History) (input : InputView) → is_state Stopped (state_at history) ≡ true → (moment k history input).exchange ≡ None
none_stopped k history (Framed frame) on = stopped_by k history (address_at k history frame.id) frame (Framed frame) (contents_at k history) on
none_stopped k history Ticked on = refl
none_stopped k history (Applied event) on = no_exchange_of_event k history event

-- ---- a time-out

abbrev pub IsTimeOut : Event → Type 0
IsTimeOut (TimedOut answers) = Unit {0}
IsTimeOut _ = ⊥

event_timed_out : (d : Description) (event : AppView) (refusal : Option ℕ) (input : InputView) (c : Contents) → (with_app_event d event refusal (nothing_of input c)).timed_out ≡ None
event_timed_out d event (Some code) input c = refl
event_timed_out d (Written key bytes) None input c = refl
event_timed_out d (EventOn n) None input c = refl
event_timed_out d (ChangedAt key) None input c = refl
event_timed_out d (Raised code bits manufacturer) None input c = refl
event_timed_out d (Cleared bits) None input c = refl

timed_either : (b : Bool) (x y : Moment) → x.timed_out ≡ None → y.timed_out ≡ None → (if b then x else y).timed_out ≡ None
timed_either true x y p q = p
timed_either false x y p q = q

timed_by : (k : Constants) (history : History) (address : Address) (frame : FrameContent) (input : InputView) (c : Contents) → (with_frame k history address frame (nothing_of input c)).timed_out ≡ None
timed_by k history Nmt frame input c = refl
timed_by k history Sync frame input c = timed_either (is_state Stopped (state_at history)) _ _ refl refl
timed_by k history (Channel j) frame input c = timed_either (is_state Stopped (state_at history)) _ _ refl refl
timed_by k history (Rpdo n) frame input c = timed_either (is_state Operational (state_at history)) _ _ refl refl
timed_by k history (ErrorControl node) frame input c = timed_either (is_heartbeat (heartbeat_in frame.bytes)) _ _ refl refl
timed_by k history Nobody frame input c = refl

pub none_at_frame : (k : Constants) (history : History) (frame : FrameContent) → (moment k history (Framed frame)).timed_out ≡ None
none_at_frame k history frame = timed_by k history (address_at k history frame.id) frame (Framed frame) (contents_at k history)

pub none_at_event : (k : Constants) (history : History) (event : AppView) → (moment k history (Applied event)).timed_out ≡ None
none_at_event k history event = event_timed_out k.description event (event_refusal k.description (contents_at k history) event) (Applied event) (contents_at k history)

-- the channel that times out, as it is found at a tick
abbrev pub expired_at : Constants → History → Option ChannelSettings
expired_at k history = expired_in (channels k) (with_each Elapsed (channel_logs history))

-- what holds of each channel that times out holds of the time-out
time_out_found : (P : ChannelEvent → Type 0) (k : Constants) (history : History) (c : Option ChannelSettings) → IfSome c (λ one. P (time_out_on one (Elapsed ∷ channel_logs history one.number)))
    → IfSome (option_map (λ one. time_out_on one (with_each Elapsed (channel_logs history) one.number)) c) P
time_out_found P k history None h = tt
time_out_found P k history (Some c) h = h

none_some : {A : Type 0} (o : Option A) (P : A → Type 0) → o ≡ None → IfSome o P
none_some None P h = tt
none_some (Some x) P h = absurd (let no : is_some (Some x) ≡ false = ap is_some h in false≢true (sym no))

pub timed_out : (P : ChannelEvent → Type 0) (k : Constants) (history : History) (input : InputView)
    → IfSome (expired_at k history) (λ c. P (time_out_on c (Elapsed ∷ channel_logs history c.number))) → IfSome (moment k history input).timed_out P
timed_out P k history Ticked h = time_out_found P k history (expired_at k history) h
timed_out P k history (Framed frame) h = none_some _ P (timed_by k history (address_at k history frame.id) frame (Framed frame) (contents_at k history))
timed_out P k history (Applied event) h = none_some _ P (event_timed_out k.description event (event_refusal k.description (contents_at k history) event) (Applied event) (contents_at k history))

-- ---- nothing is open

pub dropped_since : (x : Option Since) → open_since (and_event Dropped x) ≡ None
dropped_since None = refl
dropped_since (Some x) = refl

idle_dropped : (b : Bool) (logs : ℕ → Log) → open_transfer (logs 0) ≡ None → open_transfer (with_drop b logs 0) ≡ None
idle_dropped true logs h = dropped_since (since_initiate (logs 0))
idle_dropped false logs h = h

idle_ticked : (b : Bool) (logs : ℕ → Log) → open_transfer (logs 0) ≡ None → open_transfer (with_channel_ticks b logs 0) ≡ None
idle_ticked true logs h = tick_opens (logs 0) ∙ h
idle_ticked false logs h = h

-- another channel's
abbrev pub IsAnother : Option ChannelEvent → Type 0
IsAnother event = IfSome event (λ e. (0 == e.channel.number) ≡ false)

idle_another : (event : Option ChannelEvent) (logs : ℕ → Log) → IsAnother event → open_transfer (logs 0) ≡ None → open_transfer (logs_after event logs 0) ≡ None
idle_another None logs a h = h
idle_another (Some e) logs a h = rw a h

idle_timed_out : (event : Option ChannelEvent) (logs : ℕ → Log) → IfSome event (λ e. IsTimeOut e.event) → open_transfer (logs 0) ≡ None → open_transfer (logs_after event logs 0) ≡ None
idle_timed_out None logs t h = h
idle_timed_out (Some e) logs t h = by (0 == e.channel.number)
  where
    closed : (event : Event) → IsTimeOut event → open_transfer (event ∷ logs 0) ≡ None
    closed (TimedOut answers) t = ended (logs 0) answers
    closed _ t = absurd t

    by : (b : Bool) → open_transfer (if b then e.event ∷ logs 0 else logs 0) ≡ None
    by true = closed e.event t
    by false = h

pub all_time_outs : (k : Constants) (history : History) (c : Option ChannelSettings) → IfSome c (λ one. IsTimeOut (time_out_on one (Elapsed ∷ channel_logs history one.number)).event)
all_time_outs k history None = tt
all_time_outs k history (Some c) = tt

-- it stays so at an input that another channel takes, or none
pub idle_stays : (k : Constants) (history : History) (input : InputView) → IsAnother (moment k history input).exchange → open_transfer (channel_logs history 0) ≡ None
    → open_transfer (channel_logs (moment k history input ∷ history) 0) ≡ None
idle_stays k history input another h =
    let m : Moment = moment k history input in
    idle_dropped (drops m history) _
    (idle_timed_out m.timed_out _ (timed_out (λ e. IsTimeOut e.event) k history input (all_time_outs k history (expired_at k history)))
    (idle_ticked (marked_tick m.mark) _ (idle_another m.exchange (channel_logs history) another h)))

was_stopped : (before after : NodeState) (reset : Bool) → is_state Stopped after ≡ true → (reset || (not (is_state before Stopped) && is_state after Stopped)) ≡ false → is_state Stopped before ≡ true
was_stopped Stopped after reset on off = refl
was_stopped PreOperational Stopped true on off = absurd (false≢true (sym off))
was_stopped PreOperational Stopped false on off = absurd (false≢true (sym off))
was_stopped PreOperational PreOperational reset on off = absurd (false≢true on)
was_stopped PreOperational Operational reset on off = absurd (false≢true on)
was_stopped Operational Stopped true on off = absurd (false≢true (sym off))
was_stopped Operational Stopped false on off = absurd (false≢true (sym off))
was_stopped Operational PreOperational reset on off = absurd (false≢true on)
was_stopped Operational Operational reset on off = absurd (false≢true on)

-- while stopped nothing is
pub idle_stopped : (k : Constants) (before : Inputs) → is_state Stopped (state_of k before) ≡ true → open_transfer (channel_logs (moments k before) 0) ≡ None
idle_stopped k [] on = refl
idle_stopped k (input ∷ before) on = by (drops m history) refl (idle_stopped k before)
  where
    history : History
    history = moments k before

    m : Moment
    m = moment k (moments k before) input

    by : (b : Bool) → drops m history ≡ b → (is_state Stopped (state_of k before) ≡ true → open_transfer (channel_logs (moments k before) 0) ≡ None)
        → open_transfer (with_drop b (logs_after m.timed_out (with_channel_ticks (marked_tick m.mark) (logs_after m.exchange (channel_logs history)))) 0) ≡ None
    by true is earlier = dropped_since (since_initiate (logs_after m.timed_out (with_channel_ticks (marked_tick m.mark) (logs_after m.exchange (channel_logs history))) 0))
    by false is earlier =
        let stopped : is_state Stopped (state_of k before) ≡ true = was_stopped (state_at history) (state_at (m ∷ history)) (is_reset m.mark) on is in
        idle_timed_out m.timed_out _ (timed_out (λ e. IsTimeOut e.event) k history input (all_time_outs k history (expired_at k history)))
        (idle_ticked (marked_tick m.mark) _
        (idle_another m.exchange (channel_logs history) (none_some m.exchange (λ e. (0 == e.channel.number) ≡ false) (none_stopped k history input stopped)) (earlier stopped)))

-- ---- no block download

-- the last initiate request begins none
abbrev pub Clean : Log → Type 0
Clean log = IfSome (since_initiate log) (λ s. is_block_begin (request_in s.begin.request) ≡ false)

abbrev pub IsCleanEvent : Event → Type 0
IsCleanEvent (Exchanged x) = is_block_begin (request_in x.request) ≡ false
IsCleanEvent _ = Unit {0}

clean_and : (event : Event) (x : Option Since) → IfSome x (λ s. is_block_begin (request_in s.begin.request) ≡ false) → IfSome (and_event event x) (λ s. is_block_begin (request_in s.begin.request) ≡ false)
clean_and event None h = tt
clean_and event (Some s) h = h

clean_event : (event : Event) (log : Log) → IsCleanEvent event → Clean log → Clean (event ∷ log)
clean_event (Exchanged x) log e h = by (begins (open_since (since_initiate log)) x.request)
  where
    by : (b : Bool) → IfSome (if b then Some (record { begin = x; later = [] }) else and_event (Exchanged x) (since_initiate log)) (λ s. is_block_begin (request_in s.begin.request) ≡ false)
    by true = e
    by false = clean_and (Exchanged x) (since_initiate log) h
clean_event Elapsed log e h = clean_and Elapsed (since_initiate log) h
clean_event (TimedOut answers) log e h = clean_and (TimedOut answers) (since_initiate log) h
clean_event Dropped log e h = clean_and Dropped (since_initiate log) h

clean_dropped : (b : Bool) (logs : ℕ → Log) → Clean (logs 0) → Clean (with_drop b logs 0)
clean_dropped true logs h = clean_event Dropped (logs 0) tt h
clean_dropped false logs h = h

clean_ticked : (b : Bool) (logs : ℕ → Log) → Clean (logs 0) → Clean (with_channel_ticks b logs 0)
clean_ticked true logs h = clean_event Elapsed (logs 0) tt h
clean_ticked false logs h = h

clean_after : (event : Option ChannelEvent) (logs : ℕ → Log) → IfSome event (λ e. (0 == e.channel.number) ≡ true → IsCleanEvent e.event) → Clean (logs 0) → Clean (logs_after event logs 0)
clean_after None logs e h = h
clean_after (Some e) logs clean h = by (0 == e.channel.number) refl
  where
    by : (b : Bool) → (0 == e.channel.number) ≡ b → Clean (if b then e.event ∷ logs 0 else logs 0)
    by true is = clean_event e.event (logs 0) (clean is) h
    by false is = h

clean_time_out : (event : Event) → IsTimeOut event → IsCleanEvent event
clean_time_out (TimedOut answers) t = tt
clean_time_out _ t = absurd t

clean_time_outs : (k : Constants) (history : History) (c : Option ChannelSettings) → IfSome c (λ one. (0 == one.number) ≡ true → IsCleanEvent (time_out_on one (Elapsed ∷ channel_logs history one.number)).event)
clean_time_outs k history None = tt
clean_time_outs k history (Some c) = λ h. tt

pub clean_at : (k : Constants) (history : History) (input : InputView) → IfSome (moment k history input).exchange (λ e. (0 == e.channel.number) ≡ true → IsCleanEvent e.event) → Clean (channel_logs history 0)
    → Clean (channel_logs (moment k history input ∷ history) 0)
clean_at k history input clean h =
    let m : Moment = moment k history input in
    clean_dropped (drops m history) _
    (clean_after m.timed_out _ (timed_out (λ e. (0 == e.channel.number) ≡ true → IsCleanEvent e.event) k history input (clean_time_outs k history (expired_at k history)))
    (clean_ticked (marked_tick m.mark) _ (clean_after m.exchange (channel_logs history) clean h)))

-- then the next frame isn't inside a sub-block
outside_by : (r : Option SdoRequest) (t : Transfer) → is_block_begin r ≡ false → is_in_sub_block (opened_by r t) ≡ false
outside_by (Some (DownloadInitiate key size)) t n = refl
outside_by (Some (UploadInitiate key)) t n = refl
outside_by (Some (BlockUploadInitiate key size threshold)) t n = by t.later
  where
    ended_or : (b : Bool) (count sent : ℕ) → is_sub_block (if b then BlockUploadEnded else BlockUpload count sent) ≡ false
    ended_or true count sent = refl
    ended_or false count sent = refl

    by : (later : List Exchange) → is_sub_block (block_upload_stage size later) ≡ false
    by [] = refl
    by (x ∷ older) = ended_or _ _ _
outside_by (Some (BlockDownloadInitiate key size)) t n = absurd (false≢true (sym n))
outside_by _ t n = refl

pub outside : (log : Log) → Clean log → is_in_sub_block (opened_after log) ≡ false
outside log h = by (since_initiate log) h
  where
    by : (x : Option Since) → IfSome x (λ s. is_block_begin (request_in s.begin.request) ≡ false) → is_in_sub_block (opened (open_since x)) ≡ false
    by None h = refl
    by (Some s) h = if_open (has_cut s.begin s.later || is_finished (transfer_of s))
      where
        if_open : (b : Bool) → is_in_sub_block (opened (if b then None else Some (transfer_of s))) ≡ false
        if_open true = refl
        if_open false = outside_by (request_in s.begin.request) (transfer_of s) h

-- ---- the identifiers of the channels

-- of the default one its two; of another one neither, nor those of NMT and error control
pub record IsNumbered (node : ℕ) (c : ChannelSettings) : Type 0 where
  pub first : c.number ≡ 0 → (c.request ≡ 0x600 + node) × (c.response ≡ 0x580 + node)
  pub other : c.number ≢ 0 → IsOther node c.response
  pub aside : IsAside node c.response

own_ids : (k : Constants) (n : ℕ) → n ≡ 0
    → ((settings_for k.description k.start k.greatest k.time n).request ≡ 0x600 + k.description.node) × ((settings_for k.description k.start k.greatest k.time n).response ≡ 0x580 + k.description.node)
own_ids k n is = subst (λ i. ((settings_for k.description k.start k.greatest k.time i).request ≡ 0x600 + k.description.node) × ((settings_for k.description k.start k.greatest k.time i).response ≡ 0x580 + k.description.node)) (sym is) (refl, refl)

all_own : (k : Constants) (numbers : List ℕ)
    → AllByRecursion (λ (c : ChannelSettings). c.number ≡ 0 → (c.request ≡ 0x600 + k.description.node) × (c.response ≡ 0x580 + k.description.node))
    (map (settings_for k.description k.start k.greatest k.time) (filter (is_channel k.start) numbers))
all_own k [] = tt
all_own k (n ∷ numbers) = by (is_channel k.start n) (all_own k numbers)
  where
    by : (b : Bool)
        → AllByRecursion (λ (c : ChannelSettings). c.number ≡ 0 → (c.request ≡ 0x600 + k.description.node) × (c.response ≡ 0x580 + k.description.node))
        (map (settings_for k.description k.start k.greatest k.time) (filter (is_channel k.start) numbers))
        → AllByRecursion (λ (c : ChannelSettings). c.number ≡ 0 → (c.request ≡ 0x600 + k.description.node) × (c.response ≡ 0x580 + k.description.node))
        (map (settings_for k.description k.start k.greatest k.time) (if b then n ∷ filter (is_channel k.start) numbers else filter (is_channel k.start) numbers))
    by true later = (own_ids k n, later)
    by false later = later

own : (k : Constants) → AllByRecursion (λ (c : ChannelSettings). c.number ≡ 0 → (c.request ≡ 0x600 + k.description.node) × (c.response ≡ 0x580 + k.description.node)) (channels k)
unfolding channels_below
own k = all_own k (range_with_len 0 128)

all_three : (node : ℕ) (cs : List ChannelSettings) → AllByRecursion (λ (c : ChannelSettings). c.number ≡ 0 → (c.request ≡ 0x600 + node) × (c.response ≡ 0x580 + node)) cs
    → AllByRecursion (λ (c : ChannelSettings). c.number ≢ 0 → IsOther node c.response) cs → AllByRecursion (λ (c : ChannelSettings). IsAside node c.response) cs → AllByRecursion (IsNumbered node) cs
all_three node [] a b c = tt
all_three node (x ∷ cs) a b c = (record { first = a.0; other = b.0; aside = c.0 }, all_three node cs a.1 b.1 c.1)

pub numbered : (k : Constants) → HaveOtherChannels k → AllByRecursion (λ c. IsAside k.description.node c.response) (channels k) → AllByRecursion (IsNumbered k.description.node) (channels k)
numbered k other aside = all_three k.description.node (channels k) (own k) other aside

-- one that is found
pub found_with : (P : ChannelSettings → Type 0) (test : ChannelSettings → Bool) (all : List ChannelSettings) → AllByRecursion P all → IfSome (find test all) (λ c. P c × (test c ≡ true))
found_with P test [] h = tt
found_with P test (c ∷ others) h = by (test c) refl (found_with P test others h.1)
  where
    by : (b : Bool) → test c ≡ b → IfSome (find test others) (λ c. P c × (test c ≡ true)) → IfSome (if b then Some c else find test others) (λ c. P c × (test c ≡ true))
    by true is later = (h.0, is)
    by false is later = later

-- ---- the state after an input

by_command : (command : Option NmtService) (log : StateLog) → state_after (commanded_event command ∷ log) ≡ state_by command (state_after log)
by_command None log = refl
by_command (Some service) log = refl

by_loss : (P : NodeState → Type 0) → ((s : NodeState) (reaction : LossReaction) → P s → P (after_loss reaction s)) → (subs : List ℕ) (c : Contents) (log : StateLog) → P (state_after log) → P (state_after (loss_event subs c ∷ log))
by_loss P lost [] c log h = h
by_loss P lost (sub ∷ subs) c log h = lost (state_after log) _ h

-- what a lost heartbeat leaves, and holds after the command, holds then
pub at_end : (P : NodeState → Type 0) → ((s : NodeState) (reaction : LossReaction) → P s → P (after_loss reaction s)) → (k : Constants) (history : History) (input : InputView)
    → P (state_by (command_in k.description.node input) (state_at history)) → P (state_at (moment k history input ∷ history))
at_end P lost k history input h =
    let m : Moment = moment k history input in
    by_loss P lost m.lost m.received (commanded_event (marked_command m.mark) ∷ state_log history)
    (subst P (sym (by_command (marked_command m.mark) (state_log history) ∙ ap (λ command. state_by command (state_at history)) (command_is k history input))) h)
