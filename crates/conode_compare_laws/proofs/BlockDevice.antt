-- The sub-blocks of a device's default channel: when the device is inside one, and what it answers there.
use Rattle.std.proofs.Common.{◌≡◌, ℕ, Bool, true, false, not, List, [], ◌∷◌, Option, Some, None, refl, sym, ap, ◌∙◌, ◌⊎◌, inl, inr}
use Rattle.std.specs.Prelude.{◌==◌, ◌&&◌, ◌||◌, if◌then◌else◌, IfSome, option_map}
use Rattle.std.specs.List.{list_any}
use Rattle.std.specs.Option.{option_map_or}
use Rattle.std.proofs.lemmas.Bool.{false≢true}
use Rattle.co_value.specs.declared.key.Key.{Key}
use Rattle.co_frame.specs.SegmentSizes.{segments_per_sub_block}
use Rattle.co_frame.specs.SdoFields.{command}
use Rattle.co_frame.specs.SdoRequests.{request_in}
use Rattle.co_frame.specs.declared.sdo_request.SdoRequest.{SdoRequest}
use Rattle.co_frame.specs.declared.sdo_request.SdoRequest.TheVariants.{BlockDownloadInitiate}
use Rattle.co_frame.specs.declared.sdo_response.SdoResponse.TheVariants.{Abort as Refuse, BlockDownloadAcknowledge, BlockDownloadInitiated}
use Rattle.co_dict.specs.Rows.{Contents}
use Rattle.co_dict.specs.Stores.{Description}
use Rattle.co_sdo.specs.declared.stage.Stage.{Stage}
use Rattle.co_sdo.specs.declared.stage.Stage.TheVariants.{SubBlock}
use Rattle.co_sdo.specs.Channels.{ChannelSettings}
use Rattle.co_sdo.specs.Events.{ChannelEvent, exchange_on, logs_after, time_out_on}
use Rattle.co_sdo.specs.Log.{Event, Exchange, Exchanged, Log, Response as Replied, Ticked as Elapsed, TimedOut, Dropped, is_abort, requests}
use Rattle.co_sdo.specs.Opened.{OpenTransfer, opened, opened_after}
use Rattle.co_sdo.specs.OpenTransfers.{Transfer, begins, is_abort_request, is_cut, is_finished, is_initiate as initiates, is_inside, is_inside_after, open_transfer, since_initiate}
use Rattle.co_sdo.specs.Refused.{initiate_refusal}
use Rattle.co_sdo.specs.Replies.{answers_to, frame_answers, is_in_sub_block, is_sub_block, reply_to, request_answers, sub_block_refusal, taken_with, time_out_reply, unless_refused}
use Rattle.co_sdo.specs.SubBlocks.{ends_sub_block, has_last}
use Rattle.co_sdo.proofs.Logs.{after_initiates, after_nothing, after_open, begun, extended, inside_is}
use Rattle.co_sdo_laws.proofs.Channel.{ended, tick_opens}
use Rattle.co_node_laws.proofs.Channel.{default_channel}
use Rattle.co_node_model.specs.Device.{moment}
use Rattle.co_node_model.specs.Inputs.{InputView, Ticked}
use Rattle.co_node_model.specs.Marks.{marked_command, marked_tick}
use Rattle.co_node_model.specs.Moments.{Constants, History, Moment}
use Rattle.co_node_model.specs.Nmt.{is_reset, is_reset_by}
use Rattle.co_node_model.specs.Sdo.{channel_logs, drops, with_channel_ticks, with_drop}
use Rattle.conode_explain_laws.specs.Downloads.{is_block_begin}
use Rattle.conode_explain_laws.proofs.Begins.{inside_answers, outside_answers}
use Rattle.conode_compare_laws.proofs.AnswerDevice.{IsAnother, IsTimeOut, all_time_outs, dropped_since, expired_at, timed_out}
use Rattle.conode_compare_laws.proofs.AnswerOpened.{exchange_with, not_inside, refused_any}

-- ---- inside a sub-block

-- the next frame falls inside a sub-block of a download
abbrev pub IsInside : Log → Type 0
IsInside log = is_in_sub_block (opened_after log) ≡ true

inside_by : (log : Log) → is_in_sub_block (opened_after log) ≡ option_map_or is_inside (open_transfer log) false
inside_by log = inside_is (open_transfer log)

never : (o : Option Transfer) → o ≡ None → option_map_or is_inside o false ≡ true → ⊥
never o none h = false≢true (sym (ap (λ x. option_map_or is_inside x false) none) ∙ h)

pub closed_never : (log : Log) → open_transfer log ≡ None → IsInside log → ⊥
closed_never log none h = never (open_transfer log) none (sym (inside_by log) ∙ h)

-- ---- a frame outside one: it begins none but by the request of a block download

begun_outside : (x : Exchange) → is_block_begin (request_in x.request) ≡ false → option_map_or is_inside (begun x) false ≡ false
begun_outside x n = by (list_any is_abort x.answers || is_finished (record { begin = x; later = [] }))
  where
    by : (b : Bool) → option_map_or is_inside (if b then None else Some (record { begin = x; later = [] })) false ≡ false
    by true = refl
    by false = not_inside (request_in x.request) [] n

less : (r : Option SdoRequest) (later : List (List ℕ)) (frame : List ℕ) → is_inside_after r later ≡ false → is_inside_after r (frame ∷ later) ≡ false
less (Some (BlockDownloadInitiate key size)) later frame h = by (has_last later) _ h
  where
    by : (a b : Bool) → not a ≡ false → not (a || b) ≡ false
    by true b h = refl
    by false b h = absurd (false≢true (sym h))
less _ later frame h = refl

extended_outside : (x : Exchange) (t : Transfer) → is_inside t ≡ false → option_map_or is_inside (extended x t) false ≡ false
extended_outside x t out = by (is_cut (is_inside t) (Exchanged x) || is_finished (record { begin = t.begin; later = x ∷ t.later }))
  where
    by : (b : Bool) → option_map_or is_inside (if b then None else Some (record { begin = t.begin; later = x ∷ t.later })) false ≡ false
    by true = refl
    by false = less (request_in t.begin.request) (requests t.later) x.request out

module _ (d : Description) (contents : Contents) (log : Log) (frame : List ℕ) (out : is_in_sub_block (opened_after log) ≡ false) where
  -- each initiate request begins a transfer
  begins_is : begins (open_transfer log) frame ≡ initiates (request_in frame)
  begins_is = ap (λ b. not b && initiates (request_in frame)) (sym (inside_by log) ∙ out)

  none_after : initiates (request_in frame) ≡ false → open_transfer log ≡ None → open_transfer (Exchanged (exchange_with d contents log frame) ∷ log) ≡ None
  none_after i none =
      let replies : reply_to d contents log frame ≡ request_answers d contents None (request_in frame) = ap (λ o. answers_to d contents (opened o) frame) none in
      after_nothing log (exchange_with d contents log frame) none i
      (ap (λ answers. is_abort_request (request_in frame) || list_any is_abort answers) replies ∙ refused_any d contents (request_in frame) i)

  pub outside_stays : is_block_begin (request_in frame) ≡ false → is_in_sub_block (opened_after (Exchanged (exchange_with d contents log frame) ∷ log)) ≡ false
  outside_stays n = inside_by (Exchanged (exchange_with d contents log frame) ∷ log) ∙ by (initiates (request_in frame)) refl
    where
      later : initiates (request_in frame) ≡ false → (o : Option Transfer) → open_transfer log ≡ o → option_map_or is_inside o false ≡ false
          → option_map_or is_inside (open_transfer (Exchanged (exchange_with d contents log frame) ∷ log)) false ≡ false
      later i None e h = ap (λ x. option_map_or is_inside x false) (none_after i e)
      later i (Some t) e h =
          ap (λ x. option_map_or is_inside x false) (after_open log (exchange_with d contents log frame) t e (ap (λ o. begins o frame) (sym e) ∙ begins_is ∙ i))
          ∙ extended_outside (exchange_with d contents log frame) t h

      by : (i : Bool) → initiates (request_in frame) ≡ i → option_map_or is_inside (open_transfer (Exchanged (exchange_with d contents log frame) ∷ log)) false ≡ false
      by true i = ap (λ x. option_map_or is_inside x false) (after_initiates log (exchange_with d contents log frame) (begins_is ∙ i)) ∙ begun_outside (exchange_with d contents log frame) n
      by false i = later i (open_transfer log) refl (sym (inside_by log) ∙ out)

  -- one that is refused begins none
  pub refused_never : (key : Key) (size : Option ℕ) (code : ℕ) → request_in frame ≡ Some (BlockDownloadInitiate key size) → initiate_refusal d key size ≡ Some code
      → IsInside (Exchanged (exchange_with d contents log frame) ∷ log) → ⊥
  refused_never key size code is refused =
      let replies : reply_to d contents log frame ≡ Replied (Refuse key (record { 0 = code })) ∷ [] =
      outside_answers d contents (opened_after log) frame out ∙ ap (request_answers d contents (opened_after log)) is
      ∙ ap (λ refusal. unless_refused refusal key (Replied (BlockDownloadInitiated key segments_per_sub_block) ∷ [])) refused in
      closed_never (Exchanged (exchange_with d contents log frame) ∷ log)
      (after_initiates log (exchange_with d contents log frame) (begins_is ∙ ap initiates is) ∙ cut (list_any is_abort (reply_to d contents log frame)) (ap (list_any is_abort) replies))
    where
      cut : (b : Bool) → b ≡ true
          → if◌then◌else◌ {A = Option Transfer} (b || is_finished (record { begin = exchange_with d contents log frame; later = [] })) None (Some (record { begin = exchange_with d contents log frame; later = [] })) ≡ None
      cut true h = refl
      cut false h = absurd (false≢true h)

-- ---- a frame inside one

-- no answer: the segment, if it is one, doesn't end the sub-block
pub record Quietly (d : Description) (contents : Contents) (log : Log) (frame : List ℕ) : Type 0 where
  pub goes_on : ends_sub_block frame ≡ false
  pub none : reply_to d contents log frame ≡ []
  pub kept : IsInside (Exchanged (exchange_with d contents log frame) ∷ log) → (command frame == 0x80) ≡ false

pub record Acknowledges (d : Description) (contents : Contents) (log : Log) (frame : List ℕ) : Type 0 where
  pub sequence : ℕ
  pub answers : reply_to d contents log frame ≡ Replied (BlockDownloadAcknowledge sequence segments_per_sub_block) ∷ []

pub record Refuses (d : Description) (contents : Contents) (log : Log) (frame : List ℕ) : Type 0 where
  pub key : Key
  pub code : ℕ
  pub answers : reply_to d contents log frame ≡ Replied (Refuse key (record { 0 = code })) ∷ []
  pub closed : IsInside (Exchanged (exchange_with d contents log frame) ∷ log) → ⊥

module _ (d : Description) (contents : Contents) (log : Log) (frame : List ℕ) (inside : IsInside log) where
  -- it ends with what cuts it
  cut_never : ((command frame == 0x80) || list_any is_abort (reply_to d contents log frame)) ≡ true → IsInside (Exchanged (exchange_with d contents log frame) ∷ log) → ⊥
  cut_never cut = by (open_transfer log) refl (sym (inside_by log) ∙ inside)
    where
      none : (t : Transfer) (b : Bool) → b ≡ true
          → if◌then◌else◌ {A = Option Transfer} (is_cut b (Exchanged (exchange_with d contents log frame)) || is_finished (record { begin = t.begin; later = exchange_with d contents log frame ∷ t.later })) None
          (Some (record { begin = t.begin; later = exchange_with d contents log frame ∷ t.later })) ≡ None
      none t true h =
          ap (λ c. if◌then◌else◌ {A = Option Transfer} (c || is_finished (record { begin = t.begin; later = exchange_with d contents log frame ∷ t.later })) None (Some (record { begin = t.begin; later = exchange_with d contents log frame ∷ t.later }))) cut
      none t false h = absurd (false≢true h)

      by : (o : Option Transfer) → open_transfer log ≡ o → option_map_or is_inside o false ≡ true → IsInside (Exchanged (exchange_with d contents log frame) ∷ log) → ⊥
      by None e h = absurd (false≢true h)
      by (Some t) e h =
          closed_never (Exchanged (exchange_with d contents log frame) ∷ log)
          (after_open log (exchange_with d contents log frame) t e (ap (λ b. not b && initiates (request_in frame)) h) ∙ none t (is_inside t) h)

  pub sub_block_replies : Quietly d contents log frame ⊎ (Acknowledges d contents log frame ⊎ Refuses d contents log frame)
  sub_block_replies = by (opened_after log) refl inside
    where
      quietly : ends_sub_block frame ≡ false → reply_to d contents log frame ≡ [] → Quietly d contents log frame
      quietly goes none = record { goes_on = goes; none = none; kept = λ i. at (command frame == 0x80) refl i }
        where
          at : (b : Bool) → (command frame == 0x80) ≡ b → IsInside (Exchanged (exchange_with d contents log frame) ∷ log) → (command frame == 0x80) ≡ false
          at true e i = absurd (cut_never (ap (λ b. b || list_any is_abort (reply_to d contents log frame)) e) i)
          at false e i = e

      refusing : (key : Key) (code : ℕ) → reply_to d contents log frame ≡ Replied (Refuse key (record { 0 = code })) ∷ [] → Refuses d contents log frame
      refusing key code replies = record { key = key; code = code; answers = replies; closed = cut_never (any (command frame == 0x80) (ap (list_any is_abort) replies)) }
        where
          any : (b : Bool) {c : Bool} → c ≡ true → (b || c) ≡ true
          any true h = refl
          any false h = h

      ended_by : (o : OpenTransfer) (taken : ℕ) (refusal : Option ℕ)
          → reply_to d contents log frame ≡ unless_refused refusal o.key (Replied (BlockDownloadAcknowledge (taken_with taken frame) segments_per_sub_block) ∷ [])
          → Quietly d contents log frame ⊎ (Acknowledges d contents log frame ⊎ Refuses d contents log frame)
      ended_by o taken None replies = inr (inl (record { sequence = taken_with taken frame; answers = replies }))
      ended_by o taken (Some code) replies = inr (inr (refusing o.key code replies))

      segment_by : (o : OpenTransfer) (taken : ℕ) (end : Bool) → ends_sub_block frame ≡ end
          → reply_to d contents log frame ≡ (if end then unless_refused (sub_block_refusal d.rows o taken frame) o.key (Replied (BlockDownloadAcknowledge (taken_with taken frame) segments_per_sub_block) ∷ []) else [])
          → Quietly d contents log frame ⊎ (Acknowledges d contents log frame ⊎ Refuses d contents log frame)
      segment_by o taken true e replies = ended_by o taken (sub_block_refusal d.rows o taken frame) replies
      segment_by o taken false e replies = inl (quietly e replies)

      stage_by : (o : OpenTransfer) (stage : Stage) → is_sub_block stage ≡ true → reply_to d contents log frame ≡ frame_answers d.rows o stage frame
          → Quietly d contents log frame ⊎ (Acknowledges d contents log frame ⊎ Refuses d contents log frame)
      stage_by o (SubBlock indicated taken) on replies = segment_by o taken (ends_sub_block frame) refl replies
      stage_by o _ on replies = absurd (false≢true on)

      by : (current : Option OpenTransfer) → opened_after log ≡ current → is_in_sub_block current ≡ true → Quietly d contents log frame ⊎ (Acknowledges d contents log frame ⊎ Refuses d contents log frame)
      by None e on = absurd (false≢true on)
      by (Some o) e on = stage_by o o.stage on (ap (λ c. answers_to d contents c frame) e ∙ inside_answers d contents o frame on)

-- ---- an input

still_dropped : (b : Bool) (logs : ℕ → Log) → IsInside (with_drop b logs 0) → IsInside (logs 0)
still_dropped true logs h = absurd (closed_never (Dropped ∷ logs 0) (dropped_since (since_initiate (logs 0))) h)
still_dropped false logs h = h

still_ticked : (b : Bool) (logs : ℕ → Log) → IsInside (with_channel_ticks b logs 0) → IsInside (logs 0)
still_ticked true logs h = ap (λ o. is_in_sub_block (opened o)) (sym (tick_opens (logs 0))) ∙ h
still_ticked false logs h = h

still_timed_out : (event : Option ChannelEvent) (logs : ℕ → Log) → IfSome event (λ e. IsTimeOut e.event) → IsInside (logs_after event logs 0) → IsInside (logs 0)
still_timed_out None logs t h = h
still_timed_out (Some e) logs t h = by (0 == e.channel.number) h
  where
    over : (event : Event) → IsTimeOut event → IsInside (event ∷ logs 0) → ⊥
    over (TimedOut answers) t i = closed_never (TimedOut answers ∷ logs 0) (ended (logs 0) answers) i
    over _ t i = absurd t

    by : (b : Bool) → IsInside (if b then e.event ∷ logs 0 else logs 0) → IsInside (logs 0)
    by true i = absurd (over e.event t i)
    by false i = i

-- where it is inside one after an input, it was so after the exchange
after_exchange : (k : Constants) (history : History) (input : InputView) → IsInside (channel_logs (moment k history input ∷ history) 0) → IsInside (logs_after (moment k history input).exchange (channel_logs history) 0)
after_exchange k history input h =
    let m : Moment = moment k history input in
    still_ticked (marked_tick m.mark) (logs_after m.exchange (channel_logs history))
    (still_timed_out m.timed_out (with_channel_ticks (marked_tick m.mark) (logs_after m.exchange (channel_logs history)))
    (timed_out (λ e. IsTimeOut e.event) k history input (all_time_outs k history (expired_at k history)))
    (still_dropped (drops m history) (logs_after m.timed_out (with_channel_ticks (marked_tick m.mark) (logs_after m.exchange (channel_logs history)))) h))

still_another : (event : Option ChannelEvent) (logs : ℕ → Log) → IsAnother event → IsInside (logs_after event logs 0) → IsInside (logs 0)
still_another None logs a h = h
still_another (Some e) logs a h = ap (λ b. is_in_sub_block (opened_after (if b then e.event ∷ logs 0 else logs 0))) (sym a) ∙ h

-- at one that another channel takes, or none
pub inside_before : (k : Constants) (history : History) (input : InputView) → IsAnother (moment k history input).exchange → IsInside (channel_logs (moment k history input ∷ history) 0) → IsInside (channel_logs history 0)
inside_before k history input a h = still_another (moment k history input).exchange (channel_logs history) a (after_exchange k history input h)

-- at a request
pub inside_served : (k : Constants) (history : History) (input : InputView) (contents : Contents) (frame : List ℕ) → (moment k history input).exchange ≡ Some (exchange_on (default_channel k) k.description contents (channel_logs history 0) frame)
    → IsInside (channel_logs (moment k history input ∷ history) 0) → IsInside (Exchanged (exchange_with k.description contents (channel_logs history 0) frame) ∷ channel_logs history 0)
inside_served k history input contents frame is h =
    ap (λ event. is_in_sub_block (opened_after (logs_after event (channel_logs history) 0))) (sym is) ∙ after_exchange k history input h

-- after a reset it isn't
pub reset_never : (k : Constants) (history : History) (input : InputView) → is_reset_by (marked_command (moment k history input).mark) ≡ true → IsInside (channel_logs (moment k history input ∷ history) 0) → ⊥
reset_never k history input reset h =
    let m : Moment = moment k history input in
    let logs : ℕ → Log = logs_after m.timed_out (with_channel_ticks (marked_tick m.mark) (logs_after m.exchange (channel_logs history))) in
    by (is_reset m.mark) reset _ logs h
  where
    by : (a : Bool) → a ≡ true → (b : Bool) (logs : ℕ → Log) → IsInside (with_drop (a || b) logs 0) → ⊥
    by true on b logs i = closed_never (Dropped ∷ logs 0) (dropped_since (since_initiate (logs 0))) i
    by false on b logs i = false≢true on

-- ---- a time-out

-- what times out at a tick
pub times_out : (k : Constants) (history : History) (o : Option ChannelSettings) → expired_at k history ≡ o
    → (moment k history Ticked).timed_out ≡ option_map (λ (c : ChannelSettings). time_out_on c (Elapsed ∷ channel_logs history c.number)) o
times_out k history o e = ap (λ x. option_map (λ (c : ChannelSettings). time_out_on c (Elapsed ∷ channel_logs history c.number)) x) e

-- it isn't inside one then
pub timed_out_never : (k : Constants) (history : History) (c : ChannelSettings) → expired_at k history ≡ Some c → (0 == c.number) ≡ true → IsInside (channel_logs (moment k history Ticked ∷ history) 0) → ⊥
timed_out_never k history c e zero h =
    let m : Moment = moment k history Ticked in
    let logs : ℕ → Log = with_channel_ticks (marked_tick m.mark) (logs_after m.exchange (channel_logs history)) in
    let i : IsInside (logs_after m.timed_out logs 0) = still_dropped (drops m history) (logs_after m.timed_out logs) h in
    closed_never (TimedOut (time_out_reply (Elapsed ∷ channel_logs history c.number)) ∷ logs 0) (ended (logs 0) (time_out_reply (Elapsed ∷ channel_logs history c.number)))
    (ap (λ b. is_in_sub_block (opened_after (if b then TimedOut (time_out_reply (Elapsed ∷ channel_logs history c.number)) ∷ logs 0 else logs 0))) (sym zero)
    ∙ ap (λ event. is_in_sub_block (opened_after (logs_after event logs 0))) (sym (times_out k history (Some c) e)) ∙ i)
