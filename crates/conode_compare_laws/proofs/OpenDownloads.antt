-- A download of an entry in segments or in blocks that is open on the default SDO channel of a device: what the device answers then, and
-- which frame writes the entry.
use Rattle.std.proofs.Common.{◌≡◌, ℕ, ◌+◌, Bool, true, false, not, List, [], ◌∷◌, length, Option, Some, None, refl, sym, ap, ◌∙◌, ◌⊎◌, inl, inr, subst}
use Rattle.std.specs.Prelude.{◌==◌, ◌&&◌, ◌||◌, if◌then◌else◌, IfSome}
use Rattle.std.specs.List.{AllByRecursion, list_any}
use Rattle.std.specs.Option.{option_map_or}
use Rattle.std.proofs.lemmas.Bool.{eqb-true, false≢true}
use Rattle.co_value.specs.declared.key.Key.{Key}
use Rattle.co_value.specs.Keys.{same_key}
use Rattle.co_frame.specs.FrameContent.{FrameContent}
use Rattle.co_frame.specs.SdoRequests.{request_in}
use Rattle.co_frame.specs.declared.sdo_request.SdoRequest.{SdoRequest}
use Rattle.co_frame.specs.declared.sdo_request.SdoRequest.TheVariants.{
  Abort as ClientAbort,
  BlockDownloadEnd,
  BlockDownloadInitiate,
  BlockUploadAcknowledge,
  BlockUploadEnd,
  BlockUploadInitiate,
  BlockUploadStart,
  DownloadExpedited,
  DownloadInitiate,
  DownloadSegment,
  Upload as UploadInitiate,
  UploadSegment,
}
use Rattle.co_dict.specs.Rows.{Contents, Rows}
use Rattle.co_dict.specs.Stores.{Description}
use Rattle.co_sdo.specs.Completed.{completed_by, download_with, is_expedited, key_set, permitted, set_by, unless}
use Rattle.co_sdo.specs.Downloads.{
  Download,
  are_all_segments,
  are_all_sub_blocks,
  are_segments,
  download_after,
  is_as_indicated,
  is_block_end,
  is_odd,
  is_segment,
  is_whole_after,
  segments_joined,
  sub_blocks_joined,
  whole_download,
}
use Rattle.co_sdo.specs.SubBlocks.{has_last}
use Rattle.co_sdo.specs.Events.{ChannelEvent, logs_after, set_of}
use Rattle.co_sdo.specs.Log.{Event, Exchange, Exchanged, Log, TimedOut, is_abort, requests}
use Rattle.co_sdo.specs.Opened.{opened, opened_after}
use Rattle.co_sdo.specs.OpenTransfers.{Transfer, begins, is_abort_request, is_cut, is_finished, is_initiate, is_inside, open_transfer, since_initiate}
use Rattle.co_sdo.specs.Refused.{completion_refusal}
use Rattle.co_sdo.specs.Replies.{answers_to, frame_answers, is_in_sub_block, on_open, reply_to, request_answers}
use Rattle.co_sdo.proofs.Logs.{after_initiates, after_nothing, after_open, inside_is}
use Rattle.co_sdo_laws.proofs.Channel.{ended, tick_opens}
use Rattle.co_node_parts.specs.declared.nmt_state.NodeState.TheVariants as node
use Rattle.co_node_parts.specs.NmtStates.{is_state}
use Rattle.co_node_model.specs.declared.address.Address.TheVariants.{Channel}
use Rattle.co_node_model.specs.Addresses.{address_at}
use Rattle.co_node_model.specs.Device.{contents_of, moment, moments, state_of}
use Rattle.co_node_model.specs.Inputs.{Applied, Framed, Inputs, InputView, Ticked}
use Rattle.co_node_model.specs.Keys.{is_set}
use Rattle.co_node_model.specs.Marks.{marked_key, marked_tick, written_mark}
use Rattle.co_node_model.specs.Moments.{Constants, Moment, channels}
use Rattle.co_node_model.specs.Nmt.{is_reset}
use Rattle.co_node_model.specs.Sdo.{channel_logs, drops, with_channel_ticks, with_drop}
use Rattle.co_node_model.specs.Sync.{is_sync_id}
use Rattle.conode_compare_laws.specs.ShownWords.{KeepsWord, is_expedited_download}
use Rattle.conode_compare_laws.proofs.AnswerCalm.{another_exchange}
use Rattle.conode_compare_laws.proofs.AnswerDevice.{IsAnother, IsNumbered, IsTimeOut, all_time_outs, dropped_since, expired_at, no_exchange_of_event, none_stopped, timed_out}
use Rattle.conode_compare_laws.proofs.AnswerInputs.{nmt_exchange, served_is}
use Rattle.conode_compare_laws.proofs.AnswerTransferInputs.{not_equal, same_log}
use Rattle.conode_compare_laws.proofs.ChannelMarks.{address, mark_is, short_mark, stopped_mark}
use Rattle.conode_compare_laws.proofs.ExpeditedAnswers.{AllFit, expedited_fits, inside_fits, is_long_download, long_fits}
use Rattle.conode_compare_laws.proofs.ExpeditedInputs.{AnswersAt}
use Rattle.conode_compare_laws.proofs.ExpeditedRefusals.{AllRefused, inside_refused, refuses}

-- of this entry
abbrev pub downloads : Key → Option Transfer → Bool
downloads key None = false
downloads key (Some t) = is_long_download key (request_in t.begin.request)

-- ---- requests

never_both : (key : Key) (r : Option SdoRequest) → is_expedited_download key r ≡ true → is_long_download key r ≡ true → ⊥
never_both key (Some (DownloadExpedited named value)) own long = false≢true long
never_both key _ own long = false≢true own

expedited_initiates : (key : Key) (r : Option SdoRequest) → is_expedited_download key r ≡ true → is_initiate r ≡ true
expedited_initiates key (Some (DownloadExpedited named value)) own = refl
expedited_initiates key _ own = absurd (false≢true own)

-- one that initiates nothing, where nothing is open
none_cut : (d : Description) (contents : Contents) (r : Option SdoRequest) → is_initiate r ≡ false → (is_abort_request r || list_any is_abort (request_answers d contents None r)) ≡ true
none_cut d contents None i = refl
none_cut d contents (Some (DownloadSegment toggle segment last)) i = refl
none_cut d contents (Some (UploadSegment toggle)) i = refl
none_cut d contents (Some (ClientAbort named code)) i = refl
none_cut d contents (Some BlockUploadEnd) i = refl
none_cut d contents (Some (BlockUploadAcknowledge sequence size)) i = refl
none_cut d contents (Some BlockUploadStart) i = refl
none_cut d contents (Some (BlockDownloadEnd unused)) i = refl
none_cut d contents (Some (DownloadExpedited named value)) i = absurd (false≢true (sym i))
none_cut d contents (Some (DownloadInitiate named size)) i = absurd (false≢true (sym i))
none_cut d contents (Some (UploadInitiate named)) i = absurd (false≢true (sym i))
none_cut d contents (Some (BlockUploadInitiate named size threshold)) i = absurd (false≢true (sym i))
none_cut d contents (Some (BlockDownloadInitiate named size)) i = absurd (false≢true (sym i))

first_of_both : (a b : Bool) → (a && b) ≡ true → a ≡ true
first_of_both true b h = refl
first_of_both false b h = absurd (false≢true h)

not_true : (b : Bool) → not b ≡ true → b ≡ false
not_true true h = absurd (false≢true h)
not_true false h = refl

-- ---- one exchange

module _ (key : Key) where
  if_open : (b : Bool) (t : Transfer) → downloads key (if b then None else Some t) ≡ true → is_long_download key (request_in t.begin.request) ≡ true
  if_open true t h = absurd (false≢true h)
  if_open false t h = h

  -- such a download is open after it: it began with this request, or was open before
  pub data Opens (log : Log) (bytes : List ℕ) : Type 0 where
    begins_now : begins (open_transfer log) bytes ≡ true → is_long_download key (request_in bytes) ≡ true → Opens log bytes
    goes_on : begins (open_transfer log) bytes ≡ false → downloads key (open_transfer log) ≡ true → Opens log bytes

  module _ (d : Description) (contents : Contents) (log : Log) (bytes : List ℕ) where
    abbrev answered : Exchange
    answered = record { request = bytes; contents = contents; answers = reply_to d contents log bytes }

    went_on : (o : Option Transfer) → open_transfer log ≡ o → begins (open_transfer log) bytes ≡ false → downloads key (open_transfer (Exchanged answered ∷ log)) ≡ true → downloads key o ≡ true
    went_on None e b h =
        let i : is_initiate (request_in bytes) ≡ false = subst (λ o. begins o bytes ≡ false) e b in
        let cut : is_cut false (Exchanged answered) ≡ true =
        subst (λ o. (is_abort_request (request_in bytes) || list_any is_abort (answers_to d contents (opened o) bytes)) ≡ true) (sym e) (none_cut d contents (request_in bytes) i) in
        absurd (false≢true (subst (λ o. downloads key o ≡ true) (after_nothing log answered e i cut) h))
    went_on (Some t) e b h =
        if_open (is_cut (is_inside t) (Exchanged answered) || is_finished (record { begin = t.begin; later = answered ∷ t.later })) (record { begin = t.begin; later = answered ∷ t.later })
        (subst (λ o. downloads key o ≡ true) (after_open log answered t e (subst (λ o. begins o bytes ≡ false) e b)) h)

    opens_by : (b : Bool) → begins (open_transfer log) bytes ≡ b → downloads key (open_transfer (Exchanged answered ∷ log)) ≡ true → Opens log bytes
    opens_by true b h =
        begins_now b
        (if_open (list_any is_abort (reply_to d contents log bytes) || is_finished (record { begin = answered; later = [] })) (record { begin = answered; later = [] })
        (subst (λ o. downloads key o ≡ true) (after_initiates log answered b) h))
    opens_by false b h = goes_on b (went_on (open_transfer log) refl b h)

    pub opens : downloads key (open_transfer (Exchanged answered ∷ log)) ≡ true → Opens log bytes
    opens h = opens_by (begins (open_transfer log) bytes) refl h

    -- what is answered then shows no number at once
    pub record Quiet (word : ℕ) : Type 0 where
      pub fits : is_initiate (request_in bytes) ≡ true → AllFit key word (reply_to d contents log bytes)
      pub refused : is_expedited_download key (request_in bytes) ≡ true → AllRefused key (reply_to d contents log bytes)

    pub quiet : (word : ℕ) → Opens log bytes → Quiet word
    quiet word (begins_now b long) =
        let out : is_in_sub_block (opened_after log) ≡ false = inside_is (open_transfer log) ∙ not_true (option_map_or is_inside (open_transfer log) false) (first_of_both (not (option_map_or is_inside (open_transfer log) false)) (is_initiate (request_in bytes)) b) in
        record {
          fits = λ i. subst (λ x. AllFit key word (if x then on_open (opened_after log) (λ o stage. frame_answers d.rows o stage bytes) else request_answers d contents (opened_after log) (request_in bytes))) (sym out)
              (long_fits key word d contents (opened_after log) key (request_in bytes) long);
          refused = λ own. absurd (never_both key (request_in bytes) own long);
        }
    quiet word (goes_on b h) = by (option_map_or is_inside (open_transfer log) false) refl
      where
        by : (inside : Bool) → option_map_or is_inside (open_transfer log) false ≡ inside → Quiet word
        by true is =
            let within : is_in_sub_block (opened_after log) ≡ true = inside_is (open_transfer log) ∙ is in
            record {
              fits = λ i. subst (λ x. AllFit key word (if x then on_open (opened_after log) (λ o stage. frame_answers d.rows o stage bytes) else request_answers d contents (opened_after log) (request_in bytes))) (sym within)
                  (inside_fits key word d.rows (opened_after log) bytes);
              refused = λ own. subst (λ x. AllRefused key (if x then on_open (opened_after log) (λ o stage. frame_answers d.rows o stage bytes) else request_answers d contents (opened_after log) (request_in bytes))) (sym within)
                  (inside_refused key d.rows (opened_after log) bytes);
            }
        by false is =
            let none : is_initiate (request_in bytes) ≡ false = subst (λ x. (not x && is_initiate (request_in bytes)) ≡ false) is b in
            record {
              fits = λ i. absurd (false≢true (sym none ∙ i));
              refused = λ own. absurd (false≢true (sym none ∙ expedited_initiates key (request_in bytes) own));
            }

  -- ---- which frame writes the entry

  abbrev is_named : Option Download → Bool
  is_named None = false
  is_named (Some download) = same_key download.key key

  named_by : (d : Description) (contents : Contents) (o : Option Download) → is_set (key_set (permitted d contents o)) key ≡ true → is_named o ≡ true
  named_by d contents None h = absurd (false≢true h)
  named_by d contents (Some download) h = by (completion_refusal d contents download.key download.indicated download.bytes) h
    where
      by : (refusal : Option ℕ) → is_set (key_set (unless refusal (Some download))) key ≡ true → same_key download.key key ≡ true
      by None h = h
      by (Some code) h = absurd (false≢true h)

  whole : (b : Bool) (o : Option Download) → is_named (if b then o else None) ≡ true → (b ≡ true) × (is_named o ≡ true)
  whole true o h = (refl, h)
  whole false o h = absurd (false≢true h)

  at_once : (rows : Rows) (r : Option SdoRequest) (later : List (List ℕ)) → is_expedited r ≡ true → is_named (download_after rows r later) ≡ true → is_expedited_download key r ≡ true
  at_once rows (Some (DownloadExpedited named value)) later e h = h
  at_once rows _ later e h = absurd (false≢true e)

  -- of an open transfer, which no expedited download is
  long_named : (rows : Rows) (r : Option SdoRequest) (frame : List ℕ) (later : List (List ℕ)) → is_whole_after r (frame ∷ later) ≡ true → is_named (download_after rows r (frame ∷ later)) ≡ true → is_long_download key r ≡ true
  long_named rows (Some (DownloadExpedited named value)) frame later w h = absurd (false≢true w)
  long_named rows (Some (DownloadInitiate named size)) frame later w h = h
  long_named rows (Some (BlockDownloadInitiate named size)) frame later w h = h
  long_named rows _ frame later w h = absurd (false≢true h)

  -- which ends with a frame that initiates nothing
  segment_goes_on : (toggle last : Bool) (r : Option SdoRequest) → is_segment toggle last r ≡ true → is_initiate r ≡ false
  segment_goes_on toggle last (Some (DownloadSegment t segment l)) h = refl
  segment_goes_on toggle last _ h = absurd (false≢true h)

  end_goes_on : (r : Option SdoRequest) → is_block_end r ≡ true → is_initiate r ≡ false
  end_goes_on (Some (BlockDownloadEnd unused)) h = refl
  end_goes_on _ h = absurd (false≢true h)

  last_goes_on : (r : Option SdoRequest) (frame : List ℕ) (later : List (List ℕ)) → is_whole_after r (frame ∷ later) ≡ true → is_initiate (request_in frame) ≡ false
  last_goes_on (Some (DownloadExpedited named value)) frame later w = absurd (false≢true w)
  last_goes_on (Some (DownloadInitiate named size)) frame later w =
      segment_goes_on (is_odd (length later)) true (request_in frame)
      (first_of_both (is_segment (is_odd (length later)) true (request_in frame)) (are_segments later)
      (first_of_both (are_all_segments (frame ∷ later)) (is_as_indicated size (length (segments_joined (frame ∷ later)))) w))
  last_goes_on (Some (BlockDownloadInitiate named size)) frame later w =
      end_goes_on (request_in frame)
      (first_of_both (is_block_end (request_in frame)) (has_last later)
      (first_of_both (are_all_sub_blocks (frame ∷ later)) (is_as_indicated size (length (sub_blocks_joined (frame ∷ later)))) w))
  last_goes_on _ frame later w = absurd (false≢true w)

  open_named : (rows : Rows) (o : Option Transfer) (frame : List ℕ) → is_named (download_with rows o frame) ≡ true → (downloads key o ≡ true) × (is_initiate (request_in frame) ≡ false)
  open_named rows None frame h = absurd (false≢true h)
  open_named rows (Some t) frame h =
      let w = whole (is_whole_after (request_in t.begin.request) (frame ∷ requests t.later)) (download_after rows (request_in t.begin.request) (frame ∷ requests t.later)) h in
      (long_named rows (request_in t.begin.request) frame (requests t.later) w.0 w.1, last_goes_on (request_in t.begin.request) frame (requests t.later) w.0)

  -- it is one at once, or the last frame of the open download
  abbrev pub Completes : Option Transfer → List ℕ → Type 0
  Completes o frame = (is_expedited_download key (request_in frame) ≡ true) ⊎ ((downloads key o ≡ true) × (is_initiate (request_in frame) ≡ false))

  completed_named : (rows : Rows) (o : Option Transfer) (frame : List ℕ) → is_named (completed_by rows o frame) ≡ true → Completes o frame
  completed_named rows o frame h = by (option_map_or is_inside o false) (is_expedited (request_in frame)) refl h
    where
      by : (inside e : Bool) → is_expedited (request_in frame) ≡ e → is_named (if inside then None else (if e then whole_download rows frame [] else download_with rows o frame)) ≡ true
          → Completes o frame
      by true e is h = absurd (false≢true h)
      by false true is h = inl (at_once rows (request_in frame) [] is (whole (is_whole_after (request_in frame) []) (download_after rows (request_in frame) []) h).1)
      by false false is h = inr (open_named rows o frame h)

  pub set_asks : (d : Description) (contents : Contents) (log : Log) (bytes : List ℕ) → is_set (key_set (set_by d contents log bytes)) key ≡ true
      → Completes (open_transfer log) bytes
  set_asks d contents log bytes h = completed_named d.rows (open_transfer log) bytes (named_by d contents (completed_by d.rows (open_transfer log) bytes) h)

  -- ---- at an input

  undropped : (b : Bool) (logs : ℕ → Log) → downloads key (open_transfer (with_drop b logs 0)) ≡ true → (b ≡ false) × (downloads key (open_transfer (logs 0)) ≡ true)
  undropped true logs h = absurd (false≢true (subst (λ o. downloads key o ≡ true) (dropped_since (since_initiate (logs 0))) h))
  undropped false logs h = (refl, h)

  unticked : (b : Bool) (logs : ℕ → Log) → downloads key (open_transfer (with_channel_ticks b logs 0)) ≡ true → downloads key (open_transfer (logs 0)) ≡ true
  unticked true logs h = subst (λ o. downloads key o ≡ true) (tick_opens (logs 0)) h
  unticked false logs h = h

  untimed : (event : Option ChannelEvent) (logs : ℕ → Log) → IfSome event (λ e. IsTimeOut e.event) → downloads key (open_transfer (logs_after event logs 0)) ≡ true → downloads key (open_transfer (logs 0)) ≡ true
  untimed None logs t h = h
  untimed (Some e) logs t h = by (0 == e.channel.number) h
    where
      closed : (event : Event) → IsTimeOut event → open_transfer (event ∷ logs 0) ≡ None
      closed (TimedOut answers) t = ended (logs 0) answers
      closed _ t = absurd t

      by : (b : Bool) → downloads key (open_transfer (if b then e.event ∷ logs 0 else logs 0)) ≡ true → downloads key (open_transfer (logs 0)) ≡ true
      by true h = absurd (false≢true (subst (λ o. downloads key o ≡ true) (closed e.event t) h))
      by false h = h

  -- it is open after inputs
  abbrev pub open_after : Constants → Inputs → Bool
  open_after k before = downloads key (open_transfer (channel_logs (moments k before) 0))

  -- an input asks for such a download now
  abbrev pub AsksLong : ℕ → InputView → Type 0
  AsksLong node (Framed frame) = (frame.id ≡ 0x600 + node) × (is_long_download key (request_in frame.bytes) ≡ true)
  AsksLong node Ticked = ⊥
  AsksLong node (Applied event) = ⊥

  module _ (k : Constants) (before : Inputs) (sync : is_sync_id (contents_of k before) (0x600 + k.description.node) ≡ false) where
    abbrev is_open : Bool
    is_open = open_after k before

    abbrev StaysOpen : InputView → Type 0
    StaysOpen input = open_after k (input ∷ before) ≡ true

    abbrev After : InputView → Type 0
    After input = downloads key (open_transfer (logs_after (moment k (moments k before) input).exchange (channel_logs (moments k before)) 0)) ≡ true

    pub exchanged : (input : InputView) → StaysOpen input → (drops (moment k (moments k before) input) (moments k before) ≡ false) × After input
    exchanged input h =
        let m : Moment = moment k (moments k before) input in
        let kept = undropped (drops m (moments k before)) (logs_after m.timed_out (with_channel_ticks (marked_tick m.mark) (logs_after m.exchange (channel_logs (moments k before))))) h in (
          kept.0,
          unticked (marked_tick m.mark) (logs_after m.exchange (channel_logs (moments k before)))
              (untimed m.timed_out (with_channel_ticks (marked_tick m.mark) (logs_after m.exchange (channel_logs (moments k before))))
              (timed_out (λ e. IsTimeOut e.event) k (moments k before) input (all_time_outs k (moments k before) (expired_at k (moments k before)))) kept.1),
        )

    by_none : (input : InputView) → (moment k (moments k before) input).exchange ≡ None → After input → is_open ≡ true
    by_none input none h = subst (λ e. downloads key (open_transfer (logs_after e (channel_logs (moments k before)) 0)) ≡ true) none h

    by_another : (input : InputView) → IsAnother (moment k (moments k before) input).exchange → After input → is_open ≡ true
    by_another input another h = subst (λ log. downloads key (open_transfer log) ≡ true) (same_log (moment k (moments k before) input).exchange (channel_logs (moments k before)) another) h

    -- a frame that the channel takes
    served_opens : (frame : FrameContent) → frame.id ≡ 0x600 + k.description.node → (length frame.bytes == 8) ≡ true → is_state node.Stopped (state_of k before) ≡ false → After (Framed frame) → Opens (channel_logs (moments k before) 0) frame.bytes
    served_opens frame id eight running h =
        opens k.description (contents_of k before) (channel_logs (moments k before) 0) frame.bytes
        (subst (λ e. downloads key (open_transfer (logs_after e (channel_logs (moments k before)) 0)) ≡ true) (served_is k (moments k before) frame true eight id sync running) h)

    asks : (frame : FrameContent) → frame.id ≡ 0x600 + k.description.node → Opens (channel_logs (moments k before) 0) frame.bytes → (is_open ≡ true) ⊎ AsksLong k.description.node (Framed frame)
    asks frame id (begins_now b long) = inr (id, long)
    asks frame id (goes_on b h) = inl h

    by_request : (frame : FrameContent) → frame.id ≡ 0x600 + k.description.node → After (Framed frame) → (is_open ≡ true) ⊎ AsksLong k.description.node (Framed frame)
    by_request frame id h = by (is_state node.Stopped (state_of k before)) (length frame.bytes == 8) refl refl
      where
        by : (stopped eight : Bool) → is_state node.Stopped (state_of k before) ≡ stopped → (length frame.bytes == 8) ≡ eight → (is_open ≡ true) ⊎ AsksLong k.description.node (Framed frame)
        by true eight on e = inl (by_none (Framed frame) (none_stopped k (moments k before) (Framed frame) on) h)
        by false false on e = inl (by_none (Framed frame) (served_is k (moments k before) frame false e id sync on) h)
        by false true on e = asks frame id (served_opens frame id e on h)

    pub was_open : (input : InputView) → AllByRecursion (IsNumbered k.description.node) (channels k) → StaysOpen input → (is_open ≡ true) ⊎ AsksLong k.description.node input
    was_open Ticked all h = inl (by_none Ticked refl (exchanged Ticked h).1)
    was_open (Applied event) all h = inl (by_none (Applied event) (no_exchange_of_event k (moments k before) event) (exchanged (Applied event) h).1)
    was_open (Framed frame) all h = by (frame.id == 0) (frame.id == 0x600 + k.description.node) refl refl
      where
        by : (command request : Bool) → (frame.id == 0) ≡ command → (frame.id == 0x600 + k.description.node) ≡ request → (is_open ≡ true) ⊎ AsksLong k.description.node (Framed frame)
        by true request is r = inl (by_none (Framed frame) (nmt_exchange k (moments k before) frame is) (exchanged (Framed frame) h).1)
        by false true is r = by_request frame (eqb-true frame.id (0x600 + k.description.node) r) (exchanged (Framed frame) h).1
        by false false is r = inl (by_another (Framed frame) (another_exchange k (moments k before) frame all (not_equal frame.id (0x600 + k.description.node) r)) (exchanged (Framed frame) h).1)

    eight_is : (n : ℕ) → n ≡ 8 → (n == 8) ≡ true
    eight_is n e = ap (λ x. x == 8) e

    -- its answers show no number at once
    pub quiet_at : (word : ℕ) (input : InputView) → StaysOpen input → AnswersAt key word k before input
    quiet_at word Ticked h = tt
    quiet_at word (Applied event) h = tt
    quiet_at word (Framed frame) h = λ id eight running.
        let q : Quiet k.description (contents_of k before) (channel_logs (moments k before) 0) frame.bytes word =
        quiet k.description (contents_of k before) (channel_logs (moments k before) 0) frame.bytes word (served_opens frame id (eight_is (length frame.bytes) eight) running (exchanged (Framed frame) h).1) in
        (q.fits, λ own. inr (q.refused own))

    -- ---- the entry is written at an input

    abbrev Written : FrameContent → Type 0
    Written frame = is_set (marked_key (moment k (moments k before) (Framed frame)).mark) key ≡ true

    mark_by : (frame : FrameContent) (stopped eight : Bool) → frame.id ≡ 0x600 + k.description.node → is_state node.Stopped (state_of k before) ≡ stopped → (length frame.bytes == 8) ≡ eight → Written frame
        → Completes (open_transfer (channel_logs (moments k before) 0)) frame.bytes
    mark_by frame true eight id on e h = absurd (false≢true (subst (λ x. is_set x key ≡ true) (stopped_mark k (moments k before) frame id sync on) h))
    mark_by frame false true id on e h =
        set_asks k.description (contents_of k before) (channel_logs (moments k before) 0) frame.bytes
        (subst (λ x. is_set x key ≡ true) (mark_is k (moments k before) frame id sync (eqb-true (length frame.bytes) 8 e) on) h)
    mark_by frame false false id on e h = absurd (false≢true (subst (λ x. is_set x key ≡ true) (short_mark k (moments k before) frame id sync e on) h))

    pub written_asks : (frame : FrameContent) → frame.id ≡ 0x600 + k.description.node → Written frame → Completes (open_transfer (channel_logs (moments k before) 0)) frame.bytes
    written_asks frame id h = mark_by frame (is_state node.Stopped (state_of k before)) (length frame.bytes == 8) id refl refl h

    -- what is answered to it, where an expedited download asks for this number
    pub written_answers : (word : ℕ) (input : InputView) → is_set (marked_key (moment k (moments k before) input).mark) key ≡ true → KeepsWord key word k before input → AnswersAt key word k before input
    written_answers word Ticked h keeps = tt
    written_answers word (Applied event) h keeps = tt
    written_answers word (Framed frame) h keeps = λ id eight running. (fits (written_asks frame id h), refuses key word k before (Framed frame) sync keeps id eight running)
      where
        at_once : is_expedited_download key (request_in frame.bytes) ≡ true → AllFit key word (reply_to k.description (contents_of k before) (channel_logs (moments k before) 0) frame.bytes)
        at_once own = by (is_in_sub_block (opened_after (channel_logs (moments k before) 0)))
          where
            by : (b : Bool)
                → AllFit key word (if b then on_open (opened_after (channel_logs (moments k before) 0)) (λ o stage. frame_answers k.description.rows o stage frame.bytes)
                else request_answers k.description (contents_of k before) (opened_after (channel_logs (moments k before) 0)) (request_in frame.bytes))
            by true = inside_fits key word k.description.rows (opened_after (channel_logs (moments k before) 0)) frame.bytes
            by false = expedited_fits key word k.description (contents_of k before) (opened_after (channel_logs (moments k before) 0)) key (request_in frame.bytes) own

        fits : Completes (open_transfer (channel_logs (moments k before) 0)) frame.bytes → is_initiate (request_in frame.bytes) ≡ true
            → AllFit key word (reply_to k.description (contents_of k before) (channel_logs (moments k before) 0) frame.bytes)
        fits (inl own) i = at_once own
        fits (inr last) i = absurd (false≢true (sym last.1 ∙ i))

    -- a reset isn't answered
    mark_resets : (o : Option Key) → is_reset (written_mark o) ≡ false
    mark_resets None = refl
    mark_resets (Some named) = refl

    pub reset_answers : (word : ℕ) (input : InputView) → is_reset (moment k (moments k before) input).mark ≡ true → AnswersAt key word k before input
    reset_answers word Ticked h = tt
    reset_answers word (Applied event) h = tt
    reset_answers word (Framed frame) h = λ id eight running.
        let to : address_at k (moments k before) frame.id ≡ Channel 0 = address k (moments k before) frame id sync in
        let mark : (moment k (moments k before) (Framed frame)).mark ≡ written_mark (key_set (set_of (channels k) k.description (contents_of k before) (channel_logs (moments k before)) frame)) = rw (to, running) refl in
        absurd (false≢true (sym (ap is_reset mark ∙ mark_resets (key_set (set_of (channels k) k.description (contents_of k before) (channel_logs (moments k before)) frame))) ∙ h))
