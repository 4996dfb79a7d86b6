-- What a channel answers to one frame, and what is open then, for `access-read`: an abort that doesn't say of a readable entry that it can't be
-- read, another response, or the segments of a sub-block.
use Rattle.std.proofs.Common.{◌≡◌, ℕ, ◌+◌, ◌<◌, Bool, true, false, not, List, [], ◌∷◌, ◌++◌, length, Option, Some, None, refl, sym, subst, arith}
use Rattle.std.specs.Prelude.{if◌then◌else◌, IfSome, nat_le, nat_lt, ◌==◌, ◌&&◌}
use Rattle.std.proofs.lemmas.Bool.{false≢true}
use Rattle.co_value.specs.declared.key.Key.{Key}
use Rattle.co_value.specs.Numbers.{AreBytes}
use Rattle.co_frame_aborts.specs.AbortCodes.{invalid_block_size, invalid_sequence_number, too_long, toggle_not_alternated, unknown_command}
use Rattle.co_frame.specs.SdoFields.{command}
use Rattle.co_frame.specs.SdoRequests.{request_in}
use Rattle.co_frame.specs.declared.sdo_request.SdoRequest.{SdoRequest}
use Rattle.co_frame.specs.declared.sdo_request.SdoRequest.TheVariants.{DownloadExpedited, DownloadInitiate, DownloadSegment, Upload as UploadInitiate, UploadSegment as NextSegment, Abort as Abandon, BlockUploadInitiate, BlockUploadStart, BlockUploadAcknowledge, BlockUploadEnd as UploadEnd, BlockDownloadInitiate, BlockDownloadEnd}
use Rattle.co_frame.specs.declared.sdo_response.SdoResponse.{SdoResponse}
use Rattle.co_frame.specs.declared.sdo_response.SdoResponse.TheVariants.{DownloadDone, DownloadSegmentDone, UploadExpedited, UploadInitiated, UploadSegment, BlockDownloadAcknowledge, BlockDownloadDone, BlockDownloadInitiated, BlockUploadInitiated, BlockUploadEnd as EndSent}
use Rattle.co_frame.specs.declared.sdo_request.ExpeditedData.TheVariants.{Indicated}
use Rattle.co_dict.specs.Refusals.{first_of, refused_if}
use Rattle.co_dict.specs.Rows.{Contents}
use Rattle.co_dict.specs.Stores.{Description}
use Rattle.co_sdo.specs.declared.stage.Stage.{Stage}
use Rattle.co_sdo.specs.declared.stage.Stage.TheVariants.{Download as Receiving, Upload as Uploading, SubBlock, LastTaken, BlockUploadInitiated as Begun, BlockUpload, BlockUploadEnded}
use Rattle.co_sdo.specs.Completed.{unless}
use Rattle.co_sdo.specs.Downloads.{expedited_part, without}
use Rattle.co_sdo.specs.Log.{Answer, Response as Replied}
use Rattle.co_sdo.specs.Opened.{OpenTransfer}
use Rattle.co_sdo.specs.OpenTransfers.{is_initiate}
use Rattle.co_sdo.specs.Refused.{capacity_at, completion_refusal, initiate_refusal, reading_refusal}
use Rattle.co_sdo.specs.Replies.{aborted, acknowledge_answers, answers_to, block_end_answers, block_size_refusal, frame_answers, held_with, initiate_answers, is_in_sub_block, later_answers, on_open, request_answers, room_refusal, segment_answers, segment_next, segment_refusal, start_answers, sub_block_refusal, taken_with, toggle_refusal, unexpected, unless_refused, upload_answers, upload_end_answers}
use Rattle.co_sdo.specs.Steps.{after_acknowledge, after_frame_at, after_initiate, after_later, after_request, after_segment, after_start, after_upload_segment, next_on, opened_at, opened_next, stage_after_frame}
use Rattle.co_sdo.specs.SubBlocks.{ends_sub_block, is_last_taken}
use Rattle.co_sdo.specs.Uploads.{block_upload_end, is_last_after, part_after, segment_count, sub_block_length, sub_block_sent, unused_after, upload_initiated, value_at}
use Rattle.co_frame.specs.Segments.{is_odd, same_bool}
use Rattle.co_sheet.specs.Content.{Row}
use Rattle.co_sdo.proofs.RefusalLemmas.{second_none}
use Rattle.conode_explain_laws.proofs.Begins.{HasKey, has_key}
use Rattle.conode_explain_laws.proofs.UploadStanding.{block_size_small}
use Rattle.conode_compare_laws.proofs.AnswerExchange.{small_key}
use Rattle.conode_compare_laws.proofs.ValueAborts.{HasRoom, is_refusal}
use Rattle.conode_compare_laws.proofs.ValueRefused.{Mild, MildAt, Milds, are_mild, first_mild, mild_none, plain_if, plain_mild}

-- ---- answers without segments

-- nothing; an abort; or another response
pub data Replying (rows : List Row) (answers : List Answer) : Type 0 where
  silent : answers ≡ [] → Replying rows answers
  refuses : (key : Key) (code : ℕ) → answers ≡ aborted key code → key.index < 65536 → Mild rows key code → Replying rows answers
  replies : (response : SdoResponse) → answers ≡ Replied response ∷ [] → is_refusal response ≡ false → HasRoom response → Replying rows answers

-- ---- what is open then

-- the next frame may bring segments
abbrev pub sends_blocks : Stage → Bool
sends_blocks (Begun size) = true
sends_blocks (BlockUpload position sent) = true
sends_blocks _ = false

abbrev pub is_sending : Option OpenTransfer → Bool
is_sending None = false
is_sending (Some o) = sends_blocks o.stage

-- its index has two bytes
abbrev pub IsSmall : Option OpenTransfer → Type 0
IsSmall current = IfSome current (λ o. o.key.index < 65536)

pub record Calm (next : Option OpenTransfer) : Type 0 where
  pub small : IsSmall next
  pub still : is_sending next ≡ false

calm_none : Calm None
calm_none = record { small = tt; still = refl }

calm_at : (key : Key) (stage : Stage) (bytes : List ℕ) → key.index < 65536 → sends_blocks stage ≡ false → Calm (opened_at key stage bytes)
calm_at key stage bytes small still = record { small = small; still = still }

calm_unless : (refusal : Option ℕ) (next : Option OpenTransfer) → Calm next → Calm (unless refusal next)
calm_unless None next h = h
calm_unless (Some code) next h = calm_none

calm_if : (b : Bool) (x y : Option OpenTransfer) → Calm x → Calm y → Calm (if b then x else y)
calm_if true x y p q = p
calm_if false x y p q = q

still_if : (b : Bool) (x y : Stage) → sends_blocks x ≡ false → sends_blocks y ≡ false → sends_blocks (if b then x else y) ≡ false
still_if true x y p q = p
still_if false x y p q = q

-- a frame with its answers, and what is open before and after it: no segments; the answer to the begin of a block upload; or segments after
-- its start, and after an acknowledgement
pub data Step (rows : List Row) (current next : Option OpenTransfer) (frame : List ℕ) (answers : List Answer) : Type 0 where
  plainly : Replying rows answers → Calm next → Step rows current next frame answers
  begins : (key : Key) (size threshold : ℕ) (value : List ℕ) → request_in frame ≡ Some (BlockUploadInitiate key size threshold) → key.index < 65536 → size < 128
      → answers ≡ Replied (BlockUploadInitiated key (Some (length value))) ∷ [] → next ≡ opened_at key (Begun size) value → Step rows current next frame answers
  starts : (o : OpenTransfer) (size : ℕ) → current ≡ Some o → o.stage ≡ Begun size → request_in frame ≡ Some BlockUploadStart
      → answers ≡ sub_block_sent o.bytes 0 size → next ≡ opened_at o.key (BlockUpload 0 (sub_block_length o.bytes 0 size)) o.bytes → Step rows current next frame answers
  goes_on : (o : OpenTransfer) (position sent sequence size : ℕ) → current ≡ Some o → o.stage ≡ BlockUpload position sent → request_in frame ≡ Some (BlockUploadAcknowledge sequence size)
      → nat_lt sent sequence ≡ false → (position + sequence == segment_count o.bytes) ≡ false → size < 128
      → answers ≡ sub_block_sent o.bytes (position + sequence) size → next ≡ opened_at o.key (BlockUpload (position + sequence) (sub_block_length o.bytes (position + sequence) size)) o.bytes
      → Step rows current next frame answers

-- the index of what is open then
pub calm_small : (rows : List Row) (current next : Option OpenTransfer) (frame : List ℕ) (answers : List Answer) → IsSmall current → Step rows current next frame answers → IsSmall next
calm_small rows current next frame answers small (plainly r calm) = calm.small
calm_small rows current next frame answers small (begins key size threshold value is index few comes opens) = subst IsSmall (sym opens) index
calm_small rows current next frame answers small (starts o size at stage is comes opens) = subst IsSmall (sym opens) (subst IsSmall at small)
calm_small rows current next frame answers small (goes_on o position sent sequence size at stage is few more index comes opens) = subst IsSmall (sym opens) (subst IsSmall at small)

-- ---- the answers to a frame

module _ (rows : List Row) (d : Description) (milds : Milds rows d) (contents : Contents) (frame : List ℕ) (bytes : AreBytes frame) where
  mild_if : (key : Key) (b : Bool) (x y : Option ℕ) → MildAt rows key x → MildAt rows key y → MildAt rows key (if b then x else y)
  mild_if key true x y p q = p
  mild_if key false x y p q = q

  refused : (refusal : Option ℕ) (key : Key) (answers : List Answer) → key.index < 65536 → MildAt rows key refusal → Replying rows answers → Replying rows (unless_refused refusal key answers)
  refused None key answers small mild h = h
  refused (Some code) key answers small mild h = refuses key code refl small mild.all

  size_mild : (key : Key) (size : ℕ) → MildAt rows key (block_size_refusal size)
  size_mild key size = are_mild rows key (block_size_refusal size) (plain_if (not (nat_le 1 size && nat_le size 127)) invalid_block_size refl)

  answers_with : (response : SdoResponse) → is_refusal response ≡ false → HasRoom response → Replying rows (Replied response ∷ [])
  answers_with response n h = replies response refl n h

  either : (b : Bool) (x y : List Answer) → Replying rows x → Replying rows y → Replying rows (if b then x else y)
  either true x y p q = p
  either false x y p q = q

  pub unknown : (current : Option OpenTransfer) → IsSmall current → Replying rows (unexpected current)
  unknown None small = refuses (record { index = 0; sub = 0 }) unknown_command refl (omega arith) (plain_mild rows (record { index = 0; sub = 0 }) unknown_command refl)
  unknown (Some o) small = refuses o.key unknown_command refl small (plain_mild rows o.key unknown_command refl)

  -- ---- an initiate request

  uploaded : (key : Key) (value : List ℕ) → Replying rows (upload_initiated key value)
  uploaded key value =
      either (nat_le 1 (length value) && nat_le (length value) 4) _ _ (answers_with (UploadExpedited key (Indicated (record { items = value }))) refl tt) (answers_with (UploadInitiated key (Some (length value))) refl tt)

  blocks_begin : (current : Option OpenTransfer) (key : Key) (size threshold : ℕ) (refusal : Option ℕ) → request_in frame ≡ Some (BlockUploadInitiate key size threshold) → key.index < 65536
      → first_of (reading_refusal d contents key) (block_size_refusal size) ≡ refusal → MildAt rows key refusal
      → Step rows current (unless refusal (opened_at key (Begun size) (value_at contents key))) frame (unless_refused refusal key (Replied (BlockUploadInitiated key (Some (length (value_at contents key)))) ∷ []))
  blocks_begin current key size threshold (Some code) is small e mild = plainly (refuses key code refl small mild.all) calm_none
  blocks_begin current key size threshold None is small e mild =
      begins key size threshold (value_at contents key) is small (block_size_small size (second_none (reading_refusal d contents key) (block_size_refusal size) e)) refl refl

  initiated : (current : Option OpenTransfer) (request : SdoRequest) → request_in frame ≡ Some request → HasKey frame request → is_initiate (Some request) ≡ true
      → Step rows current (after_initiate d contents request) frame (initiate_answers d contents request)
  initiated current (DownloadExpedited key value) is k on =
      plainly (refused (completion_refusal d contents key None (expedited_part d.rows key value)) key _ (small_key frame key bytes k) (milds.completing contents key None (expedited_part d.rows key value)) (answers_with (DownloadDone key) refl tt)) calm_none
  initiated current (DownloadInitiate key size) is k on =
      plainly (refused (initiate_refusal d key size) key _ (small_key frame key bytes k) (milds.initiating key size) (answers_with (DownloadDone key) refl tt))
      (calm_unless (initiate_refusal d key size) _ (calm_at key (Receiving size false) [] (small_key frame key bytes k) refl))
  initiated current (UploadInitiate key) is k on =
      let value : List ℕ = value_at contents key in
      plainly (refused (reading_refusal d contents key) key _ (small_key frame key bytes k) (milds.reading contents key) (uploaded key value))
      (calm_unless (reading_refusal d contents key) _ (calm_if (nat_le 1 (length value) && nat_le (length value) 4) None _ calm_none (calm_at key (Uploading 0) value (small_key frame key bytes k) refl)))
  initiated current (BlockUploadInitiate key size threshold) is k on =
      blocks_begin current key size threshold (first_of (reading_refusal d contents key) (block_size_refusal size)) is (small_key frame key bytes k) refl
      (first_mild rows key (reading_refusal d contents key) (block_size_refusal size) (milds.reading contents key) (size_mild key size))
  initiated current (BlockDownloadInitiate key size) is k on =
      plainly (refused (initiate_refusal d key size) key _ (small_key frame key bytes k) (milds.initiating key size) (answers_with (BlockDownloadInitiated key 127) refl tt))
      (calm_unless (initiate_refusal d key size) _ (calm_at key (SubBlock size 0) [] (small_key frame key bytes k) refl))
  initiated current _ is k on = absurd (false≢true on)

  -- ---- another request

  abbrev Later : Option OpenTransfer → SdoRequest → Type 0
  Later current request = Step rows current (after_later d contents current request) frame (later_answers d contents current request)

  module _ (o : OpenTransfer) (small : o.key.index < 65536) where
    odd : Step rows (Some o) None frame (unexpected (Some o))
    odd = plainly (unknown (Some o) small) calm_none

    toggled : (toggle expected : Bool) → MildAt rows o.key (toggle_refusal toggle expected)
    toggled toggle expected = are_mild rows o.key (toggle_refusal toggle expected) (plain_if (not (same_bool toggle expected)) toggle_not_alternated refl)

    roomy : (held : List ℕ) → MildAt rows o.key (room_refusal d.rows o.key held)
    roomy held = are_mild rows o.key (room_refusal d.rows o.key held) (plain_if (nat_lt (capacity_at d.rows o.key) (length held)) too_long refl)

    segment : (stage : Stage) (toggle : Bool) (part : List ℕ) (last : Bool) → Step rows (Some o) (after_segment d contents o stage toggle part last) frame (segment_answers d contents o stage toggle part last)
    segment (Receiving indicated expected) toggle part last =
        plainly
        (refused (segment_refusal d contents o indicated expected toggle part last) o.key _ small
        (first_mild rows o.key (toggle_refusal toggle expected) _ (toggled toggle expected)
        (first_mild rows o.key (room_refusal d.rows o.key (o.bytes ++ part)) _ (roomy (o.bytes ++ part))
        (first_mild rows o.key (if last then completion_refusal d contents o.key indicated (o.bytes ++ part) else None) None
        (mild_if o.key last (completion_refusal d contents o.key indicated (o.bytes ++ part)) None (milds.completing contents o.key indicated (o.bytes ++ part)) (mild_none rows o.key)) (mild_none rows o.key))))
        (answers_with (DownloadSegmentDone toggle) refl tt))
        (calm_unless (segment_refusal d contents o indicated expected toggle part last) _ (calm_if last None _ calm_none (calm_at o.key (Receiving indicated (not expected)) (o.bytes ++ part) small refl)))
    segment _ toggle part last = odd

    next_segment : (stage : Stage) (toggle : Bool) → Step rows (Some o) (after_upload_segment o stage toggle) frame (upload_answers o stage toggle)
    next_segment (Uploading sent) toggle =
        plainly (refused (toggle_refusal toggle (is_odd sent)) o.key _ small (toggled toggle (is_odd sent)) (answers_with (UploadSegment toggle (record { items = part_after sent o.bytes }) (is_last_after sent o.bytes)) refl tt))
        (calm_unless (toggle_refusal toggle (is_odd sent)) _ (calm_if (is_last_after sent o.bytes) None _ calm_none (calm_at o.key (Uploading (sent + 1)) o.bytes small refl)))
    next_segment _ toggle = odd

    start : (stage : Stage) → o.stage ≡ stage → request_in frame ≡ Some BlockUploadStart → Step rows (Some o) (after_start o stage) frame (start_answers o stage)
    start (Begun size) e is = starts o size refl e is refl refl
    start _ e is = odd

    acknowledge : (stage : Stage) (sequence size : ℕ) → o.stage ≡ stage → request_in frame ≡ Some (BlockUploadAcknowledge sequence size)
        → Step rows (Some o) (after_acknowledge o stage sequence size) frame (acknowledge_answers o stage sequence size)
    acknowledge (BlockUpload position sent) sequence size e is = by (nat_lt sent sequence) refl
      where
        next : Option OpenTransfer
        next = opened_at o.key (BlockUpload (position + sequence) (sub_block_length o.bytes (position + sequence) size)) o.bytes

        by_size : (refusal : Option ℕ) → block_size_refusal size ≡ refusal → MildAt rows o.key refusal → nat_lt sent sequence ≡ false → (position + sequence == segment_count o.bytes) ≡ false
            → Step rows (Some o) (unless refusal next) frame (unless_refused refusal o.key (sub_block_sent o.bytes (position + sequence) size))
        by_size (Some code) r mild few more = plainly (refuses o.key code refl small mild.all) calm_none
        by_size None r mild few more = goes_on o position sent sequence size refl e is few more (block_size_small size r) refl refl

        by_all : (all : Bool) → (position + sequence == segment_count o.bytes) ≡ all → nat_lt sent sequence ≡ false
            → Step rows (Some o) (if all then opened_at o.key BlockUploadEnded o.bytes else unless (block_size_refusal size) next) frame
            (if all then block_upload_end o.bytes else unless_refused (block_size_refusal size) o.key (sub_block_sent o.bytes (position + sequence) size))
        by_all true whole few = plainly (replies (EndSent (unused_after o.bytes)) refl refl (omega arith)) (calm_at o.key BlockUploadEnded o.bytes small refl)
        by_all false more few = by_size (block_size_refusal size) refl (size_mild o.key size) few more

        by : (above : Bool) → nat_lt sent sequence ≡ above
            → Step rows (Some o) (unless (refused_if above invalid_sequence_number) (if position + sequence == segment_count o.bytes then opened_at o.key BlockUploadEnded o.bytes else unless (block_size_refusal size) next)) frame
            (unless_refused (refused_if above invalid_sequence_number) o.key
            (if position + sequence == segment_count o.bytes then block_upload_end o.bytes else unless_refused (block_size_refusal size) o.key (sub_block_sent o.bytes (position + sequence) size)))
        by true above = plainly (refuses o.key invalid_sequence_number refl small (plain_mild rows o.key invalid_sequence_number refl)) calm_none
        by false few = by_all (position + sequence == segment_count o.bytes) refl few
    acknowledge _ sequence size e is = odd

    upload_end : (stage : Stage) → Step rows (Some o) None frame (upload_end_answers o stage)
    upload_end BlockUploadEnded = plainly (silent refl) calm_none
    upload_end _ = odd

    download_end : (stage : Stage) (unused : ℕ) → Step rows (Some o) None frame (block_end_answers d contents o stage unused)
    download_end (LastTaken indicated) unused =
        plainly
        (refused (completion_refusal d contents o.key indicated (without unused o.bytes)) o.key _ small (milds.completing contents o.key indicated (without unused o.bytes)) (answers_with BlockDownloadDone refl tt))
        calm_none
    download_end _ unused = odd

    inside : (stage : Stage) → Step rows (Some o) (after_frame_at d.rows o stage frame) frame (frame_answers d.rows o stage frame)
    inside (SubBlock indicated taken) =
        plainly
        (either (ends_sub_block frame) _ _
        (refused (sub_block_refusal d.rows o taken frame) o.key _ small
        (mild_if o.key (is_last_taken (segment_next taken frame)) None (room_refusal d.rows o.key (held_with o.bytes taken frame)) (mild_none rows o.key) (roomy (held_with o.bytes taken frame)))
        (answers_with (BlockDownloadAcknowledge (taken_with taken frame) 127) refl tt))
        (silent refl))
        (calm_if (command frame == 0x80) None _ calm_none
        (calm_if (ends_sub_block frame) _ _
        (calm_unless (sub_block_refusal d.rows o taken frame) _
        (calm_at o.key (stage_after_frame indicated taken frame) (held_with o.bytes taken frame) small (still_if (is_last_taken (segment_next taken frame)) (LastTaken indicated) (SubBlock indicated 0) refl refl)))
        (calm_at o.key (SubBlock indicated (taken_with taken frame)) (held_with o.bytes taken frame) small refl)))
    inside _ = odd

  later_none : (request : SdoRequest) → is_initiate (Some request) ≡ false → Later None request
  later_none (DownloadSegment toggle items last) n = plainly (unknown None tt) calm_none
  later_none (NextSegment toggle) n = plainly (unknown None tt) calm_none
  later_none BlockUploadStart n = plainly (unknown None tt) calm_none
  later_none (BlockUploadAcknowledge sequence size) n = plainly (unknown None tt) calm_none
  later_none UploadEnd n = plainly (unknown None tt) calm_none
  later_none (BlockDownloadEnd unused) n = plainly (unknown None tt) calm_none
  later_none (Abandon key code) n = plainly (silent refl) calm_none
  later_none _ n = absurd (false≢true (sym n))

  later_on : (o : OpenTransfer) (request : SdoRequest) → o.key.index < 65536 → request_in frame ≡ Some request → is_initiate (Some request) ≡ false → Later (Some o) request
  later_on o (DownloadSegment toggle items last) small is n = segment o small o.stage toggle items.items last
  later_on o (NextSegment toggle) small is n = next_segment o small o.stage toggle
  later_on o BlockUploadStart small is n = start o small o.stage refl is
  later_on o (BlockUploadAcknowledge sequence size) small is n = acknowledge o small o.stage sequence size refl is
  later_on o UploadEnd small is n = upload_end o small o.stage
  later_on o (BlockDownloadEnd unused) small is n = download_end o small o.stage unused
  later_on o (Abandon key code) small is n = plainly (silent refl) calm_none
  later_on o _ small is n = absurd (false≢true (sym n))

  later : (current : Option OpenTransfer) (request : SdoRequest) → IsSmall current → request_in frame ≡ Some request → is_initiate (Some request) ≡ false → Later current request
  later None request small is n = later_none request n
  later (Some o) request small is n = later_on o request small is n

  -- ---- every frame

  inside_of : (current : Option OpenTransfer) → IsSmall current
      → Step rows current (next_on current (λ o stage. after_frame_at d.rows o stage frame)) frame (on_open current (λ o stage. frame_answers d.rows o stage frame))
  inside_of None small = plainly (unknown None tt) calm_none
  inside_of (Some o) small = inside o small o.stage

  outside_of : (current : Option OpenTransfer) (r : Option SdoRequest) → IsSmall current → request_in frame ≡ r → Step rows current (after_request d contents current r) frame (request_answers d contents current r)
  outside_of current None small is = plainly (unknown current small) calm_none
  outside_of current (Some request) small is = by (is_initiate (Some request)) refl
    where
      key : HasKey frame request
      key = let k : IfSome (request_in frame) (HasKey frame) = has_key frame in subst (λ r. IfSome r (HasKey frame)) is k

      by : (b : Bool) → is_initiate (Some request) ≡ b
          → Step rows current (if b then after_initiate d contents request else after_later d contents current request) frame (if b then initiate_answers d contents request else later_answers d contents current request)
      by true on = initiated current request is key on
      by false off = later current request small is off

  pub step : (current : Option OpenTransfer) → IsSmall current → Step rows current (opened_next d contents current frame) frame (answers_to d contents current frame)
  step current small = by (is_in_sub_block current)
    where
      by : (b : Bool)
          → Step rows current (if b then next_on current (λ o stage. after_frame_at d.rows o stage frame) else after_request d contents current (request_in frame)) frame
          (if b then on_open current (λ o stage. frame_answers d.rows o stage frame) else request_answers d contents current (request_in frame))
      by true = inside_of current small
      by false = outside_of current (request_in frame) small refl
