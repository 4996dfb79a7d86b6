-- A request that the device ignores, since it hasn't eight bytes or the device is stopped, as explain follows it: no upload ends in it with
-- another size or CRC than was indicated; and what both have then.
use Rattle.std.proofs.Common.{◌≡◌, ℕ, ◌+◌, ◌-◌, ◌*◌, ◌/◌, ◌^◌, ◌<◌, ◌≤◌, Bool, true, false, not, List, length, take, Option, Some, None, refl, sym, ap, ◌∙◌, ◌⊎◌, inl, inr, subst, arith, length-take}
use Rattle.std.specs.Prelude.{◌&&◌, ◌==◌, min, nat_lt, if◌then◌else◌, is_some, IfSome}
use Rattle.std.proofs.lemmas.Bool.{false≢true}
use Rattle.std.proofs.lemmas.Bool.Decides.{nat_tests}
use Rattle.arrayvec.specs.ArrayVec.{ArrayVec}
use Rattle.co_frame.specs.Segments.{same_bool}
use Rattle.co_frame.specs.SdoRequests.{request_in}
use Rattle.co_frame.specs.declared.sdo_request.SdoRequest.{SdoRequest}
use Rattle.co_frame.specs.declared.sdo_request.SdoRequest.TheVariants.{DownloadExpedited, DownloadInitiate, DownloadSegment, Upload as UploadInitiate, UploadSegment as NextSegment, Abort as Abandon, BlockUploadInitiate, BlockUploadEnd as UploadEnd, BlockUploadAcknowledge, BlockUploadStart, BlockDownloadInitiate, BlockDownloadEnd}
use Rattle.co_sdo.specs.Opened.{OpenTransfer}
use Rattle.conode_explain_transfers.specs.declared.ended.Fault.TheVariants.{Size}
use Rattle.conode_explain_transfers.specs.declared.kinds.Direction.TheVariants.{Download, Upload}
use Rattle.conode_explain_transfers.specs.declared.kinds.Side.{Side}
use Rattle.conode_explain_transfers.specs.declared.kinds.Side.TheVariants.{Client}
use Rattle.conode_explain_transfers.specs.declared.kinds.What.{What}
use Rattle.conode_explain_transfers.specs.declared.kinds.What.TheVariants as what
use Rattle.conode_explain_transfers.specs.declared.stage.Stage.{Stage}
use Rattle.conode_explain_transfers.specs.declared.stage.Stage.TheVariants.{AllAcknowledged, BlockEnded, BlockInitiated, DownloadConfirmed, DownloadSent, Initiated, SubBlock, UploadAsked, UploadTaken}
use Rattle.conode_explain_transfers.specs.declared.transfer.Transfer.{Transfer}
use Rattle.conode_explain_transfers.specs.BlockTurns.{acknowledged, acknowledged_at, block_ended, crc_in, end_confirmed, end_confirmed_at, is_block, next_sub_block, upload_started_at}
use Rattle.conode_explain_transfers.specs.Digests.{counted, digest_of}
use Rattle.conode_explain_transfers.specs.Endings.{bytes_come, excess, pending_data}
use Rattle.conode_explain_transfers.specs.Followed.{one_more, turns_at, with_frame}
use Rattle.conode_explain_transfers.specs.SegmentedTurns.{download_segment_at, upload_request_at}
use Rattle.conode_explain_transfers.specs.Stages.{confirmed_with}
use Rattle.conode_explain_transfers.specs.Transfers.{Turn, after, awaited_number, goes_on as part, irregular, is_download, repeated, takes_pending, unexpected}
use Rattle.conode_explain_transfers.specs.Turns.{request_turn}
use Rattle.conode_explain_laws.specs.Uploads.{Read}
use Rattle.conode_explain_laws.proofs.AllInputs.{short_reading}
use Rattle.conode_explain_laws.proofs.Follows.{BegunBy, begun_by, client_no_response, is_response}
use Rattle.conode_explain_laws.proofs.Begins.{awaits}
use Rattle.conode_explain_laws.proofs.Kept.{keeps}
use Rattle.conode_explain_laws.proofs.Readings.{Abort, Begin, Nothing, Reading, Request, Response, Segment, follows_by, reading_of, request_reading, turn_of, begun_after}
use Rattle.conode_explain_laws.proofs.UploadFaults.{download_right, first_right, sending_right, worn_right}
use Rattle.conode_explain_laws.proofs.UploadStanding.{AtEnd, Follows, FollowsIn, IsWaiting, aside, asked, at_end, begun, blocks, gone, is_ended, is_sending, segmented}
use Rattle.conode_explain_laws.proofs.UploadViews.{hears}
use Rattle.conode_explain_laws.proofs.Views.{View, is_begin}
use Rattle.conode_compare_laws.proofs.AnswerEnds.{Faultless, IsWhole, Leads, download_leads, faultless, frame_whole, other_whole, rests, worn}
use Rattle.conode_compare_laws.proofs.AnswerFollowed.{reads}
use Rattle.conode_compare_laws.proofs.AnswerWhole.{EndsWhole, asked_worn, counted_right, end_whole, left_whole, upload_plain}

-- ---- a request in an upload that the channel has dropped

-- it goes on without an end, and no more bytes than indicated came
record GoesOn (u : Transfer) : Type 0 where
  pub unconfirmed : confirmed_with u.stage ≡ None
  pub unended : is_ended u.stage ≡ false
  pub sending : is_sending u.stage ≡ true
  pub within : excess u.size (bytes_come u) ≡ None

-- or it is irregular
abbrev Waits : Transfer → Type 0
Waits u = (u.irregular ≡ true) ⊎ GoesOn u

fewer : (size : Option ℕ) (more less : ℕ) → less ≤ more → excess size more ≡ None → excess size less ≡ None
fewer None more less h w = refl
fewer (Some indicated) more less h w = by (nat_lt indicated more) refl w
  where
    by : (above : Bool) → nat_lt indicated more ≡ above → (if above then Some (Size indicated more) else None) ≡ None → excess (Some indicated) less ≡ None
    by true e w = absurd (false≢true (sym (ap is_some w)))
    by false e w = let below : nat_lt indicated less ≡ false = grind (arith, nat_tests) in rw below refl

shrinks : (count taken pending most : ℕ) → taken ≤ pending → min (min (count + taken) most + 0) most ≤ min (count + pending) most
shrinks count taken pending most h = omega (arith, h)

abbrev is_end : SdoRequest → Bool
is_end UploadEnd = true
is_end _ = false

module _ (t : Transfer) where
  abbrev Makes : Turn → Type 0
  Makes x = Waits (after t x)

  both : (b : Bool) (x y : Turn) → Makes x → Makes y → Makes (if b then x else y)
  both true x y p q = p
  both false x y p q = q

  -- as much as at a stage has come
  abbrev Within : Stage → Type 0
  Within stage = excess t.size (counted (t.taken.count + pending_data stage (length t.pending.items))) ≡ None

  segment_waits : (stage : Stage) (toggle : Bool) (items : ArrayVec ℕ) (last : Bool) → is_sending stage ≡ true → Makes (download_segment_at stage t toggle items last)
  segment_waits (DownloadConfirmed awaited) toggle items last s = absurd (false≢true s)
  segment_waits (DownloadSent sent was_last) toggle items last s = absurd (false≢true s)
  segment_waits _ toggle items last s = inl refl

  next_waits : (stage : Stage) (toggle : Bool) → Within stage → Makes (upload_request_at stage t toggle)
  next_waits (UploadTaken awaited) toggle w =
      both (same_bool toggle awaited) (part (record t { stage = UploadAsked toggle })) (repeated t) (inr (record { unconfirmed = refl; unended = refl; sending = refl; within = w })) (inl refl)
  next_waits (UploadAsked other) toggle w = both (same_bool toggle other) (repeated t) (part (record (irregular t) { stage = UploadAsked toggle })) (inl refl) (inl refl)
  next_waits _ toggle w = inl refl

  start_waits : (stage : Stage) → Within stage → Makes (upload_started_at stage t)
  start_waits BlockInitiated w = inr (record { unconfirmed = refl; unended = refl; sending = refl; within = w })
  start_waits _ w = inl refl

  -- of the pending bytes those of the first segments are taken
  some_taken : (sequence pending : ℕ) → 7 * sequence ≤ pending → excess t.size (counted (t.taken.count + pending)) ≡ None
      → excess t.size (counted (counted (t.taken.count + length (take (7 * sequence) t.pending.items)) + 0)) ≡ None
  some_taken sequence pending few w =
      let n = length-take (7 * sequence) t.pending.items in
      let less : length (take (7 * sequence) t.pending.items) ≤ pending = omega (arith, n, few) in
      fewer t.size _ _ (shrinks t.taken.count (length (take (7 * sequence) t.pending.items)) pending (2 ^ 64 - 1) less) w

  acknowledge_in : (last below all : Bool) (sequence size : ℕ) → nat_lt sequence (awaited_number t) ≡ below → (sequence + 1 == awaited_number t) ≡ all → Within (SubBlock last)
      → Makes (if below then (if last && all then part (record t { stage = AllAcknowledged }) else takes_pending (next_sub_block t size) (7 * sequence)) else takes_pending (next_sub_block (irregular t) size) (7 * sequence))
  acknowledge_in true true true sequence size b a w = inr (record { unconfirmed = refl; unended = refl; sending = refl; within = w })
  acknowledge_in true true false sequence size b a w =
      let under : sequence < length t.pending.items / 7 = grind (arith, nat_tests) in
      inr (record { unconfirmed = refl; unended = refl; sending = refl; within = some_taken sequence (length t.pending.items - 7) (omega (arith, under)) w })
  acknowledge_in false true all sequence size b a w =
      let under : sequence < length t.pending.items / 7 + 1 = grind (arith, nat_tests) in
      inr (record { unconfirmed = refl; unended = refl; sending = refl; within = some_taken sequence (length t.pending.items) (omega (arith, under)) w })
  acknowledge_in last false all sequence size b a w = inl refl

  acknowledge_waits : (stage : Stage) (sequence size : ℕ) → Within stage → Makes (acknowledged_at stage t sequence size)
  acknowledge_waits (SubBlock last) sequence size w = acknowledge_in last (nat_lt sequence (awaited_number t)) (sequence + 1 == awaited_number t) sequence size refl refl w
  acknowledge_waits _ sequence size w = inl refl

  by_acknowledge : (by : Bool) (sequence size : ℕ) → Within t.stage → Makes (acknowledged by t sequence size)
  by_acknowledge true sequence size w = acknowledge_waits t.stage sequence size w
  by_acknowledge false sequence size w = inl refl

  end_waits : (stage : Stage) → is_ended stage ≡ false → Makes (end_confirmed_at stage t)
  end_waits (BlockEnded crc) n = absurd (false≢true (sym n))
  end_waits Initiated n = inl refl
  end_waits _ n = inl refl

  by_end : (by : Bool) → is_ended t.stage ≡ false → Makes (end_confirmed by t)
  by_end true n = both (is_block t.protocol) (end_confirmed_at t.stage t) (unexpected t) (end_waits t.stage n) (inl refl)
  by_end false n = inl refl

  request_waits : (request : SdoRequest) (bytes : List ℕ) → IsWaiting t → Makes (request_turn t request bytes)
  request_waits (DownloadSegment toggle items last) bytes h = segment_waits t.stage toggle items last h.sending
  request_waits (NextSegment toggle) bytes h = next_waits t.stage toggle h.within
  request_waits BlockUploadStart bytes h = start_waits t.stage h.within
  request_waits (BlockUploadAcknowledge sequence size) bytes h = by_acknowledge (not (is_download t.direction)) sequence size h.within
  request_waits UploadEnd bytes h = by_end (not (is_download t.direction)) h.unended
  request_waits (BlockDownloadEnd unused) bytes h = inl (ap (λ x. (block_ended x t unused (crc_in bytes)).transfer.irregular) (ap is_download h.direction))
  request_waits _ bytes h = inl refl

  -- after the device's end
  worn_by : (by : Bool) (sequence size crc : ℕ) → t.stage ≡ BlockEnded crc → (acknowledged by t sequence size).transfer.irregular ≡ true
  worn_by true sequence size crc e = ap (λ s. (acknowledged_at s t sequence size).transfer.irregular) e
  worn_by false sequence size crc e = refl

  ended_worn : (request : SdoRequest) (bytes : List ℕ) (crc : ℕ) → is_download t.direction ≡ false → t.stage ≡ BlockEnded crc → is_end request ≡ false → (request_turn t request bytes).transfer.irregular ≡ true
  ended_worn (DownloadSegment toggle items last) bytes crc up e n = ap (λ s. (download_segment_at s t toggle items last).transfer.irregular) e
  ended_worn (NextSegment toggle) bytes crc up e n = ap (λ s. (upload_request_at s t toggle).transfer.irregular) e
  ended_worn BlockUploadStart bytes crc up e n = ap (λ s. (upload_started_at s t).transfer.irregular) e
  ended_worn (BlockUploadAcknowledge sequence size) bytes crc up e n = worn_by (not (is_download t.direction)) sequence size crc e
  ended_worn UploadEnd bytes crc up e n = absurd (false≢true (sym n))
  ended_worn (BlockDownloadEnd unused) bytes crc up e n = ap (λ x. (block_ended x t unused (crc_in bytes)).transfer.irregular) up
  ended_worn _ bytes crc up e n = refl

-- ---- what both have then

abbrev Next : Option OpenTransfer → Option Read → List ℕ → Option Transfer → Type 0
Next current ended got o = FollowsIn (Unit {0}) o got current ended

aside_frame : (w : What) (u : Transfer) (micros : ℕ) (side : Side) (got : List ℕ) (current : Option OpenTransfer) (ended : Option Read) → (u.irregular ≡ true) ⊎ (u.direction ≡ Download) → Follows (Unit {0}) (with_frame w u micros side) got current ended
aside_frame what.Overtaken u micros side got current ended (inl i) = aside (inl (tt, i)) (inl tt)
aside_frame what.Overtaken u micros side got current ended (inr d) = aside (inr d) (inl tt)
aside_frame _ u micros side got current ended (inl i) = aside (inl (tt, i)) (inl tt)
aside_frame _ u micros side got current ended (inr d) = aside (inr d) (inl tt)

aside_turn : (x : Option (Option ℕ)) (heard : Bool) (w : What) (u : Transfer) (micros : ℕ) (side : Side) (got : List ℕ) (current : Option OpenTransfer) (ended : Option Read) → (u.irregular ≡ true) ⊎ (u.direction ≡ Download)
    → Next current ended got (turns_at x heard w u micros side).next.transfer
aside_turn (Some crc) heard w u micros side got current ended h = inl tt
aside_turn None heard w u micros side got current ended h = aside_frame w u micros side got current ended h

gone_frame : (w : What) (u : Transfer) (micros : ℕ) (side : Side) (got : List ℕ) → u.direction ≡ Upload → GoesOn u → Follows (Unit {0}) (with_frame w u micros side) got None None
gone_frame what.Overtaken u micros side got up h = gone (record { direction = up; unconfirmed = h.unconfirmed; unended = h.unended; sending = h.sending; within = h.within }) refl refl
gone_frame _ u micros side got up h = gone (record { direction = up; unconfirmed = h.unconfirmed; unended = h.unended; sending = h.sending; within = h.within }) refl refl

gone_turn : (x : Option (Option ℕ)) (heard : Bool) (w : What) (u : Transfer) (micros : ℕ) (side : Side) (got : List ℕ) → u.direction ≡ Upload → Waits u → Next None None got (turns_at x heard w u micros side).next.transfer
gone_turn (Some crc) heard w u micros side got up h = inl tt
gone_turn None heard w u micros side got up (inl i) = aside_frame w u micros side got None None (inl i)
gone_turn None heard w u micros side got up (inr h) = gone_frame w u micros side got up h

late_turn : (x : Option (Option ℕ)) (heard : Bool) (w : What) (u : Transfer) (micros : ℕ) (side : Side) → confirmed_with u.stage ≡ x → Waits u → IsWhole (turns_at x heard w u micros side).says.ended
late_turn None heard w u micros side e h = tt
late_turn (Some crc) heard w u micros side e (inl i) = (other_whole u.direction _ (rw i refl), refl)
late_turn (Some crc) heard w u micros side e (inr h) = absurd (let no : is_some (Some crc) ≡ false = ap is_some (sym e ∙ h.unconfirmed) in false≢true (sym no))

-- ---- the frame

module _ (micros : ℕ) (bytes : List ℕ) (heard : Bool) (got : List ℕ) where
  abbrev Ignored : Option OpenTransfer → Option Read → Option Transfer → Reading → Type 0
  Ignored current ended held reading =
      IsWhole (follows_by heard held reading micros Client bytes).says.ended
      × ((next : List ℕ) → FollowsIn (Unit {0}) (follows_by heard held reading micros Client bytes).next.transfer next current ended)

  -- an irregular transfer, or a download
  aside_ignored : (current : Option OpenTransfer) (ended : Option Read) (t : Transfer) (reading : Reading) → is_begin reading ≡ false → Leads (turn_of t reading bytes).transfer
      → ((turn_of t reading bytes).transfer.irregular ≡ true) ⊎ ((turn_of t reading bytes).transfer.direction ≡ Download) → Faultless reading t → Ignored current ended (Some t) reading
  aside_ignored current ended t reading n l h f = ((frame_whole heard t reading micros Client bytes n l (λ c. f)).ended, by reading n h)
    where
      by : (reading : Reading) → is_begin reading ≡ false → ((turn_of t reading bytes).transfer.irregular ≡ true) ⊎ ((turn_of t reading bytes).transfer.direction ≡ Download)
          → (next : List ℕ) → FollowsIn (Unit {0}) (follows_by heard (Some t) reading micros Client bytes).next.transfer next current ended
      by (Begin new) n h next = absurd (false≢true (sym n))
      by (Abort code) n h next = inl tt
      by (Segment segment) n h next = aside_turn _ heard _ (after t (turn_of t (Segment segment) bytes)) micros Client next current ended h
      by (Request request) n h next = aside_turn _ heard _ (after t (turn_of t (Request request) bytes)) micros Client next current ended h
      by (Response response) n h next = aside_turn _ heard _ (after t (turn_of t (Response response) bytes)) micros Client next current ended h
      by Nothing n h next = aside_turn _ heard _ (after t (turn_of t Nothing bytes)) micros Client next current ended h

  worn_ignored : (current : Option OpenTransfer) (ended : Option Read) (t : Transfer) (reading : Reading) → is_begin reading ≡ false → (turn_of t reading bytes).transfer.irregular ≡ true → Faultless reading t
      → Ignored current ended (Some t) reading
  worn_ignored current ended t reading n i f = aside_ignored current ended t reading n (rests (worn i)) (inl i) f

  request_ignored : (t : Transfer) (request : SdoRequest) → IsWaiting t → Ignored None None (Some t) (Request request)
  request_ignored t request h =
      let turn : Turn = request_turn t request bytes in
      let w : Waits (after t turn) = request_waits t request bytes h in (
        late_turn (confirmed_with turn.transfer.stage) heard turn.what (after t turn) micros Client refl w,
        λ next. gone_turn (confirmed_with turn.transfer.stage) heard turn.what (after t turn) micros Client next ((keeps t (Request request) bytes).direction ∙ h.direction) w,
      )

  -- which the channel has dropped
  to_gone : (t : Transfer) (r : Option SdoRequest) → IsWaiting t → is_begin (request_reading r micros bytes) ≡ false → Ignored None None (Some t) (request_reading r micros bytes)
  to_gone t None h n = worn_ignored None None t Nothing refl refl tt
  to_gone t (Some (Abandon key code)) h n = worn_ignored None None t (Abort code) refl refl (sending_right (one_more t) h.sending h.within)
  to_gone t (Some (DownloadSegment toggle items last)) h n = request_ignored t (DownloadSegment toggle items last) h
  to_gone t (Some (NextSegment toggle)) h n = request_ignored t (NextSegment toggle) h
  to_gone t (Some BlockUploadStart) h n = request_ignored t BlockUploadStart h
  to_gone t (Some (BlockUploadAcknowledge sequence size)) h n = request_ignored t (BlockUploadAcknowledge sequence size) h
  to_gone t (Some UploadEnd) h n = request_ignored t UploadEnd h
  to_gone t (Some (BlockDownloadEnd unused)) h n = request_ignored t (BlockDownloadEnd unused) h
  to_gone t (Some (DownloadExpedited key value)) h n = absurd (false≢true (sym n))
  to_gone t (Some (DownloadInitiate key size)) h n = absurd (false≢true (sym n))
  to_gone t (Some (UploadInitiate key)) h n = absurd (false≢true (sym n))
  to_gone t (Some (BlockUploadInitiate key size threshold)) h n = absurd (false≢true (sym n))
  to_gone t (Some (BlockDownloadInitiate key size)) h n = absurd (false≢true (sym n))

  -- after its own end
  module _ (ended : Option Read) (t : Transfer) (crc : ℕ) (content : List ℕ) (h : AtEnd t content crc) (g : got ≡ content) (taken : t.taken ≡ digest_of got) where
    other_ignored : (request : SdoRequest) → is_end request ≡ false → Ignored None ended (Some t) (Request request)
    other_ignored request n = worn_ignored None ended t (Request request) refl (ended_worn t request bytes crc (ap is_download h.is.direction) h.stage n) tt

    to_end : (r : Option SdoRequest) → is_begin (request_reading r micros bytes) ≡ false → Ignored None ended (Some t) (request_reading r micros bytes)
    to_end None n = worn_ignored None ended t Nothing refl refl tt
    to_end (Some (Abandon key code)) n = worn_ignored None ended t (Abort code) refl refl (counted_right t got content crc h g taken)
    to_end (Some (DownloadSegment toggle items last)) n = other_ignored (DownloadSegment toggle items last) refl
    to_end (Some (NextSegment toggle)) n = other_ignored (NextSegment toggle) refl
    to_end (Some BlockUploadStart) n = other_ignored BlockUploadStart refl
    to_end (Some (BlockUploadAcknowledge sequence size)) n = other_ignored (BlockUploadAcknowledge sequence size) refl
    to_end (Some UploadEnd) n =
        let e : EndsWhole (follows_by heard (Some t) (Request UploadEnd) micros Client bytes) = end_whole heard micros bytes t got crc content h g taken in
        (e.ended, λ next. subst (λ o. FollowsIn (Unit {0}) o next None ended) (sym e.none) (inl tt))
    to_end (Some (BlockDownloadEnd unused)) n = other_ignored (BlockDownloadEnd unused) refl
    to_end (Some (DownloadExpedited key value)) n = absurd (false≢true (sym n))
    to_end (Some (DownloadInitiate key size)) n = absurd (false≢true (sym n))
    to_end (Some (UploadInitiate key)) n = absurd (false≢true (sym n))
    to_end (Some (BlockUploadInitiate key size threshold)) n = absurd (false≢true (sym n))
    to_end (Some (BlockDownloadInitiate key size)) n = absurd (false≢true (sym n))

  -- by what both have
  followed : (ended : Option Read) (t : Transfer) (reading : Reading) → reading_of (Some t) Client micros bytes ≡ reading → is_begin reading ≡ false → t.direction ≡ Upload
      → (is_begin (request_reading (request_in bytes) micros bytes) ≡ false → Ignored None ended (Some t) (request_reading (request_in bytes) micros bytes)) → Ignored None ended (Some t) reading
  followed ended t reading e n up go =
      let is : reading ≡ request_reading (request_in bytes) micros bytes = sym e ∙ upload_plain t micros bytes up in
      subst (Ignored None ended (Some t)) (sym is) (go (sym (ap is_begin is) ∙ n))

  stray_ignored : (current : Option OpenTransfer) (ended : Option Read) (reading : Reading) → is_begin reading ≡ false → Ignored current ended None reading
  stray_ignored current ended (Begin new) n = absurd (false≢true (sym n))
  stray_ignored current ended _ n = (tt, λ next. inl tt)

  goes_on : (ended : Option Read) (held : Option Transfer) (reading : Reading) → reading_of held Client micros bytes ≡ reading → is_begin reading ≡ false → FollowsIn (Unit {0}) held got None ended
      → IfSome held (λ t. t.taken ≡ digest_of got) → Ignored None ended held reading
  goes_on ended None reading e n h taken = stray_ignored None ended reading n
  goes_on ended (Some t) reading e n (aside (inl i) a) taken = worn_ignored None ended t reading n ((keeps t reading bytes).irregular i.1) (faultless reading t (worn_right (one_more t) i.1))
  goes_on ended (Some t) reading e n (aside (inr down) a) taken = aside_ignored None ended t reading n (download_leads t reading bytes down) (inr ((keeps t reading bytes).direction ∙ down)) (faultless reading t (download_right (one_more t) down))
  goes_on ended (Some t) reading e n (asked l a) taken = worn_ignored None ended t reading n (asked_worn t reading bytes n (sym (ap is_response e) ∙ client_no_response (Some t) micros bytes) a) (faultless reading t (first_right (one_more t) a))
  goes_on ended (Some t) reading e n (gone a c x) taken = followed ended t reading e n a.direction (λ m. rw x (to_gone t (request_in bytes) a m))
  goes_on ended (Some t) reading e n (segmented sent content a g c x) taken = absurd (cc)
  goes_on ended (Some t) reading e n (begun size content a g c x) taken = absurd (cc)
  goes_on ended (Some t) reading e n (blocks position sent content a c x) taken = absurd (cc)
  goes_on ended (Some t) reading e n (at_end crc content a g (inl c) x) taken = followed ended t reading e n a.is.direction (λ m. to_end ended t crc content a g taken (request_in bytes) m)
  goes_on ended (Some t) reading e n (at_end crc content a g (inr c) x) taken = absurd (cc)

  by_reading : (ended : Option Read) (held : Option Transfer) (reading : Reading) → reading_of held Client micros bytes ≡ reading → FollowsIn (Unit {0}) held got None ended → IfSome held (λ t. t.taken ≡ digest_of got)
      → Ignored None ended held reading
  by_reading ended held (Begin new) e h taken =
      let b : BegunBy bytes micros (begun_after held bytes new) = begun_by held micros bytes new e in
      (left_whole held micros bytes, λ next. asked tt (subst (λ o. IfSome o (λ t. t.stage ≡ Initiated)) b.initiates (awaits b.request micros bytes)))
  by_reading ended held reading e h taken = goes_on ended held reading e refl h taken

  -- a frame that hasn't eight bytes
  short_ignored : (current : Option OpenTransfer) (ended : Option Read) (held : Option Transfer) → Ignored current ended held Nothing
  short_ignored current ended None = stray_ignored current ended Nothing refl
  short_ignored current ended (Some t) = worn_ignored current ended t Nothing refl refl tt

  either_ignored : (current : Option OpenTransfer) (ended : Option Read) (held : Option Transfer) → ((length bytes == 8) ≡ false) ⊎ (current ≡ None) → FollowsIn (Unit {0}) held got current ended → IfSome held (λ t. t.taken ≡ digest_of got)
      → Ignored current ended held (reading_of held Client micros bytes)
  either_ignored current ended held (inl short) h taken = subst (Ignored current ended held) (sym (short_reading held micros bytes short)) (short_ignored current ended held)
  either_ignored current ended held (inr none) h taken =
      subst (λ c. Ignored c ended held (reading_of held Client micros bytes)) (sym none)
      (by_reading ended held (reading_of held Client micros bytes) refl (subst (λ c. FollowsIn (Unit {0}) held got c ended) none h) taken)

pub ignored_whole : (stamp : ℕ → ℕ) (frame : List ℕ) (current : Option OpenTransfer) (ended : Option Read) (v : View) → ((length frame == 8) ≡ false) ⊎ (current ≡ None) → FollowsIn (Unit {0}) v.following.transfer v.got current ended
    → IfSome v.following.transfer (λ t. t.taken ≡ digest_of v.got)
    → IsWhole (reads v.following (stamp v.count) Client frame).says.ended × FollowsIn (Unit {0}) (hears stamp Client frame v).following.transfer (hears stamp Client frame v).got current ended
ignored_whole stamp frame current ended v ignores h taken =
    let i : Ignored (stamp v.count) frame v.following.heard v.got current ended v.following.transfer (reading_of v.following.transfer Client (stamp v.count) frame) =
    either_ignored (stamp v.count) frame v.following.heard v.got current ended v.following.transfer ignores h taken in
    (i.0, i.1 (hears stamp Client frame v).got)
