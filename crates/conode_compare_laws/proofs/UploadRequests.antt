-- The client's frames in a block upload without a CRC that goes on with none: what explain has then, and that nothing is found of them.
use Rattle.std.proofs.Common.{◌≡◌, ℕ, ◌+◌, ◌*◌, ◌/◌, ◌<◌, Bool, true, false, not, List, [], length, Option, Some, None, refl, sym, ap, ◌∙◌, inl, inr, subst, arith}
use Rattle.std.specs.Prelude.{if◌then◌else◌, is_some, nat_lt, ◌==◌, ◌&&◌}
use Rattle.std.proofs.lemmas.Bool.{eqb-true, false≢true}
use Rattle.std.proofs.lemmas.Bool.Decides.{nat_tests}
use Rattle.arrayvec.specs.ArrayVec.{ArrayVec}
use Rattle.co_value.specs.declared.key.Key.{Key}
use Rattle.co_frame.specs.FrameContent.{FrameContent}
use Rattle.co_frame_aborts.specs.declared.abort_code.AbortCode.{AbortCode}
use Rattle.co_frame.specs.declared.sdo_request.SdoRequest.{SdoRequest}
use Rattle.co_frame.specs.declared.sdo_request.SdoRequest.TheVariants.{DownloadSegment, UploadSegment as NextSegment, Abort as Abandon, BlockUploadEnd as UploadEnd, BlockUploadAcknowledge, BlockUploadStart, BlockDownloadEnd}
use Rattle.co_sdo.specs.OpenTransfers.{is_initiate as initiates}
use Rattle.co_sdo.specs.Uploads.{segment_count}
use Rattle.conode_explain_transfers.specs.declared.kinds.Side.TheVariants.{Client}
use Rattle.conode_explain_transfers.specs.declared.kinds.What.{What}
use Rattle.conode_explain_transfers.specs.declared.kinds.What.TheVariants as what
use Rattle.conode_explain_transfers.specs.declared.stage.Stage.{Stage}
use Rattle.conode_explain_transfers.specs.declared.stage.Stage.TheVariants.{AllAcknowledged, BlockEnded, BlockInitiated, DownloadConfirmed, DownloadSent, Initiated, SubBlock, UploadAsked, UploadTaken}
use Rattle.conode_explain_transfers.specs.declared.transfer.Transfer.{Transfer}
use Rattle.conode_explain_transfers.specs.BlockTurns.{acknowledged, acknowledged_at, acknowledged_in, block_ended, block_ended_at, crc_in, end_confirmed, end_confirmed_at, is_block, next_sub_block as after_sub_block, upload_started_at}
use Rattle.conode_explain_transfers.specs.Endings.{ended, verdict}
use Rattle.conode_explain_transfers.specs.Followed.{Followed, one_more, turns_at, with_frame}
use Rattle.conode_explain_transfers.specs.SegmentedTurns.{download_segment_at, upload_request_at}
use Rattle.conode_explain_transfers.specs.Stages.{confirmed_with}
use Rattle.conode_explain_transfers.specs.Transfers.{Turn, after, awaited_number, goes_on as part, is_download, takes_pending, unexpected}
use Rattle.conode_explain_transfers.specs.Turns.{request_turn}
use Rattle.conode_explain_transfers.specs.Unanswered.{not_followed_by}
use Rattle.conode_explain_laws.proofs.Readings.{Abort, Nothing, Request, follows_by, request_reading, turn_of}
use Rattle.conode_explain_laws.proofs.UploadStanding.{is_ended}
use Rattle.conode_compare_laws.proofs.AnswerBreaches.{FineEnd, IsCrcless, IsWithoutCrc, confirmed_end, refused_fine}
use Rattle.conode_compare_laws.proofs.AnswerToggles.{is_kept, turn_what}
use Rattle.conode_compare_laws.proofs.AnswerTurns.{in_blocks, unconfirmed}
use Rattle.conode_compare_laws.proofs.UploadAnswers.{InSubBlock, IsBegun, IsBlockUp, has}

-- ---- what a request makes of it

-- it goes on with none, or ends it without a CRC, or the upload stays in blocks
pub data Makes (t : Transfer) (turn : Turn) : Type 0 where
  spoils : turn ≡ unexpected t → Makes t turn
  ends : is_some (confirmed_with turn.transfer.stage) ≡ true → IsWithoutCrc (confirmed_with turn.transfer.stage) → Makes t turn
  moves : in_blocks turn.transfer.stage ≡ true → turn.transfer.direction ≡ t.direction → turn.transfer.protocol ≡ t.protocol → turn.transfer.crc ≡ t.crc → turn.transfer.key ≡ t.key → Makes t turn

either : (t : Transfer) (b : Bool) (x y : Turn) → Makes t x → Makes t y → Makes t (if b then x else y)
either t true x y p q = p
either t false x y p q = q

module _ (t : Transfer) (is : IsBlockUp t) where
  no_download : (stage : Stage) (toggle : Bool) (items : ArrayVec ℕ) (last : Bool) → in_blocks stage ≡ true → Makes t (download_segment_at stage t toggle items last)
  no_download (DownloadConfirmed awaited) toggle items last h = absurd (false≢true h)
  no_download (DownloadSent sent was_last) toggle items last h = absurd (false≢true h)
  no_download _ toggle items last h = spoils refl

  no_next : (stage : Stage) (toggle : Bool) → in_blocks stage ≡ true → Makes t (upload_request_at stage t toggle)
  no_next (UploadTaken awaited) toggle h = absurd (false≢true h)
  no_next (UploadAsked other) toggle h = absurd (false≢true h)
  no_next _ toggle h = spoils refl

  starts : (stage : Stage) → Makes t (upload_started_at stage t)
  starts BlockInitiated = moves refl refl refl refl refl
  starts _ = spoils refl

  acknowledges_at : (stage : Stage) (sequence size : ℕ) → Makes t (acknowledged_at stage t sequence size)
  acknowledges_at (SubBlock last) sequence size =
      either t (nat_lt sequence (awaited_number t)) _ _
      (either t (last && (sequence + 1 == awaited_number t)) _ _ (moves refl refl refl refl refl) (moves refl refl refl refl refl)) (moves refl refl refl refl refl)
  acknowledges_at _ sequence size = spoils refl

  acknowledges : (by : Bool) (sequence size : ℕ) → Makes t (acknowledged by t sequence size)
  acknowledges true sequence size = acknowledges_at t.stage sequence size
  acknowledges false sequence size = spoils refl

  crc_off : (crc : ℕ) (b : Bool) → b ≡ false → IsWithoutCrc (Some (if b then Some crc else None))
  crc_off crc true e = absurd (false≢true (sym e))
  crc_off crc false e = refl

  confirms_at : (stage : Stage) → Makes t (end_confirmed_at stage t)
  confirms_at (BlockEnded crc) = ends refl (crc_off crc t.crc is.crc)
  confirms_at Initiated = spoils refl
  confirms_at _ = ends refl refl

  confirms : (by : Bool) → Makes t (end_confirmed by t)
  confirms true = either t (is_block t.protocol) (end_confirmed_at t.stage t) (unexpected t) (confirms_at t.stage) (spoils refl)
  confirms false = spoils refl

  no_end : (by : Bool) (unused crc : ℕ) → by ≡ false → Makes t (block_ended by t unused crc)
  no_end true unused crc e = absurd (false≢true (sym e))
  no_end false unused crc e = spoils refl

  makes : (request : SdoRequest) (bytes : List ℕ) → in_blocks t.stage ≡ true → Makes t (request_turn t request bytes)
  makes (DownloadSegment toggle items last) bytes b = no_download t.stage toggle items last b
  makes (NextSegment toggle) bytes b = no_next t.stage toggle b
  makes BlockUploadStart bytes b = starts t.stage
  makes (BlockUploadAcknowledge sequence size) bytes b = acknowledges (not (is_download t.direction)) sequence size
  makes UploadEnd bytes b = confirms (not (is_download t.direction))
  makes (BlockDownloadEnd unused) bytes b = no_end (is_download t.direction) unused (crc_in bytes) (ap is_download is.direction)
  makes _ bytes b = spoils refl

-- ---- what is said of it, and what explain has then

pub data Follows (t : Transfer) (f : Followed) : Type 0 where
  odd : is_kept f.says.what ≡ false → Follows t f
  over : f.next.transfer ≡ None → Follows t f
  lasts : (u : Transfer) → f.next.transfer ≡ Some u → IsBlockUp u → in_blocks u.stage ≡ true → u.key ≡ t.key → Follows t f

pub record Heard (t : Transfer) (frame : FrameContent) (f : Followed) : Type 0 where
  pub follows : Follows t f
  pub fine : FineEnd frame f.says.ended

frame_lasts : (w : What) (u : Transfer) (micros : ℕ) (t : Transfer) (heard : Bool) → IsBlockUp u → in_blocks u.stage ≡ true → u.key ≡ t.key → Follows t (turns_at None heard w u micros Client)
frame_lasts what.Overtaken u micros t heard is b k = lasts u refl is b k
frame_lasts w u micros t heard is b k = lasts (with_frame w u micros Client) refl (up w) (blocks w) (key w)
  where
    up : (w : What) → IsBlockUp (with_frame w u micros Client)
    up what.Overtaken = is
    up _ = record { direction = is.direction; protocol = is.protocol; crc = is.crc; small = is.small }

    blocks : (w : What) → in_blocks (with_frame w u micros Client).stage ≡ true
    blocks what.Overtaken = b
    blocks _ = b

    key : (w : What) → (with_frame w u micros Client).key ≡ t.key
    key what.Overtaken = k
    key _ = k

-- after a confirmation without a CRC
over_by : (t : Transfer) (x : Option (Option ℕ)) (heard : Bool) (w : What) (u : Transfer) (micros : ℕ) (frame : FrameContent) → is_some x ≡ true → IsWithoutCrc x → Heard t frame (turns_at x heard w u micros Client)
over_by t None heard w u micros frame on n = absurd (false≢true on)
over_by t (Some crc) heard w u micros frame on n = record {
  follows = over refl;
  fine = subst (λ c. FineEnd frame (Some (ended (one_more u) micros (verdict u c)))) (sym n) (confirmed_end frame (ended (one_more u) micros (verdict u None)) u.direction u);
}

odd_by : (t : Transfer) (x : Option (Option ℕ)) (heard : Bool) (u : Transfer) (micros : ℕ) (frame : FrameContent) → x ≡ None → Heard t frame (turns_at x heard what.Unexpected u micros Client)
odd_by t None heard u micros frame e = record { follows = odd refl; fine = tt }
odd_by t (Some crc) heard u micros frame e = absurd (let no : is_some (Some crc) ≡ false = ap is_some e in false≢true (sym no))

lasts_by : (t : Transfer) (x : Option (Option ℕ)) (heard : Bool) (w : What) (u : Transfer) (micros : ℕ) (frame : FrameContent) → x ≡ None → IsBlockUp u → in_blocks u.stage ≡ true → u.key ≡ t.key
    → Heard t frame (turns_at x heard w u micros Client)
lasts_by t None heard w u micros frame e is b k = record { follows = frame_lasts w u micros t heard is b k; fine = tt }
lasts_by t (Some crc) heard w u micros frame e is b k = absurd (let no : is_some (Some crc) ≡ false = ap is_some e in false≢true (sym no))

module _ (heard : Bool) (t : Transfer) (micros : ℕ) (frame : FrameContent) (is : IsBlockUp t) (b : in_blocks t.stage ≡ true) where
  by_turn : (turn : Turn) → Makes t turn → Heard t frame (turns_at (confirmed_with turn.transfer.stage) heard turn.what (after t turn) micros Client)
  by_turn turn (spoils e) =
      subst (λ (x : Turn). Heard t frame (turns_at (confirmed_with x.transfer.stage) heard x.what (after t x) micros Client)) (sym e) (odd_by t (confirmed_with t.stage) heard (after t (unexpected t)) micros frame (unconfirmed t.stage b))
  by_turn turn (ends on n) = over_by t (confirmed_with turn.transfer.stage) heard turn.what (after t turn) micros frame on n
  by_turn turn (moves i d p c k) =
      lasts_by t (confirmed_with turn.transfer.stage) heard turn.what (after t turn) micros frame (unconfirmed turn.transfer.stage i)
      (record { direction = d ∙ is.direction; protocol = ap is_block p ∙ is.protocol; crc = c ∙ is.crc; small = subst (λ (x : Key). x.index < 65536) (sym k) is.small }) i k

  request_heard : (request : SdoRequest) → Heard t frame (follows_by heard (Some t) (Request request) micros Client frame.bytes)
  request_heard request = by_turn (request_turn t request frame.bytes) (makes t is request frame.bytes b)

-- an abort ends it
pub abort_heard : (heard : Bool) (t : Transfer) (micros : ℕ) (frame : FrameContent) (code : AbortCode) → IsCrcless t → Heard t frame (follows_by heard (Some t) (Abort code) micros Client frame.bytes)
abort_heard heard t micros frame code h = record { follows = over refl; fine = refused_fine frame t code micros t.direction (not_followed_by Client t frame.bytes) h }

-- any frame that begins nothing
pub later_heard : (heard : Bool) (t : Transfer) (micros : ℕ) (frame : FrameContent) (r : Option SdoRequest) → IsBlockUp t → in_blocks t.stage ≡ true → initiates r ≡ false
    → Heard t frame (follows_by heard (Some t) (request_reading r micros frame.bytes) micros Client frame.bytes)
later_heard heard t micros frame None is b n = odd_by t (confirmed_with t.stage) heard (after t (unexpected t)) micros frame (unconfirmed t.stage b)
later_heard heard t micros frame (Some (Abandon key code)) is b n = abort_heard heard t micros frame code (inr is.crc)
later_heard heard t micros frame (Some (DownloadSegment toggle items last)) is b n = request_heard heard t micros frame is b (DownloadSegment toggle items last)
later_heard heard t micros frame (Some (NextSegment toggle)) is b n = request_heard heard t micros frame is b (NextSegment toggle)
later_heard heard t micros frame (Some UploadEnd) is b n = request_heard heard t micros frame is b UploadEnd
later_heard heard t micros frame (Some (BlockUploadAcknowledge sequence size)) is b n = request_heard heard t micros frame is b (BlockUploadAcknowledge sequence size)
later_heard heard t micros frame (Some BlockUploadStart) is b n = request_heard heard t micros frame is b BlockUploadStart
later_heard heard t micros frame (Some (BlockDownloadEnd unused)) is b n = request_heard heard t micros frame is b (BlockDownloadEnd unused)
later_heard heard t micros frame (Some _) is b n = absurd (false≢true (sym n))

-- one that is no request
pub nothing_odd : (heard : Bool) (t : Transfer) (micros : ℕ) (bytes : List ℕ) → is_kept (follows_by heard (Some t) Nothing micros Client bytes).says.what ≡ false
nothing_odd heard t micros bytes = ap is_kept (turn_what (confirmed_with t.stage) heard what.Unexpected (after t (unexpected t)) micros Client)

-- ---- before the answer to initiate: none goes on with it, but an abort ends it

first_turn : (t : Transfer) (request : SdoRequest) (bytes : List ℕ) → t.stage ≡ Initiated → request_turn t request bytes ≡ unexpected t
first_turn t (DownloadSegment toggle items last) bytes e = ap (λ s. download_segment_at s t toggle items last) e
first_turn t (NextSegment toggle) bytes e = ap (λ s. upload_request_at s t toggle) e
first_turn t BlockUploadStart bytes e = ap (λ s. upload_started_at s t) e
first_turn t (BlockUploadAcknowledge sequence size) bytes e = by (not (is_download t.direction))
  where
    by : (b : Bool) → acknowledged b t sequence size ≡ unexpected t
    by true = ap (λ s. acknowledged_at s t sequence size) e
    by false = refl
first_turn t UploadEnd bytes e = by (not (is_download t.direction)) (is_block t.protocol) refl
  where
    by : (b block : Bool) → is_block t.protocol ≡ block → end_confirmed b t ≡ unexpected t
    by true true p = ap (λ x. if x then end_confirmed_at t.stage t else unexpected t) p ∙ ap (λ s. end_confirmed_at s t) e
    by true false p = ap (λ x. if x then end_confirmed_at t.stage t else unexpected t) p
    by false block p = refl
first_turn t (BlockDownloadEnd unused) bytes e = by (is_download t.direction)
  where
    by : (b : Bool) → block_ended b t unused (crc_in bytes) ≡ unexpected t
    by true = ap (λ s. block_ended_at s t unused (crc_in bytes)) e
    by false = refl
first_turn t _ bytes e = refl

module _ (heard : Bool) (t : Transfer) (micros : ℕ) (frame : FrameContent) (e : t.stage ≡ Initiated) where
  first_request : (request : SdoRequest) → Heard t frame (follows_by heard (Some t) (Request request) micros Client frame.bytes)
  first_request request =
      subst (λ (x : Turn). Heard t frame (turns_at (confirmed_with x.transfer.stage) heard x.what (after t x) micros Client)) (sym (first_turn t request frame.bytes e))
      (odd_by t (confirmed_with t.stage) heard (after t (unexpected t)) micros frame (ap confirmed_with e))

  pub first_heard : (r : Option SdoRequest) → initiates r ≡ false → Heard t frame (follows_by heard (Some t) (request_reading r micros frame.bytes) micros Client frame.bytes)
  first_heard None n = odd_by t (confirmed_with t.stage) heard (after t (unexpected t)) micros frame (ap confirmed_with e)
  first_heard (Some (Abandon key code)) n = abort_heard heard t micros frame code (inl (ap is_ended e))
  first_heard (Some (DownloadSegment toggle items last)) n = first_request (DownloadSegment toggle items last)
  first_heard (Some (NextSegment toggle)) n = first_request (NextSegment toggle)
  first_heard (Some UploadEnd) n = first_request UploadEnd
  first_heard (Some (BlockUploadAcknowledge sequence size)) n = first_request (BlockUploadAcknowledge sequence size)
  first_heard (Some BlockUploadStart) n = first_request BlockUploadStart
  first_heard (Some (BlockDownloadEnd unused)) n = first_request (BlockDownloadEnd unused)
  first_heard (Some _) n = absurd (false≢true (sym n))

-- ---- the start, and an acknowledgement, in their turn

pub start_heard : (heard : Bool) (t : Transfer) (micros size : ℕ) (bytes content : List ℕ) (P : Followed → Type 0) → IsBegun t size
    → ((u : Transfer) → InSubBlock u content 0 0 → u.block_size ≡ size → u.key ≡ t.key → P (record { says = record { what = what.Part; of = None; ended = None }; next = has heard (Some u) }))
    → P (follows_by heard (Some t) (Request BlockUploadStart) micros Client bytes)
start_heard heard t micros size bytes content P h go =
    let more : (0 + 0 == segment_count content) ≡ false = grind (arith, nat_tests) in
    let u : Transfer = with_frame what.Part (after t (part (record t { stage = SubBlock false }))) micros Client in
    let heard_so : follows_by heard (Some t) (Request BlockUploadStart) micros Client bytes ≡ record { says = record { what = what.Part; of = None; ended = None }; next = has heard (Some u) } = by h.stage in
    subst P (sym heard_so)
    (go u (record {
      is = record { direction = h.is.direction; protocol = h.is.protocol; crc = h.is.crc; small = h.is.small };
      stage = ap (λ b. SubBlock b) (sym more);
      number = h.number;
      pending = ap length h.pending;
      first = omega arith;
      most = omega arith;
    }) h.block_size refl)
  where
    by : t.stage ≡ BlockInitiated → follows_by heard (Some t) (Request BlockUploadStart) micros Client bytes
        ≡ record { says = record { what = what.Part; of = None; ended = None }; next = has heard (Some (with_frame what.Part (after t (part (record t { stage = SubBlock false }))) micros Client)) }
    by e = rw e refl

module _ (heard : Bool) (t : Transfer) (micros : ℕ) (frame content : List ℕ) (position sent sequence size : ℕ) (h : InSubBlock t content position sent) where
  -- by what it makes of explain's transfer
  acknowledge_is : turn_of t (Request (BlockUploadAcknowledge sequence size)) frame ≡ acknowledged_in (position + sent == segment_count content) t sequence size
  acknowledge_is = ap (λ x. acknowledged (not (is_download x)) t sequence size) h.is.direction ∙ ap (λ stage. acknowledged_at stage t sequence size) h.stage

  -- of all segments
  all_acknowledged : nat_lt sent sequence ≡ false → (position + sequence == segment_count content) ≡ true
      → turn_of t (Request (BlockUploadAcknowledge sequence size)) frame ≡ part (record t { stage = AllAcknowledged })
  all_acknowledged few all =
      let p = h.pending in
      let most = h.most in
      let whole : (position + sent == segment_count content) ≡ true = grind (arith, nat_tests) in
      let awaited : length t.pending.items / 7 + 1 ≡ sent + 1 = omega (arith, p) in
      let below : nat_lt sequence (length t.pending.items / 7 + 1) ≡ true = grind (arith, nat_tests) in
      let last : (sequence + 1 == length t.pending.items / 7 + 1) ≡ true = grind (arith, nat_tests) in
      acknowledge_is ∙ ap (λ b. acknowledged_in b t sequence size) whole ∙ rw (below, last) refl

  -- of some
  some_acknowledged : nat_lt sent sequence ≡ false → (position + sequence == segment_count content) ≡ false
      → turn_of t (Request (BlockUploadAcknowledge sequence size)) frame ≡ takes_pending (after_sub_block t size) (7 * sequence)
  some_acknowledged few more =
      let p = h.pending in
      let awaited : length t.pending.items / 7 + 1 ≡ sent + 1 = omega (arith, p) in
      let below : nat_lt sequence (length t.pending.items / 7 + 1) ≡ true = grind (arith, nat_tests) in
      acknowledge_is ∙ rw (below, not_last (position + sent == segment_count content) (sequence + 1 == length t.pending.items / 7 + 1) refl refl) refl
    where
      not_last : (a b : Bool) → (position + sent == segment_count content) ≡ a → (sequence + 1 == length t.pending.items / 7 + 1) ≡ b → (a && b) ≡ false
      not_last true true x y =
          let p = h.pending in
          let awaited : length t.pending.items / 7 + 1 ≡ sent + 1 = omega (arith, p) in
          let whole : position + sent ≡ segment_count content = eqb-true _ _ x in
          let same : sequence + 1 ≡ length t.pending.items / 7 + 1 = eqb-true _ _ y in
          absurd (grind (arith, nat_tests))
      not_last true false x y = refl
      not_last false b x y = refl

  abbrev Acknowledged : (Followed → Type 0) → Type 0
  Acknowledged P = P (follows_by heard (Some t) (Request (BlockUploadAcknowledge sequence size)) micros Client frame)

  pub all_heard : (P : Followed → Type 0) → nat_lt sent sequence ≡ false → (position + sequence == segment_count content) ≡ true
      → ((u : Transfer) → IsBlockUp u → u.stage ≡ AllAcknowledged → u.key ≡ t.key → P (record { says = record { what = what.Part; of = None; ended = None }; next = has heard (Some u) }))
      → Acknowledged P
  all_heard P few all go =
      subst (λ (x : Turn). P (turns_at (confirmed_with x.transfer.stage) heard x.what (after t x) micros Client)) (sym (all_acknowledged few all))
      (go (with_frame what.Part (after t (part (record t { stage = AllAcknowledged }))) micros Client) (record { direction = h.is.direction; protocol = h.is.protocol; crc = h.is.crc; small = h.is.small }) refl refl)

  pub some_heard : (P : Followed → Type 0) → nat_lt sent sequence ≡ false → (position + sequence == segment_count content) ≡ false
      → ((u : Transfer) → InSubBlock u content (position + sequence) 0 → u.block_size ≡ size → u.key ≡ t.key → P (record { says = record { what = what.Part; of = None; ended = None }; next = has heard (Some u) }))
      → Acknowledged P
  some_heard P few more go =
      let most = h.most in
      let under : position + sequence < segment_count content = grind (arith, nat_tests) in
      let unfinished : (position + sequence + 0 == segment_count content) ≡ false = grind (arith, nat_tests) in
      subst (λ (x : Turn). P (turns_at (confirmed_with x.transfer.stage) heard x.what (after t x) micros Client)) (sym (some_acknowledged few more))
      (go (with_frame what.Part (after t (takes_pending (after_sub_block t size) (7 * sequence))) micros Client)
      (record {
        is = record { direction = h.is.direction; protocol = h.is.protocol; crc = h.is.crc; small = h.is.small };
        stage = ap (λ b. SubBlock b) (sym unfinished);
        number = refl;
        pending = refl;
        first = under;
        most = omega (arith, under);
      }) refl refl)
