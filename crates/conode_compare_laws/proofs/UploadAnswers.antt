-- The device's frames in a block upload in which explain is as far as the device: nothing is found of them.
use Rattle.std.proofs.Common.{◌≡◌, ℕ, zero, suc, ◌+◌, ◌*◌, ◌/◌, ◌-◌, ◌<◌, ◌≤◌, Bool, true, false, not, List, [], ◌∷◌, length, map, Option, Some, None, refl, sym, ap, ◌∙◌, subst, arith, length-append}
use Rattle.std.specs.Prelude.{if◌then◌else◌, IfSome, nat_le, nat_lt, ◌==◌, ◌&&◌, ◌||◌}
use Rattle.std.specs.List.{range_with_len}
use Rattle.std.proofs.lemmas.Bool.{false≢true}
use Rattle.std.proofs.lemmas.Bool.Decides.{nat_tests}
use Rattle.co_value.specs.declared.key.Key.{Key}
use Rattle.co_value.specs.Keys.{same_key, same_key-refl}
use Rattle.co_value.specs.Numbers.{low_bytes, unsigned_of}
use Rattle.co_frame_aborts.specs.AbortCodes.{unknown_command}
use Rattle.co_frame.specs.BlockSegments.{block_segment_in, is_abort_in_sub_block}
use Rattle.co_frame.specs.SdoParts.{code_in}
use Rattle.co_frame.specs.SdoResponses.{response_bytes, response_in, response_row_in}
use Rattle.co_frame.specs.declared.block_segment.BlockSegment.{BlockSegment}
use Rattle.co_frame.specs.declared.sdo_response.SdoResponse.{SdoResponse}
use Rattle.co_frame.specs.declared.sdo_response.SdoResponse.TheVariants.{Abort as Refuse, BlockUploadInitiated, BlockUploadEnd as EndSent}
use Rattle.co_sdo.specs.Log.{Answer, Response as Replied, Segment as Sent, answer_bytes}
use Rattle.co_sdo.specs.Replies.{aborted}
use Rattle.co_sdo.specs.Uploads.{block_segment, block_upload_end, segment_count, unused_after}
use Rattle.co_sdo_laws.proofs.BlockSegments.{data_at, data_long, frame_read, segment_at}
use Rattle.co_sdo_laws.proofs.Frames.{upload_end_read}
use Rattle.conode_explain_transfers.specs.declared.kinds.Direction.TheVariants.{Upload}
use Rattle.conode_explain_transfers.specs.declared.kinds.Protocol.TheVariants.{Block}
use Rattle.conode_explain_transfers.specs.declared.kinds.Side.TheVariants.{Server}
use Rattle.conode_explain_transfers.specs.declared.kinds.What.TheVariants.{Part, Segment as SegmentHeard}
use Rattle.conode_explain_transfers.specs.declared.stage.Stage.TheVariants.{AllAcknowledged, BlockEnded, BlockInitiated, SubBlock}
use Rattle.conode_explain_transfers.specs.declared.transfer.Transfer.{Transfer}
use Rattle.conode_explain_transfers.specs.BlockTurns.{block_ended, block_ended_at, crc_in, is_block, segment_added}
use Rattle.conode_explain_transfers.specs.Followed.{Followed, Following, turns, with_frame}
use Rattle.conode_explain_transfers.specs.Initiates.{has_crc, initiate_of}
use Rattle.conode_explain_transfers.specs.Readings.{awaits_segment}
use Rattle.conode_explain_transfers.specs.Transfers.{after, awaited_number, begun, goes_on as part, is_download, takes_pending}
use Rattle.conode_explain_laws.proofs.Readings.{Abort, Begin, Reading, Response, Segment, beginning, follows_by, plain_reading, reading_of, response_reading, segment_reading, sub_block_reading, turn_of, went_on_as}
use Rattle.conode_explain_laws.proofs.UploadBlocks.{no_abort}
use Rattle.conode_explain_laws.proofs.Views.{is_begin, server_no_begin}
use Rattle.conode_compare_transfers.specs.Breaches.{key_in}
use Rattle.conode_compare_laws.proofs.AnswerBreaches.{Fine, abort_fine, fine, own_fit, refusal, stray_fine, unknown_fit}
use Rattle.conode_compare_laws.proofs.AnswerFollowed.{reads}

-- ---- answers one after another, of which nothing is found, and what explain has after them

abbrev pub AllFine : ℕ → ℕ → List Answer → Following → (Following → Type 0) → Type 0
AllFine id micros [] f next = next f
AllFine id micros (answer ∷ later) f next =
    Fine (record { id = id; bytes = answer_bytes answer }) (reads f micros Server (answer_bytes answer)).says
    × AllFine id micros later (reads f micros Server (answer_bytes answer)).next next

abbrev pub has : Bool → Option Transfer → Following
has heard o = record { heard = heard; transfer = o }

-- of what one frame is read as
by_reading : (id micros : ℕ) (answer : Answer) (heard : Bool) (o : Option Transfer) (reading : Reading) (next : Following → Type 0) → reading_of o Server micros (answer_bytes answer) ≡ reading
    → Fine (record { id = id; bytes = answer_bytes answer }) (follows_by heard o reading micros Server (answer_bytes answer)).says → next (follows_by heard o reading micros Server (answer_bytes answer)).next
    → AllFine id micros (answer ∷ []) (has heard o) next
by_reading id micros answer heard o reading next e f n =
    subst (λ r. Fine (record { id = id; bytes = answer_bytes answer }) (follows_by heard o r micros Server (answer_bytes answer)).says × next (follows_by heard o r micros Server (answer_bytes answer)).next) (sym e) (f, n)

-- ---- aborts

-- whichever transfer is open, an abort is read as one
pub abort_read_as : (o : Option Transfer) (micros : ℕ) (key : Key) (code : ℕ)
    → reading_of o Server micros (response_bytes (Refuse key (record { 0 = code }))) ≡ Abort (code_in (response_bytes (Refuse key (record { 0 = code }))))
unfolding response_row_in
abort_read_as None micros key code = refl
abort_read_as (Some t) micros key code = by (awaits_segment t Server)
  where
    by : (awaited : Bool)
        → (if awaited then sub_block_reading t.block_size Server micros (response_bytes (Refuse key (record { 0 = code }))) else plain_reading Server micros (response_bytes (Refuse key (record { 0 = code }))))
        ≡ Abort (code_in (response_bytes (Refuse key (record { 0 = code }))))
    by true = refl
    by false = refl

-- it has the transfer's entry, or is of an unknown command
abbrev pub Fits : ℕ → Key → ℕ → Transfer → Type 0
Fits id key code t = (same_key (key_in (refusal id key code)) t.key || ((code_in (response_bytes (Refuse key (record { 0 = code })))).0 == unknown_command)) ≡ true

pub aborted_fine : (id micros : ℕ) (key : Key) (code : ℕ) (heard : Bool) (o : Option Transfer) (next : Following → Type 0) → IfSome o (Fits id key code) → ((h : Bool) → next (has h None)) → AllFine id micros (aborted key code) (has heard o) next
aborted_fine id micros key code heard None next fits n =
    by_reading id micros (Replied (Refuse key (record { 0 = code }))) heard None _ next (abort_read_as None micros key code) (stray_fine heard (Abort (code_in (refusal id key code).bytes)) micros (refusal id key code) refl) (n heard)
aborted_fine id micros key code heard (Some t) next fits n =
    by_reading id micros (Replied (Refuse key (record { 0 = code }))) heard (Some t) _ next (abort_read_as (Some t) micros key code)
    (abort_fine heard t (code_in (refusal id key code).bytes) micros (refusal id key code) fits)
    (n (follows_by heard (Some t) (Abort (code_in (refusal id key code).bytes)) micros Server (refusal id key code).bytes).next.heard)

-- of an unknown command
pub unknown_fine : (id micros : ℕ) (key : Key) (heard : Bool) (o : Option Transfer) (next : Following → Type 0) → ((h : Bool) → next (has h None)) → AllFine id micros (aborted key unknown_command) (has heard o) next
unknown_fine id micros key heard None next n = aborted_fine id micros key unknown_command heard None next tt n
unknown_fine id micros key heard (Some t) next n = aborted_fine id micros key unknown_command heard (Some t) next (unknown_fit t key id) n

-- of the transfer's entry
pub own_fine : (id micros : ℕ) (key : Key) (code : ℕ) (heard : Bool) (t : Transfer) (next : Following → Type 0) → key.index < 65536 → key ≡ t.key → ((h : Bool) → next (has h None)) → AllFine id micros (aborted key code) (has heard (Some t)) next
own_fine id micros key code heard t next small is n = aborted_fine id micros key code heard (Some t) next (own_fit t key code id small is) n

-- where no transfer is open, nothing is found of any answer
passed : (answer : Answer) (micros : ℕ) (heard : Bool) (reading : Reading) → is_begin reading ≡ false → (follows_by heard None reading micros Server (answer_bytes answer)).next ≡ has heard None
passed answer micros heard (Begin t) off = absurd (false≢true (sym off))
passed answer micros heard _ off = refl

pub stray_all : (id micros : ℕ) (answers : List Answer) (heard : Bool) (next : Following → Type 0) → ((h : Bool) → next (has h None)) → AllFine id micros answers (has heard None) next
stray_all id micros [] heard next n = n heard
stray_all id micros (answer ∷ later) heard next n =
    let reading : Reading = reading_of None Server micros (answer_bytes answer) in
    let off : is_begin reading ≡ false = server_no_begin None micros (answer_bytes answer) in (
      stray_fine heard reading micros (record { id = id; bytes = answer_bytes answer }) off,
      subst (λ f. AllFine id micros later f next) (sym (passed answer micros heard reading off)) (stray_all id micros later heard next n),
    )

-- ---- a block upload

-- one without a CRC
pub record IsBlockUp (t : Transfer) : Type 0 where
  pub direction : t.direction ≡ Upload
  pub protocol : is_block t.protocol ≡ true
  pub crc : t.crc ≡ false
  pub small : t.key.index < 65536

-- the server has agreed to it
pub record IsBegun (t : Transfer) (size : ℕ) : Type 0 where
  pub is : IsBlockUp t
  pub stage : t.stage ≡ BlockInitiated
  pub number : t.next_number ≡ 1
  pub pending : t.pending.items ≡ []
  pub block_size : t.block_size ≡ size
  pub few : size < 128

-- so many segments of the sub-block after a position came
pub record InSubBlock (t : Transfer) (bytes : List ℕ) (position sent : ℕ) : Type 0 where
  pub is : IsBlockUp t
  pub stage : t.stage ≡ SubBlock (position + sent == segment_count bytes)
  pub number : t.next_number ≡ sent + 1
  pub pending : length t.pending.items ≡ 7 * sent
  pub first : position < segment_count bytes
  pub most : position + sent ≤ segment_count bytes

-- ---- its segments

abbrev pub with_it : Transfer → BlockSegment → ℕ → Transfer
with_it t segment micros = with_frame Part (after t (segment_added t segment)) micros Server

segment_is : (block_size micros : ℕ) (frame : List ℕ) (segment : BlockSegment) → is_abort_in_sub_block frame ≡ false → block_segment_in frame ≡ Some segment → nat_le segment.sequence block_size ≡ true
    → sub_block_reading block_size Server micros frame ≡ Segment segment
segment_is block_size micros frame segment a r l =
    rw a (ap (λ x. segment_reading block_size x (beginning (plain_reading Server micros frame))) r ∙ rw l refl)

module _ (id micros : ℕ) (heard : Bool) (bytes : List ℕ) (position : ℕ) where
  is_read : (t : Transfer) (sent : ℕ) → InSubBlock t bytes position sent → sent + 1 ≤ t.block_size → sent + 1 < 128
      → reading_of (Some t) Server micros (segment_at bytes position (sent + 1)) ≡ Segment (block_segment bytes position (sent + 1))
  is_read t sent h within few =
      let inside : reading_of (Some t) Server micros (segment_at bytes position (sent + 1)) ≡ sub_block_reading t.block_size Server micros (segment_at bytes position (sent + 1)) = rw (h.stage, h.is.direction) refl in
      let some : 1 ≤ sent + 1 = omega arith in
      inside
      ∙ segment_is t.block_size micros (segment_at bytes position (sent + 1)) (block_segment bytes position (sent + 1)) (no_abort bytes position (sent + 1) some few)
      (frame_read bytes position (sent + 1) (position + (sent + 1) == segment_count bytes) some few) (grind (arith, nat_tests))

  -- what is said of one, and what explain has then
  abbrev pub one_heard : Transfer → BlockSegment → Followed
  one_heard t segment = record { says = record { what = SegmentHeard segment.sequence; of = None; ended = None }; next = has heard (Some (with_it t segment micros)) }

  is_added : (t : Transfer) (frame : List ℕ) (segment : BlockSegment) → t.stage ≡ SubBlock false → nat_lt segment.sequence t.next_number ≡ false → (segment.sequence == awaited_number t) ≡ true
      → follows_by heard (Some t) (Segment segment) micros Server frame ≡ one_heard t segment
  is_added t frame segment e b1 b2 = rw (e, b1, b2) refl

  pub is_heard : (t : Transfer) (sent : ℕ) → InSubBlock t bytes position sent → position + sent < segment_count bytes → sent + 1 ≤ t.block_size → sent + 1 < 128
      → reads (has heard (Some t)) micros Server (answer_bytes (Sent (block_segment bytes position (sent + 1)))) ≡ one_heard t (block_segment bytes position (sent + 1))
  is_heard t sent h under within few =
      let number = h.number in
      let p = h.pending in
      let more : (position + sent == segment_count bytes) ≡ false = grind (arith, nat_tests) in
      let below : nat_lt (sent + 1) t.next_number ≡ false = grind (arith, nat_tests) in
      let awaited : sent + 1 ≡ length t.pending.items / 7 + 1 = omega (arith, p) in
      let next : (sent + 1 == length t.pending.items / 7 + 1) ≡ true = grind (arith, nat_tests) in
      ap (λ r. follows_by heard (Some t) r micros Server (segment_at bytes position (sent + 1))) (is_read t sent h within few)
      ∙ is_added t (segment_at bytes position (sent + 1)) (block_segment bytes position (sent + 1)) (h.stage ∙ ap (λ b. SubBlock b) more) below next

  -- one more is pending
  pub one_pending : (t : Transfer) (sent : ℕ) → InSubBlock t bytes position sent → position + sent < segment_count bytes
      → InSubBlock (with_it t (block_segment bytes position (sent + 1)) micros) bytes position (sent + 1)
  one_pending t sent h under =
      let p = h.pending in
      let n = length-append t.pending.items (data_at bytes position (sent + 1)) in
      let seven = data_long bytes position (sent + 1) in
      record {
        is = record { direction = h.is.direction; protocol = h.is.protocol; crc = h.is.crc; small = h.is.small };
        stage = refl;
        number = refl;
        pending = omega (arith, n, p, seven);
        first = h.first;
        most = omega arith;
      }

  -- so many more
  pub more_fine : (more : ℕ) (t : Transfer) (sent : ℕ) (next : Following → Type 0) → InSubBlock t bytes position sent → position + (sent + more) ≤ segment_count bytes → sent + more ≤ t.block_size → sent + more < 128
      → ((u : Transfer) → InSubBlock u bytes position (sent + more) → u.key ≡ t.key → next (has heard (Some u)))
      → AllFine id micros (map (λ number. Sent (block_segment bytes position number)) (range_with_len (sent + 1) more)) (has heard (Some t)) next
  more_fine zero t sent next h most within few go =
      let none : sent ≡ sent + 0 = omega arith in
      go t (subst (InSubBlock t bytes position) none h) refl
  more_fine (suc more) t sent next h most within few go =
      let u = with_it t (block_segment bytes position (sent + 1)) micros in
      let under : position + sent < segment_count bytes = omega arith in
      let sum : sent + 1 + more ≡ sent + suc more = omega arith in
      let segment : Answer = Sent (block_segment bytes position (sent + 1)) in
      subst (λ (f : Followed). Fine (record { id = id; bytes = answer_bytes (Sent (block_segment bytes position (sent + 1))) }) f.says
      × AllFine id micros (map (λ number. Sent (block_segment bytes position number)) (range_with_len (sent + 1 + 1) more)) f.next next)
      (sym (is_heard t sent h under (omega arith) (omega arith))) (
        fine (one_heard t (block_segment bytes position (sent + 1))).says (record { id = id; bytes = answer_bytes segment }) refl tt,
        more_fine more u (sent + 1) next (one_pending t sent h under) (omega arith) (omega arith) (omega arith)
            (λ w k e. go w (subst (InSubBlock w bytes position) sum k) e),
      )

-- ---- the server's end

pub end_fine : (id micros : ℕ) (heard : Bool) (t : Transfer) (bytes : List ℕ) (next : Following → Type 0) → IsBlockUp t → t.stage ≡ AllAcknowledged
    → ((u : Transfer) (crc : ℕ) → IsBlockUp u → u.stage ≡ BlockEnded crc → u.key ≡ t.key → next (has heard (Some u))) → AllFine id micros (block_upload_end bytes) (has heard (Some t)) next
end_fine id micros heard t bytes next is e go =
    let unused = unused_after bytes in
    let response : SdoResponse = EndSent unused in
    let crc = crc_in (response_bytes response) in
    let turn : turn_of t (Response response) (response_bytes response) ≡ takes_pending (record t { stage = BlockEnded crc }) (length t.pending.items - unused) =
    ap (λ x. block_ended (not (is_download x)) t unused crc) is.direction ∙ ap (λ stage. block_ended_at stage t unused crc) e in
    let read : reading_of (Some t) Server micros (response_bytes response) ≡ response_reading (response_in (response_bytes response)) = rw e refl in
    let heard_so : follows_by heard (Some t) (Response response) micros Server (response_bytes response)
    ≡ record { says = record { what = Part; of = None; ended = None }; next = has heard (Some (with_frame Part (after t (takes_pending (record t { stage = BlockEnded crc }) (length t.pending.items - unused))) micros Server)) } =
    ap (λ x. turns heard t x micros Server) turn in
    let both = subst (λ (f : Followed). Fine (record { id = id; bytes = response_bytes (EndSent (unused_after bytes)) }) f.says × next f.next) (sym heard_so) (
      fine (record { what = Part; of = None; ended = None }) (record { id = id; bytes = response_bytes response }) refl tt,
      go (with_frame Part (after t (takes_pending (record t { stage = BlockEnded crc }) (length t.pending.items - unused))) micros Server) crc
          (record { direction = is.direction; protocol = is.protocol; crc = is.crc; small = is.small }) refl refl,
    ) in
    by_reading id micros (Replied response) heard (Some t) (Response response) next (read ∙ ap response_reading (upload_end_read unused (omega arith))) both.0 both.1

-- ---- the answer to initiate

two_bytes : (x : ℕ) → x < 65536 → unsigned_of (low_bytes 2 x) ≡ x
two_bytes x h = omega arith

begun_read : (key : Key) (size : ℕ) → key.index < 65536 → response_in (response_bytes (BlockUploadInitiated key (Some size))) ≡ Some (BlockUploadInitiated key (Some (unsigned_of (low_bytes 4 size))))
unfolding response_row_in
begun_read key size small = rw (two_bytes key.index small) refl

never : (b : Bool) → (b && false) ≡ false
never true = refl
never false = refl

-- the transfer that the request begins, of a client that went on before, or not
abbrev pub asks_blocks : Bool → Key → ℕ → ℕ → List ℕ → Transfer
asks_blocks on key block_size micros frame = went_on_as on (begun (record (initiate_of key Upload Block) { crc = has_crc frame; block_size = block_size }) micros frame)

pub begun_fine : (id micros : ℕ) (heard on : Bool) (key : Key) (block_size size begin : ℕ) (frame : List ℕ) (next : Following → Type 0) → key.index < 65536 → block_size < 128
    → ((u : Transfer) → IsBegun u block_size → u.key ≡ key → next (has heard (Some u)))
    → AllFine id micros (Replied (BlockUploadInitiated key (Some size)) ∷ []) (has heard (Some (asks_blocks on key block_size begin frame))) next
begun_fine id micros heard on key block_size size begin frame next small few go =
    let t : Transfer = asks_blocks on key block_size begin frame in
    let answer : Answer = Replied (BlockUploadInitiated key (Some size)) in
    let response : SdoResponse = BlockUploadInitiated key (Some (unsigned_of (low_bytes 4 size))) in
    let u : Transfer = with_frame Part (after t (part (record t { size = Some (unsigned_of (low_bytes 4 size)); crc = has_crc frame && false; stage = BlockInitiated }))) micros Server in
    let heard_so : follows_by heard (Some t) (Response response) micros Server (answer_bytes answer) ≡ record { says = record { what = Part; of = None; ended = None }; next = has heard (Some u) } = rw (same_key-refl key) refl in
    let both = subst (λ (f : Followed). Fine (record { id = id; bytes = answer_bytes (Replied (BlockUploadInitiated key (Some size))) }) f.says × next f.next) (sym heard_so) (
      fine (record { what = Part; of = None; ended = None }) (record { id = id; bytes = answer_bytes answer }) refl tt,
      go u (record { is = record { direction = refl; protocol = refl; crc = never (has_crc frame); small = small }; stage = refl; number = refl; pending = refl; block_size = refl; few = few }) refl,
    ) in
    by_reading id micros answer heard (Some t) (Response response) next (ap response_reading (begun_read key size small)) both.0 both.1
