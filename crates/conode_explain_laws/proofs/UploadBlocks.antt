-- The segments of a sub-block that explain hears of the channel's upload in blocks.
use Rattle.std.proofs.Common.{◌≡◌, ℕ, zero, suc, ◌+◌, ◌*◌, ◌/◌, ◌-◌, ◌<◌, ◌≤◌, Bool, true, false, List, ◌++◌, length, take, map, Some, refl, sym, ap, ◌∙◌, subst, arith, length-append, length-take, append_assoc}
use Rattle.std.specs.Prelude.{if◌then◌else◌, nat_le, nat_lt, ◌==◌}
use Rattle.std.specs.List.{range_with_len}
use Rattle.std.proofs.Math.Seq.{take-append-add}
use Rattle.std.proofs.lemmas.Bool.{eqb-true}
use Rattle.std.proofs.lemmas.Bool.Decides.{nat_tests}
use Rattle.std.proofs.lemmas.List.{take-append-le, take-take}
use Rattle.co_frame.specs.SdoFields.{padded}
use Rattle.co_frame.specs.BlockSegments.{block_segment_in, is_abort_in_sub_block}
use Rattle.co_frame.specs.declared.block_segment.BlockSegment.{BlockSegment}
use Rattle.co_sdo.specs.Log.{Segment as Sent, answer_bytes}
use Rattle.co_sdo.specs.Downloads.{without}
use Rattle.co_sdo.specs.Uploads.{part_after, segment_count, block_segment}
use Rattle.co_sdo_laws.proofs.BlockSegments.{all_held, all_is, segment_at, data_at, data_long, frame_long, frame_read, other_byte, next_joined, last_joined}
use Rattle.conode_explain_transfers.specs.declared.kinds.Direction.TheVariants.{Upload}
use Rattle.conode_explain_transfers.specs.declared.kinds.Side.TheVariants.{Server}
use Rattle.conode_explain_transfers.specs.declared.kinds.What.TheVariants.{Part}
use Rattle.conode_explain_transfers.specs.declared.stage.Stage.TheVariants.{SubBlock}
use Rattle.conode_explain_transfers.specs.declared.transfer.Transfer.{Transfer}
use Rattle.conode_explain_transfers.specs.BlockTurns.{is_block, segment_added}
use Rattle.conode_explain_transfers.specs.Followed.{with_frame}
use Rattle.conode_explain_transfers.specs.Transfers.{after, awaited_number}
use Rattle.conode_explain_laws.specs.Downloads.{Complete}
use Rattle.conode_explain_laws.proofs.Readings.{Segment, plain_reading, beginning, segment_reading, sub_block_reading, reading_of}
use Rattle.conode_explain_laws.proofs.Views.{View}
use Rattle.conode_explain_laws.proofs.UploadViews.{holds, read_as, hears, hears_answers}

-- ---- the data of the first segments, of which the last is filled up with zeros

abbrev pub first_data : List ℕ → ℕ → List ℕ
first_data bytes n = if n == segment_count bytes then all_held bytes (segment_count bytes - 1) else take (7 * n) bytes

-- one segment more
pub data_more : (bytes : List ℕ) (position sent : ℕ) → position + sent < segment_count bytes
    → first_data bytes (position + sent) ++ data_at bytes position (sent + 1) ≡ first_data bytes (position + (sent + 1))
data_more bytes position sent h = by (position + (sent + 1) == segment_count bytes) refl
  where
    before : (position + sent == segment_count bytes) ≡ false
    before = grind (arith, nat_tests)

    by : (last : Bool) → (position + (sent + 1) == segment_count bytes) ≡ last
        → first_data bytes (position + sent) ++ data_at bytes position (sent + 1) ≡ first_data bytes (position + (sent + 1))
    by true e = rw (before, e) (last_joined bytes position sent (sent + 1) refl (eqb-true _ _ e))
    by false e = let below : position + (sent + 1) < segment_count bytes = grind (arith, nat_tests) in rw (before, e) (next_joined bytes position sent (sent + 1) refl below)

-- the first of them
pub data_front : (bytes : List ℕ) (n k : ℕ) → k ≤ n → k < segment_count bytes → take (7 * k) (first_data bytes n) ≡ take (7 * k) bytes
data_front bytes n k few under = by (n == segment_count bytes)
  where
    by : (last : Bool) → take (7 * k) (if last then all_held bytes (segment_count bytes - 1) else take (7 * n) bytes) ≡ take (7 * k) bytes
    by true =
        let whole = length-take (7 * (segment_count bytes - 1)) bytes in
        let room : 7 * k ≤ length (take (7 * (segment_count bytes - 1)) bytes) = omega (arith, whole) in
        take-append-le (7 * k) (take (7 * (segment_count bytes - 1)) bytes) (padded 7 (part_after (segment_count bytes - 1) bytes)) room
        ∙ take-take (7 * k) (7 * (segment_count bytes - 1)) bytes (omega arith)
    by false = take-take (7 * k) (7 * n) bytes (omega arith)

-- without the bytes that the last segment leaves unused
pub data_whole : (bytes : List ℕ) (n : ℕ) → (n == segment_count bytes) ≡ true → without (7 * segment_count bytes - length bytes) (first_data bytes n) ≡ bytes
data_whole bytes n e = rw e (all_is bytes (segment_count bytes - 1) (omega arith))

-- of pending data the first segments, after what was taken before
pub data_taken : (got pending bytes : List ℕ) (position sent k : ℕ) → got ≡ take (7 * position) bytes → got ++ pending ≡ first_data bytes (position + sent) → position < segment_count bytes → k ≤ sent → position + k < segment_count bytes
    → got ++ take (7 * k) pending ≡ take (7 * (position + k)) bytes
data_taken got pending bytes position sent k before joined first few under =
    let long : length got ≡ 7 * position = ap length before ∙ (let n = length-take (7 * position) bytes in omega (arith, first)) in
    let count : length got + 7 * k ≡ 7 * (position + k) = omega (arith, long) in
    sym (take-append-add got pending (7 * k))
    ∙ ap (λ n. take n (got ++ pending)) count
    ∙ ap (take (7 * (position + k))) joined
    ∙ data_front bytes (position + sent) (position + k) (omega arith) under

-- and all of it, where all segments came
pub data_all : (got pending bytes : List ℕ) (position sent : ℕ) → got ++ pending ≡ first_data bytes (position + sent) → position < segment_count bytes → length pending ≡ 7 * sent → (position + sent == segment_count bytes) ≡ true
    → got ++ take (length pending - (7 * segment_count bytes - length bytes)) pending ≡ bytes
data_all got pending bytes position sent joined first p e =
    let whole : position + sent ≡ segment_count bytes = eqb-true _ _ e in
    let long = length-append got pending in
    let count : length got + (length pending - (7 * segment_count bytes - length bytes)) ≡ length (got ++ pending) - (7 * segment_count bytes - length bytes) = omega (arith, long, p, whole, first) in
    sym (take-append-add got pending (length pending - (7 * segment_count bytes - length bytes)))
    ∙ ap (λ n. take n (got ++ pending)) count
    ∙ ap (without (7 * segment_count bytes - length bytes)) joined
    ∙ data_whole bytes (position + sent) e

-- ---- explain's transfer

-- an upload that the server has agreed to send in blocks, without a CRC, with its size
pub record InBlocks (t : Transfer) (bytes : List ℕ) : Type 0 where
  pub direction : t.direction ≡ Upload
  pub protocol : is_block t.protocol ≡ true
  pub regular : t.irregular ≡ false
  pub crc : t.crc ≡ false
  pub size : t.size ≡ Some (length bytes)
  pub few : length bytes ≤ 65535

-- so many segments of the sub-block after a position came, and are pending
pub record InSubBlock (t : Transfer) (got bytes : List ℕ) (position sent : ℕ) : Type 0 where
  pub is : InBlocks t bytes
  pub stage : t.stage ≡ SubBlock (position + sent == segment_count bytes)
  pub number : t.next_number ≡ sent + 1
  pub pending : length t.pending.items ≡ 7 * sent
  pub before : got ≡ take (7 * position) bytes
  pub joined : got ++ t.pending.items ≡ first_data bytes (position + sent)
  pub first : position < segment_count bytes
  pub most : position + sent ≤ segment_count bytes

-- the data of the first segments of it, with what was taken before
pub acknowledged_data : (t : Transfer) (got bytes : List ℕ) (position sent k : ℕ) → InSubBlock t got bytes position sent → k ≤ sent → position + k < segment_count bytes
    → got ++ take (7 * k) t.pending.items ≡ take (7 * (position + k)) bytes
acknowledged_data t got bytes position sent k h few under = data_taken got t.pending.items bytes position sent k h.before h.joined h.first few under

-- all data, where all segments came
pub all_data : (t : Transfer) (got bytes : List ℕ) (position sent : ℕ) → InSubBlock t got bytes position sent → (position + sent == segment_count bytes) ≡ true
    → got ++ take (length t.pending.items - (7 * segment_count bytes - length bytes)) t.pending.items ≡ bytes
all_data t got bytes position sent h e = data_all got t.pending.items bytes position sent h.joined h.first h.pending e

-- ---- a segment

-- explain after it
abbrev with_it : Transfer → BlockSegment → ℕ → Transfer
with_it t segment micros = with_frame Part (after t (segment_added t segment)) micros Server

segment_is : (block_size micros : ℕ) (frame : List ℕ) (segment : BlockSegment) → is_abort_in_sub_block frame ≡ false → block_segment_in frame ≡ Some segment → nat_le segment.sequence block_size ≡ true
    → sub_block_reading block_size Server micros frame ≡ Segment segment
segment_is block_size micros frame segment a r l =
    rw a (ap (λ x. segment_reading block_size x (beginning (plain_reading Server micros frame))) r ∙ rw l refl)

pub no_abort : (bytes : List ℕ) (position n : ℕ) → 1 ≤ n → n < 128 → is_abort_in_sub_block (segment_at bytes position n) ≡ false
no_abort bytes position n some few =
    let last = position + n == segment_count bytes in
    rw (frame_long bytes position n last, other_byte last n some few) refl

module _ (stamp : ℕ → ℕ) (heard : Bool) (got bytes : List ℕ) (done : List Complete) (position : ℕ) where
  is_read : (t : Transfer) (count sent : ℕ) → InSubBlock t got bytes position sent → sent + 1 ≤ t.block_size → sent + 1 < 128
      → reading_of (Some t) Server (stamp count) (segment_at bytes position (sent + 1)) ≡ Segment (block_segment bytes position (sent + 1))
  is_read t count sent h within few =
      let inside : reading_of (Some t) Server (stamp count) (segment_at bytes position (sent + 1)) ≡ sub_block_reading t.block_size Server (stamp count) (segment_at bytes position (sent + 1)) = rw (h.stage, h.is.direction) refl in
      let some : 1 ≤ sent + 1 = omega arith in
      inside
      ∙ segment_is t.block_size (stamp count) (segment_at bytes position (sent + 1)) (block_segment bytes position (sent + 1)) (no_abort bytes position (sent + 1) some few)
      (frame_read bytes position (sent + 1) (position + (sent + 1) == segment_count bytes) some few) (grind (arith, nat_tests))

  is_added : (t : Transfer) (count : ℕ) (frame : List ℕ) (segment : BlockSegment) → t.stage ≡ SubBlock false → nat_lt segment.sequence t.next_number ≡ false → (segment.sequence == awaited_number t) ≡ true
      → read_as (stamp count) Server frame (holds heard (Some t) got done count) (Segment segment) ≡ holds heard (Some (with_it t segment (stamp count))) got done (suc count)
  is_added t count frame segment e b1 b2 = rw (e, b1, b2) refl

  is_heard : (t : Transfer) (count sent : ℕ) → InSubBlock t got bytes position sent → position + sent < segment_count bytes → sent + 1 ≤ t.block_size → sent + 1 < 128
      → hears stamp Server (answer_bytes (Sent (block_segment bytes position (sent + 1)))) (holds heard (Some t) got done count)
      ≡ holds heard (Some (with_it t (block_segment bytes position (sent + 1)) (stamp count))) got done (suc count)
  is_heard t count sent h under within few =
      let number = h.number in
      let p = h.pending in
      let more : (position + sent == segment_count bytes) ≡ false = grind (arith, nat_tests) in
      let below : nat_lt (sent + 1) t.next_number ≡ false = grind (arith, nat_tests) in
      let awaited : sent + 1 ≡ length t.pending.items / 7 + 1 = omega (arith, p) in
      let next : (sent + 1 == length t.pending.items / 7 + 1) ≡ true = grind (arith, nat_tests) in
      ap (read_as (stamp count) Server (segment_at bytes position (sent + 1)) (holds heard (Some t) got done count)) (is_read t count sent h within few)
      ∙ is_added t count (segment_at bytes position (sent + 1)) (block_segment bytes position (sent + 1)) (h.stage ∙ ap (λ b. SubBlock b) more) below next

  -- one more is pending
  one_more : (t : Transfer) (micros sent : ℕ) → InSubBlock t got bytes position sent → position + sent < segment_count bytes
      → InSubBlock (with_it t (block_segment bytes position (sent + 1)) micros) got bytes position (sent + 1)
  one_more t micros sent h under =
      let p = h.pending in
      let n = length-append t.pending.items (data_at bytes position (sent + 1)) in
      let seven = data_long bytes position (sent + 1) in
      record {
        is = record { direction = h.is.direction; protocol = h.is.protocol; regular = h.is.regular; crc = h.is.crc; size = h.is.size; few = h.is.few };
        stage = refl;
        number = refl;
        pending = omega (arith, n, p, seven);
        before = h.before;
        joined =
            sym (append_assoc got t.pending.items (data_at bytes position (sent + 1))) ∙ ap (λ xs. xs ++ data_at bytes position (sent + 1)) h.joined
            ∙ data_more bytes position sent under;
        first = h.first;
        most = omega arith;
      }

  -- so many more
  pub more_heard : (more : ℕ) (t : Transfer) (count sent : ℕ) (P : View → Type 0) → InSubBlock t got bytes position sent → position + (sent + more) ≤ segment_count bytes → sent + more ≤ t.block_size → sent + more < 128
      → ((u : Transfer) (heard_so : ℕ) → InSubBlock u got bytes position (sent + more) → u.key ≡ t.key → P (holds heard (Some u) got done heard_so))
      → P (hears_answers stamp (map (λ number. Sent (block_segment bytes position number)) (range_with_len (sent + 1) more)) (holds heard (Some t) got done count))
  more_heard zero t count sent P h most within few go =
      let none : sent ≡ sent + 0 = omega arith in
      go t count (subst (InSubBlock t got bytes position) none h) refl
  more_heard (suc more) t count sent P h most within few go =
      let u = with_it t (block_segment bytes position (sent + 1)) (stamp count) in
      let under : position + sent < segment_count bytes = omega arith in
      let sum : sent + 1 + more ≡ sent + suc more = omega arith in
      subst (λ v. P (hears_answers stamp (map (λ number. Sent (block_segment bytes position number)) (range_with_len (sent + 1 + 1) more)) v))
      (sym (is_heard t count sent h under (omega arith) (omega arith)))
      (more_heard more u (suc count) (sent + 1) P (one_more t (stamp count) sent h under) (omega arith) (omega arith) (omega arith)
      (λ w n k e. go w n (subst (InSubBlock w got bytes position) sum k) e))
