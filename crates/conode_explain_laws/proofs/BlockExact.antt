-- What explain and the channel make of a request where both always read the client's frames alike, block downloads too: `Orderly`.
use Rattle.std.proofs.Common.{◌≡◌, ℕ, suc, ◌+◌, ◌*◌, ◌/◌, ◌%◌, ◌<◌, ◌≤◌, Bool, true, false, not, List, [], ◌∷◌, ◌++◌, length, take, drop, Option, Some, None, refl, sym, ap, ◌∙◌, subst, arith, length-append, append_assoc, append-nil}
use Rattle.std.specs.Prelude.{if◌then◌else◌, IfSome, nat_le, nat_lt, ◌==◌, ◌&&◌, ◌||◌}
use Rattle.std.specs.Option.{option_map_or}
use Rattle.std.proofs.lemmas.Bool.{eqb-true, false≢true}
use Rattle.std.proofs.lemmas.Bool.Decides.{nat_tests}
use Rattle.std.proofs.lemmas.List.{take_all}
use Rattle.co_value.specs.declared.key.Key.{Key}
use Rattle.co_value.specs.Keys.{same_key-refl}
use Rattle.co_value.specs.Numbers.{AreBytes}
use Rattle.co_frame.specs.BlockSegments.{block_segment_in, is_abort_in_sub_block}
use Rattle.co_frame.specs.SdoFields.{command}
use Rattle.co_frame.specs.SdoParts.{code_in}
use Rattle.co_frame.specs.SdoRequests.{request_in}
use Rattle.co_frame.specs.SdoResponses.{response_bytes}
use Rattle.co_frame.specs.declared.block_segment.BlockSegment.{BlockSegment}
use Rattle.co_frame.specs.declared.sdo_request.SdoRequest.{SdoRequest}
use Rattle.co_frame.specs.declared.sdo_request.SdoRequest.TheVariants.{DownloadExpedited, DownloadInitiate, Upload as UploadInitiate, Abort as Abandon, BlockUploadInitiate, BlockDownloadInitiate, BlockDownloadEnd}
use Rattle.co_frame.specs.declared.sdo_response.SdoResponse.TheVariants.{BlockDownloadInitiated, BlockDownloadDone, BlockDownloadAcknowledge}
use Rattle.co_dict.specs.Rows.{Rows, Contents}
use Rattle.co_dict.specs.Stores.{Description, IsDescription}
use Rattle.co_sdo.specs.declared.stage.Stage.TheVariants.{SubBlock as Taking, LastTaken}
use Rattle.co_sdo.specs.Refused.{initiate_refusal, completion_refusal}
use Rattle.co_sdo.specs.Log.{Answer, Response as Replied}
use Rattle.co_sdo.specs.SubBlocks.{segment_taken, ends_sub_block, is_last_taken, bytes_taken}
use Rattle.co_sdo.specs.Downloads.{Download as Whole, without}
use Rattle.co_sdo.specs.Opened.{OpenTransfer}
use Rattle.co_sdo.specs.Replies.{aborted, unless_refused, room_refusal, request_answers, is_in_sub_block, answers_to}
use Rattle.co_sdo.specs.Completed.{unless}
use Rattle.co_sdo.specs.Steps.{opened_at, after_request, opened_next, set_by_request, set_next, whole}
use Rattle.co_sdo.proofs.RefusalLemmas.{allowed}
use Rattle.co_sdo_laws.proofs.Frames.{block_initiated_read, block_done_read}
use Rattle.conode_explain_transfers.specs.declared.digest.Digest.{Digest}
use Rattle.conode_explain_transfers.specs.declared.kinds.Side.TheVariants.{Client}
use Rattle.conode_explain_transfers.specs.declared.kinds.What.TheVariants.{Part, Segment as SegmentOf, OutOfSequence}
use Rattle.conode_explain_transfers.specs.declared.stage.Stage.TheVariants.{SubBlock, AllAcknowledged, Confirmed}
use Rattle.conode_explain_transfers.specs.declared.transfer.Transfer.{Transfer}
use Rattle.conode_explain_transfers.specs.BlockTurns.{is_block, segment_added, segment_ahead, end_confirmed, crc_in}
use Rattle.conode_explain_transfers.specs.Digests.{counted, digest_of}
use Rattle.conode_explain_transfers.specs.Endings.{size_fault}
use Rattle.conode_explain_transfers.specs.Followed.{with_frame}
use Rattle.conode_explain_transfers.specs.Initiates.{has_crc}
use Rattle.conode_explain_transfers.specs.Transfers.{after, awaited_number, is_download, unexpected, goes_on, takes_pending}
use Rattle.conode_explain_transfers.proofs.DataLemmas.{taking}
use Rattle.conode_explain_transfers.specs.Unanswered.{is_next_segment, not_followed_by}
use Rattle.conode_explain_laws.specs.Downloads.{Complete, is_block_begin, entry_bytes, write_set, number_in, goes_up}
use Rattle.conode_explain_laws.proofs.Readings.{went_on_as, Segment, Begin, Abort, Request, Response, request_reading, response_reading, plain_reading, beginning, segment_reading, sub_block_reading, reading_of}
use Rattle.conode_explain_laws.proofs.Views.{abort_no_write, View, read_as, hears, hears_answers, begin_writes, no_write, abort_closes}
use Rattle.conode_explain_laws.proofs.Follows.{IsBlocks, AllSent, are_sent, response_read, answered_reads}
use Rattle.conode_explain_laws.proofs.Begins.{HasKey, has_key, small_index, answered, asks, response_is, in_blocks, outside_answers, outside_opens, outside_sets, write_of}
use Rattle.conode_explain_laws.proofs.Blocks.{is_segment, ends_with, answers_at, opens_at, taken_by, turned, acknowledges, last_turn, next_turn, number_is, small_end, IsSmallEnd, ended, left_of, without_is}
use Rattle.conode_explain_laws.proofs.Exact.{Exact, exact_upload, exact_segments, exact_dropped, ExactIn, Exactly, no_download, closed_exactly, begin_comes, exact_exchange, regular_done, size_right, capped, upload_outside, client_reads}

-- ---- both

-- a download in blocks, without a CRC, whose frames go on with one another
pub record IsClean (t : Transfer) : Type 0 where
  pub is : IsBlocks t
  pub regular : t.irregular ≡ false
  pub crc : t.crc ≡ false
  pub block_size : t.block_size ≡ 127

-- inside a sub-block, of which so many segments are taken, and this is the number of the newest
pub record IsInside (t : Transfer) (taken newest : ℕ) : Type 0 where
  pub is : IsClean t
  pub stage : t.stage ≡ SubBlock false
  pub number : t.next_number ≡ newest + 1
  pub pending : length t.pending.items ≡ 7 * taken

-- after its last segment
pub record IsAllSent (t : Transfer) : Type 0 where
  pub is : IsClean t
  pub stage : t.stage ≡ AllAcknowledged
  pub pending : 7 ≤ length t.pending.items

-- as without block downloads; or both are inside a sub-block of one, or after its last segment; or the channel has dropped it then
pub data Orderly (t : Transfer) (got : List ℕ) (current : Option OpenTransfer) (newest : ℕ) : Type 0 where
  plain : Exact t got current → Orderly t got current newest
  inside : (taken : ℕ) → IsInside t taken newest → current ≡ opened_at t.key (Taking t.size taken) (got ++ t.pending.items) → Orderly t got current newest
  all_sent : IsAllSent t → current ≡ opened_at t.key (LastTaken t.size) (got ++ t.pending.items) → Orderly t got current newest
  gone : AllSent t → current ≡ None → Orderly t got current newest

abbrev pub OrderlyIn : Option Transfer → List ℕ → Option OpenTransfer → ℕ → Type 0
OrderlyIn None got current newest = no_download current ≡ true
OrderlyIn (Some t) got current newest = Orderly t got current newest

-- after a request with its answers
pub record Orders (newest : ℕ) (next : Option OpenTransfer) (set : Option Whole) (done : List Complete) (v : View) : Type 0 where
  pub holds : OrderlyIn v.following.transfer v.got next newest
  pub same : v.done ≡ write_set set v.count ++ done

plain_in : (held : Option Transfer) (got : List ℕ) (next : Option OpenTransfer) (newest : ℕ) → ExactIn held got next → OrderlyIn held got next newest
plain_in None got next newest h = h
plain_in (Some t) got next newest h = plain h

from_exactly : (newest : ℕ) (next : Option OpenTransfer) (set : Option Whole) (done : List Complete) (v : View) → Exactly next set done v → Orders newest next set done v
from_exactly newest next set done v h = record { holds = plain_in v.following.transfer v.got next newest h.holds; same = h.same }

closed_orders : (newest : ℕ) (rows : Rows) (stamp : ℕ → ℕ) (key : Key) (code : ℕ) (done : List Complete) (v : View) → v.done ≡ done → Orders newest None None done (hears_answers rows stamp (aborted key code) v)
closed_orders newest rows stamp key code done v e = from_exactly newest None None done (hears_answers rows stamp (aborted key code) v) (closed_exactly rows stamp key code done v e)

-- a refusal is an abort
refused_begin : (newest : ℕ) (rows : Rows) (stamp : ℕ → ℕ) (refusal : Option ℕ) (key : Key) (answers : List Answer) (next : Option OpenTransfer) (done : List Complete) (v : View) → v.done ≡ done
    → (refusal ≡ None → Orders newest next None done (hears_answers rows stamp answers v))
    → Orders newest (unless refusal next) None done (hears_answers rows stamp (unless_refused refusal key answers) v)
refused_begin newest rows stamp None key answers next done v e h = h refl
refused_begin newest rows stamp (Some code) key answers next done v e h = closed_orders newest rows stamp key code done v e

-- explain has this transfer
abbrev holds : Bool → Transfer → List ℕ → List Complete → ℕ → View
holds heard t got done count = record { following = record { heard = heard; transfer = Some t }; got = got; done = done; count = count }

-- ---- initiate

and_false : (b : Bool) → b && false ≡ false
and_false true = refl
and_false false = refl

blocks_begun : (on : Bool) (newest : ℕ) (d : Description) (stamp : ℕ → ℕ) (key : Key) (size : Option ℕ) (micros : ℕ) (frame : List ℕ) (done : List Complete) (count : ℕ) → request_in frame ≡ Some (BlockDownloadInitiate key size) → key.index < 65536 → newest ≡ 0
    → (let refusal = initiate_refusal d key size in
    Orders newest (unless refusal (opened_at key (Taking size 0) [])) None done
    (hears_answers d.rows stamp (unless_refused refusal key (Replied (BlockDownloadInitiated key 127) ∷ [])) (asks (went_on_as on (in_blocks key size micros frame)) done count)))
blocks_begun on newest d stamp key size micros frame done count q k n = by (initiate_refusal d key size)
  where
    by : (refusal : Option ℕ)
        → Orders newest (unless refusal (opened_at key (Taking size 0) [])) None done
        (hears_answers d.rows stamp (unless_refused refusal key (Replied (BlockDownloadInitiated key 127) ∷ [])) (asks (went_on_as on (in_blocks key size micros frame)) done count))
    by (Some code) = closed_orders newest d.rows stamp key code done (asks (went_on_as on (in_blocks key size micros frame)) done count) refl
    by None =
        answered d.rows stamp (BlockDownloadInitiated key 127) (asks (went_on_as on (in_blocks key size micros frame)) done count) (Response (BlockDownloadInitiated key 127))
        (Orders newest (opened_at key (Taking size 0) []) None done)
        (response_is (BlockDownloadInitiated key 127) (went_on_as on (in_blocks key size micros frame)) (stamp count) refl (block_initiated_read key 127 k))
        (rw (same_key-refl key) (record {
          holds = inside 0 (record {
            is = record {
              is = record { direction = refl; protocol = refl; request = q };
              regular = refl;
              crc = and_false (has_crc frame);
              block_size = refl;
            };
            stage = refl;
            number = ap (λ m. m + 1) (sym n);
            pending = refl;
          }) refl;
          same = refl;
        }))

pub block_begins : (newest : ℕ) (d : Description) (contents : Contents) (stamp : ℕ → ℕ) (current : Option OpenTransfer) (key : Key) (size : Option ℕ) (frame : List ℕ) (heard : Bool) (held : Option Transfer) (got : List ℕ) (done : List Complete) (count : ℕ)
    → request_in frame ≡ Some (BlockDownloadInitiate key size) → AreBytes frame → newest ≡ 0
    → Orders newest (after_request d contents current (Some (BlockDownloadInitiate key size))) (set_by_request d contents current (Some (BlockDownloadInitiate key size))) done
    (hears_answers d.rows stamp (request_answers d contents current (Some (BlockDownloadInitiate key size)))
    (read_as d.rows (stamp count) Client frame (record { following = record { heard = heard; transfer = held }; got = got; done = done; count = count }) (Begin (in_blocks key size (stamp count) frame))))
block_begins newest d contents stamp current key size frame heard held got done count q small n =
    let k : IfSome (request_in frame) (HasKey frame) = has_key frame in
    let named : HasKey frame (BlockDownloadInitiate key size) = subst (λ r. IfSome r (HasKey frame)) q k in
    let index : key.index < 65536 = subst (λ x. x.index < 65536) (sym named) (small_index frame small) in
    subst (λ before. Orders newest (after_request d contents current (Some (BlockDownloadInitiate key size))) None before
    (hears_answers d.rows stamp (request_answers d contents current (Some (BlockDownloadInitiate key size)))
    (read_as d.rows (stamp count) Client frame (record { following = record { heard = heard; transfer = held }; got = got; done = done; count = count }) (Begin (in_blocks key size (stamp count) frame)))))
    (begin_writes d.rows (stamp count) frame heard held got done count (in_blocks key size (stamp count) frame))
    (blocks_begun (is_next_segment held frame) newest d stamp key size (stamp count) frame _ (suc count) q index n)

-- ---- inside a sub-block

all_front : (items : List ℕ) (n : ℕ) → length items ≡ n → take n items ≡ items
all_front items n h = take_all n items (omega (arith, h))

module _ (newest : ℕ) (rows : Rows) (stamp : ℕ → ℕ) (heard : Bool) (u : Transfer) (got : List ℕ) (done : List Complete) (count : ℕ) (is : IsClean u) where
  all_come : (n : ℕ) → u.stage ≡ SubBlock true → length u.pending.items ≡ 7 * n → 1 ≤ n
      → Orders newest (opened_at u.key (LastTaken u.size) (got ++ u.pending.items)) None done
      (hears_answers rows stamp (Replied (BlockDownloadAcknowledge n 127) ∷ []) (holds heard u got done count))
  all_come n e p some =
      acknowledges rows stamp heard u got done count n (goes_on (record u { stage = AllAcknowledged })) (Orders newest (opened_at u.key (LastTaken u.size) (got ++ u.pending.items)) None done) is.is.direction (last_turn u n e p)
      (record {
        holds = all_sent (record {
          is = record { is = record { direction = is.is.direction; protocol = is.is.protocol; request = is.is.request }; regular = is.regular; crc = is.crc; block_size = is.block_size };
          stage = refl;
          pending = omega (arith, p);
        }) refl;
        same = refl;
      })

  sub_block_comes : (n : ℕ) → u.stage ≡ SubBlock false → length u.pending.items ≡ 7 * n → newest ≡ 0
      → Orders newest (opened_at u.key (Taking u.size 0) (got ++ u.pending.items)) None done
      (hears_answers rows stamp (Replied (BlockDownloadAcknowledge n 127) ∷ []) (holds heard u got done count))
  sub_block_comes n e p z =
      let all : take (7 * n) u.pending.items ≡ u.pending.items = all_front u.pending.items (7 * n) p in
      let bytes_are : got ++ u.pending.items ≡ (got ++ take (7 * n) u.pending.items) ++ [] = sym (append-nil (got ++ take (7 * n) u.pending.items) ∙ ap (λ (xs : List ℕ). got ++ xs) all) in
      acknowledges rows stamp heard u got done count n (takes_pending (record u { block_size = 127; next_number = 1; stage = SubBlock false }) (7 * n))
      (Orders newest (opened_at u.key (Taking u.size 0) (got ++ u.pending.items)) None done) is.is.direction (next_turn u n e p)
      (record {
        holds = inside 0 (record {
          is = record { is = record { direction = is.is.direction; protocol = is.is.protocol; request = is.is.request }; regular = is.regular; crc = is.crc; block_size = refl };
          stage = refl;
          number = ap (λ m. m + 1) (sym z);
          pending = refl;
        }) (ap (λ (xs : List ℕ). opened_at u.key (Taking u.size 0) xs) bytes_are);
        same = refl;
      })

  -- the channel ends the sub-block, or awaits more of it
  at_end : (ends last : Bool) (n sequence : ℕ) → u.stage ≡ SubBlock last → length u.pending.items ≡ 7 * n → u.next_number ≡ sequence + 1 → (last ≡ true → ends ≡ true) → (last ≡ true → 1 ≤ n) → newest ≡ (if ends then 0 else sequence)
      → Orders newest (opens_at rows u.key (got ++ u.pending.items) u.size ends last n) None done
      (hears_answers rows stamp (answers_at rows u.key (got ++ u.pending.items) ends last n) (holds heard u got done count))
  at_end true true n sequence e p m over some z = all_come n e p (some refl)
  at_end false true n sequence e p m over some z = absurd (false≢true (over refl))
  at_end false false n sequence e p m over some z = record { holds = inside n (record { is = is; stage = e; number = m ∙ ap (λ k. k + 1) (sym z); pending = p }) refl; same = refl }
  at_end true false n sequence e p m over some z =
      refused_begin newest rows stamp (room_refusal rows u.key (got ++ u.pending.items)) u.key (Replied (BlockDownloadAcknowledge n 127) ∷ []) (opened_at u.key (Taking u.size 0) (got ++ u.pending.items)) done (holds heard u got done count) refl
      (λ r. sub_block_comes n e p z)

-- ---- a segment

-- explain after a segment that is the next, and after another
abbrev added : Transfer → BlockSegment → ℕ → Transfer
added t segment micros = with_frame Part (after t (segment_added t segment)) micros Client

abbrev passed : Transfer → BlockSegment → ℕ → Transfer
passed t segment micros = with_frame Part (after t (segment_ahead t segment)) micros Client

-- a segment has a number up to 127; an abort is none
pub small_number : (frame : List ℕ) (segment : BlockSegment) → block_segment_in frame ≡ Some segment → segment.sequence ≤ 127
small_number frame segment e = by (length frame == 8) (nat_le 1 (command frame % 128)) e
  where
    by : (long numbered : Bool) → (if long && numbered then Some (record { last = command frame / 128 == 1; sequence = command frame % 128; bytes = drop 1 frame }) else None) ≡ Some segment → segment.sequence ≤ 127
    by true true e =
        let same : record { last = command frame / 128 == 1; sequence = command frame % 128; bytes = drop 1 frame } ≡ segment = cc in
        let few : command frame % 128 ≤ 127 = omega arith in
        subst (λ (s : BlockSegment). s.sequence ≤ 127) same few
    by true false e = absurd (let f : None ≡ Some segment = e in cc)
    by false numbered e = absurd (let f : None ≡ Some segment = e in cc)

no_segment : (frame : List ℕ) → command frame ≡ 128 → block_segment_in frame ≡ None
no_segment frame e = by (length frame == 8) _
  where
    none : nat_le 1 (command frame % 128) ≡ false
    none = rw e refl

    by : (long : Bool) (x : Option BlockSegment) → (if long && nat_le 1 (command frame % 128) then x else None) ≡ None
    by true x = rw none refl
    by false x = refl

module _ (newest : ℕ) (d : Description) (contents : Contents) (stamp : ℕ → ℕ) (frame : List ℕ) (heard : Bool) (t : Transfer) (got : List ℕ) (done : List Complete) (count taken old : ℕ) (h : IsInside t taken old) where
  -- what the channel makes of it, by the segment in the frame and the one that is taken
  abbrev Both : Option BlockSegment → Bool → View → Type 0
  Both next ends v =
      Orders newest (opens_at d.rows t.key ((got ++ t.pending.items) ++ bytes_taken next) t.size ends (is_last_taken next) (taken_by taken next)) None done
      (hears_answers d.rows stamp (answers_at d.rows t.key ((got ++ t.pending.items) ++ bytes_taken next) ends (is_last_taken next) (taken_by taken next)) v)

  clean : (u : Transfer) → u.direction ≡ t.direction → u.protocol ≡ t.protocol → u.request ≡ t.request → u.key ≡ t.key → u.size ≡ t.size → u.irregular ≡ t.irregular → u.crc ≡ t.crc → u.block_size ≡ t.block_size → IsClean u
  clean u a b r k s i c z = record {
    is = record { direction = a ∙ h.is.is.direction; protocol = b ∙ h.is.is.protocol; request = rw (r, k, s) h.is.is.request };
    regular = i ∙ h.is.regular;
    crc = c ∙ h.is.crc;
    block_size = z ∙ h.is.block_size;
  }

  added_view : (segment : BlockSegment) → nat_lt segment.sequence t.next_number ≡ false → (segment.sequence == awaited_number t) ≡ true
      → read_as d.rows (stamp count) Client frame (holds heard t got done count) (Segment segment) ≡ holds heard (added t segment (stamp count)) got done (suc count)
  added_view segment b1 b2 = rw (h.stage, b1, b2) refl

  takes : (segment : BlockSegment) → length segment.bytes ≡ 7 → newest ≡ (if ends_with (Some segment) then 0 else segment.sequence) → Both (Some segment) (ends_with (Some segment)) (holds heard (added t segment (stamp count)) got done (suc count))
  takes segment seven n =
      let u = added t segment (stamp count) in
      let p = h.pending in
      subst (λ (held : List ℕ). Orders newest (opens_at d.rows t.key held t.size (ends_with (Some segment)) segment.last (taken + 1)) None done
      (hears_answers d.rows stamp (answers_at d.rows t.key held (ends_with (Some segment)) segment.last (taken + 1)) (holds heard u got done (suc count)))) (sym (append_assoc got t.pending.items segment.bytes))
      (at_end newest d.rows stamp heard u got done (suc count) (clean u refl refl refl refl refl refl refl refl)
      (ends_with (Some segment)) segment.last (taken + 1) segment.sequence refl (omega (arith, length-append t.pending.items segment.bytes, p, seven)) refl (λ l. rw l refl) (λ l. omega arith) n)

  passed_view : (segment : BlockSegment) (next : Bool) → nat_lt segment.sequence t.next_number ≡ false → (segment.sequence == awaited_number t) ≡ false → (segment.sequence == t.next_number) ≡ next
      → read_as d.rows (stamp count) Client frame (holds heard t got done count) (Segment segment) ≡ holds heard (passed t segment (stamp count)) got done (suc count)
  passed_view segment true b1 b2 b3 = rw (h.stage, b1, b2, b3) refl
  passed_view segment false b1 b2 b3 = rw (h.stage, b1, b2, b3) refl

  passed_so : (segment : BlockSegment) → with_frame (segment_ahead t segment).what (after t (segment_ahead t segment)) (stamp count) Client ≡ passed t segment (stamp count)
  passed_so segment = by (segment.sequence == t.next_number) (after t (segment_ahead t segment))
    where
      by : (b : Bool) (u : Transfer) → with_frame (if b then SegmentOf segment.sequence else OutOfSequence segment.sequence t.next_number) u (stamp count) Client ≡ with_frame Part u (stamp count) Client
      by true u = refl
      by false u = refl

  passes : (segment : BlockSegment) (ends : Bool) → newest ≡ (if ends then 0 else segment.sequence) → Both None ends (holds heard (passed t segment (stamp count)) got done (suc count))
  passes segment ends n =
      let u = passed t segment (stamp count) in
      subst (λ (held : List ℕ). Orders newest (opens_at d.rows t.key held t.size ends false taken) None done
      (hears_answers d.rows stamp (answers_at d.rows t.key held ends false taken) (holds heard u got done (suc count)))) (sym (append-nil (got ++ t.pending.items)))
      (at_end newest d.rows stamp heard u got done (suc count) (clean u refl refl refl refl refl refl refl refl)
      ends false taken segment.sequence h.stage h.pending refl (λ l. absurd (false≢true l)) (λ l. absurd (false≢true l)) n)

  segment_step : (segment : BlockSegment) (again next : Bool) → length segment.bytes ≡ 7 → nat_lt segment.sequence t.next_number ≡ again → (segment.sequence == awaited_number t) ≡ next
      → nat_lt old segment.sequence ≡ true → newest ≡ (if ends_with (Some segment) then 0 else segment.sequence)
      → Both (segment_taken taken (Some segment)) (ends_with (Some segment)) (read_as d.rows (stamp count) Client frame (holds heard t got done count) (Segment segment))
  segment_step segment true next seven b1 b2 up n = let number = h.number in absurd (grind (arith, nat_tests))
  segment_step segment false true seven b1 b2 up n =
      subst (Both (segment_taken taken (Some segment)) (ends_with (Some segment))) (sym (added_view segment b1 b2))
      (subst (λ b. Both (if b then Some segment else None) (ends_with (Some segment)) (holds heard (added t segment (stamp count)) got done (suc count)))
      (sym (number_is t taken segment.sequence true h.pending b2)) (takes segment seven n))
  segment_step segment false false seven b1 b2 up n =
      subst (Both (segment_taken taken (Some segment)) (ends_with (Some segment))) (sym (passed_view segment (segment.sequence == t.next_number) b1 b2 refl))
      (subst (λ b. Both (if b then Some segment else None) (ends_with (Some segment)) (holds heard (passed t segment (stamp count)) got done (suc count)))
      (sym (number_is t taken segment.sequence false h.pending b2)) (passes segment (ends_with (Some segment)) n))

  -- ---- any frame there

  abbrev number : Option BlockSegment → ℕ
  number s = option_map_or (λ segment. segment.sequence) s 0

  by_segment : (s : Option BlockSegment) → block_segment_in frame ≡ s → nat_lt old (number s) ≡ true → newest ≡ (if ends_with s then 0 else number s)
      → Both (segment_taken taken s) (ends_with s) (read_as d.rows (stamp count) Client frame (holds heard t got done count) (segment_reading t.block_size s (beginning (plain_reading Client (stamp count) frame))))
  by_segment None e up n = absurd (grind (arith, nat_tests))
  by_segment (Some segment) e up n =
      let s = is_segment frame segment e in
      let few : segment.sequence ≤ 127 = small_number frame segment e in
      let size = h.is.block_size in
      let within : nat_le segment.sequence t.block_size ≡ true = grind (arith, nat_tests) in
      let reading : segment_reading t.block_size (Some segment) (beginning (plain_reading Client (stamp count) frame)) ≡ Segment segment = rw within refl in
      subst (λ r. Both (segment_taken taken (Some segment)) (ends_with (Some segment)) (read_as d.rows (stamp count) Client frame (holds heard t got done count) r)) (sym reading)
      (segment_step segment (nat_lt segment.sequence t.next_number) (segment.sequence == awaited_number t) s.bytes refl refl up n)

  -- what is open after a frame that is an abort, or not
  abbrev opens : Bool → Option OpenTransfer
  opens abort = if abort then None else opens_at d.rows t.key ((got ++ t.pending.items) ++ bytes_taken (segment_taken taken (block_segment_in frame))) t.size (ends_sub_block frame) (is_last_taken (segment_taken taken (block_segment_in frame))) (taken_by taken (segment_taken taken (block_segment_in frame)))

  abbrev answers : List Answer
  answers = answers_at d.rows t.key ((got ++ t.pending.items) ++ bytes_taken (segment_taken taken (block_segment_in frame))) (ends_sub_block frame) (is_last_taken (segment_taken taken (block_segment_in frame))) (taken_by taken (segment_taken taken (block_segment_in frame)))

  by_abort : (abort : Bool) → (command frame == 0x80) ≡ abort → (abort || nat_lt old (number (block_segment_in frame)) ≡ true) → newest ≡ (if ends_sub_block frame then 0 else number (block_segment_in frame))
      → Orders newest (opens abort) None done
      (hears_answers d.rows stamp answers (read_as d.rows (stamp count) Client frame (holds heard t got done count) (if abort then Abort (code_in frame) else segment_reading t.block_size (block_segment_in frame) (beginning (plain_reading Client (stamp count) frame)))))
  by_abort true a up n =
      let c = abort_closes d.rows (stamp count) Client frame heard (Some t) got done count (Abort (code_in frame)) refl in
      let none : answers ≡ [] = ap (λ s. answers_at d.rows t.key ((got ++ t.pending.items) ++ bytes_taken (segment_taken taken s)) (ends_with s) (is_last_taken (segment_taken taken s)) (taken_by taken (segment_taken taken s))) (no_segment frame (eqb-true _ _ a)) in
      subst (λ xs. Orders newest None None done (hears_answers d.rows stamp xs (read_as d.rows (stamp count) Client frame (holds heard t got done count) (Abort (code_in frame))))) (sym none)
      (record { holds = refl; same = c.same })
  by_abort false a up n = by_segment (block_segment_in frame) refl up n

  pub inside_orders : length frame ≡ 8 → (is_abort_in_sub_block frame || nat_lt old (number (block_segment_in frame))) ≡ true → newest ≡ (if ends_sub_block frame then 0 else number (block_segment_in frame))
      → Orders newest (opened_next d contents (opened_at t.key (Taking t.size taken) (got ++ t.pending.items)) frame) (set_next d contents (opened_at t.key (Taking t.size taken) (got ++ t.pending.items)) frame) done
      (hears_answers d.rows stamp (answers_to d contents (opened_at t.key (Taking t.size taken) (got ++ t.pending.items)) frame) (hears d.rows stamp Client frame (holds heard t got done count)))
  inside_orders long up n =
      let eight : (length frame == 8) ≡ true = grind (arith, nat_tests) in
      let abort : is_abort_in_sub_block frame ≡ (command frame == 0x80) = ap (λ b. b && (command frame == 0x80)) eight in
      let inside : reading_of (Some t) Client (stamp count) frame ≡ sub_block_reading t.block_size Client (stamp count) frame = rw (h.stage, h.is.is.direction) refl in
      let reading = ap (λ b. if b then Abort (code_in frame) else segment_reading t.block_size (block_segment_in frame) (beginning (plain_reading Client (stamp count) frame))) abort in
      subst (λ r. Orders newest (opened_next d contents (opened_at t.key (Taking t.size taken) (got ++ t.pending.items)) frame) None done
      (hears_answers d.rows stamp (answers_to d contents (opened_at t.key (Taking t.size taken) (got ++ t.pending.items)) frame) (read_as d.rows (stamp count) Client frame (holds heard t got done count) r))) (sym (inside ∙ reading))
      (by_abort (command frame == 0x80) refl (ap (λ b. b || nat_lt old (number (block_segment_in frame))) (sym abort) ∙ up) n)

-- ---- after the last segment

size_is : (d : Description) (contents : Contents) (key : Key) (size : Option ℕ) (bytes : List ℕ) → IsDescription d → completion_refusal d contents key size bytes ≡ None → size_fault size (counted (length bytes)) ≡ None
size_is d contents key size bytes lawful e =
    let a = allowed d contents key size bytes e in
    let cap = capped d key (d.rows key) lawful refl in
    let room = a.room in
    size_right size (length bytes) a.as_indicated (omega (arith, room, cap))

module _ (newest : ℕ) (d : Description) (contents : Contents) (stamp : ℕ → ℕ) (frame : List ℕ) (heard : Bool) (t : Transfer) (got : List ℕ) (done : List Complete) (count : ℕ) (h : IsAllSent t) where
  abbrev all_of : ℕ → List ℕ
  all_of unused = without unused (got ++ t.pending.items)

  -- the client's end is confirmed
  confirms : (unused : ℕ) → unused ≤ 7 → t.taken ≡ digest_of got → IsDescription d → completion_refusal d contents t.key t.size (all_of unused) ≡ None
      → Orders newest None (whole t.key t.size (all_of unused)) done
      (hears_answers d.rows stamp (Replied BlockDownloadDone ∷ []) (holds heard (ended t unused (crc_in frame) (stamp count)) (got ++ left_of t unused) done (suc count)))
  confirms unused few kept lawful e =
      let u = ended t unused (crc_in frame) (stamp count) in
      let confirmed : Transfer = record u { stage = Confirmed (if t.crc then Some (crc_in frame) else None) } in
      let P : View → Type 0 = λ v. Orders newest None (whole t.key t.size (all_of unused)) done v in
      let turn : end_confirmed (is_download u.direction) u ≡ goes_on confirmed = ap (λ x. end_confirmed (is_download x) u) h.is.is.direction ∙ ap (λ x. if is_block x then goes_on confirmed else unexpected u) h.is.is.protocol in
      let data_is : got ++ left_of t unused ≡ all_of unused = without_is got t.pending.items unused few h.pending in
      let bytes_are : entry_bytes d.rows t.key (request_in t.request.items) (got ++ left_of t unused) ≡ all_of unused =
      ap (λ r. entry_bytes d.rows t.key r (got ++ left_of t unused)) h.is.is.request ∙ data_is in
      let count_is : u.taken.count ≡ counted (length (all_of unused)) = ap (λ (g : Digest). g.count) (taking t.taken got (Some (left_of t unused)) kept) ∙ ap (λ (xs : List ℕ). counted (length xs)) data_is in
      let fault = ap (λ n. size_fault t.size n) count_is ∙ size_is d contents t.key t.size (all_of unused) lawful e in
      let write = write_of (suc (suc count)) t.key (entry_bytes d.rows t.key (request_in t.request.items) (got ++ left_of t unused)) in
      answered d.rows stamp BlockDownloadDone (holds heard u (got ++ left_of t unused) done (suc count)) (Response BlockDownloadDone) P
      (response_read u (stamp (suc count)) (response_bytes BlockDownloadDone) h.is.is.direction ∙ ap response_reading block_done_read)
      (subst (λ w. P (turned d.rows (stamp (suc count)) heard u (got ++ left_of t unused) done (suc count) w)) (sym turn)
      (rw h.is.crc (record {
        holds = refl;
        same =
            ap (λ w. w ++ done) (regular_done (after u (goes_on confirmed)) write h.is.regular fault (ap is_download h.is.is.direction))
            ∙ ap (λ bytes. write_of (suc (suc count)) t.key bytes ++ done) bytes_are;
      })))

  ended_view : (unused : ℕ) → read_as d.rows (stamp count) Client frame (holds heard t got done count) (Request (BlockDownloadEnd unused)) ≡ holds heard (ended t unused (crc_in frame) (stamp count)) (got ++ left_of t unused) done (suc count)
  ended_view unused = rw (h.is.is.direction, h.stage) refl

  end_orders : (unused : ℕ) → unused ≤ 7 → t.taken ≡ digest_of got → IsDescription d
      → (let current = opened_at t.key (LastTaken t.size) (got ++ t.pending.items) in
      Orders newest (after_request d contents current (Some (BlockDownloadEnd unused))) (set_by_request d contents current (Some (BlockDownloadEnd unused))) done
      (hears_answers d.rows stamp (request_answers d contents current (Some (BlockDownloadEnd unused))) (read_as d.rows (stamp count) Client frame (holds heard t got done count) (Request (BlockDownloadEnd unused)))))
  end_orders unused few kept lawful =
      let refusal = completion_refusal d contents t.key t.size (all_of unused) in
      let u = ended t unused (crc_in frame) (stamp count) in
      subst (λ v. Orders newest None (unless refusal (whole t.key t.size (all_of unused))) done (hears_answers d.rows stamp (unless_refused refusal t.key (Replied BlockDownloadDone ∷ [])) v)) (sym (ended_view unused))
      (by refusal refl (λ e. confirms unused few kept lawful e))
    where
      by : (refusal : Option ℕ) → completion_refusal d contents t.key t.size (all_of unused) ≡ refusal
          → (completion_refusal d contents t.key t.size (all_of unused) ≡ None → Orders newest None (whole t.key t.size (all_of unused)) done
          (hears_answers d.rows stamp (Replied BlockDownloadDone ∷ []) (holds heard (ended t unused (crc_in frame) (stamp count)) (got ++ left_of t unused) done (suc count))))
          → Orders newest None (unless refusal (whole t.key t.size (all_of unused))) done
          (hears_answers d.rows stamp (unless_refused refusal t.key (Replied BlockDownloadDone ∷ [])) (holds heard (ended t unused (crc_in frame) (stamp count)) (got ++ left_of t unused) done (suc count)))
      by None e go = go e
      by (Some code) e go = closed_orders newest d.rows stamp t.key code done (holds heard (ended t unused (crc_in frame) (stamp count)) (got ++ left_of t unused) done (suc count)) refl

  -- the client's next request
  sent_request : (r : Option SdoRequest) → request_in frame ≡ r → IfSome r IsSmallEnd → is_block_begin r ≡ false → t.taken ≡ digest_of got → IsDescription d → AreBytes frame
      → (let current = opened_at t.key (LastTaken t.size) (got ++ t.pending.items) in
      Orders newest (after_request d contents current r) (set_by_request d contents current r) done
      (hears_answers d.rows stamp (request_answers d contents current r) (read_as d.rows (stamp count) Client frame (holds heard t got done count) (request_reading r (stamp count) frame))))
  sent_request (Some (BlockDownloadEnd unused)) q few n kept lawful small = end_orders unused few kept lawful
  sent_request (Some (DownloadExpedited key value)) q few n kept lawful small =
      let current = opened_at t.key (LastTaken t.size) (got ++ t.pending.items) in
      from_exactly newest _ _ done _ (begin_comes d contents stamp current (DownloadExpedited key value) _ frame heard (Some t) got done count q refl small n)
  sent_request (Some (DownloadInitiate key size)) q few n kept lawful small =
      let current = opened_at t.key (LastTaken t.size) (got ++ t.pending.items) in
      from_exactly newest _ _ done _ (begin_comes d contents stamp current (DownloadInitiate key size) _ frame heard (Some t) got done count q refl small n)
  sent_request (Some (UploadInitiate key)) q few n kept lawful small =
      let current = opened_at t.key (LastTaken t.size) (got ++ t.pending.items) in
      from_exactly newest _ _ done _ (begin_comes d contents stamp current (UploadInitiate key) _ frame heard (Some t) got done count q refl small n)
  sent_request (Some (BlockUploadInitiate key block_size threshold)) q few n kept lawful small =
      let current = opened_at t.key (LastTaken t.size) (got ++ t.pending.items) in
      from_exactly newest _ _ done _ (begin_comes d contents stamp current (BlockUploadInitiate key block_size threshold) _ frame heard (Some t) got done count q refl small n)
  sent_request (Some (BlockDownloadInitiate key size)) q few n kept lawful small = absurd (false≢true (sym n))
  sent_request (Some (Abandon key code)) q few n kept lawful small = record {
    holds = refl;
    same = ap (λ w. w ++ done) (no_write (is_download t.direction) _ (abort_no_write Client (not_followed_by Client t frame) code _));
  }
  sent_request r q few n kept lawful small =
      closed_orders newest d.rows stamp t.key 0x05040001 done (read_as d.rows (stamp count) Client frame (holds heard t got done count) (request_reading r (stamp count) frame))
      (answered_reads d.rows (stamp count) frame heard t got done count (request_reading r (stamp count) frame) (are_sent t (record { is = h.is.is; stage = h.stage; pending = h.pending })) refl refl).same

-- the channel has dropped it then
gone_request : (newest : ℕ) (d : Description) (contents : Contents) (stamp : ℕ → ℕ) (frame : List ℕ) (heard : Bool) (t : Transfer) (got : List ℕ) (done : List Complete) (count : ℕ) → AllSent t → (r : Option SdoRequest) → request_in frame ≡ r → is_block_begin r ≡ false → AreBytes frame
    → Orders newest (after_request d contents None r) (set_by_request d contents None r) done
    (hears_answers d.rows stamp (request_answers d contents None r) (read_as d.rows (stamp count) Client frame (holds heard t got done count) (request_reading r (stamp count) frame)))
gone_request newest d contents stamp frame heard t got done count h (Some (DownloadExpedited key value)) q n small =
    from_exactly newest _ _ done _ (begin_comes d contents stamp None (DownloadExpedited key value) _ frame heard (Some t) got done count q refl small n)
gone_request newest d contents stamp frame heard t got done count h (Some (DownloadInitiate key size)) q n small =
    from_exactly newest _ _ done _ (begin_comes d contents stamp None (DownloadInitiate key size) _ frame heard (Some t) got done count q refl small n)
gone_request newest d contents stamp frame heard t got done count h (Some (UploadInitiate key)) q n small =
    from_exactly newest _ _ done _ (begin_comes d contents stamp None (UploadInitiate key) _ frame heard (Some t) got done count q refl small n)
gone_request newest d contents stamp frame heard t got done count h (Some (BlockUploadInitiate key block_size threshold)) q n small =
    from_exactly newest _ _ done _ (begin_comes d contents stamp None (BlockUploadInitiate key block_size threshold) _ frame heard (Some t) got done count q refl small n)
gone_request newest d contents stamp frame heard t got done count h (Some (BlockDownloadInitiate key size)) q n small = absurd (false≢true (sym n))
gone_request newest d contents stamp frame heard t got done count h (Some (Abandon key code)) q n small = record {
  holds = refl;
  same = ap (λ w. w ++ done) (no_write (is_download t.direction) _ (abort_no_write Client (not_followed_by Client t frame) code _));
}
gone_request newest d contents stamp frame heard t got done count h r q n small =
    closed_orders newest d.rows stamp (record { index = 0; sub = 0 }) 0x05040001 done (read_as d.rows (stamp count) Client frame (holds heard t got done count) (request_reading r (stamp count) frame))
    (answered_reads d.rows (stamp count) frame heard t got done count (request_reading r (stamp count) frame) (are_sent t h) refl refl).same

-- ---- every frame

-- the number of the newest segment after a frame
abbrev NewestIs : ℕ → Option OpenTransfer → List ℕ → Type 0
NewestIs newest current frame = newest ≡ (if is_in_sub_block current && not (ends_sub_block frame) then number_in frame else 0)

-- where it is inside a sub-block its number is higher
abbrev GoesUp : ℕ → Option OpenTransfer → List ℕ → Type 0
GoesUp old current frame = is_in_sub_block current ≡ true → goes_up old frame ≡ true

zero_then : (newest : ℕ) (current : Option OpenTransfer) (frame : List ℕ) → is_in_sub_block current ≡ false → NewestIs newest current frame → newest ≡ 0
zero_then newest current frame o n = n ∙ ap (λ b. if b && not (ends_sub_block frame) then number_in frame else 0) o

-- any request outside a sub-block, which begins no block download or does
module _ (newest : ℕ) (d : Description) (contents : Contents) (stamp : ℕ → ℕ) (frame : List ℕ) (current : Option OpenTransfer) (heard : Bool) (held : Option Transfer) (got : List ℕ) (done : List Complete) (count : ℕ) (small : AreBytes frame) where
  abbrev before : View
  before = record { following = record { heard = heard; transfer = held }; got = got; done = done; count = count }

  abbrev AfterIt : Type 0
  AfterIt = Orders newest (opened_next d contents current frame) (set_next d contents current frame) done (hears_answers d.rows stamp (answers_to d contents current frame) (hears d.rows stamp Client frame before))

  outside : is_in_sub_block current ≡ false → reading_of held Client (stamp count) frame ≡ request_reading (request_in frame) (stamp count) frame → NewestIs newest current frame
      → (is_block_begin (request_in frame) ≡ false → AfterIt) → AfterIt
  outside o e n go = by (request_in frame) refl
    where
      by : (r : Option SdoRequest) → request_in frame ≡ r → AfterIt
      by (Some (BlockDownloadInitiate key size)) q =
          rw (outside_answers d contents current frame o, outside_opens d contents current frame o, outside_sets d contents current frame o, e, q)
          (block_begins newest d contents stamp current key size frame heard held got done count q small (zero_then newest current frame o n))
      by r q = go (ap is_block_begin q)

  -- without one
  as_before : ExactIn held got current → IfSome held (λ t. t.taken ≡ digest_of got) → IsDescription d → is_block_begin (request_in frame) ≡ false → AfterIt
  as_before h kept lawful b = from_exactly newest _ _ done _ (exact_exchange d contents stamp frame current before h kept lawful small b)

ends_so : (ends : Bool) (n : ℕ) → (if true && not ends then n else 0) ≡ (if ends then 0 else n)
ends_so true n = refl
ends_so false n = refl

pub exact_outside : (held : Option Transfer) (got : List ℕ) (current : Option OpenTransfer) → ExactIn held got current → is_in_sub_block current ≡ false
exact_outside None got current h = upload_outside current h
exact_outside (Some t) got current (exact_upload u h) = upload_outside current h
exact_outside (Some t) got current (exact_segments toggle h c) = ap is_in_sub_block c
exact_outside (Some t) got current (exact_dropped toggle h c) = ap is_in_sub_block c

by_transfer : (newest old : ℕ) (d : Description) (contents : Contents) (stamp : ℕ → ℕ) (frame : List ℕ) (current : Option OpenTransfer) (heard : Bool) (held : Option Transfer) (got : List ℕ) (done : List Complete) (count : ℕ) (small : AreBytes frame)
    → OrderlyIn held got current old → IfSome held (λ t. t.taken ≡ digest_of got) → IsDescription d → length frame ≡ 8 → GoesUp old current frame → NewestIs newest current frame
    → AfterIt newest d contents stamp frame current heard held got done count small
by_transfer newest old d contents stamp frame current heard None got done count small h kept lawful long up n =
    outside newest d contents stamp frame current heard None got done count small (exact_outside None got current h) refl n
    (as_before newest d contents stamp frame current heard None got done count small h kept lawful)
by_transfer newest old d contents stamp frame current heard (Some t) got done count small (plain h) kept lawful long up n =
    outside newest d contents stamp frame current heard (Some t) got done count small (exact_outside (Some t) got current h) (client_reads (Some t) got current (stamp count) frame h) n
    (as_before newest d contents stamp frame current heard (Some t) got done count small h kept lawful)
by_transfer newest old d contents stamp frame current heard (Some t) got done count small (inside taken h c) kept lawful long up n =
    subst (λ x. AfterIt newest d contents stamp frame x heard (Some t) got done count small) (sym c)
    (inside_orders newest d contents stamp frame heard t got done count taken old h long (up (ap is_in_sub_block c))
    (n ∙ ap (λ x. if is_in_sub_block x && not (ends_sub_block frame) then number_in frame else 0) c ∙ ends_so (ends_sub_block frame) (number_in frame)))
by_transfer newest old d contents stamp frame current heard (Some t) got done count small (all_sent h c) kept lawful long up n =
    let e : reading_of (Some t) Client (stamp count) frame ≡ request_reading (request_in frame) (stamp count) frame = rw h.stage refl in
    let last = opened_at t.key (LastTaken t.size) (got ++ t.pending.items) in
    outside newest d contents stamp frame current heard (Some t) got done count small (ap is_in_sub_block c) e n
    (λ b. subst (λ x. AfterIt newest d contents stamp frame x heard (Some t) got done count small) (sym c)
    (subst (λ r. Orders newest (after_request d contents last (request_in frame)) (set_by_request d contents last (request_in frame)) done
    (hears_answers d.rows stamp (request_answers d contents last (request_in frame)) (read_as d.rows (stamp count) Client frame (holds heard t got done count) r))) (sym e)
    (sent_request newest d contents stamp frame heard t got done count h (request_in frame) refl (small_end frame) b kept lawful small)))
by_transfer newest old d contents stamp frame current heard (Some t) got done count small (gone h c) kept lawful long up n =
    let e : reading_of (Some t) Client (stamp count) frame ≡ request_reading (request_in frame) (stamp count) frame = rw h.stage refl in
    outside newest d contents stamp frame current heard (Some t) got done count small (ap is_in_sub_block c) e n
    (λ b. subst (λ x. AfterIt newest d contents stamp frame x heard (Some t) got done count small) (sym c)
    (subst (λ r. Orders newest (after_request d contents None (request_in frame)) (set_by_request d contents None (request_in frame)) done
    (hears_answers d.rows stamp (request_answers d contents None (request_in frame)) (read_as d.rows (stamp count) Client frame (holds heard t got done count) r))) (sym e)
    (gone_request newest d contents stamp frame heard t got done count h (request_in frame) refl b small)))

pub orderly_exchange : (newest old : ℕ) (d : Description) (contents : Contents) (stamp : ℕ → ℕ) (frame : List ℕ) (current : Option OpenTransfer) (v : View) → AreBytes frame
    → OrderlyIn v.following.transfer v.got current old → IfSome v.following.transfer (λ t. t.taken ≡ digest_of v.got) → IsDescription d → length frame ≡ 8 → GoesUp old current frame → NewestIs newest current frame
    → Orders newest (opened_next d contents current frame) (set_next d contents current frame) v.done (hears_answers d.rows stamp (answers_to d contents current frame) (hears d.rows stamp Client frame v))
orderly_exchange newest old d contents stamp frame current v small h kept lawful long up n =
    by_transfer newest old d contents stamp frame current v.following.heard v.following.transfer v.got v.done v.count small h kept lawful long up n
