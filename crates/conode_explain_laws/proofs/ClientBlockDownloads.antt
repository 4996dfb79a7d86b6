-- Downloads of a client in blocks: what explain and the client make of an answer.
use Rattle.std.proofs.Common.{◌≡◌, ℕ, zero, suc, ◌+◌, ◌*◌, ◌/◌, ◌-◌, ◌<◌, ◌≤◌, Bool, true, false, not, List, [], ◌∷◌, ◌++◌, length, take, map, Option, Some, None, refl, sym, ap, ◌∙◌, inl, inr, subst, arith, length-append, append_assoc, append-nil}
use Rattle.std.specs.Prelude.{if◌then◌else◌, nat_le, nat_lt, ◌==◌, ◌&&◌}
use Rattle.std.specs.List.{range_with_len}
use Rattle.std.proofs.lemmas.Bool.{eqb-true, false≢true}
use Rattle.std.proofs.lemmas.Bool.Decides.{nat_tests}
use Rattle.co_value.specs.declared.key.Key.{Key}
use Rattle.co_value.specs.Keys.{same_key}
use Rattle.co_frame_aborts.specs.AbortCodes.{invalid_block_size, invalid_sequence_number}
use Rattle.co_frame.specs.BlockSegments.{block_segment_in, is_abort_in_sub_block}
use Rattle.co_frame.specs.Segments.{segment_count, block_segment, sub_block_length}
use Rattle.co_frame.specs.SdoRequests.{request_bytes}
use Rattle.co_frame.specs.declared.block_segment.BlockSegment.{BlockSegment}
use Rattle.co_frame.specs.declared.sdo_request.SdoRequest.TheVariants.{BlockDownloadEnd}
use Rattle.co_frame.specs.declared.sdo_response.SdoResponse.{SdoResponse}
use Rattle.co_frame.specs.declared.sdo_response.SdoResponse.TheVariants.{DownloadDone, UploadExpedited, Abort as Refuse, BlockDownloadInitiated, BlockDownloadDone, BlockDownloadAcknowledge}
use Rattle.co_sdo_client.specs.declared.stage.Stage.{Stage}
use Rattle.co_sdo_client.specs.declared.stage.Stage.TheVariants.{Begun, BlockDownload as SendingBlock, BlockDownloadEnded as EndAsked}
use Rattle.co_sdo_client.specs.Calls.{Call, Segment as Sent}
use Rattle.co_sdo_client.specs.Segments.{bytes_of, unused_after, sub_block_sent, block_download_end}
use Rattle.co_sdo_client.specs.Stages.{block_download_stage}
use Rattle.co_sdo_client.specs.Verdicts.{GoesOn, Ends, unless_fault, bad_block_size, next_sub_block}
use Rattle.co_sdo_client.specs.Outcomes.{messages_by}
use Rattle.co_sdo_laws.specs.Undisturbed.{IsJob}
use Rattle.co_sdo_laws.proofs.BlockSegments.{segment_at, data_at, data_long, frame_read}
use Rattle.co_sdo_laws.proofs.Frames.{block_end_read}
use Rattle.conode_explain_transfers.specs.declared.digest.Digest.{Digest}
use Rattle.conode_explain_transfers.specs.declared.kinds.Direction.TheVariants.{Download}
use Rattle.conode_explain_transfers.specs.declared.kinds.Side.TheVariants.{Client, Server}
use Rattle.conode_explain_transfers.specs.declared.kinds.What.TheVariants.{Part}
use Rattle.conode_explain_transfers.specs.declared.stage.Stage.TheVariants.{SubBlock, AllAcknowledged, BlockEnded, Confirmed}
use Rattle.conode_explain_transfers.specs.declared.transfer.Transfer.{Transfer}
use Rattle.conode_explain_transfers.specs.BlockTurns.{segment_added, crc_in, next_sub_block as explains_next}
use Rattle.conode_explain_transfers.specs.Digests.{counted, digest_of}
use Rattle.conode_explain_transfers.specs.Followed.{with_frame}
use Rattle.conode_explain_transfers.specs.Initiates.{has_crc}
use Rattle.conode_explain_transfers.specs.Stages.{confirmed_with}
use Rattle.conode_explain_transfers.specs.Transfers.{Turn, after, awaited_number, goes_on as part, takes_pending}
use Rattle.conode_explain_transfers.specs.Turns.{response_turn}
use Rattle.conode_explain_laws.proofs.Readings.{Segment, Request, request_reading, plain_reading, beginning, segment_reading, sub_block_reading, reading_of}
use Rattle.conode_explain_laws.proofs.UploadBlocks.{data_more, data_taken, data_all, no_abort}
use Rattle.conode_explain_laws.proofs.ClientViews.{Seen, holds, says, hears, read_as, turned, late_turn, late_response, late_other_key, late_answering}
use Rattle.conode_explain_laws.proofs.ClientStanding.{IsBlockBegun, IsBlockSent, IsBlockEnded, block_sent, block_ended, Steps, gives_up, is_over, completes, size_right, few_sent, sent_size, sent_bytes, never_refused}
use Rattle.conode_explain_laws.proofs.ClientDownloads.{Made, no_response, an_abort}

-- ---- the client's segments

-- explain after one
abbrev with_it : Transfer → BlockSegment → ℕ → Transfer
with_it u segment micros = with_frame Part (after u (segment_added u segment)) micros Client

segment_is : (block_size micros : ℕ) (frame : List ℕ) (segment : BlockSegment) → is_abort_in_sub_block frame ≡ false → block_segment_in frame ≡ Some segment → nat_le segment.sequence block_size ≡ true
    → sub_block_reading block_size Client micros frame ≡ Segment segment
segment_is block_size micros frame segment a r l =
    rw a (ap (λ x. segment_reading block_size x (beginning (plain_reading Client micros frame))) r ∙ rw l refl)

module _ (Loose : Type 0) (call : Call) (stamp : ℕ → ℕ) (heard : Bool) (got : List ℕ) (position : ℕ) where
  abbrev bytes : List ℕ
  bytes = bytes_of call.job

  is_read : (u : Transfer) (count sent : ℕ) → IsBlockSent Loose call u got position sent → sent + 1 ≤ u.block_size → sent + 1 < 128
      → reading_of (Some u) Client (stamp count) (segment_at bytes position (sent + 1)) ≡ Segment (block_segment bytes position (sent + 1))
  is_read u count sent h within few =
      let inside : reading_of (Some u) Client (stamp count) (segment_at bytes position (sent + 1)) ≡ sub_block_reading u.block_size Client (stamp count) (segment_at bytes position (sent + 1)) = rw (h.stage, h.is.is.direction) refl in
      let some : 1 ≤ sent + 1 = omega arith in
      inside
      ∙ segment_is u.block_size (stamp count) (segment_at bytes position (sent + 1)) (block_segment bytes position (sent + 1)) (no_abort bytes position (sent + 1) some few)
      (frame_read bytes position (sent + 1) (position + (sent + 1) == segment_count bytes) some few) (grind (arith, nat_tests))

  is_added : (u : Transfer) (count : ℕ) (frame : List ℕ) (segment : BlockSegment) → u.stage ≡ SubBlock false → nat_lt segment.sequence u.next_number ≡ false → (segment.sequence == awaited_number u) ≡ true
      → read_as call (stamp count) Client frame (holds heard (Some u) got [] count) (Segment segment) ≡ holds heard (Some (with_it u segment (stamp count))) got [] (suc count)
  is_added u count frame segment e b1 b2 = rw (e, b1, b2) refl

  is_heard : (u : Transfer) (count sent : ℕ) → IsBlockSent Loose call u got position sent → position + sent < segment_count bytes → sent + 1 ≤ u.block_size → sent + 1 < 128
      → hears call stamp Client (segment_at bytes position (sent + 1)) (holds heard (Some u) got [] count) ≡ holds heard (Some (with_it u (block_segment bytes position (sent + 1)) (stamp count))) got [] (suc count)
  is_heard u count sent h under within few =
      let number = h.number in
      let p = h.pending in
      let more : (position + sent == segment_count bytes) ≡ false = grind (arith, nat_tests) in
      let below : nat_lt (sent + 1) u.next_number ≡ false = grind (arith, nat_tests) in
      let awaited : sent + 1 ≡ length u.pending.items / 7 + 1 = omega (arith, p) in
      let next : (sent + 1 == length u.pending.items / 7 + 1) ≡ true = grind (arith, nat_tests) in
      ap (read_as call (stamp count) Client (segment_at bytes position (sent + 1)) (holds heard (Some u) got [] count)) (is_read u count sent h within few)
      ∙ is_added u count (segment_at bytes position (sent + 1)) (block_segment bytes position (sent + 1)) (h.stage ∙ ap (λ b. SubBlock b) more) below next

  one_more : (u : Transfer) (micros sent : ℕ) → IsBlockSent Loose call u got position sent → position + sent < segment_count bytes
      → IsBlockSent Loose call (with_it u (block_segment bytes position (sent + 1)) micros) got position (sent + 1)
  one_more u micros sent h under =
      let p = h.pending in
      let n = length-append u.pending.items (data_at bytes position (sent + 1)) in
      let seven = data_long bytes position (sent + 1) in
      record {
        is = record {
          is = record { direction = h.is.is.direction; job = h.is.is.job; key = h.is.is.key; track = h.is.is.track };
          protocol = h.is.protocol;
          size = h.is.size;
          crc = h.is.crc;
        };
        stage = refl;
        number = refl;
        pending = omega (arith, n, p, seven);
        before = h.before;
        joined =
            sym (append_assoc got u.pending.items (data_at bytes position (sent + 1))) ∙ ap (λ xs. xs ++ data_at bytes position (sent + 1)) h.joined
            ∙ data_more bytes position sent under;
        first = h.first;
        most = omega arith;
      }

  -- so many more
  pub more_said : (more : ℕ) (u : Transfer) (count sent : ℕ) (P : Seen → Type 0) → IsBlockSent Loose call u got position sent → position + (sent + more) ≤ segment_count bytes → sent + more ≤ u.block_size → sent + more < 128
      → ((w : Transfer) (count : ℕ) → IsBlockSent Loose call w got position (sent + more) → P (holds heard (Some w) got [] count))
      → P (says call stamp (map (λ number. Sent (block_segment bytes position number)) (range_with_len (sent + 1) more)) (holds heard (Some u) got [] count))
  more_said zero u count sent P h most within few go =
      let none : sent ≡ sent + 0 = omega arith in go u count (subst (IsBlockSent Loose call u got position) none h)
  more_said (suc more) u count sent P h most within few go =
      let w = with_it u (block_segment bytes position (sent + 1)) (stamp count) in
      let under : position + sent < segment_count bytes = omega arith in
      let sum : sent + 1 + more ≡ sent + suc more = omega arith in
      subst (λ v. P (says call stamp (map (λ number. Sent (block_segment bytes position number)) (range_with_len (sent + 1 + 1) more)) v))
      (sym (is_heard u count sent h under (omega arith) (omega arith)))
      (more_said more w (suc count) (sent + 1) P (one_more u (stamp count) sent h under) (omega arith) (omega arith) (omega arith)
      (λ x n k. go x n (subst (IsBlockSent Loose call x got position) sum k)))

  -- a sub-block
  pub sub_block_says : (u : Transfer) (count : ℕ) (stage : Stage) (held : List ℕ) (newest : ℕ) → IsBlockSent Loose call u got position 0 → (nat_le 1 u.block_size && nat_le u.block_size 127) ≡ true
      → stage ≡ SendingBlock position (sub_block_length bytes position u.block_size)
      → Steps Loose call (GoesOn (sub_block_sent bytes position u.block_size)) stage held newest (says call stamp (sub_block_sent bytes position u.block_size) (holds heard (Some u) got [] count))
  sub_block_says u count stage held newest h b s =
      let size = sub_block_length bytes position u.block_size in
      let first = h.first in
      let small : u.block_size ≤ 127 = grind (arith, nat_tests) in
      more_said size u count 0 (λ v. Steps Loose call (GoesOn (sub_block_sent bytes position u.block_size)) stage held newest v) h (omega arith) (omega arith) (omega arith)
      (λ w n k. record { follows = inr (block_sent position (0 + size) k (s ∙ ap (λ m. SendingBlock position m) (zero_more size))); reads = refl })
    where
      zero_more : (n : ℕ) → n ≡ 0 + n
      zero_more n = omega arith

-- ---- one answer

below : (n total : ℕ) → (n == total) ≡ false → n ≤ total → n < total
below n total e h = grind (arith, nat_tests)

not_all : (position sent sequence total awaited : ℕ) → awaited ≡ sent + 1 → (position + sequence == total) ≡ false → (position + sent == total) && (sequence + 1 == awaited) ≡ false
not_all position sent sequence total awaited n e = by (position + sent == total) (sequence + 1 == awaited) refl refl
  where
    by : (last all : Bool) → (position + sent == total) ≡ last → (sequence + 1 == awaited) ≡ all → last && all ≡ false
    by true true l a =
        let whole : position + sent ≡ total = eqb-true _ _ l in
        let same : sequence + 1 ≡ awaited = eqb-true _ _ a in
        let both : position + sequence ≡ total = omega arith in
        let yes : (position + sequence == total) ≡ true = grind (arith, nat_tests) in
        absurd (false≢true (sym e ∙ yes))
    by true false l a = refl
    by false all l a = refl

module _ (Loose : Type 0) (call : Call) (job : IsJob call.job) (stamp : ℕ → ℕ) (frame : List ℕ) (heard : Bool) (t : Transfer) (count newest : ℕ) where
  abbrev data_sent : List ℕ
  data_sent = bytes_of call.job

  abbrev comes : List ℕ → Turn → Seen
  comes got turn = turned call (stamp count) Server heard t got [] count turn

  some_segment : 0 < segment_count data_sent
  some_segment = omega arith

  -- the first sub-block
  first_sub_block : (key : Key) (size : ℕ) (held : List ℕ) (same good : Bool) → IsBlockBegun Loose call t → same_key key call.key ≡ same → (nat_le 1 size && nat_le size 127) ≡ good
      → (let v = unless_fault ((not same, 0x05040001) ∷ (not good, invalid_block_size) ∷ []) (GoesOn (sub_block_sent data_sent 0 size)) in
      Steps Loose call v (block_download_stage data_sent 0 size) held newest (says call stamp (messages_by call v) (comes [] (response_turn t (BlockDownloadInitiated key size) frame))))
  first_sub_block key size held false good h e b =
      gives_up Loose call stamp _ held newest 0x05040001 (comes [] (response_turn t (BlockDownloadInitiated key size) frame))
      (late_turn call (stamp count) Server heard t [] [] count (response_turn t (BlockDownloadInitiated key size) frame) (late_other_key t key _ (ap confirmed_with h.stage) (ap (λ k. same_key key k) h.is.is.key ∙ e)))
  first_sub_block key size held true false h e b =
      gives_up Loose call stamp _ held newest invalid_block_size (comes [] (response_turn t (BlockDownloadInitiated key size) frame))
      (late_turn call (stamp count) Server heard t [] [] count (response_turn t (BlockDownloadInitiated key size) frame) (late_response t (BlockDownloadInitiated key size) frame (ap confirmed_with h.stage) (rw h.stage refl)))
  first_sub_block key size held true true h e b =
      let turn = part (record t { block_size = size; crc = t.crc && has_crc frame; stage = SubBlock false }) in
      let is : response_turn t (BlockDownloadInitiated key size) frame ≡ turn = rw (h.stage, h.is.is.key, e, h.is.is.direction, h.is.protocol) refl in
      let u = with_frame Part (after t turn) (stamp count) Server in
      let v = GoesOn (sub_block_sent data_sent 0 size) in
      let some = some_segment in
      let more : (0 == segment_count data_sent) ≡ false = grind (arith, nat_tests) in
      let more_so : (0 + 0 == segment_count data_sent) ≡ false = grind (arith, nat_tests) in
      let none : length t.pending.items ≡ 0 = ap length h.pending in
      subst (λ x. Steps Loose call v (block_download_stage data_sent 0 size) held newest (says call stamp (messages_by call v) (comes [] x))) (sym is)
      (sub_block_says Loose call stamp heard [] 0 u (suc count) (block_download_stage data_sent 0 size) held newest (record {
        is = record {
          is = record { direction = h.is.is.direction; job = h.is.is.job; key = h.is.is.key; track = h.is.is.track };
          protocol = h.is.protocol;
          size = h.is.size;
          crc = ap (λ c. c && has_crc frame) h.is.crc;
        };
        stage = ap (λ b. SubBlock b) (sym more_so);
        number = h.number;
        pending = none;
        before = refl;
        joined = h.pending ∙ sym (rw more_so refl);
        first = some;
        most = omega (arith, some);
      }) b (rw more refl))

  -- the end
  abbrev end_frame : List ℕ
  end_frame = request_bytes (BlockDownloadEnd (unused_after data_sent))

  end_says : (u : Transfer) (got : List ℕ) (count : ℕ) → u.stage ≡ AllAcknowledged → u.direction ≡ Download
      → says call stamp (block_download_end data_sent) (holds heard (Some u) got [] count)
      ≡ holds heard (Some (with_frame Part (after u (takes_pending (record u { stage = BlockEnded (crc_in end_frame) }) (length u.pending.items - unused_after data_sent))) (stamp count) Client))
      (got ++ take (length u.pending.items - unused_after data_sent) u.pending.items) [] (suc count)
  end_says u got count s d =
      let read : reading_of (Some u) Client (stamp count) end_frame ≡ Request (BlockDownloadEnd (unused_after data_sent)) =
      rw s (ap (λ r. request_reading r (stamp count) end_frame) (block_end_read (unused_after data_sent) (omega arith))) in
      ap (read_as call (stamp count) Client end_frame (holds heard (Some u) got [] count)) read ∙ rw (d, s) refl

  -- all segments are acknowledged
  all_acknowledged : (got held : List ℕ) (position sent sequence size : ℕ) → IsBlockSent Loose call t got position sent → nat_lt sent sequence ≡ false → (position + sequence == segment_count data_sent) ≡ true
      → Steps Loose call (GoesOn (block_download_end data_sent)) EndAsked held newest
      (says call stamp (block_download_end data_sent) (comes got (response_turn t (BlockDownloadAcknowledge sequence size) frame)))
  all_acknowledged got held position sent sequence size h a e =
      let p = h.pending in
      let m = h.most in
      let whole : position + sequence ≡ segment_count data_sent = eqb-true _ _ e in
      let last : (position + sent == segment_count data_sent) ≡ true = grind (arith, nat_tests) in
      let number : awaited_number t ≡ sent + 1 = omega (arith, p) in
      let came : nat_lt sequence (awaited_number t) ≡ true = grind (arith, nat_tests) in
      let all : (sequence + 1 == awaited_number t) ≡ true = grind (arith, nat_tests) in
      let turn = part (record t { stage = AllAcknowledged }) in
      let is : response_turn t (BlockDownloadAcknowledge sequence size) frame ≡ turn = rw (h.is.is.direction, h.stage, last, came, all) refl in
      let u = with_frame Part (after t turn) (stamp count) Server in
      subst (λ x. Steps Loose call (GoesOn (block_download_end data_sent)) EndAsked held newest (says call stamp (block_download_end data_sent) (comes got x))) (sym is)
      (subst (Steps Loose call (GoesOn (block_download_end data_sent)) EndAsked held newest) (sym (end_says u got (suc count) refl h.is.is.direction))
      (record {
        follows = inr (block_ended (crc_in end_frame) (record {
          is = record {
            is = record { direction = h.is.is.direction; job = h.is.is.job; key = h.is.is.key; track = h.is.is.track };
            protocol = h.is.protocol;
            size = h.is.size;
            crc = h.is.crc;
          };
          stage = refl;
        }) (data_all got t.pending.items data_sent position sent h.joined h.first h.pending last) refl);
        reads = refl;
      }))

  -- others are left: the next sub-block
  next_block : (got held : List ℕ) (position sent sequence size : ℕ) (good : Bool) → IsBlockSent Loose call t got position sent → nat_lt sent sequence ≡ false → (position + sequence == segment_count data_sent) ≡ false
      → (nat_le 1 size && nat_le size 127) ≡ good
      → (let v = unless_fault ((not good, invalid_block_size) ∷ []) (GoesOn (sub_block_sent data_sent (position + sequence) size)) in
      Steps Loose call v (block_download_stage data_sent (position + sequence) size) held newest (says call stamp (messages_by call v) (comes got (response_turn t (BlockDownloadAcknowledge sequence size) frame))))
  next_block got held position sent sequence size false h a e b =
      gives_up Loose call stamp _ held newest invalid_block_size (comes got (response_turn t (BlockDownloadAcknowledge sequence size) frame))
      (late_turn call (stamp count) Server heard t got [] count (response_turn t (BlockDownloadAcknowledge sequence size) frame) (late_response t (BlockDownloadAcknowledge sequence size) frame (ap confirmed_with h.stage) (rw h.stage refl)))
  next_block got held position sent sequence size true h a e b =
      let p = h.pending in
      let m = h.most in
      let number : awaited_number t ≡ sent + 1 = omega (arith, p) in
      let came : nat_lt sequence (awaited_number t) ≡ true = grind (arith, nat_tests) in
      let few : sequence ≤ sent = grind (arith, nat_tests) in
      let under : position + sequence < segment_count data_sent = below (position + sequence) (segment_count data_sent) e (omega arith) in
      let left : (position + sent == segment_count data_sent) && (sequence + 1 == awaited_number t) ≡ false = not_all position sent sequence (segment_count data_sent) (awaited_number t) number e in
      let turn = takes_pending (explains_next t size) (7 * sequence) in
      let is : response_turn t (BlockDownloadAcknowledge sequence size) frame ≡ turn = rw (h.is.is.direction, h.stage, came, left) refl in
      let u = with_frame Part (after t turn) (stamp count) Server in
      let taken = got ++ take (7 * sequence) t.pending.items in
      let before : taken ≡ take (7 * (position + sequence)) data_sent = data_taken got t.pending.items data_sent position sent sequence h.before h.joined h.first few under in
      let more_so : (position + sequence + 0 == segment_count data_sent) ≡ false = grind (arith, nat_tests) in
      let zero_more : position + sequence ≡ position + sequence + 0 = omega arith in
      let v = GoesOn (sub_block_sent data_sent (position + sequence) size) in
      subst (λ x. Steps Loose call v (block_download_stage data_sent (position + sequence) size) held newest (says call stamp (messages_by call v) (comes got x))) (sym is)
      (sub_block_says Loose call stamp heard taken (position + sequence) u (suc count) (block_download_stage data_sent (position + sequence) size) held newest (record {
        is = record {
          is = record { direction = h.is.is.direction; job = h.is.is.job; key = h.is.is.key; track = h.is.is.track };
          protocol = h.is.protocol;
          size = h.is.size;
          crc = h.is.crc;
        };
        stage = ap (λ b. SubBlock b) (sym more_so);
        number = refl;
        pending = refl;
        before = before;
        joined = append-nil taken ∙ before ∙ ap (λ n. take (7 * n) data_sent) zero_more ∙ sym (rw more_so refl);
        first = under;
        most = omega (arith, under);
      }) b (rw e refl))

  -- ---- any answer

  pub block_begun_answer : (held : List ℕ) (r : Option SdoResponse) → IsBlockBegun Loose call t → Made Loose call job stamp frame heard t count newest Begun held [] r
  block_begun_answer held None h = no_response Loose call job stamp frame heard t count newest Begun held []
  block_begun_answer held (Some (Refuse key code)) h = an_abort Loose call job stamp frame heard t count newest Begun held [] key code.0
  block_begun_answer held (Some (BlockDownloadInitiated key size)) h =
      rw h.transfer (first_sub_block key size [] (same_key key call.key) (nat_le 1 size && nat_le size 127) h refl refl)
  block_begun_answer held (Some (DownloadDone key)) h =
      rw h.transfer (gives_up Loose call stamp _ _ newest 0x05040001 (comes [] (response_turn t (DownloadDone key) frame))
      (late_turn call (stamp count) Server heard t [] [] count (response_turn t (DownloadDone key) frame) (late_answering t key _ (ap confirmed_with h.stage) (rw (h.is.is.direction, h.is.protocol) (inl refl)))))
  block_begun_answer held (Some (UploadExpedited key value)) h =
      rw h.transfer (gives_up Loose call stamp _ _ newest 0x05040001 (comes [] (response_turn t (UploadExpedited key value) frame))
      (late_turn call (stamp count) Server heard t [] [] count (response_turn t (UploadExpedited key value) frame) (late_answering t key _ (ap confirmed_with h.stage) (rw h.is.is.direction (inl refl)))))
  block_begun_answer held (Some response) h =
      rw h.transfer (gives_up Loose call stamp _ _ newest 0x05040001 (comes [] (response_turn t response frame))
      (late_turn call (stamp count) Server heard t [] [] count (response_turn t response frame) (late_response t response frame (ap confirmed_with h.stage) (rw h.stage refl))))

  -- an acknowledge
  acknowledge : (got held : List ℕ) (position sent sequence size : ℕ) (above : Bool) → IsBlockSent Loose call t got position sent → nat_lt sent sequence ≡ above
      → (let v = unless_fault ((above, invalid_sequence_number) ∷ []) (next_sub_block data_sent (position + sequence) size) in
      Steps Loose call v (block_download_stage data_sent (position + sequence) size) held newest (says call stamp (messages_by call v) (comes got (response_turn t (BlockDownloadAcknowledge sequence size) frame))))
  acknowledge got held position sent sequence size true h a =
      gives_up Loose call stamp _ held newest invalid_sequence_number (comes got (response_turn t (BlockDownloadAcknowledge sequence size) frame))
      (late_turn call (stamp count) Server heard t got [] count (response_turn t (BlockDownloadAcknowledge sequence size) frame) (late_response t (BlockDownloadAcknowledge sequence size) frame (ap confirmed_with h.stage) (rw h.stage refl)))
  acknowledge got held position sent sequence size false h a = by (position + sequence == segment_count data_sent) refl
    where
      by : (all : Bool) → (position + sequence == segment_count data_sent) ≡ all
          → (let v = if all then GoesOn (block_download_end data_sent) else unless_fault (bad_block_size size ∷ []) (GoesOn (sub_block_sent data_sent (position + sequence) size)) in
          Steps Loose call v (if all then EndAsked else SendingBlock (position + sequence) (sub_block_length data_sent (position + sequence) size)) held newest
          (says call stamp (messages_by call v) (comes got (response_turn t (BlockDownloadAcknowledge sequence size) frame))))
      by true e = all_acknowledged got held position sent sequence size h a e
      by false e =
          let stage : block_download_stage data_sent (position + sequence) size ≡ SendingBlock (position + sequence) (sub_block_length data_sent (position + sequence) size) = rw e refl in
          let v = unless_fault (bad_block_size size ∷ []) (GoesOn (sub_block_sent data_sent (position + sequence) size)) in
          subst (λ s. Steps Loose call v s held newest (says call stamp (messages_by call v) (comes got (response_turn t (BlockDownloadAcknowledge sequence size) frame)))) stage
          (next_block got held position sent sequence size (nat_le 1 size && nat_le size 127) h a e refl)

  pub block_sent_answer : (position sent : ℕ) (held got : List ℕ) (r : Option SdoResponse) → IsBlockSent Loose call t got position sent → Made Loose call job stamp frame heard t count newest (SendingBlock position sent) held got r
  block_sent_answer position sent held got None h = no_response Loose call job stamp frame heard t count newest (SendingBlock position sent) held got
  block_sent_answer position sent held got (Some (Refuse key code)) h = an_abort Loose call job stamp frame heard t count newest (SendingBlock position sent) held got key code.0
  block_sent_answer position sent held got (Some (BlockDownloadAcknowledge sequence size)) h = acknowledge got held position sent sequence size (nat_lt sent sequence) h refl
  block_sent_answer position sent held got (Some response) h =
      gives_up Loose call stamp _ _ newest 0x05040001 (comes got (response_turn t response frame))
      (late_turn call (stamp count) Server heard t got [] count (response_turn t response frame) (late_response t response frame (ap confirmed_with h.stage) (rw h.stage refl)))

  pub block_ended_answer : (crc : ℕ) (held got : List ℕ) (r : Option SdoResponse) → IsBlockEnded Loose call t crc → got ≡ data_sent → t.taken ≡ digest_of got → Made Loose call job stamp frame heard t count newest EndAsked held got r
  block_ended_answer crc held got None h g kept = no_response Loose call job stamp frame heard t count newest EndAsked held got
  block_ended_answer crc held got (Some (Refuse key code)) h g kept = an_abort Loose call job stamp frame heard t count newest EndAsked held got key code.0
  block_ended_answer crc held got (Some BlockDownloadDone) h g kept =
      let turn = part (record t { stage = Confirmed (if t.crc then Some crc else None) }) in
      let is : response_turn t BlockDownloadDone frame ≡ turn = rw (h.is.is.direction, h.is.protocol, h.stage) refl in
      let count_is : t.taken.count ≡ counted (length data_sent) = ap (λ (d : Digest). d.count) kept ∙ ap (λ (xs : List ℕ). counted (length xs)) g in
      let fault = size_right t.size t.taken.count (length data_sent) (rw h.is.size (sent_size call.job)) count_is (few_sent call.job job) in
      let c = completes Loose call (stamp count) Server heard t got count turn [] (rw h.is.crc refl) h.is.is.track fault (h.is.is.direction ∙ sym h.is.is.job) h.is.is.key (g ∙ sym (sent_bytes call.job [] h.is.is.job)) (never_refused call.mode call.job t.protocol _ h.is.is.job) in
      subst (λ x. Steps Loose call (Ends [] []) EndAsked held newest (comes got x)) (sym is)
      (is_over Loose call stamp EndAsked held newest [] [] (comes got turn) c.none c.reads)
  block_ended_answer crc held got (Some response) h g kept =
      gives_up Loose call stamp _ _ newest 0x05040001 (comes got (response_turn t response frame))
      (late_turn call (stamp count) Server heard t got [] count (response_turn t response frame) (late_response t response frame (ap confirmed_with h.stage) (rw h.stage refl)))
