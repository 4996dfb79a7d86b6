-- One request of an upload with its answers: after it explain's upload follows the channel's transfer as before (`Follows`).
use Rattle.std.proofs.Common.{◌≡◌, ℕ, suc, ◌+◌, ◌*◌, ◌-◌, ◌/◌, ◌<◌, ◌≤◌, Bool, true, false, not, List, [], ◌∷◌, ◌++◌, length, take, Option, Some, None, refl, sym, ap, ◌∙◌, ◌⊎◌, inl, inr, subst, arith, append-nil}
use Rattle.std.specs.Prelude.{if◌then◌else◌, IfSome, nat_lt, ◌==◌, ◌&&◌}
use Rattle.std.proofs.lemmas.Bool.{eqb-true, false≢true}
use Rattle.std.proofs.lemmas.Bool.Decides.{nat_tests}
use Rattle.co_value.specs.Numbers.{AreBytes}
use Rattle.co_frame.specs.Segments.{is_odd}
use Rattle.co_frame.specs.SdoRequests.{request_in}
use Rattle.co_frame.specs.SdoResponses.{response_in, response_bytes}
use Rattle.co_frame.specs.declared.sdo_request.SdoRequest.{SdoRequest}
use Rattle.co_frame.specs.declared.sdo_request.SdoRequest.TheVariants.{DownloadExpedited, DownloadInitiate, Upload as UploadInitiate, UploadSegment as NextSegment, Abort as Abandon, BlockUploadInitiate, BlockUploadStart, BlockUploadAcknowledge, BlockUploadEnd as UploadEnd, BlockDownloadInitiate}
use Rattle.co_frame.specs.declared.sdo_response.SdoResponse.TheVariants.{UploadSegment, BlockUploadEnd as EndSent}
use Rattle.co_dict.specs.Rows.{Contents}
use Rattle.co_dict.specs.Stores.{Description, IsDictionary}
use Rattle.co_dict.specs.Refusals.{refused_if}
use Rattle.co_sdo.specs.declared.stage.Stage.{Stage}
use Rattle.co_sdo.specs.declared.stage.Stage.TheVariants.{Download as Receiving, Upload as Uploading, BlockUploadInitiated as Begun, BlockUpload, BlockUploadEnded}
use Rattle.co_sdo.specs.Log.{Response as Replied}
use Rattle.co_sdo.specs.Uploads.{part_after, is_last_after, segment_count, sub_block_length, sub_block_sent, block_upload_end}
use Rattle.co_sdo.specs.Opened.{OpenTransfer}
use Rattle.co_sdo.specs.Replies.{unless_refused, block_size_refusal, request_answers, is_in_sub_block, is_sub_block, answers_to}
use Rattle.co_sdo.specs.Completed.{unless}
use Rattle.co_sdo.specs.Steps.{opened_at, after_request, opened_next}
use Rattle.co_sdo.specs.OpenTransfers.{is_initiate}
use Rattle.co_sdo.proofs.Continuations.{not_odd}
use Rattle.co_sdo_laws.proofs.Frames.{segment_sent_read, upload_end_read}
use Rattle.co_sdo_laws.proofs.Segments.{joined, taken_all, part_small}
use Rattle.conode_explain_transfers.specs.declared.digest.Digest.{Digest}
use Rattle.conode_explain_transfers.specs.declared.kinds.Direction.{Direction}
use Rattle.conode_explain_transfers.specs.declared.kinds.Direction.TheVariants.{Upload}
use Rattle.conode_explain_transfers.specs.declared.kinds.Side.TheVariants.{Client, Server}
use Rattle.conode_explain_transfers.specs.declared.kinds.What.TheVariants.{Part}
use Rattle.conode_explain_transfers.specs.declared.stage.Stage.TheVariants.{Initiated, UploadTaken, UploadAsked, BlockInitiated, SubBlock, AllAcknowledged, BlockEnded, Confirmed}
use Rattle.conode_explain_transfers.specs.declared.transfer.Transfer.{Transfer}
use Rattle.conode_explain_transfers.specs.BlockTurns.{acknowledged, acknowledged_at, acknowledged_in, next_sub_block as after_sub_block, block_ended, block_ended_at, crc_in, end_confirmed, end_confirmed_at}
use Rattle.conode_explain_transfers.specs.Digests.{counted, digest_of}
use Rattle.conode_explain_transfers.specs.Endings.{size_fault, verdict}
use Rattle.conode_explain_transfers.specs.Followed.{with_frame}
use Rattle.conode_explain_transfers.specs.Readings.{may_have_segment, is_sender}
use Rattle.conode_explain_transfers.specs.Stages.{confirmed_with}
use Rattle.conode_explain_transfers.specs.Transfers.{after, is_download, goes_on as part, takes_pending, unexpected}
use Rattle.conode_explain_transfers.proofs.DataLemmas.{taking}
use Rattle.conode_explain_transfers.specs.Unanswered.{not_followed_by}
use Rattle.conode_explain_laws.specs.Downloads.{Complete, is_block_begin, if_done}
use Rattle.conode_explain_laws.specs.Uploads.{is_upload, Read, ended_by, read_served}
use Rattle.conode_explain_laws.proofs.Readings.{begun_after, Reading, Segment, Begin, Abort, Request, Response, Nothing, request_reading, response_reading, plain_reading, sub_block_reading, reading_of, turn_of}
use Rattle.conode_explain_laws.proofs.Views.{abort_no_write, View, Closes, no_write, is_begin}
use Rattle.conode_explain_laws.proofs.Follows.{begun_by, client_no_response, is_response, request_spoils, segment_spoils}
use Rattle.conode_explain_laws.proofs.Begins.{outside_answers, outside_opens, write_of}
use Rattle.conode_explain_laws.proofs.Exchanges.{same_toggle}
use Rattle.conode_explain_laws.proofs.UploadViews.{holds, read_as, hears, hears_answers, begin_writes, abort_closes, turned, IsAside, KnowsAside, aside_turn, aside_reads, aside_answers}
use Rattle.conode_explain_laws.proofs.UploadSteps.{all_of, answered_by, acknowledged_by, answered_next, acknowledged_next}
use Rattle.conode_explain_laws.proofs.UploadBlocks.{InBlocks, InSubBlock, acknowledged_data, all_data, first_data, more_heard}
use Rattle.conode_explain_laws.proofs.UploadStanding.{InUpload, InBegun, AtEnd, is_ended, IsWaiting, is_segmented, no_upload, NoUpload, FollowsIn, Ends, ends_closed, closed, ends_aside, ends_loose, answered, size_is, regular_done, few, block_size_small, outside_answered, outside_acknowledged, begins, late_reading, quiet, aside, asked, gone, segmented, begun, blocks, at_end}
use Rattle.conode_explain_laws.proofs.NoUploads.{opens_none, begins_nothing, none_ended}

-- ---- uploads in segments

-- explain after the request of one
abbrev asks_next : Transfer → Bool → ℕ → Transfer
asks_next t toggle micros = with_frame Part (after t (part (record t { stage = UploadAsked toggle }))) micros Client

-- and after the last one
abbrev confirmed : Transfer → Bool → ℕ → ℕ → List ℕ → Transfer
confirmed t toggle micros sent bytes =
    after (asks_next t toggle micros) (record { what = Part; transfer = record (asks_next t toggle micros) { stage = Confirmed None; pending = record { items = [] } }; takes = Some (part_after sent bytes) })

asks_segment : (micros : ℕ) (frame : List ℕ) (heard : Bool) (t : Transfer) (got : List ℕ) (done : List Complete) (count : ℕ) (toggle : Bool) → t.stage ≡ UploadTaken toggle
    → read_as micros Client frame (holds heard (Some t) got done count) (Request (NextSegment toggle)) ≡ holds heard (Some (asks_next t toggle micros)) got done (suc count)
asks_segment micros frame heard t got done count toggle e = rw (e, same_toggle toggle) refl

whole_now : (got bytes : List ℕ) (sent : ℕ) → got ≡ take (7 * sent) bytes → got ++ part_after sent bytes ≡ take (7 * suc sent) bytes
whole_now got bytes sent g = ap (λ xs. xs ++ part_after sent bytes) g ∙ joined bytes sent

-- the channel answers with one
segment_comes : (Loose : Type 0) (stamp : ℕ → ℕ) (micros : ℕ) (heard : Bool) (t : Transfer) (got : List ℕ) (done : List Complete) (count sent : ℕ) (bytes : List ℕ) (toggle last : Bool)
    → InUpload t bytes sent → got ≡ take (7 * sent) bytes → t.taken ≡ digest_of got → is_odd sent ≡ toggle → is_last_after sent bytes ≡ last
    → Ends Loose (if last then None else opened_at t.key (Uploading (sent + 1)) bytes) None (if last then Some (record { key = t.key; bytes = bytes }) else None) done done
    (hears_answers stamp (Replied (UploadSegment toggle (record { items = part_after sent bytes }) last) ∷ []) (holds heard (Some (asks_next t toggle micros)) got done count))
segment_comes Loose stamp micros heard t got done count sent bytes toggle true h g kept o l =
    let response = UploadSegment toggle (record { items = part_after sent bytes }) true in
    answered stamp response (holds heard (Some (asks_next t toggle micros)) got done count) (Response response) (Ends Loose None None (Some (record { key = t.key; bytes = bytes })) done done)
    (ap response_reading (segment_sent_read toggle (part_after sent bytes) true (part_small sent bytes)))
    (rw (same_toggle toggle) (record { follows = inr (record { none = refl; no_end = refl }); reads = inr written }))
  where
    bytes_are : got ++ part_after sent bytes ≡ bytes
    bytes_are = whole_now got bytes sent g ∙ taken_all bytes sent l

    right : size_fault t.size (confirmed t toggle micros sent bytes).taken.count ≡ None
    right =
        let k = taking t.taken got (Some (part_after sent bytes)) kept in
        size_is t.size (confirmed t toggle micros sent bytes).taken.count bytes h.size (ap (λ (g : Digest). g.count) k ∙ ap (λ xs. counted (length xs)) bytes_are) h.few

    written : (if is_upload t.direction then if_done (verdict (confirmed t toggle micros sent bytes) None) (write_of (suc count) t.key (got ++ part_after sent bytes)) else []) ++ done
        ≡ record { frame = suc count; key = t.key; bytes = bytes } ∷ done
    written =
        ap (λ w. w ++ done) (regular_done (confirmed t toggle micros sent bytes) (write_of (suc count) t.key (got ++ part_after sent bytes)) h.regular right (ap is_upload h.direction))
        ∙ ap (λ xs. write_of (suc count) t.key xs ++ done) bytes_are
segment_comes Loose stamp micros heard t got done count sent bytes toggle false h g kept o l =
    let one : sent + 1 ≡ suc sent = omega arith in
    let response = UploadSegment toggle (record { items = part_after sent bytes }) false in
    answered stamp response (holds heard (Some (asks_next t toggle micros)) got done count) (Response response) (Ends Loose (opened_at t.key (Uploading (sent + 1)) bytes) None None done done)
    (ap response_reading (segment_sent_read toggle (part_after sent bytes) false (part_small sent bytes)))
    (rw (same_toggle toggle) (record {
      follows = segmented (suc sent) bytes (record { direction = h.direction; stage = ap (λ b. UploadTaken b) alternates; regular = h.regular; pending = refl; size = h.size; few = h.few }) (whole_now got bytes sent g)
          (ap (λ n. opened_at t.key (Uploading n) bytes) one) refl;
      reads = inr refl;
    }))
  where
    alternates : not toggle ≡ is_odd (suc sent)
    alternates = ap not (sym o) ∙ sym (not_odd sent)

-- what a request makes of what is open
abbrev Goes : Type 0 → Description → Contents → (ℕ → ℕ) → Option OpenTransfer → Option Read → Option SdoRequest → ℕ → List Complete → View → Type 0
Goes Loose d contents stamp current ended r n done v =
    Ends Loose (after_request d contents current r) (acknowledged_by current r) (answered_by d contents current r) (read_served (ended_by r ended) n ++ done) done (hears_answers stamp (request_answers d contents current r) v)

nothing : NoUpload None None
nothing = record { none = refl; no_end = refl }

module _ (Loose : Type 0) (d : Description) (contents : Contents) (stamp : ℕ → ℕ) (frame : List ℕ) (heard : Bool) (t : Transfer) (got : List ℕ) (done : List Complete) (count : ℕ) where
  abbrev reads : Option SdoRequest → View
  reads r = read_as (stamp count) Client frame (holds heard (Some t) got done count) (request_reading r (stamp count) frame)

  -- the request of a segment, by its toggle
  segment_step : (sent : ℕ) (bytes : List ℕ) (expected toggle : Bool) → InUpload t bytes sent → got ≡ take (7 * sent) bytes → t.taken ≡ digest_of got → is_odd sent ≡ expected
      → Goes Loose d contents stamp (opened_at t.key (Uploading sent) bytes) None (Some (NextSegment toggle)) (suc count) done (reads (Some (NextSegment toggle)))
  segment_step sent bytes true true h g kept o =
      subst (Goes Loose d contents stamp (opened_at t.key (Uploading sent) bytes) None (Some (NextSegment true)) (suc count) done)
      (sym (asks_segment (stamp count) frame heard t got done count true (h.stage ∙ ap (λ b. UploadTaken b) o)))
      (rw o (segment_comes Loose stamp (stamp count) heard t got done (suc count) sent bytes true (is_last_after sent bytes) h g kept o refl))
  segment_step sent bytes false false h g kept o =
      subst (Goes Loose d contents stamp (opened_at t.key (Uploading sent) bytes) None (Some (NextSegment false)) (suc count) done)
      (sym (asks_segment (stamp count) frame heard t got done count false (h.stage ∙ ap (λ b. UploadTaken b) o)))
      (rw o (segment_comes Loose stamp (stamp count) heard t got done (suc count) sent bytes false (is_last_after sent bytes) h g kept o refl))
  segment_step sent bytes true false h g kept o =
      let u : confirmed_with t.stage ≡ None = ap confirmed_with h.stage in
      let late = late_reading t (Some (NextSegment false)) (stamp count) frame (inr refl) in
      rw o (closed Loose None None done done stamp t.key 0x05030000 (reads (Some (NextSegment false))) nothing
      (quiet (stamp count) frame heard t got done count (Request (NextSegment false)) u refl refl late))
  segment_step sent bytes false true h g kept o =
      let u : confirmed_with t.stage ≡ None = ap confirmed_with h.stage in
      let late = late_reading t (Some (NextSegment true)) (stamp count) frame (inr refl) in
      rw o (closed Loose None None done done stamp t.key 0x05030000 (reads (Some (NextSegment true))) nothing
      (quiet (stamp count) frame heard t got done count (Request (NextSegment true)) u refl refl late))

  -- ---- uploads in blocks

  -- the start
  abbrev started : Transfer
  started = with_frame Part (after t (part (record t { stage = SubBlock false }))) (stamp count) Client

  starts : t.stage ≡ BlockInitiated → reads (Some BlockUploadStart) ≡ holds heard (Some started) got done (suc count)
  starts e = rw e refl

  -- a sub-block comes
  sub_block_comes : (u : Transfer) (taken bytes : List ℕ) (position size n : ℕ) → InSubBlock u taken bytes position 0 → size ≤ u.block_size → size < 128
      → Ends Loose (opened_at u.key (BlockUpload position (sub_block_length bytes position size)) bytes) None None done done
      (hears_answers stamp (sub_block_sent bytes position size) (holds heard (Some u) taken done n))
  sub_block_comes u taken bytes position size n h within small =
      let length = sub_block_length bytes position size in
      let sum : 0 + length ≡ length = omega arith in
      let first = h.first in
      more_heard stamp heard taken bytes done position length u n 0 (Ends Loose (opened_at u.key (BlockUpload position length) bytes) None None done done) h (omega (arith, first)) (omega (arith, within)) (omega (arith, small))
      (λ w m k e. record {
        follows = blocks position length bytes (subst (InSubBlock w taken bytes position) sum k) (ap (λ key. opened_at key (BlockUpload position length) bytes) (sym e)) refl;
        reads = inr refl;
      })

  start_step : (block_size : ℕ) (bytes : List ℕ) → InBegun t bytes block_size → got ≡ []
      → Goes Loose d contents stamp (opened_at t.key (Begun block_size) bytes) None (Some BlockUploadStart) (suc count) done (reads (Some BlockUploadStart))
  start_step block_size bytes h g =
      let more : (0 + 0 == segment_count bytes) ≡ false = grind (arith, nat_tests) in
      let size = h.size in
      let none : first_data bytes (0 + 0) ≡ [] = rw more refl in
      subst (Goes Loose d contents stamp (opened_at t.key (Begun block_size) bytes) None (Some BlockUploadStart) (suc count) done) (sym (starts h.stage))
      (sub_block_comes started got bytes 0 block_size (suc count)
      (record {
        is = record { direction = h.is.direction; protocol = h.is.protocol; regular = h.is.regular; crc = h.is.crc; size = h.is.size; few = h.is.few };
        stage = ap (λ b. SubBlock b) (sym more);
        number = h.number;
        pending = ap length h.pending;
        before = g;
        joined = ap (λ xs. xs ++ t.pending.items) g ∙ h.pending ∙ sym none;
        first = omega arith;
        most = omega arith;
      })
      (omega (arith, size)) h.small)

  -- an acknowledgement, by what it makes of explain's transfer
  acknowledge_is : (position sent sequence size : ℕ) (bytes : List ℕ) → InSubBlock t got bytes position sent
      → turn_of t (Request (BlockUploadAcknowledge sequence size)) frame ≡ acknowledged_in (position + sent == segment_count bytes) t sequence size
  acknowledge_is position sent sequence size bytes h =
      ap (λ x. acknowledged (not (is_download x)) t sequence size) h.is.direction ∙ ap (λ stage. acknowledged_at stage t sequence size) h.stage

  -- of all segments
  all_acknowledged : (position sent sequence size : ℕ) (bytes : List ℕ) → InSubBlock t got bytes position sent → nat_lt sent sequence ≡ false → (position + sequence == segment_count bytes) ≡ true
      → (turn_of t (Request (BlockUploadAcknowledge sequence size)) frame ≡ part (record t { stage = AllAcknowledged })) × ((position + sent == segment_count bytes) ≡ true)
  all_acknowledged position sent sequence size bytes h few all =
      let p = h.pending in
      let most = h.most in
      let whole : (position + sent == segment_count bytes) ≡ true = grind (arith, nat_tests) in
      let awaited : length t.pending.items / 7 + 1 ≡ sent + 1 = omega (arith, p) in
      let below : nat_lt sequence (length t.pending.items / 7 + 1) ≡ true = grind (arith, nat_tests) in
      let last : (sequence + 1 == length t.pending.items / 7 + 1) ≡ true = grind (arith, nat_tests) in
      (acknowledge_is position sent sequence size bytes h ∙ ap (λ b. acknowledged_in b t sequence size) whole ∙ rw (below, last) refl, whole)

  -- of some
  some_acknowledged : (position sent sequence size : ℕ) (bytes : List ℕ) → InSubBlock t got bytes position sent → nat_lt sent sequence ≡ false → (position + sequence == segment_count bytes) ≡ false
      → turn_of t (Request (BlockUploadAcknowledge sequence size)) frame ≡ takes_pending (after_sub_block t size) (7 * sequence)
  some_acknowledged position sent sequence size bytes h few more =
      let p = h.pending in
      let awaited : length t.pending.items / 7 + 1 ≡ sent + 1 = omega (arith, p) in
      let below : nat_lt sequence (length t.pending.items / 7 + 1) ≡ true = grind (arith, nat_tests) in
      acknowledge_is position sent sequence size bytes h ∙ rw (below, not_last (position + sent == segment_count bytes) (sequence + 1 == length t.pending.items / 7 + 1) refl refl) refl
    where
      not_last : (a b : Bool) → (position + sent == segment_count bytes) ≡ a → (sequence + 1 == length t.pending.items / 7 + 1) ≡ b → (a && b) ≡ false
      not_last true true x y =
          let p = h.pending in
          let awaited : length t.pending.items / 7 + 1 ≡ sent + 1 = omega (arith, p) in
          let whole : position + sent ≡ segment_count bytes = eqb-true _ _ x in
          let same : sequence + 1 ≡ length t.pending.items / 7 + 1 = eqb-true _ _ y in
          absurd (grind (arith, nat_tests))
      not_last true false x y = refl
      not_last false b x y = refl

  -- the server's end comes
  end_comes : (u : Transfer) (bytes : List ℕ) (position sent n : ℕ) → InBlocks u bytes → u.stage ≡ AllAcknowledged → 7 ≤ length u.pending.items
      → got ++ take (length u.pending.items - (7 * segment_count bytes - length bytes)) u.pending.items ≡ bytes
      → Ends Loose (opened_at u.key BlockUploadEnded bytes) (Some (record { key = u.key; bytes = bytes })) None done done
      (hears_answers stamp (block_upload_end bytes) (holds heard (Some u) got done n))
  end_comes u bytes position sent n is e some all =
      let unused = 7 * segment_count bytes - length bytes in
      let response = EndSent unused in
      let P : View → Type 0 = Ends Loose (opened_at u.key BlockUploadEnded bytes) (Some (record { key = u.key; bytes = bytes })) None done done in
      let crc = crc_in (response_bytes response) in
      let turn : turn_of u (Response response) (response_bytes response) ≡ takes_pending (record u { stage = BlockEnded crc }) (length u.pending.items - unused) =
      ap (λ x. block_ended (not (is_download x)) u unused crc) is.direction ∙ ap (λ stage. block_ended_at stage u unused crc) e in
      let read : reading_of (Some u) Server (stamp n) (response_bytes response) ≡ response_reading (response_in (response_bytes response)) = rw e refl in
      answered stamp response (holds heard (Some u) got done n) (Response response) P (read ∙ ap response_reading (upload_end_read unused (omega arith)))
      (subst (λ x. P (turned (stamp n) Server heard u got done n x)) (sym turn)
      (record {
        follows = at_end crc bytes (record { is = record { direction = is.direction; protocol = is.protocol; regular = is.regular; crc = is.crc; size = is.size; few = is.few }; stage = refl }) all (inr refl) refl;
        reads = inr refl;
      }))

  -- an acknowledgement
  acknowledge_step : (position sent sequence size : ℕ) (bytes : List ℕ) → InSubBlock t got bytes position sent
      → Goes Loose d contents stamp (opened_at t.key (BlockUpload position sent) bytes) None (Some (BlockUploadAcknowledge sequence size)) (suc count) done (reads (Some (BlockUploadAcknowledge sequence size)))
  acknowledge_step position sent sequence size bytes h = by_number (nat_lt sent sequence) refl
    where
      o : OpenTransfer
      o = record { key = t.key; stage = BlockUpload position sent; bytes = bytes }

      v : View
      v = reads (Some (BlockUploadAcknowledge sequence size))

      late : v.done ≡ done
      late =
          quiet (stamp count) frame heard t got done count (Request (BlockUploadAcknowledge sequence size)) (ap confirmed_with h.stage) refl refl
          (late_reading t (Some (BlockUploadAcknowledge sequence size)) (stamp count) frame (inr refl))

      P : Option ℕ → Bool → View → Type 0
      P refusal all w =
          Ends Loose (unless refusal (if all then opened_at t.key BlockUploadEnded bytes else unless (block_size_refusal size) (opened_at t.key (BlockUpload (position + sequence) (sub_block_length bytes (position + sequence) size)) bytes)))
          (unless refusal (if all then all_of o else None)) None done done
          (hears_answers stamp (unless_refused refusal t.key (if all then block_upload_end bytes else unless_refused (block_size_refusal size) t.key (sub_block_sent bytes (position + sequence) size))) w)

      by_size : (refusal : Option ℕ) → block_size_refusal size ≡ refusal → nat_lt sent sequence ≡ false → (position + sequence == segment_count bytes) ≡ false
          → Ends Loose (unless refusal (opened_at t.key (BlockUpload (position + sequence) (sub_block_length bytes (position + sequence) size)) bytes)) None None done done
          (hears_answers stamp (unless_refused refusal t.key (sub_block_sent bytes (position + sequence) size)) v)
      by_size (Some code) r few more = closed Loose None None done done stamp t.key code v nothing late
      by_size None r few more =
          let most = h.most in
          let under : position + sequence < segment_count bytes = grind (arith, nat_tests) in
          let within : sequence ≤ sent = grind (arith, nat_tests) in
          let unfinished : (position + sequence + 0 == segment_count bytes) ≡ false = grind (arith, nat_tests) in
          let taken = got ++ take (7 * sequence) t.pending.items in
          let front : taken ≡ take (7 * (position + sequence)) bytes = acknowledged_data t got bytes position sent sequence h within under in
          let none : first_data bytes (position + sequence + 0) ≡ take (7 * (position + sequence + 0)) bytes = rw unfinished refl in
          let sum : position + sequence ≡ position + sequence + 0 = omega arith in
          let u = with_frame Part (after t (takes_pending (after_sub_block t size) (7 * sequence))) (stamp count) Client in
          subst (λ turn. Ends Loose (opened_at t.key (BlockUpload (position + sequence) (sub_block_length bytes (position + sequence) size)) bytes) None None done done
          (hears_answers stamp (sub_block_sent bytes (position + sequence) size) (turned (stamp count) Client heard t got done count turn)))
          (sym (some_acknowledged position sent sequence size bytes h few more))
          (sub_block_comes u taken bytes (position + sequence) size (suc count)
          (record {
            is = record { direction = h.is.direction; protocol = h.is.protocol; regular = h.is.regular; crc = h.is.crc; size = h.is.size; few = h.is.few };
            stage = ap (λ b. SubBlock b) (sym unfinished);
            number = refl;
            pending = refl;
            before = front;
            joined = append-nil taken ∙ front ∙ ap (λ n. take (7 * n) bytes) sum ∙ sym none;
            first = under;
            most = omega (arith, under);
          })
          (omega arith) (block_size_small size r))

      by_all : (all : Bool) → nat_lt sent sequence ≡ false → (position + sequence == segment_count bytes) ≡ all → P None all v
      by_all false few more = by_size (block_size_refusal size) refl few more
      by_all true few whole =
          let made = all_acknowledged position sent sequence size bytes h few whole in
          let p = h.pending in
          let first = h.first in
          let every : position + sent ≡ segment_count bytes = eqb-true _ _ made.1 in
          let u = with_frame Part (after t (part (record t { stage = AllAcknowledged }))) (stamp count) Client in
          subst (λ turn. P None true (turned (stamp count) Client heard t got done count turn)) (sym made.0)
          (end_comes u bytes position sent (suc count)
          (record { direction = h.is.direction; protocol = h.is.protocol; regular = h.is.regular; crc = h.is.crc; size = h.is.size; few = h.is.few })
          refl (omega (arith, p, first, every)) (all_data t got bytes position sent h made.1))

      by_number : (above : Bool) → nat_lt sent sequence ≡ above → P (refused_if above 0x05040003) (position + sequence == segment_count bytes) v
      by_number true e = closed Loose None None done done stamp t.key 0x05040003 v nothing late
      by_number false e = by_all (position + sequence == segment_count bytes) e refl

  -- the client's end
  end_reads : (crc : ℕ) (bytes : List ℕ) → AtEnd t bytes crc → got ≡ bytes → t.taken ≡ digest_of got
      → Closes (record { frame = suc count; key = t.key; bytes = bytes } ∷ done) (reads (Some UploadEnd))
  end_reads crc bytes h g kept =
      let confirmed_turn : turn_of t (Request UploadEnd) frame ≡ part (record t { stage = Confirmed None }) =
      ap (λ x. end_confirmed (not (is_download x)) t) h.is.direction
      ∙ ap (λ b. if b then end_confirmed_at t.stage t else unexpected t) h.is.protocol
      ∙ ap (λ stage. end_confirmed_at stage t) h.stage
      ∙ ap (λ b. part (record t { stage = Confirmed (if b then Some crc else None) })) h.is.crc in
      let u = after t (part (record t { stage = Confirmed None })) in
      let right : size_fault t.size t.taken.count ≡ None =
      size_is t.size t.taken.count bytes h.is.size (ap (λ (g : Digest). g.count) kept ∙ ap (λ xs. counted (length xs)) g) h.is.few in
      subst (λ turn. Closes (record { frame = suc count; key = t.key; bytes = bytes } ∷ done) (turned (stamp count) Client heard t got done count turn)) (sym confirmed_turn)
      (record {
        none = refl;
        same =
            ap (λ w. w ++ done) (regular_done u (write_of (suc count) t.key got) h.is.regular right (ap is_upload h.is.direction))
            ∙ ap (λ xs. write_of (suc count) t.key xs ++ done) g;
      })

  -- ---- every request

  -- where the channel has dropped the upload
  to_gone : (r : Option SdoRequest) → IsWaiting t → is_begin (request_reading r (stamp count) frame) ≡ false → Goes Loose d contents stamp None None r (suc count) done (reads r)
  to_gone (Some (DownloadExpedited key value)) h n = absurd (false≢true (sym n))
  to_gone (Some (DownloadInitiate key size)) h n = absurd (false≢true (sym n))
  to_gone (Some (UploadInitiate key)) h n = absurd (false≢true (sym n))
  to_gone (Some (BlockUploadInitiate key block_size threshold)) h n = absurd (false≢true (sym n))
  to_gone (Some (BlockDownloadInitiate key size)) h n = absurd (false≢true (sym n))
  to_gone (Some (Abandon key code)) h n = ends_closed Loose _ _ done done _ nothing (abort_closes (stamp count) Client frame heard (Some t) got done count (Abort code) refl)
  to_gone r h n =
      closed Loose _ _ done done stamp (record { index = 0; sub = 0 }) 0x05040001 (reads r) nothing
      (quiet (stamp count) frame heard t got done count (request_reading r (stamp count) frame) h.unconfirmed refl refl (late_reading t r (stamp count) frame (inl h.unended)))

  -- where it sends segments
  to_segments : (sent : ℕ) (bytes : List ℕ) (r : Option SdoRequest) → InUpload t bytes sent → got ≡ take (7 * sent) bytes → t.taken ≡ digest_of got → is_begin (request_reading r (stamp count) frame) ≡ false
      → Goes Loose d contents stamp (opened_at t.key (Uploading sent) bytes) None r (suc count) done (reads r)
  to_segments sent bytes (Some (NextSegment toggle)) h g kept n = segment_step sent bytes (is_odd sent) toggle h g kept refl
  to_segments sent bytes (Some (DownloadExpedited key value)) h g kept n = absurd (false≢true (sym n))
  to_segments sent bytes (Some (DownloadInitiate key size)) h g kept n = absurd (false≢true (sym n))
  to_segments sent bytes (Some (UploadInitiate key)) h g kept n = absurd (false≢true (sym n))
  to_segments sent bytes (Some (BlockUploadInitiate key block_size threshold)) h g kept n = absurd (false≢true (sym n))
  to_segments sent bytes (Some (BlockDownloadInitiate key size)) h g kept n = absurd (false≢true (sym n))
  to_segments sent bytes (Some (Abandon key code)) h g kept n = ends_closed Loose _ _ done done _ nothing (abort_closes (stamp count) Client frame heard (Some t) got done count (Abort code) refl)
  to_segments sent bytes r h g kept n =
      closed Loose _ _ done done stamp t.key 0x05040001 (reads r) nothing
      (quiet (stamp count) frame heard t got done count (request_reading r (stamp count) frame) (ap confirmed_with h.stage) refl refl (late_reading t r (stamp count) frame (inl (ap is_ended h.stage))))

  -- where it awaits the start of an upload in blocks
  to_begun : (block_size : ℕ) (bytes : List ℕ) (r : Option SdoRequest) → InBegun t bytes block_size → got ≡ [] → is_begin (request_reading r (stamp count) frame) ≡ false
      → Goes Loose d contents stamp (opened_at t.key (Begun block_size) bytes) None r (suc count) done (reads r)
  to_begun block_size bytes (Some BlockUploadStart) h g n = start_step block_size bytes h g
  to_begun block_size bytes (Some (DownloadExpedited key value)) h g n = absurd (false≢true (sym n))
  to_begun block_size bytes (Some (DownloadInitiate key size)) h g n = absurd (false≢true (sym n))
  to_begun block_size bytes (Some (UploadInitiate key)) h g n = absurd (false≢true (sym n))
  to_begun block_size bytes (Some (BlockUploadInitiate key size threshold)) h g n = absurd (false≢true (sym n))
  to_begun block_size bytes (Some (BlockDownloadInitiate key size)) h g n = absurd (false≢true (sym n))
  to_begun block_size bytes (Some (Abandon key code)) h g n = ends_closed Loose _ _ done done _ nothing (abort_closes (stamp count) Client frame heard (Some t) got done count (Abort code) refl)
  to_begun block_size bytes r h g n =
      closed Loose _ _ done done stamp t.key 0x05040001 (reads r) nothing
      (quiet (stamp count) frame heard t got done count (request_reading r (stamp count) frame) (ap confirmed_with h.stage) refl refl (late_reading t r (stamp count) frame (inl (ap is_ended h.stage))))

  -- where a sub-block was sent
  to_blocks : (position sent : ℕ) (bytes : List ℕ) (r : Option SdoRequest) → InSubBlock t got bytes position sent → is_begin (request_reading r (stamp count) frame) ≡ false
      → Goes Loose d contents stamp (opened_at t.key (BlockUpload position sent) bytes) None r (suc count) done (reads r)
  to_blocks position sent bytes (Some (BlockUploadAcknowledge sequence size)) h n = acknowledge_step position sent sequence size bytes h
  to_blocks position sent bytes (Some (DownloadExpedited key value)) h n = absurd (false≢true (sym n))
  to_blocks position sent bytes (Some (DownloadInitiate key size)) h n = absurd (false≢true (sym n))
  to_blocks position sent bytes (Some (UploadInitiate key)) h n = absurd (false≢true (sym n))
  to_blocks position sent bytes (Some (BlockUploadInitiate key size threshold)) h n = absurd (false≢true (sym n))
  to_blocks position sent bytes (Some (BlockDownloadInitiate key size)) h n = absurd (false≢true (sym n))
  to_blocks position sent bytes (Some (Abandon key code)) h n = ends_closed Loose _ _ done done _ nothing (abort_closes (stamp count) Client frame heard (Some t) got done count (Abort code) refl)
  to_blocks position sent bytes r h n =
      closed Loose _ _ done done stamp t.key 0x05040001 (reads r) nothing
      (quiet (stamp count) frame heard t got done count (request_reading r (stamp count) frame) (ap confirmed_with h.stage) refl refl (late_reading t r (stamp count) frame (inl (ap is_ended h.stage))))

  -- where it awaits the client's end
  to_end : (crc : ℕ) (bytes : List ℕ) (r : Option SdoRequest) → AtEnd t bytes crc → got ≡ bytes → t.taken ≡ digest_of got → is_begin (request_reading r (stamp count) frame) ≡ false
      → Goes Loose d contents stamp (opened_at t.key BlockUploadEnded bytes) (Some (record { key = t.key; bytes = bytes })) r (suc count) done (reads r)
  to_end crc bytes (Some UploadEnd) h g kept n = ends_closed Loose _ _ _ done _ nothing (end_reads crc bytes h g kept)
  to_end crc bytes (Some (DownloadExpedited key value)) h g kept n = absurd (false≢true (sym n))
  to_end crc bytes (Some (DownloadInitiate key size)) h g kept n = absurd (false≢true (sym n))
  to_end crc bytes (Some (UploadInitiate key)) h g kept n = absurd (false≢true (sym n))
  to_end crc bytes (Some (BlockUploadInitiate key size threshold)) h g kept n = absurd (false≢true (sym n))
  to_end crc bytes (Some (BlockDownloadInitiate key size)) h g kept n = absurd (false≢true (sym n))
  to_end crc bytes (Some (Abandon key code)) h g kept n = ends_closed Loose _ _ done done _ nothing (abort_closes (stamp count) Client frame heard (Some t) got done count (Abort code) refl)
  to_end crc bytes r h g kept n =
      closed Loose _ _ done done stamp t.key 0x05040001 (reads r) nothing
      (quiet (stamp count) frame heard t got done count (request_reading r (stamp count) frame) (ap confirmed_with h.stage) refl refl (late_reading t r (stamp count) frame (inr refl)))

  -- and where it has dropped the upload after its own end
  to_dropped_end : (crc : ℕ) (bytes : List ℕ) (r : Option SdoRequest) → AtEnd t bytes crc → got ≡ bytes → t.taken ≡ digest_of got → is_begin (request_reading r (stamp count) frame) ≡ false
      → Goes Loose d contents stamp None (Some (record { key = t.key; bytes = bytes })) r (suc count) done (reads r)
  to_dropped_end crc bytes (Some UploadEnd) h g kept n =
      closed Loose _ _ _ done stamp (record { index = 0; sub = 0 }) 0x05040001 (reads (Some UploadEnd)) nothing (end_reads crc bytes h g kept).same
  to_dropped_end crc bytes (Some (DownloadExpedited key value)) h g kept n = absurd (false≢true (sym n))
  to_dropped_end crc bytes (Some (DownloadInitiate key size)) h g kept n = absurd (false≢true (sym n))
  to_dropped_end crc bytes (Some (UploadInitiate key)) h g kept n = absurd (false≢true (sym n))
  to_dropped_end crc bytes (Some (BlockUploadInitiate key size threshold)) h g kept n = absurd (false≢true (sym n))
  to_dropped_end crc bytes (Some (BlockDownloadInitiate key size)) h g kept n = absurd (false≢true (sym n))
  to_dropped_end crc bytes (Some (Abandon key code)) h g kept n = ends_closed Loose _ _ done done _ nothing (abort_closes (stamp count) Client frame heard (Some t) got done count (Abort code) refl)
  to_dropped_end crc bytes r h g kept n =
      closed Loose _ _ done done stamp (record { index = 0; sub = 0 }) 0x05040001 (reads r) nothing
      (quiet (stamp count) frame heard t got done count (request_reading r (stamp count) frame) (ap confirmed_with h.stage) refl refl (late_reading t r (stamp count) frame (inr refl)))

-- ---- the channel has no upload open

to_none : (Loose : Type 0) (d : Description) (contents : Contents) (stamp : ℕ → ℕ) (current : Option OpenTransfer) (ended : Option Read) (r : Option SdoRequest) (n : ℕ) (done : List Complete) (v : View)
    → NoUpload current ended → is_initiate r ≡ false → KnowsAside Loose done v → Goes Loose d contents stamp current ended r n done v
to_none Loose d contents stamp current ended r n done v h i k =
    let one = opens_none d contents current r h.none i in
    rw (none_ended r ended h.no_end, one.answers)
    (ends_aside Loose _ _ done done _ (inr (record { none = one.next; no_end = one.acknowledges })) (aside_answers Loose stamp (request_answers d contents current r) done v k))

-- ---- every frame

segmented_outside : (stage : Stage) → is_segmented stage ≡ true → is_sub_block stage ≡ false
segmented_outside (Receiving size toggle) h = refl
segmented_outside _ h = absurd (false≢true h)

no_upload_outside : (current : Option OpenTransfer) → no_upload current ≡ true → is_in_sub_block current ≡ false
no_upload_outside None h = refl
no_upload_outside (Some o) h = segmented_outside o.stage h

-- the channel isn't inside a sub-block of a download, or some uploads may be left out
pub outside_or : (Loose : Type 0) (held : Option Transfer) (got : List ℕ) (current : Option OpenTransfer) (ended : Option Read) → FollowsIn Loose held got current ended → Loose ⊎ (is_in_sub_block current ≡ false)
outside_or Loose None got current ended (inl l) = inl l
outside_or Loose None got current ended (inr h) = inr (no_upload_outside current h.none)
outside_or Loose (Some t) got current ended (aside a (inl l)) = inl l
outside_or Loose (Some t) got current ended (aside a (inr h)) = inr (no_upload_outside current h.none)
outside_or Loose (Some t) got current ended (asked l a) = inl l
outside_or Loose (Some t) got current ended (gone a c e) = inr (ap is_in_sub_block c)
outside_or Loose (Some t) got current ended (segmented sent bytes a g c e) = inr (ap is_in_sub_block c)
outside_or Loose (Some t) got current ended (begun block_size bytes a g c e) = inr (ap is_in_sub_block c)
outside_or Loose (Some t) got current ended (blocks position sent bytes a c e) = inr (ap is_in_sub_block c)
outside_or Loose (Some t) got current ended (at_end crc bytes a g (inl c) e) = inr (ap is_in_sub_block c)
outside_or Loose (Some t) got current ended (at_end crc bytes a g (inr c) e) = inr (ap is_in_sub_block c)

-- the client's frames in an upload are read as requests
upload_plain : (t : Transfer) (micros : ℕ) (frame : List ℕ) → t.direction ≡ Upload → reading_of (Some t) Client micros frame ≡ request_reading (request_in frame) micros frame
upload_plain t micros frame e = by (may_have_segment t.stage t.direction t.protocol) t.direction e
  where
    by : (inside : Bool) (x : Direction) → x ≡ Upload
        → (if (if inside then is_sender x Client else false) then sub_block_reading t.block_size Client micros frame else plain_reading Client micros frame) ≡ request_reading (request_in frame) micros frame
    by true x e = rw e refl
    by false x e = refl

-- before the answer to initiate: any frame of the client but an initiate request ends it, or makes it irregular
asked_reads : (Loose : Type 0) (micros : ℕ) (frame : List ℕ) (heard : Bool) (t : Transfer) (got : List ℕ) (done : List Complete) (count : ℕ) (reading : Reading) → Loose
    → t.stage ≡ Initiated → is_begin reading ≡ false → is_response reading ≡ false → KnowsAside Loose done (read_as micros Client frame (holds heard (Some t) got done count) reading)
asked_reads Loose micros frame heard t got done count (Begin new) l h n m = absurd (false≢true (sym n))
asked_reads Loose micros frame heard t got done count (Response response) l h n m = absurd (false≢true (sym m))
asked_reads Loose micros frame heard t got done count (Abort code) l h n m = record {
  holds = tt;
  same = ap (λ w. w ++ done) (no_write (is_upload t.direction) _ (abort_no_write Client (not_followed_by Client t frame) code _));
}
asked_reads Loose micros frame heard t got done count (Segment segment) l h n m = aside_turn Loose micros Client frame heard t got done count (Segment segment) (inl (l, segment_spoils t segment h))
asked_reads Loose micros frame heard t got done count (Request request) l h n m = aside_turn Loose micros Client frame heard t got done count (Request request) (inl (l, request_spoils t request frame h))
asked_reads Loose micros frame heard t got done count Nothing l h n m = aside_turn Loose micros Client frame heard t got done count Nothing (inl (l, refl))

-- where no upload may be left out, no request begins a download in blocks, and all are read as requests
abbrev pub IsPlain : Type 0 → Option Transfer → ℕ → List ℕ → Type 0
IsPlain Loose held micros frame = Loose ⊎ ((is_block_begin (request_in frame) ≡ false) × (reading_of held Client micros frame ≡ request_reading (request_in frame) micros frame))

-- after a frame of the client with its answers
abbrev pub EndsWith : Type 0 → Description → Contents → (ℕ → ℕ) → List ℕ → Option OpenTransfer → Option Read → List Complete → ℕ → View → Type 0
EndsWith Loose d contents stamp frame current ended done count v =
    Ends Loose (opened_next d contents current frame) (acknowledged_next current frame) (answered_next d contents current frame) (read_served (ended_by (request_in frame) ended) (suc count) ++ done) done
    (hears_answers stamp (answers_to d contents current frame) v)

-- outside a sub-block
outside_goes : (Loose : Type 0) (d : Description) (contents : Contents) (stamp : ℕ → ℕ) (frame : List ℕ) (current : Option OpenTransfer) (ended : Option Read) (done : List Complete) (count : ℕ) (v : View)
    → is_in_sub_block current ≡ false → Goes Loose d contents stamp current ended (request_in frame) (suc count) done v → EndsWith Loose d contents stamp frame current ended done count v
outside_goes Loose d contents stamp frame current ended done count v o h =
    rw (outside_answers d contents current frame o, outside_opens d contents current frame o, outside_answered d contents current frame o, outside_acknowledged current frame o) h

module _ (Loose : Type 0) (d : Description) (contents : Contents) (stamp : ℕ → ℕ) (frame : List ℕ) (ended : Option Read) (heard : Bool) (got : List ℕ) (done : List Complete) (count : ℕ) where
  abbrev After : Option OpenTransfer → Option Transfer → Reading → Type 0
  After current held reading = EndsWith Loose d contents stamp frame current ended done count (read_as (stamp count) Client frame (holds heard held got done count) reading)

  -- an upload that may be left out
  loosely : (current : Option OpenTransfer) (held : Option Transfer) (reading : Reading) → Loose → KnowsAside Loose done (read_as (stamp count) Client frame (holds heard held got done count) reading) → After current held reading
  loosely current held reading l k = ends_loose Loose _ _ _ done _ _ l (aside_answers Loose stamp (answers_to d contents current frame) done _ k)

  -- no upload
  none_open : (current : Option OpenTransfer) (held : Option Transfer) (reading : Reading) → NoUpload current ended → IfSome held (IsAside Loose) → reading ≡ request_reading (request_in frame) (stamp count) frame → is_begin reading ≡ false
      → After current held reading
  none_open current held reading away a is n =
      outside_goes Loose d contents stamp frame current ended done count _ (no_upload_outside current away.none)
      (to_none Loose d contents stamp current ended (request_in frame) (suc count) done _ away (begins_nothing (request_in frame) (stamp count) frame (sym (ap is_begin is) ∙ n))
      (aside_reads Loose (stamp count) Client frame heard held got done count reading a n))

  -- one that is followed, outside a sub-block
  followed : (current : Option OpenTransfer) (t : Transfer) (reading : Reading) → reading_of (Some t) Client (stamp count) frame ≡ reading → is_begin reading ≡ false → t.direction ≡ Upload → is_in_sub_block current ≡ false
      → (is_begin (request_reading (request_in frame) (stamp count) frame) ≡ false
      → Goes Loose d contents stamp current ended (request_in frame) (suc count) done (read_as (stamp count) Client frame (holds heard (Some t) got done count) (request_reading (request_in frame) (stamp count) frame)))
      → After current (Some t) reading
  followed current t reading e n up o go =
      let is : reading ≡ request_reading (request_in frame) (stamp count) frame = sym e ∙ upload_plain t (stamp count) frame up in
      let m : is_begin (request_reading (request_in frame) (stamp count) frame) ≡ false = sym (ap is_begin is) ∙ n in
      subst (After current (Some t)) (sym is)
      (outside_goes Loose d contents stamp frame current ended done count (read_as (stamp count) Client frame (holds heard (Some t) got done count) (request_reading (request_in frame) (stamp count) frame)) o (go m))

  goes_on : (current : Option OpenTransfer) (held : Option Transfer) (reading : Reading) → reading_of held Client (stamp count) frame ≡ reading → is_begin reading ≡ false
      → FollowsIn Loose held got current ended → IfSome held (λ t. t.taken ≡ digest_of got) → IsPlain Loose held (stamp count) frame → After current held reading
  goes_on current None reading e n (inl l) kept plain = loosely current None reading l (aside_reads Loose (stamp count) Client frame heard None got done count reading tt n)
  goes_on current None reading e n (inr away) kept plain = none_open current None reading away tt (sym e) n
  goes_on current (Some t) reading e n (aside a (inl l)) kept plain = loosely current (Some t) reading l (aside_reads Loose (stamp count) Client frame heard (Some t) got done count reading a n)
  goes_on current (Some t) reading e n (aside a (inr away)) kept (inl l) = loosely current (Some t) reading l (aside_reads Loose (stamp count) Client frame heard (Some t) got done count reading a n)
  goes_on current (Some t) reading e n (aside a (inr away)) kept (inr plain) = none_open current (Some t) reading away a (sym e ∙ plain.1) n
  goes_on current (Some t) reading e n (asked l a) kept plain =
      loosely current (Some t) reading l (asked_reads Loose (stamp count) frame heard t got done count reading l a n (sym (ap is_response e) ∙ client_no_response (Some t) (stamp count) frame))
  goes_on current (Some t) reading e n (gone a c x) kept plain =
      followed current t reading e n a.direction (ap is_in_sub_block c) (λ m. rw (c, x) (to_gone Loose d contents stamp frame heard t got done count (request_in frame) a m))
  goes_on current (Some t) reading e n (segmented sent bytes a g c x) kept plain =
      followed current t reading e n a.direction (ap is_in_sub_block c) (λ m. rw (c, x) (to_segments Loose d contents stamp frame heard t got done count sent bytes (request_in frame) a g kept m))
  goes_on current (Some t) reading e n (begun block_size bytes a g c x) kept plain =
      followed current t reading e n a.is.direction (ap is_in_sub_block c) (λ m. rw (c, x) (to_begun Loose d contents stamp frame heard t got done count block_size bytes (request_in frame) a g m))
  goes_on current (Some t) reading e n (blocks position sent bytes a c x) kept plain =
      followed current t reading e n a.is.direction (ap is_in_sub_block c) (λ m. rw (c, x) (to_blocks Loose d contents stamp frame heard t got done count position sent bytes (request_in frame) a m))
  goes_on current (Some t) reading e n (at_end crc bytes a g (inr c) x) kept plain =
      followed current t reading e n a.is.direction (ap is_in_sub_block c) (λ m. rw (c, x) (to_end Loose d contents stamp frame heard t got done count crc bytes (request_in frame) a g kept m))
  goes_on current (Some t) reading e n (at_end crc bytes a g (inl c) x) kept plain =
      followed current t reading e n a.is.direction (ap is_in_sub_block c) (λ m. rw (c, x) (to_dropped_end Loose d contents stamp frame heard t got done count crc bytes (request_in frame) a g kept m))

  by_reading : (current : Option OpenTransfer) (held : Option Transfer) (reading : Reading) → reading_of held Client (stamp count) frame ≡ reading → AreBytes frame → IsDictionary d contents
      → FollowsIn Loose held got current ended → IfSome held (λ t. t.taken ≡ digest_of got) → IsPlain Loose held (stamp count) frame → After current held reading
  by_reading current held (Begin new) e small lawful h kept plain =
      let b = begun_by held (stamp count) frame new e in
      let v = read_as (stamp count) Client frame (holds heard held got done count) (Begin new) in
      let first : Loose ⊎ (is_block_begin (request_in frame) ≡ false) = elim plain [ inl l ↦ inl l | inr p ↦ inr p.0 ] in
      subst (λ before. Ends Loose (opened_next d contents current frame) (acknowledged_next current frame) (answered_next d contents current frame) (read_served (ended_by (request_in frame) ended) (suc count) ++ before) before
      (hears_answers stamp (answers_to d contents current frame) v)) (begin_writes (stamp count) frame heard held got done count new)
      (begins Loose d contents stamp current ended (begun_after held frame new) (stamp count) frame v.done (suc count) (suc count) b small lawful first (outside_or Loose held got current ended h))
  by_reading current held reading e small lawful h kept plain = goes_on current held reading e refl h kept plain

pub exchange : (Loose : Type 0) (d : Description) (contents : Contents) (stamp : ℕ → ℕ) (frame : List ℕ) (current : Option OpenTransfer) (ended : Option Read) (v : View) → AreBytes frame → IsDictionary d contents
    → FollowsIn Loose v.following.transfer v.got current ended → IfSome v.following.transfer (λ t. t.taken ≡ digest_of v.got) → IsPlain Loose v.following.transfer (stamp v.count) frame
    → EndsWith Loose d contents stamp frame current ended v.done v.count (hears stamp Client frame v)
exchange Loose d contents stamp frame current ended v small lawful h kept plain =
    by_reading Loose d contents stamp frame ended v.following.heard v.got v.done v.count current v.following.transfer (reading_of v.following.transfer Client (stamp v.count) frame) refl small lawful h kept plain
