-- A frame of the client that begins nothing, and the device's answers to it, in a block upload in which explain is as far as the device:
-- nothing is found of them, and both are as far then.
use Rattle.std.proofs.Common.{◌≡◌, ℕ, ◌+◌, ◌<◌, ◌≤◌, Bool, true, false, not, List, [], Option, Some, None, refl, sym, ap, ◌∙◌, ◌⊎◌, inl, inr, subst, arith}
use Rattle.std.specs.Prelude.{if◌then◌else◌, IfSome, nat_lt, ◌==◌}
use Rattle.std.proofs.lemmas.Bool.{false≢true}
use Rattle.co_value.specs.declared.key.Key.{Key}
use Rattle.co_frame_aborts.specs.AbortCodes.{invalid_sequence_number, unknown_command}
use Rattle.co_frame.specs.FrameContent.{FrameContent}
use Rattle.co_frame.specs.declared.sdo_request.SdoRequest.{SdoRequest}
use Rattle.co_frame.specs.declared.sdo_request.SdoRequest.TheVariants.{DownloadSegment, UploadSegment as NextSegment, Abort as Abandon, BlockUploadEnd as UploadEnd, BlockUploadAcknowledge, BlockUploadStart, BlockDownloadEnd}
use Rattle.co_dict.specs.Rows.{Contents}
use Rattle.co_dict.specs.Stores.{Description}
use Rattle.co_dict.specs.Refusals.{refused_if}
use Rattle.co_sdo.specs.declared.stage.Stage.TheVariants.{BlockUploadInitiated as Begun, BlockUpload, BlockUploadEnded}
use Rattle.co_sdo.specs.Completed.{unless}
use Rattle.co_sdo.specs.Log.{Answer, Log}
use Rattle.co_sdo.specs.Opened.{OpenTransfer, opened_after}
use Rattle.co_sdo.specs.OpenTransfers.{is_initiate as initiates}
use Rattle.co_sdo.specs.Replies.{aborted, block_size_refusal, request_answers, unless_refused}
use Rattle.co_sdo.specs.Steps.{after_acknowledge, opened_at}
use Rattle.co_sdo.specs.Uploads.{block_upload_end, segment_count, sub_block_length, sub_block_sent}
use Rattle.conode_explain_transfers.specs.declared.kinds.Side.TheVariants.{Client}
use Rattle.conode_explain_transfers.specs.declared.stage.Stage.TheVariants.{BlockEnded, Initiated}
use Rattle.conode_explain_transfers.specs.declared.transfer.Transfer.{Transfer}
use Rattle.conode_explain_transfers.specs.BlockTurns.{end_confirmed, end_confirmed_at}
use Rattle.conode_explain_transfers.specs.Followed.{Followed, Following, turns_at}
use Rattle.conode_explain_transfers.specs.Stages.{confirmed_with}
use Rattle.conode_explain_transfers.specs.Transfers.{Turn, after, is_download, unexpected}
use Rattle.conode_explain_laws.proofs.Readings.{Begin, Reading, follows_by, request_reading}
use Rattle.conode_explain_laws.proofs.UploadStanding.{block_size_small}
use Rattle.conode_explain_laws.proofs.Views.{is_begin}
use Rattle.conode_compare_laws.proofs.AnswerFollowed.{no_begin}
use Rattle.conode_compare_laws.proofs.AnswerToggles.{is_kept}
use Rattle.conode_compare_laws.proofs.AnswerTurns.{in_blocks}
use Rattle.conode_compare_laws.proofs.UploadAnswers.{AllFine, InSubBlock, IsBegun, IsBlockUp, aborted_fine, end_fine, has, more_fine, own_fine, stray_all, unknown_fine}
use Rattle.conode_compare_laws.proofs.UploadKnown.{InStep, at_end, sub_block}
use Rattle.conode_compare_laws.proofs.UploadRequests.{Follows, Heard, all_heard, first_heard, lasts, later_heard, odd, over, some_heard, start_heard}
use Rattle.conode_compare_laws.proofs.UploadRuns.{Goes}

-- ---- what explain has after the answers

module _ (id micros : ℕ) (log : Log) where
  abbrev After : Following → Type 0
  After g = IfSome g.transfer (InStep log)

  abbrev Answers : List Answer → Following → Type 0
  Answers answers f = AllFine id micros answers f (λ g. IfSome g.transfer (InStep log))

  abbrev Then : List Answer → FrameContent → Followed → Type 0
  Then answers frame f = Goes id micros log answers frame f

  -- of an abort, whatever the frame makes of the transfer
  aborted_then : (t : Transfer) (key : Key) (code : ℕ) (frame : FrameContent) (f : Followed) → Heard t frame f
      → ((u : Transfer) (heard : Bool) → u.key ≡ t.key → IsBlockUp u → Answers (aborted key code) (has heard (Some u))) → Then (aborted key code) frame f
  aborted_then t key code frame f h go = record { fine = h.fine; answered = by h.follows }
    where
      by : Follows t f → (is_kept f.says.what ≡ false) ⊎ Answers (aborted key code) f.next
      by (odd o) = inl o
      by (over none) = inr (subst (λ o. Answers (aborted key code) (has f.next.heard o)) (sym none) (aborted_fine id micros key code f.next.heard None (λ g. IfSome g.transfer (InStep log)) tt (λ x. tt)))
      by (lasts u e is b k) = inr (subst (λ o. Answers (aborted key code) (has f.next.heard o)) (sym e) (go u f.next.heard k is))

  -- of an unknown command
  pub refused_then : (t : Transfer) (key : Key) (frame : FrameContent) (f : Followed) → Heard t frame f → Then (aborted key unknown_command) frame f
  refused_then t key frame f h = aborted_then t key unknown_command frame f h (λ u heard k is. unknown_fine id micros key heard (Some u) (λ g. IfSome g.transfer (InStep log)) (λ x. tt))

  -- of the transfer's entry
  own_then : (t : Transfer) (code : ℕ) (frame : FrameContent) (f : Followed) → Heard t frame f → Then (aborted t.key code) frame f
  own_then t code frame f h = aborted_then t t.key code frame f h (λ u heard k is. own_fine id micros t.key code heard u (λ g. IfSome g.transfer (InStep log)) (subst (λ (x : Key). x.index < 65536) k is.small) (sym k) (λ x. tt))

  -- of none
  silent_then : (frame : FrameContent) (t : Transfer) (f : Followed) → Heard t frame f → f.next.transfer ≡ None → Then [] frame f
  silent_then frame t f h none = record { fine = h.fine; answered = inr (subst (λ o. IfSome o (InStep log)) (sym none) tt) }

  -- of a sub-block
  sub_block_all : (heard : Bool) (u : Transfer) (content : List ℕ) (position size : ℕ) → InSubBlock u content position 0 → size ≤ u.block_size → size < 128
      → opened_after log ≡ opened_at u.key (BlockUpload position (sub_block_length content position size)) content → Answers (sub_block_sent content position size) (has heard (Some u))
  sub_block_all heard u content position size h within small opens =
      let length = sub_block_length content position size in
      let sum : 0 + length ≡ length = omega arith in
      let first = h.first in
      more_fine id micros heard content position length u 0 (λ g. IfSome g.transfer (InStep log)) h (omega (arith, first)) (omega (arith, within)) (omega (arith, small))
      (λ w k e. sub_block content position length (subst (InSubBlock w content position) sum k) (opens ∙ ap (λ key. opened_at key (BlockUpload position (sub_block_length content position size)) content) (sym e)))

  -- ---- what the client's frame makes of it

  module _ (heard : Bool) (t : Transfer) (frame : FrameContent) where
    abbrev Said : Option SdoRequest → Followed
    Said r = follows_by heard (Some t) (request_reading r micros frame.bytes) micros Client frame.bytes

    -- the start
    start_then : (size : ℕ) (content : List ℕ) → IsBegun t size → opened_after log ≡ opened_at t.key (BlockUpload 0 (sub_block_length content 0 size)) content
        → Then (sub_block_sent content 0 size) frame (Said (Some BlockUploadStart))
    start_then size content h opens =
        start_heard heard t micros size frame.bytes content (λ f. Goes id micros log (sub_block_sent content 0 size) frame f) h
        (λ u k bs ke. record {
          fine = tt;
          answered = inr (sub_block_all heard u content 0 size k (omega (arith, bs)) h.few (opens ∙ ap (λ key. opened_at key (BlockUpload 0 (sub_block_length content 0 size)) content) (sym ke)));
        })

    -- an acknowledgement
    module _ (content : List ℕ) (position sent sequence size : ℕ) (h : InSubBlock t content position sent) where
      abbrev Sent : Option ℕ → Bool → Type 0
      Sent refusal all =
          opened_after log ≡ unless refusal (if all then opened_at t.key BlockUploadEnded content else unless (block_size_refusal size) (opened_at t.key (BlockUpload (position + sequence) (sub_block_length content (position + sequence) size)) content))
          → Then (unless_refused refusal t.key (if all then block_upload_end content else unless_refused (block_size_refusal size) t.key (sub_block_sent content (position + sequence) size))) frame
          (Said (Some (BlockUploadAcknowledge sequence size)))

      any_heard : Heard t frame (Said (Some (BlockUploadAcknowledge sequence size)))
      any_heard = later_heard heard t micros frame (Some (BlockUploadAcknowledge sequence size)) h.is (ap in_blocks h.stage) refl

      by_size : (refusal : Option ℕ) → block_size_refusal size ≡ refusal → nat_lt sent sequence ≡ false → (position + sequence == segment_count content) ≡ false
          → opened_after log ≡ unless refusal (opened_at t.key (BlockUpload (position + sequence) (sub_block_length content (position + sequence) size)) content)
          → Then (unless_refused refusal t.key (sub_block_sent content (position + sequence) size)) frame (Said (Some (BlockUploadAcknowledge sequence size)))
      by_size (Some code) r few more opens = own_then t code frame (Said (Some (BlockUploadAcknowledge sequence size))) any_heard
      by_size None r few more opens =
          some_heard heard t micros frame.bytes content position sent sequence size h (λ f. Goes id micros log (sub_block_sent content (position + sequence) size) frame f) few more
          (λ u k bs ke. record {
            fine = tt;
            answered = inr (sub_block_all heard u content (position + sequence) size k (omega (arith, bs)) (block_size_small size r)
                (opens ∙ ap (λ key. opened_at key (BlockUpload (position + sequence) (sub_block_length content (position + sequence) size)) content) (sym ke)));
          })

      by_all : (all : Bool) → nat_lt sent sequence ≡ false → (position + sequence == segment_count content) ≡ all → Sent None all
      by_all false few more opens = by_size (block_size_refusal size) refl few more opens
      by_all true few whole opens =
          all_heard heard t micros frame.bytes content position sent sequence size h (λ f. Goes id micros log (block_upload_end content) frame f) few whole
          (λ u is stage ke. record {
            fine = tt;
            answered = inr (end_fine id micros heard u content (λ g. IfSome g.transfer (InStep log)) is stage
                (λ w crc wis st we. at_end content crc wis st (opens ∙ ap (λ key. opened_at key BlockUploadEnded content) (sym (we ∙ ke)))));
          })

      pub acknowledge_then : (above : Bool) → nat_lt sent sequence ≡ above → Sent (refused_if above invalid_sequence_number) (position + sequence == segment_count content)
      acknowledge_then true e opens = own_then t invalid_sequence_number frame (Said (Some (BlockUploadAcknowledge sequence size))) any_heard
      acknowledge_then false e opens = by_all (position + sequence == segment_count content) e refl opens

    -- the client's end
    ended_over : (crc : ℕ) → IsBlockUp t → t.stage ≡ BlockEnded crc → (Said (Some UploadEnd)).next.transfer ≡ None
    ended_over crc is e =
        ap (λ (x : Turn). (turns_at (confirmed_with x.transfer.stage) heard x.what (after t x) micros Client).next.transfer)
        (ap (λ x. end_confirmed (not (is_download x)) t) is.direction
        ∙ ap (λ b. if b then end_confirmed_at t.stage t else unexpected t) is.protocol
        ∙ ap (λ stage. end_confirmed_at stage t) e)

-- ---- by what both have

module _ (id micros : ℕ) (log : Log) (d : Description) (contents : Contents) (heard : Bool) (t : Transfer) (frame : FrameContent) where
  abbrev Ends : Option OpenTransfer → Option SdoRequest → Type 0
  Ends current r = Goes id micros log (request_answers d contents current r) frame (follows_by heard (Some t) (request_reading r micros frame.bytes) micros Client frame.bytes)

  abbrev HeardOf : Option SdoRequest → Type 0
  HeardOf r = Heard t frame (follows_by heard (Some t) (request_reading r micros frame.bytes) micros Client frame.bytes)

  refuses : (r : Option SdoRequest) (key : Key) → HeardOf r → Goes id micros log (aborted key unknown_command) frame (follows_by heard (Some t) (request_reading r micros frame.bytes) micros Client frame.bytes)
  refuses r key h = refused_then id micros log t key frame _ h

  -- before the start
  pub begun_ends : (size : ℕ) (content : List ℕ) (r : Option SdoRequest) → IsBegun t size → initiates r ≡ false
      → (r ≡ Some BlockUploadStart → opened_after log ≡ opened_at t.key (BlockUpload 0 (sub_block_length content 0 size)) content)
      → Ends (Some (record { key = t.key; stage = Begun size; bytes = content })) r
  begun_ends size content None h n next = refuses None t.key (later_heard heard t micros frame None h.is (ap in_blocks h.stage) n)
  begun_ends size content (Some (Abandon key code)) h n next = silent_then id micros log frame t _ (later_heard heard t micros frame (Some (Abandon key code)) h.is (ap in_blocks h.stage) n) refl
  begun_ends size content (Some (DownloadSegment toggle items last)) h n next =
      refuses (Some (DownloadSegment toggle items last)) t.key (later_heard heard t micros frame (Some (DownloadSegment toggle items last)) h.is (ap in_blocks h.stage) n)
  begun_ends size content (Some (NextSegment toggle)) h n next = refuses (Some (NextSegment toggle)) t.key (later_heard heard t micros frame (Some (NextSegment toggle)) h.is (ap in_blocks h.stage) n)
  begun_ends size content (Some UploadEnd) h n next = refuses (Some UploadEnd) t.key (later_heard heard t micros frame (Some UploadEnd) h.is (ap in_blocks h.stage) n)
  begun_ends size content (Some (BlockUploadAcknowledge sequence count)) h n next =
      refuses (Some (BlockUploadAcknowledge sequence count)) t.key (later_heard heard t micros frame (Some (BlockUploadAcknowledge sequence count)) h.is (ap in_blocks h.stage) n)
  begun_ends size content (Some BlockUploadStart) h n next = start_then id micros log heard t frame size content h (next refl)
  begun_ends size content (Some (BlockDownloadEnd unused)) h n next = refuses (Some (BlockDownloadEnd unused)) t.key (later_heard heard t micros frame (Some (BlockDownloadEnd unused)) h.is (ap in_blocks h.stage) n)
  begun_ends size content (Some _) h n next = absurd (false≢true (sym n))

  -- after a sub-block
  pub sub_block_ends : (content : List ℕ) (position sent : ℕ) (r : Option SdoRequest) → InSubBlock t content position sent → initiates r ≡ false
      → ((sequence size : ℕ) → r ≡ Some (BlockUploadAcknowledge sequence size)
      → opened_after log ≡ after_acknowledge (record { key = t.key; stage = BlockUpload position sent; bytes = content }) (BlockUpload position sent) sequence size)
      → Ends (Some (record { key = t.key; stage = BlockUpload position sent; bytes = content })) r
  sub_block_ends content position sent None h n next = refuses None t.key (later_heard heard t micros frame None h.is (ap in_blocks h.stage) n)
  sub_block_ends content position sent (Some (Abandon key code)) h n next =
      silent_then id micros log frame t _ (later_heard heard t micros frame (Some (Abandon key code)) h.is (ap in_blocks h.stage) n) refl
  sub_block_ends content position sent (Some (DownloadSegment toggle items last)) h n next =
      refuses (Some (DownloadSegment toggle items last)) t.key (later_heard heard t micros frame (Some (DownloadSegment toggle items last)) h.is (ap in_blocks h.stage) n)
  sub_block_ends content position sent (Some (NextSegment toggle)) h n next = refuses (Some (NextSegment toggle)) t.key (later_heard heard t micros frame (Some (NextSegment toggle)) h.is (ap in_blocks h.stage) n)
  sub_block_ends content position sent (Some UploadEnd) h n next = refuses (Some UploadEnd) t.key (later_heard heard t micros frame (Some UploadEnd) h.is (ap in_blocks h.stage) n)
  sub_block_ends content position sent (Some (BlockUploadAcknowledge sequence size)) h n next =
      acknowledge_then id micros log heard t frame content position sent sequence size h (nat_lt sent sequence) refl (next sequence size refl)
  sub_block_ends content position sent (Some BlockUploadStart) h n next = refuses (Some BlockUploadStart) t.key (later_heard heard t micros frame (Some BlockUploadStart) h.is (ap in_blocks h.stage) n)
  sub_block_ends content position sent (Some (BlockDownloadEnd unused)) h n next =
      refuses (Some (BlockDownloadEnd unused)) t.key (later_heard heard t micros frame (Some (BlockDownloadEnd unused)) h.is (ap in_blocks h.stage) n)
  sub_block_ends content position sent (Some _) h n next = absurd (false≢true (sym n))

  -- after the device's end
  pub end_ends : (content : List ℕ) (crc : ℕ) (r : Option SdoRequest) → IsBlockUp t → t.stage ≡ BlockEnded crc → initiates r ≡ false → Ends (Some (record { key = t.key; stage = BlockUploadEnded; bytes = content })) r
  end_ends content crc None is e n = refuses None t.key (later_heard heard t micros frame None is (ap in_blocks e) n)
  end_ends content crc (Some (Abandon key code)) is e n = silent_then id micros log frame t _ (later_heard heard t micros frame (Some (Abandon key code)) is (ap in_blocks e) n) refl
  end_ends content crc (Some (DownloadSegment toggle items last)) is e n =
      refuses (Some (DownloadSegment toggle items last)) t.key (later_heard heard t micros frame (Some (DownloadSegment toggle items last)) is (ap in_blocks e) n)
  end_ends content crc (Some (NextSegment toggle)) is e n = refuses (Some (NextSegment toggle)) t.key (later_heard heard t micros frame (Some (NextSegment toggle)) is (ap in_blocks e) n)
  end_ends content crc (Some UploadEnd) is e n = silent_then id micros log frame t _ (later_heard heard t micros frame (Some UploadEnd) is (ap in_blocks e) n) (ended_over id micros log heard t frame crc is e)
  end_ends content crc (Some (BlockUploadAcknowledge sequence size)) is e n =
      refuses (Some (BlockUploadAcknowledge sequence size)) t.key (later_heard heard t micros frame (Some (BlockUploadAcknowledge sequence size)) is (ap in_blocks e) n)
  end_ends content crc (Some BlockUploadStart) is e n = refuses (Some BlockUploadStart) t.key (later_heard heard t micros frame (Some BlockUploadStart) is (ap in_blocks e) n)
  end_ends content crc (Some (BlockDownloadEnd unused)) is e n = refuses (Some (BlockDownloadEnd unused)) t.key (later_heard heard t micros frame (Some (BlockDownloadEnd unused)) is (ap in_blocks e) n)
  end_ends content crc (Some _) is e n = absurd (false≢true (sym n))

  -- where the device has nothing open
  none_open : (r : Option SdoRequest) → initiates r ≡ false → HeardOf r → Ends None r
  none_open None n h = refuses None (record { index = 0; sub = 0 }) h
  none_open (Some (Abandon key code)) n h = silent_then id micros log frame t _ h refl
  none_open (Some (DownloadSegment toggle items last)) n h = refuses (Some (DownloadSegment toggle items last)) (record { index = 0; sub = 0 }) h
  none_open (Some (NextSegment toggle)) n h = refuses (Some (NextSegment toggle)) (record { index = 0; sub = 0 }) h
  none_open (Some UploadEnd) n h = refuses (Some UploadEnd) (record { index = 0; sub = 0 }) h
  none_open (Some (BlockUploadAcknowledge sequence size)) n h = refuses (Some (BlockUploadAcknowledge sequence size)) (record { index = 0; sub = 0 }) h
  none_open (Some BlockUploadStart) n h = refuses (Some BlockUploadStart) (record { index = 0; sub = 0 }) h
  none_open (Some (BlockDownloadEnd unused)) n h = refuses (Some (BlockDownloadEnd unused)) (record { index = 0; sub = 0 }) h
  none_open (Some _) n h = absurd (false≢true (sym n))

  pub dropped_ends : (r : Option SdoRequest) → IsBlockUp t → in_blocks t.stage ≡ true → initiates r ≡ false → Ends None r
  dropped_ends r is b n = none_open r n (later_heard heard t micros frame r is b n)

  pub unanswered_ends : (r : Option SdoRequest) → t.stage ≡ Initiated → initiates r ≡ false → Ends None r
  unanswered_ends r e n = none_open r n (first_heard heard t micros frame e r n)

-- where explain has none open
pub stray_ends : (id micros : ℕ) (log : Log) (answers : List Answer) (heard : Bool) (frame : FrameContent) (r : Option SdoRequest) → initiates r ≡ false
    → Goes id micros log answers frame (follows_by heard None (request_reading r micros frame.bytes) micros Client frame.bytes)
stray_ends id micros log answers heard frame r n = by (request_reading r micros frame.bytes) (no_begin r micros frame.bytes n)
  where
    by : (reading : Reading) → is_begin reading ≡ false → Goes id micros log answers frame (follows_by heard None reading micros Client frame.bytes)
    by (Begin new) off = absurd (false≢true (sym off))
    by _ off = record { fine = tt; answered = inr (stray_all id micros answers heard (λ g. IfSome g.transfer (InStep log)) (λ h. tt)) }
