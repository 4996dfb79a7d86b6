-- How explain reads an abort of the server: with the code in its bytes; and no transfer ends aborted by the server otherwise.
use Rattle.std.proofs.Common.{◌≡◌, ℕ, ◌/◌, ◌≤◌, Bool, true, false, List, length, Option, Some, None, refl, sym, ap, ◌∙◌, subst, arith}
use Rattle.std.specs.Prelude.{if◌then◌else◌, ◌==◌, nat_le, slice_index, IfSome}
use Rattle.std.proofs.lemmas.Bool.{and_parts, eqb-true, false≢true}
use Rattle.std.proofs.lemmas.Bool.Decides.{nat_tests}
use Rattle.co_frame.specs.BlockSegments.{block_segment_in, is_abort_in_sub_block}
use Rattle.co_frame.specs.Scs as scs
use Rattle.co_frame.specs.SdoFields.{has_bit, specifier, subcommand}
use Rattle.co_frame.specs.SdoParts.{code_in}
use Rattle.co_frame.specs.SdoResponses.{block_download_in, block_upload_in, response_bytes, response_in, response_row_in, upload_in}
use Rattle.co_frame.specs.Subcommands as subcommands
use Rattle.co_frame_aborts.specs.declared.abort_code.AbortCode.{AbortCode}
use Rattle.co_frame.specs.declared.block_segment.BlockSegment.{BlockSegment}
use Rattle.co_frame.specs.declared.sdo_request.ExpeditedData.TheVariants.{Indicated, NotIndicated}
use Rattle.co_frame.specs.declared.sdo_response.SdoResponse.{SdoResponse}
use Rattle.co_frame.specs.declared.sdo_response.SdoResponse.TheVariants.{Abort as Refuse, BlockDownloadAcknowledge, BlockDownloadDone, BlockDownloadInitiated, BlockUploadEnd as EndSent, BlockUploadInitiated, DownloadDone, DownloadSegmentDone, UploadExpedited, UploadInitiated, UploadSegment}
use Rattle.conode_explain_transfers.specs.declared.ended.Ended.{Ended}
use Rattle.conode_explain_transfers.specs.declared.ended.Ending.{Ending}
use Rattle.conode_explain_transfers.specs.declared.ended.Ending.TheVariants.{Aborted, CrcDiffers, Done, Irregular, NotFollowed, Repeated}
use Rattle.conode_explain_transfers.specs.declared.kinds.Side.{Side}
use Rattle.conode_explain_transfers.specs.declared.kinds.Side.TheVariants.{Client, Server}
use Rattle.conode_explain_transfers.specs.declared.kinds.What.{What}
use Rattle.conode_explain_transfers.specs.declared.transfer.Transfer.{Transfer}
use Rattle.conode_explain_transfers.specs.Endings.{crc_verdict, size_fault, size_verdict}
use Rattle.conode_explain_transfers.specs.Followed.{abort_ending, left_by, turns_at}
use Rattle.conode_explain_transfers.specs.Readings.{awaits_segment}
use Rattle.conode_explain_transfers.specs.Stages.{confirmed_with}
use Rattle.conode_explain_transfers.specs.Transfers.{after, is_same_request}
use Rattle.conode_explain_transfers.specs.Unanswered.{is_lost, not_followed_by, number_of, segment_follows}
use Rattle.conode_explain_laws.proofs.Readings.{Abort, Begin, Nothing, Reading, Request, Response, Segment, beginning, follows_by, plain_reading, reading_of, response_reading, segment_reading, turn_of}

-- ---- the bytes of an abort

-- it has the code in these bytes, which begin as one
abbrev CodeIn : List ℕ → Option SdoResponse → Type 0
CodeIn bytes (Some (Refuse key code)) = (code ≡ code_in bytes) × ((specifier bytes == scs.abort) ≡ true)
CodeIn bytes _ = Unit {0}

module _ (bytes : List ℕ) where
  either_code : (b : Bool) (x y : Option SdoResponse) → (b ≡ true → CodeIn bytes x) → CodeIn bytes y → CodeIn bytes (if b then x else y)
  either_code true x y p q = p refl
  either_code false x y p q = q

  code_upload : CodeIn bytes (Some (upload_in bytes))
  code_upload = by (has_bit 1 bytes) refl
    where
      by : (b : Bool) → has_bit 1 bytes ≡ b → CodeIn bytes (Some (upload_in bytes))
      by true is = rw is tt
      by false is = rw is tt

  code_block_upload : CodeIn bytes (Some (block_upload_in bytes))
  code_block_upload = by (has_bit 0 bytes) refl
    where
      by : (b : Bool) → has_bit 0 bytes ≡ b → CodeIn bytes (Some (block_upload_in bytes))
      by true is = rw is tt
      by false is = rw is tt

  code_block : CodeIn bytes (block_download_in bytes)
  code_block =
      either_code (subcommand bytes == subcommands.initiate) _ _ (λ h. tt)
      (either_code (subcommand bytes == subcommands.end) _ _ (λ h. tt) (either_code (subcommand bytes == subcommands.acknowledge) _ _ (λ h. tt) tt))

  code_row : CodeIn bytes (response_row_in bytes)
  unfolding response_row_in
  code_row =
      either_code (specifier bytes == scs.upload_segment) _ _ (λ h. tt)
      (either_code (specifier bytes == scs.download_segment) _ _ (λ h. tt)
      (either_code (specifier bytes == scs.initiate_upload) _ _ (λ h. code_upload)
      (either_code (specifier bytes == scs.initiate_download) _ _ (λ h. tt)
      (either_code (specifier bytes == scs.abort) _ _ (λ h. (refl, h))
      (either_code (specifier bytes == scs.block_download) _ _ (λ h. code_block)
      (either_code (specifier bytes == scs.block_upload) _ _ (λ h. code_block_upload) tt))))))

  code_response : CodeIn bytes (response_in bytes)
  code_response = by (length bytes == 8)
    where
      by : (b : Bool) → CodeIn bytes (if b then response_row_in bytes else None)
      by true = code_row
      by false = tt

  abbrev pub IsAbort : AbortCode → Type 0
  IsAbort code = (code ≡ code_in bytes) × ((specifier bytes == scs.abort) ≡ true)

  plain_abort : (r : Option SdoResponse) (code : AbortCode) → CodeIn bytes r → response_reading r ≡ Abort code → IsAbort code
  plain_abort None code c h = absurd (let e : Nothing ≡ Abort code = h in cc)
  plain_abort (Some (Refuse key other)) code c h = let same : other ≡ code = cc in subst IsAbort same c
  plain_abort (Some response) code c h = absurd (let e : Response response ≡ Abort code = h in cc)

  -- 80h is one
  inside_abort : (slice_index bytes 0 == 0x80) ≡ true → (specifier bytes == scs.abort) ≡ true
  inside_abort h = subst (λ n. (n / 32 == 4) ≡ true) (sym (eqb-true (slice_index bytes 0) 0x80 h)) refl

  no_abort_beginning : (reading : Reading) (code : AbortCode) → beginning reading ≡ Abort code → ⊥
  no_abort_beginning (Begin new) code h = absurd (let e : Begin new ≡ Abort code = h in cc)
  no_abort_beginning (Abort other) code h = absurd (let e : Nothing ≡ Abort code = h in cc)
  no_abort_beginning (Segment one) code h = absurd (let e : Nothing ≡ Abort code = h in cc)
  no_abort_beginning (Request one) code h = absurd (let e : Nothing ≡ Abort code = h in cc)
  no_abort_beginning (Response one) code h = absurd (let e : Nothing ≡ Abort code = h in cc)
  no_abort_beginning Nothing code h = absurd (let e : Nothing ≡ Abort code = h in cc)

  no_abort_segment : (size : ℕ) (segment : Option BlockSegment) (otherwise : Reading) (code : AbortCode) → (otherwise ≡ Abort code → ⊥) → segment_reading size segment otherwise ≡ Abort code → ⊥
  no_abort_segment size None otherwise code n h = n h
  no_abort_segment size (Some segment) otherwise code n h = by (nat_le segment.sequence size) h
    where
      by : (b : Bool) → (if b then Segment segment else otherwise) ≡ Abort code → ⊥
      by true g = absurd (let e : Segment segment ≡ Abort code = g in cc)
      by false g = n g

  pub abort_in : (current : Option Transfer) (micros : ℕ) (code : AbortCode) → reading_of current Server micros bytes ≡ Abort code → IsAbort code
  abort_in None micros code h = plain_abort (response_in bytes) code code_response h
  abort_in (Some t) micros code h = by (awaits_segment t Server) (is_abort_in_sub_block bytes) refl h
    where
      by : (awaited abort : Bool) → is_abort_in_sub_block bytes ≡ abort
          → (if awaited then (if abort then Abort (code_in bytes) else segment_reading t.block_size (block_segment_in bytes) (beginning (plain_reading Server micros bytes))) else plain_reading Server micros bytes) ≡ Abort code
          → IsAbort code
      by true true is h = let same : code_in bytes ≡ code = cc in (sym same, inside_abort (and_parts (length bytes == 8) (slice_index bytes 0 == 0x80) is).1)
      by true false is h = absurd (no_abort_segment t.block_size (block_segment_in bytes) _ code (no_abort_beginning (plain_reading Server micros bytes) code) h)
      by false abort is h = plain_abort (response_in bytes) code code_response h

-- ---- how a transfer ends aborted

-- by the server with this code
abbrev EndsSo : Ending → AbortCode → Type 0
EndsSo ending code = ending ≡ Aborted Server code

left_not : (code : AbortCode) (follows lost same : Bool) (number : ℕ) (by : Side) → EndsSo (if follows then NotFollowed (Some number) else (if lost then NotFollowed None else (if same then Repeated else left_by by))) code → ⊥
left_not code true lost same number by h = absurd (cc)
left_not code false true same number by h = absurd (cc)
left_not code false false true number by h = absurd (cc)
left_not code false false false number Client h = absurd (cc)
left_not code false false false number Server h = absurd (cc)

verdict_not : (code : AbortCode) (irregular : Bool) (fault crc : Option ℕ) (computed : ℕ) → EndsSo (if irregular then Irregular else size_verdict fault (crc_verdict computed crc)) code → ⊥
verdict_not code true fault crc computed h = absurd (cc)
verdict_not code false (Some size) crc computed h = absurd (cc)
verdict_not code false None None computed h = absurd (cc)
verdict_not code false None (Some came) computed h = by (came == computed) h
  where
    by : (b : Bool) → EndsSo (if b then Done true else CrcDiffers came computed) code → ⊥
    by true h = absurd (cc)
    by false h = absurd (cc)

turn_not : (x : Option (Option ℕ)) (heard : Bool) (w : What) (u : Transfer) (micros : ℕ) (side : Side) → IfSome (turns_at x heard w u micros side).says.ended (λ e. (code : AbortCode) → EndsSo e.ending code → ⊥)
turn_not None heard w u micros side = tt
turn_not (Some crc) heard w u micros side = λ code h. verdict_not code u.irregular (size_fault u.size u.taken.count) crc u.taken.crc h

weaken : (o : Option Ended) (side : Side) (reading : Reading) → IfSome o (λ e. (code : AbortCode) → EndsSo e.ending code → ⊥) → IfSome o (λ e. (code : AbortCode) → EndsSo e.ending code → (side ≡ Server) × (reading ≡ Abort code))
weaken None side reading h = tt
weaken (Some e) side reading h = λ code s. absurd (h code s)

abort_as : (side : Side) (segment : Option (Option ℕ)) (other code : AbortCode) → EndsSo (abort_ending side segment other) code → (side ≡ Server) × (Abort other ≡ Abort code)
abort_as Server None other code h = (refl, let same : other ≡ code = cc in ap Abort same)
abort_as Client None other code h = absurd (cc)
abort_as side (Some next) other code h = absurd (cc)

-- only by a frame of the server that is read as an abort with this code
pub aborted_by : (heard : Bool) (current : Option Transfer) (reading : Reading) (micros : ℕ) (side : Side) (bytes : List ℕ)
    → IfSome (follows_by heard current reading micros side bytes).says.ended (λ e. (code : AbortCode) → EndsSo e.ending code → (side ≡ Server) × (reading ≡ Abort code))
aborted_by heard None (Begin new) micros side bytes = tt
aborted_by heard (Some t) (Begin new) micros side bytes = λ code h. absurd (left_not code (segment_follows t bytes) (is_lost t) (is_same_request t bytes) (number_of bytes) t.by h)
aborted_by heard None _ micros side bytes = tt
aborted_by heard (Some t) (Abort other) micros side bytes = λ code h. abort_as side (not_followed_by side t bytes) other code h
aborted_by heard (Some t) (Segment one) micros side bytes = weaken _ side (Segment one) (turn_not (confirmed_with (turn_of t (Segment one) bytes).transfer.stage) heard (turn_of t (Segment one) bytes).what (after t (turn_of t (Segment one) bytes)) micros side)
aborted_by heard (Some t) (Request one) micros side bytes = weaken _ side (Request one) (turn_not (confirmed_with (turn_of t (Request one) bytes).transfer.stage) heard (turn_of t (Request one) bytes).what (after t (turn_of t (Request one) bytes)) micros side)
aborted_by heard (Some t) (Response one) micros side bytes = weaken _ side (Response one) (turn_not (confirmed_with (turn_of t (Response one) bytes).transfer.stage) heard (turn_of t (Response one) bytes).what (after t (turn_of t (Response one) bytes)) micros side)
aborted_by heard (Some t) Nothing micros side bytes = weaken _ side Nothing (turn_not (confirmed_with (turn_of t Nothing bytes).transfer.stage) heard (turn_of t Nothing bytes).what (after t (turn_of t Nothing bytes)) micros side)

-- ---- a response that is none

abbrev pub is_refusal : SdoResponse → Bool
is_refusal (Refuse key code) = true
is_refusal _ = false

-- its command byte has room for the number of unused bytes
abbrev pub HasRoom : SdoResponse → Type 0
HasRoom (EndSent unused) = unused ≤ 7
HasRoom _ = Unit {0}

-- begins as another one
pub other_command : (response : SdoResponse) → is_refusal response ≡ false → HasRoom response → (specifier (response_bytes response) == scs.abort) ≡ false
other_command (UploadSegment true segment true) n h = grind (arith, nat_tests)
other_command (UploadSegment true segment false) n h = grind (arith, nat_tests)
other_command (UploadSegment false segment true) n h = grind (arith, nat_tests)
other_command (UploadSegment false segment false) n h = grind (arith, nat_tests)
other_command (DownloadSegmentDone true) n h = refl
other_command (DownloadSegmentDone false) n h = refl
other_command (UploadExpedited key (Indicated counted)) n h = grind (arith, nat_tests)
other_command (UploadExpedited key (NotIndicated four)) n h = refl
other_command (UploadInitiated key (Some size)) n h = refl
other_command (UploadInitiated key None) n h = refl
other_command (DownloadDone key) n h = refl
other_command (BlockDownloadInitiated key size) n h = refl
other_command BlockDownloadDone n h = refl
other_command (BlockDownloadAcknowledge sequence size) n h = refl
other_command (BlockUploadInitiated key (Some size)) n h = refl
other_command (BlockUploadInitiated key None) n h = refl
other_command (EndSent unused) n h = grind (arith, nat_tests)
other_command (Refuse key code) n h = absurd (false≢true (sym n))

-- so it is never read as one
pub never_abort : (response : SdoResponse) (current : Option Transfer) (micros : ℕ) (code : AbortCode) → is_refusal response ≡ false → HasRoom response → reading_of current Server micros (response_bytes response) ≡ Abort code → ⊥
never_abort response current micros code n h is = false≢true (sym (other_command response n h) ∙ (abort_in (response_bytes response) current micros code is).1)
