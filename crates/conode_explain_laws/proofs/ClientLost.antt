-- An upload of a client that explain has lost: whatever comes, and whatever the client sends, it will never be done.
use Rattle.std.proofs.Common.{◌≡◌, ℕ, Bool, true, false, not, List, [], ◌∷◌, ◌++◌, length, Option, Some, None, refl, ap, ◌∙◌, ◌⊎◌, inl, inr}
use Rattle.std.specs.Prelude.{if◌then◌else◌, IfSome}
use Rattle.std.proofs.lemmas.Bool.{false≢true}
use Rattle.co_frame.specs.BlockSegments.{is_abort_in_sub_block}
use Rattle.co_frame.specs.SdoParts.{code_in}
use Rattle.co_frame.specs.SdoRequests.{request_row_in, request_in}
use Rattle.co_frame.specs.SdoResponses.{response_in}
use Rattle.co_frame.specs.declared.sdo_request.SdoRequest.TheVariants.{UploadSegment as NextSegment, Abort as Abandon, BlockUploadStart, BlockUploadAcknowledge, BlockUploadEnd as UploadEnd}
use Rattle.co_frame.specs.declared.sdo_response.SdoResponse.{SdoResponse}
use Rattle.co_frame.specs.declared.sdo_response.SdoResponse.TheVariants.{DownloadDone, BlockDownloadInitiated, UploadExpedited, UploadInitiated, UploadSegment, Abort as Refuse, BlockUploadInitiated, BlockUploadEnd as EndSent}
use Rattle.co_sdo_client.specs.declared.stage.Stage.{Stage}
use Rattle.co_sdo_client.specs.declared.stage.Stage.TheVariants.{Begun, Upload as Taking, SubBlock as InSubBlockStage, LastTaken}
use Rattle.co_sdo_client.specs.Calls.{Call, Message, Request as Asked, message_bytes}
use Rattle.co_sdo_client.specs.Segments.{transfer_of, transfer_by}
use Rattle.co_sdo_client.specs.SubBlocks.{ends_sub_block, is_last_taken}
use Rattle.co_sdo_client.specs.Verdicts.{Verdict, GoesOn, Ends, GivesUp, IsAborted, unless_fault, other_key, other_toggle, no_room, no_room_indicated, above_indicated, below_indicated, expedited_value, upload_complete, sub_block_end, segment_next, taken_with, held_with, without, response_verdict, answer_verdict}
use Rattle.co_sdo_client.specs.Outcomes.{messages_by}
use Rattle.co_sdo_laws.proofs.Frames.{next_read}
use Rattle.co_sdo_laws.proofs.Permits.{reads_in_segments, reads_in_blocks}
use Rattle.conode_explain_transfers.specs.declared.kinds.Direction.{Direction}
use Rattle.conode_explain_transfers.specs.declared.kinds.Direction.TheVariants.{Upload}
use Rattle.conode_explain_transfers.specs.declared.kinds.Side.TheVariants.{Client}
use Rattle.conode_explain_transfers.specs.declared.transfer.Transfer.{Transfer}
use Rattle.conode_explain_transfers.specs.Readings.{may_have_segment, is_sender}
use Rattle.conode_explain_laws.specs.Clients.{Transferred, direction_of}
use Rattle.conode_explain_laws.proofs.Readings.{request_reading, plain_reading, sub_block_reading, reading_of}
use Rattle.conode_explain_laws.proofs.Views.{is_begin}
use Rattle.conode_explain_laws.proofs.ClientViews.{Seen, says, hears, IsLost, Loses, lost_reads}
use Rattle.conode_explain_laws.proofs.ClientStanding.{Steps}

-- ---- requests that begin nothing

abbrev is_harmless : Message → Bool
is_harmless (Asked (NextSegment toggle)) = true
is_harmless (Asked BlockUploadStart) = true
is_harmless (Asked (BlockUploadAcknowledge sequence size)) = true
is_harmless (Asked UploadEnd) = true
is_harmless (Asked (Abandon key code)) = true
is_harmless _ = false

abbrev pub AllHarmless : List Message → Type 0
AllHarmless [] = Unit {0}
AllHarmless (message ∷ later) = (is_harmless message ≡ true) × AllHarmless later

-- in an upload the client's frames are no segments
pub client_reads : (current : Option Transfer) (micros : ℕ) (frame : List ℕ) → IfSome current (λ t. t.direction ≡ Upload) → reading_of current Client micros frame ≡ request_reading (request_in frame) micros frame
client_reads None micros frame h = refl
client_reads (Some t) micros frame h = by (may_have_segment t.stage t.direction t.protocol) t.direction h
  where
    by : (inside : Bool) (x : Direction) → x ≡ Upload
        → (if (if inside then is_sender x Client else false) then sub_block_reading t.block_size Client micros frame else plain_reading Client micros frame) ≡ request_reading (request_in frame) micros frame
    by true x e = rw e refl
    by false x e = refl

begins_none : (message : Message) (micros : ℕ) → is_harmless message ≡ true → is_begin (request_reading (request_in (message_bytes message)) micros (message_bytes message)) ≡ false
unfolding request_row_in
begins_none (Asked (NextSegment toggle)) micros h = ap (λ r. is_begin (request_reading r micros (message_bytes (Asked (NextSegment toggle))))) (next_read toggle)
begins_none (Asked BlockUploadStart) micros h = refl
begins_none (Asked (BlockUploadAcknowledge sequence size)) micros h = refl
begins_none (Asked UploadEnd) micros h = refl
begins_none (Asked (Abandon key code)) micros h = refl
begins_none _ micros h = absurd (false≢true h)

uploads : (current : Option Transfer) → IfSome current IsLost → IfSome current (λ t. t.direction ≡ Upload)
uploads None h = tt
uploads (Some t) h = h.1

pub lost_says : (call : Call) (stamp : ℕ → ℕ) (messages : List Message) (done : List Transferred) (w : Seen) → AllHarmless messages → Loses call done w → Loses call done (says call stamp messages w)
lost_says call stamp [] done w h l = l
lost_says call stamp (message ∷ later) done w h l =
    let frame = message_bytes message in
    let current = w.following.transfer in
    let none : is_begin (reading_of current Client (stamp w.count) frame) ≡ false = ap is_begin (client_reads current (stamp w.count) frame (uploads current l.lost)) ∙ begins_none message (stamp w.count) h.0 in
    let step = lost_reads call (stamp w.count) Client frame w.following.heard current w.got w.done w.count (reading_of current Client (stamp w.count) frame) l.lost none in
    lost_says call stamp later done (hears call stamp Client frame w) h.1 (record { lost = step.lost; same = step.same ∙ l.same })

-- ---- what the client of an upload sends

module _ (call : Call) where
  either : (b : Bool) (v w : Verdict) → AllHarmless (messages_by call v) → AllHarmless (messages_by call w) → AllHarmless (messages_by call (if b then v else w))
  either true v w hv hw = hv
  either false v w hv hw = hw

  pub unless : (checks : List (Bool × ℕ)) (v : Verdict) → AllHarmless (messages_by call v) → AllHarmless (messages_by call (unless_fault checks v))
  unless [] v h = h
  unless (check ∷ checks) v h = either check.0 (GivesUp check.1) (unless_fault checks v) (refl, tt) (unless checks v h)

  -- by how far an upload is
  abbrev pub is_upload_stage : Stage → Bool
  is_upload_stage Begun = true
  is_upload_stage (Taking size toggle) = true
  is_upload_stage (InSubBlockStage size taken) = true
  is_upload_stage (LastTaken size) = true
  is_upload_stage _ = false

  abbrev pub IsUploadCall : Type 0
  IsUploadCall = (transfer_of call ≡ transfer_by reads_in_segments.0 reads_in_segments.1) ⊎ (transfer_of call ≡ transfer_by reads_in_blocks.0 reads_in_blocks.1)

  begun_sends : (held : List ℕ) (r : Option SdoResponse) → IsUploadCall → AllHarmless (messages_by call (response_verdict call Begun held r))
  begun_sends held None u = (refl, tt)
  begun_sends held (Some (Refuse key code)) u = tt
  begun_sends held (Some (UploadExpedited key value)) (inl u) =
      rw u (unless (other_key call key ∷ no_room call (length (expedited_value value)) ∷ []) (Ends [] (expedited_value value)) tt)
  begun_sends held (Some (UploadExpedited key value)) (inr u) = rw u (refl, tt)
  begun_sends held (Some (UploadInitiated key size)) (inl u) =
      rw u (unless (other_key call key ∷ no_room_indicated call size ∷ []) (GoesOn (Asked (NextSegment false) ∷ [])) (refl, tt))
  begun_sends held (Some (UploadInitiated key size)) (inr u) = rw u (refl, tt)
  begun_sends held (Some (BlockUploadInitiated key size)) (inl u) = rw u (refl, tt)
  begun_sends held (Some (BlockUploadInitiated key size)) (inr u) =
      rw u (unless (other_key call key ∷ no_room_indicated call size ∷ []) (GoesOn (Asked BlockUploadStart ∷ [])) (refl, tt))
  begun_sends held (Some (DownloadDone key)) (inl u) = rw u (refl, tt)
  begun_sends held (Some (DownloadDone key)) (inr u) = rw u (refl, tt)
  begun_sends held (Some (BlockDownloadInitiated key size)) (inl u) = rw u (refl, tt)
  begun_sends held (Some (BlockDownloadInitiated key size)) (inr u) = rw u (refl, tt)
  begun_sends held (Some response) u = (refl, tt)

  taking_sends : (size : Option ℕ) (toggle : Bool) (held : List ℕ) (r : Option SdoResponse) → AllHarmless (messages_by call (response_verdict call (Taking size toggle) held r))
  taking_sends size toggle held None = (refl, tt)
  taking_sends size toggle held (Some (Refuse key code)) = tt
  taking_sends size toggle held (Some (UploadSegment toggled segment last)) =
      let value = held ++ segment.items in
      unless (other_toggle toggled toggle ∷ no_room call (length value) ∷ []) (if last then upload_complete size value else GoesOn (Asked (NextSegment (not toggle)) ∷ []))
      (either last (upload_complete size value) (GoesOn (Asked (NextSegment (not toggle)) ∷ []))
      (unless (above_indicated size (length value) ∷ below_indicated size (length value) ∷ []) (Ends [] value) tt) (refl, tt))
  taking_sends size toggle held (Some _) = (refl, tt)

  last_sends : (size : Option ℕ) (held : List ℕ) (r : Option SdoResponse) → AllHarmless (messages_by call (response_verdict call (LastTaken size) held r))
  last_sends size held None = (refl, tt)
  last_sends size held (Some (Refuse key code)) = tt
  last_sends size held (Some (EndSent unused)) =
      let value = without unused held in
      unless (above_indicated size (length value) ∷ below_indicated size (length value) ∷ no_room call (length value) ∷ []) (Ends (Asked UploadEnd ∷ []) value) (refl, tt)
  last_sends size held (Some _) = (refl, tt)

  sub_block_sends : (taken : ℕ) (held frame : List ℕ) → AllHarmless (messages_by call (sub_block_end call taken held frame))
  sub_block_sends taken held frame =
      unless ((if is_last_taken (segment_next taken frame) then (false, 0) else no_room call (length (held_with held taken frame))) ∷ [])
      (GoesOn (Asked (BlockUploadAcknowledge (taken_with taken frame) 127) ∷ [])) (refl, tt)

  pub upload_sends : (stage : Stage) (held frame : List ℕ) → IsUploadCall → is_upload_stage stage ≡ true → AllHarmless (messages_by call (answer_verdict call stage held frame))
  upload_sends Begun held frame u s = begun_sends held (response_in frame) u
  upload_sends (Taking size toggle) held frame u s = taking_sends size toggle held (response_in frame)
  upload_sends (InSubBlockStage size taken) held frame u s =
      either (is_abort_in_sub_block frame) (IsAborted (code_in frame).0) (if ends_sub_block frame then sub_block_end call taken held frame else GoesOn []) tt
      (either (ends_sub_block frame) (sub_block_end call taken held frame) (GoesOn []) (sub_block_sends taken held frame) tt)
  upload_sends (LastTaken size) held frame u s = last_sends size held (response_in frame)
  upload_sends _ held frame u s = absurd (false≢true s)

-- ---- an answer to one that is lost

pub lost_steps : (Loose : Type 0) (call : Call) (stamp : ℕ → ℕ) (v : Verdict) (stage : Stage) (held : List ℕ) (newest : ℕ) (w : Seen) → Loose → direction_of call.job ≡ Upload → Loses call [] w → AllHarmless (messages_by call v)
    → Steps Loose call v stage held newest (says call stamp (messages_by call v) w)
lost_steps Loose call stamp (GoesOn messages) stage held newest w l d h a =
    let k = lost_says call stamp messages [] w a h in record { follows = inl (record { loose = l; job = d; lost = k.lost }); reads = k.same }
lost_steps Loose call stamp (Ends messages value) stage held newest w l d h a = let k = lost_says call stamp messages [] w a h in record { follows = k.lost; reads = inl (l, k.same) }
lost_steps Loose call stamp (GivesUp code) stage held newest w l d h a =
    let k = lost_says call stamp (Asked (Abandon call.key (record { 0 = code })) ∷ []) [] w a h in record { follows = k.lost; reads = k.same }
lost_steps Loose call stamp (IsAborted code) stage held newest w l d h a = record { follows = h.lost; reads = h.same }
