-- Any frame that comes to a client that waits: by how far explain and the client are.
use Rattle.std.proofs.Common.{◌≡◌, ℕ, Bool, true, false, List, [], ◌∷◌, length, Option, Some, None, refl, sym, ap, ◌∙◌, ◌⊎◌, inl, inr, subst}
use Rattle.std.specs.Prelude.{if◌then◌else◌, IfSome, ◌&&◌, ◌||◌, nat_le, nat_lt}
use Rattle.std.proofs.lemmas.Bool.{false≢true}
use Rattle.co_frame.specs.BlockSegments.{is_abort_in_sub_block}
use Rattle.co_frame.specs.SdoResponses.{response_in}
use Rattle.co_sdo_client.specs.declared.mode.Mode.{Mode}
use Rattle.co_sdo_client.specs.declared.mode.Mode.TheVariants.{Plain, Segmented as InSegments, Block as InBlocks}
use Rattle.co_sdo_client.specs.declared.stage.Stage.{Stage}
use Rattle.co_sdo_client.specs.declared.stage.Stage.TheVariants.{Begun, Download as Sending, Upload as Taking, BlockDownload as SendingBlock, BlockDownloadEnded as EndAsked, SubBlock as InSubBlockStage, LastTaken}
use Rattle.co_sdo_client.specs.Calls.{Job, Download as Write, Upload as Read, Call, Answers, with_answer}
use Rattle.co_sdo_client.specs.Segments.{transfer_of, transfer_by}
use Rattle.co_sdo_client.specs.Stages.{stage_since, held_since, held_by, size_by, block_upload_stage}
use Rattle.co_sdo_client.specs.Steps.{frame_stage, frame_held}
use Rattle.co_sdo_client.specs.SubBlocks.{ends_sub_block, sub_block, taken_segments, has_last}
use Rattle.co_sdo_client.specs.Verdicts.{answer_verdict}
use Rattle.co_sdo_client.specs.Outcomes.{messages_by}
use Rattle.co_sdo_laws.specs.Undisturbed.{IsJob}
use Rattle.co_sdo_laws.proofs.Permits.{sends_at_once, sends_in_segments, reads_in_segments, reads_in_blocks}
use Rattle.conode_explain_transfers.specs.declared.kinds.Direction.{Direction}
use Rattle.conode_explain_transfers.specs.declared.kinds.Direction.TheVariants.{Download, Upload}
use Rattle.conode_explain_transfers.specs.declared.kinds.Side.TheVariants.{Server}
use Rattle.conode_explain_transfers.specs.declared.transfer.Transfer.{Transfer}
use Rattle.conode_explain_transfers.specs.Digests.{digest_of}
use Rattle.conode_explain_transfers.specs.Readings.{is_in_sub_block, may_have_segment, is_sender}
use Rattle.conode_explain_laws.specs.Downloads.{number_in, goes_up}
use Rattle.conode_explain_laws.specs.Clients.{direction_of, newest_number, open_sub_block}
use Rattle.conode_explain_laws.proofs.Readings.{Reading, response_reading, plain_reading, sub_block_reading, reading_of}
use Rattle.conode_explain_laws.proofs.Follows.{none_of_server}
use Rattle.conode_explain_laws.proofs.ClientViews.{Seen, holds, says, hears, read_as, lost_answer}
use Rattle.conode_explain_laws.proofs.ClientStanding.{Sync, at_once, begun, sent, block_begun, block_sent, block_ended, asked, taking, block_asked, in_sub_block, all_taken, HasLost, Steps}
use Rattle.conode_explain_laws.proofs.ClientDownloads.{at_once_answer, begun_answer, sent_answer}
use Rattle.conode_explain_laws.proofs.ClientUploads.{asked_answer, taking_answer}
use Rattle.conode_explain_laws.proofs.ClientBlockDownloads.{block_begun_answer, block_sent_answer, block_ended_answer}
use Rattle.conode_explain_laws.proofs.ClientBlockUploads.{small_end, block_asked_answer, inside_answer, all_taken_answer}
use Rattle.conode_explain_laws.proofs.ClientLost.{IsUploadCall, is_upload_stage, upload_sends, lost_steps}

-- ---- what the answers so far say

-- the number of the newest segment of the sub-block that the client is in
abbrev pub newest_of : Option Answers → ℕ
newest_of None = 0
newest_of (Some a) = newest_number (sub_block a.later)

upload_call : (mode : Mode) (job : Job) → direction_of job ≡ Upload → (transfer_by mode job ≡ transfer_by reads_in_segments.0 reads_in_segments.1) ⊎ (transfer_by mode job ≡ transfer_by reads_in_blocks.0 reads_in_blocks.1)
upload_call Plain (Read cap) d = inl refl
upload_call InSegments (Read cap) d = inl refl
upload_call InBlocks (Read cap) d = inr refl
upload_call mode (Write bytes tells) d = absurd (let e : Download ≡ Upload = d in cc)

block_stage : (call : Call) (size : Option ℕ) (later : List (List ℕ)) → is_upload_stage call (block_upload_stage size later) ≡ true
block_stage call size later = by (has_last later)
  where
    by : (last : Bool) → is_upload_stage call (if last then LastTaken size else InSubBlockStage size (length (taken_segments (sub_block later)))) ≡ true
    by true = refl
    by false = refl

upload_stage : (call : Call) (s : Option Answers) → IsUploadCall call → is_upload_stage call (stage_since call s) ≡ true
upload_stage call None u = refl
upload_stage call (Some a) (inl u) = rw u refl
upload_stage call (Some a) (inr u) = rw u (block_stage call (size_by (response_in a.first)) a.later)

-- nothing is held for a download
download_held : (mode : Mode) (job : Job) (a : Answers) → direction_of job ≡ Download → held_by (transfer_by mode job) a ≡ []
download_held Plain (Write bytes tells) a d = by (nat_le 1 (length bytes) && nat_le (length bytes) 4)
  where
    by : (short : Bool) → held_by (if short then transfer_by sends_at_once.0 sends_at_once.1 else transfer_by sends_in_segments.0 sends_in_segments.1) a ≡ []
    by true = refl
    by false = refl
download_held InSegments (Write bytes tells) a d = refl
download_held InBlocks (Write bytes tells) a d = refl
download_held mode (Read cap) a d = absurd (let e : Upload ≡ Download = d in cc)

none_held : (call : Call) (s : Option Answers) → direction_of call.job ≡ Download → held_since call s ≡ []
none_held call None d = refl
none_held call (Some a) d = download_held call.mode call.job a d

-- before the first answer
abbrev is_begun : Stage → Bool
is_begun Begun = true
is_begun _ = false

not_begun : (size : Option ℕ) (later : List (List ℕ)) → is_begun (block_upload_stage size later) ≡ false
not_begun size later = by (has_last later)
  where
    by : (last : Bool) → is_begun (if last then LastTaken size else InSubBlockStage size (length (taken_segments (sub_block later)))) ≡ false
    by true = refl
    by false = refl

first_newest : (call : Call) (s : Option Answers) (frame : List ℕ) → transfer_of call ≡ transfer_by reads_in_blocks.0 reads_in_blocks.1 → stage_since call s ≡ Begun → newest_of (Some (with_answer frame s)) ≡ 0
first_newest call None frame u e = refl
first_newest call (Some a) frame u e =
    let stage : is_begun (stage_since call (Some a)) ≡ false = rw u (not_begun (size_by (response_in a.first)) a.later) in
    absurd (false≢true (sym stage ∙ ap is_begun e))

-- inside a sub-block
abbrev is_inside : Stage → Bool
is_inside (InSubBlockStage size taken) = true
is_inside _ = false

next_newest : (call : Call) (s : Option Answers) (frame : List ℕ) (size : Option ℕ) (taken : ℕ) → stage_since call s ≡ InSubBlockStage size taken → newest_of (Some (with_answer frame s)) ≡ (if ends_sub_block frame then 0 else number_in frame)
next_newest call None frame size taken e = absurd (false≢true (ap is_inside e))
next_newest call (Some a) frame size taken e = by (ends_sub_block frame)
  where
    by : (ends : Bool) → newest_number (if ends then [] else frame ∷ sub_block a.later) ≡ (if ends then 0 else number_in frame)
    by true = refl
    by false = refl

goes_up_so : (mode : Mode) (job : Job) (a : Answers) (frame : List ℕ) → direction_of job ≡ Upload → transfer_by mode job ≡ transfer_by reads_in_blocks.0 reads_in_blocks.1 → has_last a.later ≡ false
    → IfSome (open_sub_block mode job (Some a)) (λ frames. goes_up (newest_number frames) frame ≡ true) → goes_up (newest_number (sub_block a.later)) frame ≡ true
goes_up_so InBlocks (Read cap) a frame d u l h = by (has_last a.later) l h
  where
    by : (last : Bool) → last ≡ false → IfSome (if last then None else Some (sub_block a.later)) (λ frames. goes_up (newest_number frames) frame ≡ true) → goes_up (newest_number (sub_block a.later)) frame ≡ true
    by true l h = absurd (false≢true (sym l))
    by false l h = h
goes_up_so Plain (Read cap) a frame d u l h = cc
goes_up_so InSegments (Read cap) a frame d u l h = cc
goes_up_so mode (Write bytes tells) a frame d u l h = absurd (let e : Download ≡ Upload = d in cc)

no_last : (size : Option ℕ) (later : List (List ℕ)) → is_inside (block_upload_stage size later) ≡ true → has_last later ≡ false
no_last size later h = by (has_last later) h
  where
    by : (last : Bool) → is_inside (if last then LastTaken size else InSubBlockStage size (length (taken_segments (sub_block later)))) ≡ true → last ≡ false
    by true h = absurd (false≢true h)
    by false h = refl

up_so : (call : Call) (s : Option Answers) (frame : List ℕ) (size : Option ℕ) (taken : ℕ) → direction_of call.job ≡ Upload → transfer_of call ≡ transfer_by reads_in_blocks.0 reads_in_blocks.1 → stage_since call s ≡ InSubBlockStage size taken
    → IfSome (open_sub_block call.mode call.job s) (λ frames. goes_up (newest_number frames) frame ≡ true) → (is_abort_in_sub_block frame || nat_lt (newest_of s) (number_in frame)) ≡ true
up_so call None frame size taken d u e h = absurd (false≢true (ap is_inside e))
up_so call (Some a) frame size taken d u e h =
    let inside : is_inside (stage_since call (Some a)) ≡ true = ap is_inside e in
    let stage : stage_since call (Some a) ≡ block_upload_stage (size_by (response_in a.first)) a.later = rw u refl in
    goes_up_so call.mode call.job a frame d u (no_last (size_by (response_in a.first)) a.later (ap is_inside (sym stage) ∙ inside)) h

-- ---- one answer

-- outside a sub-block of an upload the server's frames are read as responses
server_reads : (t : Transfer) (micros : ℕ) (frame : List ℕ) → (is_in_sub_block t.stage ≡ false) ⊎ (t.direction ≡ Download) → reading_of (Some t) Server micros frame ≡ response_reading (response_in frame)
server_reads t micros frame (inl e) = rw (none_of_server t.stage t.direction t.protocol e) refl
server_reads t micros frame (inr e) = by (may_have_segment t.stage t.direction t.protocol) t.direction e
  where
    by : (inside : Bool) (x : Direction) → x ≡ Download
        → (if (if inside then is_sender x Server else false) then sub_block_reading t.block_size Server micros frame else plain_reading Server micros frame) ≡ response_reading (response_in frame)
    by true x e = rw e refl
    by false x e = refl

module _ (Loose : Type 0) (call : Call) (job : IsJob call.job) (stamp : ℕ → ℕ) (frame : List ℕ) (s : Option Answers) where
  abbrev newest : ℕ
  newest = newest_of (Some (with_answer frame s))

  -- after it, where both were so far
  abbrev pub Made : Seen → Stage → List ℕ → Type 0
  Made v stage held =
      let x = answer_verdict call stage held frame in
      Steps Loose call x (frame_stage call stage frame) (frame_held stage held frame) newest (says call stamp (messages_by call x) (hears call stamp Server frame v))

  -- where it is read as a response
  abbrev MadeSo : Seen → Stage → List ℕ → Reading → Type 0
  MadeSo v stage held reading =
      let x = answer_verdict call stage held frame in
      Steps Loose call x (frame_stage call stage frame) (frame_held stage held frame) newest (says call stamp (messages_by call x) (read_as call (stamp v.count) Server frame v reading))

  pub lost_made : (v : Seen) (stage : Stage) (held : List ℕ) → v.done ≡ [] → stage ≡ stage_since call s → HasLost Loose call v.following.transfer → Made v stage held
  lost_made v stage held e f h =
      let u = upload_call call.mode call.job h.job in
      let k = lost_answer call stamp frame v h.lost in
      let x = answer_verdict call stage held frame in
      lost_steps Loose call stamp x (frame_stage call stage frame) (frame_held stage held frame) newest (hears call stamp Server frame v) h.loose h.job (record { lost = k.lost; same = k.same ∙ e })
      (upload_sends call stage held frame u (ap (is_upload_stage call) f ∙ upload_stage call s u))

  pub sync_made : (heard : Bool) (t : Transfer) (got : List ℕ) (count : ℕ) (stage : Stage) (held : List ℕ) → Sync Loose call t got stage held (newest_of s) → t.taken ≡ digest_of got → stage ≡ stage_since call s → held ≡ held_since call s
      → Loose ⊎ IfSome (open_sub_block call.mode call.job s) (λ frames. goes_up (newest_number frames) frame ≡ true) → Made (holds heard (Some t) got [] count) stage held
  sync_made heard t got count stage held (at_once h g e) kept f i up =
      subst (λ x. Made (holds heard (Some t) got [] count) x held) (sym e)
      (subst (λ x. Made (holds heard (Some t) x [] count) Begun held) (sym g)
      (subst (MadeSo (holds heard (Some t) [] [] count) Begun held) (sym (server_reads t (stamp count) frame (inr h.is.direction)))
      (at_once_answer Loose call job stamp frame heard t count newest held (response_in frame) h (kept ∙ ap digest_of g))))
  sync_made heard t got count stage held (begun h g e) kept f i up =
      subst (λ x. Made (holds heard (Some t) got [] count) x held) (sym e)
      (subst (λ x. Made (holds heard (Some t) x [] count) Begun held) (sym g)
      (subst (MadeSo (holds heard (Some t) [] [] count) Begun held) (sym (server_reads t (stamp count) frame (inr h.is.direction)))
      (begun_answer Loose call job stamp frame heard t count newest held (response_in frame) h)))
  sync_made heard t got count stage held (sent k h g e) kept f i up =
      subst (λ x. Made (holds heard (Some t) got [] count) x held) (sym e)
      (subst (MadeSo (holds heard (Some t) got [] count) (Sending k) held) (sym (server_reads t (stamp count) frame (inr h.is.direction)))
      (sent_answer Loose call job stamp frame heard t count newest k held got (response_in frame) h g kept (i ∙ none_held call s h.is.job)))
  sync_made heard t got count stage held (block_begun h g e) kept f i up =
      subst (λ x. Made (holds heard (Some t) got [] count) x held) (sym e)
      (subst (λ x. Made (holds heard (Some t) x [] count) Begun held) (sym g)
      (subst (MadeSo (holds heard (Some t) [] [] count) Begun held) (sym (server_reads t (stamp count) frame (inr h.is.is.direction)))
      (block_begun_answer Loose call job stamp frame heard t count newest held (response_in frame) h)))
  sync_made heard t got count stage held (block_sent position so_far h e) kept f i up =
      subst (λ x. Made (holds heard (Some t) got [] count) x held) (sym e)
      (subst (MadeSo (holds heard (Some t) got [] count) (SendingBlock position so_far) held) (sym (server_reads t (stamp count) frame (inr h.is.is.direction)))
      (block_sent_answer Loose call job stamp frame heard t count newest position so_far held got (response_in frame) h))
  sync_made heard t got count stage held (block_ended crc h g e) kept f i up =
      subst (λ x. Made (holds heard (Some t) got [] count) x held) (sym e)
      (subst (MadeSo (holds heard (Some t) got [] count) EndAsked held) (sym (server_reads t (stamp count) frame (inr h.is.is.direction)))
      (block_ended_answer Loose call job stamp frame heard t count newest crc held got (response_in frame) h g kept))
  sync_made heard t got count stage held (asked h g e) kept f i up =
      subst (λ x. Made (holds heard (Some t) got [] count) x held) (sym e)
      (subst (λ x. Made (holds heard (Some t) x [] count) Begun held) (sym g)
      (subst (MadeSo (holds heard (Some t) [] [] count) Begun held) (sym (server_reads t (stamp count) frame (inl (ap is_in_sub_block h.stage))))
      (asked_answer Loose call job stamp frame heard t count newest held (response_in frame) h (kept ∙ ap digest_of g))))
  sync_made heard t got count stage held (taking size toggle h g e) kept f i up =
      subst (λ x. Made (holds heard (Some t) got [] count) x held) (sym e)
      (subst (λ x. Made (holds heard (Some t) got [] count) (Taking size toggle) x) g
      (subst (MadeSo (holds heard (Some t) got [] count) (Taking size toggle) got) (sym (server_reads t (stamp count) frame (inl (ap is_in_sub_block h.stage))))
      (taking_answer Loose call job stamp frame heard t count newest size toggle got (response_in frame) h kept)))
  sync_made heard t got count stage held (block_asked h g e) kept f i up =
      subst (λ x. Made (holds heard (Some t) got [] count) x held) (sym e)
      (subst (λ x. Made (holds heard (Some t) x [] count) Begun held) (sym g)
      (subst (MadeSo (holds heard (Some t) [] [] count) Begun held) (sym (server_reads t (stamp count) frame (inl (ap is_in_sub_block h.stage))))
      (block_asked_answer Loose call job stamp frame heard t count newest held (response_in frame) h (first_newest call s frame h.is.transfer (sym f ∙ e)))))
  sync_made heard t got count stage held (in_sub_block size taken h g e) kept f i up =
      subst (λ x. Made (holds heard (Some t) got [] count) x held) (sym e)
      (inside_answer Loose call job stamp frame heard t count newest size taken (newest_of s) held got h g
      (elim up [ inl l ↦ inl l | inr u ↦ inr (up_so call s frame size taken h.is.is.job h.is.transfer (sym f ∙ e) u) ])
      (next_newest call s frame size taken (sym f ∙ e)))
  sync_made heard t got count stage held (all_taken size h g e) kept f i up =
      subst (λ x. Made (holds heard (Some t) got [] count) x held) (sym e)
      (subst (MadeSo (holds heard (Some t) got [] count) (LastTaken size) held) (sym (server_reads t (stamp count) frame (inl (ap is_in_sub_block h.stage))))
      (all_taken_answer Loose call job stamp frame heard t count newest size held got (response_in frame) (small_end frame) h g kept))
