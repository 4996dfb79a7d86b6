-- Answers within a transfer that isn't in blocks: nothing is found of their toggle bit, their form, the entry of an abort, and of a CRC.
use Rattle.std.proofs.Common.{◌≡◌, ℕ, ◌+◌, ◌*◌, ◌/◌, ◌%◌, ◌<◌, ◌≤◌, Bool, true, false, List, [], length, Option, Some, None, refl, sym, ap, ◌∙◌, ◌⊎◌, inl, inr, subst, arith}
use Rattle.std.specs.Prelude.{◌==◌, ◌||◌, if◌then◌else◌, nat_lt}
use Rattle.std.proofs.lemmas.Bool.{false≢true}
use Rattle.arrayvec.specs.ArrayVec.{ArrayVec}
use Rattle.co_value.specs.declared.key.Key.{Key}
use Rattle.co_value.specs.Keys.{same_key, same_key-refl}
use Rattle.co_frame_aborts.specs.AbortCodes.{unknown_command}
use Rattle.co_frame.specs.FrameContent.{FrameContent}
use Rattle.co_frame.specs.Segments.{same_bool}
use Rattle.co_frame.specs.SdoParts.{code_in}
use Rattle.co_frame.specs.SdoResponses.{response_bytes, response_in, response_row_in}
use Rattle.co_frame_aborts.specs.declared.abort_code.AbortCode.{AbortCode}
use Rattle.co_frame.specs.declared.sdo_response.SdoResponse.{SdoResponse}
use Rattle.co_frame.specs.declared.sdo_response.SdoResponse.TheVariants.{Abort as Refuse, DownloadSegmentDone, UploadSegment}
use Rattle.co_sdo_laws.proofs.Frames.{segment_done_read, segment_sent_read}
use Rattle.conode_explain_transfers.specs.declared.channel.Heard.{Heard}
use Rattle.conode_explain_transfers.specs.declared.ended.Ended.{Ended}
use Rattle.conode_explain_transfers.specs.declared.ended.Ending.TheVariants.{Aborted, Done, Irregular}
use Rattle.conode_explain_transfers.specs.declared.ended.Fault.{Fault}
use Rattle.conode_explain_transfers.specs.declared.ended.Fault.TheVariants as fault
use Rattle.conode_explain_transfers.specs.declared.kinds.Direction.{Direction}
use Rattle.conode_explain_transfers.specs.declared.kinds.Direction.TheVariants.{Download, Upload}
use Rattle.conode_explain_transfers.specs.declared.kinds.Side.{Side}
use Rattle.conode_explain_transfers.specs.declared.kinds.Side.TheVariants.{Client, Server}
use Rattle.conode_explain_transfers.specs.declared.kinds.What.{What}
use Rattle.conode_explain_transfers.specs.declared.kinds.What.TheVariants as what
use Rattle.conode_explain_transfers.specs.declared.stage.Stage.{Stage}
use Rattle.conode_explain_transfers.specs.declared.stage.Stage.TheVariants.{BlockEnded, DownloadSent, Initiated, UploadAsked}
use Rattle.conode_explain_transfers.specs.declared.transfer.Transfer.{Transfer}
use Rattle.conode_explain_transfers.specs.Endings.{bytes_come, ended, excess, fault_at, fault_of, fault_with, size_fault, size_verdict, verdict}
use Rattle.conode_explain_transfers.specs.Followed.{abort_ending, one_more, turns_at}
use Rattle.conode_explain_transfers.specs.SegmentedTurns.{download_stage, upload_stage}
use Rattle.conode_explain_transfers.specs.Readings.{is_in_sub_block}
use Rattle.conode_explain_transfers.specs.Stages.{confirmed_with}
use Rattle.conode_explain_transfers.specs.Transfers.{Turn, after, is_download}
use Rattle.conode_explain_transfers.specs.Turns.{response_turn}
use Rattle.conode_explain_transfers.specs.Unanswered.{not_followed_by}
use Rattle.conode_explain_laws.proofs.UploadStanding.{is_ended}
use Rattle.conode_explain_laws.proofs.Views.{is_begin}
use Rattle.conode_explain_laws.proofs.Follows.{none_of_server}
use Rattle.conode_explain_laws.proofs.Readings.{Reading, Begin, Abort, Response, follows_by, reading_of, response_reading}
use Rattle.conode_compare_transfers.specs.declared.breach.Breach.TheVariants.{AbortKey, Size}
use Rattle.conode_compare_transfers.specs.declared.newest.Newest.{Newest}
use Rattle.conode_compare_transfers.specs.declared.newest.Newest.TheVariants.{Request, Answer, Data, LastData, Acknowledge, LaterData, LaterAcknowledge, AllAcknowledged}
use Rattle.conode_compare_transfers.specs.Breaches.{breach_at, ended_breach, ending_breach, fault_breach, is_padded, key_in, may_refuse_next, names_none, server_breach}
use Rattle.conode_compare_rules.specs.Answers.{breach_finding}
use Rattle.conode_compare_laws.specs.AnswerFindings.{of_transfers}
use Rattle.conode_compare_laws.proofs.AnswerFollowed.{reads}

-- ---- a frame at which nothing of these is found, after whichever frame

abbrev pub Fine : FrameContent → Heard → Type 0
Fine frame heard = (newest : Option Newest) (of : Option Key) → of_transfers (breach_finding (breach_at newest Server (record heard { of = of }) frame)) ≡ []

-- by how the transfer ends, if it does
abbrev pub FineEnd : FrameContent → Option Ended → Type 0
FineEnd frame None = Unit {0}
FineEnd frame (Some e) = (newest : Newest) → of_transfers (breach_finding (ended_breach newest frame e)) ≡ []

-- a frame that is neither one that came before nor unexpected
abbrev pub is_plain : What → Bool
is_plain what.Repeated = false
is_plain what.Unexpected = false
is_plain _ = true

none_by : (newest : Newest) (key : Key) (w : What) (first : ℕ) → is_plain w ≡ true → server_breach newest key w first ≡ None
none_by Request key what.Repeated first h = absurd (false≢true h)
none_by Request key what.Unexpected first h = absurd (false≢true h)
none_by Data key what.Unexpected first h = absurd (false≢true h)
none_by (LastData number) key what.Unexpected first h = absurd (false≢true h)
none_by AllAcknowledged key what.Unexpected first h = absurd (false≢true h)
none_by Acknowledge key what.Unexpected first h = absurd (false≢true h)
none_by LaterAcknowledge key what.Unexpected first h = absurd (false≢true h)
none_by LaterData key what.Unexpected first h = absurd (false≢true h)
none_by Request key _ first h = refl
none_by Data key _ first h = refl
none_by (LastData number) key _ first h = refl
none_by AllAcknowledged key _ first h = refl
none_by Acknowledge key _ first h = refl
none_by LaterAcknowledge key _ first h = refl
none_by LaterData key _ first h = refl
none_by Answer key _ first h = refl

fine_by : (w : What) (e : Option Ended) (frame : FrameContent) (newest : Option Newest) (of : Option Key) → is_plain w ≡ true → FineEnd frame e
    → of_transfers (breach_finding (breach_at newest Server (record { what = w; of = of; ended = e }) frame)) ≡ []
unfolding breach_at
fine_by w e frame None of h end = refl
fine_by w (Some e) frame (Some newest) of h end = end newest
fine_by w None frame (Some newest) None h end = refl
fine_by w None frame (Some newest) (Some key) h end = ap (λ b. of_transfers (breach_finding b)) (none_by newest key w _ h)

pub fine : (heard : Heard) (frame : FrameContent) → is_plain heard.what ≡ true → FineEnd frame heard.ended → Fine frame heard
fine heard frame h end = λ newest of. fine_by heard.what heard.ended frame newest of h end

-- ---- a transfer that is confirmed

regular : (frame : FrameContent) (e : Ended) (direction : Direction) (o : Option ℕ) (newest : Newest) → of_transfers (breach_finding (ending_breach newest frame e direction (size_verdict o (Done false)))) ≡ []
regular frame e Download None newest = refl
regular frame e Upload None newest = refl
regular frame e Download (Some size) newest = refl
regular frame e Upload (Some size) newest = by (is_padded frame e size)
  where
    by : (b : Bool) → of_transfers (breach_finding (if b then None else Some (Size e.key size e.bytes))) ≡ []
    by true = refl
    by false = refl

pub confirmed_end : (frame : FrameContent) (e : Ended) (direction : Direction) (u : Transfer) (newest : Newest) → of_transfers (breach_finding (ending_breach newest frame e direction (verdict u None))) ≡ []
confirmed_end frame e direction u newest = by u.irregular direction
  where
    by : (irregular : Bool) (direction : Direction) → of_transfers (breach_finding (ending_breach newest frame e direction (if irregular then Irregular else size_verdict (size_fault u.size u.taken.count) (Done false)))) ≡ []
    by true Download = refl
    by true Upload = refl
    by false direction = regular frame e direction (size_fault u.size u.taken.count) newest

-- no CRC comes with it
abbrev pub IsWithoutCrc : Option (Option ℕ) → Type 0
IsWithoutCrc None = Unit {0}
IsWithoutCrc (Some crc) = crc ≡ None

turn_end : (x : Option (Option ℕ)) (heard : Bool) (w : What) (u : Transfer) (micros : ℕ) (frame : FrameContent) → IsWithoutCrc x → FineEnd frame (turns_at x heard w u micros Server).says.ended
turn_end None heard w u micros frame h = tt
turn_end (Some crc) heard w u micros frame h = subst (λ c. FineEnd frame (Some (ended (one_more u) micros (verdict u c)))) (sym h) (confirmed_end frame (ended (one_more u) micros (verdict u None)) u.direction u)

turn_what : (x : Option (Option ℕ)) (heard : Bool) (w : What) (u : Transfer) (micros : ℕ) → (turns_at x heard w u micros Server).says.what ≡ w
turn_what None heard w u micros = refl
turn_what (Some crc) heard w u micros = refl

-- the next frame of the transfer, after which it is confirmed without a CRC or not yet
pub record GoesFine (turn : Turn) : Type 0 where
  pub part : turn.what ≡ what.Part
  pub crc : IsWithoutCrc (confirmed_with turn.transfer.stage)

pub turn_fine : (heard : Bool) (t : Transfer) (turn : Turn) (micros : ℕ) (frame : FrameContent) → GoesFine turn → Fine frame (turns_at (confirmed_with turn.transfer.stage) heard turn.what (after t turn) micros Server).says
turn_fine heard t turn micros frame g =
    fine (turns_at (confirmed_with turn.transfer.stage) heard turn.what (after t turn) micros Server).says frame
    (ap is_plain (turn_what (confirmed_with turn.transfer.stage) heard turn.what (after t turn) micros ∙ g.part))
    (turn_end (confirmed_with turn.transfer.stage) heard turn.what (after t turn) micros frame g.crc)

-- ---- an abort

abbrev pub refusal : ℕ → Key → ℕ → FrameContent
refusal id key code = record { id = id; bytes = response_bytes (Refuse key (record { 0 = code })) }

two_bytes : (x : ℕ) → x < 65536 → (x % 256) + (x / 256 % 256) * 256 ≡ x
two_bytes x h = omega arith

pub key_of_refusal : (id : ℕ) (key : Key) (code : ℕ) → key.index < 65536 → key_in (refusal id key code) ≡ key
key_of_refusal id key code small = ap (λ i. record { index = i; sub = key.sub }) (two_bytes key.index small)

-- of the open transfer's entry, or of an unknown command
abbrev pub IsFit : Key → Key → AbortCode → Type 0
IsFit named key code = (same_key named key || (code.0 == unknown_command)) ≡ true

abort_end : (frame : FrameContent) (e : Ended) (direction : Direction) (code : AbortCode) → (same_key (key_in frame) e.key || (code.0 == unknown_command)) ≡ true
    → (newest : Newest) → of_transfers (breach_finding (ending_breach newest frame e direction (Aborted Server code))) ≡ []
abort_end frame e direction code fit newest = ap (λ b. of_transfers (breach_finding (if (b || names_none newest (key_in frame) e.frames) || may_refuse_next newest e then None else Some (AbortKey e.key)))) fit

-- by which end, and whether it may be none of this transfer
abbrev pub aborted_end : Side → Transfer → AbortCode → ℕ → Option (Option ℕ) → Ended
aborted_end side t code micros segment = record (ended (one_more t) micros (abort_ending side segment code)) { fault = fault_with (abort_ending side segment code) (one_more t) }

pub abort_fine : (heard : Bool) (t : Transfer) (code : AbortCode) (micros : ℕ) (frame : FrameContent) → (same_key (key_in frame) t.key || (code.0 == unknown_command)) ≡ true
    → Fine frame (follows_by heard (Some t) (Abort code) micros Server frame.bytes).says
abort_fine heard t code micros frame fit =
    fine (follows_by heard (Some t) (Abort code) micros Server frame.bytes).says frame refl (by (not_followed_by Server t frame.bytes) t.direction)
  where
    -- nothing is found of what may be none of this transfer
    by : (segment : Option (Option ℕ)) (direction : Direction)
        → (newest : Newest) → of_transfers (breach_finding (ending_breach newest frame (aborted_end Server t code micros segment) direction (abort_ending Server segment code))) ≡ []
    by None direction newest = abort_end frame (aborted_end Server t code micros None) direction code fit newest
    by (Some next) Download newest = refl
    by (Some next) Upload newest = refl

-- ---- the client's abort: nothing is found of a CRC where the device hasn't ended the transfer, or not both ends support it

size_fine : (key : Key) (size : Option ℕ) (bytes : ℕ) → of_transfers (breach_finding (fault_breach key (excess size bytes))) ≡ []
size_fine key None bytes = refl
size_fine key (Some indicated) bytes = by (nat_lt indicated bytes)
  where
    by : (b : Bool) → of_transfers (breach_finding (fault_breach key (if b then Some (fault.Size indicated bytes) else None))) ≡ []
    by true = refl
    by false = refl

verdict_fine : (key : Key) (u : Transfer) (bytes : ℕ) → of_transfers (breach_finding (fault_breach key (fault_of (verdict u None) bytes))) ≡ []
verdict_fine key u bytes = by u.irregular (size_fault u.size u.taken.count)
  where
    by : (irregular : Bool) (o : Option ℕ) → of_transfers (breach_finding (fault_breach key (fault_of (if irregular then Irregular else size_verdict o (Done false)) bytes))) ≡ []
    by true o = refl
    by false None = refl
    by false (Some indicated) = refl

either_fine : (key : Key) (b : Bool) (o : Option Fault) → of_transfers (breach_finding (fault_breach key o)) ≡ [] → of_transfers (breach_finding (fault_breach key (if b then None else o))) ≡ []
either_fine key true o h = refl
either_fine key false o h = h

abbrev pub IsCrcless : Transfer → Type 0
IsCrcless u = (is_ended u.stage ≡ false) ⊎ (u.crc ≡ false)

stage_fine : (key : Key) (u : Transfer) (stage : Stage) → (is_ended stage ≡ false) ⊎ (u.crc ≡ false) → of_transfers (breach_finding (fault_breach key (fault_at stage u))) ≡ []
stage_fine key u Initiated h = refl
stage_fine key u (BlockEnded crc) (inl n) = absurd (false≢true (sym n))
stage_fine key u (BlockEnded crc) (inr c) = rw c (verdict_fine key u u.taken.count)
stage_fine key u _ h = either_fine key u.irregular (excess u.size (bytes_come u)) (size_fine key u.size (bytes_come u))

pub refused_fine : (frame : FrameContent) (t : Transfer) (code : AbortCode) (micros : ℕ) (direction : Direction) (segment : Option (Option ℕ)) → IsCrcless t
    → (newest : Newest) → of_transfers (breach_finding (ending_breach newest frame (aborted_end Client t code micros segment) direction (abort_ending Client segment code))) ≡ []
refused_fine frame t code micros Download None h newest = either_fine t.key (is_download t.direction) (fault_at t.stage (one_more t)) (stage_fine t.key (one_more t) t.stage h)
refused_fine frame t code micros Upload None h newest = either_fine t.key (is_download t.direction) (fault_at t.stage (one_more t)) (stage_fine t.key (one_more t) t.stage h)
refused_fine frame t code micros Download (Some next) h newest = refl
refused_fine frame t code micros Upload (Some next) h newest = refl

-- ---- where no transfer is open

pub stray_fine : (heard : Bool) (reading : Reading) (micros : ℕ) (frame : FrameContent) → is_begin reading ≡ false → Fine frame (follows_by heard None reading micros Server frame.bytes).says
stray_fine heard (Begin t) micros frame n = absurd (false≢true (sym n))
stray_fine true _ micros frame n = λ newest of. fine_by what.Stray None frame newest of refl tt
stray_fine false _ micros frame n = λ newest of. fine_by what.BegunBefore None frame newest of refl tt

-- ---- the answers to segments

same_toggle : (toggle : Bool) → same_bool toggle toggle ≡ true
same_toggle true = refl
same_toggle false = refl

done_crc : (toggle last : Bool) → IsWithoutCrc (confirmed_with (download_stage toggle last))
done_crc toggle true = refl
done_crc toggle false = tt

came_crc : (toggle last : Bool) → IsWithoutCrc (confirmed_with (upload_stage toggle last))
came_crc toggle true = refl
came_crc toggle false = tt

done_goes : (t : Transfer) (toggle last : Bool) (frame : List ℕ) → t.stage ≡ DownloadSent toggle last → GoesFine (response_turn t (DownloadSegmentDone toggle) frame)
done_goes t toggle last frame e = rw (e, same_toggle toggle) (record { part = refl; crc = done_crc toggle last })

came_goes : (t : Transfer) (toggle : Bool) (segment : ArrayVec ℕ) (last : Bool) (frame : List ℕ) → t.stage ≡ UploadAsked toggle → GoesFine (response_turn t (UploadSegment toggle segment last) frame)
came_goes t toggle segment last frame e = rw (e, same_toggle toggle) (record { part = refl; crc = came_crc toggle last })

-- ---- what the channel answers to segments

outside_reading : (t : Transfer) (micros : ℕ) (bytes : List ℕ) → is_in_sub_block t.stage ≡ false → reading_of (Some t) Server micros bytes ≡ response_reading (response_in bytes)
outside_reading t micros bytes off = rw (none_of_server t.stage t.direction t.protocol off) refl

pub response_fine : (heard : Bool) (t : Transfer) (response : SdoResponse) (micros : ℕ) (frame : FrameContent) → is_in_sub_block t.stage ≡ false → response_reading (response_in frame.bytes) ≡ Response response → GoesFine (response_turn t response frame.bytes)
    → Fine frame (reads (record { heard = heard; transfer = Some t }) micros Server frame.bytes).says
response_fine heard t response micros frame off read goes =
    subst (λ r. Fine frame (follows_by heard (Some t) r micros Server frame.bytes).says) (sym (outside_reading t micros frame.bytes off ∙ read)) (turn_fine heard t (response_turn t response frame.bytes) micros frame goes)

abbrev answer_on : ℕ → SdoResponse → FrameContent
answer_on id response = record { id = id; bytes = response_bytes response }

pub segment_done_fine : (heard : Bool) (t : Transfer) (toggle last : Bool) (micros id : ℕ) → t.stage ≡ DownloadSent toggle last
    → Fine (answer_on id (DownloadSegmentDone toggle)) (reads (record { heard = heard; transfer = Some t }) micros Server (response_bytes (DownloadSegmentDone toggle))).says
segment_done_fine heard t toggle last micros id stage =
    response_fine heard t (DownloadSegmentDone toggle) micros (answer_on id (DownloadSegmentDone toggle)) (ap is_in_sub_block stage) (ap response_reading (segment_done_read toggle))
    (done_goes t toggle last (response_bytes (DownloadSegmentDone toggle)) stage)

pub segment_fine : (heard : Bool) (t : Transfer) (toggle last : Bool) (items : List ℕ) (micros id : ℕ) → t.stage ≡ UploadAsked toggle → length items ≤ 7
    → Fine (answer_on id (UploadSegment toggle (record { items = items }) last)) (reads (record { heard = heard; transfer = Some t }) micros Server (response_bytes (UploadSegment toggle (record { items = items }) last))).says
segment_fine heard t toggle last items micros id stage few =
    response_fine heard t (UploadSegment toggle (record { items = items }) last) micros (answer_on id (UploadSegment toggle (record { items = items }) last)) (ap is_in_sub_block stage) (ap response_reading (segment_sent_read toggle items last few))
    (came_goes t toggle (record { items = items }) last (response_bytes (UploadSegment toggle (record { items = items }) last)) stage)

-- an abort
refusal_reading : (key : Key) (code : ℕ) → response_reading (response_in (response_bytes (Refuse key (record { 0 = code })))) ≡ Abort (code_in (response_bytes (Refuse key (record { 0 = code }))))
unfolding response_row_in
refusal_reading key code = refl

pub refusal_fine : (heard : Bool) (t : Transfer) (key : Key) (code : ℕ) (micros id : ℕ) → is_in_sub_block t.stage ≡ false
    → (same_key (key_in (refusal id key code)) t.key || ((code_in (response_bytes (Refuse key (record { 0 = code })))).0 == unknown_command)) ≡ true
    → Fine (refusal id key code) (reads (record { heard = heard; transfer = Some t }) micros Server (response_bytes (Refuse key (record { 0 = code })))).says
refusal_fine heard t key code micros id off fit =
    subst (λ r. Fine (refusal id key code) (follows_by heard (Some t) r micros Server (refusal id key code).bytes).says) (sym (outside_reading t micros (refusal id key code).bytes off ∙ refusal_reading key code))
    (abort_fine heard t (code_in (response_bytes (Refuse key (record { 0 = code })))) micros (refusal id key code) fit)

or_first : (a b : Bool) → a ≡ true → (a || b) ≡ true
or_first true b h = refl
or_first false b h = absurd (false≢true h)

or_second : (a b : Bool) → b ≡ true → (a || b) ≡ true
or_second true b h = refl
or_second false b h = h

-- of the same entry
pub own_fit : (t : Transfer) (key : Key) (code id : ℕ) → key.index < 65536 → key ≡ t.key
    → (same_key (key_in (refusal id key code)) t.key || ((code_in (response_bytes (Refuse key (record { 0 = code })))).0 == unknown_command)) ≡ true
own_fit t key code id small is =
    or_first _ _ (ap (λ k. same_key k t.key) (key_of_refusal id key code small ∙ is) ∙ same_key-refl t.key)

-- or unknown
pub unknown_fit : (t : Transfer) (key : Key) (id : ℕ)
    → (same_key (key_in (refusal id key unknown_command)) t.key || ((code_in (response_bytes (Refuse key (record { 0 = unknown_command })))).0 == unknown_command)) ≡ true
unknown_fit t key id = or_second _ _ refl
