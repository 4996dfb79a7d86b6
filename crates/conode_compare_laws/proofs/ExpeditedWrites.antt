-- What one frame makes of explain's open transfer of an expedited download: it ends as done only with the server's confirmation.
use Rattle.std.proofs.Common.{◌≡◌, ℕ, Bool, true, false, not, List, [], ◌∷◌, take, Option, Some, None, refl, sym, ap, ◌∙◌, ◌⊎◌, inl, inr, subst, arith}
use Rattle.std.specs.Prelude.{◌&&◌, if◌then◌else◌, length, IfSome}
use Rattle.std.proofs.lemmas.Bool.{false≢true}
use Rattle.co_value.specs.declared.key.Key.{Key}
use Rattle.co_value.specs.Keys.{same_key, same_key-is}
use Rattle.co_value.specs.Numbers.{unsigned_of}
use Rattle.co_frame.specs.BlockSegments.{block_segment_in, is_abort_in_sub_block}
use Rattle.co_frame.specs.SdoParts.{code_in}
use Rattle.co_frame.specs.SdoRequests.{request_in}
use Rattle.co_frame.specs.SdoResponses.{response_in}
use Rattle.co_frame.specs.declared.sdo_request.SdoRequest.{SdoRequest}
use Rattle.co_frame.specs.declared.sdo_request.SdoRequest.TheVariants.{DownloadExpedited, DownloadSegment, UploadSegment as NextSegment, BlockUploadEnd as UploadEnd, BlockUploadAcknowledge, BlockUploadStart, BlockDownloadEnd}
use Rattle.co_frame.specs.declared.sdo_response.SdoResponse.{SdoResponse}
use Rattle.co_frame.specs.declared.sdo_response.SdoResponse.TheVariants.{Abort as Refuse, DownloadDone, DownloadSegmentDone, UploadExpedited, UploadInitiated, UploadSegment, BlockDownloadInitiated, BlockDownloadDone, BlockDownloadAcknowledge, BlockUploadInitiated, BlockUploadEnd}
use Rattle.co_sdo.specs.OpenTransfers.{is_initiate as initiates}
use Rattle.conode_explain_transfers.specs.declared.ended.Ending.TheVariants.{Done, Irregular}
use Rattle.conode_explain_transfers.specs.declared.kinds.Direction.TheVariants.{Download}
use Rattle.conode_explain_transfers.specs.declared.kinds.Protocol.TheVariants.{Expedited}
use Rattle.conode_explain_transfers.specs.declared.kinds.Side.{Side}
use Rattle.conode_explain_transfers.specs.declared.kinds.Side.TheVariants.{Client, Server}
use Rattle.conode_explain_transfers.specs.declared.kinds.What.TheVariants as what
use Rattle.conode_explain_transfers.specs.declared.stage.Stage.TheVariants.{Initiated}
use Rattle.conode_explain_transfers.specs.declared.transfer.Transfer.{Transfer}
use Rattle.conode_explain_transfers.specs.BlockTurns.{acknowledged, acknowledged_at, block_ended, block_ended_at, block_segment_at, crc_in, end_confirmed, end_confirmed_at, is_block, upload_started_at}
use Rattle.conode_explain_transfers.specs.Digests.{digest_taking}
use Rattle.conode_explain_transfers.specs.Initiates.{data_of}
use Rattle.conode_explain_transfers.specs.Endings.{size_fault, size_verdict, verdict}
use Rattle.conode_explain_transfers.specs.Followed.{Followed, Following, turns_at}
use Rattle.conode_explain_transfers.specs.Readings.{awaits_segment}
use Rattle.conode_explain_transfers.specs.SegmentedTurns.{answering, confirmed, download_answered, download_segment_at, segment_done_at, upload_request_at, upload_segment_at}
use Rattle.conode_explain_transfers.specs.Stages.{confirmed_with, is_initiated}
use Rattle.conode_explain_transfers.specs.Transfers.{Turn, after, is_download, overtaken, takes_pending, unexpected}
use Rattle.conode_explain_transfers.specs.Unanswered.{is_next_segment}
use Rattle.conode_explain_laws.proofs.Follows.{BegunBy, begun_by, client_no_response, is_response, begun_of}
use Rattle.conode_explain_laws.proofs.Readings.{Reading, Segment, Begin, Abort, Request, Response, Nothing, begun_with, beginning, follows_by, plain_reading, reading_of, response_reading, segment_reading, turn_of, begun_after, begun_on}
use Rattle.conode_explain_laws.proofs.Views.{is_begin, server_no_begin}
use Rattle.conode_compare_pdos.specs.SheetNumbers.{first_word}
use Rattle.conode_compare_nmt.specs.EntriesInForce.{done_word}
use Rattle.conode_compare_laws.specs.ShownWords.{is_expedited_download, number_asked}
use Rattle.conode_compare_laws.proofs.AnswerFollowed.{reads}
use Rattle.conode_compare_laws.proofs.ExpeditedFrames.{After, Fits, Keeps, Suits, aborted_after, begins_no_answer, begun_initiates, begun_suits, client_turn, left_after, less, never_answers, segment_no_answer, server_by, stray_after}
use Rattle.conode_compare_laws.proofs.ShowsWord.{Shown}

-- an expedited download, whose answer is awaited; where it is known to be spoilt
pub record Writes (spoilt : Bool) (t : Transfer) : Type 0 where
  pub stage : t.stage ≡ Initiated
  pub direction : t.direction ≡ Download
  pub protocol : t.protocol ≡ Expedited
  pub odd : spoilt ≡ true → t.irregular ≡ true

-- one that asks for this number: it shows it, where it is done
pub record Sure (word : ℕ) (t : Transfer) : Type 0 where
  pub stage : t.stage ≡ Initiated
  pub direction : t.direction ≡ Download
  pub protocol : t.protocol ≡ Expedited
  pub shows : IfSome (first_word (digest_taking t.taken (Some (take (length t.pending.items) t.pending.items))).first.items) (λ n. n ≡ word)

abbrev pub AllSure : Key → ℕ → Option Transfer → Type 0
AllSure key word o = IfSome o (λ t. Suits key false t ⊎ Sure word t)

asked_word : (word : ℕ) (bytes : List ℕ) → unsigned_of (take 2 bytes) ≡ word → IfSome (first_word (take 64 (take (length bytes) bytes))) (λ n. n ≡ word)
asked_word word [] is = tt
asked_word word (a ∷ []) is = tt
asked_word word (a ∷ b ∷ []) is = omega (arith, is)
asked_word word (a ∷ b ∷ c ∷ []) is = tt
asked_word word (a ∷ b ∷ c ∷ d ∷ []) is = omega (arith, is)
asked_word word (a ∷ b ∷ c ∷ d ∷ e ∷ more) is = tt

-- ---- a turn

pub data Outcome (t : Transfer) (reading : Reading) (turn : Turn) : Type 0 where
  spoils : turn ≡ unexpected t → Outcome t reading turn
  passes : is_response reading ≡ true → turn ≡ overtaken t → Outcome t reading turn
  done : (key : Key) → reading ≡ Response (DownloadDone key) → same_key key t.key ≡ true → turn ≡ takes_pending (confirmed t) (length t.pending.items) → Outcome t reading turn

module _ (t : Transfer) (s : t.stage ≡ Initiated) (down : t.direction ≡ Download) (p : t.protocol ≡ Expedited) where
  no_upload : (x : Turn) → (if is_download t.direction then unexpected t else x) ≡ unexpected t
  no_upload x = ap (λ d. if is_download d then unexpected t else x) down

  no_block : (x : Turn) → (if is_download t.direction && is_block t.protocol then x else unexpected t) ≡ unexpected t
  no_block x = ap (λ d. if is_download d && is_block t.protocol then x else unexpected t) down ∙ ap (λ q. if is_block q then x else unexpected t) p

  answered : (key : Key) (x : Turn) (reading : Reading) → is_response reading ≡ true → (same_key key t.key ≡ true → Outcome t reading x) → Outcome t reading (answering t key x)
  answered key x reading r h =
      subst (λ stage. Outcome t reading (if is_initiated stage then (if same_key key t.key then x else overtaken t) else unexpected t)) (sym s) (by (same_key key t.key) refl)
    where
      by : (b : Bool) → same_key key t.key ≡ b → Outcome t reading (if b then x else overtaken t)
      by true e = h e
      by false e = passes r refl

  by_request : (request : SdoRequest) (bytes : List ℕ) → Outcome t (Request request) (turn_of t (Request request) bytes)
  by_request (DownloadSegment toggle segment last) bytes = spoils (ap (λ x. download_segment_at x t toggle segment last) s)
  by_request (NextSegment toggle) bytes = spoils (ap (λ x. upload_request_at x t toggle) s)
  by_request BlockUploadStart bytes = spoils (ap (λ x. upload_started_at x t) s)
  by_request (BlockUploadAcknowledge sequence size) bytes = spoils (ap (λ d. acknowledged (not (is_download d)) t sequence size) down)
  by_request UploadEnd bytes = spoils (ap (λ d. end_confirmed (not (is_download d)) t) down)
  by_request (BlockDownloadEnd unused) bytes = spoils (ap (λ d. block_ended (is_download d) t unused (crc_in bytes)) down ∙ ap (λ x. block_ended_at x t unused (crc_in bytes)) s)
  by_request _ bytes = spoils refl

  by_response : (response : SdoResponse) (bytes : List ℕ) → Outcome t (Response response) (turn_of t (Response response) bytes)
  by_response (DownloadDone key) bytes =
      answered key _ (Response (DownloadDone key)) refl
      (λ same. done key refl same (ap (λ d. if is_download d then download_answered t t.protocol else unexpected t) down ∙ ap (download_answered t) p))
  by_response (DownloadSegmentDone toggle) bytes = spoils (ap (λ x. segment_done_at x t toggle) s)
  by_response (UploadExpedited key value) bytes = answered key _ (Response (UploadExpedited key value)) refl (λ same. spoils (no_upload _))
  by_response (UploadInitiated key size) bytes = answered key _ (Response (UploadInitiated key size)) refl (λ same. spoils (no_upload _))
  by_response (UploadSegment toggle segment last) bytes = spoils (ap (λ x. upload_segment_at x t toggle segment last) s)
  by_response (BlockDownloadInitiated key size) bytes =
      answered key _ (Response (BlockDownloadInitiated key size)) refl
      (λ same. spoils (no_block _))
  by_response BlockDownloadDone bytes = spoils (ap (λ d. end_confirmed (is_download d) t) down ∙ ap (λ q. if is_block q then end_confirmed_at t.stage t else unexpected t) p)
  by_response (BlockDownloadAcknowledge sequence size) bytes = spoils (ap (λ d. acknowledged (is_download d) t sequence size) down ∙ ap (λ x. acknowledged_at x t sequence size) s)
  by_response (BlockUploadInitiated key size) bytes = answered key _ (Response (BlockUploadInitiated key size)) refl (λ same. spoils (no_upload _))
  by_response (BlockUploadEnd unused) bytes = spoils (ap (λ d. block_ended (not (is_download d)) t unused (crc_in bytes)) down)
  by_response _ bytes = spoils refl

  pub outcome : (reading : Reading) (bytes : List ℕ) → Outcome t reading (turn_of t reading bytes)
  outcome (Segment one) bytes = spoils (ap (λ x. block_segment_at x t one) s ∙ no_block _)
  outcome (Request request) bytes = by_request request bytes
  outcome (Response response) bytes = by_response response bytes
  outcome _ bytes = spoils refl

-- ---- with a confirmation of another entry alone

abbrev pub NotDone : Key → List ℕ → Type 0
NotDone key bytes = (named : Key) → response_in bytes ≡ Some (DownloadDone named) → same_key named key ≡ false

response_is : (r : Option SdoResponse) (key : Key) → response_reading r ≡ Response (DownloadDone key) → r ≡ Some (DownloadDone key)
response_is None key h = absurd (let e : Nothing ≡ Response (DownloadDone key) = h in cc)
response_is (Some (Refuse named code)) key h = absurd (let e : Abort code ≡ Response (DownloadDone key) = h in cc)
response_is (Some other) key h = let e : Response other ≡ Response (DownloadDone key) = h in ap (λ x. Some x) cc

plain_is : (t : Transfer) (micros : ℕ) (bytes : List ℕ) (key : Key) → reading_of (Some t) Server micros bytes ≡ Response (DownloadDone key) → response_in bytes ≡ Some (DownloadDone key)
plain_is t micros bytes key h = by (awaits_segment t Server) (is_abort_in_sub_block bytes) h
  where
    by : (awaited abort : Bool)
        → (if awaited then (if abort then Abort (code_in bytes) else segment_reading t.block_size (block_segment_in bytes) (beginning (plain_reading Server micros bytes))) else plain_reading Server micros bytes) ≡ Response (DownloadDone key)
        → response_in bytes ≡ Some (DownloadDone key)
    by true true h = absurd (never_answers (Abort (code_in bytes)) (DownloadDone key) refl h)
    by true false h = absurd (never_answers _ (DownloadDone key) (segment_no_answer t.block_size (block_segment_in bytes) _ (begins_no_answer (plain_reading Server micros bytes))) h)
    by false abort h = response_is (response_in bytes) key h

-- ---- the open transfer of whatever entry

abbrev pub Held : Key → Bool → Transfer → Type 0
Held key spoilt t = Suits key spoilt t ⊎ Writes spoilt t

abbrev pub Holds : Key → Bool → Option Transfer → Type 0
Holds key spoilt o = IfSome o (Held key spoilt)

pub lifted : (key : Key) (spoilt : Bool) (o : Option Transfer) → Keeps key spoilt o → Holds key spoilt o
lifted key spoilt None h = tt
lifted key spoilt (Some t) h = inl h

pub less_held : (key : Key) (o : Option Transfer) → Holds key true o → Holds key false o
less_held key None h = tt
less_held key (Some t) (inl k) = lifted key false (Some t) (less key (Some t) k)
less_held key (Some t) (inr w) = inr (record { stage = w.stage; direction = w.direction; protocol = w.protocol; odd = λ never. absurd (false≢true never) })

pub record AfterAll (key : Key) (word : ℕ) (spoilt : Bool) (f : Followed) : Type 0 where
  pub ended : IfSome f.says.ended (Shown key word)
  pub next : Holds key spoilt f.next.transfer

module _ (key : Key) (word : ℕ) where
  of_after : (spoilt : Bool) (f : Followed) → After key word spoilt f → AfterAll key word spoilt f
  of_after spoilt f h = record { ended = h.ended; next = lifted key spoilt f.next.transfer h.next }

  spoilt_after : (spoilt heard : Bool) (t : Transfer) (turn : Turn) (micros : ℕ) (side : Side) → t.stage ≡ Initiated → t.direction ≡ Download → t.protocol ≡ Expedited → turn ≡ unexpected t
      → AfterAll key word spoilt (turns_at (confirmed_with turn.transfer.stage) heard turn.what (after t turn) micros side)
  spoilt_after spoilt heard t turn micros side s down p e =
      subst (λ (x : Turn). AfterAll key word spoilt (turns_at (confirmed_with x.transfer.stage) heard x.what (after t x) micros side)) (sym e)
      (subst (λ x. AfterAll key word spoilt (turns_at (confirmed_with x) heard what.Unexpected (after t (unexpected t)) micros side)) (sym s)
      (record { ended = tt; next = inr (record { stage = s; direction = down; protocol = p; odd = λ now. refl }) }))

  passed_after : (spoilt heard : Bool) (t : Transfer) (turn : Turn) (micros : ℕ) → Writes spoilt t → turn ≡ overtaken t
      → AfterAll key word spoilt (turns_at (confirmed_with turn.transfer.stage) heard turn.what (after t turn) micros Server)
  passed_after spoilt heard t turn micros h e =
      subst (λ (x : Turn). AfterAll key word spoilt (turns_at (confirmed_with x.transfer.stage) heard x.what (after t x) micros Server)) (sym e)
      (subst (λ x. AfterAll key word spoilt (turns_at (confirmed_with x) heard what.Overtaken (after t (overtaken t)) micros Server)) (sym h.stage)
      (record { ended = tt; next = inr (record { stage = h.stage; direction = h.direction; protocol = h.protocol; odd = h.odd }) }))

  odd_word : (irregular : Bool) (fault : Option ℕ) (bytes : List ℕ) → irregular ≡ true → IfSome (done_word Expedited (if irregular then Irregular else size_verdict fault (Done false)) bytes) (λ n. n ≡ word)
  odd_word true fault bytes h = tt
  odd_word false fault bytes h = absurd (false≢true h)

  done_after : (spoilt heard : Bool) (t : Transfer) (turn : Turn) (named : Key) (micros : ℕ) (bytes : List ℕ) → Writes spoilt t → same_key named t.key ≡ true → response_in bytes ≡ Some (DownloadDone named)
      → (spoilt ≡ true) ⊎ NotDone key bytes → turn ≡ takes_pending (confirmed t) (length t.pending.items)
      → AfterAll key word spoilt (turns_at (confirmed_with turn.transfer.stage) heard turn.what (after t turn) micros Server)
  done_after spoilt heard t turn named micros bytes h same read f e =
      subst (λ (x : Turn). AfterAll key word spoilt (turns_at (confirmed_with x.transfer.stage) heard x.what (after t x) micros Server)) (sym e)
      (record { ended = λ own. by own f; next = tt })
    where
      u : Transfer
      u = after t (takes_pending (confirmed t) (length t.pending.items))

      by : same_key t.key key ≡ true → (spoilt ≡ true) ⊎ NotDone key bytes → IfSome (done_word u.protocol (verdict u None) u.taken.first.items) (λ n. n ≡ word)
      by own (inl now) =
          subst (λ protocol. IfSome (done_word protocol (verdict u None) u.taken.first.items) (λ n. n ≡ word)) (sym h.protocol) (odd_word u.irregular (size_fault u.size u.taken.count) u.taken.first.items (h.odd now))
      by own (inr never) = absurd (false≢true (sym (never named read) ∙ subst (λ (x : Key). same_key x key ≡ true) (sym (same_key-is named t.key same)) own))

  -- a frame of the server
  written_by : (spoilt heard : Bool) (t : Transfer) (reading : Reading) (micros : ℕ) (bytes : List ℕ) → Writes spoilt t → reading_of (Some t) Server micros bytes ≡ reading → (spoilt ≡ true) ⊎ NotDone key bytes
      → Outcome t reading (turn_of t reading bytes)
      → AfterAll key word spoilt (turns_at (confirmed_with (turn_of t reading bytes).transfer.stage) heard (turn_of t reading bytes).what (after t (turn_of t reading bytes)) micros Server)
  written_by spoilt heard t reading micros bytes h is f (spoils e) = spoilt_after spoilt heard t (turn_of t reading bytes) micros Server h.stage h.direction h.protocol e
  written_by spoilt heard t reading micros bytes h is f (passes r e) = passed_after spoilt heard t (turn_of t reading bytes) micros h e
  written_by spoilt heard t reading micros bytes h is f (done named r same e) = done_after spoilt heard t (turn_of t reading bytes) named micros bytes h same (plain_is t micros bytes named (is ∙ r)) f e

  server_one : (spoilt heard : Bool) (t : Transfer) (reading : Reading) (micros : ℕ) (bytes : List ℕ) → Writes spoilt t → reading_of (Some t) Server micros bytes ≡ reading → (spoilt ≡ true) ⊎ NotDone key bytes
      → AfterAll key word spoilt (follows_by heard (Some t) reading micros Server bytes)
  server_one spoilt heard t (Begin new) micros bytes h is f = absurd (false≢true (sym (server_no_begin (Some t) micros bytes) ∙ ap is_begin is))
  server_one spoilt heard t (Abort code) micros bytes h is f = of_after spoilt _ (aborted_after key word spoilt heard t code micros Server bytes)
  server_one spoilt heard t (Segment one) micros bytes h is f = written_by spoilt heard t (Segment one) micros bytes h is f (outcome t h.stage h.direction h.protocol (Segment one) bytes)
  server_one spoilt heard t (Request one) micros bytes h is f = written_by spoilt heard t (Request one) micros bytes h is f (outcome t h.stage h.direction h.protocol (Request one) bytes)
  server_one spoilt heard t (Response one) micros bytes h is f = written_by spoilt heard t (Response one) micros bytes h is f (outcome t h.stage h.direction h.protocol (Response one) bytes)
  server_one spoilt heard t Nothing micros bytes h is f = written_by spoilt heard t Nothing micros bytes h is f (outcome t h.stage h.direction h.protocol Nothing bytes)

  first_of : (spoilt : Bool) (bytes : List ℕ) → (spoilt ≡ true) ⊎ (Fits key word bytes × NotDone key bytes) → (spoilt ≡ true) ⊎ Fits key word bytes
  first_of spoilt bytes (inl s) = inl s
  first_of spoilt bytes (inr f) = inr f.0

  second_of : (spoilt : Bool) (bytes : List ℕ) → (spoilt ≡ true) ⊎ (Fits key word bytes × NotDone key bytes) → (spoilt ≡ true) ⊎ NotDone key bytes
  second_of spoilt bytes (inl s) = inl s
  second_of spoilt bytes (inr f) = inr f.1

  pub server_all : (spoilt : Bool) (following : Following) (micros : ℕ) (bytes : List ℕ) → Holds key spoilt following.transfer → (spoilt ≡ true) ⊎ (Fits key word bytes × NotDone key bytes)
      → AfterAll key word spoilt (reads following micros Server bytes)
  server_all spoilt following micros bytes k f = by following.transfer k
    where
      by : (o : Option Transfer) → Holds key spoilt o → AfterAll key word spoilt (follows_by following.heard o (reading_of o Server micros bytes) micros Server bytes)
      by None k = of_after spoilt _ (stray_after key word spoilt following.heard (reading_of None Server micros bytes) micros Server bytes (server_no_begin None micros bytes))
      by (Some t) (inl k) = of_after spoilt _ (server_by key word spoilt following.heard t (reading_of (Some t) Server micros bytes) micros bytes k refl (first_of spoilt bytes f))
      by (Some t) (inr h) = server_one spoilt following.heard t (reading_of (Some t) Server micros bytes) micros bytes h refl (second_of spoilt bytes f)

  -- ---- a frame of a client: it begins a transfer, or spoils one whose answer is awaited

  pub data Next (r : Option SdoRequest) (o : Option Transfer) : Type 0 where
    begins : initiates r ≡ true → Keeps key false o → Next r o
    writes : initiates r ≡ true → is_expedited_download key r ≡ true → Holds key false o → (number_asked r ≡ word → AllSure key word o) → Next r o
    goes_on : Holds key true o → Next r o

  pub record HeardAll (r : Option SdoRequest) (f : Followed) : Type 0 where
    pub ended : IfSome f.says.ended (Shown key word)
    pub next : Next r f.next.transfer

  begun_next : (on : Bool) (request : SdoRequest) (micros : ℕ) (bytes : List ℕ) (new : Transfer) → begun_with request micros bytes ≡ Some new → Next (Some request) (begun_on on request micros bytes)
  begun_next on (DownloadExpedited named value) micros bytes new e = by (same_key named key) refl
    where
      by : (b : Bool) → same_key named key ≡ b → Next (Some (DownloadExpedited named value)) (begun_on on (DownloadExpedited named value) micros bytes)
      by true own =
          writes refl own (inr (record { stage = refl; direction = refl; protocol = refl; odd = λ never. absurd (false≢true never) }))
          (λ asked. inr (record { stage = refl; direction = refl; protocol = refl; shows = asked_word word (data_of value) asked }))
      by false other = begins refl (inl other)
  begun_next on request micros bytes new e = begins (begun_initiates key word request micros bytes new e) (begun_suits key word on request micros bytes tt)

  from_all : (r : Option SdoRequest) (f : Followed) → AfterAll key word true f → HeardAll r f
  from_all r f h = record { ended = h.ended; next = goes_on h.next }

  client_turned : (heard : Bool) (t : Transfer) (reading : Reading) (micros : ℕ) (bytes : List ℕ) → Held key false t → is_response reading ≡ false
      → AfterAll key word true (turns_at (confirmed_with (turn_of t reading bytes).transfer.stage) heard (turn_of t reading bytes).what (after t (turn_of t reading bytes)) micros Client)
  client_turned heard t reading micros bytes (inl k) n = of_after true _ (client_turn key word heard t reading micros bytes k n)
  client_turned heard t reading micros bytes (inr h) n = by (outcome t h.stage h.direction h.protocol reading bytes)
    where
      by : Outcome t reading (turn_of t reading bytes)
          → AfterAll key word true (turns_at (confirmed_with (turn_of t reading bytes).transfer.stage) heard (turn_of t reading bytes).what (after t (turn_of t reading bytes)) micros Client)
      by (spoils e) = spoilt_after true heard t (turn_of t reading bytes) micros Client h.stage h.direction h.protocol e
      by (passes r e) = absurd (false≢true (sym n ∙ r))
      by (done named r same e) = absurd (false≢true (sym n ∙ ap is_response r))

  client_by : (heard : Bool) (o : Option Transfer) (reading : Reading) (micros : ℕ) (bytes : List ℕ) → Holds key false o → reading_of o Client micros bytes ≡ reading
      → HeardAll (request_in bytes) (follows_by heard o reading micros Client bytes)
  client_by heard o (Begin new) micros bytes k is =
      let b : BegunBy bytes micros (begun_after o bytes new) = begun_by o micros bytes new is in
      record {
        ended = left_after key word o micros bytes;
        next = subst (λ r. Next r (Some (begun_after o bytes new))) (sym b.is)
            (subst (Next (Some b.request)) (begun_of bytes micros (begun_after o bytes new) b) (begun_next (is_next_segment o bytes) b.request micros bytes _ b.initiates));
      }
  client_by heard None reading micros bytes k is = from_all (request_in bytes) (follows_by heard None reading micros Client bytes) (of_after true _ (stray_after key word true heard reading micros Client bytes refl))
  client_by heard (Some t) (Abort code) micros bytes k is = from_all (request_in bytes) (follows_by heard (Some t) (Abort code) micros Client bytes) (of_after true _ (aborted_after key word true heard t code micros Client bytes))
  client_by heard (Some t) (Segment one) micros bytes k is = from_all (request_in bytes) (follows_by heard (Some t) (Segment one) micros Client bytes) (client_turned heard t (Segment one) micros bytes k refl)
  client_by heard (Some t) (Request one) micros bytes k is = from_all (request_in bytes) (follows_by heard (Some t) (Request one) micros Client bytes) (client_turned heard t (Request one) micros bytes k refl)
  client_by heard (Some t) Nothing micros bytes k is = from_all (request_in bytes) (follows_by heard (Some t) Nothing micros Client bytes) (client_turned heard t Nothing micros bytes k refl)
  client_by heard (Some t) (Response one) micros bytes k is = absurd (false≢true (sym (client_no_response (Some t) micros bytes) ∙ ap is_response is))

  pub client_all : (following : Following) (micros : ℕ) (bytes : List ℕ) → Holds key false following.transfer → HeardAll (request_in bytes) (reads following micros Client bytes)
  client_all following micros bytes k = client_by following.heard following.transfer (reading_of following.transfer Client micros bytes) micros bytes k refl
