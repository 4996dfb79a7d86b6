-- One frame of the channel: what a transfer of an entry shows that ends with it, where no client asks to write that at once, and each answer
-- with its data has this number.
use Rattle.std.proofs.Common.{◌≡◌, ℕ, Bool, true, false, List, take, Option, Some, None, refl, sym, ap, ◌∙◌, ◌⊎◌, inl, inr, subst}
use Rattle.std.specs.Prelude.{if◌then◌else◌, nat_le, IfSome}
use Rattle.std.proofs.lemmas.Bool.{false≢true}
use Rattle.co_value.specs.declared.key.Key.{Key}
use Rattle.co_value.specs.Keys.{same_key, same_key-is}
use Rattle.co_frame.specs.SdoResponses.{response_in}
use Rattle.co_frame_aborts.specs.declared.abort_code.AbortCode.{AbortCode}
use Rattle.co_frame.specs.declared.block_segment.BlockSegment.{BlockSegment}
use Rattle.co_frame.specs.declared.sdo_request.ExpeditedData.{ExpeditedData}
use Rattle.co_frame.specs.declared.sdo_request.SdoRequest.{SdoRequest}
use Rattle.co_frame.specs.declared.sdo_request.SdoRequest.TheVariants.{DownloadExpedited, DownloadInitiate, Upload as UploadInitiate, BlockUploadInitiate, BlockDownloadInitiate}
use Rattle.co_frame.specs.declared.sdo_response.SdoResponse.{SdoResponse}
use Rattle.co_frame.specs.declared.sdo_response.SdoResponse.TheVariants.{Abort as Refuse, UploadExpedited}
use Rattle.co_sdo.specs.OpenTransfers.{is_initiate as initiates}
use Rattle.conode_explain_transfers.specs.declared.ended.Ended.{Ended}
use Rattle.conode_explain_transfers.specs.declared.ended.Ending.{Ending}
use Rattle.conode_explain_transfers.specs.declared.ended.Ending.TheVariants.{Done, Irregular, Repeated, NotFollowed}
use Rattle.conode_explain_transfers.specs.declared.kinds.Protocol.{Protocol}
use Rattle.conode_explain_transfers.specs.declared.kinds.Protocol.TheVariants.{Expedited}
use Rattle.conode_explain_transfers.specs.declared.kinds.Side.{Side}
use Rattle.conode_explain_transfers.specs.declared.kinds.Side.TheVariants.{Client, Server}
use Rattle.conode_explain_transfers.specs.declared.kinds.What.{What}
use Rattle.conode_explain_transfers.specs.declared.kinds.What.TheVariants as what
use Rattle.conode_explain_transfers.specs.declared.transfer.Transfer.{Transfer}
use Rattle.conode_explain_transfers.specs.Digests.{digest_taking, no_bytes}
use Rattle.conode_explain_transfers.specs.Endings.{ended, size_fault, size_verdict, verdict}
use Rattle.conode_explain_transfers.specs.Followed.{Followed, Following, abort_ending, left, left_by, left_ending, one_more, turns_at, with_frame}
use Rattle.conode_explain_transfers.specs.Initiates.{data_of}
use Rattle.conode_explain_transfers.specs.Readings.{awaits_segment}
use Rattle.conode_explain_transfers.specs.SegmentedTurns.{confirmed}
use Rattle.conode_explain_transfers.specs.Stages.{confirmed_with, is_initiated}
use Rattle.conode_explain_transfers.specs.Transfers.{Turn, after, is_same_request, takes_data}
use Rattle.conode_explain_transfers.specs.Unanswered.{is_lost, not_followed_by, number_of, segment_follows}
use Rattle.conode_explain_laws.proofs.Follows.{is_response}
use Rattle.conode_explain_laws.proofs.Readings.{Reading, Segment, Begin, Abort, Request, Response, Nothing, begun_with, beginning, follows_by, plain_reading, reading_of, response_reading, segment_reading, turn_of, begun_on}
use Rattle.conode_explain_laws.proofs.Views.{is_begin, server_no_begin}
use Rattle.co_frame.specs.BlockSegments.{block_segment_in, is_abort_in_sub_block}
use Rattle.co_frame.specs.SdoParts.{code_in}
use Rattle.conode_compare_pdos.specs.SheetNumbers.{first_word}
use Rattle.conode_compare_nmt.specs.EntriesInForce.{done_word}
use Rattle.conode_compare_laws.proofs.AnswerFollowed.{reads}
use Rattle.conode_compare_laws.proofs.AnswerKeys.{kept}
use Rattle.conode_compare_laws.proofs.Expedited.{Goes, Outcome, Still, client_goes, goes_on, is_expedited, outcome, shows}
use Rattle.conode_compare_laws.proofs.NamedKeys.{Differs}
use Rattle.conode_compare_laws.proofs.ShowsWord.{Shown}

-- ---- ends that show nothing

not_expedited : (protocol : Protocol) (ending : Ending) (bytes : List ℕ) → is_expedited protocol ≡ false → done_word protocol ending bytes ≡ None
not_expedited Expedited ending bytes n = absurd (false≢true (sym n))
not_expedited _ ending bytes n = refl

abbrev is_done : Ending → Bool
is_done (Done crc) = true
is_done _ = false

not_done : (protocol : Protocol) (ending : Ending) (bytes : List ℕ) → is_done ending ≡ false → done_word protocol ending bytes ≡ None
not_done Expedited (Done crc) bytes n = absurd (false≢true (sym n))
not_done Expedited _ bytes n = refl
not_done _ ending bytes n = refl

shown_none : (key : Key) (word : ℕ) (e : Ended) → done_word e.protocol e.ending e.first.items ≡ None → Shown key word e
shown_none key word e none = λ same. subst (λ o. IfSome o (λ n. n ≡ word)) (sym none) tt

left_off : (t : Transfer) (bytes : List ℕ) → is_done (left_ending t bytes) ≡ false
left_off t bytes = by (segment_follows t bytes) (is_lost t) (is_same_request t bytes) t.by
  where
    by : (follows lost same : Bool) (side : Side)
        → is_done (if follows then NotFollowed (Some (number_of bytes)) else (if lost then NotFollowed None else (if same then Repeated else left_by side))) ≡ false
    by true lost same side = refl
    by false true same side = refl
    by false false true side = refl
    by false false false Client = refl
    by false false false Server = refl

abort_off : (side : Side) (segment : Option (Option ℕ)) (code : AbortCode) → is_done (abort_ending side segment code) ≡ false
abort_off side None code = refl
abort_off side (Some next) code = refl

-- ---- the open transfer: of another entry, or one that isn't expedited, and of which nothing came before the answer to its request;
-- where that is awaited still, it may be known to be spoilt

pub record Waits (spoilt : Bool) (t : Transfer) : Type 0 where
  pub unconfirmed : confirmed_with t.stage ≡ None
  pub expedited : is_expedited t.protocol ≡ false
  pub taken : is_initiated t.stage ≡ true → t.taken ≡ no_bytes
  pub odd : spoilt ≡ true → is_initiated t.stage ≡ true → t.irregular ≡ true

abbrev pub Suits : Key → Bool → Transfer → Type 0
Suits key spoilt t = Differs key t.key ⊎ Waits spoilt t

abbrev pub Keeps : Key → Bool → Option Transfer → Type 0
Keeps key spoilt o = IfSome o (Suits key spoilt)

pub less : (key : Key) (o : Option Transfer) → Keeps key true o → Keeps key false o
less key None h = tt
less key (Some t) (inl d) = inl d
less key (Some t) (inr w) = inr (record { unconfirmed = w.unconfirmed; expedited = w.expedited; taken = w.taken; odd = λ never. absurd (false≢true never) })

-- after a frame
pub record After (key : Key) (word : ℕ) (spoilt : Bool) (f : Followed) : Type 0 where
  pub ended : IfSome f.says.ended (Shown key word)
  pub next : Keeps key spoilt f.next.transfer

-- ---- an answer with data has this number

abbrev pub Fits : Key → ℕ → List ℕ → Type 0
Fits key word bytes = (named : Key) (value : ExpeditedData) → response_in bytes ≡ Some (UploadExpedited named value) → same_key named key ≡ true → IfSome (first_word (take 64 (data_of value))) (λ n. n ≡ word)

-- what is read as one is one
response_is : (r : Option SdoResponse) (key : Key) (value : ExpeditedData) → response_reading r ≡ Response (UploadExpedited key value) → r ≡ Some (UploadExpedited key value)
response_is None key value h = absurd (let e : Nothing ≡ Response (UploadExpedited key value) = h in cc)
response_is (Some (Refuse named code)) key value h = absurd (let e : Abort code ≡ Response (UploadExpedited key value) = h in cc)
response_is (Some other) key value h = let e : Response other ≡ Response (UploadExpedited key value) = h in ap (λ x. Some x) cc

abbrev pub is_answer : Reading → Bool
is_answer (Response response) = true
is_answer _ = false

pub begins_no_answer : (reading : Reading) → is_answer (beginning reading) ≡ false
begins_no_answer (Begin new) = refl
begins_no_answer _ = refl

pub segment_no_answer : (block_size : ℕ) (segment : Option BlockSegment) (otherwise : Reading) → is_answer otherwise ≡ false → is_answer (segment_reading block_size segment otherwise) ≡ false
segment_no_answer block_size None otherwise h = h
segment_no_answer block_size (Some segment) otherwise h = by (nat_le segment.sequence block_size)
  where
    by : (b : Bool) → is_answer (if b then Segment segment else otherwise) ≡ false
    by true = refl
    by false = h

pub never_answers : (reading : Reading) (response : SdoResponse) → is_answer reading ≡ false → reading ≡ Response response → ⊥
never_answers reading response off is = false≢true (sym off ∙ ap is_answer is)

plain_is : (t : Transfer) (micros : ℕ) (bytes : List ℕ) (key : Key) (value : ExpeditedData) → reading_of (Some t) Server micros bytes ≡ Response (UploadExpedited key value) → response_in bytes ≡ Some (UploadExpedited key value)
plain_is t micros bytes key value h = by (awaits_segment t Server) (is_abort_in_sub_block bytes) h
  where
    by : (awaited abort : Bool)
        → (if awaited then (if abort then Abort (code_in bytes) else segment_reading t.block_size (block_segment_in bytes) (beginning (plain_reading Server micros bytes))) else plain_reading Server micros bytes) ≡ Response (UploadExpedited key value)
        → response_in bytes ≡ Some (UploadExpedited key value)
    by true true h = absurd (never_answers (Abort (code_in bytes)) (UploadExpedited key value) refl h)
    by true false h = absurd (never_answers _ (UploadExpedited key value) (segment_no_answer t.block_size (block_segment_in bytes) _ (begins_no_answer (plain_reading Server micros bytes))) h)
    by false abort h = response_is (response_in bytes) key value h

-- ---- a turn

module _ (key : Key) (word : ℕ) where
  frame_waits : (spoilt : Bool) (w : What) (u : Transfer) (micros : ℕ) (side : Side) → Suits key spoilt u → Suits key spoilt (with_frame w u micros side)
  frame_waits spoilt what.Overtaken u micros side h = h
  frame_waits spoilt _ u micros side (inl d) = inl d
  frame_waits spoilt _ u micros side (inr h) = inr (record { unconfirmed = h.unconfirmed; expedited = h.expedited; taken = h.taken; odd = h.odd })

  -- after a turn by which nothing ends expedited
  turn_after : (spoilt : Bool) (x : Option (Option ℕ)) (heard : Bool) (w : What) (u : Transfer) (micros : ℕ) (side : Side) → is_expedited u.protocol ≡ false → (x ≡ None → Suits key spoilt u)
      → After key word spoilt (turns_at x heard w u micros side)
  turn_after spoilt (Some crc) heard w u micros side e h = record {
    ended = shown_none key word (ended (one_more u) micros (verdict u crc)) (not_expedited u.protocol (verdict u crc) _ e);
    next = tt;
  }
  turn_after spoilt None heard w u micros side e h = record { ended = tt; next = frame_waits spoilt w u micros side (h refl) }

  goes_after : (strict spoilt : Bool) (heard : Bool) (t : Transfer) (turn : Turn) (micros : ℕ) (side : Side) → Waits spoilt t → Goes strict t turn
      → ((next : Bool) → (next ≡ true → (strict ≡ true) ⊎ (spoilt ≡ true)) → After key word next (turns_at (confirmed_with turn.transfer.stage) heard turn.what (after t turn) micros side))
  goes_after strict spoilt heard t turn micros side h g next from =
      turn_after next (confirmed_with turn.transfer.stage) heard turn.what (after t turn) micros side g.expedited
      (λ none. inr (record {
        unconfirmed = none;
        expedited = g.expedited;
        taken = λ i. let s : Still strict t turn = g.still i in ap (digest_taking t.taken) s.takes ∙ h.taken s.was;
        odd = λ now i. let s : Still strict t turn = g.still i in s.spoilt (by s.was (from now));
      }))
    where
      by : is_initiated t.stage ≡ true → (strict ≡ true) ⊎ (spoilt ≡ true) → (strict ≡ true) ⊎ (t.irregular ≡ true)
      by was (inl s) = inl s
      by was (inr s) = inr (h.odd s was)

  -- the answer with all its data
  data_word : (irregular : Bool) (fault : Option ℕ) (bytes : List ℕ) → IfSome (first_word bytes) (λ n. n ≡ word)
      → IfSome (done_word Expedited (if irregular then Irregular else size_verdict fault (Done false)) bytes) (λ n. n ≡ word)
  data_word true fault bytes h = tt
  data_word false None bytes h = h
  data_word false (Some size) bytes h = tt

  odd_word : (irregular : Bool) (fault : Option ℕ) (bytes : List ℕ) → irregular ≡ true → IfSome (done_word Expedited (if irregular then Irregular else size_verdict fault (Done false)) bytes) (λ n. n ≡ word)
  odd_word true fault bytes h = tt
  odd_word false fault bytes h = absurd (false≢true h)

  -- the transfer with it
  abbrev with_data : Transfer → List ℕ → Transfer
  with_data t bytes = after t (takes_data (record (confirmed t) { protocol = Expedited; crc = false }) bytes)

  shows_after : (spoilt : Bool) (heard : Bool) (t : Transfer) (named : Key) (value : ExpeditedData) (micros : ℕ) (bytes : List ℕ) → Waits spoilt t → same_key named t.key ≡ true → is_initiated t.stage ≡ true
      → response_in bytes ≡ Some (UploadExpedited named value) → (spoilt ≡ true) ⊎ Fits key word bytes
      → After key word spoilt (turns_at (Some None) heard what.Part (with_data t (data_of value)) micros Server)
  shows_after spoilt heard t named value micros bytes h same i read f = record { ended = λ own. by own f; next = tt }
    where
      u : Transfer
      u = with_data t (data_of value)

      first_is : u.taken.first.items ≡ take 64 (data_of value)
      first_is = ap (λ d. (digest_taking d (Some (data_of value))).first.items) (h.taken i)

      by : same_key t.key key ≡ true → (spoilt ≡ true) ⊎ Fits key word bytes
          → IfSome (done_word Expedited (if u.irregular then Irregular else size_verdict (size_fault u.size u.taken.count) (Done false)) u.taken.first.items) (λ n. n ≡ word)
      by own (inl s) = odd_word u.irregular (size_fault u.size u.taken.count) u.taken.first.items (h.odd s i)
      by own (inr f) =
          data_word u.irregular (size_fault u.size u.taken.count) u.taken.first.items
          (subst (λ (xs : List ℕ). IfSome (first_word xs) (λ n. n ≡ word)) (sym first_is)
          (f named value read (subst (λ (x : Key). same_key x key ≡ true) (sym (same_key-is named t.key same)) own)))

  turned_after : (spoilt : Bool) (heard : Bool) (t : Transfer) (reading : Reading) (micros : ℕ) (bytes : List ℕ) → Waits spoilt t → reading_of (Some t) Server micros bytes ≡ reading → (spoilt ≡ true) ⊎ Fits key word bytes
      → Outcome t reading (turn_of t reading bytes)
      → After key word spoilt (turns_at (confirmed_with (turn_of t reading bytes).transfer.stage) heard (turn_of t reading bytes).what (after t (turn_of t reading bytes)) micros Server)
  turned_after spoilt heard t reading micros bytes h is f (goes_on g) = goes_after false spoilt heard t (turn_of t reading bytes) micros Server h g spoilt (λ s. inr s)
  turned_after spoilt heard t reading micros bytes h is f (shows named value r same i e) =
      subst (λ (turn : Turn). After key word spoilt (turns_at (confirmed_with turn.transfer.stage) heard turn.what (after t turn) micros Server)) (sym e)
      (shows_after spoilt heard t named value micros bytes h same i (plain_is t micros bytes named value (is ∙ r)) f)

  -- ---- another entry's

  differs_turn : (spoilt : Bool) (x : Option (Option ℕ)) (heard : Bool) (w : What) (u : Transfer) (micros : ℕ) (side : Side) → Differs key u.key → After key word spoilt (turns_at x heard w u micros side)
  differs_turn spoilt (Some crc) heard w u micros side d = record { ended = λ own. absurd (false≢true (sym d ∙ own)); next = tt }
  differs_turn spoilt None heard w u micros side d = record { ended = tt; next = frame_waits spoilt w u micros side (inl d) }

  differs_after : (spoilt : Bool) (heard : Bool) (t : Transfer) (turn : Turn) (micros : ℕ) (side : Side) → turn.transfer.key ≡ t.key → Differs key t.key
      → After key word spoilt (turns_at (confirmed_with turn.transfer.stage) heard turn.what (after t turn) micros side)
  differs_after spoilt heard t turn micros side is d =
      differs_turn spoilt (confirmed_with turn.transfer.stage) heard turn.what (after t turn) micros side (subst (Differs key) (sym is) d)

  pub aborted_after : (spoilt : Bool) (heard : Bool) (t : Transfer) (code : AbortCode) (micros : ℕ) (side : Side) (bytes : List ℕ) → After key word spoilt (follows_by heard (Some t) (Abort code) micros side bytes)
  aborted_after spoilt heard t code micros side bytes = record {
    ended = shown_none key word (ended (one_more t) micros (abort_ending side (not_followed_by side t bytes) code)) (not_done t.protocol (abort_ending side (not_followed_by side t bytes) code) _ (abort_off side (not_followed_by side t bytes) code));
    next = tt;
  }

  -- ---- a frame of the server

  pub server_by : (spoilt : Bool) (heard : Bool) (t : Transfer) (reading : Reading) (micros : ℕ) (bytes : List ℕ) → Suits key spoilt t → reading_of (Some t) Server micros bytes ≡ reading → (spoilt ≡ true) ⊎ Fits key word bytes
      → After key word spoilt (follows_by heard (Some t) reading micros Server bytes)
  server_by spoilt heard t (Begin new) micros bytes s is f = absurd (false≢true (sym (server_no_begin (Some t) micros bytes) ∙ ap is_begin is))
  server_by spoilt heard t (Abort code) micros bytes s is f = aborted_after spoilt heard t code micros Server bytes
  server_by spoilt heard t (Segment one) micros bytes (inl d) is f = differs_after spoilt heard t (turn_of t (Segment one) bytes) micros Server (kept t (Segment one) bytes).key d
  server_by spoilt heard t (Request one) micros bytes (inl d) is f = differs_after spoilt heard t (turn_of t (Request one) bytes) micros Server (kept t (Request one) bytes).key d
  server_by spoilt heard t (Response one) micros bytes (inl d) is f = differs_after spoilt heard t (turn_of t (Response one) bytes) micros Server (kept t (Response one) bytes).key d
  server_by spoilt heard t Nothing micros bytes (inl d) is f = differs_after spoilt heard t (turn_of t Nothing bytes) micros Server (kept t Nothing bytes).key d
  server_by spoilt heard t (Segment one) micros bytes (inr h) is f = turned_after spoilt heard t (Segment one) micros bytes h is f (outcome t h.expedited (Segment one) bytes)
  server_by spoilt heard t (Request one) micros bytes (inr h) is f = turned_after spoilt heard t (Request one) micros bytes h is f (outcome t h.expedited (Request one) bytes)
  server_by spoilt heard t (Response one) micros bytes (inr h) is f = turned_after spoilt heard t (Response one) micros bytes h is f (outcome t h.expedited (Response one) bytes)
  server_by spoilt heard t Nothing micros bytes (inr h) is f = turned_after spoilt heard t Nothing micros bytes h is f (outcome t h.expedited Nothing bytes)

  pub stray_after : (spoilt : Bool) (heard : Bool) (reading : Reading) (micros : ℕ) (side : Side) (bytes : List ℕ) → is_begin reading ≡ false → After key word spoilt (follows_by heard None reading micros side bytes)
  stray_after spoilt heard (Begin new) micros side bytes n = absurd (false≢true (sym n))
  stray_after spoilt heard _ micros side bytes n = record { ended = tt; next = tt }

  pub server_after : (spoilt : Bool) (following : Following) (micros : ℕ) (bytes : List ℕ) → Keeps key spoilt following.transfer → (spoilt ≡ true) ⊎ Fits key word bytes → After key word spoilt (reads following micros Server bytes)
  server_after spoilt following micros bytes k f = by following.transfer k
    where
      by : (o : Option Transfer) → Keeps key spoilt o → After key word spoilt (follows_by following.heard o (reading_of o Server micros bytes) micros Server bytes)
      by None k = stray_after spoilt following.heard (reading_of None Server micros bytes) micros Server bytes (server_no_begin None micros bytes)
      by (Some t) k = server_by spoilt following.heard t (reading_of (Some t) Server micros bytes) micros bytes k refl f

  -- ---- a frame of a client

  -- it doesn't ask to write the entry at once
  abbrev pub WritesNone : Option SdoRequest → Type 0
  WritesNone (Some (DownloadExpedited named value)) = Differs key named
  WritesNone _ = Unit {0}

  pub begun_suits : (on : Bool) (request : SdoRequest) (micros : ℕ) (bytes : List ℕ) → WritesNone (Some request) → Keeps key false (begun_on on request micros bytes)
  begun_suits on (DownloadExpedited named value) micros bytes n = inl n
  begun_suits on (DownloadInitiate named size) micros bytes n = inr (record { unconfirmed = refl; expedited = refl; taken = λ i. refl; odd = λ never. absurd (false≢true never) })
  begun_suits on (UploadInitiate named) micros bytes n = inr (record { unconfirmed = refl; expedited = refl; taken = λ i. refl; odd = λ never. absurd (false≢true never) })
  begun_suits on (BlockUploadInitiate named size threshold) micros bytes n = inr (record { unconfirmed = refl; expedited = refl; taken = λ i. refl; odd = λ never. absurd (false≢true never) })
  begun_suits on (BlockDownloadInitiate named size) micros bytes n = inr (record { unconfirmed = refl; expedited = refl; taken = λ i. refl; odd = λ never. absurd (false≢true never) })
  begun_suits on _ micros bytes n = tt

  pub begun_initiates : (request : SdoRequest) (micros : ℕ) (bytes : List ℕ) (new : Transfer) → begun_with request micros bytes ≡ Some new → initiates (Some request) ≡ true
  begun_initiates (DownloadExpedited named value) micros bytes new e = refl
  begun_initiates (DownloadInitiate named size) micros bytes new e = refl
  begun_initiates (UploadInitiate named) micros bytes new e = refl
  begun_initiates (BlockUploadInitiate named size threshold) micros bytes new e = refl
  begun_initiates (BlockDownloadInitiate named size) micros bytes new e = refl
  begun_initiates _ micros bytes new e = absurd (let f : None ≡ Some new = e in cc)

  pub left_after : (o : Option Transfer) (micros : ℕ) (bytes : List ℕ) → IfSome (left o micros bytes) (Shown key word)
  left_after None micros bytes = tt
  left_after (Some t) micros bytes = shown_none key word (ended t micros (left_ending t bytes)) (not_done t.protocol (left_ending t bytes) _ (left_off t bytes))

  -- which begins no transfer: one that awaits the answer to its request is spoilt
  pub client_turn : (heard : Bool) (t : Transfer) (reading : Reading) (micros : ℕ) (bytes : List ℕ) → Suits key false t → is_response reading ≡ false
      → After key word true (turns_at (confirmed_with (turn_of t reading bytes).transfer.stage) heard (turn_of t reading bytes).what (after t (turn_of t reading bytes)) micros Client)
  client_turn heard t reading micros bytes (inl d) n = differs_after true heard t (turn_of t reading bytes) micros Client (kept t reading bytes).key d
  client_turn heard t reading micros bytes (inr h) n =
      goes_after true false heard t (turn_of t reading bytes) micros Client h (client_goes t h.expedited reading bytes n) true (λ s. inl refl)
