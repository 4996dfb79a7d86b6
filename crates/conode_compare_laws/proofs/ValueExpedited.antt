-- An upload that ends expedited for explain has four bytes at most.
use Rattle.std.proofs.Common.{◌≡◌, ℕ, ◌+◌, ◌-◌, ◌≤◌, Bool, true, false, List, length, drop, Option, Some, None, refl, sym, ap, ◌∙◌, subst, arith}
use Rattle.std.specs.Prelude.{if◌then◌else◌, ◌==◌, IfSome}
use Rattle.std.proofs.lemmas.Bool.{eqb-true, false≢true}
use Rattle.std.proofs.lemmas.List.{length-drop, length-take}
use Rattle.co_value.specs.declared.key.Key.{Key}
use Rattle.co_frame.specs.BlockSegments.{block_segment_in, is_abort_in_sub_block}
use Rattle.co_frame.specs.Scs as scs
use Rattle.co_frame.specs.SdoFields.{has_bit, key_in, specifier, subcommand, unused_of_expedited}
use Rattle.co_frame.specs.SdoParts.{code_in, expedited_in}
use Rattle.co_frame.specs.SdoResponses.{block_download_in, block_upload_in, response_in, response_row_in, upload_in}
use Rattle.co_frame.specs.Subcommands as subcommands
use Rattle.co_frame.specs.declared.sdo_request.ExpeditedData.{ExpeditedData}
use Rattle.co_frame.specs.declared.sdo_request.SdoRequest.{SdoRequest}
use Rattle.co_frame.specs.declared.sdo_request.SdoRequest.TheVariants.{DownloadExpedited, DownloadInitiate, Upload as UploadInitiate, BlockUploadInitiate, BlockDownloadInitiate}
use Rattle.co_frame.specs.declared.sdo_response.SdoResponse.{SdoResponse}
use Rattle.co_frame.specs.declared.sdo_response.SdoResponse.TheVariants.{Abort as Refuse, UploadExpedited}
use Rattle.conode_explain_transfers.specs.declared.digest.Digest.{Digest}
use Rattle.conode_explain_transfers.specs.declared.ended.Ended.{Ended}
use Rattle.conode_explain_transfers.specs.declared.kinds.Direction.TheVariants.{Download}
use Rattle.conode_explain_transfers.specs.declared.kinds.Protocol.TheVariants.{Expedited}
use Rattle.conode_explain_transfers.specs.declared.kinds.Side.{Side}
use Rattle.conode_explain_transfers.specs.declared.kinds.Side.TheVariants.{Client, Server}
use Rattle.conode_explain_transfers.specs.declared.kinds.What.{What}
use Rattle.conode_explain_transfers.specs.declared.kinds.What.TheVariants as what
use Rattle.conode_explain_transfers.specs.declared.transfer.Transfer.{Transfer}
use Rattle.conode_explain_transfers.specs.Digests.{counted, digest_taking, no_bytes}
use Rattle.conode_explain_transfers.specs.Followed.{Followed, left, turns_at, with_frame}
use Rattle.conode_explain_transfers.specs.Initiates.{data_of}
use Rattle.conode_explain_transfers.specs.Readings.{awaits_segment}
use Rattle.conode_explain_transfers.specs.Stages.{confirmed_with, is_initiated}
use Rattle.conode_explain_transfers.specs.SegmentedTurns.{confirmed}
use Rattle.conode_explain_transfers.specs.Transfers.{Turn, after, takes_data}
use Rattle.conode_explain_laws.proofs.Follows.{BegunBy, begun_by, begun_of, client_no_response, is_response}
use Rattle.conode_explain_laws.proofs.Kept.{keeps}
use Rattle.conode_explain_laws.proofs.Readings.{Abort, Begin, Nothing, Reading, Request, Response, Segment, begun_after, begun_on, follows_by, plain_reading, reading_of, response_reading, segment_reading, beginning, turn_of}
use Rattle.conode_explain_laws.proofs.Views.{server_no_begin, is_begin}
use Rattle.conode_compare_laws.proofs.Expedited.{Outcome, Still, goes_on, is_expedited, outcome, shows}
use Rattle.conode_compare_laws.proofs.ExpeditedFrames.{begins_no_answer, never_answers, segment_no_answer}

-- ---- the data of an answer

abbrev FewIn : Option SdoResponse → Type 0
FewIn (Some (UploadExpedited key value)) = length (data_of value) ≤ 4
FewIn _ = Unit {0}

either_few : (b : Bool) (x y : Option SdoResponse) → FewIn x → FewIn y → FewIn (if b then x else y)
either_few true x y p q = p
either_few false x y p q = q

few_expedited : (bytes : List ℕ) (key : Key) → length bytes ≡ 8 → FewIn (Some (UploadExpedited key (expedited_in bytes)))
few_expedited bytes key eight = by (has_bit 0 bytes) refl
  where
    rest : length (drop 4 bytes) ≡ 4
    rest = let n = length-drop 4 bytes in omega arith

    by : (b : Bool) → has_bit 0 bytes ≡ b → length (data_of (expedited_in bytes)) ≤ 4
    by true is = rw is (let n = length-take (4 - unused_of_expedited bytes) (drop 4 bytes) in omega arith)
    by false is = rw is (omega (arith, rest))

few_upload : (bytes : List ℕ) → length bytes ≡ 8 → FewIn (Some (upload_in bytes))
few_upload bytes eight = by (has_bit 1 bytes) refl
  where
    by : (b : Bool) → has_bit 1 bytes ≡ b → FewIn (Some (upload_in bytes))
    by true is = rw is (few_expedited bytes (key_in bytes) eight)
    by false is = rw is tt

few_block : (bytes : List ℕ) → FewIn (block_download_in bytes)
few_block bytes =
    either_few (subcommand bytes == subcommands.initiate) _ _ tt (either_few (subcommand bytes == subcommands.end) _ _ tt (either_few (subcommand bytes == subcommands.acknowledge) _ _ tt tt))

few_block_upload : (bytes : List ℕ) → FewIn (Some (block_upload_in bytes))
few_block_upload bytes = by (has_bit 0 bytes) refl
  where
    by : (b : Bool) → has_bit 0 bytes ≡ b → FewIn (Some (block_upload_in bytes))
    by true is = rw is tt
    by false is = rw is tt

few_row : (bytes : List ℕ) → length bytes ≡ 8 → FewIn (response_row_in bytes)
unfolding response_row_in
few_row bytes eight =
    either_few (specifier bytes == scs.upload_segment) _ _ tt
    (either_few (specifier bytes == scs.download_segment) _ _ tt
    (either_few (specifier bytes == scs.initiate_upload) _ _ (few_upload bytes eight)
    (either_few (specifier bytes == scs.initiate_download) _ _ tt
    (either_few (specifier bytes == scs.abort) _ _ tt
    (either_few (specifier bytes == scs.block_download) _ _ (few_block bytes)
    (either_few (specifier bytes == scs.block_upload) _ _ (few_block_upload bytes) tt))))))

few_in : (bytes : List ℕ) → FewIn (response_in bytes)
few_in bytes = by (length bytes == 8) refl
  where
    by : (b : Bool) → (length bytes == 8) ≡ b → FewIn (if b then response_row_in bytes else None)
    by true is = few_row bytes (eqb-true (length bytes) 8 is)
    by false is = tt

-- what is read as one is one
response_is : (r : Option SdoResponse) (key : Key) (value : ExpeditedData) → response_reading r ≡ Response (UploadExpedited key value) → r ≡ Some (UploadExpedited key value)
response_is None key value h = absurd (let e : Nothing ≡ Response (UploadExpedited key value) = h in cc)
response_is (Some (Refuse named code)) key value h = absurd (let e : Abort code ≡ Response (UploadExpedited key value) = h in cc)
response_is (Some other) key value h = let e : Response other ≡ Response (UploadExpedited key value) = h in ap (λ x. Some x) cc

plain_is : (t : Transfer) (micros : ℕ) (bytes : List ℕ) (key : Key) (value : ExpeditedData) → reading_of (Some t) Server micros bytes ≡ Response (UploadExpedited key value) → response_in bytes ≡ Some (UploadExpedited key value)
plain_is t micros bytes key value h = by (awaits_segment t Server) (is_abort_in_sub_block bytes) h
  where
    by : (awaited abort : Bool)
        → (if awaited then (if abort then Abort (code_in bytes) else segment_reading t.block_size (block_segment_in bytes) (beginning (plain_reading Server micros bytes))) else plain_reading Server micros bytes) ≡ Response (UploadExpedited key value)
        → response_in bytes ≡ Some (UploadExpedited key value)
    by true true h = absurd (never_answers (Abort (code_in bytes)) (UploadExpedited key value) refl h)
    by true false h = absurd (never_answers _ (UploadExpedited key value) (segment_no_answer t.block_size (block_segment_in bytes) _ (begins_no_answer (plain_reading Server micros bytes))) h)
    by false abort h = response_is (response_in bytes) key value h

few_data : (t : Transfer) (side : Side) (micros : ℕ) (bytes : List ℕ) (key : Key) (value : ExpeditedData) → reading_of (Some t) side micros bytes ≡ Response (UploadExpedited key value) → length (data_of value) ≤ 4
few_data t Client micros bytes key value is = absurd (false≢true (sym (client_no_response (Some t) micros bytes) ∙ ap is_response is))
few_data t Server micros bytes key value is = subst FewIn (plain_is t micros bytes key value is) (few_in bytes)

-- ---- the open transfer

-- a download, or one that isn't expedited, and of which nothing came before the answer to its request
pub data Lean (t : Transfer) : Type 0 where
  down : t.direction ≡ Download → Lean t
  up : is_expedited t.protocol ≡ false → (is_initiated t.stage ≡ true → t.taken ≡ no_bytes) → Lean t

-- one that ends: a download, or one that isn't expedited, or it has four bytes at most
pub data Small (e : Ended) : Type 0 where
  download : e.direction ≡ Download → Small e
  long : is_expedited e.protocol ≡ false → Small e
  short : e.bytes ≤ 4 → Small e

pub record LeanAfter (f : Followed) : Type 0 where
  pub ended : IfSome f.says.ended Small
  pub next : IfSome f.next.transfer Lean

lean_frame : (w : What) (u : Transfer) (micros : ℕ) (side : Side) → Lean u → Lean (with_frame w u micros side)
lean_frame what.Overtaken u micros side h = h
lean_frame _ u micros side (down d) = down d
lean_frame _ u micros side (up e n) = up e n

small_of : (u : Transfer) (e : Ended) → e.direction ≡ u.direction → e.protocol ≡ u.protocol → Lean u → Small e
small_of u e d p (down is) = download (d ∙ is)
small_of u e d p (up is n) = long (ap is_expedited p ∙ is)

turn_lean : (x : Option (Option ℕ)) (heard : Bool) (w : What) (u : Transfer) (micros : ℕ) (side : Side) → Lean u → LeanAfter (turns_at x heard w u micros side)
turn_lean (Some crc) heard w u micros side h = record { ended = small_of u _ refl refl h; next = tt }
turn_lean None heard w u micros side h = record { ended = tt; next = lean_frame w u micros side h }

counted_few : (n : ℕ) → n ≤ 4 → counted (0 + n) ≤ 4
counted_few n few = omega arith

shows_lean : (heard : Bool) (t : Transfer) (value : ExpeditedData) (micros : ℕ) (side : Side) → t.taken ≡ no_bytes → length (data_of value) ≤ 4
    → LeanAfter (turns_at (Some None) heard what.Part (after t (takes_data (record (confirmed t) { protocol = Expedited; crc = false }) (data_of value))) micros side)
shows_lean heard t value micros side none few = record {
  ended = short (subst (λ (d : Digest). (digest_taking d (Some (data_of value))).count ≤ 4) (sym none) (counted_few (length (data_of value)) few));
  next = tt;
}

by_turn : (heard : Bool) (t : Transfer) (reading : Reading) (micros : ℕ) (side : Side) (bytes : List ℕ) → reading_of (Some t) side micros bytes ≡ reading → Lean t
    → LeanAfter (turns_at (confirmed_with (turn_of t reading bytes).transfer.stage) heard (turn_of t reading bytes).what (after t (turn_of t reading bytes)) micros side)
by_turn heard t reading micros side bytes is (down d) =
    let turn : Turn = turn_of t reading bytes in
    turn_lean (confirmed_with turn.transfer.stage) heard turn.what (after t turn) micros side (down ((keeps t reading bytes).direction ∙ d))
by_turn heard t reading micros side bytes is (up e n) = by (outcome t e reading bytes)
  where
    turn : Turn
    turn = turn_of t reading bytes

    by : Outcome t reading turn → LeanAfter (turns_at (confirmed_with turn.transfer.stage) heard turn.what (after t turn) micros side)
    by (goes_on g) =
        turn_lean (confirmed_with turn.transfer.stage) heard turn.what (after t turn) micros side
        (up g.expedited (λ i. let s : Still false t turn = g.still i in ap (digest_taking t.taken) s.takes ∙ n s.was))
    by (shows key value r same i eq) =
        subst (λ (x : Turn). LeanAfter (turns_at (confirmed_with x.transfer.stage) heard x.what (after t x) micros side)) (sym eq)
        (shows_lean heard t value micros side (n i) (few_data t side micros bytes key value (is ∙ r)))

-- ---- a frame

left_lean : (o : Option Transfer) (micros : ℕ) (bytes : List ℕ) → IfSome o Lean → IfSome (left o micros bytes) Small
left_lean None micros bytes h = tt
left_lean (Some t) micros bytes h = small_of t _ refl refl h

begun_lean : (on : Bool) (request : SdoRequest) (micros : ℕ) (bytes : List ℕ) → IfSome (begun_on on request micros bytes) Lean
begun_lean on (DownloadExpedited key value) micros bytes = down refl
begun_lean on (DownloadInitiate key size) micros bytes = down refl
begun_lean on (UploadInitiate key) micros bytes = up refl (λ i. refl)
begun_lean on (BlockUploadInitiate key size threshold) micros bytes = up refl (λ i. refl)
begun_lean on (BlockDownloadInitiate key size) micros bytes = down refl
begun_lean on _ micros bytes = tt

begin_lean : (heard : Bool) (current : Option Transfer) (side : Side) (micros : ℕ) (bytes : List ℕ) (new : Transfer) → reading_of current side micros bytes ≡ Begin new → IfSome current Lean
    → LeanAfter (follows_by heard current (Begin new) micros side bytes)
begin_lean heard current Server micros bytes new is h = absurd (false≢true (sym (server_no_begin current micros bytes) ∙ ap is_begin is))
begin_lean heard current Client micros bytes new is h =
    let b : BegunBy bytes micros (begun_after current bytes new) = begun_by current micros bytes new is in
    record { ended = left_lean current micros bytes h; next = subst (λ o. IfSome o Lean) (begun_of bytes micros (begun_after current bytes new) b) (begun_lean _ b.request micros bytes) }

pub lean_after : (heard : Bool) (current : Option Transfer) (reading : Reading) (side : Side) (micros : ℕ) (bytes : List ℕ) → reading_of current side micros bytes ≡ reading → IfSome current Lean
    → LeanAfter (follows_by heard current reading micros side bytes)
lean_after heard current (Begin new) side micros bytes is h = begin_lean heard current side micros bytes new is h
lean_after heard None _ side micros bytes is h = record { ended = tt; next = tt }
lean_after heard (Some t) (Abort code) side micros bytes is h = record { ended = small_of t _ refl refl h; next = tt }
lean_after heard (Some t) (Segment one) side micros bytes is h = by_turn heard t (Segment one) micros side bytes is h
lean_after heard (Some t) (Request one) side micros bytes is h = by_turn heard t (Request one) micros side bytes is h
lean_after heard (Some t) (Response one) side micros bytes is h = by_turn heard t (Response one) micros side bytes is h
lean_after heard (Some t) Nothing side micros bytes is h = by_turn heard t Nothing micros side bytes is h
