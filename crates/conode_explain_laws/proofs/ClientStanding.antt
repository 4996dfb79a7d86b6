-- What explain's open transfer and the client's have to do with one another while the client waits: `Sync`; and what holds after an
-- answer with what the client sends to it, by its verdict.
--
-- `Loose` says which of the two laws it is for: where it holds, explain may lose what the client goes on with (a frame that hasn't
-- eight bytes, a sub-block whose numbers don't go up), and such a transfer isn't done. Where it doesn't, both always are as far.
use Rattle.std.proofs.Common.{◌≡◌, ℕ, suc, ◌+◌, ◌*◌, ◌-◌, ◌^◌, ◌<◌, ◌≤◌, Bool, true, false, List, [], ◌∷◌, ◌++◌, length, take, Option, Some, None, refl, sym, ◌∙◌, ◌⊎◌, inl, inr, arith}
use Rattle.std.specs.Prelude.{if◌then◌else◌, IfSome, min, ◌==◌}
use Rattle.std.proofs.lemmas.Bool.Decides.{nat_tests}
use Rattle.co_frame.specs.Segments.{is_odd, part_after, segment_count}
use Rattle.co_sdo_client.specs.declared.mode.Mode.{Mode}
use Rattle.co_sdo_client.specs.declared.stage.Stage.{Stage}
use Rattle.co_sdo_client.specs.declared.stage.Stage.TheVariants.{Begun, Download as Sending, Upload as Taking, BlockDownload as SendingBlock, BlockDownloadEnded as EndAsked, SubBlock as InSubBlockStage, LastTaken}
use Rattle.co_sdo_client.specs.declared.state.ClientState.{ClientState}
use Rattle.co_sdo_client.specs.declared.state.ClientState.TheVariants.{Waiting}
use Rattle.co_sdo_client.specs.Calls.{Job, Download as Write, Upload as Read, Call, Message}
use Rattle.co_sdo_client.specs.Segments.{bytes_of, size_sent, transfer_of, transfer_by, is_last_after}
use Rattle.co_sdo_client.specs.Verdicts.{Verdict, Ends, GivesUp, unless_fault}
use Rattle.co_sdo_client.specs.Outcomes.{state_by, messages_by}
use Rattle.co_sdo_laws.specs.Undisturbed.{IsJob}
use Rattle.co_sdo_laws.proofs.Permits.{sends_at_once, sends_in_segments, sends_in_blocks, reads_in_segments, reads_in_blocks}
use Rattle.conode_explain_transfers.specs.declared.ended.Ending.TheVariants.{Irregular, SizeDiffers}
use Rattle.conode_explain_transfers.specs.declared.kinds.Direction.TheVariants.{Download, Upload}
use Rattle.conode_explain_transfers.specs.declared.kinds.Protocol.{Protocol}
use Rattle.conode_explain_transfers.specs.declared.kinds.Protocol.TheVariants.{Expedited, Segmented, Block}
use Rattle.conode_explain_transfers.specs.declared.kinds.Side.{Side}
use Rattle.conode_explain_transfers.specs.declared.stage.Stage.TheVariants.{Initiated, DownloadSent, UploadAsked, SubBlock, AllAcknowledged, BlockEnded}
use Rattle.conode_explain_transfers.specs.declared.transfer.Transfer.{Transfer}
use Rattle.conode_explain_transfers.specs.Digests.{counted}
use Rattle.conode_explain_transfers.specs.Endings.{size_fault}
use Rattle.conode_explain_transfers.specs.Followed.{turns_at}
use Rattle.conode_explain_transfers.specs.Stages.{confirmed_with}
use Rattle.conode_explain_transfers.specs.Data.{data_with}
use Rattle.conode_explain_transfers.specs.Transfers.{Turn, after}
use Rattle.conode_explain_laws.specs.Downloads.{if_done}
use Rattle.conode_explain_laws.specs.Clients.{Transferred, refuses, transfer_said, direction_of, bytes_transferred}
use Rattle.conode_explain_laws.proofs.UploadBlocks.{first_data}
use Rattle.conode_explain_laws.proofs.ClientViews.{Seen, says, client_closes, turned, IsLost}

-- ---- both are as far

-- no frame was missing, or explain may lose it
abbrev pub IsTrack : Type 0 → Transfer → Type 0
IsTrack Loose t = (Loose × (t.irregular ≡ true)) ⊎ (t.irregular ≡ false)

-- explain's is the client's download
pub record IsDownload (Loose : Type 0) (call : Call) (t : Transfer) : Type 0 where
  pub direction : t.direction ≡ Download
  pub job : direction_of call.job ≡ Download
  pub key : t.key ≡ call.key
  pub track : IsTrack Loose t

-- it is the client's upload, and regular
pub record IsUpload (call : Call) (t : Transfer) : Type 0 where
  pub direction : t.direction ≡ Upload
  pub job : direction_of call.job ≡ Upload
  pub key : t.key ≡ call.key
  pub regular : t.irregular ≡ false

-- the answer to an expedited download is awaited
pub record IsAtOnce (Loose : Type 0) (call : Call) (t : Transfer) : Type 0 where
  pub is : IsDownload Loose call t
  pub transfer : transfer_of call ≡ transfer_by sends_at_once.0 sends_at_once.1
  pub stage : t.stage ≡ Initiated
  pub protocol : t.protocol ≡ Expedited
  pub size : t.size ≡ None
  pub pending : t.pending.items ≡ bytes_of call.job

-- that to initiate of a segmented download
pub record IsBegun (Loose : Type 0) (call : Call) (t : Transfer) : Type 0 where
  pub is : IsDownload Loose call t
  pub transfer : transfer_of call ≡ transfer_by sends_in_segments.0 sends_in_segments.1
  pub stage : t.stage ≡ Initiated
  pub protocol : t.protocol ≡ Segmented
  pub size : t.size ≡ size_sent call.job

-- the confirmation of the segment after so many
pub record IsSent (Loose : Type 0) (call : Call) (t : Transfer) (k : ℕ) : Type 0 where
  pub is : IsDownload Loose call t
  pub stage : t.stage ≡ DownloadSent (is_odd k) (is_last_after k (bytes_of call.job))
  pub size : t.size ≡ size_sent call.job
  pub pending : t.pending.items ≡ part_after k (bytes_of call.job)

-- a download in blocks, without a CRC
pub record IsBlockDownload (Loose : Type 0) (call : Call) (t : Transfer) : Type 0 where
  pub is : IsDownload Loose call t
  pub protocol : t.protocol ≡ Block
  pub size : t.size ≡ size_sent call.job
  pub crc : t.crc ≡ false

pub record IsBlockBegun (Loose : Type 0) (call : Call) (t : Transfer) : Type 0 where
  pub is : IsBlockDownload Loose call t
  pub transfer : transfer_of call ≡ transfer_by sends_in_blocks.0 sends_in_blocks.1
  pub stage : t.stage ≡ Initiated
  pub number : t.next_number ≡ 1
  pub pending : t.pending.items ≡ []

-- so many segments of the sub-block after a position are sent
pub record IsBlockSent (Loose : Type 0) (call : Call) (t : Transfer) (got : List ℕ) (position sent : ℕ) : Type 0 where
  pub is : IsBlockDownload Loose call t
  pub stage : t.stage ≡ SubBlock (position + sent == segment_count (bytes_of call.job))
  pub number : t.next_number ≡ sent + 1
  pub pending : length t.pending.items ≡ 7 * sent
  pub before : got ≡ take (7 * position) (bytes_of call.job)
  pub joined : got ++ t.pending.items ≡ first_data (bytes_of call.job) (position + sent)
  pub first : position < segment_count (bytes_of call.job)
  pub most : position + sent ≤ segment_count (bytes_of call.job)

pub record IsBlockEnded (Loose : Type 0) (call : Call) (t : Transfer) (crc : ℕ) : Type 0 where
  pub is : IsBlockDownload Loose call t
  pub stage : t.stage ≡ BlockEnded crc

-- the answer to initiate of an upload
pub record IsAsked (call : Call) (t : Transfer) : Type 0 where
  pub is : IsUpload call t
  pub transfer : transfer_of call ≡ transfer_by reads_in_segments.0 reads_in_segments.1
  pub stage : t.stage ≡ Initiated
  pub size : t.size ≡ None

-- a segment of it
pub record IsTaking (call : Call) (t : Transfer) (indicated : Option ℕ) (toggle : Bool) : Type 0 where
  pub is : IsUpload call t
  pub transfer : transfer_of call ≡ transfer_by reads_in_segments.0 reads_in_segments.1
  pub stage : t.stage ≡ UploadAsked toggle
  pub size : t.size ≡ indicated

-- an upload in blocks, without a CRC
pub record IsBlockUpload (call : Call) (t : Transfer) : Type 0 where
  pub is : IsUpload call t
  pub transfer : transfer_of call ≡ transfer_by reads_in_blocks.0 reads_in_blocks.1
  pub protocol : t.protocol ≡ Block
  pub crc : t.crc ≡ false
  pub block_size : t.block_size ≡ 127

pub record IsBlockAsked (call : Call) (t : Transfer) : Type 0 where
  pub is : IsBlockUpload call t
  pub stage : t.stage ≡ Initiated
  pub size : t.size ≡ None
  pub number : t.next_number ≡ 1
  pub pending : t.pending.items ≡ []

-- in a sub-block, of which so many segments are taken, and this is the number of the newest
pub record IsInSubBlock (call : Call) (t : Transfer) (indicated : Option ℕ) (taken newest : ℕ) : Type 0 where
  pub is : IsBlockUpload call t
  pub stage : t.stage ≡ SubBlock false
  pub size : t.size ≡ indicated
  pub number : t.next_number ≡ newest + 1
  pub pending : length t.pending.items ≡ 7 * taken

-- after its last segment
pub record IsAllTaken (call : Call) (t : Transfer) (indicated : Option ℕ) : Type 0 where
  pub is : IsBlockUpload call t
  pub stage : t.stage ≡ AllAcknowledged
  pub size : t.size ≡ indicated
  pub pending : 7 ≤ length t.pending.items

pub data Sync (Loose : Type 0) (call : Call) (t : Transfer) (got : List ℕ) (stage : Stage) (held : List ℕ) (newest : ℕ) : Type 0 where
  at_once : IsAtOnce Loose call t → got ≡ [] → stage ≡ Begun → Sync Loose call t got stage held newest
  begun : IsBegun Loose call t → got ≡ [] → stage ≡ Begun → Sync Loose call t got stage held newest
  sent : (k : ℕ) → IsSent Loose call t k → got ≡ take (7 * k) (bytes_of call.job) → stage ≡ Sending k → Sync Loose call t got stage held newest
  block_begun : IsBlockBegun Loose call t → got ≡ [] → stage ≡ Begun → Sync Loose call t got stage held newest
  block_sent : (position sent : ℕ) → IsBlockSent Loose call t got position sent → stage ≡ SendingBlock position sent → Sync Loose call t got stage held newest
  block_ended : (crc : ℕ) → IsBlockEnded Loose call t crc → got ≡ bytes_of call.job → stage ≡ EndAsked → Sync Loose call t got stage held newest
  asked : IsAsked call t → got ≡ [] → stage ≡ Begun → Sync Loose call t got stage held newest
  taking : (size : Option ℕ) (toggle : Bool) → IsTaking call t size toggle → got ≡ held → stage ≡ Taking size toggle → Sync Loose call t got stage held newest
  block_asked : IsBlockAsked call t → got ≡ [] → stage ≡ Begun → Sync Loose call t got stage held newest
  in_sub_block : (size : Option ℕ) (taken : ℕ) → IsInSubBlock call t size taken newest → got ++ t.pending.items ≡ held → stage ≡ InSubBlockStage size taken → Sync Loose call t got stage held newest
  all_taken : (size : Option ℕ) → IsAllTaken call t size → got ++ t.pending.items ≡ held → stage ≡ LastTaken size → Sync Loose call t got stage held newest

-- explain has lost an upload, which the client goes on with
pub record HasLost (Loose : Type 0) (call : Call) (current : Option Transfer) : Type 0 where
  pub loose : Loose
  pub job : direction_of call.job ≡ Upload
  pub lost : IfSome current IsLost

abbrev pub SyncIn : Type 0 → Call → Option Transfer → List ℕ → Stage → List ℕ → ℕ → Type 0
SyncIn Loose call None got stage held newest = ⊥
SyncIn Loose call (Some t) got stage held newest = Sync Loose call t got stage held newest

-- while the client waits both are as far; then nothing is open, or an upload that is lost
abbrev pub FollowsBy : Type 0 → Call → ClientState → Option Transfer → List ℕ → Stage → List ℕ → ℕ → Type 0
FollowsBy Loose call Waiting current got stage held newest = HasLost Loose call current ⊎ SyncIn Loose call current got stage held newest
FollowsBy Loose call _ current got stage held newest = IfSome current IsLost

-- ---- after an answer

abbrev pub one : Call → ℕ → List ℕ → List Transferred
one call n value = record { frame = n; direction = direction_of call.job; key = call.key; bytes = bytes_transferred call.job value } ∷ []

-- explain says what the client reports, or may lose it
abbrev pub Reads : Type 0 → Call → Verdict → Seen → Type 0
Reads Loose call (Ends messages value) w = (Loose × (w.done ≡ [])) ⊎ (w.done ≡ one call w.count value)
Reads Loose call _ w = w.done ≡ []

pub record Steps (Loose : Type 0) (call : Call) (v : Verdict) (stage : Stage) (held : List ℕ) (newest : ℕ) (w : Seen) : Type 0 where
  pub follows : FollowsBy Loose call (state_by v) w.following.transfer w.got stage held newest
  pub reads : Reads Loose call v w

module _ (Loose : Type 0) (call : Call) (stamp : ℕ → ℕ) (stage : Stage) (held : List ℕ) (newest : ℕ) where
  pub gives_up : (code : ℕ) (w : Seen) → w.done ≡ [] → Steps Loose call (GivesUp code) stage held newest (says call stamp (messages_by call (GivesUp code)) w)
  gives_up code w e = let c = client_closes call stamp call.key code w in record { follows = rw c.none tt; reads = c.same ∙ e }

  -- where the first check finds a fault, or none does
  pub checked : (fault : Bool) (code : ℕ) (checks : List (Bool × ℕ)) (v : Verdict) (w : Seen) → (fault ≡ true → w.done ≡ [])
      → (fault ≡ false → Steps Loose call (unless_fault checks v) stage held newest (says call stamp (messages_by call (unless_fault checks v)) w))
      → Steps Loose call (unless_fault ((fault, code) ∷ checks) v) stage held newest (says call stamp (messages_by call (unless_fault ((fault, code) ∷ checks) v)) w)
  checked true code checks v w e h = gives_up code w (e refl)
  checked false code checks v w e h = h refl

  pub is_over : (messages : List Message) (value : List ℕ) (w : Seen) → w.following.transfer ≡ None → (Loose × (w.done ≡ [])) ⊎ (w.done ≡ one call w.count value)
      → Steps Loose call (Ends messages value) stage held newest w
  is_over messages value w n r = record { follows = rw n tt; reads = r }

-- ---- a transfer that is complete

not_above : (n most : ℕ) → n ≤ most → min n most ≡ n
not_above n most h = omega arith

-- the number of bytes is the one that was indicated, if one was
pub size_right : (size : Option ℕ) (count n : ℕ) → IfSome size (λ s. s ≡ n) → count ≡ counted n → n ≤ 65535 → size_fault size count ≡ None
size_right None count n s c few = refl
size_right (Some size) count n s c few =
    let m : n ≤ 2 ^ 64 - 1 = omega (arith, few) in
    let k : count ≡ n = c ∙ not_above n (2 ^ 64 - 1) m in
    let same : (size == count) ≡ true = let e : size ≡ count = s ∙ sym k in rw e (by count) in
    rw same refl
  where
    by : (n : ℕ) → (n == n) ≡ true
    by n = grind (arith, nat_tests)

pub few_sent : (job : Job) → IsJob job → length (bytes_of job) ≤ 65535
few_sent (Write bytes tells) h = h
few_sent (Read cap) h = omega arith

pub sent_size : (job : Job) → IfSome (size_sent job) (λ s. s ≡ length (bytes_of job))
sent_size (Write bytes true) = refl
sent_size (Write bytes false) = tt
sent_size (Read cap) = tt

pub sent_bytes : (job : Job) (value : List ℕ) → direction_of job ≡ Download → bytes_transferred job value ≡ bytes_of job
sent_bytes (Write bytes tells) value h = refl
sent_bytes (Read cap) value h = absurd (let e : Upload ≡ Download = h in cc)

pub read_bytes : (job : Job) (value : List ℕ) → direction_of job ≡ Upload → bytes_transferred job value ≡ value
read_bytes (Write bytes tells) value h = absurd (let e : Download ≡ Upload = h in cc)
read_bytes (Read cap) value h = refl

pub never_refused : (mode : Mode) (job : Job) (protocol : Protocol) (got : List ℕ) → direction_of job ≡ Download → refuses mode job protocol got ≡ false
never_refused mode (Write bytes tells) protocol got h = refl
never_refused mode (Read cap) protocol got h = absurd (let e : Upload ≡ Download = h in cc)

-- after the turn that confirms it, without a CRC
pub record Completes (Loose : Type 0) (call : Call) (value : List ℕ) (w : Seen) : Type 0 where
  pub none : w.following.transfer ≡ None
  pub reads : (Loose × (w.done ≡ [])) ⊎ (w.done ≡ one call w.count value)

pub completes : (Loose : Type 0) (call : Call) (micros : ℕ) (side : Side) (heard : Bool) (t : Transfer) (got : List ℕ) (count : ℕ) (turn : Turn) (value : List ℕ)
    → confirmed_with turn.transfer.stage ≡ Some None → IsTrack Loose turn.transfer → size_fault turn.transfer.size (after t turn).taken.count ≡ None
    → turn.transfer.direction ≡ direction_of call.job → turn.transfer.key ≡ call.key → data_with got turn.takes ≡ bytes_transferred call.job value
    → refuses call.mode call.job turn.transfer.protocol (data_with got turn.takes) ≡ false
    → Completes Loose call value (turned call micros side heard t got [] count turn)
completes Loose call micros side heard t got count turn value c (inl i) s d k b r = rw c (record { none = refl; reads = inl (i.0, rw (r, i.1) refl) })
completes Loose call micros side heard t got count turn value c (inr i) s d k b r = rw c (record { none = refl; reads = inr (rw (r, i, s, d, k, b) refl) })

-- that of an upload that the client doesn't take
pub refused_turn : (call : Call) (micros : ℕ) (side : Side) (heard : Bool) (t : Transfer) (got : List ℕ) (count : ℕ) (turn : Turn)
    → refuses call.mode call.job turn.transfer.protocol (data_with got turn.takes) ≡ true → (turned call micros side heard t got [] count turn).done ≡ []
refused_turn call micros side heard t got count turn r = by (confirmed_with turn.transfer.stage)
  where
    by : (x : Option (Option ℕ)) → transfer_said call (turns_at x heard turn.what (after t turn) micros side).says.ended (data_with got turn.takes) (suc count) ++ [] ≡ []
    by None = refl
    by (Some crc) = rw r refl

-- and of one with another number of bytes than was indicated
pub size_wrong : (call : Call) (micros : ℕ) (side : Side) (heard : Bool) (t : Transfer) (got : List ℕ) (count : ℕ) (turn : Turn) (indicated : ℕ)
    → confirmed_with turn.transfer.stage ≡ Some None → size_fault turn.transfer.size (after t turn).taken.count ≡ Some indicated → (turned call micros side heard t got [] count turn).done ≡ []
size_wrong call micros side heard t got count turn indicated c e =
    rw (c, e) (by (refuses call.mode call.job turn.transfer.protocol (data_with got turn.takes)) turn.transfer.irregular _)
  where
    by : (a b : Bool) (said : List Transferred) → (if a then [] else if_done (if b then Irregular else SizeDiffers indicated) said) ++ [] ≡ []
    by true b said = refl
    by false true said = refl
    by false false said = refl
