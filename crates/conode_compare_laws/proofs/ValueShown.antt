-- What explain says of a transfer that is done: how many bytes it has, and the first of them.
use Rattle.std.proofs.Common.{◌≡◌, ℕ, Bool, true, false, List, take, Option, Some, None, ap}
use Rattle.std.specs.Prelude.{if◌then◌else◌, IfSome}
use Rattle.conode_explain_transfers.specs.declared.digest.Digest.{Digest}
use Rattle.conode_explain_transfers.specs.declared.ended.Ended.{Ended}
use Rattle.conode_explain_transfers.specs.declared.ended.Ending.{Ending}
use Rattle.conode_explain_transfers.specs.declared.ended.Ending.TheVariants.{Done, NotFollowed, Repeated}
use Rattle.conode_explain_transfers.specs.declared.kinds.Side.{Side}
use Rattle.conode_explain_transfers.specs.declared.kinds.Side.TheVariants.{Client, Server}
use Rattle.conode_explain_transfers.specs.declared.kinds.What.{What}
use Rattle.conode_explain_transfers.specs.declared.transfer.Transfer.{Transfer}
use Rattle.co_frame_aborts.specs.declared.abort_code.AbortCode.{AbortCode}
use Rattle.conode_explain_transfers.specs.Data.{data_with}
use Rattle.conode_explain_transfers.specs.Digests.{counted, digest_of}
use Rattle.conode_explain_transfers.specs.Endings.{ended, verdict}
use Rattle.conode_explain_transfers.specs.Followed.{abort_ending, left_by, one_more, turns_at}
use Rattle.conode_explain_transfers.specs.Stages.{confirmed_with}
use Rattle.conode_explain_transfers.specs.Transfers.{Turn, after, is_same_request}
use Rattle.conode_explain_transfers.specs.Unanswered.{is_lost, not_followed_by, number_of, segment_follows}
use Rattle.conode_explain_transfers.proofs.DataLemmas.{taking}
use Rattle.conode_explain_laws.proofs.Readings.{Abort, Begin, Nothing, Reading, Request, Response, Segment, bytes_by, follows_by, turn_of}
use Rattle.std.specs.Prelude.{length}

-- where a transfer is done, this holds
abbrev pub IfDone : Ending → Type 0 → Type 0
IfDone (Done crc) fact = fact
IfDone _ fact = Unit {0}

-- of one that is done with these data
pub record IsShown (e : Ended) (got : List ℕ) : Type 0 where
  pub bytes : e.bytes ≡ counted (length got)
  pub first : e.first.items ≡ take 64 got

abbrev pub Shown : Option Ended → List ℕ → Type 0
Shown None got = Unit {0}
Shown (Some e) got = IfDone e.ending (IsShown e got)

-- one that is left, or aborted, isn't
left_shown : (fact : Type 0) (follows lost same : Bool) (number : ℕ) (by : Side) → IfDone (if follows then NotFollowed (Some number) else (if lost then NotFollowed None else (if same then Repeated else left_by by))) fact
left_shown fact true lost same number by = tt
left_shown fact false true same number by = tt
left_shown fact false false true number by = tt
left_shown fact false false false number Client = tt
left_shown fact false false false number Server = tt

abort_shown : (fact : Type 0) (side : Side) (segment : Option (Option ℕ)) (code : AbortCode) → IfDone (abort_ending side segment code) fact
abort_shown fact side None code = tt
abort_shown fact side (Some next) code = tt

-- what holds in any case
always : (ending : Ending) (fact : Type 0) → fact → IfDone ending fact
always (Done crc) fact h = h
always _ fact h = tt

turn_shown : (x : Option (Option ℕ)) (heard : Bool) (w : What) (u : Transfer) (micros : ℕ) (side : Side) (got : List ℕ) → u.taken ≡ digest_of got → Shown (turns_at x heard w u micros side).says.ended got
turn_shown None heard w u micros side got h = tt
turn_shown (Some crc) heard w u micros side got h =
    let e : Ended = ended (one_more u) micros (verdict u crc) in
    always (verdict u crc) (IsShown e got) (record { bytes = ap (λ (d : Digest). d.count) h; first = ap (λ (d : Digest). d.first.items) h })

by_turn : (heard : Bool) (t : Transfer) (turn : Turn) (micros : ℕ) (side : Side) (got : List ℕ) → t.taken ≡ digest_of got
    → Shown (turns_at (confirmed_with turn.transfer.stage) heard turn.what (after t turn) micros side).says.ended (data_with got turn.takes)
by_turn heard t turn micros side got h = turn_shown (confirmed_with turn.transfer.stage) heard turn.what (after t turn) micros side (data_with got turn.takes) (taking t.taken got turn.takes h)

-- with whatever frame
pub shown_by : (heard : Bool) (current : Option Transfer) (reading : Reading) (micros : ℕ) (side : Side) (bytes got : List ℕ) → IfSome current (λ t. t.taken ≡ digest_of got)
    → Shown (follows_by heard current reading micros side bytes).says.ended (bytes_by current reading bytes got)
shown_by heard None (Begin new) micros side bytes got h = tt
shown_by heard (Some t) (Begin new) micros side bytes got h = left_shown _ (segment_follows t bytes) (is_lost t) (is_same_request t bytes) (number_of bytes) t.by
shown_by heard None _ micros side bytes got h = tt
shown_by heard (Some t) (Abort code) micros side bytes got h = abort_shown _ side (not_followed_by side t bytes) code
shown_by heard (Some t) (Segment one) micros side bytes got h = by_turn heard t (turn_of t (Segment one) bytes) micros side got h
shown_by heard (Some t) (Request one) micros side bytes got h = by_turn heard t (turn_of t (Request one) bytes) micros side got h
shown_by heard (Some t) (Response one) micros side bytes got h = by_turn heard t (turn_of t (Response one) bytes) micros side got h
shown_by heard (Some t) Nothing micros side bytes got h = by_turn heard t (turn_of t Nothing bytes) micros side got h
