-- What explain and the channel make of an upload where both always read the client's frames alike, beside block downloads.
use Rattle.std.proofs.Common.{◌≡◌, ℕ, suc, Bool, true, false, List, [], ◌++◌, Option, Some, None, refl, sym, ap, ◌∙◌, inl, inr, subst, arith}
use Rattle.std.specs.Prelude.{if◌then◌else◌, IfSome, nat_le, nat_lt, ◌==◌, ◌||◌}
use Rattle.std.specs.Option.{option_map_or}
use Rattle.std.proofs.lemmas.Bool.{false≢true}
use Rattle.std.proofs.lemmas.Bool.Decides.{nat_tests}
use Rattle.co_value.specs.declared.key.Key.{Key}
use Rattle.co_value.specs.Numbers.{AreBytes}
use Rattle.co_frame.specs.BlockSegments.{block_segment_in, is_abort_in_sub_block}
use Rattle.co_frame.specs.SdoFields.{command}
use Rattle.co_frame.specs.SdoParts.{code_in}
use Rattle.co_frame.specs.SdoRequests.{request_in}
use Rattle.co_frame.specs.declared.block_segment.BlockSegment.{BlockSegment}
use Rattle.co_frame.specs.declared.sdo_request.SdoRequest.{SdoRequest}
use Rattle.co_frame.specs.declared.sdo_request.SdoRequest.TheVariants.{DownloadSegment, UploadSegment as NextSegment, Abort as Abandon, BlockUploadStart, BlockUploadAcknowledge, BlockUploadEnd as UploadEnd, BlockDownloadInitiate, BlockDownloadEnd}
use Rattle.co_dict.specs.Rows.{Rows, Contents}
use Rattle.co_dict.specs.Stores.{Description, IsDictionary}
use Rattle.co_sdo.specs.declared.stage.Stage.{Stage}
use Rattle.co_sdo.specs.declared.stage.Stage.TheVariants.{SubBlock as Taking, LastTaken}
use Rattle.co_sdo.specs.Refused.{initiate_refusal}
use Rattle.co_sdo.specs.SubBlocks.{ends_sub_block, is_last_taken}
use Rattle.co_sdo.specs.Opened.{OpenTransfer}
use Rattle.co_sdo.specs.Replies.{request_answers, is_in_sub_block, answers_to, segment_next, taken_with, held_with, sub_block_refusal}
use Rattle.co_sdo.specs.Completed.{unless}
use Rattle.co_sdo.specs.Steps.{opened_at, after_frame, after_request, opened_next}
use Rattle.co_sdo.specs.OpenTransfers.{is_initiate}
use Rattle.conode_explain_transfers.specs.declared.kinds.Side.TheVariants.{Client}
use Rattle.conode_explain_transfers.specs.declared.transfer.Transfer.{Transfer}
use Rattle.conode_explain_transfers.specs.Digests.{digest_of}
use Rattle.conode_explain_laws.specs.Downloads.{Complete, is_block_begin, goes_up}
use Rattle.conode_explain_laws.specs.Uploads.{Read, ended_by, read_served}
use Rattle.conode_explain_laws.proofs.Readings.{begun_after, Reading, Begin, Abort, request_reading, plain_reading, beginning, segment_reading, sub_block_reading, reading_of}
use Rattle.conode_explain_laws.proofs.Views.{View, is_begin}
use Rattle.conode_explain_laws.proofs.Follows.{begun_by}
use Rattle.conode_explain_laws.proofs.Begins.{in_blocks as blocks_asked, outside_answers, outside_opens}
use Rattle.conode_explain_laws.proofs.Exact.{client_reads}
use Rattle.conode_explain_laws.proofs.BlockExact.{OrderlyIn, plain as orderly_plain, inside, all_sent, gone, IsInside, exact_outside, small_number}
use Rattle.conode_explain_laws.proofs.UploadViews.{read_as, hears, hears_answers, begin_writes, IsAside, KnowsAside, aside_reads, aside_answers}
use Rattle.conode_explain_laws.proofs.UploadSteps.{answered_by, acknowledged_by, answered_next, acknowledged_next}
use Rattle.conode_explain_laws.proofs.UploadStanding.{FollowsIn, Ends, aside_follows, begins, outside_answered, outside_acknowledged}
use Rattle.conode_explain_laws.proofs.NoUploads.{none_ended, begins_nothing}
use Rattle.conode_explain_laws.proofs.UploadExchanges.{exchange, outside_or}

-- ---- both

abbrev is_block_stage : Stage → Bool
is_block_stage (Taking size taken) = true
is_block_stage (LastTaken size) = true
is_block_stage _ = false

-- the channel has a block download open
abbrev pub is_block_open : Option OpenTransfer → Bool
is_block_open None = false
is_block_open (Some o) = is_block_stage o.stage

-- as without block downloads; or it has one open, and explain has no upload
pub data Stays (held : Option Transfer) (got : List ℕ) (current : Option OpenTransfer) (ended : Option Read) : Type 0 where
  plain : FollowsIn ⊥ held got current ended → Stays held got current ended
  in_blocks : IfSome held (IsAside ⊥) → is_block_open current ≡ true → ended ≡ None → Stays held got current ended

-- after a request with its answers
pub record GoesOn (next : Option OpenTransfer) (ended answered : Option Read) (whole : List Complete) (v : View) : Type 0 where
  pub stays : Stays v.following.transfer v.got next ended
  pub reads : v.done ≡ read_served answered v.count ++ whole

from_ends : (next : Option OpenTransfer) (ended answered : Option Read) (whole done : List Complete) (v : View) → Ends ⊥ next ended answered whole done v → GoesOn next ended answered whole v
from_ends next ended answered whole done v h = record { stays = plain h.follows; reads = elim h.reads [ inl l ↦ absurd l.0 | inr e ↦ e ] }

-- none is open, or a block download
abbrev none_or_block : Option OpenTransfer → Bool
none_or_block None = true
none_or_block (Some o) = is_block_stage o.stage

aside_goes : (next : Option OpenTransfer) (whole : List Complete) (v : View) → none_or_block next ≡ true → KnowsAside ⊥ whole v → GoesOn next None None whole v
aside_goes None whole v h k = record { stays = plain (aside_follows ⊥ None None whole whole v.following.transfer v.got (inr (record { none = refl; no_end = refl })) k.holds); reads = k.same }
aside_goes (Some o) whole v h k = record { stays = in_blocks k.holds h refl; reads = k.same }

-- after a frame of the client with its answers
abbrev pub After : Description → Contents → (ℕ → ℕ) → List ℕ → Option OpenTransfer → Option Read → View → Type 0
After d contents stamp frame current ended v =
    GoesOn (opened_next d contents current frame) (acknowledged_next current frame) (answered_next d contents current frame) (read_served (ended_by (request_in frame) ended) (suc v.count) ++ v.done)
    (hears_answers stamp (answers_to d contents current frame) (hears stamp Client frame v))

-- ---- inside a sub-block of a download

none_or_unless : (refusal : Option ℕ) (next : Option OpenTransfer) → none_or_block next ≡ true → none_or_block (unless refusal next) ≡ true
none_or_unless None next h = h
none_or_unless (Some code) next h = refl

after_inside : (rows : Rows) (o : OpenTransfer) (size : Option ℕ) (taken : ℕ) (frame : List ℕ) → none_or_block (after_frame rows o size taken frame) ≡ true
after_inside rows o size taken frame = by (command frame == 0x80) (ends_sub_block frame) (is_last_taken (segment_next taken frame))
  where
    by : (abort ends last : Bool)
        → none_or_block (if abort then None
        else (if ends then unless (sub_block_refusal rows o taken frame) (opened_at o.key (if last then LastTaken size else Taking size 0) (held_with o.bytes taken frame))
        else opened_at o.key (Taking size (taken_with taken frame)) (held_with o.bytes taken frame))) ≡ true
    by true ends last = refl
    by false true true = none_or_unless (sub_block_refusal rows o taken frame) (opened_at o.key (LastTaken size) (held_with o.bytes taken frame)) refl
    by false true false = none_or_unless (sub_block_refusal rows o taken frame) (opened_at o.key (Taking size 0) (held_with o.bytes taken frame)) refl
    by false false last = refl

-- no frame there begins a transfer
inside_no_begin : (block_size old micros : ℕ) (frame : List ℕ) → block_size ≡ 127 → goes_up old frame ≡ true → is_begin (sub_block_reading block_size Client micros frame) ≡ false
inside_no_begin block_size old micros frame b up = by (is_abort_in_sub_block frame) (block_segment_in frame) refl up
  where
    by : (abort : Bool) (s : Option BlockSegment) → block_segment_in frame ≡ s → (abort || nat_lt old (option_map_or (λ (segment : BlockSegment). segment.sequence) s 0)) ≡ true
        → is_begin (if abort then Abort (code_in frame) else segment_reading block_size s (beginning (plain_reading Client micros frame))) ≡ false
    by true s e up = refl
    by false None e up = absurd (grind (arith, nat_tests))
    by false (Some segment) e up =
        let few = small_number frame segment e in
        let within : nat_le segment.sequence block_size ≡ true = grind (arith, nat_tests) in
        rw within refl

inside_goes : (old : ℕ) (d : Description) (contents : Contents) (stamp : ℕ → ℕ) (frame : List ℕ) (heard : Bool) (t : Transfer) (got : List ℕ) (done : List Complete) (count taken : ℕ) (bytes : List ℕ) → IsInside t taken old → goes_up old frame ≡ true
    → After d contents stamp frame (opened_at t.key (Taking t.size taken) bytes) None (record { following = record { heard = heard; transfer = Some t }; got = got; done = done; count = count })
inside_goes old d contents stamp frame heard t got done count taken bytes h up =
    let v : View = record { following = record { heard = heard; transfer = Some t }; got = got; done = done; count = count } in
    let current = opened_at t.key (Taking t.size taken) bytes in
    let reading = reading_of (Some t) Client (stamp count) frame in
    let inside : reading ≡ sub_block_reading t.block_size Client (stamp count) frame = rw (h.stage, h.is.is.direction) refl in
    let n : is_begin reading ≡ false = ap is_begin inside ∙ inside_no_begin t.block_size old (stamp count) frame h.is.block_size up in
    let k = aside_reads ⊥ (stamp count) Client frame heard (Some t) got done count reading (inr h.is.is.direction) n in
    subst (λ r. GoesOn (opened_next d contents current frame) None None (read_served r (suc count) ++ done) (hears_answers stamp (answers_to d contents current frame) (hears stamp Client frame v))) (sym (none_ended (request_in frame) None refl))
    (aside_goes (opened_next d contents current frame) done (hears_answers stamp (answers_to d contents current frame) (hears stamp Client frame v)) (after_inside d.rows (record { key = t.key; stage = Taking t.size taken; bytes = bytes }) t.size taken frame)
    (aside_answers ⊥ stamp (answers_to d contents current frame) done (hears stamp Client frame v) k))

-- ---- a block download begins

module _ (d : Description) (contents : Contents) (stamp : ℕ → ℕ) (frame : List ℕ) (current : Option OpenTransfer) (ended : Option Read) (heard : Bool) (held : Option Transfer) (got : List ℕ) (done : List Complete) (count : ℕ) where
  abbrev before : View
  before = record { following = record { heard = heard; transfer = held }; got = got; done = done; count = count }

  -- by what it is read as
  abbrev AfterSo : Option SdoRequest → View → Type 0
  AfterSo r v =
      GoesOn (after_request d contents current r) (acknowledged_by current r) (answered_by d contents current r) (read_served (ended_by r ended) (suc count) ++ done)
      (hears_answers stamp (request_answers d contents current r) v)

  block_goes : (key : Key) (size : Option ℕ) → AfterSo (Some (BlockDownloadInitiate key size)) (read_as (stamp count) Client frame before (Begin (blocks_asked key size (stamp count) frame)))
  block_goes key size =
      let v = read_as (stamp count) Client frame before (Begin (blocks_asked key size (stamp count) frame)) in
      let k : KnowsAside ⊥ done v = record { holds = inr refl; same = begin_writes (stamp count) frame heard held got done count (blocks_asked key size (stamp count) frame) } in
      let answers = request_answers d contents current (Some (BlockDownloadInitiate key size)) in
      aside_goes (unless (initiate_refusal d key size) (opened_at key (Taking size 0) [])) done (hears_answers stamp answers v) (none_or_unless (initiate_refusal d key size) (opened_at key (Taking size 0) []) refl)
      (aside_answers ⊥ stamp answers done v k)

  -- ---- outside a sub-block, while a block download is open

  -- what a request that begins nothing makes of it
  sent_none : (key : Key) (size : Option ℕ) (bytes : List ℕ) (r : Option SdoRequest) → is_initiate r ≡ false
      → (after_request d contents (opened_at key (LastTaken size) bytes) r ≡ None) × (answered_by d contents (opened_at key (LastTaken size) bytes) r ≡ None) × (acknowledged_by (opened_at key (LastTaken size) bytes) r ≡ None)
  sent_none key size bytes None h = (refl, refl, refl)
  sent_none key size bytes (Some (DownloadSegment toggle segment last)) h = (refl, refl, refl)
  sent_none key size bytes (Some (NextSegment toggle)) h = (refl, refl, refl)
  sent_none key size bytes (Some (Abandon k code)) h = (refl, refl, refl)
  sent_none key size bytes (Some BlockUploadStart) h = (refl, refl, refl)
  sent_none key size bytes (Some (BlockUploadAcknowledge sequence block_size)) h = (refl, refl, refl)
  sent_none key size bytes (Some UploadEnd) h = (refl, refl, refl)
  sent_none key size bytes (Some (BlockDownloadEnd unused)) h = (refl, refl, refl)
  sent_none key size bytes (Some _) h = absurd (false≢true (sym h))

  open_none : (r : Option SdoRequest) → is_block_open current ≡ true → is_in_sub_block current ≡ false → is_initiate r ≡ false → (after_request d contents current r ≡ None) × (answered_by d contents current r ≡ None) × (acknowledged_by current r ≡ None)
  open_none r b o i = by current refl b o
    where
      by_stage : (key : Key) (stage : Stage) (bytes : List ℕ) → current ≡ opened_at key stage bytes → is_block_stage stage ≡ true → is_in_sub_block (opened_at key stage bytes) ≡ false
          → (after_request d contents current r ≡ None) × (answered_by d contents current r ≡ None) × (acknowledged_by current r ≡ None)
      by_stage key (LastTaken size) bytes e b o =
          subst (λ x. (after_request d contents x r ≡ None) × (answered_by d contents x r ≡ None) × (acknowledged_by x r ≡ None)) (sym e) (sent_none key size bytes r i)
      by_stage key (Taking size taken) bytes e b o = absurd (false≢true (sym o))
      by_stage key _ bytes e b o = absurd (false≢true b)

      by : (x : Option OpenTransfer) → current ≡ x → is_block_open x ≡ true → is_in_sub_block x ≡ false
          → (after_request d contents current r ≡ None) × (answered_by d contents current r ≡ None) × (acknowledged_by current r ≡ None)
      by None e b o = absurd (false≢true b)
      by (Some x) e b o = by_stage x.key x.stage x.bytes e b o

  later_goes : (reading : Reading) → is_begin reading ≡ false → is_initiate (request_in frame) ≡ false → IfSome held (IsAside ⊥) → is_block_open current ≡ true → is_in_sub_block current ≡ false → ended ≡ None
      → AfterSo (request_in frame) (read_as (stamp count) Client frame before reading)
  later_goes reading n i a b o x =
      let v = read_as (stamp count) Client frame before reading in
      let one = open_none (request_in frame) b o i in
      let answers = request_answers d contents current (request_in frame) in
      let k = aside_answers ⊥ stamp answers done v (aside_reads ⊥ (stamp count) Client frame heard held got done count reading a n) in
      rw (none_ended (request_in frame) ended x, one.0, one.1, one.2) (aside_goes None done (hears_answers stamp answers v) refl k)

-- outside a sub-block
module _ (d : Description) (contents : Contents) (stamp : ℕ → ℕ) (frame : List ℕ) (current : Option OpenTransfer) (ended : Option Read) (heard : Bool) (held : Option Transfer) (got : List ℕ) (done : List Complete) (count : ℕ) (small : AreBytes frame) (lawful : IsDictionary d contents) (o : is_in_sub_block current ≡ false) where
  abbrev held_so : View
  held_so = record { following = record { heard = heard; transfer = held }; got = got; done = done; count = count }

  to_after : (v : View) → v ≡ hears stamp Client frame held_so → AfterSo d contents stamp frame current ended heard held got done count (request_in frame) v → After d contents stamp frame current ended held_so
  to_after v e h =
      subst (λ x. GoesOn (opened_next d contents current frame) (acknowledged_next current frame) (answered_next d contents current frame) (read_served (ended_by (request_in frame) ended) (suc count) ++ done)
      (hears_answers stamp (answers_to d contents current frame) x)) e
      (rw (outside_answers d contents current frame o, outside_opens d contents current frame o, outside_answered d contents current frame o, outside_acknowledged current frame o) h)

  -- while a block download is open
  by_reading : (reading : Reading) → reading_of held Client (stamp count) frame ≡ reading → is_block_begin (request_in frame) ≡ false → reading ≡ request_reading (request_in frame) (stamp count) frame
      → IfSome held (IsAside ⊥) → is_block_open current ≡ true → ended ≡ None → After d contents stamp frame current ended held_so
  by_reading (Begin new) e n is a b x =
      let begun = begun_by held (stamp count) frame new e in
      let v = read_as (stamp count) Client frame held_so (Begin new) in
      let read : v ≡ hears stamp Client frame held_so = ap (read_as (stamp count) Client frame held_so) (sym e) in
      subst (λ y. GoesOn (opened_next d contents current frame) (acknowledged_next current frame) (answered_next d contents current frame) (read_served (ended_by (request_in frame) ended) (suc count) ++ done)
      (hears_answers stamp (answers_to d contents current frame) y)) read
      (subst (λ before. GoesOn (opened_next d contents current frame) (acknowledged_next current frame) (answered_next d contents current frame) (read_served (ended_by (request_in frame) ended) (suc count) ++ before)
      (hears_answers stamp (answers_to d contents current frame) v)) (begin_writes (stamp count) frame heard held got done count new)
      (from_ends _ _ _ _ _ _ (begins ⊥ d contents stamp current ended (begun_after held frame new) (stamp count) frame v.done (suc count) (suc count) begun small lawful (inr n) (inr o))))
  by_reading reading e n is a b x =
      to_after (read_as (stamp count) Client frame held_so reading) (ap (read_as (stamp count) Client frame held_so) (sym e))
      (later_goes d contents stamp frame current ended heard held got done count reading refl (begins_nothing (request_in frame) (stamp count) frame (sym (ap is_begin is))) a b o x)

  outside_goes : reading_of held Client (stamp count) frame ≡ request_reading (request_in frame) (stamp count) frame → Stays held got current ended → IfSome held (λ t. t.taken ≡ digest_of got) → After d contents stamp frame current ended held_so
  outside_goes e s kept = by (request_in frame) refl
    where
      by : (r : Option SdoRequest) → request_in frame ≡ r → After d contents stamp frame current ended held_so
      by (Some (BlockDownloadInitiate key size)) q =
          to_after (read_as (stamp count) Client frame held_so (Begin (blocks_asked key size (stamp count) frame)))
          (ap (read_as (stamp count) Client frame held_so) (sym (e ∙ ap (λ r. request_reading r (stamp count) frame) q)))
          (subst (λ r. AfterSo d contents stamp frame current ended heard held got done count r (read_as (stamp count) Client frame held_so (Begin (blocks_asked key size (stamp count) frame)))) (sym q)
          (block_goes d contents stamp frame current ended heard held got done count key size))
      by r q =
          let n : is_block_begin (request_in frame) ≡ false = ap is_block_begin q in
          elim s [
            | plain f ↦ from_ends _ _ _ _ _ _ (exchange ⊥ d contents stamp frame current ended held_so small lawful f kept (inr (n, e)))
            | in_blocks a b x ↦ by_reading (reading_of held Client (stamp count) frame) refl n e a b x
          ]

-- inside one nothing awaits the client's end
none_awaited : (held : Option Transfer) (got : List ℕ) (current : Option OpenTransfer) (ended : Option Read) → is_in_sub_block current ≡ true → Stays held got current ended → ended ≡ None
none_awaited held got current ended i (plain f) = elim (outside_or ⊥ held got current ended f) [ inl l ↦ absurd l | inr o ↦ absurd (false≢true (sym o ∙ i)) ]
none_awaited held got current ended i (in_blocks a b x) = x

by_transfer : (old : ℕ) (d : Description) (contents : Contents) (stamp : ℕ → ℕ) (frame : List ℕ) (current : Option OpenTransfer) (ended : Option Read) (heard : Bool) (held : Option Transfer) (got : List ℕ) (done : List Complete) (count : ℕ) → AreBytes frame → IsDictionary d contents
    → OrderlyIn held got current old → Stays held got current ended → IfSome held (λ t. t.taken ≡ digest_of got) → (is_in_sub_block current ≡ true → goes_up old frame ≡ true)
    → After d contents stamp frame current ended (record { following = record { heard = heard; transfer = held }; got = got; done = done; count = count })
by_transfer old d contents stamp frame current ended heard None got done count small lawful h s kept up =
    outside_goes d contents stamp frame current ended heard None got done count small lawful (exact_outside None got current h) refl s kept
by_transfer old d contents stamp frame current ended heard (Some t) got done count small lawful (orderly_plain h) s kept up =
    outside_goes d contents stamp frame current ended heard (Some t) got done count small lawful (exact_outside (Some t) got current h) (client_reads (Some t) got current (stamp count) frame h) s kept
by_transfer old d contents stamp frame current ended heard (Some t) got done count small lawful (inside taken h c) s kept up =
    let i : is_in_sub_block current ≡ true = ap is_in_sub_block c in
    let v : View = record { following = record { heard = heard; transfer = Some t }; got = got; done = done; count = count } in
    subst (λ x. After d contents stamp frame x ended v) (sym c)
    (subst (λ x. After d contents stamp frame (opened_at t.key (Taking t.size taken) (got ++ t.pending.items)) x v) (sym (none_awaited (Some t) got current ended i s))
    (inside_goes old d contents stamp frame heard t got done count taken (got ++ t.pending.items) h (up i)))
by_transfer old d contents stamp frame current ended heard (Some t) got done count small lawful (all_sent h c) s kept up =
    outside_goes d contents stamp frame current ended heard (Some t) got done count small lawful (ap is_in_sub_block c) (rw h.stage refl) s kept
by_transfer old d contents stamp frame current ended heard (Some t) got done count small lawful (gone h c) s kept up =
    outside_goes d contents stamp frame current ended heard (Some t) got done count small lawful (ap is_in_sub_block c) (rw h.stage refl) s kept

pub orderly_reads : (old : ℕ) (d : Description) (contents : Contents) (stamp : ℕ → ℕ) (frame : List ℕ) (current : Option OpenTransfer) (ended : Option Read) (v : View) → AreBytes frame → IsDictionary d contents
    → OrderlyIn v.following.transfer v.got current old → Stays v.following.transfer v.got current ended → IfSome v.following.transfer (λ t. t.taken ≡ digest_of v.got) → (is_in_sub_block current ≡ true → goes_up old frame ≡ true)
    → After d contents stamp frame current ended v
orderly_reads old d contents stamp frame current ended v small lawful h s kept up =
    by_transfer old d contents stamp frame current ended v.following.heard v.following.transfer v.got v.done v.count small lawful h s kept up
