-- Frames of the channel, for `access-read`: how far explain's upload and the channel's block upload are, and that no frame of the device is taken
-- for a refusal of it, but an abort.
use Rattle.std.proofs.Common.{◌≡◌, ℕ, ◌+◌, ◌<◌, ◌≤◌, zero, suc, Bool, true, false, not, List, [], ◌∷◌, length, map, Option, Some, None, refl, sym, ap, ◌∙◌, ◌⊎◌, inl, inr, subst, arith}
use Rattle.std.specs.Prelude.{if◌then◌else◌, IfSome, nat_lt, ◌==◌, ◌&&◌}
use Rattle.std.specs.List.{range_with_len}
use Rattle.std.proofs.lemmas.Bool.{and_parts, false≢true}
use Rattle.co_value.specs.declared.key.Key.{Key}
use Rattle.co_value.specs.Keys.{same_key-is}
use Rattle.co_frame.specs.FrameContent.{FrameContent}
use Rattle.co_frame.specs.SdoParts.{code_in}
use Rattle.co_frame.specs.SdoRequests.{request_in}
use Rattle.co_frame.specs.SdoResponses.{response_bytes}
use Rattle.co_frame_aborts.specs.declared.abort_code.AbortCode.{AbortCode}
use Rattle.co_frame.specs.declared.sdo_request.SdoRequest.{SdoRequest}
use Rattle.co_frame.specs.declared.sdo_request.SdoRequest.TheVariants.{BlockUploadInitiate, BlockUploadAcknowledge, BlockUploadStart}
use Rattle.co_frame.specs.declared.sdo_response.SdoResponse.{SdoResponse}
use Rattle.co_frame.specs.declared.sdo_response.SdoResponse.TheVariants.{Abort as Refuse, BlockUploadInitiated}
use Rattle.co_sdo.specs.declared.stage.Stage.TheVariants.{BlockUploadInitiated as Begun, BlockUpload}
use Rattle.co_sdo.specs.Log.{Answer, Response as Replied, Segment as Sent, answer_bytes}
use Rattle.co_sdo.specs.Opened.{OpenTransfer}
use Rattle.co_sdo.specs.Steps.{opened_at}
use Rattle.co_sdo.specs.Uploads.{block_segment, segment_count, sub_block_length, sub_block_sent}
use Rattle.co_sheet.specs.Content.{Row}
use Rattle.co_sheet_changes.specs.Names.{row_at}
use Rattle.conode_explain_transfers.specs.declared.ended.Ended.{Ended}
use Rattle.conode_explain_transfers.specs.declared.ended.Ending.TheVariants.{Aborted}
use Rattle.conode_explain_transfers.specs.declared.kinds.Direction.{Direction}
use Rattle.conode_explain_transfers.specs.declared.kinds.Direction.TheVariants.{Download, Upload}
use Rattle.conode_explain_transfers.specs.declared.kinds.Side.{Side}
use Rattle.conode_explain_transfers.specs.declared.kinds.Side.TheVariants.{Client, Server}
use Rattle.conode_explain_transfers.specs.declared.kinds.What.{What}
use Rattle.conode_explain_transfers.specs.declared.kinds.What.TheVariants as what
use Rattle.conode_explain_transfers.specs.declared.transfer.Transfer.{Transfer}
use Rattle.conode_explain_transfers.specs.Followed.{Followed, Following, turns_at, with_frame}
use Rattle.conode_explain_transfers.specs.Readings.{is_sender, may_have_segment}
use Rattle.conode_explain_transfers.specs.Stages.{confirmed_with}
use Rattle.conode_explain_transfers.specs.Transfers.{after, unexpected}
use Rattle.conode_explain_laws.proofs.AllInputs.{short_reading}
use Rattle.conode_explain_laws.proofs.Follows.{BegunBy, begun_by}
use Rattle.conode_explain_laws.proofs.Kept.{Keeps, keeps}
use Rattle.conode_explain_laws.proofs.Readings.{Abort, Begin, Nothing, Reading, Request, Response, Segment, begun_after, begun_with, follows_by, plain_reading, reading_of, request_reading, sub_block_reading, turn_of, went_on_as}
use Rattle.conode_explain_laws.proofs.Views.{is_begin, server_no_begin}
use Rattle.conode_compare_values.specs.SheetValues.{denies, is_readable}
use Rattle.conode_compare_values.specs.declared.mismatch.Mismatch.TheVariants.{AboveLimit, BelowLimit, BeyondRoom, ConstText, ReadRefused, ReadServed, ValueConst, ValueLength, Written}
use Rattle.conode_compare_nmt.specs.declared.finding.Finding.{Finding}
use Rattle.conode_compare_nmt.specs.declared.finding.Finding.TheVariants.{Value}
use Rattle.conode_compare_nmt.specs.declared.limits.Subject.{Subject}
use Rattle.conode_compare_rules.specs.Answers.{known_finding, refuses_other}
use Rattle.conode_compare_laws.specs.ValueFindings.{of_refusals}
use Rattle.conode_compare_laws.proofs.AnswerBreaches.{key_of_refusal}
use Rattle.conode_compare_laws.proofs.AnswerFollowed.{reads}
use Rattle.conode_compare_laws.proofs.AnswerSteps.{some_map}
use Rattle.conode_compare_laws.proofs.ReadAnswers.{Replying, Step, begins, goes_on, is_sending, plainly, refuses, replies, sends_blocks, silent, starts}
use Rattle.conode_compare_laws.proofs.UploadAnswers.{InSubBlock, IsBegun, abort_read_as, asks_blocks, begun_fine, is_heard, one_pending, with_it}
use Rattle.conode_compare_laws.proofs.UploadRequests.{some_heard, start_heard}
use Rattle.conode_compare_laws.proofs.ValueAborts.{HasRoom, aborted_by, is_refusal, never_abort}
use Rattle.conode_compare_laws.proofs.ValueFrames.{AllFine, IsFine, answer_frame, following_on}
use Rattle.conode_compare_laws.proofs.ValueMismatches.{Passes, if_none, is_data, is_served, is_write, named_none, refusals_none}
use Rattle.conode_compare_laws.proofs.ValueOnly.{is_value}
use Rattle.conode_compare_laws.proofs.ValueRefused.{Mild, as_sent}

-- ---- which are picked

pub no_read : (finding : Finding) → is_value finding ≡ false → of_refusals (Some finding) ≡ []
no_read (Value mismatch) off = absurd (false≢true (sym off))
no_read _ off = refl

reads_data : Passes of_refusals refl is_data
reads_data (ValueLength key came width) h = refl
reads_data (ValueConst key shown held) h = refl
reads_data (ConstText key) h = refl
reads_data _ h = absurd (false≢true h)

reads_writes : Passes of_refusals refl is_write
reads_writes (Written key) h = refl
reads_writes (AboveLimit key) h = refl
reads_writes (BelowLimit key) h = refl
reads_writes (BeyondRoom key came room) h = refl
reads_writes _ h = absurd (false≢true h)

reads_served : Passes of_refusals refl is_served
reads_served (ReadServed key) h = refl
reads_served _ h = absurd (false≢true h)

-- ---- how far both are

-- explain has a download; or the channel has no block upload that may send segments; or both have one, before its start, or after a sub-block
pub data Near (current : Option OpenTransfer) (t : Transfer) : Type 0 where
  downloads : t.direction ≡ Download → Near current t
  elsewhere : is_sending current ≡ false → Near current t
  begun_so : (o : OpenTransfer) (size : ℕ) → IsBegun t size → current ≡ Some o → o.stage ≡ Begun size → Near current t
  sub_block : (o : OpenTransfer) (position sent : ℕ) → InSubBlock t o.bytes position sent → current ≡ Some o → o.stage ≡ BlockUpload position sent → Near current t

abbrev pub AreNear : Option OpenTransfer → Following → Type 0
AreNear current f = IfSome f.transfer (Near current)

pub still_near : (current : Option OpenTransfer) (o : Option Transfer) → is_sending current ≡ false → IfSome o (Near current)
still_near current None still = tt
still_near current (Some t) still = elsewhere still

-- ---- downloads stay downloads

abbrev IsDown : Option Transfer → Type 0
IsDown o = IfSome o (λ t. t.direction ≡ Download)

down_near : (current : Option OpenTransfer) (o : Option Transfer) → IsDown o → IfSome o (Near current)
down_near current None h = tt
down_near current (Some t) h = downloads h

record StaysDown (f : Followed) : Type 0 where
  ended : IfSome f.says.ended (λ e. e.direction ≡ Download)
  next : IsDown f.next.transfer

frame_down : (w : What) (u : Transfer) (micros : ℕ) (side : Side) → u.direction ≡ Download → (with_frame w u micros side).direction ≡ Download
frame_down what.Overtaken u micros side h = h
frame_down _ u micros side h = h

turn_down : (x : Option (Option ℕ)) (heard : Bool) (w : What) (u : Transfer) (micros : ℕ) (side : Side) → u.direction ≡ Download → StaysDown (turns_at x heard w u micros side)
turn_down None heard w u micros side h = record { ended = tt; next = frame_down w u micros side h }
turn_down (Some crc) heard w u micros side h = record { ended = h; next = tt }

by_turn : (heard : Bool) (t : Transfer) (reading : Reading) (micros : ℕ) (side : Side) (bytes : List ℕ) → t.direction ≡ Download
    → StaysDown (turns_at (confirmed_with (turn_of t reading bytes).transfer.stage) heard (turn_of t reading bytes).what (after t (turn_of t reading bytes)) micros side)
by_turn heard t reading micros side bytes h =
    let k : Keeps t (turn_of t reading bytes).transfer = keeps t reading bytes in
    turn_down (confirmed_with (turn_of t reading bytes).transfer.stage) heard (turn_of t reading bytes).what (after t (turn_of t reading bytes)) micros side (k.direction ∙ h)

stays_down : (heard : Bool) (o : Option Transfer) (reading : Reading) (micros : ℕ) (side : Side) (bytes : List ℕ) → is_begin reading ≡ false → IsDown o → StaysDown (follows_by heard o reading micros side bytes)
stays_down heard o (Begin new) micros side bytes n h = absurd (false≢true (sym n))
stays_down heard None _ micros side bytes n h = record { ended = tt; next = tt }
stays_down heard (Some t) (Abort code) micros side bytes n h = record { ended = h; next = tt }
stays_down heard (Some t) (Segment one) micros side bytes n h = by_turn heard t (Segment one) micros side bytes h
stays_down heard (Some t) (Request one) micros side bytes n h = by_turn heard t (Request one) micros side bytes h
stays_down heard (Some t) (Response one) micros side bytes n h = by_turn heard t (Response one) micros side bytes h
stays_down heard (Some t) Nothing micros side bytes n h = by_turn heard t Nothing micros side bytes h

-- ---- what the client's frames are read as

-- in an upload they are requests
upload_plain : (t : Transfer) (micros : ℕ) (frame : List ℕ) → t.direction ≡ Upload → reading_of (Some t) Client micros frame ≡ request_reading (request_in frame) micros frame
upload_plain t micros frame e = by (may_have_segment t.stage t.direction t.protocol) t.direction e
  where
    by : (inside : Bool) (x : Direction) → x ≡ Upload
        → (if (if inside then is_sender x Client else false) then sub_block_reading t.block_size Client micros frame else plain_reading Client micros frame) ≡ request_reading (request_in frame) micros frame
    by true x e = rw e refl
    by false x e = refl

-- one that begins nothing isn't read as the begin of a transfer
no_begin : (o : Option Transfer) (micros : ℕ) (frame : List ℕ) (request : SdoRequest) → request_in frame ≡ Some request → begun_with request micros frame ≡ None → is_begin (reading_of o Client micros frame) ≡ false
no_begin o micros frame request is none = by (reading_of o Client micros frame) refl
  where
    by : (reading : Reading) → reading_of o Client micros frame ≡ reading → is_begin reading ≡ false
    by (Begin new) e =
        let b : BegunBy frame micros (begun_after o frame new) = begun_by o micros frame new e in
        let same : b.request ≡ request = let both : Some b.request ≡ Some request = sym b.is ∙ is in cc in
        absurd (let no : None ≡ Some (went_on_as false (begun_after o frame new)) = sym none ∙ ap (λ r. begun_with r micros frame) (sym same) ∙ b.initiates in cc)
    by _ e = refl

-- the begin of a block upload is read as such, or in a download
begins_blocks : (o : Option Transfer) (micros : ℕ) (frame : List ℕ) (key : Key) (size threshold : ℕ) → request_in frame ≡ Some (BlockUploadInitiate key size threshold) → is_begin (reading_of o Client micros frame) ≡ false → IsDown o
begins_blocks None micros frame key size threshold is n = tt
begins_blocks (Some t) micros frame key size threshold is n = by t.direction refl
  where
    by : (x : Direction) → t.direction ≡ x → x ≡ Download
    by Download e = refl
    by Upload e = absurd (false≢true (sym n ∙ ap is_begin (upload_plain t micros frame e ∙ ap (λ r. request_reading r micros frame) is)))

-- ---- one frame

module _ (subject : Subject) (rows : List Row) (micros : ℕ) where
  abbrev IsDenied : Ended → AbortCode → Type 0
  IsDenied e code = (row : Row) → row_at rows e.key ≡ Some row → (denies row.key code.0 && is_readable row.access) ≡ false

  nothing_more : (b : Bool) → (b && false) ≡ false
  nothing_more true = refl
  nothing_more false = refl

  ended_fine : (frame : FrameContent) (e : Ended) → ((code : AbortCode) → e.direction ≡ Upload → e.ending ≡ Aborted Server code → refuses_other frame e ≡ false → IsDenied e code) → of_refusals (known_finding subject rows frame e) ≡ []
  ended_fine frame e h =
      named_none of_refusals refl subject rows frame e
      (λ named row is. refusals_none of_refusals refl subject.node subject.facts.modular subject.rooms row _ e reads_data reads_writes reads_served
      (λ code up ends. if_none of_refusals refl (not subject.facts.modular && (denies row.key code.0 && is_readable row.access)) (Some (ReadRefused row.key code)) None
      (λ on. absurd (false≢true (sym (h code up ends named row is) ∙ (and_parts (not subject.facts.modular) (denies row.key code.0 && is_readable row.access) on).1)))
      (λ off. refl)))

  abbrev pub Fine : FrameContent → Followed → Type 0
  Fine frame f = IsFine of_refusals refl no_read subject rows micros frame f

  -- a frame that isn't read as an abort of the server
  unrefused : (side : Side) (f : Following) (frame : FrameContent) → ((code : AbortCode) → side ≡ Server → reading_of f.transfer side micros frame.bytes ≡ Abort code → ⊥) → Fine frame (reads f micros side frame.bytes)
  unrefused side f frame never =
      some_map (reads f micros side frame.bytes).says.ended _ (λ e. of_refusals (known_finding subject rows frame e) ≡ [])
      (λ e g. ended_fine frame e (λ code up ends other row is. let p = g code ends in absurd (never code p.0 p.1)))
      (aborted_by f.heard f.transfer (reading_of f.transfer side micros frame.bytes) micros side frame.bytes)

  pub client_fine : (f : Following) (frame : FrameContent) → Fine frame (reads f micros Client frame.bytes)
  client_fine f frame = unrefused Client f frame (λ code is e. absurd (cc))

  -- one with which a download ends
  down_fine : (side : Side) (f : Following) (frame : FrameContent) → StaysDown (reads f micros side frame.bytes) → Fine frame (reads f micros side frame.bytes)
  down_fine side f frame h =
      some_map (reads f micros side frame.bytes).says.ended (λ e. e.direction ≡ Download) (λ e. of_refusals (known_finding subject rows frame e) ≡ [])
      (λ e down. ended_fine frame e (λ code up ends other row is. absurd (let no : Download ≡ Upload = sym down ∙ up in cc))) h.ended

  abbrev answer_on : List ℕ → FrameContent
  answer_on bytes = answer_frame of_refusals refl no_read subject rows micros bytes

  response_fine : (response : SdoResponse) (f : Following) → is_refusal response ≡ false → HasRoom response → Fine (answer_on (response_bytes response)) (reads f micros Server (response_bytes response))
  response_fine response f n h = unrefused Server f (answer_on (response_bytes response)) (λ code is e. never_abort response f.transfer micros code n h e)

  -- an abort
  refused_fine : (key : Key) (code : ℕ) (f : Following) → key.index < 65536 → Mild rows key code
      → Fine (answer_on (response_bytes (Refuse key (record { 0 = code })))) (reads f micros Server (response_bytes (Refuse key (record { 0 = code }))))
  refused_fine key code f small mild =
      some_map (reads f micros Server bytes).says.ended _ (λ e. of_refusals (known_finding subject rows frame e) ≡ [])
      (λ e g. ended_fine frame e (λ came up ends named row is. let p = g came ends in denied e came (sym p.1 ∙ abort_read_as f.transfer micros key code) named row is))
      (aborted_by f.heard f.transfer (reading_of f.transfer Server micros bytes) micros Server bytes)
    where
      bytes : List ℕ
      bytes = response_bytes (Refuse key (record { 0 = code }))

      frame : FrameContent
      frame = answer_on (response_bytes (Refuse key (record { 0 = code })))

      same_if : (b : Bool) → not b ≡ false → b ≡ true
      same_if true h = refl
      same_if false h = sym h

      of_row : (row : Row) (o : Option Row) → o ≡ Some row → IfSome o (λ r. (denies r.key (as_sent code) && is_readable r.access) ≡ false) → (denies row.key (as_sent code) && is_readable row.access) ≡ false
      of_row row None is h = absurd (cc)
      of_row row (Some r) is h = let same : r ≡ row = cc in subst (λ (x : Row). (denies x.key (as_sent code) && is_readable x.access) ≡ false) same h

      denied : (e : Ended) (came : AbortCode) → Abort came ≡ Abort (code_in (response_bytes (Refuse key (record { 0 = code })))) → refuses_other frame e ≡ false → IsDenied e came
      denied e came codes named row is =
          let same : came ≡ code_in (response_bytes (Refuse key (record { 0 = code }))) = cc in
          let mine : key ≡ e.key = sym (key_of_refusal (0x580 + subject.node) key code small) ∙ same_key-is _ e.key (same_if _ named) in
          let held : (denies row.key (as_sent code) && is_readable row.access) ≡ false = of_row row (row_at rows key) (ap (row_at rows) mine ∙ is) mild.holds in
          ap (λ (c : AbortCode). denies row.key c.0 && is_readable row.access) same ∙ held

  -- ---- answers one after another, and what explain has after them

  abbrev pub Answers : List Answer → Following → (Following → Type 0) → Type 0
  Answers [] f next = next f
  Answers (answer ∷ later) f next =
      Fine (answer_on (answer_bytes answer)) (reads f micros Server (answer_bytes answer)) × Answers later (reads f micros Server (answer_bytes answer)).next next

  pub all_fine : (answers : List Answer) (f : Following) (next : Following → Type 0) → Answers answers f next → AllFine of_refusals refl no_read subject rows micros f answers
  all_fine [] f next h = tt
  all_fine (answer ∷ later) f next h = (h.0, all_fine later (reads f micros Server (answer_bytes answer)).next next h.1)

  pub last_is : (answers : List Answer) (f : Following) (next : Following → Type 0) → Answers answers f next → next (following_on of_refusals refl no_read subject rows micros f answers)
  last_is [] f next h = h
  last_is (answer ∷ later) f next h = last_is later (reads f micros Server (answer_bytes answer)).next next h.1

  -- those without segments
  pub replied : (answers : List Answer) (f : Following) (next : Following → Type 0) → Replying rows answers → ((g : Following) → next g) → Answers answers f next
  replied answers f next (silent is) n = subst (λ x. Answers x f next) (sym is) (n f)
  replied answers f next (refuses key code is small mild) n =
      subst (λ x. Answers x f next) (sym is) (refused_fine key code f small mild, n (reads f micros Server (response_bytes (Refuse key (record { 0 = code })))).next)
  replied answers f next (replies response is off room) n = subst (λ x. Answers x f next) (sym is) (response_fine response f off room, n (reads f micros Server (response_bytes response)).next)

  -- any, where explain has a download or nothing
  down_answers : (answers : List Answer) (f : Following) (next : Following → Type 0) → IsDown f.transfer → ((g : Following) → IsDown g.transfer → next g) → Answers answers f next
  down_answers [] f next h n = n f h
  down_answers (answer ∷ later) f next h n =
      let s : StaysDown (reads f micros Server (answer_bytes answer)) =
      stays_down f.heard f.transfer (reading_of f.transfer Server micros (answer_bytes answer)) micros Server (answer_bytes answer) (server_no_begin f.transfer micros (answer_bytes answer)) h in
      (down_fine Server f (answer_on (answer_bytes answer)) s, down_answers later (reads f micros Server (answer_bytes answer)).next next s.next n)

  -- the segments of a sub-block that explain awaits
  segments : (bytes : List ℕ) (position more : ℕ) (heard : Bool) (t : Transfer) (sent : ℕ) (next : Following → Type 0) → InSubBlock t bytes position sent → position + (sent + more) ≤ segment_count bytes → sent + more ≤ t.block_size → sent + more < 128
      → ((g : Following) (u : Transfer) → g.transfer ≡ Some u → InSubBlock u bytes position (sent + more) → next g)
      → Answers (map (λ number. Sent (block_segment bytes position number)) (range_with_len (sent + 1) more)) (record { heard = heard; transfer = Some t }) next
  segments bytes position zero heard t sent next h most within few go =
      let none : sent ≡ sent + 0 = omega arith in
      go (record { heard = heard; transfer = Some t }) t refl (subst (InSubBlock t bytes position) none h)
  segments bytes position (suc more) heard t sent next h most within few go =
      let id : ℕ = 0x580 + subject.node in
      let u : Transfer = with_it t (block_segment bytes position (sent + 1)) micros in
      let under : position + sent < segment_count bytes = omega arith in
      let sum : sent + 1 + more ≡ sent + suc more = omega arith in
      subst (λ (f : Followed). Fine (answer_on (answer_bytes (Sent (block_segment bytes position (sent + 1))))) f
      × Answers (map (λ number. Sent (block_segment bytes position number)) (range_with_len (sent + 1 + 1) more)) f.next next)
      (sym (is_heard id micros heard bytes position t sent h under (omega arith) (omega arith))) (
        tt,
        segments bytes position more heard u (sent + 1) next (one_pending id micros heard bytes position t sent h under) (omega arith) (omega arith) (omega arith)
            (λ g w is k. go g w is (subst (InSubBlock w bytes position) sum k)),
      )

  sub_block_comes : (o next : OpenTransfer) (position size : ℕ) (heard : Bool) (u : Transfer) → InSubBlock u o.bytes position 0 → u.block_size ≡ size → size < 128 → next ≡ record { key = o.key; stage = BlockUpload position (sub_block_length o.bytes position size); bytes = o.bytes }
      → Answers (sub_block_sent o.bytes position size) (record { heard = heard; transfer = Some u }) (AreNear (Some next))
  sub_block_comes o next position size heard u h block few is =
      let count : ℕ = sub_block_length o.bytes position size in
      let first = h.first in
      segments o.bytes position count heard u 0 (AreNear (Some next)) h (omega (arith, first)) (omega (arith, block)) (omega (arith, few))
      (λ g w at k. subst (λ x. IfSome x (Near (Some next))) (sym at)
      (subst (λ (n : OpenTransfer). Near (Some n) w) (sym is)
      (sub_block (record { key = o.key; stage = BlockUpload position count; bytes = o.bytes }) position count (let none : 0 + count ≡ count = omega arith in subst (InSubBlock w o.bytes position) none k) refl refl)))

  -- ---- a request with its answers

  abbrev After : Option OpenTransfer → List ℕ → List Answer → Following → Type 0
  After next frame answers f = Answers answers (reads f micros Client frame).next (AreNear next)

  -- in a download, or where explain has nothing
  aside : (next : Option OpenTransfer) (frame : List ℕ) (answers : List Answer) (f : Following) → is_begin (reading_of f.transfer Client micros frame) ≡ false → IsDown f.transfer → After next frame answers f
  aside next frame answers f n h =
      down_answers answers (reads f micros Client frame).next (AreNear next) (stays_down f.heard f.transfer (reading_of f.transfer Client micros frame) micros Client frame n h).next
      (λ g down. down_near next g.transfer down)

  -- a block upload is begun
  blocks_begin : (next : Option OpenTransfer) (frame : List ℕ) (answers : List Answer) (f : Following) (key : Key) (size threshold : ℕ) (value : List ℕ) → request_in frame ≡ Some (BlockUploadInitiate key size threshold) → key.index < 65536 → size < 128
      → answers ≡ Replied (BlockUploadInitiated key (Some (length value))) ∷ [] → next ≡ opened_at key (Begun size) value → After next frame answers f
  blocks_begin next frame answers f key size threshold value is small few replies_with opens = by (reading_of f.transfer Client micros frame) refl
    where
      response : SdoResponse
      response = BlockUploadInitiated key (Some (length value))

      started : (t : Transfer) → BegunBy frame micros t → Answers answers (record { heard = true; transfer = Some t }) (AreNear next)
      started t b =
          let named : b.request ≡ BlockUploadInitiate key size threshold = let both : Some b.request ≡ Some (BlockUploadInitiate key size threshold) = sym b.is ∙ is in cc in
          let begun : Some (asks_blocks false key size micros frame) ≡ Some (went_on_as false t) = ap (λ r. begun_with r micros frame) (sym named) ∙ b.initiates in
          let first : asks_blocks false key size micros frame ≡ went_on_as false t = cc in
          let same : asks_blocks t.went_on key size micros frame ≡ t = ap (went_on_as t.went_on) first in
          let near : AreNear next (reads (record { heard = true; transfer = Some (asks_blocks t.went_on key size micros frame) }) micros Server (response_bytes response)).next =
          (begun_fine (0x580 + subject.node) micros true t.went_on key size (length value) micros frame (AreNear next) small few
          (λ u h k. begun_so (record { key = key; stage = Begun size; bytes = value }) size h opens refl)).1 in
          subst (λ x. Answers x (record { heard = true; transfer = Some t }) (AreNear next)) (sym replies_with)
          (subst (λ u. Answers (Replied response ∷ []) (record { heard = true; transfer = Some u }) (AreNear next)) same
          (response_fine response (record { heard = true; transfer = Some (asks_blocks t.went_on key size micros frame) }) refl tt, near))

      by : (reading : Reading) → reading_of f.transfer Client micros frame ≡ reading → Answers answers (follows_by f.heard f.transfer reading micros Client frame).next (AreNear next)
      by (Begin new) e = started (begun_after f.transfer frame new) (begun_by f.transfer micros frame new e)
      by reading e = subst (λ r. Answers answers (follows_by f.heard f.transfer r micros Client frame).next (AreNear next)) e
          (aside next frame answers f (ap is_begin e) (begins_blocks f.transfer micros frame key size threshold is (ap is_begin e)))

  -- it is started
  started_by : (next : Option OpenTransfer) (frame : List ℕ) (answers : List Answer) (heard : Bool) (t : Transfer) (o : OpenTransfer) (size : ℕ) → IsBegun t size → request_in frame ≡ Some BlockUploadStart
      → answers ≡ sub_block_sent o.bytes 0 size → next ≡ opened_at o.key (BlockUpload 0 (sub_block_length o.bytes 0 size)) o.bytes → After next frame answers (record { heard = heard; transfer = Some t })
  started_by next frame answers heard t o size h is comes opens =
      let few = h.few in
      let read : reading_of (Some t) Client micros frame ≡ Request BlockUploadStart = upload_plain t micros frame h.is.direction ∙ ap (λ r. request_reading r micros frame) is in
      subst (λ r. Answers answers (follows_by heard (Some t) r micros Client frame).next (AreNear next)) (sym read)
      (start_heard heard t micros size frame o.bytes (λ (f : Followed). Answers answers f.next (AreNear next)) h
      (λ u k block key. subst (λ x. Answers x (record { heard = heard; transfer = Some u }) (AreNear next)) (sym comes)
      (subst (λ x. Answers (sub_block_sent o.bytes 0 size) (record { heard = heard; transfer = Some u }) (AreNear x)) (sym opens)
      (sub_block_comes o (record { key = o.key; stage = BlockUpload 0 (sub_block_length o.bytes 0 size); bytes = o.bytes }) 0 size heard u k block few refl))))

  -- a part of a sub-block is acknowledged
  acknowledged_by : (next : Option OpenTransfer) (frame : List ℕ) (answers : List Answer) (heard : Bool) (t : Transfer) (o : OpenTransfer) (position sent sequence size : ℕ) → InSubBlock t o.bytes position sent
      → request_in frame ≡ Some (BlockUploadAcknowledge sequence size) → nat_lt sent sequence ≡ false → (position + sequence == segment_count o.bytes) ≡ false → size < 128
      → answers ≡ sub_block_sent o.bytes (position + sequence) size → next ≡ opened_at o.key (BlockUpload (position + sequence) (sub_block_length o.bytes (position + sequence) size)) o.bytes
      → After next frame answers (record { heard = heard; transfer = Some t })
  acknowledged_by next frame answers heard t o position sent sequence size h is few more small comes opens =
      let read : reading_of (Some t) Client micros frame ≡ Request (BlockUploadAcknowledge sequence size) = upload_plain t micros frame h.is.direction ∙ ap (λ r. request_reading r micros frame) is in
      subst (λ r. Answers answers (follows_by heard (Some t) r micros Client frame).next (AreNear next)) (sym read)
      (some_heard heard t micros frame o.bytes position sent sequence size h (λ (f : Followed). Answers answers f.next (AreNear next)) few more
      (λ u k block key. subst (λ x. Answers x (record { heard = heard; transfer = Some u }) (AreNear next)) (sym comes)
      (subst (λ x. Answers (sub_block_sent o.bytes (position + sequence) size) (record { heard = heard; transfer = Some u }) (AreNear x)) (sym opens)
      (sub_block_comes o (record { key = o.key; stage = BlockUpload (position + sequence) (sub_block_length o.bytes (position + sequence) size); bytes = o.bytes }) (position + sequence) size heard u k block small refl))))

  -- ---- every request

  no_sending : (current : Option OpenTransfer) (o : OpenTransfer) (P : Type 0) → current ≡ Some o → sends_blocks o.stage ≡ true → is_sending current ≡ false → P
  no_sending current o P is on off = absurd (false≢true (sym off ∙ ap is_sending is ∙ on))

  start_after : (current next : Option OpenTransfer) (frame : List ℕ) (answers : List Answer) (f : Following) (o : OpenTransfer) (size : ℕ) → current ≡ Some o → o.stage ≡ Begun size → request_in frame ≡ Some BlockUploadStart
      → answers ≡ sub_block_sent o.bytes 0 size → next ≡ opened_at o.key (BlockUpload 0 (sub_block_length o.bytes 0 size)) o.bytes → AreNear current f → After next frame answers f
  start_after current next frame answers f o size at stage is comes opens near = by f.transfer near
    where
      quiet : (x : Option Transfer) → is_begin (reading_of x Client micros frame) ≡ false
      quiet x = no_begin x micros frame BlockUploadStart is refl

      of_begun : (t : Transfer) (other : OpenTransfer) (n : ℕ) → IsBegun t n → current ≡ Some other → other.stage ≡ Begun n → After next frame answers (record { heard = f.heard; transfer = Some t })
      of_begun t other n h there begun =
          let same : other ≡ o = let both : Some other ≡ Some o = sym there ∙ at in cc in
          let sizes : Begun n ≡ Begun size = sym begun ∙ ap (λ (x : OpenTransfer). x.stage) same ∙ stage in
          let equal : n ≡ size = cc in
          started_by next frame answers f.heard t o size (subst (IsBegun t) equal h) is comes opens

      by : (x : Option Transfer) → IfSome x (Near current) → After next frame answers (record { heard = f.heard; transfer = x })
      by None h = aside next frame answers (record { heard = f.heard; transfer = None }) (quiet None) tt
      by (Some t) (downloads down) = aside next frame answers (record { heard = f.heard; transfer = Some t }) (quiet (Some t)) down
      by (Some t) (elsewhere off) = no_sending current o _ at (ap sends_blocks stage) off
      by (Some t) (begun_so other n h there begun) = of_begun t other n h there begun
      by (Some t) (sub_block other position sent h there inside) =
          absurd (let both : Some other ≡ Some o = sym there ∙ at in let same : other ≡ o = cc in let no : BlockUpload position sent ≡ Begun size = sym inside ∙ ap (λ (x : OpenTransfer). x.stage) same ∙ stage in cc)

  acknowledge_after : (current next : Option OpenTransfer) (frame : List ℕ) (answers : List Answer) (f : Following) (o : OpenTransfer) (position sent sequence size : ℕ) → current ≡ Some o → o.stage ≡ BlockUpload position sent
      → request_in frame ≡ Some (BlockUploadAcknowledge sequence size) → nat_lt sent sequence ≡ false → (position + sequence == segment_count o.bytes) ≡ false → size < 128
      → answers ≡ sub_block_sent o.bytes (position + sequence) size → next ≡ opened_at o.key (BlockUpload (position + sequence) (sub_block_length o.bytes (position + sequence) size)) o.bytes
      → AreNear current f → After next frame answers f
  acknowledge_after current next frame answers f o position sent sequence size at stage is few more small comes opens near = by f.transfer near
    where
      quiet : (x : Option Transfer) → is_begin (reading_of x Client micros frame) ≡ false
      quiet x = no_begin x micros frame (BlockUploadAcknowledge sequence size) is refl

      of_sub_block : (t : Transfer) (other : OpenTransfer) (p n : ℕ) → InSubBlock t other.bytes p n → current ≡ Some other → other.stage ≡ BlockUpload p n → After next frame answers (record { heard = f.heard; transfer = Some t })
      of_sub_block t other p n h there inside =
          let same : other ≡ o = let both : Some other ≡ Some o = sym there ∙ at in cc in
          let stages : BlockUpload p n ≡ BlockUpload position sent = sym inside ∙ ap (λ (x : OpenTransfer). x.stage) same ∙ stage in
          let positions : p ≡ position = cc in
          let counts : n ≡ sent = cc in
          let mine : InSubBlock t o.bytes p n = subst (λ (x : OpenTransfer). InSubBlock t x.bytes p n) same h in
          let moved : InSubBlock t o.bytes position n = subst (λ x. InSubBlock t o.bytes x n) positions mine in
          acknowledged_by next frame answers f.heard t o position sent sequence size (subst (InSubBlock t o.bytes position) counts moved) is few more small comes opens

      by : (x : Option Transfer) → IfSome x (Near current) → After next frame answers (record { heard = f.heard; transfer = x })
      by None h = aside next frame answers (record { heard = f.heard; transfer = None }) (quiet None) tt
      by (Some t) (downloads down) = aside next frame answers (record { heard = f.heard; transfer = Some t }) (quiet (Some t)) down
      by (Some t) (elsewhere off) = no_sending current o _ at (ap sends_blocks stage) off
      by (Some t) (begun_so other n h there begun) =
          absurd (let both : Some other ≡ Some o = sym there ∙ at in let same : other ≡ o = cc in let no : Begun n ≡ BlockUpload position sent = sym begun ∙ ap (λ (x : OpenTransfer). x.stage) same ∙ stage in cc)
      by (Some t) (sub_block other p n h there inside) = of_sub_block t other p n h there inside

  pub request_goes : (current next : Option OpenTransfer) (frame : List ℕ) (answers : List Answer) (f : Following) → Step rows current next frame answers → AreNear current f → After next frame answers f
  request_goes current next frame answers f (plainly r calm) near = replied answers (reads f micros Client frame).next (AreNear next) r (λ g. still_near next g.transfer calm.still)
  request_goes current next frame answers f (begins key size threshold value is small few comes opens) near = blocks_begin next frame answers f key size threshold value is small few comes opens
  request_goes current next frame answers f (starts o size at stage is comes opens) near = start_after current next frame answers f o size at stage is comes opens near
  request_goes current next frame answers f (goes_on o position sent sequence size at stage is few more small comes opens) near =
      acknowledge_after current next frame answers f o position sent sequence size at stage is few more small comes opens near

  -- ---- a frame that hasn't eight bytes

  short_turn : (current : Option OpenTransfer) (t : Transfer) (heard : Bool) (x : Option (Option ℕ)) → Near current t → AreNear current (turns_at x heard what.Unexpected (after t (unexpected t)) micros Client).next
  short_turn current t heard (Some crc) h = tt
  short_turn current t heard None (downloads down) = downloads down
  short_turn current t heard None (elsewhere off) = elsewhere off
  short_turn current t heard None (begun_so o size h at stage) =
      begun_so o size
      (record { is = record { direction = h.is.direction; protocol = h.is.protocol; crc = h.is.crc; small = h.is.small }; stage = h.stage; number = h.number; pending = h.pending; block_size = h.block_size; few = h.few })
      at stage
  short_turn current t heard None (sub_block o position sent h at stage) =
      sub_block o position sent
      (record { is = record { direction = h.is.direction; protocol = h.is.protocol; crc = h.is.crc; small = h.is.small }; stage = h.stage; number = h.number; pending = h.pending; first = h.first; most = h.most })
      at stage

  nothing_near : (current : Option OpenTransfer) (heard : Bool) (o : Option Transfer) (frame : List ℕ) → IfSome o (Near current) → AreNear current (follows_by heard o Nothing micros Client frame).next
  nothing_near current heard None frame h = tt
  nothing_near current heard (Some t) frame h = short_turn current t heard (confirmed_with t.stage) h

  pub ignored_near : (current : Option OpenTransfer) (f : Following) (frame : List ℕ) → ((length frame == 8) ≡ false) ⊎ (current ≡ None) → AreNear current f → AreNear current (reads f micros Client frame).next
  ignored_near current f frame (inl short) near =
      subst (λ r. AreNear current (follows_by f.heard f.transfer r micros Client frame).next) (sym (short_reading f.transfer micros frame short)) (nothing_near current f.heard f.transfer frame near)
  ignored_near current f frame (inr none) near = still_near current (reads f micros Client frame).next.transfer (ap is_sending none)
