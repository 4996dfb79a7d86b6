-- A frame of the client while the device is inside a sub-block of a download, and its answer: the device takes it as a segment, also where
-- explain reads an initiate request. None of them is found.
use Rattle.std.proofs.Common.{◌≡◌, ℕ, ◌+◌, ◌≤◌, Bool, true, false, List, [], ◌∷◌, length, Option, Some, None, refl, sym, ap, ◌∙◌, ◌⊎◌, inl, inr, subst, arith}
use Rattle.std.specs.Prelude.{◌==◌, ◌&&◌, ◌||◌, ◌/◌, ◌%◌, if◌then◌else◌, IfSome, drop, nat_le, slice_index}
use Rattle.std.specs.Option.{option_map_or}
use Rattle.std.proofs.lemmas.Bool.{false≢true}
use Rattle.std.proofs.lemmas.Bool.Decides.{nat_tests}
use Rattle.co_frame.specs.FrameContent.{FrameContent}
use Rattle.co_frame.specs.BlockSegments.{block_segment_in, is_abort_in_sub_block}
use Rattle.co_frame.specs.SegmentSizes.{segments_per_sub_block}
use Rattle.co_frame.specs.SdoFields.{command, has_bit, specifier, subcommand}
use Rattle.co_frame.specs.SdoParts.{code_in}
use Rattle.co_frame.specs.SdoRequests.{request_in, request_row_in}
use Rattle.co_frame.specs.declared.block_segment.BlockSegment.{BlockSegment}
use Rattle.co_frame.specs.declared.sdo_request.SdoRequest.{SdoRequest}
use Rattle.co_frame.specs.declared.sdo_request.SdoRequest.TheVariants.{DownloadExpedited, DownloadInitiate, Upload as UploadInitiate, Abort as Abandon, BlockUploadInitiate, BlockDownloadInitiate}
use Rattle.co_frame.specs.declared.sdo_response.SdoResponse.TheVariants.{Abort as Refuse, BlockDownloadAcknowledge}
use Rattle.co_dict.specs.Rows.{Contents}
use Rattle.co_dict.specs.Stores.{Description}
use Rattle.co_sdo.specs.Log.{Answer, Log, Response as Replied, frames_on}
use Rattle.co_sdo.specs.OpenTransfers.{is_abort_request}
use Rattle.co_sdo.specs.Replies.{reply_to}
use Rattle.co_sdo.specs.SubBlocks.{ends_sub_block}
use Rattle.co_sheet.specs.Content.{Row}
use Rattle.conode_explain_transfers.specs.declared.kinds.Side.TheVariants.{Client}
use Rattle.conode_explain_transfers.specs.declared.transfer.Transfer.{Transfer}
use Rattle.conode_explain_transfers.specs.declared.stage.Stage.TheVariants.{Initiated}
use Rattle.conode_explain_transfers.specs.Readings.{awaits_segment}
use Rattle.conode_explain_transfers.specs.Unanswered.{is_next_segment}
use Rattle.conode_explain_laws.proofs.Readings.{Reading, Segment, Begin, Abort, Request, Response, Nothing, request_reading, plain_reading, beginning, segment_reading, sub_block_reading, reading_of, begun_after}
use Rattle.conode_explain_laws.proofs.Views.{is_abort_reading, is_begin}
use Rattle.conode_compare_transfers.specs.declared.dialogue.Asked.{Asked}
use Rattle.conode_compare_transfers.specs.declared.dialogue.Dialogue.{Dialogue}
use Rattle.conode_compare_transfers.specs.Dialogues.{dialogue_heard}
use Rattle.conode_compare_rules.specs.declared.kind.FrameKind.TheVariants.{Sdo}
use Rattle.conode_compare_nmt.specs.declared.limits.Subject.{Subject}
use Rattle.conode_compare_nmt.specs.declared.nmt.Commanded.{Commanded}
use Rattle.conode_compare_rules.specs.declared.progress.Progress.{Progress}
use Rattle.conode_compare_rules.specs.Gaps.{begun as begun_progress}
use Rattle.conode_compare_rules.specs.Channels.{left_open}
use Rattle.conode_compare_laws.specs.AnswerFindings.{answer_differences}
use Rattle.conode_compare_laws.proofs.Runs.{AllRun}
use Rattle.conode_compare_laws.proofs.Shown.{Stage}
use Rattle.conode_compare_laws.proofs.AnswerFollowed.{asks_in}
use Rattle.conode_compare_laws.proofs.AnswerSteps.{Awaits, Holds, HoldsOf, InDoubt, IsBy, Quiet, client_quiet, frame_runs, none_holds}
use Rattle.conode_compare_laws.proofs.AnswerExchange.{Covering, IsFew, IsFinished, Later, OpensAt, Ready, acknowledge_opens, begun_live, covering_open, doubted_runs, few_runs, map_runs, quiet_map, request_kind}
use Rattle.conode_compare_laws.proofs.BlockTurns.{Live}
use Rattle.conode_compare_laws.proofs.BlockCovers.{Covers, IsFresh, apart_heard, covers_client, fresh}
use Rattle.conode_compare_laws.proofs.BlockDialogues.{InitiateHeard, doubted_begin, initiate_heard, later_heard, later_open}
use Rattle.conode_compare_laws.proofs.BlockDevice.{Acknowledges, IsInside, Quietly, Refuses, sub_block_replies}

-- ---- what isn't answered isn't read as an abort

-- a frame that is read as an abort is 80h, or a segment with c = 1
abbrev IsAbortOf : Option SdoRequest → List ℕ → Type 0
IsAbortOf (Some (Abandon key code)) bytes = specifier bytes ≡ 4
IsAbortOf _ bytes = Unit {0}

either_abort : (b : Bool) (x y : Option SdoRequest) (bytes : List ℕ) → (b ≡ true → IsAbortOf x bytes) → IsAbortOf y bytes → IsAbortOf (if b then x else y) bytes
either_abort true x y bytes p q = p refl
either_abort false x y bytes p q = q

either_plain : (b : Bool) (x y : SdoRequest) (bytes : List ℕ) → IsAbortOf (Some x) bytes → IsAbortOf (Some y) bytes → IsAbortOf (Some (if b then x else y)) bytes
either_plain true x y bytes p q = p
either_plain false x y bytes p q = q

equal : (a b : ℕ) → (a == b) ≡ true → a ≡ b
equal a b h = grind (arith, nat_tests)

abort_specifier : (bytes : List ℕ) → IsAbortOf (request_in bytes) bytes
unfolding request_row_in
abort_specifier bytes =
    either_abort (length bytes == 8) _ _ bytes
    (λ h. either_abort (specifier bytes == 0) _ _ bytes (λ h. tt)
    (either_abort (specifier bytes == 1) _ _ bytes (λ h. either_plain (has_bit 1 bytes) _ _ bytes tt tt)
    (either_abort (specifier bytes == 2) _ _ bytes (λ h. tt)
    (either_abort (specifier bytes == 3) _ _ bytes (λ h. tt)
    (either_abort (specifier bytes == 4) _ _ bytes (λ h. equal (specifier bytes) 4 h)
    (either_abort (specifier bytes == 5) _ _ bytes
    (λ h. either_plain (subcommand bytes == 0) _ _ bytes tt (either_plain (subcommand bytes == 1) _ _ bytes tt (either_plain (subcommand bytes == 2) _ _ bytes tt tt)))
    (either_abort (specifier bytes == 6) _ _ bytes (λ h. either_plain (has_bit 0 bytes) _ _ bytes tt tt)
    tt)))))))
    tt

eight : (r : Option SdoRequest) (bytes : List ℕ) → request_in bytes ≡ r → is_abort_request r ≡ true → (length bytes == 8) ≡ true
eight r bytes is abort = by (length bytes == 8) refl
  where
    by : (b : Bool) → (length bytes == 8) ≡ b → (length bytes == 8) ≡ true
    by true e = e
    by false e =
        let none : r ≡ None = sym is ∙ ap (λ b. if b then request_row_in bytes else None) e in
        absurd (false≢true (sym (ap is_abort_request none) ∙ abort))

-- it ends the sub-block then
last_of : (first : ℕ) → first / 32 ≡ 4 → (first == 0x80) ≡ false → (first / 128 == 1) ≡ true
last_of first h n = grind (arith, nat_tests)

numbered_of : (first : ℕ) → first / 32 ≡ 4 → (first == 0x80) ≡ false → nat_le 1 (first % 128) ≡ true
numbered_of first h n = let low : 1 ≤ first % 128 = numbered first h (differs first n) in grind (arith, nat_tests)
  where
    differs : (first : ℕ) → (first == 0x80) ≡ false → (first ≡ 0x80 → ⊥)
    differs first n = λ e. false≢true (sym n ∙ ap (λ x. x == 0x80) e)

    numbered : (first : ℕ) → first / 32 ≡ 4 → (first ≡ 0x80 → ⊥) → 1 ≤ first % 128
    numbered first h n = omega (arith, n)

abort_ends : (bytes : List ℕ) → (length bytes == 8) ≡ true → specifier bytes ≡ 4 → (command bytes == 0x80) ≡ false → ends_sub_block bytes ≡ true
abort_ends bytes long h n =
    by (length bytes == 8) (nat_le 1 (slice_index bytes 0 % 128)) (slice_index bytes 0 / 128 == 1) long (numbered_of (slice_index bytes 0) h n) (last_of (slice_index bytes 0) h n)
  where
    by : (long low last : Bool) → long ≡ true → low ≡ true → last ≡ true
        → option_map_or (λ (segment : BlockSegment). segment.last || (segment.sequence == segments_per_sub_block))
        (if long && low then Some (record { last = last; sequence = slice_index bytes 0 % 128; bytes = drop 1 bytes }) else None) false ≡ true
    by true true true p q r = refl
    by false low last p q r = absurd (false≢true p)
    by true false last p q r = absurd (false≢true q)
    by true true false p q r = absurd (false≢true r)

plain_abort : (r : Option SdoRequest) (micros : ℕ) (bytes : List ℕ) → is_abort_reading (request_reading r micros bytes) ≡ true → is_abort_request r ≡ true
plain_abort None micros bytes h = absurd (false≢true h)
plain_abort (Some (Abandon key code)) micros bytes h = refl
plain_abort (Some (DownloadExpedited key value)) micros bytes h = absurd (false≢true h)
plain_abort (Some (DownloadInitiate key size)) micros bytes h = absurd (false≢true h)
plain_abort (Some (UploadInitiate key)) micros bytes h = absurd (false≢true h)
plain_abort (Some (BlockUploadInitiate key size threshold)) micros bytes h = absurd (false≢true h)
plain_abort (Some (BlockDownloadInitiate key size)) micros bytes h = absurd (false≢true h)
plain_abort (Some _) micros bytes h = absurd (false≢true h)

specifier_of : (r : Option SdoRequest) (bytes : List ℕ) → is_abort_request r ≡ true → IsAbortOf r bytes → specifier bytes ≡ 4
specifier_of (Some (Abandon key code)) bytes abort h = h
specifier_of None bytes abort h = absurd (false≢true abort)
specifier_of (Some _) bytes abort h = absurd (false≢true abort)

plain_none : (micros : ℕ) (bytes : List ℕ) → ends_sub_block bytes ≡ false → (command bytes == 0x80) ≡ false → is_abort_reading (request_reading (request_in bytes) micros bytes) ≡ false
plain_none micros bytes goes n = by (is_abort_reading (request_reading (request_in bytes) micros bytes)) refl
  where
    by : (b : Bool) → is_abort_reading (request_reading (request_in bytes) micros bytes) ≡ b → is_abort_reading (request_reading (request_in bytes) micros bytes) ≡ false
    by true e =
        let abort : is_abort_request (request_in bytes) ≡ true = plain_abort (request_in bytes) micros bytes e in
        absurd (false≢true (sym goes ∙ abort_ends bytes (eight (request_in bytes) bytes refl abort) (specifier_of (request_in bytes) bytes abort (abort_specifier bytes)) n))
    by false e = e

no_beginning : (reading : Reading) → is_abort_reading (beginning reading) ≡ false
no_beginning (Begin new) = refl
no_beginning _ = refl

no_80 : (bytes : List ℕ) → (command bytes == 0x80) ≡ false → is_abort_in_sub_block bytes ≡ false
no_80 bytes n = by (length bytes == 8) (slice_index bytes 0 == 0x80) n
  where
    by : (a b : Bool) → b ≡ false → (a && b) ≡ false
    by true b h = h
    by false b h = refl

no_abort : (current : Option Transfer) (micros : ℕ) (bytes : List ℕ) → ends_sub_block bytes ≡ false → (command bytes == 0x80) ≡ false → is_abort_reading (reading_of current Client micros bytes) ≡ false
no_abort None micros bytes goes n = plain_none micros bytes goes n
no_abort (Some t) micros bytes goes n = by (awaits_segment t Client)
  where
    numbered : (low : Bool) (segment : BlockSegment) → is_abort_reading (if low then Segment segment else beginning (plain_reading Client micros bytes)) ≡ false
    numbered true segment = refl
    numbered false segment = no_beginning (plain_reading Client micros bytes)

    inside : (abort : Bool) (segment : Option BlockSegment) → abort ≡ false
        → is_abort_reading (if abort then Abort (code_in bytes) else segment_reading t.block_size segment (beginning (plain_reading Client micros bytes))) ≡ false
    inside true segment h = absurd (false≢true (sym h))
    inside false None h = no_beginning (plain_reading Client micros bytes)
    inside false (Some segment) h = numbered (nat_le segment.sequence t.block_size) segment

    by : (awaited : Bool) → is_abort_reading (if awaited then sub_block_reading t.block_size Client micros bytes else plain_reading Client micros bytes) ≡ false
    by true = inside (is_abort_in_sub_block bytes) (block_segment_in bytes) (no_80 bytes n)
    by false = plain_none micros bytes goes n

-- ---- the frame and its answer

-- a request that explain reads is asked in doubt
pub record Doubting (micros : ℕ) (newest : Option ℕ) (d : Dialogue) : Type 0 where
  pub now : newest ≡ Some micros
  pub live : IfSome d.channel.transfer Live
  pub request : Asked
  pub asked : d.asked ≡ Some request
  pub at_once : request.micros ≡ micros
  pub doubted : d.doubted ≡ Some micros

-- one that the device may not have taken
doubting_open : (micros : ℕ) (newest : Option ℕ) (misses : Bool) (d : Dialogue) → Doubting micros newest d → Doubting micros newest (left_open Client misses d)
doubting_open micros newest misses d h = record { now = h.now; live = h.live; request = h.request; asked = h.asked; at_once = h.at_once; doubted = h.doubted }

in_doubt_now : (t micros : ℕ) (doubted : Option ℕ) → t ≡ micros → doubted ≡ Some micros → InDoubt t doubted
in_doubt_now t micros doubted e is = subst (InDoubt t) (sym is) (omega arith)

by_now : (t micros : ℕ) (newest : Option ℕ) → t ≡ micros → newest ≡ Some micros → IsBy t newest
by_now t micros newest e is = subst (IsBy t) (sym is) (omega arith)

pub doubting_holds : (Idle Inside : Type 0) (stage : Stage) (commanded : Option Commanded) (micros : ℕ) (newest : Option ℕ) (d : Dialogue) → Doubting micros newest d → (Inside → Covers d) → HoldsOf Idle Inside stage newest commanded d
doubting_holds Idle Inside stage commanded micros newest d a c = record {
  live = a.live;
  asked = subst (λ o. IfSome o (Awaits Idle stage newest commanded d.doubted)) (sym a.asked)
      (record { by = by_now a.request.micros micros newest a.at_once a.now; why = inr (in_doubt_now a.request.micros micros d.doubted a.at_once a.doubted) });
  covers = c;
}

pub finished_holds : (Idle Inside : Type 0) (stage : Stage) (q : Progress) → IsFinished Inside q → Holds Idle Inside stage q
finished_holds Idle Inside stage q f = none_holds Idle Inside stage q.newest q.nmt.commanded q.dialogue f.live f.asked f.covers

module _ (Idle Opening : Type 0) (subject : Subject) (rows : List Row) (micros : ℕ) (stage : Stage) (frame : FrameContent) (p : Progress) (ready : Ready subject p micros) (covered : Covers p.dialogue) where
  -- what explain reads as an initiate request
  doubting : (t : Transfer) → t.stage ≡ Initiated → reading_of p.dialogue.channel.transfer Client micros frame.bytes ≡ Begin t → Doubting micros p.newest (dialogue_heard subject.limits.answer p.started p.dialogue micros Client frame)
  doubting t first reading =
      let h : InitiateHeard (begun_after p.dialogue.channel.transfer frame.bytes t) micros (dialogue_heard subject.limits.answer p.started p.dialogue micros Client frame) =
      initiate_heard subject.limits.answer p.started p.dialogue micros frame t reading (begun_live (is_next_segment p.dialogue.channel.transfer frame.bytes) t first) in
      record {
        now = ready.newest;
        live = subst (λ o. IfSome o Live) (sym h.transfer) h.live;
        request = h.request;
        asked = h.asked;
        at_once = h.at_once;
        doubted = doubted_begin subject.limits.answer p.started p.dialogue micros frame (ap is_begin reading) covered;
      }

  doubting_runs : (answers : List Answer) (q : Progress) → IsFew answers → Doubting micros q.newest q.dialogue → (Opening → Covering answers q.dialogue) → AllRun answer_differences subject rows micros q (frames_on (0x580 + subject.node) answers) (Holds Idle Opening stage)
  doubting_runs [] q few a c = doubting_holds Idle Opening stage q.nmt.commanded micros q.newest q.dialogue a c
  doubting_runs (x ∷ []) q few a c =
      map_runs subject rows micros (frames_on (0x580 + subject.node) (x ∷ [])) q (IsFinished Opening) (Holds Idle Opening stage) (λ r f. finished_holds Idle Opening stage r f)
      (doubted_runs Opening subject rows micros x q a.now a.live a.doubted c)
  doubting_runs (x ∷ y ∷ later) q few a c = absurd few

  replies : (answers : List Answer) → IsFew answers → (Opening → Covering answers (dialogue_heard subject.limits.answer p.started p.dialogue micros Client frame))
      → Quiet subject rows p micros (Sdo Client frame) (λ q. AllRun answer_differences subject rows micros q (frames_on (0x580 + subject.node) answers) (Holds Idle Opening stage))
  replies answers few c = by (reading_of p.dialogue.channel.transfer Client micros frame.bytes) refl (fresh p.dialogue.channel.transfer micros frame.bytes)
    where
      begun : (t : Transfer) → t.stage ≡ Initiated → reading_of p.dialogue.channel.transfer Client micros frame.bytes ≡ Begin t
          → Quiet subject rows p micros (Sdo Client frame) (λ q. AllRun answer_differences subject rows micros q (frames_on (0x580 + subject.node) answers) (Holds Idle Opening stage))
      begun t first is =
          quiet_map subject rows p micros (Sdo Client frame) (λ q. Doubting micros q.newest q.dialogue × (Opening → Covering answers q.dialogue)) _ (λ q h. doubting_runs answers q few h.0 h.1)
          (client_quiet subject rows p micros frame (λ newest nmt d. Doubting micros newest d × (Opening → Covering answers d)) (doubting_open micros p.newest _ _ (doubting t first is), λ o. covering_open answers _ _ (c o)))

      heard : is_begin (reading_of p.dialogue.channel.transfer Client micros frame.bytes) ≡ false
          → Quiet subject rows p micros (Sdo Client frame) (λ q. AllRun answer_differences subject rows micros q (frames_on (0x580 + subject.node) answers) (Holds Idle Opening stage))
      heard n =
          quiet_map subject rows p micros (Sdo Client frame) (λ q. Later (asks_in (request_in frame.bytes)) micros q.newest q.dialogue × (Opening → Covering answers q.dialogue)) _
          (λ q h. map_runs subject rows micros (frames_on (0x580 + subject.node) answers) q (IsFinished Opening) (Holds Idle Opening stage) (λ r f. finished_holds Idle Opening stage r f)
          (few_runs Opening subject rows micros (asks_in (request_in frame.bytes)) answers q few h.0.now h.0.heard h.1))
          (client_quiet subject rows p micros frame (λ newest nmt d. Later (asks_in (request_in frame.bytes)) micros newest d × (Opening → Covering answers d))
          (record { now = ready.newest; heard = later_open (asks_in (request_in frame.bytes)) micros _ _ (later_heard subject.limits.answer p.started p.dialogue micros frame ready.live n) }, λ o. covering_open answers _ _ (c o)))

      by : (reading : Reading) → reading_of p.dialogue.channel.transfer Client micros frame.bytes ≡ reading → IsFresh (reading_of p.dialogue.channel.transfer Client micros frame.bytes)
          → Quiet subject rows p micros (Sdo Client frame) (λ q. AllRun answer_differences subject rows micros q (frames_on (0x580 + subject.node) answers) (Holds Idle Opening stage))
      by (Begin t) is f = begun t (subst IsFresh is f) is
      by (Segment segment) is f = heard (ap is_begin is)
      by (Abort code) is f = heard (ap is_begin is)
      by (Request request) is f = heard (ap is_begin is)
      by (Response response) is f = heard (ap is_begin is)
      by Nothing is f = heard (ap is_begin is)

-- by what the device makes of it
module _ (Idle : Type 0) (subject : Subject) (rows : List Row) (micros : ℕ) (stage : Stage) (d : Description) (contents : Contents) (log : Log) (frame : FrameContent) (p : Progress) (ready : Ready subject p micros)
    (covered : Covers p.dialogue) where
  by_device : Quietly d contents log frame.bytes ⊎ (Acknowledges d contents log frame.bytes ⊎ Refuses d contents log frame.bytes)
      → Quiet subject rows p micros (Sdo Client frame) (λ q. AllRun answer_differences subject rows micros q (frames_on (0x580 + subject.node) (reply_to d contents log frame.bytes)) (Holds Idle (OpensAt d contents log frame.bytes) stage))
  by_device (inl h) =
      subst (λ answers. Quiet subject rows p micros (Sdo Client frame) (λ q. AllRun answer_differences subject rows micros q (frames_on (0x580 + subject.node) answers) (Holds Idle (OpensAt d contents log frame.bytes) stage))) (sym h.none)
      (replies Idle (OpensAt d contents log frame.bytes) subject rows micros stage frame p ready covered [] tt
      (λ o. covers_client subject.limits.answer p.started p.dialogue micros frame ready.live covered (no_abort p.dialogue.channel.transfer micros frame.bytes h.goes_on (h.kept o))))
  by_device (inr (inl h)) =
      subst (λ answers. Quiet subject rows p micros (Sdo Client frame) (λ q. AllRun answer_differences subject rows micros q (frames_on (0x580 + subject.node) answers) (Holds Idle (OpensAt d contents log frame.bytes) stage))) (sym h.answers)
      (replies Idle (OpensAt d contents log frame.bytes) subject rows micros stage frame p ready covered (Replied (BlockDownloadAcknowledge h.sequence segments_per_sub_block) ∷ []) tt
      (λ o. (apart_heard subject.limits.answer p.started p.dialogue micros frame ready.live covered.apart, acknowledge_opens h.sequence segments_per_sub_block)))
  by_device (inr (inr h)) =
      subst (λ answers. Quiet subject rows p micros (Sdo Client frame) (λ q. AllRun answer_differences subject rows micros q (frames_on (0x580 + subject.node) answers) (Holds Idle (OpensAt d contents log frame.bytes) stage))) (sym h.answers)
      (replies Idle (OpensAt d contents log frame.bytes) subject rows micros stage frame p ready covered (Replied (Refuse h.key (record { 0 = h.code })) ∷ []) tt (λ o. absurd (h.closed o)))

pub inside_runs : (Idle : Type 0) (subject : Subject) (rows : List Row) (micros : ℕ) (stage : Stage) (d : Description) (contents : Contents) (log : Log) (frame : FrameContent) (p : Progress) → frame.id ≡ 0x600 + subject.node
    → IsInside log → Ready subject (begun_progress subject p micros) micros → Covers (begun_progress subject p micros).dialogue
    → AllRun answer_differences subject rows micros p (frame ∷ [])
    (λ q. AllRun answer_differences subject rows micros q (frames_on (0x580 + subject.node) (reply_to d contents log frame.bytes)) (Holds Idle (OpensAt d contents log frame.bytes) stage))
inside_runs Idle subject rows micros stage d contents log frame p id inside ready covered =
    frame_runs subject rows micros p frame (Sdo Client frame) _ (request_kind subject.node frame id)
    (by_device Idle subject rows micros stage d contents log frame (begun_progress subject p micros) ready covered (sub_block_replies d contents log frame.bytes inside))
