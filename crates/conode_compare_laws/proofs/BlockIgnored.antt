-- A request that the device ignores, since it is stopped, or since it hasn't eight bytes: what compare has of the channel after it.
use Rattle.std.proofs.Common.{◌≡◌, ℕ, ◌+◌, Bool, true, false, List, [], ◌∷◌, length, Option, Some, None, refl, sym, ap, ◌∙◌, inl, inr, subst, arith}
use Rattle.std.specs.Prelude.{◌==◌, ◌&&◌, ◌/◌, ◌%◌, if◌then◌else◌, slice_index, IfSome, drop, nat_le}
use Rattle.std.proofs.lemmas.Bool.{false≢true}
use Rattle.co_frame.specs.FrameContent.{FrameContent}
use Rattle.co_frame.specs.SdoParts.{code_in}
use Rattle.co_frame.specs.SdoRequests.{request_in, request_row_in}
use Rattle.co_frame.specs.declared.sdo_request.SdoRequest.{SdoRequest}
use Rattle.co_frame.specs.declared.sdo_request.SdoRequest.TheVariants.{DownloadExpedited, DownloadInitiate, Upload as UploadInitiate, Abort as Abandon, BlockUploadInitiate, BlockDownloadInitiate}
use Rattle.co_sdo.specs.OpenTransfers.{is_initiate as initiates}
use Rattle.co_node_parts.specs.declared.nmt_state.NodeState.{NodeState}
use Rattle.co_node_parts.specs.declared.nmt_state.NodeState.TheVariants as node
use Rattle.co_sheet.specs.Content.{Row}
use Rattle.conode_explain_transfers.specs.declared.kinds.Side.TheVariants.{Client}
use Rattle.conode_explain_transfers.specs.declared.stage.Stage.TheVariants.{Initiated}
use Rattle.conode_explain_transfers.specs.declared.transfer.Transfer.{Transfer}
use Rattle.conode_explain_transfers.specs.Readings.{awaits_segment}
use Rattle.conode_explain_transfers.specs.Unanswered.{is_next_segment}
use Rattle.conode_explain_laws.proofs.Readings.{Reading, Segment, Begin, Abort, Request, Response, Nothing, request_reading, plain_reading, beginning, segment_reading, sub_block_reading, reading_of, begun_after}
use Rattle.conode_explain_laws.proofs.Views.{is_abort_reading, is_begin}
use Rattle.conode_compare_transfers.specs.Dialogues.{dialogue_heard}
use Rattle.conode_compare_rules.specs.declared.kind.FrameKind.TheVariants.{Sdo}
use Rattle.conode_compare_nmt.specs.declared.limits.Subject.{Subject}
use Rattle.conode_compare_nmt.specs.declared.nmt.Commanded.{Commanded}
use Rattle.conode_compare_rules.specs.declared.progress.Progress.{Progress}
use Rattle.conode_compare_rules.specs.Gaps.{begun}
use Rattle.conode_compare_laws.specs.AnswerFindings.{answer_differences}
use Rattle.conode_compare_laws.proofs.Runs.{AllRun}
use Rattle.conode_compare_laws.proofs.Shown.{runs}
use Rattle.conode_compare_laws.proofs.BlockTurns.{Live}
use Rattle.conode_compare_laws.proofs.BlockFollowed.{begins_plain}
use Rattle.conode_compare_laws.proofs.BlockCovers.{IsFresh, covers_client, fresh}
use Rattle.conode_compare_laws.proofs.BlockDialogues.{InitiateHeard, initiate_heard, later_heard}
use Rattle.conode_compare_laws.proofs.AnswerSteps.{Awaits, Excused, Holds, HoldsOf, IsBy, begun_holds, begun_newest, client_quiet, frame_runs, holds_open, none_holds}
use Rattle.conode_compare_laws.proofs.AnswerExchange.{begun_live, request_kind}

-- ---- what explain reads

at_now : (t micros : ℕ) (newest : Option ℕ) → t ≡ micros → newest ≡ Some micros → IsBy t newest
at_now t micros newest e now = subst (IsBy t) (sym now) (omega arith)

stopped_excused : (state : NodeState) (t : ℕ) (commanded : Option Commanded) → state ≡ node.Stopped → Excused (runs state) t commanded
stopped_excused state t commanded e = subst (λ s. Excused (runs s) t commanded) (sym e) tt

-- what explain reads as the begin of a transfer is an initiate request
begin_initiates : (r : Option SdoRequest) (micros : ℕ) (bytes : List ℕ) → is_begin (request_reading r micros bytes) ≡ true → initiates r ≡ true
begin_initiates (Some (DownloadExpedited key value)) micros bytes b = refl
begin_initiates (Some (DownloadInitiate key size)) micros bytes b = refl
begin_initiates (Some (UploadInitiate key)) micros bytes b = refl
begin_initiates (Some (BlockUploadInitiate key size threshold)) micros bytes b = refl
begin_initiates (Some (BlockDownloadInitiate key size)) micros bytes b = refl
begin_initiates None micros bytes b = absurd (false≢true b)
begin_initiates (Some (Abandon key code)) micros bytes b = absurd (false≢true b)
begin_initiates (Some _) micros bytes b = absurd (false≢true b)

reading_initiates : (current : Option Transfer) (micros : ℕ) (bytes : List ℕ) → is_begin (reading_of current Client micros bytes) ≡ true → initiates (request_in bytes) ≡ true
reading_initiates current micros bytes b = elim (begins_plain current micros bytes) [
  | inl same ↦ begin_initiates (request_in bytes) micros bytes (sym (ap is_begin same) ∙ b)
  | inr none ↦ absurd (false≢true (sym none.2 ∙ b))
]

module _ (Idle Inside : Type 0) (subject : Subject) (p : Progress) (micros : ℕ) (frame : FrameContent) (state : NodeState) (now : p.newest ≡ Some micros) (h : Holds Idle Inside (runs state) p) where
  ignored_initiate : (t : Transfer) → t.stage ≡ Initiated → reading_of p.dialogue.channel.transfer Client micros frame.bytes ≡ Begin t → state ≡ node.Stopped → Idle
      → HoldsOf Idle Inside (runs state) p.newest p.nmt.commanded (dialogue_heard subject.limits.answer p.started p.dialogue micros Client frame)
  ignored_initiate t first reading stopped idle =
      let a : InitiateHeard (begun_after p.dialogue.channel.transfer frame.bytes t) micros (dialogue_heard subject.limits.answer p.started p.dialogue micros Client frame) =
      initiate_heard subject.limits.answer p.started p.dialogue micros frame t reading (begun_live (is_next_segment p.dialogue.channel.transfer frame.bytes) t first) in
      record {
        live = subst (λ o. IfSome o Live) (sym a.transfer) a.live;
        asked = subst (λ o. IfSome o (Awaits Idle (runs state) p.newest p.nmt.commanded (dialogue_heard subject.limits.answer p.started p.dialogue micros Client frame).doubted)) (sym a.asked)
            (record { by = at_now a.request.micros micros p.newest a.at_once now; why = inl (stopped_excused state a.request.micros p.nmt.commanded stopped, idle) });
        covers = λ i. covers_client subject.limits.answer p.started p.dialogue micros frame h.live (h.covers i) (ap is_abort_reading reading);
      }

  ignored_holds : (is_begin (reading_of p.dialogue.channel.transfer Client micros frame.bytes) ≡ true → (state ≡ node.Stopped) × Idle)
      → (Inside → is_abort_reading (reading_of p.dialogue.channel.transfer Client micros frame.bytes) ≡ false)
      → HoldsOf Idle Inside (runs state) p.newest p.nmt.commanded (dialogue_heard subject.limits.answer p.started p.dialogue micros Client frame)
  ignored_holds ignores aborts = by (reading_of p.dialogue.channel.transfer Client micros frame.bytes) refl (fresh p.dialogue.channel.transfer micros frame.bytes)
    where
      heard : is_begin (reading_of p.dialogue.channel.transfer Client micros frame.bytes) ≡ false → HoldsOf Idle Inside (runs state) p.newest p.nmt.commanded (dialogue_heard subject.limits.answer p.started p.dialogue micros Client frame)
      heard n =
          let l = later_heard subject.limits.answer p.started p.dialogue micros frame h.live n in
          none_holds Idle Inside (runs state) p.newest p.nmt.commanded _ l.live l.asked (λ i. covers_client subject.limits.answer p.started p.dialogue micros frame h.live (h.covers i) (aborts i))

      by : (reading : Reading) → reading_of p.dialogue.channel.transfer Client micros frame.bytes ≡ reading → IsFresh (reading_of p.dialogue.channel.transfer Client micros frame.bytes)
          → HoldsOf Idle Inside (runs state) p.newest p.nmt.commanded (dialogue_heard subject.limits.answer p.started p.dialogue micros Client frame)
      by (Begin t) is f = let i = ignores (ap is_begin is) in ignored_initiate t (subst IsFresh is f) is i.0 i.1
      by (Segment segment) is f = heard (ap is_begin is)
      by (Abort code) is f = heard (ap is_begin is)
      by (Request request) is f = heard (ap is_begin is)
      by (Response response) is f = heard (ap is_begin is)
      by Nothing is f = heard (ap is_begin is)

-- no frame of another length than eight bytes is an abort
short_abort : (current : Option Transfer) (micros : ℕ) (bytes : List ℕ) → (length bytes == 8) ≡ false → is_abort_reading (reading_of current Client micros bytes) ≡ false
short_abort None micros bytes off = ap (λ b. is_abort_reading (request_reading (if b then request_row_in bytes else None) micros bytes)) off
short_abort (Some t) micros bytes off = by (awaits_segment t Client)
  where
    inside : (eight : Bool) → eight ≡ false
        → is_abort_reading (if eight && (slice_index bytes 0 == 0x80) then Abort (code_in bytes)
        else segment_reading t.block_size (if eight && nat_le 1 (slice_index bytes 0 % 128) then Some (record { last = slice_index bytes 0 / 128 == 1; sequence = slice_index bytes 0 % 128; bytes = drop 1 bytes }) else None)
        (beginning (request_reading (if eight then request_row_in bytes else None) micros bytes))) ≡ false
    inside true h = absurd (false≢true (sym h))
    inside false h = refl

    by : (awaited : Bool) → is_abort_reading (if awaited then sub_block_reading t.block_size Client micros bytes else plain_reading Client micros bytes) ≡ false
    by true = inside (length bytes == 8) off
    by false = ap (λ b. is_abort_reading (request_reading (if b then request_row_in bytes else None) micros bytes)) off

pub ignored_runs : (Idle Inside : Type 0) (subject : Subject) (rows : List Row) (micros : ℕ) (p : Progress) (frame : FrameContent) (state : NodeState) → frame.id ≡ 0x600 + subject.node
    → (initiates (request_in frame.bytes) ≡ true → (state ≡ node.Stopped) × Idle) → (Inside → (length frame.bytes == 8) ≡ false) → Holds Idle Inside (runs state) p → AllRun answer_differences subject rows micros p (frame ∷ []) (Holds Idle Inside (runs state))
ignored_runs Idle Inside subject rows micros p frame state id ignores short h =
    let held : Holds Idle Inside (runs state) (begun subject p micros) = begun_holds Idle Inside subject p micros (runs state) h in
    let q : Progress = begun subject p micros in
    frame_runs subject rows micros p frame (Sdo Client frame) (Holds Idle Inside (runs state)) (request_kind subject.node frame id)
    (client_quiet subject rows q micros frame (λ newest nmt d. HoldsOf Idle Inside (runs state) newest nmt.commanded d)
    (holds_open Idle Inside (runs state) q.newest q.nmt.commanded _ _ (ignored_holds Idle Inside subject q micros frame state (begun_newest subject p micros) held
    (λ b. ignores (reading_initiates q.dialogue.channel.transfer micros frame.bytes b)) (λ i. short_abort q.dialogue.channel.transfer micros frame.bytes (short i)))))
