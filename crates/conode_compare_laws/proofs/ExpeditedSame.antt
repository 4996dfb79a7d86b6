-- An expedited download that asks for the number that the entry has: whatever the device answers, no transfer shows another one.
use Rattle.std.proofs.Common.{◌≡◌, ℕ, Bool, true, false, List, length, Option, Some, None, refl, sym, inl, inr, subst}
use Rattle.std.specs.Prelude.{if◌then◌else◌, IfSome}
use Rattle.std.proofs.lemmas.Bool.{false≢true}
use Rattle.co_value.specs.declared.key.Key.{Key}
use Rattle.conode_explain_transfers.specs.declared.ended.Ending.TheVariants.{Done, Irregular}
use Rattle.conode_explain_transfers.specs.declared.kinds.Protocol.TheVariants.{Expedited}
use Rattle.conode_explain_transfers.specs.declared.kinds.Side.TheVariants.{Server}
use Rattle.conode_explain_transfers.specs.declared.kinds.What.TheVariants as what
use Rattle.conode_explain_transfers.specs.declared.transfer.Transfer.{Transfer}
use Rattle.conode_explain_transfers.specs.Endings.{size_fault, size_verdict, verdict}
use Rattle.conode_explain_transfers.specs.Followed.{Followed, Following, turns_at}
use Rattle.conode_explain_transfers.specs.SegmentedTurns.{confirmed}
use Rattle.conode_explain_transfers.specs.Stages.{confirmed_with}
use Rattle.conode_explain_transfers.specs.Transfers.{Turn, after, overtaken, takes_pending, unexpected}
use Rattle.conode_explain_laws.proofs.Readings.{Reading, Segment, Begin, Abort, Request, Response, Nothing, follows_by, reading_of, turn_of}
use Rattle.conode_explain_laws.proofs.Views.{is_begin, server_no_begin}
use Rattle.conode_compare_pdos.specs.SheetNumbers.{first_word}
use Rattle.conode_compare_nmt.specs.EntriesInForce.{done_word}
use Rattle.conode_compare_laws.proofs.AnswerFollowed.{reads}
use Rattle.conode_compare_laws.proofs.ExpeditedFrames.{After, Fits, Keeps, aborted_after, server_by, stray_after}
use Rattle.conode_compare_laws.proofs.ExpeditedWrites.{AllSure, Holds, Outcome, Sure, done, outcome, passes, spoils}
use Rattle.conode_compare_laws.proofs.ShowsWord.{Shown}

module _ (key : Key) (word : ℕ) where
  pub record AfterSure (f : Followed) : Type 0 where
    pub ended : IfSome f.says.ended (Shown key word)
    pub next : AllSure key word f.next.transfer

  lifted_sure : (o : Option Transfer) → Keeps key false o → AllSure key word o
  lifted_sure None h = tt
  lifted_sure (Some t) h = inl h

  of_sure : (f : Followed) → After key word false f → AfterSure f
  of_sure f h = record { ended = h.ended; next = lifted_sure f.next.transfer h.next }

  -- it is a download of the entry then, or another transfer
  pub sure_held : (o : Option Transfer) → AllSure key word o → Holds key false o
  sure_held None h = tt
  sure_held (Some t) (inl s) = inl s
  sure_held (Some t) (inr h) = inr (record { stage = h.stage; direction = h.direction; protocol = h.protocol; odd = λ never. absurd (false≢true never) })

  spoilt_sure : (heard : Bool) (t : Transfer) (turn : Turn) (micros : ℕ) → Sure word t → turn ≡ unexpected t
      → AfterSure (turns_at (confirmed_with turn.transfer.stage) heard turn.what (after t turn) micros Server)
  spoilt_sure heard t turn micros h e =
      subst (λ (x : Turn). AfterSure (turns_at (confirmed_with x.transfer.stage) heard x.what (after t x) micros Server)) (sym e)
      (subst (λ x. AfterSure (turns_at (confirmed_with x) heard what.Unexpected (after t (unexpected t)) micros Server)) (sym h.stage)
      (record { ended = tt; next = inr (record { stage = h.stage; direction = h.direction; protocol = h.protocol; shows = h.shows }) }))

  passed_sure : (heard : Bool) (t : Transfer) (turn : Turn) (micros : ℕ) → Sure word t → turn ≡ overtaken t
      → AfterSure (turns_at (confirmed_with turn.transfer.stage) heard turn.what (after t turn) micros Server)
  passed_sure heard t turn micros h e =
      subst (λ (x : Turn). AfterSure (turns_at (confirmed_with x.transfer.stage) heard x.what (after t x) micros Server)) (sym e)
      (subst (λ x. AfterSure (turns_at (confirmed_with x) heard what.Overtaken (after t (overtaken t)) micros Server)) (sym h.stage)
      (record { ended = tt; next = inr (record { stage = h.stage; direction = h.direction; protocol = h.protocol; shows = h.shows }) }))

  data_word : (irregular : Bool) (fault : Option ℕ) (bytes : List ℕ) → IfSome (first_word bytes) (λ n. n ≡ word)
      → IfSome (done_word Expedited (if irregular then Irregular else size_verdict fault (Done false)) bytes) (λ n. n ≡ word)
  data_word true fault bytes h = tt
  data_word false None bytes h = h
  data_word false (Some size) bytes h = tt

  done_sure : (heard : Bool) (t : Transfer) (turn : Turn) (micros : ℕ) → Sure word t → turn ≡ takes_pending (confirmed t) (length t.pending.items)
      → AfterSure (turns_at (confirmed_with turn.transfer.stage) heard turn.what (after t turn) micros Server)
  done_sure heard t turn micros h e =
      subst (λ (x : Turn). AfterSure (turns_at (confirmed_with x.transfer.stage) heard x.what (after t x) micros Server)) (sym e)
      (record { ended = λ own. shown; next = tt })
    where
      u : Transfer
      u = after t (takes_pending (confirmed t) (length t.pending.items))

      shown : IfSome (done_word u.protocol (verdict u None) u.taken.first.items) (λ n. n ≡ word)
      shown = subst (λ protocol. IfSome (done_word protocol (verdict u None) u.taken.first.items) (λ n. n ≡ word)) (sym h.protocol) (data_word u.irregular (size_fault u.size u.taken.count) u.taken.first.items h.shows)

  -- a frame of the server
  answered_by : (heard : Bool) (t : Transfer) (reading : Reading) (micros : ℕ) (bytes : List ℕ) → Sure word t → Outcome t reading (turn_of t reading bytes)
      → AfterSure (turns_at (confirmed_with (turn_of t reading bytes).transfer.stage) heard (turn_of t reading bytes).what (after t (turn_of t reading bytes)) micros Server)
  answered_by heard t reading micros bytes h (spoils e) = spoilt_sure heard t (turn_of t reading bytes) micros h e
  answered_by heard t reading micros bytes h (passes r e) = passed_sure heard t (turn_of t reading bytes) micros h e
  answered_by heard t reading micros bytes h (done named r same e) = done_sure heard t (turn_of t reading bytes) micros h e

  server_one : (heard : Bool) (t : Transfer) (reading : Reading) (micros : ℕ) (bytes : List ℕ) → Sure word t → is_begin reading ≡ false → AfterSure (follows_by heard (Some t) reading micros Server bytes)
  server_one heard t (Begin new) micros bytes h n = absurd (false≢true (sym n))
  server_one heard t (Abort code) micros bytes h n = of_sure _ (aborted_after key word false heard t code micros Server bytes)
  server_one heard t (Segment one) micros bytes h n = answered_by heard t (Segment one) micros bytes h (outcome t h.stage h.direction h.protocol (Segment one) bytes)
  server_one heard t (Request one) micros bytes h n = answered_by heard t (Request one) micros bytes h (outcome t h.stage h.direction h.protocol (Request one) bytes)
  server_one heard t (Response one) micros bytes h n = answered_by heard t (Response one) micros bytes h (outcome t h.stage h.direction h.protocol (Response one) bytes)
  server_one heard t Nothing micros bytes h n = answered_by heard t Nothing micros bytes h (outcome t h.stage h.direction h.protocol Nothing bytes)

  pub server_sure : (following : Following) (micros : ℕ) (bytes : List ℕ) → AllSure key word following.transfer → Fits key word bytes → AfterSure (reads following micros Server bytes)
  server_sure following micros bytes k f = by following.transfer k
    where
      by : (o : Option Transfer) → AllSure key word o → AfterSure (follows_by following.heard o (reading_of o Server micros bytes) micros Server bytes)
      by None k = of_sure _ (stray_after key word false following.heard (reading_of None Server micros bytes) micros Server bytes (server_no_begin None micros bytes))
      by (Some t) (inl k) = of_sure _ (server_by key word false following.heard t (reading_of (Some t) Server micros bytes) micros bytes k refl (inr f))
      by (Some t) (inr h) = server_one following.heard t (reading_of (Some t) Server micros bytes) micros bytes h (server_no_begin (Some t) micros bytes)
