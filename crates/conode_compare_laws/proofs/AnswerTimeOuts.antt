-- The abort that a channel sends when its transfer times out: an answer, and the end of what was asked.
use Rattle.std.proofs.Common.{◌≡◌, ℕ, ◌+◌, ◌≢◌, Bool, true, false, List, [], ◌∷◌, Option, Some, None, refl, sym, ap, ◌∙◌, inl, inr, subst}
use Rattle.std.specs.Prelude.{◌==◌, ◌&&◌, is_some, IfSome}
use Rattle.std.specs.Option.{option_map_or}
use Rattle.std.proofs.lemmas.Bool.{eqb-true, false≢true}
use Rattle.co_value.specs.declared.key.Key.{Key}
use Rattle.co_frame.specs.FrameContent.{FrameContent}
use Rattle.co_frame.specs.declared.sdo_response.SdoResponse.TheVariants.{Abort as Refuse}
use Rattle.co_sdo.specs.Log.{Log, Response as Replied, Ticked as Elapsed, answer_bytes, frames_on}
use Rattle.co_sdo.specs.Opened.{is_time_over, opened, opened_after}
use Rattle.co_sdo.specs.OpenTransfers.{open_transfer}
use Rattle.co_sdo.specs.Replies.{open_key, time_out_reply}
use Rattle.co_frame_aborts.specs.AbortCodes.{timed_out as timed_out_code}
use Rattle.co_sdo_laws.proofs.Channel.{tick_opens}
use Rattle.co_sheet.specs.Content.{Row}
use Rattle.conode_explain_transfers.specs.declared.kinds.Side.TheVariants.{Server}
use Rattle.conode_explain_transfers.specs.declared.transfer.Transfer.{Transfer}
use Rattle.conode_explain_transfers.specs.Followed.{stray}
use Rattle.conode_explain_laws.proofs.Readings.{Reading, Abort, reading_of, follows_by}
use Rattle.conode_explain_laws.proofs.Views.{abort_is, is_abort_reading}
use Rattle.conode_compare_transfers.specs.declared.dialogue.Asked.{Asked}
use Rattle.conode_compare_transfers.specs.declared.dialogue.Dialogue.{Dialogue}
use Rattle.conode_compare_transfers.specs.Dialogues.{exchange_in, is_certain}
use Rattle.conode_compare_rules.specs.declared.kind.FrameKind.TheVariants.{Sdo}
use Rattle.conode_compare_nmt.specs.declared.limits.Subject.{Subject}
use Rattle.conode_compare_rules.specs.declared.progress.Progress.{Progress}
use Rattle.conode_compare_nmt.specs.States.{is_stopped}
use Rattle.conode_compare_rules.specs.Gaps.{begun}
use Rattle.conode_compare_rules.specs.Channels.{answer_nmt}
use Rattle.conode_compare_laws.specs.AnswerFindings.{answer_differences}
use Rattle.conode_compare_laws.proofs.Runs.{AllRun}
use Rattle.conode_compare_laws.proofs.Shown.{Stage}
use Rattle.conode_compare_laws.proofs.AnswerFollowed.{reads}
use Rattle.conode_compare_laws.proofs.AnswerFound.{IsEnding, doubted_abort, unasked}
use Rattle.conode_compare_laws.proofs.AnswerDialogues.{asked_before, what_heard}
use Rattle.conode_compare_laws.proofs.BlockDialogues.{server_heard}
use Rattle.conode_compare_laws.proofs.BlockExchange.{finished_holds}
use Rattle.conode_compare_laws.proofs.AnswerSteps.{Awaits, Holds, answer_found, begun_holds, frame_runs, server_quiet, uncertain_since}
use Rattle.conode_compare_laws.proofs.AnswerExchange.{Finished, IsFinished, answer_kind, finished, map_runs, still_running}

pub zero_is : (n : ℕ) → (0 == n) ≡ true → n ≡ 0
zero_is n h = sym (eqb-true 0 n h)

pub not_zero : (n : ℕ) → (0 == n) ≡ false → n ≢ 0
not_zero n h = λ e. absurd (let same : (0 == n) ≡ true = ap (λ x. 0 == x) e in false≢true (sym h ∙ same))

-- nothing times out where nothing is open
pub never_over : (time : ℕ) (log : Log) → open_transfer log ≡ None → is_time_over time (Elapsed ∷ log) ≡ true → ⊥
never_over time log idle over =
    let none : is_some (opened_after (Elapsed ∷ log)) ≡ false = ap (λ o. is_some (opened o)) (tick_opens log ∙ idle) in
    false≢true (sym (first_off (is_some (opened_after (Elapsed ∷ log))) _ none) ∙ over)
  where
    first_off : (a b : Bool) → a ≡ false → (a && b) ≡ false
    first_off true b h = absurd (false≢true (sym h))
    first_off false b h = refl

-- an abort of the channel
abort_ending : (d : Dialogue) (micros : ℕ) (key : Key) (code : ℕ) → IsEnding (reads d.channel micros Server (answer_bytes (Replied (Refuse key (record { 0 = code }))))).says.what
abort_ending d micros key code = by d.channel.transfer (reading_of d.channel.transfer Server micros (answer_bytes (Replied (Refuse key (record { 0 = code }))))) (abort_is d.channel.transfer micros key code)
  where
    by : (current : Option Transfer) (reading : Reading) → is_abort_reading reading ≡ true → IsEnding (follows_by d.channel.heard current reading micros Server (answer_bytes (Replied (Refuse key (record { 0 = code }))))).says.what
    by None (Abort code) h = strays d.channel.heard
      where
        strays : (heard : Bool) → IsEnding (stray heard)
        strays true = tt
        strays false = tt
    by (Some t) (Abort code) h = tt
    by current _ h = absurd (false≢true h)

owes_none : (answer started : ℕ) (d : Dialogue) (micros : ℕ) (frame : FrameContent) (a : Asked) → d.asked ≡ Some a → is_certain answer started d.slow d.doubted a.micros ≡ false → (exchange_in answer started d micros Server frame).owed ≡ false
unfolding exchange_in
owes_none answer started d micros frame a is h = ap (λ o. option_map_or (λ (x : Asked). is_certain answer started d.slow d.doubted x.micros) o false) is ∙ h

pub abort_runs : (Idle Inside : Type 0) (subject : Subject) (rows : List Row) (micros : ℕ) (stage : Stage) (q : Progress) (id : ℕ) (log : Log) → id ≡ 0x580 + subject.node → (Idle → ⊥) → (Inside → ⊥)
    → is_stopped (begun subject q micros).nmt.state ≡ false → Holds Idle Inside stage q → AllRun answer_differences subject rows micros q (frames_on id (time_out_reply log)) (Holds Idle Inside stage)
abort_runs Idle Inside subject rows micros stage q id log is never closed running h =
    let p : Progress = begun subject q micros in
    let held : Holds Idle Inside stage p = begun_holds Idle Inside subject q micros stage h in
    let frame : FrameContent = record { id = 0x580 + subject.node; bytes = answer_bytes (Replied (Refuse (open_key (opened_after log)) (record { 0 = timed_out_code }))) } in
    subst (λ i. AllRun answer_differences subject rows micros q (frames_on i (time_out_reply log)) (Holds Idle Inside stage)) (sym is)
    (map_runs subject rows micros (frame ∷ []) q (IsFinished Inside) (Holds Idle Inside stage) (λ x r. finished_holds Idle Inside stage x r)
    (frame_runs subject rows micros q frame (Sdo Server frame) (IsFinished Inside) (answer_kind subject.node frame.bytes)
    (server_quiet subject rows p micros frame (λ newest d. Finished Inside d)
    (none p.dialogue.asked refl held.asked)
    (finished Inside _ (server_heard subject.limits.answer p.started p.dialogue micros frame held.live) (λ i. absurd (closed i))))))
  where
    abort : FrameContent
    abort = record { id = 0x580 + subject.node; bytes = answer_bytes (Replied (Refuse (open_key (opened_after log)) (record { 0 = timed_out_code }))) }

    none : (o : Option Asked) → (begun subject q micros).dialogue.asked ≡ o → IfSome o (Awaits Idle stage (begun subject q micros).newest (begun subject q micros).nmt.commanded (begun subject q micros).dialogue.doubted)
        → answer_found subject rows (begun subject q micros) micros (record { id = 0x580 + subject.node; bytes = answer_bytes (Replied (Refuse (open_key (opened_after log)) (record { 0 = timed_out_code }))) }) ≡ []
    none None is w =
        let p : Progress = begun subject q micros in
        unasked subject rows p.written p.started micros (answer_nmt subject p micros) _ abort (asked_before subject.limits.answer p.started p.dialogue micros abort ∙ is) (inl refl)
    none (Some a) is w = elim w.why [
      | inl e ↦ absurd (never e.1)
      | inr doubt ↦ in_doubt_none a is (uncertain_since subject.limits.answer (begun subject q micros).started (begun subject q micros).dialogue.slow (begun subject q micros).dialogue.doubted a.micros doubt)
    ]
      where
        in_doubt_none : (a : Asked) → (begun subject q micros).dialogue.asked ≡ Some a
            → is_certain subject.limits.answer (begun subject q micros).started (begun subject q micros).dialogue.slow (begun subject q micros).dialogue.doubted a.micros ≡ false
            → answer_found subject rows (begun subject q micros) micros (record { id = 0x580 + subject.node; bytes = answer_bytes (Replied (Refuse (open_key (opened_after log)) (record { 0 = timed_out_code }))) }) ≡ []
        in_doubt_none a is off =
            let p : Progress = begun subject q micros in
            doubted_abort subject rows p.written p.started micros (answer_nmt subject p micros) _ abort a (asked_before subject.limits.answer p.started p.dialogue micros abort ∙ is)
            (owes_none subject.limits.answer p.started p.dialogue micros abort a is off) (still_running subject p micros running) refl
            (subst IsEnding (sym (what_heard subject.limits.answer p.started p.dialogue micros abort)) (abort_ending p.dialogue micros (open_key (opened_after log)) timed_out_code))
