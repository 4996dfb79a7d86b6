-- Frames of the channel one after another, where explain is as far as the device in a block upload, or compare knows no transfer: nothing
-- is found within the transfer.
use Rattle.std.proofs.Common.{◌≡◌, ℕ, ◌+◌, Bool, false, List, [], ◌∷◌, Option, Some, None, refl, sym, ap, ◌∙◌, ◌⊎◌, inl, inr, subst}
use Rattle.std.specs.Prelude.{IfSome}
use Rattle.std.proofs.lemmas.Bool.{false≢true}
use Rattle.co_frame.specs.FrameContent.{FrameContent}
use Rattle.co_frame.specs.SdoRequests.{request_in}
use Rattle.co_sdo.specs.Log.{Answer, Log, answer_bytes, frames_on}
use Rattle.co_sdo.specs.OpenTransfers.{is_initiate as initiates}
use Rattle.co_sheet.specs.Content.{Row}
use Rattle.conode_explain_transfers.specs.declared.channel.Heard.{Heard}
use Rattle.conode_explain_transfers.specs.declared.ended.Ended.{Ended}
use Rattle.conode_explain_transfers.specs.declared.kinds.Side.{Side}
use Rattle.conode_explain_transfers.specs.declared.kinds.Side.TheVariants.{Client, Server}
use Rattle.conode_explain_transfers.specs.declared.kinds.What.{What}
use Rattle.conode_explain_transfers.specs.declared.kinds.What.TheVariants as what
use Rattle.conode_explain_transfers.specs.declared.transfer.Transfer.{Transfer}
use Rattle.conode_explain_transfers.specs.Followed.{Followed, Following, followed}
use Rattle.conode_explain_laws.proofs.Readings.{follows_by, request_reading, same as same_reading}
use Rattle.conode_compare_transfers.specs.declared.breach.Breach.TheVariants.{Early}
use Rattle.conode_compare_transfers.specs.declared.dialogue.Dialogue.{Dialogue}
use Rattle.conode_compare_transfers.specs.declared.newest.Newest.{Newest}
use Rattle.conode_compare_transfers.specs.Breaches.{breach_at, breach_by}
use Rattle.conode_compare_transfers.specs.Dialogues.{dialogue_heard, exchange_in, is_initiate, newest_heard}
use Rattle.conode_compare_transfers.specs.NewestFrames.{newest_after, newest_with}
use Rattle.conode_compare_nmt.specs.declared.finding.Finding.{Finding}
use Rattle.conode_compare_nmt.specs.declared.finding.Finding.TheVariants.{Transfer as Within}
use Rattle.conode_compare_rules.specs.declared.kind.FrameKind.TheVariants.{Sdo}
use Rattle.conode_compare_nmt.specs.declared.limits.Subject.{Subject}
use Rattle.conode_compare_rules.specs.declared.progress.Progress.{Progress}
use Rattle.conode_compare_rules.specs.Answers.{breach_finding}
use Rattle.conode_compare_rules.specs.Gaps.{begun}
use Rattle.conode_compare_rules.specs.Channels.{channel_heard, exchange_noted, late_noted, left_open, may_miss_end}
use Rattle.conode_compare_laws.specs.AnswerFindings.{of_transfers, transfer_differences}
use Rattle.conode_compare_laws.proofs.AnswerBreaches.{Fine, FineEnd}
use Rattle.conode_compare_laws.proofs.AnswerDialogues.{channel_is, client_is, later_heard, server_heard}
use Rattle.conode_compare_laws.proofs.AnswerExchange.{answer_kind, request_kind}
use Rattle.conode_compare_laws.proofs.AnswerFollowed.{goes_on, no_begin, reads, what_is}
use Rattle.conode_compare_laws.proofs.AnswerOnly.{client_found, is_breach, server_found}
use Rattle.conode_compare_laws.proofs.AnswerSteps.{Same, begun_newest, begun_same}
use Rattle.conode_compare_laws.proofs.AnswerToggleRuns.{newest_gone, newest_stays}
use Rattle.conode_compare_laws.proofs.AnswerToggles.{is_kept}
use Rattle.conode_compare_laws.proofs.AnswerTransferExchange.{map_runs}
use Rattle.conode_compare_laws.proofs.AnswerTransferRuns.{Quiet, cons_runs, frame_runs, server_quiet}
use Rattle.conode_compare_laws.proofs.AnswerTurns.{Sound}
use Rattle.conode_compare_laws.proofs.Runs.{AllRun}
use Rattle.conode_compare_laws.proofs.UploadAnswers.{AllFine}
use Rattle.conode_compare_laws.proofs.UploadKnown.{InStep, Known, Unknown}

-- ---- what isn't of these kinds

no_other : (finding : Finding) → is_breach finding ≡ false → of_transfers (Some finding) ≡ []
no_other (Within (Early key waited time)) off = refl
no_other (Within breach) off = absurd (cc)
no_other _ off = refl

-- ---- a frame of the client

-- no transfer is known, or nothing is found of its end
abbrev pub IsFineRequest : ℕ → Dialogue → FrameContent → Type 0
IsFineRequest micros d frame = (d.newest ≡ None) ⊎ FineEnd frame (reads d.channel micros Client frame.bytes).says.ended

ended_is : (following : Following) (micros : ℕ) (side : Side) (bytes : List ℕ) → (followed following micros side bytes).says.ended ≡ (reads following micros side bytes).says.ended
ended_is following micros side bytes = ap (λ (f : Followed). f.says.ended) (same_reading following.heard following.transfer micros side bytes bytes).followed

request_breach : (newest : Option Newest) (says : Heard) (frame : FrameContent) → (newest ≡ None) ⊎ FineEnd frame says.ended → of_transfers (breach_finding (breach_at newest Client says frame)) ≡ []
unfolding breach_at
request_breach None says frame h = refl
request_breach (Some newest) says frame (inl none) = absurd (cc)
request_breach (Some newest) says frame (inr h) = by says.ended h
  where
    by : (o : Option Ended) → FineEnd frame o → of_transfers (breach_finding (breach_by newest Client says frame o)) ≡ []
    by None h = refl
    by (Some e) h = h newest

no_request_breach : (answer started : ℕ) (d : Dialogue) (micros : ℕ) (frame : FrameContent) → IsFineRequest micros d frame → of_transfers (breach_finding (exchange_in answer started d micros Client frame).breach) ≡ []
unfolding exchange_in
no_request_breach answer started d micros frame (inl none) = request_breach d.newest (followed d.channel micros Client frame.bytes).says frame (inl none)
no_request_breach answer started d micros frame (inr h) = request_breach d.newest (followed d.channel micros Client frame.bytes).says frame (inr (subst (FineEnd frame) (sym (ended_is d.channel micros Client frame.bytes)) h))

pub request_quiet : (subject : Subject) (rows : List Row) (p : Progress) (micros : ℕ) (frame : FrameContent) (After : Option ℕ → Dialogue → Type 0) → IsFineRequest micros p.dialogue frame
    → After p.newest (left_open Client (may_miss_end p.nmt micros frame) (dialogue_heard subject.limits.answer p.started p.dialogue micros Client frame))
    → Quiet subject rows p micros (Sdo Client frame) (λ q. After q.newest q.dialogue)
unfolding channel_heard exchange_noted
request_quiet subject rows p micros frame After f h = record {
  none = client_found of_transfers refl no_other subject rows p micros frame (λ c. no_request_breach subject.limits.answer p.started p.dialogue micros frame f);
  next = h;
}

-- ---- where no transfer is known

none_breach : (newest : Option Newest) (side : Side) (says : Heard) (frame : FrameContent) → newest ≡ None → of_transfers (breach_finding (breach_at newest side says frame)) ≡ []
unfolding breach_at
none_breach None side says frame e = refl
none_breach (Some newest) side says frame e = absurd (cc)

unknown_breach : (answer started : ℕ) (d : Dialogue) (micros : ℕ) (frame : FrameContent) → d.newest ≡ None → of_transfers (breach_finding (exchange_in answer started d micros Server frame).breach) ≡ []
unfolding exchange_in
unknown_breach answer started d micros frame e = none_breach d.newest Server (followed d.channel micros Server frame.bytes).says frame e

pub unknown_quiet : (subject : Subject) (rows : List Row) (p : Progress) (micros : ℕ) (frame : FrameContent) (After : Option ℕ → Dialogue → Type 0) → p.dialogue.newest ≡ None
    → After p.newest (dialogue_heard subject.limits.answer p.started p.dialogue micros Server frame)
    → Quiet subject rows p micros (Sdo Server frame) (λ q. After q.newest q.dialogue)
unfolding channel_heard exchange_noted late_noted
unknown_quiet subject rows p micros frame After e h = record {
  none = server_found of_transfers refl no_other subject rows p micros frame (λ c. unknown_breach subject.limits.answer p.started p.dialogue micros frame e);
  next = h;
}

pub unknown_next : (answer started : ℕ) (d : Dialogue) (micros : ℕ) (frame : FrameContent) → Unknown d → Unknown (dialogue_heard answer started d micros Server frame)
unknown_next answer started d micros frame u = (newest_stays answer started d micros frame u.0, (server_heard answer started d micros frame u.1).sound)

-- a frame of the client that begins nothing
none_later : (certain : Bool) (w : What) (frame : FrameContent) → is_initiate w ≡ false → newest_heard certain Client w frame None ≡ None
unfolding newest_with newest_after
none_later certain what.Initiate frame h = absurd (false≢true (sym h))
none_later certain what.Part frame h = refl
none_later certain (what.Segment number) frame h = refl
none_later certain (what.OutOfSequence number awaited) frame h = refl
none_later certain _ frame h = refl

none_kept : (certain : Bool) (w : What) (frame : FrameContent) (newest : Option Newest) → newest ≡ None → is_initiate w ≡ false → newest_heard certain Client w frame newest ≡ None
none_kept certain w frame newest none h = subst (λ n. newest_heard certain Client w frame n ≡ None) (sym none) (none_later certain w frame h)

newest_none : (answer started : ℕ) (d : Dialogue) (micros : ℕ) (frame : FrameContent) → d.newest ≡ None → is_initiate (reads d.channel micros Client frame.bytes).says.what ≡ false
    → (dialogue_heard answer started d micros Client frame).newest ≡ None
unfolding dialogue_heard
newest_none answer started d micros frame none w = none_kept _ (followed d.channel micros Client frame.bytes).says.what frame d.newest none (ap is_initiate (what_is d.channel micros Client frame.bytes) ∙ w)

pub unknown_later : (answer started : ℕ) (d : Dialogue) (micros : ℕ) (frame : FrameContent) → initiates (request_in frame.bytes) ≡ false → Unknown d → Unknown (dialogue_heard answer started d micros Client frame)
unknown_later answer started d micros frame n u =
    let goes = goes_on d.channel.heard d.channel.transfer (request_reading (request_in frame.bytes) micros frame.bytes) micros Client frame.bytes u.1 (no_begin (request_in frame.bytes) micros frame.bytes n) in (
      newest_none answer started d micros frame u.0 (ap (λ (f : Followed). is_initiate f.says.what) (client_is d micros frame u.1) ∙ goes.what),
      (later_heard answer started d micros frame u.1 n).sound,
    )

-- one that goes on with no transfer
pub odd_later : (answer started : ℕ) (d : Dialogue) (micros : ℕ) (frame : FrameContent) → initiates (request_in frame.bytes) ≡ false → IfSome d.channel.transfer Sound → is_kept (reads d.channel micros Client frame.bytes).says.what ≡ false
    → Unknown (dialogue_heard answer started d micros Client frame)
odd_later answer started d micros frame n s odd = (newest_gone answer started d micros frame odd, (later_heard answer started d micros frame s n).sound)

-- ---- answers one after another

module _ (subject : Subject) (rows : List Row) (micros : ℕ) where
  abbrev pub Runs : Progress → List Answer → (Progress → Type 0) → Type 0
  Runs q answers after = AllRun transfer_differences subject rows micros q (frames_on (0x580 + subject.node) answers) after

  abbrev answer_frame : Answer → FrameContent
  answer_frame answer = record { id = 0x580 + subject.node; bytes = answer_bytes answer }

  pub unknown_run : (answers : List Answer) (q : Progress) → q.newest ≡ Some micros → Unknown q.dialogue → Runs q answers (λ x. Unknown x.dialogue)
  unknown_run [] q now u = u
  unknown_run (answer ∷ later) q now u =
      let same : Same q (begun subject q micros) micros = begun_same subject q micros now in
      let p : Progress = begun subject q micros in
      let here : Unknown p.dialogue = subst Unknown (sym same.dialogue) u in
      let frame : FrameContent = answer_frame answer in
      cons_runs subject rows micros q frame (frames_on (0x580 + subject.node) later) (Sdo Server frame) (λ x. (x.newest ≡ Some micros) × Unknown x.dialogue) (λ x. Unknown x.dialogue) (answer_kind subject.node (answer_bytes answer))
      (unknown_quiet subject rows p micros frame (λ newest d. (newest ≡ Some micros) × Unknown d) here.0 (same.newest, unknown_next subject.limits.answer p.started p.dialogue micros frame here))
      (λ x g. unknown_run later x g.0 g.1)

  pub fine_run : (answers : List Answer) (q : Progress) (f : Following) (next : Following → Type 0) → q.newest ≡ Some micros → q.dialogue.channel ≡ f → AllFine (0x580 + subject.node) micros answers f next
      → Runs q answers (λ x. next x.dialogue.channel)
  fine_run [] q f next now is h = subst next (sym is) h
  fine_run (answer ∷ later) q f next now is h =
      let same : Same q (begun subject q micros) micros = begun_same subject q micros now in
      let p : Progress = begun subject q micros in
      let here : p.dialogue.channel ≡ f = ap (λ (d : Dialogue). d.channel) same.dialogue ∙ is in
      let frame : FrameContent = answer_frame answer in
      cons_runs subject rows micros q frame (frames_on (0x580 + subject.node) later) (Sdo Server frame)
      (λ x. (x.newest ≡ Some micros) × (x.dialogue.channel ≡ (reads f micros Server (answer_bytes answer)).next)) (λ x. next x.dialogue.channel) (answer_kind subject.node (answer_bytes answer))
      (server_quiet subject rows p micros frame (λ newest d. (newest ≡ Some micros) × (d.channel ≡ (reads f micros Server (answer_bytes answer)).next))
      (inr (subst (λ g. Fine frame (reads g micros Server frame.bytes).says) (sym here) h.0))
      (same.newest, channel_is subject.limits.answer p.started p.dialogue micros Server frame ∙ ap (λ g. (reads g micros Server frame.bytes).next) here))
      (λ x g. fine_run later x (reads f micros Server (answer_bytes answer)).next next g.0 g.1 h.1)

-- ---- a frame of the client with the answers to it

-- nothing is found of a transfer that ends with the frame; it goes on with none, or nothing is found of the answers
pub record Goes (id micros : ℕ) (log : Log) (answers : List Answer) (frame : FrameContent) (f : Followed) : Type 0 where
  pub fine : FineEnd frame f.says.ended
  pub answered : (is_kept f.says.what ≡ false) ⊎ AllFine id micros answers f.next (λ g. IfSome g.transfer (InStep log))

-- before the answers
abbrev Ready : ℕ → ℕ → Log → List Answer → Option ℕ → Dialogue → Type 0
Ready id micros log answers newest d = (newest ≡ Some micros) × (Unknown d ⊎ AllFine id micros answers d.channel (λ g. IfSome g.transfer (InStep log)))

abbrev pub KnownAt : Log → Progress → Type 0
KnownAt log x = Known log x.dialogue

module _ (subject : Subject) (rows : List Row) (micros : ℕ) (log : Log) (answers : List Answer) where
  abbrev Answered : Progress → Type 0
  Answered q = AllRun transfer_differences subject rows micros q (frames_on (0x580 + subject.node) answers) (KnownAt log)

  pub unknown_known : (q : Progress) → q.newest ≡ Some micros → Unknown q.dialogue → Answered q
  unknown_known q now u = map_runs subject rows micros (frames_on (0x580 + subject.node) answers) q (λ x. Unknown x.dialogue) (KnownAt log) (λ x h. inl h) (unknown_run subject rows micros answers q now u)

  pub fine_known : (q : Progress) → q.newest ≡ Some micros → AllFine (0x580 + subject.node) micros answers q.dialogue.channel (λ g. IfSome g.transfer (InStep log)) → Answered q
  fine_known q now h =
      map_runs subject rows micros (frames_on (0x580 + subject.node) answers) q (λ x. IfSome x.dialogue.channel.transfer (InStep log)) (KnownAt log) (λ x h. inr h)
      (fine_run subject rows micros answers q q.dialogue.channel (λ g. IfSome g.transfer (InStep log)) now refl h)

  ready_known : (q : Progress) → Ready (0x580 + subject.node) micros log answers q.newest q.dialogue → Answered q
  ready_known q r = elim r.1 [ inl u ↦ unknown_known q r.0 u | inr h ↦ fine_known q r.0 h ]

  module _ (p : Progress) (frame : FrameContent) (id : frame.id ≡ 0x600 + subject.node) (n : initiates (request_in frame.bytes) ≡ false) where
    abbrev Both : Type 0
    Both = AllRun transfer_differences subject rows micros p (frame ∷ []) Answered

    by_quiet : Quiet subject rows (begun subject p micros) micros (Sdo Client frame) (λ q. Ready (0x580 + subject.node) micros log answers q.newest q.dialogue) → Both
    by_quiet q = frame_runs subject rows micros p frame (Sdo Client frame) Answered (request_kind subject.node frame id) (record { none = q.none; next = ready_known _ q.next })

    -- where no transfer is known
    pub unknown_runs : Unknown (begun subject p micros).dialogue → Both
    unknown_runs u =
        let q : Progress = begun subject p micros in
        by_quiet (request_quiet subject rows q micros frame (Ready (0x580 + subject.node) micros log answers) (inl u.0) (begun_newest subject p micros, inl (unknown_later subject.limits.answer q.started q.dialogue micros frame n u)))

    -- where explain has this transfer
    pub goes_runs : (o : Option Transfer) → (begun subject p micros).dialogue.channel.transfer ≡ o → IfSome o Sound
        → Goes (0x580 + subject.node) micros log answers frame (follows_by (begun subject p micros).dialogue.channel.heard o (request_reading (request_in frame.bytes) micros frame.bytes) micros Client frame.bytes) → Both
    goes_runs o is s g =
        let q : Progress = begun subject p micros in
        let sound : IfSome q.dialogue.channel.transfer Sound = subst (λ x. IfSome x Sound) (sym is) s in
        let read : reads q.dialogue.channel micros Client frame.bytes ≡ follows_by q.dialogue.channel.heard o (request_reading (request_in frame.bytes) micros frame.bytes) micros Client frame.bytes =
        client_is q.dialogue micros frame sound ∙ ap (λ x. follows_by q.dialogue.channel.heard x (request_reading (request_in frame.bytes) micros frame.bytes) micros Client frame.bytes) is in
        let goes : Goes (0x580 + subject.node) micros log answers frame (reads q.dialogue.channel micros Client frame.bytes) = subst (Goes (0x580 + subject.node) micros log answers frame) (sym read) g in
        by_quiet (request_quiet subject rows q micros frame (Ready (0x580 + subject.node) micros log answers) (inr goes.fine) (
          begun_newest subject p micros,
          elim goes.answered [
            | inl odd ↦ inl (odd_later subject.limits.answer q.started q.dialogue micros frame n sound odd)
            | inr all ↦ inr (subst (λ f. AllFine (0x580 + subject.node) micros answers f (λ g. IfSome g.transfer (InStep log))) (sym (channel_is subject.limits.answer q.started q.dialogue micros Client frame)) all)
          ],
        ))
