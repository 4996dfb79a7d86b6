-- Uploads that explain says are done are those that the device has served, over all frames of a recording: so they have the bytes that their
-- entry had when they began.
use Rattle.std.proofs.Common.{◌≡◌, ℕ, suc, ◌+◌, Bool, true, false, List, [], ◌∷◌, ◌++◌, length, Option, Some, None, refl, sym, ◌∙◌, ◌⊎◌, inl, inr, subst}
use Rattle.std.specs.Prelude.{◌==◌, if◌then◌else◌, IfSome}
use Rattle.std.specs.List.{AllByRecursion, list_any}
use Rattle.std.proofs.lemmas.Bool.{false≢true}
use Rattle.co_value.specs.declared.key.Key.{Key}
use Rattle.co_value.specs.Numbers.{AreBytes}
use Rattle.co_frame_aborts.specs.AbortCodes.{timed_out as timed_out_code}
use Rattle.co_frame.specs.FrameContent.{FrameContent}
use Rattle.co_frame.specs.SdoRequests.{request_in}
use Rattle.co_frame.specs.declared.sdo_request.SdoRequest.{SdoRequest}
use Rattle.co_frame.specs.declared.sdo_request.SdoRequest.TheVariants.{Upload as UploadInitiate, BlockUploadInitiate}
use Rattle.co_frame.specs.declared.sdo_response.SdoResponse.TheVariants.{Abort as Refuse}
use Rattle.co_dict.specs.Rows.{Contents}
use Rattle.co_dict.specs.Stores.{Description, IsDictionary}
use Rattle.co_sdo.specs.Log.{Answer, Event, Exchange, Exchanged, Log, Response as Replied, Ticked as Elapsed, TimedOut, Dropped, answer_bytes, frames_on}
use Rattle.co_sdo.specs.Opened.{is_end_sent, opened, opened_after}
use Rattle.co_sdo.specs.OpenTransfers.{Since, and_event, begins, is_last_part, is_upload_end, open_since, open_transfer, since_initiate}
use Rattle.co_sdo.specs.Refused.{reading_refusal}
use Rattle.co_sdo.specs.Replies.{answers_to, open_key, reply_to, time_out_reply}
use Rattle.co_sdo.specs.Standing.{is_under_way}
use Rattle.co_sdo.specs.Steps.{opened_next}
use Rattle.co_sdo.specs.Uploads.{value_at}
use Rattle.co_sdo_laws.proofs.Channel.{Served, ended as channel_ended, served, tick_opens}
use Rattle.co_sheet.specs.Content.{Row}
use Rattle.conode_explain_transfers.specs.declared.ended.Ended.{Ended}
use Rattle.conode_explain_transfers.specs.declared.kinds.Side.{Side}
use Rattle.conode_explain_transfers.specs.declared.kinds.Side.TheVariants.{Client, Server}
use Rattle.conode_explain_transfers.specs.declared.transfer.Transfer.{Transfer}
use Rattle.conode_explain_transfers.specs.Followed.{Following}
use Rattle.conode_explain_laws.specs.Downloads.{Complete}
use Rattle.conode_explain_laws.specs.Uploads.{Read, acknowledged_whole, answered_whole, ended_by, read_said, read_served, sent_last, upload_of, upload_since}
use Rattle.conode_explain_laws.proofs.Readings.{Reading, bytes_by, reading_of}
use Rattle.conode_explain_laws.proofs.UploadExchanges.{EndsWith, exchange}
use Rattle.conode_explain_laws.proofs.UploadStanding.{FollowsIn}
use Rattle.conode_explain_laws.proofs.UploadSteps.{Completes, answered_next, completes, dropped_whole, ticked_whole}
use Rattle.conode_explain_laws.proofs.UploadViews.{aborted_closes, hears, hears_answers}
use Rattle.conode_explain_laws.proofs.Views.{Closes, View}
use Rattle.conode_compare_nmt.specs.declared.finding.Finding.{Finding}
use Rattle.conode_compare_rules.specs.declared.kind.FrameKind.{FrameKind}
use Rattle.conode_compare_rules.specs.declared.kind.FrameKind.TheVariants.{Sdo}
use Rattle.conode_compare_nmt.specs.declared.limits.Subject.{Subject}
use Rattle.conode_compare_rules.specs.declared.progress.Progress.{Progress}
use Rattle.conode_compare_rules.specs.declared.verdict.Findings.{Findings}
use Rattle.conode_compare_rules.specs.Answers.{known_finding}
use Rattle.conode_compare_rules.specs.Gaps.{begun}
use Rattle.conode_compare_laws.specs.ValueFindings.{on_channel}
use Rattle.conode_compare_laws.proofs.AnswerDataExchange.{Standing, nothing_known, standing_dropped, standing_ticked}
use Rattle.conode_compare_laws.proofs.AnswerEnds.{IsWhole}
use Rattle.conode_compare_laws.proofs.AnswerExchange.{answer_kind, request_kind}
use Rattle.conode_compare_laws.proofs.AnswerFollowed.{reads}
use Rattle.conode_compare_laws.proofs.AnswerIgnored.{ignored_whole}
use Rattle.conode_compare_laws.proofs.AnswerOpened.{exchange_with}
use Rattle.conode_compare_laws.proofs.AnswerOthers.{is_sdo}
use Rattle.conode_compare_laws.proofs.AnswerWhole.{HasTaken, kept_answers, kept_hears}
use Rattle.conode_compare_laws.proofs.NamedKeys.{first_of, last_of}
use Rattle.conode_compare_laws.proofs.ReadAllowed.{IsAllowed, IsOpenAllowed, acknowledged_allowed, answered_allowed, opened_allowed}
use Rattle.conode_compare_laws.proofs.Runs.{AllRun}
use Rattle.conode_compare_laws.proofs.ValueExpedited.{Lean, Small, lean_after}
use Rattle.conode_compare_laws.proofs.ValueFrames.{AllFine, IsFine, answer_frame, answers_run, following_on, sdo_run}
use Rattle.conode_compare_laws.proofs.ValueInputs.{Obeys, mapped}
use Rattle.conode_compare_laws.proofs.ValueOnly.{is_value}
use Rattle.conode_compare_laws.proofs.ValueShown.{Shown, shown_by}

-- ---- what an entry had

module _ (P : Contents → Type 0) where
  -- these are the bytes of an entry when this held of all
  pub record HadBytes (key : Key) (bytes : List ℕ) : Type 0 where
    pub contents : Contents
    pub held : P contents
    pub is : bytes ≡ value_at contents key

  abbrev pub ReadHad : Option Read → Type 0
  ReadHad o = IfSome o (λ r. HadBytes r.key r.bytes)

  -- it held when the last initiate request came
  abbrev pub Begun : Log → Type 0
  Begun log = IfSome (since_initiate log) (λ s. P s.begin.contents)

  and_held : (event : Event) (s : Option Since) → IfSome s (λ s. P s.begin.contents) → IfSome (and_event event s) (λ s. P s.begin.contents)
  and_held event None h = tt
  and_held event (Some s) h = h

  begun_exchanged : (x : Exchange) (log : Log) → P x.contents → Begun log → Begun (Exchanged x ∷ log)
  begun_exchanged x log p h = by (begins (open_since (since_initiate log)) x.request)
    where
      by : (b : Bool) → IfSome (if b then Some (record { begin = x; later = [] }) else and_event (Exchanged x) (since_initiate log)) (λ s. P s.begin.contents)
      by true = p
      by false = and_held (Exchanged x) (since_initiate log) h

  upload_had : (r : Option SdoRequest) (c : Contents) → P c → ReadHad (upload_of r c)
  upload_had (Some (UploadInitiate key)) c p = record { contents = c; held = p; is = refl }
  upload_had (Some (BlockUploadInitiate key size threshold)) c p = record { contents = c; held = p; is = refl }
  upload_had (Some _) c p = tt
  upload_had None c p = tt

  since_had : (s : Option Since) → IfSome s (λ s. P s.begin.contents) → ReadHad (upload_since s)
  since_had None h = tt
  since_had (Some s) h = upload_had (request_in s.begin.request) s.begin.contents h

  if_had : (b : Bool) (o : Option Read) → ReadHad o → ReadHad (if b then o else None)
  if_had true o h = h
  if_had false o h = tt

  answered_had : (answers : List Answer) (log : Log) → Begun log → ReadHad (answered_whole answers log)
  answered_had answers log h = if_had (list_any is_last_part answers) _ (since_had (since_initiate log) h)

  acknowledged_had : (log : Log) → Begun log → ReadHad (acknowledged_whole log)
  acknowledged_had log h = if_had (list_any is_end_sent (sent_last log)) _ (since_had (since_initiate log) h)

-- ---- what both have

-- entries whose uploads are permitted
module _ (P : Contents → Type 0) (R : Key → Type 0) where
  -- an upload that is done has the bytes that its entry had, and is permitted
  abbrev pub IsHad : Complete → Type 0
  IsHad c = HadBytes P c.key c.bytes × R c.key

  abbrev pub AreHad : List Complete → Type 0
  AreHad done = AllByRecursion IsHad done

  served_had : (o : Option Read) (n : ℕ) (rest : List Complete) → ReadHad P o → IsAllowed R o → AreHad rest → AreHad (read_served o n ++ rest)
  served_had None n rest h k g = g
  served_had (Some r) n rest h k g = ((h, k), g)

  allowed_if : (b : Bool) (o : Option Read) → IsAllowed R o → IsAllowed R (if b then o else None)
  allowed_if true o h = h
  allowed_if false o h = tt

  pub record Stands (d : Description) (log : Log) (o : Option Transfer) : Type 0 where
    pub both : Standing d.rows log o
    pub begun : Begun P log
    pub lean : IfSome o Lean
    pub allowed : IsOpenAllowed R (opened_after log)
    pub ended : IsAllowed R (acknowledged_whole log)

  none_stands : (d : Description) (log : Log) → is_under_way d.rows (open_transfer log) → Begun P log → IsOpenAllowed R (opened_after log) → IsAllowed R (acknowledged_whole log) → Stands d log None
  none_stands d log u b k e = record { both = nothing_known d.rows log u; begun = b; lean = tt; allowed = k; ended = e }

  -- ---- frame by frame

  told_before : (stamp : ℕ → ℕ) (answers : List Answer) (v : View) → AreHad (hears_answers stamp answers v).done → AreHad v.done
  told_before stamp [] v h = h
  told_before stamp (answer ∷ later) v h =
      last_of IsHad (read_said (reads v.following (stamp v.count) Server (answer_bytes answer)).says.ended (hears stamp Server (answer_bytes answer) v).got (suc v.count)) v.done
      (told_before stamp later (hears stamp Server (answer_bytes answer) v) h)

  lean_hears : (stamp : ℕ → ℕ) (side : Side) (bytes : List ℕ) (v : View) → IfSome v.following.transfer Lean → IfSome (hears stamp side bytes v).following.transfer Lean
  lean_hears stamp side bytes v h = (lean_after v.following.heard v.following.transfer (reading_of v.following.transfer side (stamp v.count) bytes) side (stamp v.count) bytes refl h).next

  lean_answers : (stamp : ℕ → ℕ) (answers : List Answer) (v : View) → IfSome v.following.transfer Lean → IfSome (hears_answers stamp answers v).following.transfer Lean
  lean_answers stamp [] v h = h
  lean_answers stamp (answer ∷ later) v h = lean_answers stamp later (hears stamp Server (answer_bytes answer) v) (lean_hears stamp Server (answer_bytes answer) v h)

  -- no difference is picked of an upload that is done with the bytes of its entry, and none of another end
  abbrev pub Picks : (Option Finding → List Finding) → Subject → List Row → Type 0
  Picks only subject rows = (frame : FrameContent) (e : Ended) (got : List ℕ) (n : ℕ) → Shown (Some e) got → Small e → AreHad (read_said (Some e) got n) → only (known_finding subject rows frame e) ≡ []

  module _ (only : Option Finding → List Finding) (nothing : only None ≡ []) (others : (finding : Finding) → is_value finding ≡ false → only (Some finding) ≡ []) (subject : Subject) (rows : List Row) (d : Description) (lawful : (c : Contents) → P c → IsDictionary d c) (allows : (c : Contents) (key : Key) → reading_refusal d c key ≡ None → R key) (picks : Picks only subject rows) where
    fine_of : (frame : FrameContent) (o : Option Ended) (got : List ℕ) (n : ℕ) → Shown o got → IfSome o Small → AreHad (read_said o got n) → IfSome o (λ e. only (known_finding subject rows frame e) ≡ [])
    fine_of frame None got n s l h = tt
    fine_of frame (Some e) got n s l h = picks frame e got n s l h

    frame_fine : (micros : ℕ) (side : Side) (frame : FrameContent) (v : View) → HasTaken v → IfSome v.following.transfer Lean → AreHad (hears (λ n. micros) side frame.bytes v).done
        → IsFine only nothing others subject rows micros frame (reads v.following micros side frame.bytes)
    frame_fine micros side frame v taken lean h =
        let reading : Reading = reading_of v.following.transfer side micros frame.bytes in
        let got : List ℕ = bytes_by v.following.transfer reading frame.bytes v.got in
        fine_of frame (reads v.following micros side frame.bytes).says.ended got (suc v.count)
        (shown_by v.following.heard v.following.transfer reading micros side frame.bytes v.got taken)
        (lean_after v.following.heard v.following.transfer reading side micros frame.bytes refl lean).ended
        (first_of IsHad (read_said (reads v.following micros side frame.bytes).says.ended got (suc v.count)) v.done h)

    all_fine : (micros : ℕ) (answers : List Answer) (v : View) → HasTaken v → IfSome v.following.transfer Lean → AreHad (hears_answers (λ n. micros) answers v).done → AllFine only nothing others subject rows micros v.following answers
    all_fine micros [] v taken lean h = tt
    all_fine micros (answer ∷ later) v taken lean h = (
      frame_fine micros Server (answer_frame only nothing others subject rows micros (answer_bytes answer)) v taken lean (told_before (λ n. micros) later (hears (λ n. micros) Server (answer_bytes answer) v) h),
      all_fine micros later (hears (λ n. micros) Server (answer_bytes answer) v) (kept_hears (λ n. micros) Server (answer_bytes answer) v taken) (lean_hears (λ n. micros) Server (answer_bytes answer) v lean) h,
    )

    on_is : (micros : ℕ) (answers : List Answer) (v : View) → following_on only nothing others subject rows micros v.following answers ≡ (hears_answers (λ n. micros) answers v).following
    on_is micros [] v = refl
    on_is micros (answer ∷ later) v = on_is micros later (hears (λ n. micros) Server (answer_bytes answer) v)

    told_run : (micros : ℕ) (answers : List Answer) (v : View) (q : Progress) (After : Option Transfer → Type 0) → q.newest ≡ Some micros → q.dialogue.channel ≡ v.following → HasTaken v → IfSome v.following.transfer Lean
        → AreHad (hears_answers (λ n. micros) answers v).done → After (hears_answers (λ n. micros) answers v).following.transfer
        → AllRun (on_channel only) subject rows micros q (frames_on (0x580 + subject.node) answers) (λ x. After x.dialogue.channel.transfer)
    told_run micros answers v q After now is taken lean told after =
        mapped (on_channel only) subject rows micros (frames_on (0x580 + subject.node) answers) q (λ x. x.dialogue.channel ≡ following_on only nothing others subject rows micros v.following answers) (λ x. After x.dialogue.channel.transfer)
        (λ x on. subst (λ (f : Following). After f.transfer) (sym (on ∙ on_is micros answers v)) after)
        (answers_run only nothing others subject rows micros answers v.following q now is (all_fine micros answers v taken lean told))

    -- ---- a request

    module _ (micros : ℕ) (contents : Contents) (log : Log) (frame : FrameContent) (p : Progress) (bytes : AreBytes frame.bytes) (held : P contents) (s : Stands d log (begun subject p micros).dialogue.channel.transfer) where
      abbrev v : View
      v = record { following = (begun subject p micros).dialogue.channel; got = s.both.holds_data.got; done = []; count = 0 }

      abbrev answers : List Answer
      answers = answers_to d contents (opened_after log) frame.bytes

      abbrev heard : View
      heard = hears (λ n. micros) Client frame.bytes v

      abbrev last : View
      last = hears_answers (λ n. micros) answers heard

      abbrev more : Log
      more = Exchanged (exchange_with d contents log frame.bytes) ∷ log

      made : Completes d contents log (opened_after log) frame.bytes
      made = completes d contents log (opened_after log) frame.bytes refl

      step : EndsWith (Unit {0}) d contents (λ n. micros) frame.bytes (opened_after log) (acknowledged_whole log) [] 0 heard
      step = exchange (Unit {0}) d contents (λ n. micros) frame.bytes (opened_after log) (acknowledged_whole log) v bytes (lawful contents held) s.both.holds_data.follows s.both.holds_data.taken (inl tt)

      begun_more : Begun P more
      begun_more = begun_exchanged P (exchange_with d contents log frame.bytes) log held s.begun

      by_end : (b : Bool) → ReadHad P (if b then acknowledged_whole log else None)
      by_end b = if_had P b (acknowledged_whole log) (acknowledged_had P log s.begun)

      -- also where the device ignores it
      told : AreHad last.done
      told = by step.reads
        where
          answered : ReadHad P (answered_next d contents (opened_after log) frame.bytes)
          answered = subst (ReadHad P) made.answered (answered_had P (reply_to d contents log frame.bytes) more begun_more)

          served : IsAllowed R (answered_next d contents (opened_after log) frame.bytes)
          served = answered_allowed R d allows contents (opened_after log) frame.bytes s.allowed

          by : (Unit {0} × (last.done ≡ [])) ⊎ (last.done ≡ read_served (answered_next d contents (opened_after log) frame.bytes) last.count ++ (read_served (ended_by (request_in frame.bytes) (acknowledged_whole log)) 1 ++ [])) → AreHad last.done
          by (inl e) = subst AreHad (sym e.1) tt
          by (inr e) = subst AreHad (sym e) (served_had (answered_next d contents (opened_after log) frame.bytes) last.count _ answered served
              (served_had (ended_by (request_in frame.bytes) (acknowledged_whole log)) 1 [] (by_end (is_upload_end (request_in frame.bytes))) (allowed_if (is_upload_end (request_in frame.bytes)) (acknowledged_whole log) s.ended) tt))

      client_fine : IsFine only nothing others subject rows micros frame (reads v.following micros Client frame.bytes)
      client_fine = frame_fine micros Client frame v s.both.holds_data.taken s.lean (told_before (λ n. micros) answers heard told)

      taken_then : HasTaken heard
      taken_then = kept_hears (λ n. micros) Client frame.bytes v s.both.holds_data.taken

      lean_then : IfSome heard.following.transfer Lean
      lean_then = lean_hears (λ n. micros) Client frame.bytes v s.lean

      -- with its answers
      request_runs : frame.id ≡ 0x600 + subject.node → length frame.bytes ≡ 8
          → AllRun (on_channel only) subject rows micros p (frame ∷ []) (λ q. AllRun (on_channel only) subject rows micros q (frames_on (0x580 + subject.node) (reply_to d contents log frame.bytes)) (λ x. Stands d more x.dialogue.channel.transfer))
      request_runs id eight =
          sdo_run only nothing others subject rows micros p frame [] Client _ (request_kind subject.node frame id) client_fine
          (λ q n next. subst (λ x. AllRun (on_channel only) subject rows micros q (frames_on (0x580 + subject.node) x) (λ x. Stands d more x.dialogue.channel.transfer)) (sym one.replies)
          (told_run micros answers heard q (Stands d more) n next taken_then lean_then told stands))
        where
          one : Served d contents log (opened_after log) frame.bytes
          one = served d contents log (opened_after log) frame.bytes (record { opens = refl; under_way = s.both.under_way }) (lawful contents held) eight

          stands : Stands d more last.following.transfer
          stands = record {
            both = record {
              under_way = one.next.under_way;
              holds_data = record {
                got = last.got;
                follows = subst (λ c. FollowsIn (Unit {0}) last.following.transfer last.got c (acknowledged_whole more)) (sym one.next.opens)
                    (subst (FollowsIn (Unit {0}) last.following.transfer last.got (opened_next d contents (opened_after log) frame.bytes)) (sym made.acknowledged) step.follows);
                taken = kept_answers (λ n. micros) answers heard taken_then;
              };
            };
            begun = begun_more;
            lean = lean_answers (λ n. micros) answers heard lean_then;
            allowed = subst (IsOpenAllowed R) (sym one.next.opens) (opened_allowed R d allows contents (opened_after log) frame.bytes s.allowed);
            ended = subst (IsAllowed R) (sym made.acknowledged) (acknowledged_allowed R (opened_after log) frame.bytes s.allowed);
          }

      -- one that the device ignores
      ignored_runs : frame.id ≡ 0x600 + subject.node → ((length frame.bytes == 8) ≡ false) ⊎ (opened_after log ≡ None) → AllRun (on_channel only) subject rows micros p (frame ∷ []) (λ x. Stands d log x.dialogue.channel.transfer)
      ignored_runs id by =
          sdo_run only nothing others subject rows micros p frame [] Client _ (request_kind subject.node frame id) client_fine
          (λ q n next. subst (λ (f : Following). Stands d log f.transfer) (sym next)
          (record { both = record { under_way = s.both.under_way; holds_data = record { got = heard.got; follows = after.1; taken = taken_then } }; begun = s.begun; lean = lean_then; allowed = s.allowed; ended = s.ended }))
        where
          after : IsWhole (reads v.following micros Client frame.bytes).says.ended × FollowsIn (Unit {0}) heard.following.transfer heard.got (opened_after log) (acknowledged_whole log)
          after = ignored_whole (λ n. micros) frame.bytes (opened_after log) (acknowledged_whole log) v by s.both.holds_data.follows s.both.holds_data.taken

    -- ---- an abort when a transfer times out

    aborted_runs : (micros : ℕ) (log : Log) (q : Progress) → Stands d log (begun subject q micros).dialogue.channel.transfer
        → AllRun (on_channel only) subject rows micros q (frames_on (0x580 + subject.node) (time_out_reply log)) (λ x. Stands d (TimedOut (time_out_reply log) ∷ log) x.dialogue.channel.transfer)
    aborted_runs micros log q s =
        sdo_run only nothing others subject rows micros q frame [] Server _ (answer_kind subject.node frame.bytes)
        (frame_fine micros Server frame v s.both.holds_data.taken s.lean (subst AreHad (sym closes.same) tt))
        (λ x n next. subst (λ (f : Following). Stands d (TimedOut (time_out_reply log) ∷ log) f.transfer) (sym next)
        (subst (Stands d (TimedOut (time_out_reply log) ∷ log)) (sym closes.none)
        (none_stands d (TimedOut (time_out_reply log) ∷ log) (subst (is_under_way d.rows) (sym (channel_ended log (time_out_reply log))) tt) (and_held P (TimedOut (time_out_reply log)) (since_initiate log) s.begun)
        (subst (λ t. IsOpenAllowed R (opened t)) (sym (channel_ended log (time_out_reply log))) tt) tt)))
      where
        v : View
        v = record { following = (begun subject q micros).dialogue.channel; got = s.both.holds_data.got; done = []; count = 0 }

        frame : FrameContent
        frame = record { id = 0x580 + subject.node; bytes = answer_bytes (Replied (Refuse (open_key (opened_after log)) (record { 0 = timed_out_code }))) }

        closes : Closes [] (hears (λ n. micros) Server frame.bytes v)
        closes = aborted_closes (λ n. micros) (open_key (opened_after log)) timed_out_code v

    -- ---- all of it

    quiet : (kind : FrameKind) (found : Findings) → is_sdo kind ≡ false → on_channel only kind found ≡ []
    quiet (Sdo side frame) found off = absurd (false≢true (sym off))
    quiet _ found off = refl

    pub obeys : Obeys d subject rows (on_channel only) P (Stands d)
    obeys = record {
      quiet = quiet;
      first = none_stands d [] tt tt tt tt;
      none = λ log o s. none_stands d log s.both.under_way s.begun s.allowed s.ended;
      ticked = λ log o s. record {
        both = standing_ticked d.rows log o s.both;
        begun = and_held P Elapsed (since_initiate log) s.begun;
        lean = s.lean;
        allowed = subst (λ t. IsOpenAllowed R (opened t)) (sym (tick_opens log)) s.allowed;
        ended = subst (IsAllowed R) (sym (ticked_whole log)) s.ended;
      };
      dropped = λ log o none s. record {
        both = standing_dropped d.rows log o none s.both;
        begun = and_held P Dropped (since_initiate log) s.begun;
        lean = s.lean;
        allowed = subst (λ t. IsOpenAllowed R (opened t)) (sym none) tt;
        ended = subst (IsAllowed R) (sym (dropped_whole log)) s.ended;
      };
      aborted = aborted_runs;
      request = λ micros contents log frame p id bytes eight held s. request_runs micros contents log frame p bytes held s id eight;
      ignored = λ micros contents log frame p id bytes held by s. ignored_runs micros contents log frame p bytes held s id by;
    }
