-- Downloads that explain says are done are those that the device has set, over all frames of a recording: so its dictionary permitted them.
use Rattle.std.proofs.Common.{◌≡◌, ℕ, suc, ◌+◌, Bool, true, false, List, [], ◌∷◌, ◌++◌, length, Option, Some, None, refl, sym, ap, ◌∙◌, ◌⊎◌, inl, inr, subst}
use Rattle.std.specs.Prelude.{◌==◌, IfSome}
use Rattle.std.specs.List.{AllByRecursion}
use Rattle.std.proofs.lemmas.Bool.{false≢true}
use Rattle.co_value.specs.declared.key.Key.{Key}
use Rattle.co_value.specs.Numbers.{AreBytes}
use Rattle.co_frame_aborts.specs.AbortCodes.{timed_out as timed_out_code}
use Rattle.co_frame.specs.FrameContent.{FrameContent}
use Rattle.co_frame.specs.declared.sdo_request.SdoRequest.{SdoRequest}
use Rattle.co_dict.specs.Rows.{Contents, Rows}
use Rattle.co_dict.specs.Stores.{Description, IsDictionary}
use Rattle.co_sdo.specs.Completed.{completed_by, permitted, set_by, unless}
use Rattle.co_sdo.specs.Downloads.{Download as Whole}
use Rattle.co_frame.specs.declared.sdo_response.SdoResponse.TheVariants.{Abort as Refuse}
use Rattle.co_sdo.specs.Log.{Answer, Exchanged, Response as Replied, Log, Ticked as Elapsed, TimedOut, Dropped, answer_bytes, frames_on}
use Rattle.co_sdo.specs.Opened.{OpenTransfer, opened, opened_after}
use Rattle.co_sdo.specs.OpenTransfers.{open_transfer}
use Rattle.co_sdo.specs.Refused.{completion_refusal}
use Rattle.co_sdo.specs.Replies.{answers_to, open_key, reply_to, time_out_reply}
use Rattle.co_sdo.specs.Standing.{is_under_way}
use Rattle.co_sdo.specs.Steps.{opened_next, set_next}
use Rattle.co_sdo_laws.proofs.Channel.{Served, ended as channel_ended, served, tick_opens}
use Rattle.co_sheet.specs.Content.{Row}
use Rattle.conode_explain_transfers.specs.declared.ended.Ended.{Ended}
use Rattle.conode_explain_transfers.specs.declared.kinds.Side.{Side}
use Rattle.conode_explain_transfers.specs.declared.kinds.Side.TheVariants.{Client, Server}
use Rattle.conode_explain_transfers.specs.declared.stage.Stage.TheVariants.{Initiated}
use Rattle.conode_explain_transfers.specs.declared.transfer.Transfer.{Transfer}
use Rattle.conode_explain_transfers.specs.Digests.{digest_of}
use Rattle.conode_explain_transfers.specs.Followed.{Following}
use Rattle.conode_explain_transfers.specs.Transfers.{is_download}
use Rattle.conode_explain_transfers.specs.Unanswered.{not_followed_by}
use Rattle.conode_explain_laws.specs.Downloads.{Complete, initiated_by, write_said, write_set}
use Rattle.conode_explain_laws.proofs.AllInputs.{short_reading}
use Rattle.conode_explain_laws.proofs.Begins.{awaits}
use Rattle.conode_explain_laws.proofs.Exchanges.{exchange}
use Rattle.conode_explain_laws.proofs.Follows.{BegunBy, Ends, Follows, Stays, all_sent, answered_reads, are_sent, aside, asked, begun_by, blocks, client_no_response, gone, in_blocks, in_segments, is_response, segmented}
use Rattle.conode_explain_laws.proofs.Readings.{Abort, Begin, Nothing, Reading, Request, Response, Segment, begun_after, bytes_by, reading_of, turn_of}
use Rattle.conode_explain_laws.proofs.Views.{Closes, IsAside, Knows, KnowsAside, View, abort_no_write, aborted_closes, aside_reads, aside_turn, begin_writes, hears, hears_answers, is_begin, no_write, read_as}
use Rattle.conode_compare_nmt.specs.declared.finding.Finding.{Finding}
use Rattle.conode_compare_rules.specs.declared.kind.FrameKind.{FrameKind}
use Rattle.conode_compare_rules.specs.declared.kind.FrameKind.TheVariants.{Sdo}
use Rattle.conode_compare_nmt.specs.declared.limits.Subject.{Subject}
use Rattle.conode_compare_rules.specs.declared.progress.Progress.{Progress}
use Rattle.conode_compare_rules.specs.declared.verdict.Findings.{Findings}
use Rattle.conode_compare_rules.specs.Answers.{known_finding}
use Rattle.conode_compare_rules.specs.Gaps.{begun}
use Rattle.conode_compare_laws.specs.ValueFindings.{on_channel}
use Rattle.conode_compare_laws.proofs.AnswerExchange.{answer_kind, request_kind}
use Rattle.conode_compare_laws.proofs.AnswerFollowed.{reads}
use Rattle.conode_compare_laws.proofs.AnswerOpened.{exchange_with}
use Rattle.conode_compare_laws.proofs.AnswerOthers.{is_sdo}
use Rattle.conode_compare_laws.proofs.AnswerWhole.{HasTaken, asked_worn, kept_hears}
use Rattle.conode_compare_laws.proofs.DownloadProtocols.{Fits, FitsEnd, fits_after}
use Rattle.conode_compare_laws.proofs.NamedKeys.{first_of, last_of}
use Rattle.conode_compare_laws.proofs.Runs.{AllRun}
use Rattle.conode_compare_laws.proofs.ValueFrames.{AllFine, IsFine, answer_frame, answers_run, following_on, sdo_run}
use Rattle.conode_compare_laws.proofs.ValueInputs.{Obeys, mapped}
use Rattle.conode_compare_laws.proofs.ValueOnly.{is_value}
use Rattle.conode_compare_laws.proofs.ValueShown.{Shown, shown_by}

-- ---- what is permitted

-- the dictionary permits a download of these bytes
pub record Permitted (d : Description) (key : Key) (bytes : List ℕ) : Type 0 where
  pub contents : Contents
  pub indicated : Option ℕ
  pub allowed : completion_refusal d contents key indicated bytes ≡ None

abbrev pub IsPermitted : Description → Complete → Type 0
IsPermitted d c = Permitted d c.key c.bytes

abbrev pub ArePermitted : Description → List Complete → Type 0
ArePermitted d done = AllByRecursion (IsPermitted d) done

permitted_allowed : (d : Description) (c : Contents) (o : Option Whole) (w : Whole) → permitted d c o ≡ Some w → completion_refusal d c w.key w.indicated w.bytes ≡ None
permitted_allowed d c None w h = absurd (cc)
permitted_allowed d c (Some x) w h = by (completion_refusal d c x.key x.indicated x.bytes) refl h
  where
    by : (r : Option ℕ) → completion_refusal d c x.key x.indicated x.bytes ≡ r → unless r (Some x) ≡ Some w → completion_refusal d c w.key w.indicated w.bytes ≡ None
    by None e h = let same : x ≡ w = cc in subst (λ (y : Whole). completion_refusal d c y.key y.indicated y.bytes ≡ None) same e
    by (Some code) e h = absurd (cc)

set_permitted : (d : Description) (c : Contents) (log : Log) (frame : List ℕ) (set : Option Whole) (n : ℕ) → set_by d c log frame ≡ set → ArePermitted d (write_set set n ++ [])
set_permitted d c log frame None n e = tt
set_permitted d c log frame (Some w) n e =
    (record { contents = c; indicated = w.indicated; allowed = permitted_allowed d c (completed_by d.rows (open_transfer log) frame) w e }, tt)

-- ---- what both have

pub record Standing (d : Description) (log : Log) (o : Option Transfer) : Type 0 where
  pub under_way : is_under_way d.rows (open_transfer log)
  pub got : List ℕ
  pub follows : IfSome o (λ t. Follows t got (opened_after log))
  pub taken : IfSome o (λ t. t.taken ≡ digest_of got)
  pub fits : IfSome o Fits

none_known : (d : Description) (log : Log) → is_under_way d.rows (open_transfer log) → Standing d log None
none_known d log u = record { under_way = u; got = []; follows = tt; taken = tt; fits = tt }

standing_ticked : (d : Description) (log : Log) (o : Option Transfer) → Standing d log o → Standing d (Elapsed ∷ log) o
standing_ticked d log o s = record {
  under_way = subst (is_under_way d.rows) (sym (tick_opens log)) s.under_way;
  got = s.got;
  follows = subst (λ c. IfSome o (λ t. Follows t s.got c)) (sym (ap opened (tick_opens log))) s.follows;
  taken = s.taken;
  fits = s.fits;
}

drops : (held : Option Transfer) (got : List ℕ) (current : Option OpenTransfer) → IfSome held (λ t. Follows t got current) → IfSome held (λ t. Follows t got None)
drops None got current h = tt
drops (Some t) got current (aside a) = aside a
drops (Some t) got current (asked a) = asked a
drops (Some t) got current (gone a c) = gone a refl
drops (Some t) got current (segmented toggle a c) = gone (in_segments t toggle a) refl
drops (Some t) got current (blocks taken size a c) = gone (in_blocks t taken a) refl
drops (Some t) got current (all_sent size a c) = gone (are_sent t a) refl

standing_dropped : (d : Description) (log : Log) (o : Option Transfer) → open_transfer (Dropped ∷ log) ≡ None → Standing d log o → Standing d (Dropped ∷ log) o
standing_dropped d log o none s = record {
  under_way = subst (is_under_way d.rows) (sym none) tt;
  got = s.got;
  follows = subst (λ c. IfSome o (λ t. Follows t s.got c)) (sym (ap opened none)) (drops o s.got (opened_after log) s.follows);
  taken = s.taken;
  fits = s.fits;
}

-- ---- a request that the device ignores

-- nothing is done with it, and what both have then
abbrev Ignored : Option OpenTransfer → List Complete → View → Type 0
Ignored current done v = (v.done ≡ done) × IfSome v.following.transfer (λ t. Follows t v.got current)

abbrev view_with : Bool → Option Transfer → List ℕ → List Complete → ℕ → View
view_with heard held got done count = record { following = record { heard = heard; transfer = held }; got = got; done = done; count = count }

aside_holds : (o : Option Transfer) (got : List ℕ) (current : Option OpenTransfer) → IfSome o IsAside → IfSome o (λ t. Follows t got current)
aside_holds None got current h = tt
aside_holds (Some t) got current h = aside h

stays_holds : (o : Option Transfer) (got : List ℕ) → IfSome o Stays → IfSome o (λ t. Follows t got None)
stays_holds None got h = tt
stays_holds (Some t) got (inl a) = aside a
stays_holds (Some t) got (inr a) = gone a refl

module _ (rows : Rows) (micros : ℕ) (frame : List ℕ) (heard : Bool) (got : List ℕ) (done : List Complete) (count : ℕ) where
  as_aside : (current : Option OpenTransfer) (v : View) → KnowsAside done v → Ignored current done v
  as_aside current v k = (k.same, aside_holds v.following.transfer v.got current k.holds)

  worn_reads : (t : Transfer) (reading : Reading) → is_begin reading ≡ false → (turn_of t reading frame).transfer.irregular ≡ true
      → KnowsAside done (read_as rows micros Client frame (view_with heard (Some t) got done count) reading)
  worn_reads t (Begin new) n i = absurd (false≢true (sym n))
  worn_reads t (Abort code) n i = record {
    holds = tt;
    same = ap (λ w. w ++ done) (no_write (is_download t.direction) _ (abort_no_write Client (not_followed_by Client t frame) code _));
  }
  worn_reads t (Segment segment) n i = aside_turn rows micros Client frame heard t got done count (Segment segment) (inl i)
  worn_reads t (Request request) n i = aside_turn rows micros Client frame heard t got done count (Request request) (inl i)
  worn_reads t (Response response) n i = aside_turn rows micros Client frame heard t got done count (Response response) (inl i)
  worn_reads t Nothing n i = aside_turn rows micros Client frame heard t got done count Nothing (inl i)

  -- which begins a transfer
  begun_ignored : (held : Option Transfer) (new : Transfer) → reading_of held Client micros frame ≡ Begin new → Ignored None done (read_as rows micros Client frame (view_with heard held got done count) (Begin new))
  begun_ignored held new e =
      let b : BegunBy frame micros (begun_after held frame new) = begun_by held micros frame new e in
      (begin_writes rows micros frame heard held got done count new, asked (subst (λ o. IfSome o (λ t. t.stage ≡ Initiated)) b.initiates (awaits b.request micros frame)))

  stray_ignored : (current : Option OpenTransfer) (reading : Reading) → is_begin reading ≡ false → Ignored current done (read_as rows micros Client frame (view_with heard None got done count) reading)
  stray_ignored current (Begin new) n = absurd (false≢true (sym n))
  stray_ignored current _ n = (refl, tt)

  open_ignored : (t : Transfer) (reading : Reading) → is_begin reading ≡ false → is_response reading ≡ false → Follows t got None → Ignored None done (read_as rows micros Client frame (view_with heard (Some t) got done count) reading)
  open_ignored t reading n m (aside a) = as_aside None _ (aside_reads rows micros Client frame heard (Some t) got done count reading a n)
  open_ignored t reading n m (asked a) = as_aside None _ (worn_reads t reading n (asked_worn t reading frame n m a))
  open_ignored t reading n m (gone a c) =
      let k : Knows (λ u bytes. Stays u) done (read_as rows micros Client frame (view_with heard (Some t) got done count) reading) = answered_reads rows micros frame heard t got done count reading a n m in
      (k.same, stays_holds _ _ k.holds)
  open_ignored t reading n m (segmented toggle a c) = absurd (cc)
  open_ignored t reading n m (blocks taken size a c) = absurd (cc)
  open_ignored t reading n m (all_sent size a c) = absurd (cc)

  idle_ignored : (held : Option Transfer) (reading : Reading) → reading_of held Client micros frame ≡ reading → IfSome held (λ t. Follows t got None) → Ignored None done (read_as rows micros Client frame (view_with heard held got done count) reading)
  idle_ignored held (Begin new) e h = begun_ignored held new e
  idle_ignored None reading e h = stray_ignored None reading refl
  idle_ignored (Some t) reading e h = open_ignored t reading refl (sym (ap is_response e) ∙ client_no_response (Some t) micros frame) h

  -- a frame that hasn't eight bytes
  short_ignored : (current : Option OpenTransfer) (held : Option Transfer) → Ignored current done (read_as rows micros Client frame (view_with heard held got done count) Nothing)
  short_ignored current None = stray_ignored current Nothing refl
  short_ignored current (Some t) = as_aside current _ (aside_turn rows micros Client frame heard t got done count Nothing (inl refl))

  pub ignores : (current : Option OpenTransfer) (held : Option Transfer) → ((length frame == 8) ≡ false) ⊎ (current ≡ None) → IfSome held (λ t. Follows t got current)
      → Ignored current done (read_as rows micros Client frame (view_with heard held got done count) (reading_of held Client micros frame))
  ignores current held (inl short) h =
      subst (λ reading. Ignored current done (read_as rows micros Client frame (view_with heard held got done count) reading)) (sym (short_reading held micros frame short)) (short_ignored current held)
  ignores current held (inr none) h =
      subst (λ c. Ignored c done (read_as rows micros Client frame (view_with heard held got done count) (reading_of held Client micros frame))) (sym none)
      (idle_ignored held (reading_of held Client micros frame) refl (subst (λ c. IfSome held (λ t. Follows t got c)) none h))

-- ---- frame by frame

-- what is done later is done then, too
told_before : (rows : Rows) (stamp : ℕ → ℕ) (d : Description) (answers : List Answer) (v : View) → ArePermitted d (hears_answers rows stamp answers v).done → ArePermitted d v.done
told_before rows stamp d [] v h = h
told_before rows stamp d (answer ∷ later) v h =
    last_of (IsPermitted d) (write_said rows (initiated_by v.following.transfer) (reads v.following (stamp v.count) Server (answer_bytes answer)).says.ended (hears rows stamp Server (answer_bytes answer) v).got (suc v.count)) v.done
    (told_before rows stamp d later (hears rows stamp Server (answer_bytes answer) v) h)

kept_all : (rows : Rows) (stamp : ℕ → ℕ) (answers : List Answer) (v : View) → HasTaken v → HasTaken (hears_answers rows stamp answers v)
kept_all rows stamp [] v h = h
kept_all rows stamp (answer ∷ later) v h = kept_all rows stamp later (hears rows stamp Server (answer_bytes answer) v) (kept_hears stamp Server (answer_bytes answer) v h)

-- and the protocol fits its request
fits_hears : (rows : Rows) (stamp : ℕ → ℕ) (side : Side) (bytes : List ℕ) (v : View) → IfSome v.following.transfer Fits → IfSome (hears rows stamp side bytes v).following.transfer Fits
fits_hears rows stamp side bytes v h = (fits_after v.following.heard v.following.transfer (reading_of v.following.transfer side (stamp v.count) bytes) (stamp v.count) side bytes refl h).next

fits_answers : (rows : Rows) (stamp : ℕ → ℕ) (answers : List Answer) (v : View) → IfSome v.following.transfer Fits → IfSome (hears_answers rows stamp answers v).following.transfer Fits
fits_answers rows stamp [] v h = h
fits_answers rows stamp (answer ∷ later) v h = fits_answers rows stamp later (hears rows stamp Server (answer_bytes answer) v) (fits_hears rows stamp Server (answer_bytes answer) v h)

-- no difference is picked of a download that is done with permitted bytes, and none of another end
abbrev pub Picks : (Option Finding → List Finding) → Subject → List Row → Description → Type 0
Picks only subject rows d =
    (frame : FrameContent) (e : Ended) (initiate : Option SdoRequest) (got : List ℕ) (n : ℕ)
    → Shown (Some e) got → FitsEnd initiate (Some e) → ArePermitted d (write_said d.rows initiate (Some e) got n) → only (known_finding subject rows frame e) ≡ []

module _ (only : Option Finding → List Finding) (nothing : only None ≡ []) (others : (finding : Finding) → is_value finding ≡ false → only (Some finding) ≡ []) (subject : Subject) (rows : List Row) (d : Description) (picks : Picks only subject rows d) where
  fine_of : (micros : ℕ) (frame : FrameContent) (o : Option Ended) (initiate : Option SdoRequest) (got : List ℕ) (n : ℕ) → Shown o got → FitsEnd initiate o → ArePermitted d (write_said d.rows initiate o got n)
      → IfSome o (λ e. only (known_finding subject rows frame e) ≡ [])
  fine_of micros frame None initiate got n s f h = tt
  fine_of micros frame (Some e) initiate got n s f h = picks frame e initiate got n s f h

  -- a frame after which all that is done is permitted
  frame_fine : (micros : ℕ) (side : Side) (frame : FrameContent) (v : View) → HasTaken v → IfSome v.following.transfer Fits → ArePermitted d (hears d.rows (λ n. micros) side frame.bytes v).done
      → IsFine only nothing others subject rows micros frame (reads v.following micros side frame.bytes)
  frame_fine micros side frame v taken fits h =
      let reading : Reading = reading_of v.following.transfer side micros frame.bytes in
      let got : List ℕ = bytes_by v.following.transfer reading frame.bytes v.got in
      fine_of micros frame (reads v.following micros side frame.bytes).says.ended (initiated_by v.following.transfer) got (suc v.count)
      (shown_by v.following.heard v.following.transfer reading micros side frame.bytes v.got taken)
      (fits_after v.following.heard v.following.transfer reading micros side frame.bytes refl fits).ended
      (first_of (IsPermitted d) (write_said d.rows (initiated_by v.following.transfer) (reads v.following micros side frame.bytes).says.ended got (suc v.count)) v.done h)

  all_fine : (micros : ℕ) (answers : List Answer) (v : View) → HasTaken v → IfSome v.following.transfer Fits → ArePermitted d (hears_answers d.rows (λ n. micros) answers v).done → AllFine only nothing others subject rows micros v.following answers
  all_fine micros [] v taken fits h = tt
  all_fine micros (answer ∷ later) v taken fits h = (
    frame_fine micros Server (answer_frame only nothing others subject rows micros (answer_bytes answer)) v taken fits
        (told_before d.rows (λ n. micros) d later (hears d.rows (λ n. micros) Server (answer_bytes answer) v) h),
    all_fine micros later (hears d.rows (λ n. micros) Server (answer_bytes answer) v) (kept_hears (λ n. micros) Server (answer_bytes answer) v taken) (fits_hears d.rows (λ n. micros) Server (answer_bytes answer) v fits) h,
  )

  on_is : (micros : ℕ) (answers : List Answer) (v : View) → following_on only nothing others subject rows micros v.following answers ≡ (hears_answers d.rows (λ n. micros) answers v).following
  on_is micros [] v = refl
  on_is micros (answer ∷ later) v = on_is micros later (hears d.rows (λ n. micros) Server (answer_bytes answer) v)

  -- answers after which all that is done is permitted, and what both have then
  told_run : (micros : ℕ) (answers : List Answer) (v : View) (q : Progress) (After : Option Transfer → Type 0) → q.newest ≡ Some micros → q.dialogue.channel ≡ v.following → HasTaken v → IfSome v.following.transfer Fits
      → ArePermitted d (hears_answers d.rows (λ n. micros) answers v).done → After (hears_answers d.rows (λ n. micros) answers v).following.transfer
      → AllRun (on_channel only) subject rows micros q (frames_on (0x580 + subject.node) answers) (λ x. After x.dialogue.channel.transfer)
  told_run micros answers v q After now is taken fits told after =
      mapped (on_channel only) subject rows micros (frames_on (0x580 + subject.node) answers) q (λ x. x.dialogue.channel ≡ following_on only nothing others subject rows micros v.following answers) (λ x. After x.dialogue.channel.transfer)
      (λ x on. subst (λ (f : Following). After f.transfer) (sym (on ∙ on_is micros answers v)) after)
      (answers_run only nothing others subject rows micros answers v.following q now is (all_fine micros answers v taken fits told))

  -- ---- a request with its answers

  module _ (micros : ℕ) (contents : Contents) (log : Log) (frame : FrameContent) (p : Progress) where
    abbrev Stands : Log → Progress → Type 0
    Stands l q = Standing d l q.dialogue.channel.transfer

    request_runs : frame.id ≡ 0x600 + subject.node → AreBytes frame.bytes → length frame.bytes ≡ 8 → IsDictionary d contents → Standing d log (begun subject p micros).dialogue.channel.transfer
        → AllRun (on_channel only) subject rows micros p (frame ∷ [])
        (λ q. AllRun (on_channel only) subject rows micros q (frames_on (0x580 + subject.node) (reply_to d contents log frame.bytes)) (Stands (Exchanged (exchange_with d contents log frame.bytes) ∷ log)))
    request_runs id bytes eight lawful s =
        sdo_run only nothing others subject rows micros p frame [] Client _ (request_kind subject.node frame id)
        (frame_fine micros Client frame v s.taken s.fits (told_before d.rows (λ n. micros) d answers heard told))
        (λ q n next. subst (λ x. AllRun (on_channel only) subject rows micros q (frames_on (0x580 + subject.node) x) (Stands (Exchanged (exchange_with d contents log frame.bytes) ∷ log))) (sym one.replies)
        (told_run micros answers heard q (Standing d (Exchanged (exchange_with d contents log frame.bytes) ∷ log)) n next (kept_hears (λ n. micros) Client frame.bytes v s.taken) (fits_hears d.rows (λ n. micros) Client frame.bytes v s.fits) told stands))
      where
        v : View
        v = record { following = (begun subject p micros).dialogue.channel; got = s.got; done = []; count = 0 }

        answers : List Answer
        answers = answers_to d contents (opened_after log) frame.bytes

        heard : View
        heard = hears d.rows (λ n. micros) Client frame.bytes v

        last : View
        last = hears_answers d.rows (λ n. micros) answers heard

        one : Served d contents log (opened_after log) frame.bytes
        one = served d contents log (opened_after log) frame.bytes (record { opens = refl; under_way = s.under_way }) lawful eight

        step : Ends (opened_next d contents (opened_after log) frame.bytes) (set_next d contents (opened_after log) frame.bytes) [] last
        step = exchange d contents (λ n. micros) frame.bytes (opened_after log) v bytes s.follows

        told : ArePermitted d last.done
        told = by step.writes
          where
            by : (last.done ≡ []) ⊎ (last.done ≡ write_set (set_next d contents (opened_after log) frame.bytes) last.count ++ []) → ArePermitted d last.done
            by (inl e) = subst (ArePermitted d) (sym e) tt
            by (inr e) = subst (ArePermitted d) (sym e) (set_permitted d contents log frame.bytes (set_next d contents (opened_after log) frame.bytes) last.count one.sets)

        stands : Standing d (Exchanged (exchange_with d contents log frame.bytes) ∷ log) last.following.transfer
        stands = record {
          under_way = one.next.under_way;
          got = last.got;
          follows = subst (λ c. IfSome last.following.transfer (λ t. Follows t last.got c)) (sym one.next.opens) step.follows;
          taken = kept_all d.rows (λ n. micros) answers heard (kept_hears (λ n. micros) Client frame.bytes v s.taken);
          fits = fits_answers d.rows (λ n. micros) answers heard (fits_hears d.rows (λ n. micros) Client frame.bytes v s.fits);
        }

    -- one that the device ignores
    ignored_runs : frame.id ≡ 0x600 + subject.node → ((length frame.bytes == 8) ≡ false) ⊎ (opened_after log ≡ None) → Standing d log (begun subject p micros).dialogue.channel.transfer
        → AllRun (on_channel only) subject rows micros p (frame ∷ []) (Stands log)
    ignored_runs id by s =
        sdo_run only nothing others subject rows micros p frame [] Client _ (request_kind subject.node frame id)
        (frame_fine micros Client frame v s.taken s.fits (subst (ArePermitted d) (sym after.0) tt))
        (λ q n next. subst (λ (f : Following). Standing d log f.transfer) (sym next)
        (record { under_way = s.under_way; got = heard.got; follows = after.1; taken = kept_hears (λ n. micros) Client frame.bytes v s.taken; fits = fits_hears d.rows (λ n. micros) Client frame.bytes v s.fits }))
      where
        v : View
        v = record { following = (begun subject p micros).dialogue.channel; got = s.got; done = []; count = 0 }

        heard : View
        heard = hears d.rows (λ n. micros) Client frame.bytes v

        after : (heard.done ≡ []) × IfSome heard.following.transfer (λ t. Follows t heard.got (opened_after log))
        after = ignores d.rows micros frame.bytes v.following.heard s.got [] 0 (opened_after log) v.following.transfer by s.follows

  -- ---- an abort when a transfer times out

  aborted_runs : (micros : ℕ) (log : Log) (q : Progress) → Standing d log (begun subject q micros).dialogue.channel.transfer
      → AllRun (on_channel only) subject rows micros q (frames_on (0x580 + subject.node) (time_out_reply log)) (λ x. Standing d (TimedOut (time_out_reply log) ∷ log) x.dialogue.channel.transfer)
  aborted_runs micros log q s =
      sdo_run only nothing others subject rows micros q frame [] Server _ (answer_kind subject.node frame.bytes)
      (frame_fine micros Server frame v s.taken s.fits (subst (ArePermitted d) (sym closes.same) tt))
      (λ x n next. subst (λ (f : Following). Standing d (TimedOut (time_out_reply log) ∷ log) f.transfer) (sym next)
      (subst (Standing d (TimedOut (time_out_reply log) ∷ log)) (sym closes.none) (none_known d (TimedOut (time_out_reply log) ∷ log) (subst (is_under_way d.rows) (sym (channel_ended log (time_out_reply log))) tt))))
    where
      v : View
      v = record { following = (begun subject q micros).dialogue.channel; got = s.got; done = []; count = 0 }

      frame : FrameContent
      frame = record { id = 0x580 + subject.node; bytes = answer_bytes (Replied (Refuse (open_key (opened_after log)) (record { 0 = timed_out_code }))) }

      closes : Closes [] (hears d.rows (λ n. micros) Server frame.bytes v)
      closes = aborted_closes d.rows (λ n. micros) (open_key (opened_after log)) timed_out_code v

  -- ---- all of it

  quiet : (kind : FrameKind) (found : Findings) → is_sdo kind ≡ false → on_channel only kind found ≡ []
  quiet (Sdo side frame) found off = absurd (false≢true (sym off))
  quiet _ found off = refl

  pub obeys : Obeys d subject rows (on_channel only) (IsDictionary d) (Standing d)
  obeys = record {
    quiet = quiet;
    first = none_known d [] tt;
    none = λ log o s. none_known d log s.under_way;
    ticked = standing_ticked d;
    dropped = standing_dropped d;
    aborted = aborted_runs;
    request = request_runs;
    ignored = λ micros contents log frame p id bytes lawful. ignored_runs micros contents log frame p id;
  }
