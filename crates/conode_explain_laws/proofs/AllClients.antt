-- Both laws of a client, over all that may come to it: an induction whose step is one input, with what the client sends to it.
use Rattle.std.proofs.Common.{◌≡◌, ℕ, Bool, true, false, List, [], ◌∷◌, ◌++◌, length, Option, Some, None, refl, sym, ap, ◌∙◌, ◌⊎◌, inl, inr, subst, arith}
use Rattle.std.specs.Prelude.{if◌then◌else◌, IfSome, ◌==◌}
use Rattle.std.proofs.lemmas.Bool.{false≢true}
use Rattle.std.proofs.lemmas.Bool.Decides.{nat_tests}
use Rattle.co_frame_aborts.specs.AbortCodes.{timed_out}
use Rattle.co_sdo_client.specs.declared.stage.Stage.{Stage}
use Rattle.co_sdo_client.specs.declared.state.ClientState.{ClientState}
use Rattle.co_sdo_client.specs.declared.state.ClientState.TheVariants.{Waiting, Done, Failed}
use Rattle.co_sdo_client.specs.Calls.{Call, Event, Answered, Ticked, answers, Answers, since_first, is_time_over}
use Rattle.co_sdo_client.specs.Segments.{initiate_messages}
use Rattle.co_sdo_client.specs.Stages.{stage_after, held_after, stage_since, held_since}
use Rattle.co_sdo_client.specs.Steps.{frame_stage, frame_held}
use Rattle.co_sdo_client.specs.Verdicts.{Verdict, GoesOn, Ends, GivesUp, IsAborted, verdict}
use Rattle.co_sdo_client.specs.Outcomes.{state_by, messages_by, value_by, outcome, asked_by, result}
use Rattle.co_sdo_client.proofs.EventLemmas.{goes_on}
use Rattle.co_sdo_client.proofs.StageLemmas.{next_is}
use Rattle.conode_explain_transfers.specs.declared.kinds.Side.TheVariants.{Server}
use Rattle.conode_explain_transfers.specs.declared.transfer.Transfer.{Transfer}
use Rattle.conode_explain_transfers.specs.Data.{data_after}
use Rattle.conode_explain_transfers.specs.Digests.{digest_of}
use Rattle.conode_explain_transfers.specs.Followed.{Event as Recorded, following_after}
use Rattle.conode_explain_transfers.proofs.DataLemmas.{StaysOpen, open_after}
use Rattle.conode_explain_laws.specs.Recordings.{and_frame}
use Rattle.conode_explain_laws.specs.Downloads.{AreSome, goes_up}
use Rattle.conode_explain_laws.specs.Clients.{ClientInput, Came, Elapsed, IsCall, events_of, and_messages, heard, Transferred, transfers_done, direction_of, bytes_transferred, reported, transfers_reported, open_sub_block, AreRegular, newest_number}
use Rattle.conode_explain_laws.proofs.AllExact.{kept_of}
use Rattle.conode_explain_laws.proofs.ClientViews.{seen_of, holds, says, hears, hears_frame, says_all, IsLost, Loses, lost_answer, client_closes}
use Rattle.conode_explain_laws.proofs.ClientStanding.{SyncIn, FollowsBy, one, Steps}
use Rattle.conode_explain_laws.proofs.ClientAnswers.{newest_of, Made, lost_made, sync_made}
use Rattle.conode_explain_laws.proofs.ClientBegins.{nothing, Begins, begins, Spoils, short_sync, short_lost}

-- ---- the two lists

-- explain's and the client's, of one transfer at most
pub record Compares (Loose : Type 0) (R : List Transferred → List Transferred → Type 0) : Type 0 where
  pub none : R [] []
  pub missed : Loose → (x : Transferred) → R [] (x ∷ [])
  pub same : (x : Transferred) → R (x ∷ []) (x ∷ [])

some_compare : Compares (Unit {0}) (λ said all. AreSome said all)
some_compare = record { none = tt; missed = λ l x. tt; same = λ x. inl (refl, tt) }

same_compare : Compares ⊥ (λ said all. said ≡ all)
same_compare = record { none = refl; missed = λ l x. absurd l; same = λ x. refl }

is_eight : (n : ℕ) → n ≡ 8 → (n == 8) ≡ true
is_eight n h = grind (arith, nat_tests)

module _ (Loose : Type 0) (R : List Transferred → List Transferred → Type 0) (compares : Compares Loose R) (call : Call) (ok : IsCall call) (stamp : ℕ → ℕ) where
  -- nothing is done while the client waits
  abbrev Both : ClientState → List Transferred → List Transferred → Type 0
  Both Waiting said all = (said ≡ []) × (all ≡ [])
  Both _ said all = R said all

  record Related (events : List Event) (recording : List Recorded) (all : List Transferred) : Type 0 where
    follows : FollowsBy Loose call (outcome call events) (following_after recording).transfer (data_after recording) (stage_after call events) (held_after call events) (newest_of (since_first (answers events)))
    both : Both (outcome call events) (transfers_done call recording) all

  -- what the client reports with one more event, where this is the recording then
  abbrev reports : List Event → Event → List Recorded → List Transferred
  reports events event recording =
      reported (outcome call events) (outcome call (event ∷ events))
      (record { frame = length recording; direction = direction_of call.job; key = call.key; bytes = bytes_transferred call.job (result call (event ∷ events)) })

  -- ---- an event while it waits, by the verdict

  -- what the verdict makes of the client
  record IsNext (events : List Event) (event : Event) (v : Verdict) : Type 0 where
    state : outcome call (event ∷ events) ≡ state_by v
    messages : asked_by call events event ≡ messages_by call v
    value : result call (event ∷ events) ≡ value_by v

  is_next : (events : List Event) (event : Event) (v : Verdict) → outcome call events ≡ Waiting → verdict call events event ≡ v → IsNext events event v
  is_next events event v o e = record { state = rw (o, e) refl; messages = rw (o, e) refl; value = rw (o, e) refl }

  abbrev report : ClientState → ClientState → List ℕ → List Recorded → List Transferred → List Transferred
  report before after value recording all =
      reported before after (record { frame = length recording; direction = direction_of call.job; key = call.key; bytes = bytes_transferred call.job value }) ++ all

  reports_so : (events : List Event) (event : Event) (v : Verdict) (recording : List Recorded) (all : List Transferred) → outcome call events ≡ Waiting → IsNext events event v
      → reports events event recording ++ all
      ≡ reported Waiting (state_by v) (record { frame = length recording; direction = direction_of call.job; key = call.key; bytes = bytes_transferred call.job (value_by v) }) ++ all
  reports_so events event v recording all o n =
      ap (λ s. report s (outcome call (event ∷ events)) (result call (event ∷ events)) recording all) o
      ∙ ap (λ s. report Waiting s (result call (event ∷ events)) recording all) n.state
      ∙ ap (λ value. report Waiting (state_by v) value recording all) n.value

  by_verdict : (events : List Event) (event : Event) (v : Verdict) (recording : List Recorded) (all : List Transferred) (stage : Stage) (held : List ℕ) (newest : ℕ) → outcome call events ≡ Waiting → all ≡ [] → IsNext events event v
      → (goes_on v ≡ true → (stage ≡ stage_after call (event ∷ events)) × (held ≡ held_after call (event ∷ events)))
      → newest ≡ newest_of (since_first (answers (event ∷ events)))
      → Steps Loose call v stage held newest (seen_of call recording)
      → Related (event ∷ events) recording (reports events event recording ++ all)
  by_verdict events event (GoesOn messages) recording all stage held newest o a n next newer s =
      let later = next refl in
      record {
        follows = subst (λ x. FollowsBy Loose call x (following_after recording).transfer (data_after recording) (stage_after call (event ∷ events)) (held_after call (event ∷ events)) (newest_of (since_first (answers (event ∷ events))))) (sym n.state)
            (subst (λ x. FollowsBy Loose call Waiting (following_after recording).transfer (data_after recording) x (held_after call (event ∷ events)) (newest_of (since_first (answers (event ∷ events))))) later.0
            (subst (λ x. FollowsBy Loose call Waiting (following_after recording).transfer (data_after recording) stage x (newest_of (since_first (answers (event ∷ events))))) later.1
            (subst (λ x. FollowsBy Loose call Waiting (following_after recording).transfer (data_after recording) stage held x) newer s.follows)));
        both = subst (λ x. Both x (transfers_done call recording) (reports events event recording ++ all)) (sym n.state)
            (s.reads, reports_so events event (GoesOn messages) recording all o n ∙ a);
      }
  by_verdict events event (Ends messages value) recording all stage held newest o a n next newer s =
      let is = one call (length recording) value in
      let said : reports events event recording ++ all ≡ is = reports_so events event (Ends messages value) recording all o n ∙ ap (λ xs. is ++ xs) a in
      record {
        follows = subst (λ x. FollowsBy Loose call x (following_after recording).transfer (data_after recording) (stage_after call (event ∷ events)) (held_after call (event ∷ events)) (newest_of (since_first (answers (event ∷ events))))) (sym n.state) s.follows;
        both = subst (λ x. Both x (transfers_done call recording) (reports events event recording ++ all)) (sym n.state)
            (subst (λ xs. R (transfers_done call recording) xs) (sym said)
            (elim s.reads [
              | inl l ↦ subst (λ xs. R xs is) (sym l.1) (compares.missed l.0 _)
              | inr e ↦ subst (λ xs. R xs is) (sym e) (compares.same _)
            ]));
      }
  by_verdict events event (GivesUp code) recording all stage held newest o a n next newer s = record {
    follows = subst (λ x. FollowsBy Loose call x (following_after recording).transfer (data_after recording) (stage_after call (event ∷ events)) (held_after call (event ∷ events)) (newest_of (since_first (answers (event ∷ events))))) (sym n.state) s.follows;
    both = subst (λ x. Both x (transfers_done call recording) (reports events event recording ++ all)) (sym n.state)
        (subst (λ xs. R (transfers_done call recording) xs) (sym (reports_so events event (GivesUp code) recording all o n ∙ a)) (subst (λ xs. R xs []) (sym s.reads) compares.none));
  }
  by_verdict events event (IsAborted code) recording all stage held newest o a n next newer s = record {
    follows = subst (λ x. FollowsBy Loose call x (following_after recording).transfer (data_after recording) (stage_after call (event ∷ events)) (held_after call (event ∷ events)) (newest_of (since_first (answers (event ∷ events))))) (sym n.state) s.follows;
    both = subst (λ x. Both x (transfers_done call recording) (reports events event recording ++ all)) (sym n.state)
        (subst (λ xs. R (transfers_done call recording) xs) (sym (reports_so events event (IsAborted code) recording all o n ∙ a)) (subst (λ xs. R xs []) (sym s.reads) compares.none));
  }

  -- ---- an event when it is over

  abbrev over : ClientState → Bool
  over Waiting = false
  over _ = true

  -- nothing is sent, and nothing reported
  record IsOver (events : List Event) (event : Event) (s : ClientState) : Type 0 where
    state : outcome call (event ∷ events) ≡ s
    messages : asked_by call events event ≡ []
    none : (recording : List Recorded) → reports events event recording ≡ []

  is_over : (events : List Event) (event : Event) (s : ClientState) → over s ≡ true → outcome call events ≡ s → IsOver events event s
  is_over events event Waiting h o = absurd (false≢true h)
  is_over events event Done h o = record { state = rw o refl; messages = rw o refl; none = λ recording. rw o refl }
  is_over events event (Failed code) h o = record { state = rw o refl; messages = rw o refl; none = λ recording. rw o refl }

  from_follows : (s : ClientState) (current : Option Transfer) (got : List ℕ) (stage : Stage) (held : List ℕ) (newest : ℕ) → over s ≡ true → FollowsBy Loose call s current got stage held newest → IfSome current IsLost
  from_follows Waiting current got stage held newest h f = absurd (false≢true h)
  from_follows Done current got stage held newest h f = f
  from_follows (Failed code) current got stage held newest h f = f

  to_follows : (s : ClientState) (current : Option Transfer) (got : List ℕ) (stage : Stage) (held : List ℕ) (newest : ℕ) → over s ≡ true → IfSome current IsLost → FollowsBy Loose call s current got stage held newest
  to_follows Waiting current got stage held newest h f = absurd (false≢true h)
  to_follows Done current got stage held newest h f = f
  to_follows (Failed code) current got stage held newest h f = f

  from_both : (s : ClientState) (said all : List Transferred) → over s ≡ true → Both s said all → R said all
  from_both Waiting said all h b = absurd (false≢true h)
  from_both Done said all h b = b
  from_both (Failed code) said all h b = b

  to_both : (s : ClientState) (said all : List Transferred) → over s ≡ true → R said all → Both s said all
  to_both Waiting said all h b = absurd (false≢true h)
  to_both Done said all h b = b
  to_both (Failed code) said all h b = b

  -- what holds then
  record Ended (recording : List Recorded) (all : List Transferred) : Type 0 where
    lost : IfSome (following_after recording).transfer IsLost
    compared : R (transfers_done call recording) all

  ended : (events : List Event) (recording : List Recorded) (all : List Transferred) (s : ClientState) → over s ≡ true → outcome call events ≡ s → Related events recording all → Ended recording all
  ended events recording all s h o r = record {
    lost = from_follows s (following_after recording).transfer (data_after recording) (stage_after call events) (held_after call events) (newest_of (since_first (answers events))) h
        (subst (λ x. FollowsBy Loose call x (following_after recording).transfer (data_after recording) (stage_after call events) (held_after call events) (newest_of (since_first (answers events)))) o r.follows);
    compared = from_both s (transfers_done call recording) all h (subst (λ x. Both x (transfers_done call recording) all) o r.both);
  }

  still_ended : (events : List Event) (recording : List Recorded) (all : List Transferred) (s : ClientState) → over s ≡ true → outcome call events ≡ s → Ended recording all → Related events recording all
  still_ended events recording all s h o r = record {
    follows = subst (λ x. FollowsBy Loose call x (following_after recording).transfer (data_after recording) (stage_after call events) (held_after call events) (newest_of (since_first (answers events)))) (sym o)
        (to_follows s (following_after recording).transfer (data_after recording) (stage_after call events) (held_after call events) (newest_of (since_first (answers events))) h r.lost);
    both = subst (λ x. Both x (transfers_done call recording) all) (sym o) (to_both s (transfers_done call recording) all h r.compared);
  }

  -- after a frame
  ended_frame : (frame : List ℕ) (recording : List Recorded) (all : List Transferred) → Ended recording all → Ended (and_frame stamp Server frame recording) all
  ended_frame frame recording all r =
      let k : Loses call (transfers_done call recording) (seen_of call (and_frame stamp Server frame recording)) =
      subst (Loses call (transfers_done call recording)) (sym (hears_frame call stamp Server frame recording)) (lost_answer call stamp frame (seen_of call recording) r.lost) in
      record { lost = k.lost; compared = subst (λ xs. R xs all) (sym k.same) r.compared }

  over_frame : (frame : List ℕ) (events : List Event) (recording : List Recorded) (all : List Transferred) (s : ClientState) → over s ≡ true → outcome call events ≡ s → Related events recording all
      → Related (Answered frame ∷ events) (and_messages stamp (asked_by call events (Answered frame)) (and_frame stamp Server frame recording))
      (reports events (Answered frame) (and_messages stamp (asked_by call events (Answered frame)) (and_frame stamp Server frame recording)) ++ all)
  over_frame frame events recording all s h o r =
      let n = is_over events (Answered frame) s h o in
      let longer = and_messages stamp (asked_by call events (Answered frame)) (and_frame stamp Server frame recording) in
      let e : Ended longer all = subst (λ m. Ended (and_messages stamp m (and_frame stamp Server frame recording)) all) (sym n.messages) (ended_frame frame recording all (ended events recording all s h o r)) in
      subst (λ xs. Related (Answered frame ∷ events) longer (xs ++ all)) (sym (n.none longer)) (still_ended (Answered frame ∷ events) longer all s h n.state e)

  over_tick : (events : List Event) (recording : List Recorded) (all : List Transferred) (s : ClientState) → over s ≡ true → outcome call events ≡ s → Related events recording all
      → Related (Ticked ∷ events) (and_messages stamp (asked_by call events Ticked) recording) (reports events Ticked (and_messages stamp (asked_by call events Ticked) recording) ++ all)
  over_tick events recording all s h o r =
      let n = is_over events Ticked s h o in
      let longer = and_messages stamp (asked_by call events Ticked) recording in
      let e : Ended longer all = subst (λ m. Ended (and_messages stamp m recording) all) (sym n.messages) (ended events recording all s h o r) in
      subst (λ xs. Related (Ticked ∷ events) longer (xs ++ all)) (sym (n.none longer)) (still_ended (Ticked ∷ events) longer all s h n.state e)

  -- ---- a frame while it waits

  sync_any : (frame : List ℕ) (s : Option Answers) (heard_so : Bool) (current : Option Transfer) (got : List ℕ) (done : List Transferred) (count : ℕ) → done ≡ [] → IfSome current (λ t. t.taken ≡ digest_of got)
      → SyncIn Loose call current got (stage_since call s) (held_since call s) (newest_of s)
      → Loose ⊎ IfSome (open_sub_block call.mode call.job s) (λ frames. goes_up (newest_number frames) frame ≡ true) → Made Loose call ok.job stamp frame s (holds heard_so current got done count) (stage_since call s) (held_since call s)
  sync_any frame s heard_so None got done count d kept h up = absurd h
  sync_any frame s heard_so (Some t) got done count d kept h up =
      subst (λ x. Made Loose call ok.job stamp frame s (holds heard_so (Some t) got x count) (stage_since call s) (held_since call s)) (sym d)
      (sync_made Loose call ok.job stamp frame s heard_so t got count (stage_since call s) (held_since call s) h kept refl refl up)

  waiting_frame : (frame : List ℕ) (events : List Event) (recording : List Recorded) (all : List Transferred) → outcome call events ≡ Waiting → Related events recording all
      → Loose ⊎ IfSome (open_sub_block call.mode call.job (since_first (answers events))) (λ frames. goes_up (newest_number frames) frame ≡ true)
      → Related (Answered frame ∷ events) (and_messages stamp (asked_by call events (Answered frame)) (and_frame stamp Server frame recording))
      (reports events (Answered frame) (and_messages stamp (asked_by call events (Answered frame)) (and_frame stamp Server frame recording)) ++ all)
  waiting_frame frame events recording all o r up =
      let s = since_first (answers events) in
      let v = seen_of call recording in
      let x = verdict call events (Answered frame) in
      let longer = and_messages stamp (asked_by call events (Answered frame)) (and_frame stamp Server frame recording) in
      let n = is_next events (Answered frame) x o refl in
      let follows : FollowsBy Loose call Waiting (following_after recording).transfer (data_after recording) (stage_after call events) (held_after call events) (newest_of s) =
      subst (λ y. FollowsBy Loose call y (following_after recording).transfer (data_after recording) (stage_after call events) (held_after call events) (newest_of s)) o r.follows in
      let both : Both Waiting (transfers_done call recording) all = subst (λ y. Both y (transfers_done call recording) all) o r.both in
      let kept = kept_of (following_after recording).transfer (data_after recording) (open_after recording) in
      let made : Made Loose call ok.job stamp frame s v (stage_after call events) (held_after call events) =
      elim follows [
        | inl l ↦ lost_made Loose call ok.job stamp frame s v (stage_after call events) (held_after call events) both.0 refl l
        | inr h ↦ sync_any frame s v.following.heard v.following.transfer v.got v.done v.count both.0 kept h up
      ] in
      let is : seen_of call longer ≡ says call stamp (messages_by call x) (hears call stamp Server frame v) =
      says_all call stamp (asked_by call events (Answered frame)) (and_frame stamp Server frame recording)
      ∙ ap (says call stamp (asked_by call events (Answered frame))) (hears_frame call stamp Server frame recording)
      ∙ ap (λ m. says call stamp m (hears call stamp Server frame v)) n.messages in
      let stage = frame_stage call (stage_after call events) frame in
      let held = frame_held (stage_after call events) (held_after call events) frame in
      by_verdict events (Answered frame) x longer all stage held (newest_of (since_first (answers (Answered frame ∷ events)))) o both.1 n (λ g. next_is call s frame g) refl
      (subst (Steps Loose call x stage held (newest_of (since_first (answers (Answered frame ∷ events))))) (sym is) made)

  waiting_tick : (events : List Event) (recording : List Recorded) (all : List Transferred) → outcome call events ≡ Waiting → Related events recording all
      → Related (Ticked ∷ events) (and_messages stamp (asked_by call events Ticked) recording) (reports events Ticked (and_messages stamp (asked_by call events Ticked) recording) ++ all)
  waiting_tick events recording all o r = by (is_time_over call.time (Ticked ∷ events)) refl
    where
      follows : FollowsBy Loose call Waiting (following_after recording).transfer (data_after recording) (stage_after call events) (held_after call events) (newest_of (since_first (answers events)))
      follows = subst (λ y. FollowsBy Loose call y (following_after recording).transfer (data_after recording) (stage_after call events) (held_after call events) (newest_of (since_first (answers events)))) o r.follows

      both : Both Waiting (transfers_done call recording) all
      both = subst (λ y. Both y (transfers_done call recording) all) o r.both

      longer : List Recorded
      longer = and_messages stamp (asked_by call events Ticked) recording

      is : (v : Verdict) → IsNext events Ticked v → seen_of call longer ≡ says call stamp (messages_by call v) (seen_of call recording)
      is v n = says_all call stamp (asked_by call events Ticked) recording ∙ ap (λ m. says call stamp m (seen_of call recording)) n.messages

      steps : (v : Verdict) → IsNext events Ticked v → Steps Loose call v (stage_after call events) (held_after call events) (newest_of (since_first (answers events))) (says call stamp (messages_by call v) (seen_of call recording))
          → Related (Ticked ∷ events) longer (reports events Ticked longer ++ all)
      steps v n s =
          by_verdict events Ticked v longer all (stage_after call events) (held_after call events) (newest_of (since_first (answers events))) o both.1 n (λ g. (refl, refl)) refl
          (subst (Steps Loose call v (stage_after call events) (held_after call events) (newest_of (since_first (answers events)))) (sym (is v n)) s)

      by : (late : Bool) → is_time_over call.time (Ticked ∷ events) ≡ late → Related (Ticked ∷ events) longer (reports events Ticked longer ++ all)
      by true e =
          let c = client_closes call stamp call.key timed_out (seen_of call recording) in
          steps (GivesUp timed_out) (is_next events Ticked (GivesUp timed_out) o (rw e refl)) (record { follows = rw c.none tt; reads = c.same ∙ both.0 })
      by false e = steps (GoesOn []) (is_next events Ticked (GoesOn []) o (rw e refl)) (record { follows = follows; reads = both.0 })

  -- ---- a frame that hasn't eight bytes

  same_state : (s : ClientState) (x : Transferred) → reported s s x ≡ []
  same_state Waiting x = refl
  same_state Done x = refl
  same_state (Failed code) x = refl

  spoils_any : (frame : List ℕ) (n : (length frame == 8) ≡ false) (l : Loose) (events : List Event) (heard_so : Bool) (current : Option Transfer) (got : List ℕ) (done : List Transferred) (count : ℕ) → done ≡ [] → StaysOpen current got
      → SyncIn Loose call current got (stage_after call events) (held_after call events) (newest_of (since_first (answers events)))
      → Spoils Loose call stamp frame n l (stage_after call events) (held_after call events) (newest_of (since_first (answers events))) (hears call stamp Server frame (holds heard_so current got done count))
  spoils_any frame n l events heard_so None got done count d u h = absurd h
  spoils_any frame n l events heard_so (Some t) got done count d u h =
      subst (λ x. Spoils Loose call stamp frame n l (stage_after call events) (held_after call events) (newest_of (since_first (answers events))) (hears call stamp Server frame (holds heard_so (Some t) got x count))) (sym d)
      (short_sync Loose call stamp frame n l heard_so t got count (stage_after call events) (held_after call events) (newest_of (since_first (answers events))) u.unconfirmed h)

  waiting_short : (frame : List ℕ) (n : (length frame == 8) ≡ false) (l : Loose) (events : List Event) (recording : List Recorded) (all : List Transferred) → outcome call events ≡ Waiting → Related events recording all
      → Related events (and_frame stamp Server frame recording) all
  waiting_short frame n l events recording all o r =
      let v = seen_of call recording in
      let longer = and_frame stamp Server frame recording in
      let newest = newest_of (since_first (answers events)) in
      let follows : FollowsBy Loose call Waiting (following_after recording).transfer (data_after recording) (stage_after call events) (held_after call events) newest =
      subst (λ y. FollowsBy Loose call y (following_after recording).transfer (data_after recording) (stage_after call events) (held_after call events) newest) o r.follows in
      let both : Both Waiting (transfers_done call recording) all = subst (λ y. Both y (transfers_done call recording) all) o r.both in
      let P = Spoils Loose call stamp frame n l (stage_after call events) (held_after call events) newest in
      let made : P (hears call stamp Server frame v) =
      elim follows [
        | inl h ↦ short_lost Loose call stamp frame n l v (stage_after call events) (held_after call events) newest both.0 h
        | inr h ↦ spoils_any frame n l events v.following.heard v.following.transfer v.got v.done v.count both.0 (open_after recording) h
      ] in
      let k : P (seen_of call longer) = subst P (sym (hears_frame call stamp Server frame recording)) made in
      record {
        follows = subst (λ y. FollowsBy Loose call y (following_after longer).transfer (data_after longer) (stage_after call events) (held_after call events) newest) (sym o) k.goes;
        both = subst (λ y. Both y (transfers_done call longer) all) (sym o) (k.same, both.1);
      }

  with_short : (frame : List ℕ) → (length frame == 8) ≡ false → (events : List Event) (recording : List Recorded) (all : List Transferred) → Loose ⊎ (outcome call events ≡ Waiting → length frame ≡ 8) → Related events recording all
      → (s : ClientState) → outcome call events ≡ s → Related events (and_frame stamp Server frame recording) all
  with_short frame n events recording all (inl l) r Waiting o = waiting_short frame n l events recording all o r
  with_short frame n events recording all (inr eight) r Waiting o = absurd (false≢true (sym n ∙ is_eight (length frame) (eight o)))
  with_short frame n events recording all whole r Done o = still_ended events (and_frame stamp Server frame recording) all Done refl o (ended_frame frame recording all (ended events recording all Done refl o r))
  with_short frame n events recording all whole r (Failed code) o =
      still_ended events (and_frame stamp Server frame recording) all (Failed code) refl o (ended_frame frame recording all (ended events recording all (Failed code) refl o r))

  -- ---- all inputs

  -- whole frames, with numbers that go up
  abbrev IsWhole : List Event → List ℕ → Type 0
  IsWhole events frame = outcome call events ≡ Waiting → (length frame ≡ 8) × IfSome (open_sub_block call.mode call.job (since_first (answers events))) (λ frames. goes_up (newest_number frames) frame ≡ true)

  with_long : (frame : List ℕ) (events : List Event) (recording : List Recorded) (all : List Transferred) → Loose ⊎ IsWhole events frame → Related events recording all → (s : ClientState) → outcome call events ≡ s
      → Related (Answered frame ∷ events) (and_messages stamp (asked_by call events (Answered frame)) (and_frame stamp Server frame recording))
      (reports events (Answered frame) (and_messages stamp (asked_by call events (Answered frame)) (and_frame stamp Server frame recording)) ++ all)
  with_long frame events recording all (inl l) r Waiting o = waiting_frame frame events recording all o r (inl l)
  with_long frame events recording all (inr h) r Waiting o = waiting_frame frame events recording all o r (inr (h o).1)
  with_long frame events recording all h r Done o = over_frame frame events recording all Done refl o r
  with_long frame events recording all h r (Failed code) o = over_frame frame events recording all (Failed code) refl o r

  with_frame : (frame : List ℕ) (events : List Event) (recording : List Recorded) (all : List Transferred) → Loose ⊎ IsWhole events frame → Related events recording all → (long : Bool) → (length frame == 8) ≡ long
      → (let more = if long then Answered frame ∷ events else events in
      let longer = and_messages stamp (if long then asked_by call events (Answered frame) else []) (and_frame stamp Server frame recording) in
      Related more longer
      (reported (outcome call events) (outcome call more) (record { frame = length longer; direction = direction_of call.job; key = call.key; bytes = bytes_transferred call.job (result call more) }) ++ all))
  with_frame frame events recording all h r true e = with_long frame events recording all h r (outcome call events) refl
  with_frame frame events recording all h r false e =
      let longer = and_frame stamp Server frame recording in
      subst (λ xs. Related events longer (xs ++ all)) (sym (same_state (outcome call events) (record { frame = length longer; direction = direction_of call.job; key = call.key; bytes = bytes_transferred call.job (result call events) })))
      (with_short frame e events recording all (elim h [ inl l ↦ inl l | inr w ↦ inr (λ o. (w o).0) ]) r (outcome call events) refl)

  with_tick : (events : List Event) (recording : List Recorded) (all : List Transferred) → Related events recording all → (s : ClientState) → outcome call events ≡ s
      → Related (Ticked ∷ events) (and_messages stamp (asked_by call events Ticked) recording) (reports events Ticked (and_messages stamp (asked_by call events Ticked) recording) ++ all)
  with_tick events recording all r Waiting o = waiting_tick events recording all o r
  with_tick events recording all r Done o = over_tick events recording all Done refl o r
  with_tick events recording all r (Failed code) o = over_tick events recording all (Failed code) refl o r

  frame_whole : (frame : List ℕ) (older : List ClientInput) → Loose ⊎ AreRegular call (Came frame ∷ older) → Loose ⊎ IsWhole (events_of older) frame
  frame_whole frame older (inl l) = inl l
  frame_whole frame older (inr h) = inr h.0

  older_whole : (input : ClientInput) (older : List ClientInput) → Loose ⊎ AreRegular call (input ∷ older) → Loose ⊎ AreRegular call older
  older_whole input older (inl l) = inl l
  older_whole input older (inr h) = inr h.1

  begun : Related [] (heard stamp call []) []
  begun =
      let b = begins Loose stamp call ok in
      let is : seen_of call (heard stamp call []) ≡ says call stamp (initiate_messages call) nothing = says_all call stamp (initiate_messages call) [] in
      let k = subst (Begins Loose call) (sym is) b in
      record { follows = inr k.sync; both = (k.none, refl) }

  all_related : (inputs : List ClientInput) → Loose ⊎ AreRegular call inputs → Related (events_of inputs) (heard stamp call inputs) (transfers_reported stamp call inputs)
  all_related [] h = begun
  all_related (Came frame ∷ older) h =
      with_frame frame (events_of older) (heard stamp call older) (transfers_reported stamp call older) (frame_whole frame older h) (all_related older (older_whole (Came frame) older h)) (length frame == 8) refl
  all_related (Elapsed ∷ older) h =
      with_tick (events_of older) (heard stamp call older) (transfers_reported stamp call older) (all_related older (older_whole Elapsed older h)) (outcome call (events_of older)) refl

  compared : (inputs : List ClientInput) → (s : ClientState) → outcome call (events_of inputs) ≡ s → Related (events_of inputs) (heard stamp call inputs) (transfers_reported stamp call inputs)
      → R (transfers_done call (heard stamp call inputs)) (transfers_reported stamp call inputs)
  compared inputs Waiting o r =
      let both : Both Waiting (transfers_done call (heard stamp call inputs)) (transfers_reported stamp call inputs) = subst (λ x. Both x (transfers_done call (heard stamp call inputs)) (transfers_reported stamp call inputs)) o r.both in
      subst (λ xs. R xs (transfers_reported stamp call inputs)) (sym both.0) (subst (λ xs. R [] xs) (sym both.1) compares.none)
  compared inputs Done o r = (ended (events_of inputs) (heard stamp call inputs) (transfers_reported stamp call inputs) Done refl o r).compared
  compared inputs (Failed code) o r = (ended (events_of inputs) (heard stamp call inputs) (transfers_reported stamp call inputs) (Failed code) refl o r).compared

pub some_are_reported : (stamp : ℕ → ℕ) (call : Call) (inputs : List ClientInput) → IsCall call → AreSome (transfers_done call (heard stamp call inputs)) (transfers_reported stamp call inputs)
some_are_reported stamp call inputs ok =
    compared (Unit {0}) (λ said all. AreSome said all) some_compare call ok stamp inputs (outcome call (events_of inputs)) refl (all_related (Unit {0}) (λ said all. AreSome said all) some_compare call ok stamp inputs (inl tt))

pub all_are_reported : (stamp : ℕ → ℕ) (call : Call) (inputs : List ClientInput) → IsCall call → AreRegular call inputs → transfers_done call (heard stamp call inputs) ≡ transfers_reported stamp call inputs
all_are_reported stamp call inputs ok h =
    compared ⊥ (λ said all. said ≡ all) same_compare call ok stamp inputs (outcome call (events_of inputs)) refl (all_related ⊥ (λ said all. said ≡ all) same_compare call ok stamp inputs (inr h))
