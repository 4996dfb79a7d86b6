-- The uploads that explain says are done are some of those that the channel serves whole: over all inputs.
use Rattle.std.proofs.Common.{◌≡◌, ℕ, suc, Bool, true, false, List, [], ◌∷◌, ◌++◌, length, Option, Some, None, refl, sym, ap, inl, inr, subst}
use Rattle.std.specs.Prelude.{if◌then◌else◌, IfSome, ◌==◌}
use Rattle.std.proofs.lemmas.Bool.{eqb-true}
use Rattle.co_value.specs.Numbers.{AreBytes}
use Rattle.co_frame.specs.SdoRequests.{request_in}
use Rattle.co_dict.specs.Rows.{Contents}
use Rattle.co_dict.specs.Stores.{Description, IsDictionary}
use Rattle.co_sdo.specs.Log.{Log, Exchanged, TimedOut, Dropped}
use Rattle.co_sdo.specs.Opened.{OpenTransfer, opened_after}
use Rattle.co_sdo.specs.OpenTransfers.{since_initiate}
use Rattle.co_sdo.specs.Replies.{reply_to, answers_to, open_key, time_out_reply}
use Rattle.co_sdo.specs.Steps.{opened_next}
use Rattle.co_sdo_laws.proofs.Channel.{Serves, serves_first, served, serves_ticked, ended}
use Rattle.conode_explain_transfers.specs.declared.kinds.Side.TheVariants.{Client}
use Rattle.conode_explain_transfers.specs.declared.transfer.Transfer.{Transfer}
use Rattle.conode_explain_transfers.specs.Data.{data_after}
use Rattle.conode_explain_transfers.specs.Digests.{digest_of}
use Rattle.conode_explain_transfers.specs.Followed.{Event, following_after}
use Rattle.conode_explain_transfers.specs.Stages.{confirmed_with}
use Rattle.conode_explain_transfers.proofs.DataLemmas.{open_after}
use Rattle.conode_explain_laws.specs.Recordings.{Input, Received, Elapsed, Expired, Abandoned, Started, AreInputs, log_of, and_frame, and_answers, recorded}
use Rattle.conode_explain_laws.specs.Downloads.{Complete, AreSome}
use Rattle.conode_explain_laws.specs.Uploads.{Read, answered_whole, acknowledged_whole, ended_by, read_served, uploads_done, uploads_served}
use Rattle.conode_explain_laws.proofs.Readings.{Nothing}
use Rattle.conode_explain_laws.proofs.AllInputs.{short_reading, dropped_since}
use Rattle.conode_explain_laws.proofs.AllExact.{kept_of}
use Rattle.conode_explain_laws.proofs.Views.{Closes}
use Rattle.conode_explain_laws.proofs.UploadViews.{view_of, holds, read_as, hears_answers, hears_frame, hears_all, IsAside, KnowsAside, aside_turn, aborted_closes}
use Rattle.conode_explain_laws.proofs.UploadSteps.{acknowledged_next, answered_next, completes, ticked_whole, dropped_whole}
use Rattle.conode_explain_laws.proofs.UploadFaults.{begun_within, blocks_within, upload_within}
use Rattle.conode_explain_laws.proofs.UploadStanding.{aside, asked, gone, segmented, begun, blocks, at_end, FollowsIn, Ends}
use Rattle.conode_explain_laws.proofs.UploadExchanges.{exchange}

-- ---- lists

some_more : (more some all : List Complete) → AreSome some all → AreSome some (more ++ all)
some_more [] some all h = h
some_more (x ∷ more) [] all h = tt
some_more (x ∷ more) (one ∷ others) all h = inr (some_more more (one ∷ others) all h)

both_more : (more some all : List Complete) → AreSome some all → AreSome (more ++ some) (more ++ all)
both_more [] some all h = h
both_more (x ∷ more) some all h = inl (refl, both_more more some all h)

-- ---- a frame that hasn't eight bytes

short_reads : (Loose : Type 0) (micros : ℕ) (frame : List ℕ) (heard : Bool) (held : Option Transfer) (got : List ℕ) (done : List Complete) (count : ℕ) → Loose
    → KnowsAside Loose done (read_as micros Client frame (holds heard held got done count) Nothing)
short_reads Loose micros frame heard None got done count l = record { holds = tt; same = refl }
short_reads Loose micros frame heard (Some t) got done count l = aside_turn Loose micros Client frame heard t got done count Nothing (inl (l, refl))

-- ---- what holds after all inputs

-- a transfer that is dropped
pub drops : (Loose : Type 0) (held : Option Transfer) (got : List ℕ) (current : Option OpenTransfer) (ended : Option Read) → IfSome held (λ t. t.taken ≡ digest_of got) → FollowsIn Loose held got current ended
    → FollowsIn Loose held got None ended
drops Loose None got current ended kept (inl l) = inl l
drops Loose None got current ended kept (inr h) = inr (record { none = refl; no_end = h.no_end })
drops Loose (Some t) got current ended kept (aside a (inl l)) = aside a (inl l)
drops Loose (Some t) got current ended kept (aside a (inr h)) = aside a (inr (record { none = refl; no_end = h.no_end }))
drops Loose (Some t) got current ended kept (asked l a) = asked l a
drops Loose (Some t) got current ended kept (gone a c e) = gone a refl e
drops Loose (Some t) got current ended kept (segmented sent bytes a g c e) = gone (record { direction = a.direction; unconfirmed = ap confirmed_with a.stage; unended = rw a.stage refl; sending = rw a.stage refl; within = upload_within t got bytes sent a g kept }) refl e
drops Loose (Some t) got current ended kept (begun block_size bytes a g c e) = gone (record { direction = a.is.direction; unconfirmed = ap confirmed_with a.stage; unended = rw a.stage refl; sending = rw a.stage refl; within = begun_within t got bytes block_size a g kept }) refl e
drops Loose (Some t) got current ended kept (blocks position sent bytes a c e) = gone (record { direction = a.is.direction; unconfirmed = ap confirmed_with a.stage; unended = rw a.stage refl; sending = rw a.stage refl; within = blocks_within t got bytes position sent a kept }) refl e
drops Loose (Some t) got current ended kept (at_end crc bytes a g c e) = at_end crc bytes a g (inl refl) e

-- some uploads may be left out
abbrev Loose : Type 0
Loose = Unit {0}

module _ (stamp : ℕ → ℕ) (d : Description) where
  record Related (log : Log) (recording : List Event) (whole : List Complete) : Type 0 where
    current : Option OpenTransfer
    serves : Serves d.rows log current
    follows : FollowsIn Loose (following_after recording).transfer (data_after recording) current (acknowledged_whole log)
    related : AreSome (uploads_done recording) whole

  -- a request of eight bytes
  with_request : (contents : Contents) (frame : List ℕ) (log : Log) (recording : List Event) (whole : List Complete) → Related log recording whole
      → IsDictionary d contents → AreBytes frame → length frame ≡ 8
      → Related (Exchanged (record { request = frame; contents = contents; answers = reply_to d contents log frame }) ∷ log)
      (and_answers stamp (reply_to d contents log frame) (and_frame stamp Client frame recording))
      (read_served (answered_whole (reply_to d contents log frame) (Exchanged (record { request = frame; contents = contents; answers = reply_to d contents log frame }) ∷ log))
      (length (and_answers stamp (reply_to d contents log frame) (and_frame stamp Client frame recording)))
      ++ (read_served (ended_by (request_in frame) (acknowledged_whole log)) (suc (length recording)) ++ whole))
  with_request contents frame log recording whole h lawful small n =
      let one = served d contents log h.current frame h.serves lawful n in
      let made = completes d contents log h.current frame h.serves.opens in
      let answers = reply_to d contents log frame in
      let longer = and_answers stamp answers (and_frame stamp Client frame recording) in
      let next = opened_next d contents h.current frame in
      let ended = read_served (ended_by (request_in frame) (acknowledged_whole log)) (suc (length recording)) in
      let answered = read_served (answered_next d contents h.current frame) (length longer) in
      let kept = kept_of (following_after recording).transfer (data_after recording) (open_after recording) in
      let P = Ends Loose next (acknowledged_next h.current frame) (answered_next d contents h.current frame) (ended ++ uploads_done recording) (uploads_done recording) in
      let step : P (view_of longer) =
      subst P (sym (hears_all stamp answers (and_frame stamp Client frame recording)))
      (subst (λ a. P (hears_answers stamp a (view_of (and_frame stamp Client frame recording)))) (sym one.replies)
      (subst (λ v. P (hears_answers stamp (answers_to d contents h.current frame) v)) (sym (hears_frame stamp Client frame recording))
      (exchange Loose d contents stamp frame h.current (acknowledged_whole log) (view_of recording) small lawful h.follows kept (inl tt)))) in
      record {
        current = next;
        serves = one.next;
        follows = subst (FollowsIn Loose (following_after longer).transfer (data_after longer) next) (sym made.acknowledged) step.follows;
        related = subst (λ x. AreSome (uploads_done longer) (read_served x (length longer) ++ (ended ++ whole))) (sym made.answered)
            (elim step.reads [
              | inl r ↦ subst (λ w. AreSome w (answered ++ (ended ++ whole))) (sym r.1)
                  (some_more answered (uploads_done recording) (ended ++ whole) (some_more ended (uploads_done recording) whole h.related))
              | inr e ↦ subst (λ w. AreSome w (answered ++ (ended ++ whole))) (sym e)
                  (both_more answered (ended ++ uploads_done recording) (ended ++ whole) (both_more ended (uploads_done recording) whole h.related))
            ]);
      }

  aside_all : (held : Option Transfer) (got : List ℕ) (current : Option OpenTransfer) (ended : Option Read) → IfSome held (IsAside Loose) → FollowsIn Loose held got current ended
  aside_all None got current ended h = inl tt
  aside_all (Some t) got current ended h = aside h (inl tt)

  -- a frame of another length
  with_short : (frame : List ℕ) (log : Log) (recording : List Event) (whole : List Complete) → Related log recording whole → (length frame == 8) ≡ false
      → (one other : List Complete) → Related log (and_frame stamp Client frame recording) (one ++ (other ++ whole))
  with_short frame log recording whole h n one other =
      let v = view_of recording in
      let k : KnowsAside Loose (uploads_done recording) (view_of (and_frame stamp Client frame recording)) =
      subst (KnowsAside Loose (uploads_done recording)) (sym (hears_frame stamp Client frame recording))
      (subst (λ reading. KnowsAside Loose (uploads_done recording) (read_as (stamp v.count) Client frame v reading)) (sym (short_reading v.following.transfer (stamp v.count) frame n))
      (short_reads Loose (stamp v.count) frame v.following.heard v.following.transfer v.got v.done v.count tt)) in
      record {
        current = h.current;
        serves = h.serves;
        follows = aside_all _ _ h.current _ k.holds;
        related = subst (λ w. AreSome w (one ++ (other ++ whole))) (sym k.same)
            (some_more one (uploads_done recording) (other ++ whole) (some_more other (uploads_done recording) whole h.related));
      }

  with_frame : (contents : Contents) (frame : List ℕ) (older : List Input) → Related (log_of d older) (recorded stamp d older) (uploads_served stamp d older)
      → IsDictionary d contents → AreBytes frame
      → Related (log_of d (Received contents frame ∷ older)) (recorded stamp d (Received contents frame ∷ older)) (uploads_served stamp d (Received contents frame ∷ older))
  with_frame contents frame older h lawful small = by (length frame == 8) refl
    where
      by : (long : Bool) → (length frame == 8) ≡ long
          → Related
          (if long then Exchanged (record { request = frame; contents = contents; answers = reply_to d contents (log_of d older) frame }) ∷ log_of d older else log_of d older)
          (and_answers stamp (if long then reply_to d contents (log_of d older) frame else []) (and_frame stamp Client frame (recorded stamp d older)))
          (read_served (answered_whole (if long then reply_to d contents (log_of d older) frame else [])
          (if long then Exchanged (record { request = frame; contents = contents; answers = reply_to d contents (log_of d older) frame }) ∷ log_of d older else log_of d older))
          (length (and_answers stamp (if long then reply_to d contents (log_of d older) frame else []) (and_frame stamp Client frame (recorded stamp d older))))
          ++ (read_served (ended_by (request_in frame) (acknowledged_whole (log_of d older))) (suc (length (recorded stamp d older)))
          ++ uploads_served stamp d older))
      by true e = with_request contents frame (log_of d older) (recorded stamp d older) (uploads_served stamp d older) h lawful small (eqb-true (length frame) 8 e)
      by false e = with_short frame (log_of d older) (recorded stamp d older) (uploads_served stamp d older) h e
          (read_served (answered_whole [] (log_of d older)) (length (and_frame stamp Client frame (recorded stamp d older))))
          (read_served (ended_by (request_in frame) (acknowledged_whole (log_of d older))) (suc (length (recorded stamp d older))))

  -- a transfer that times out
  with_abort : (log : Log) (recording : List Event) (whole : List Complete) → Related log recording whole
      → Related (TimedOut (time_out_reply log) ∷ log) (and_answers stamp (time_out_reply log) recording) whole
  with_abort log recording whole h =
      let c = aborted_closes stamp (open_key (opened_after log)) 0x05040000 (view_of recording) in
      let k : Closes (uploads_done recording) (view_of (and_answers stamp (time_out_reply log) recording)) =
      subst (Closes (uploads_done recording)) (sym (hears_all stamp (time_out_reply log) recording)) c in
      record {
        current = None;
        serves = serves_first d.rows (TimedOut (time_out_reply log) ∷ log) (ended log (time_out_reply log));
        follows = rw k.none (inr (record { none = refl; no_end = refl }));
        related = subst (λ w. AreSome w whole) (sym k.same) h.related;
      }

  all_related : (inputs : List Input) → AreInputs d inputs → Related (log_of d inputs) (recorded stamp d inputs) (uploads_served stamp d inputs)
  all_related [] h = record { current = None; serves = serves_first d.rows [] refl; follows = inr (record { none = refl; no_end = refl }); related = tt }
  all_related (Received contents frame ∷ older) h = with_frame contents frame older (all_related older h.1) h.0.0 h.0.1
  all_related (Elapsed ∷ older) h =
      let r = all_related older h.1 in
      record {
        current = r.current;
        serves = serves_ticked d.rows (log_of d older) r.current r.serves;
        follows = subst (FollowsIn Loose (following_after (recorded stamp d older)).transfer (data_after (recorded stamp d older)) r.current) (sym (ticked_whole (log_of d older))) r.follows;
        related = r.related;
      }
  all_related (Expired ∷ older) h = with_abort (log_of d older) (recorded stamp d older) (uploads_served stamp d older) (all_related older h.1)
  all_related (Abandoned ∷ older) h =
      let r = all_related older h.1 in
      record {
        current = None;
        serves = serves_first d.rows (Dropped ∷ log_of d older) (dropped_since (since_initiate (log_of d older)));
        follows = subst (FollowsIn Loose (following_after (recorded stamp d older)).transfer (data_after (recorded stamp d older)) None) (sym (dropped_whole (log_of d older)))
            (drops Loose (following_after (recorded stamp d older)).transfer (data_after (recorded stamp d older)) r.current (acknowledged_whole (log_of d older))
            (kept_of (following_after (recorded stamp d older)).transfer (data_after (recorded stamp d older)) (open_after (recorded stamp d older))) r.follows);
        related = r.related;
      }
  all_related (Started ∷ older) h =
      let r = all_related older h.1 in
      record { current = None; serves = serves_first d.rows [] refl; follows = inr (record { none = refl; no_end = refl }); related = r.related }

pub some_are_served : (stamp : ℕ → ℕ) (d : Description) (inputs : List Input) → AreInputs d inputs → AreSome (uploads_done (recorded stamp d inputs)) (uploads_served stamp d inputs)
some_are_served stamp d inputs h = (all_related stamp d inputs h).related
