-- The downloads that explain says are done are some of those that the channel sets: over all inputs.
use Rattle.std.proofs.Common.{◌≡◌, ℕ, Bool, true, false, List, [], ◌∷◌, ◌++◌, length, Option, Some, None, refl, sym, inl, inr, subst}
use Rattle.std.specs.Prelude.{if◌then◌else◌, IfSome, ◌==◌}
use Rattle.std.proofs.lemmas.Bool.{eqb-true}
use Rattle.co_value.specs.Numbers.{AreBytes}
use Rattle.co_dict.specs.Rows.{Rows, Contents}
use Rattle.co_dict.specs.Stores.{Description, IsDictionary}
use Rattle.co_sdo.specs.Log.{Log, Exchanged, TimedOut, Dropped}
use Rattle.co_sdo.specs.Downloads.{Download as Whole}
use Rattle.co_sdo.specs.Opened.{OpenTransfer, opened_after}
use Rattle.co_sdo.specs.OpenTransfers.{Since, open_since, and_event, since_initiate}
use Rattle.co_sdo.specs.Replies.{reply_to, answers_to, open_key, time_out_reply}
use Rattle.co_sdo.specs.Completed.{set_by}
use Rattle.co_sdo.specs.Steps.{opened_next, set_next}
use Rattle.co_sdo_laws.proofs.Channel.{Serves, serves_first, served, serves_ticked, ended}
use Rattle.conode_explain_transfers.specs.declared.kinds.Side.TheVariants.{Client}
use Rattle.conode_explain_transfers.specs.declared.transfer.Transfer.{Transfer}
use Rattle.conode_explain_transfers.specs.Followed.{Event}
use Rattle.conode_explain_transfers.specs.Readings.{awaits_segment}
use Rattle.conode_explain_laws.specs.Recordings.{Input, Received, Elapsed, Expired, Abandoned, Started, AreInputs, log_of, and_frame, and_answers, recorded}
use Rattle.conode_explain_laws.specs.Downloads.{Complete, downloads_done, write_set, downloads_set, AreSome}
use Rattle.conode_explain_laws.proofs.Readings.{Nothing, reading_of}
use Rattle.conode_explain_laws.proofs.Views.{view_of, read_as, hears_answers, hears_frame, hears_all, Closes, IsAside, KnowsAside, aside_turn, aborted_closes}
use Rattle.conode_explain_laws.proofs.Follows.{Follows, aside, asked, gone, segmented, blocks, all_sent, in_segments, in_blocks, are_sent, Ends}
use Rattle.conode_explain_laws.proofs.Exchanges.{Following, exchange}

-- ---- lists

some_more : (x : Option Whole) (n : ℕ) (writes all : List Complete) → AreSome writes all → AreSome writes (write_set x n ++ all)
some_more None n writes all h = h
some_more (Some x) n [] all h = tt
some_more (Some x) n (write ∷ others) all h = inr h

both_more : (x : Option Whole) (n : ℕ) (writes all : List Complete) → AreSome writes all → AreSome (write_set x n ++ writes) (write_set x n ++ all)
both_more None n writes all h = h
both_more (Some x) n writes all h = inl (refl, h)

-- ---- a frame that hasn't eight bytes

pub short_reading : (held : Option Transfer) (micros : ℕ) (frame : List ℕ) → (length frame == 8) ≡ false → reading_of held Client micros frame ≡ Nothing
short_reading None micros frame h = rw h refl
short_reading (Some t) micros frame h = rw h (by (awaits_segment t Client))
  where
    by : (b : Bool) → (if b then Nothing else Nothing) ≡ Nothing
    by true = refl
    by false = refl

short_reads : (rows : Rows) (micros : ℕ) (frame : List ℕ) (heard : Bool) (held : Option Transfer) (got : List ℕ) (done : List Complete) (count : ℕ)
    → KnowsAside done (read_as rows micros Client frame (record { following = record { heard = heard; transfer = held }; got = got; done = done; count = count }) Nothing)
short_reads rows micros frame heard None got done count = record { holds = tt; same = refl }
short_reads rows micros frame heard (Some t) got done count = aside_turn rows micros Client frame heard t got done count Nothing (inl refl)

-- ---- what holds after all inputs

pub record Related (stamp : ℕ → ℕ) (d : Description) (log : Log) (recording : List Event) (sets : List Complete) : Type 0 where
  pub current : Option OpenTransfer
  pub serves : Serves d.rows log current
  pub follows : Following (view_of d.rows recording) current
  pub some : AreSome (downloads_done d.rows recording) sets

-- a request of eight bytes
with_request : (stamp : ℕ → ℕ) (d : Description) (contents : Contents) (frame : List ℕ) (log : Log) (recording : List Event) (sets : List Complete) → Related stamp d log recording sets
    → IsDictionary d contents → AreBytes frame → length frame ≡ 8
    → Related stamp d (Exchanged (record { request = frame; contents = contents; answers = reply_to d contents log frame }) ∷ log)
    (and_answers stamp (reply_to d contents log frame) (and_frame stamp Client frame recording))
    (write_set (set_by d contents log frame) (length (and_answers stamp (reply_to d contents log frame) (and_frame stamp Client frame recording))) ++ sets)
with_request stamp d contents frame log recording sets h lawful small n =
    let one = served d contents log h.current frame h.serves lawful n in
    let answers = reply_to d contents log frame in
    let longer = and_answers stamp answers (and_frame stamp Client frame recording) in
    let next = opened_next d contents h.current frame in
    let step : Ends next (set_next d contents h.current frame) (downloads_done d.rows recording) (view_of d.rows longer) =
    subst (λ v. Ends next (set_next d contents h.current frame) (downloads_done d.rows recording) v) (sym (hears_all d.rows stamp answers (and_frame stamp Client frame recording)))
    (subst (λ a. Ends next (set_next d contents h.current frame) (downloads_done d.rows recording) (hears_answers d.rows stamp a (view_of d.rows (and_frame stamp Client frame recording))))
    (sym one.replies)
    (subst (λ v. Ends next (set_next d contents h.current frame) (downloads_done d.rows recording) (hears_answers d.rows stamp (answers_to d contents h.current frame) v))
    (sym (hears_frame d.rows stamp Client frame recording))
    (exchange d contents stamp frame h.current (view_of d.rows recording) small h.follows))) in
    record {
      current = next;
      serves = one.next;
      follows = step.follows;
      some = subst (λ x. AreSome (downloads_done d.rows longer) (write_set x (length longer) ++ sets)) (sym one.sets)
          (elim step.writes [
            | inl e ↦ subst (λ w. AreSome w (write_set (set_next d contents h.current frame) (length longer) ++ sets)) (sym e)
                (some_more (set_next d contents h.current frame) (length longer) (downloads_done d.rows recording) sets h.some)
            | inr e ↦ subst (λ w. AreSome w (write_set (set_next d contents h.current frame) (length longer) ++ sets)) (sym e)
                (both_more (set_next d contents h.current frame) (length longer) (downloads_done d.rows recording) sets h.some)
          ]);
    }

aside_all : (held : Option Transfer) (got : List ℕ) (current : Option OpenTransfer) → IfSome held IsAside → IfSome held (λ t. Follows t got current)
aside_all None got current h = tt
aside_all (Some t) got current h = aside h

-- a frame of another length
with_short : (stamp : ℕ → ℕ) (d : Description) (frame : List ℕ) (log : Log) (recording : List Event) (sets : List Complete) → Related stamp d log recording sets → (length frame == 8) ≡ false
    → Related stamp d log (and_frame stamp Client frame recording) sets
with_short stamp d frame log recording sets h n =
    let v = view_of d.rows recording in
    let k : KnowsAside (downloads_done d.rows recording) (view_of d.rows (and_frame stamp Client frame recording)) =
    subst (KnowsAside (downloads_done d.rows recording)) (sym (hears_frame d.rows stamp Client frame recording))
    (subst (λ reading. KnowsAside (downloads_done d.rows recording) (read_as d.rows (stamp v.count) Client frame v reading)) (sym (short_reading v.following.transfer (stamp v.count) frame n))
    (short_reads d.rows (stamp v.count) frame v.following.heard v.following.transfer v.got v.done v.count)) in
    record {
      current = h.current;
      serves = h.serves;
      follows = aside_all _ _ h.current k.holds;
      some = subst (λ w. AreSome w sets) (sym k.same) h.some;
    }

with_frame : (stamp : ℕ → ℕ) (d : Description) (contents : Contents) (frame : List ℕ) (older : List Input) → Related stamp d (log_of d older) (recorded stamp d older) (downloads_set stamp d older)
    → IsDictionary d contents → AreBytes frame
    → Related stamp d (log_of d (Received contents frame ∷ older)) (recorded stamp d (Received contents frame ∷ older)) (downloads_set stamp d (Received contents frame ∷ older))
with_frame stamp d contents frame older h lawful small = by (length frame == 8) refl
  where
    by : (long : Bool) → (length frame == 8) ≡ long
        → Related stamp d
        (if long then Exchanged (record { request = frame; contents = contents; answers = reply_to d contents (log_of d older) frame }) ∷ log_of d older else log_of d older)
        (and_answers stamp (if long then reply_to d contents (log_of d older) frame else []) (and_frame stamp Client frame (recorded stamp d older)))
        (write_set (if long then set_by d contents (log_of d older) frame else None)
        (length (and_answers stamp (if long then reply_to d contents (log_of d older) frame else []) (and_frame stamp Client frame (recorded stamp d older))))
        ++ downloads_set stamp d older)
    by true e = with_request stamp d contents frame (log_of d older) (recorded stamp d older) (downloads_set stamp d older) h lawful small (eqb-true (length frame) 8 e)
    by false e = with_short stamp d frame (log_of d older) (recorded stamp d older) (downloads_set stamp d older) h e

-- a transfer that times out
with_abort : (stamp : ℕ → ℕ) (d : Description) (log : Log) (recording : List Event) (sets : List Complete) → Related stamp d log recording sets
    → Related stamp d (TimedOut (time_out_reply log) ∷ log) (and_answers stamp (time_out_reply log) recording) sets
with_abort stamp d log recording sets h =
    let v = view_of d.rows recording in
    let c = aborted_closes d.rows stamp (open_key (opened_after log)) 0x05040000 v in
    let k : Closes (downloads_done d.rows recording) (view_of d.rows (and_answers stamp (time_out_reply log) recording)) =
    subst (Closes (downloads_done d.rows recording)) (sym (hears_all d.rows stamp (time_out_reply log) recording)) c in
    record {
      current = None;
      serves = serves_first d.rows (TimedOut (time_out_reply log) ∷ log) (ended log (time_out_reply log));
      follows = rw k.none tt;
      some = subst (λ w. AreSome w sets) (sym k.same) h.some;
    }

-- a transfer that is dropped
pub dropped_since : (s : Option Since) → open_since (and_event Dropped s) ≡ None
dropped_since None = refl
dropped_since (Some s) = refl

drops : (held : Option Transfer) (got : List ℕ) (current : Option OpenTransfer) → IfSome held (λ t. Follows t got current) → IfSome held (λ t. Follows t got None)
drops None got current h = tt
drops (Some t) got current (aside a) = aside a
drops (Some t) got current (asked a) = asked a
drops (Some t) got current (gone a c) = gone a refl
drops (Some t) got current (segmented toggle a c) = gone (in_segments t toggle a) refl
drops (Some t) got current (blocks taken size a c) = gone (in_blocks t taken a) refl
drops (Some t) got current (all_sent size a c) = gone (are_sent t a) refl

pub related : (stamp : ℕ → ℕ) (d : Description) (inputs : List Input) → AreInputs d inputs → Related stamp d (log_of d inputs) (recorded stamp d inputs) (downloads_set stamp d inputs)
related stamp d [] h = record { current = None; serves = serves_first d.rows [] refl; follows = tt; some = tt }
related stamp d (Received contents frame ∷ older) h = with_frame stamp d contents frame older (related stamp d older h.1) h.0.0 h.0.1
related stamp d (Elapsed ∷ older) h =
    let r = related stamp d older h.1 in
    record { current = r.current; serves = serves_ticked d.rows (log_of d older) r.current r.serves; follows = r.follows; some = r.some }
related stamp d (Expired ∷ older) h = with_abort stamp d (log_of d older) (recorded stamp d older) (downloads_set stamp d older) (related stamp d older h.1)
related stamp d (Abandoned ∷ older) h =
    let r = related stamp d older h.1 in
    record {
      current = None;
      serves = serves_first d.rows (Dropped ∷ log_of d older) (dropped_since (since_initiate (log_of d older)));
      follows = drops _ _ r.current r.follows;
      some = r.some;
    }
related stamp d (Started ∷ older) h =
    let r = related stamp d older h.1 in
    record { current = None; serves = serves_first d.rows [] refl; follows = tt; some = r.some }

pub some_are_set : (stamp : ℕ → ℕ) (d : Description) (inputs : List Input) → AreInputs d inputs → AreSome (downloads_done d.rows (recorded stamp d inputs)) (downloads_set stamp d inputs)
some_are_set stamp d inputs h = (related stamp d inputs h).some
