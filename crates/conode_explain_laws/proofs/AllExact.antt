-- Where each frame has eight bytes and none begins a block download, both read the client's frames alike: over all inputs.
use Rattle.std.proofs.Common.{◌≡◌, ℕ, Bool, true, false, List, [], ◌∷◌, ◌++◌, length, Option, Some, None, refl, sym, ap, ◌∙◌, subst, arith}
use Rattle.std.specs.Prelude.{if◌then◌else◌, IfSome, ◌==◌}
use Rattle.std.proofs.lemmas.Bool.{false≢true}
use Rattle.std.proofs.lemmas.Bool.Decides.{nat_tests}
use Rattle.co_value.specs.Numbers.{AreBytes}
use Rattle.co_frame.specs.SdoRequests.{request_in}
use Rattle.co_dict.specs.Rows.{Contents}
use Rattle.co_dict.specs.Stores.{Description, IsDictionary}
use Rattle.co_sdo.specs.Log.{Log, Exchanged, TimedOut, Dropped}
use Rattle.co_sdo.specs.Opened.{OpenTransfer, opened_after}
use Rattle.co_sdo.specs.OpenTransfers.{since_initiate}
use Rattle.co_sdo.specs.Replies.{reply_to, answers_to, open_key, time_out_reply}
use Rattle.co_sdo.specs.Completed.{set_by}
use Rattle.co_sdo.specs.Steps.{opened_next, set_next}
use Rattle.co_sdo_laws.proofs.Channel.{Serves, serves_first, served, serves_ticked, ended}
use Rattle.conode_explain_transfers.specs.declared.kinds.Side.TheVariants.{Client}
use Rattle.conode_explain_transfers.specs.declared.transfer.Transfer.{Transfer}
use Rattle.conode_explain_transfers.specs.Data.{data_after}
use Rattle.conode_explain_transfers.specs.Digests.{digest_of}
use Rattle.conode_explain_transfers.specs.Followed.{Event, following_after}
use Rattle.conode_explain_transfers.proofs.DataLemmas.{StaysOpen, open_after}
use Rattle.conode_explain_laws.specs.Recordings.{Input, Received, Elapsed, Expired, Abandoned, Started, AreInputs, log_of, and_frame, and_answers, recorded}
use Rattle.conode_explain_laws.specs.Downloads.{Complete, downloads_done, write_set, is_block_begin, ArePlain, downloads_set}
use Rattle.conode_explain_laws.proofs.Views.{view_of, hears_answers, hears_frame, hears_all, Closes, aborted_closes}
use Rattle.conode_explain_laws.proofs.Exact.{ExactIn, exact_upload, exact_segments, exact_dropped, Exactly, exact_exchange}
use Rattle.conode_explain_laws.proofs.AllInputs.{dropped_since}

-- what holds after all inputs
pub record Same (stamp : ℕ → ℕ) (d : Description) (log : Log) (recording : List Event) (sets : List Complete) : Type 0 where
  pub current : Option OpenTransfer
  pub serves : Serves d.rows log current
  pub holds : ExactIn (following_after recording).transfer (data_after recording) current
  pub same : downloads_done d.rows recording ≡ sets

pub kept_of : (held : Option Transfer) (got : List ℕ) → StaysOpen held got → IfSome held (λ t. t.taken ≡ digest_of got)
kept_of None got h = tt
kept_of (Some t) got h = h.taken

with_request : (stamp : ℕ → ℕ) (d : Description) (contents : Contents) (frame : List ℕ) (log : Log) (recording : List Event) (sets : List Complete) → Same stamp d log recording sets
    → IsDictionary d contents → AreBytes frame → length frame ≡ 8 → is_block_begin (request_in frame) ≡ false
    → Same stamp d (Exchanged (record { request = frame; contents = contents; answers = reply_to d contents log frame }) ∷ log)
    (and_answers stamp (reply_to d contents log frame) (and_frame stamp Client frame recording))
    (write_set (set_by d contents log frame) (length (and_answers stamp (reply_to d contents log frame) (and_frame stamp Client frame recording))) ++ sets)
with_request stamp d contents frame log recording sets h lawful small n plain =
    let one = served d contents log h.current frame h.serves lawful n in
    let answers = reply_to d contents log frame in
    let longer = and_answers stamp answers (and_frame stamp Client frame recording) in
    let next = opened_next d contents h.current frame in
    let set = set_next d contents h.current frame in
    let kept = kept_of (following_after recording).transfer (data_after recording) (open_after recording) in
    let step : Exactly next set (downloads_done d.rows recording) (view_of d.rows longer) =
    subst (λ v. Exactly next set (downloads_done d.rows recording) v) (sym (hears_all d.rows stamp answers (and_frame stamp Client frame recording)))
    (subst (λ a. Exactly next set (downloads_done d.rows recording) (hears_answers d.rows stamp a (view_of d.rows (and_frame stamp Client frame recording))))
    (sym one.replies)
    (subst (λ v. Exactly next set (downloads_done d.rows recording) (hears_answers d.rows stamp (answers_to d contents h.current frame) v))
    (sym (hears_frame d.rows stamp Client frame recording))
    (exact_exchange d contents stamp frame h.current (view_of d.rows recording) h.holds kept lawful.description small plain))) in
    record {
      current = next;
      serves = one.next;
      holds = step.holds;
      same =
          step.same ∙ ap (λ w. write_set set (length longer) ++ w) h.same
          ∙ ap (λ x. write_set x (length longer) ++ sets) (sym one.sets);
    }

pub is_eight : (n : ℕ) → n ≡ 8 → (n == 8) ≡ true
is_eight n h = grind (arith, nat_tests)

with_frame : (stamp : ℕ → ℕ) (d : Description) (contents : Contents) (frame : List ℕ) (older : List Input) → Same stamp d (log_of d older) (recorded stamp d older) (downloads_set stamp d older)
    → IsDictionary d contents → AreBytes frame → length frame ≡ 8 → is_block_begin (request_in frame) ≡ false
    → Same stamp d (log_of d (Received contents frame ∷ older)) (recorded stamp d (Received contents frame ∷ older)) (downloads_set stamp d (Received contents frame ∷ older))
with_frame stamp d contents frame older h lawful small n plain = by (length frame == 8) refl
  where
    by : (long : Bool) → (length frame == 8) ≡ long
        → Same stamp d
        (if long then Exchanged (record { request = frame; contents = contents; answers = reply_to d contents (log_of d older) frame }) ∷ log_of d older else log_of d older)
        (and_answers stamp (if long then reply_to d contents (log_of d older) frame else []) (and_frame stamp Client frame (recorded stamp d older)))
        (write_set (if long then set_by d contents (log_of d older) frame else None)
        (length (and_answers stamp (if long then reply_to d contents (log_of d older) frame else []) (and_frame stamp Client frame (recorded stamp d older))))
        ++ downloads_set stamp d older)
    by true e = with_request stamp d contents frame (log_of d older) (recorded stamp d older) (downloads_set stamp d older) h lawful small n plain
    by false e = absurd (false≢true (sym e ∙ is_eight (length frame) n))

with_abort : (stamp : ℕ → ℕ) (d : Description) (log : Log) (recording : List Event) (sets : List Complete) → Same stamp d log recording sets
    → Same stamp d (TimedOut (time_out_reply log) ∷ log) (and_answers stamp (time_out_reply log) recording) sets
with_abort stamp d log recording sets h =
    let v = view_of d.rows recording in
    let c = aborted_closes d.rows stamp (open_key (opened_after log)) 0x05040000 v in
    let k : Closes (downloads_done d.rows recording) (view_of d.rows (and_answers stamp (time_out_reply log) recording)) =
    subst (Closes (downloads_done d.rows recording)) (sym (hears_all d.rows stamp (time_out_reply log) recording)) c in
    record {
      current = None;
      serves = serves_first d.rows (TimedOut (time_out_reply log) ∷ log) (ended log (time_out_reply log));
      holds = rw k.none refl;
      same = k.same ∙ h.same;
    }

pub drops : (held : Option Transfer) (got : List ℕ) (current : Option OpenTransfer) → ExactIn held got current → ExactIn held got None
drops None got current h = refl
drops (Some t) got current (exact_upload u n) = exact_upload u refl
drops (Some t) got current (exact_segments toggle h c) = exact_dropped toggle h.in_turn refl
drops (Some t) got current (exact_dropped toggle h c) = exact_dropped toggle h refl

pub all_same : (stamp : ℕ → ℕ) (d : Description) (inputs : List Input) → AreInputs d inputs → ArePlain inputs → Same stamp d (log_of d inputs) (recorded stamp d inputs) (downloads_set stamp d inputs)
all_same stamp d [] h p = record { current = None; serves = serves_first d.rows [] refl; holds = refl; same = refl }
all_same stamp d (Received contents frame ∷ older) h p =
    with_frame stamp d contents frame older (all_same stamp d older h.1 p.1) h.0.0 h.0.1 p.0.0 p.0.1
all_same stamp d (Elapsed ∷ older) h p =
    let r = all_same stamp d older h.1 p.1 in
    record { current = r.current; serves = serves_ticked d.rows (log_of d older) r.current r.serves; holds = r.holds; same = r.same }
all_same stamp d (Expired ∷ older) h p = with_abort stamp d (log_of d older) (recorded stamp d older) (downloads_set stamp d older) (all_same stamp d older h.1 p.1)
all_same stamp d (Abandoned ∷ older) h p =
    let r = all_same stamp d older h.1 p.1 in
    record {
      current = None;
      serves = serves_first d.rows (Dropped ∷ log_of d older) (dropped_since (since_initiate (log_of d older)));
      holds = drops (following_after (recorded stamp d older)).transfer (data_after (recorded stamp d older)) r.current r.holds;
      same = r.same;
    }
all_same stamp d (Started ∷ older) h p =
    let r = all_same stamp d older h.1 p.1 in
    record { current = None; serves = serves_first d.rows [] refl; holds = refl; same = r.same }
