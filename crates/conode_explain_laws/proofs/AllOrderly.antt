-- Both read the client's frames alike, over all inputs whose frames are whole and whose sub-blocks are in order: all downloads that the
-- channel sets are done, those in blocks too, and all uploads that it serves whole.
use Rattle.std.proofs.Common.{◌≡◌, ℕ, suc, Bool, true, false, not, List, [], ◌∷◌, ◌++◌, length, Option, Some, None, refl, sym, ap, ◌∙◌, inr, subst}
use Rattle.std.specs.Prelude.{if◌then◌else◌, ◌==◌, ◌&&◌, IfSome}
use Rattle.std.proofs.lemmas.Bool.{false≢true}
use Rattle.co_value.specs.Numbers.{AreBytes}
use Rattle.co_frame.specs.SubBlocks.{ends_sub_block}
use Rattle.co_frame.specs.SdoRequests.{request_in}
use Rattle.co_dict.specs.Rows.{Contents}
use Rattle.co_dict.specs.Stores.{Description, IsDictionary}
use Rattle.co_sdo.specs.Log.{Log, Exchanged, TimedOut, Dropped}
use Rattle.co_sdo.specs.OpenTransfers.{since_initiate}
use Rattle.co_sdo.specs.Opened.{OpenTransfer, opened_after}
use Rattle.co_sdo.specs.Replies.{open_key, reply_to, time_out_reply, answers_to, is_in_sub_block}
use Rattle.co_sdo.specs.Completed.{set_by}
use Rattle.co_sdo.specs.Steps.{opened_next, set_next}
use Rattle.co_sdo_laws.proofs.Channel.{Serves, serves_first, served, serves_ticked, ended}
use Rattle.conode_explain_transfers.specs.declared.kinds.Side.TheVariants.{Client}
use Rattle.conode_explain_transfers.specs.declared.transfer.Transfer.{Transfer}
use Rattle.conode_explain_transfers.specs.Data.{data_after}
use Rattle.conode_explain_transfers.specs.Digests.{digest_of}
use Rattle.conode_explain_transfers.specs.Followed.{Event, following_after}
use Rattle.conode_explain_transfers.proofs.DataLemmas.{open_after}
use Rattle.conode_explain_laws.specs.Recordings.{Input, Received, Elapsed, Expired, Abandoned, Started, AreInputs, log_of, recorded, and_frame, and_answers}
use Rattle.conode_explain_laws.specs.Downloads.{Complete, downloads_done, downloads_set, write_set, is_inside, newest_in, number_in, goes_up, ArePlain, AreOrderly}
use Rattle.conode_explain_laws.specs.Uploads.{Read, uploads_done, answered_whole, acknowledged_whole, ended_by, read_served, uploads_served}
use Rattle.conode_explain_laws.proofs.Views.{view_of, hears_frame, hears_answers, hears_all, Closes, aborted_closes}
use Rattle.conode_explain_laws.proofs.AllInputs.{dropped_since}
use Rattle.conode_explain_laws.proofs.AllExact.{kept_of, is_eight, drops, all_same as plain_same}
use Rattle.conode_explain_laws.proofs.BlockExact.{OrderlyIn, plain, inside, all_sent, gone, Orders, orderly_exchange, exact_outside}
use Rattle.conode_explain_laws.proofs.UploadViews.{view_of as seen, hears_frame as upload_hears_frame, hears_answers as upload_hears_answers, hears_all as upload_hears_all, aborted_closes as upload_aborted}
use Rattle.conode_explain_laws.proofs.UploadSteps.{answered_next, acknowledged_next, completes, ticked_whole, dropped_whole}
use Rattle.conode_explain_laws.proofs.UploadStanding.{aside_follows}
use Rattle.conode_explain_laws.proofs.AllUploads.{drops as drops_read}
use Rattle.conode_explain_laws.proofs.OrderlyUploads.{Stays, plain as plain_upload, in_blocks, GoesOn, orderly_reads}

-- what holds after all inputs
record Same (d : Description) (log : Log) (recording : List Event) (newest : ℕ) (sets whole : List Complete) : Type 0 where
  current : Option OpenTransfer
  serves : Serves d.rows log current
  holds : OrderlyIn (following_after recording).transfer (data_after recording) current newest
  same : downloads_done d.rows recording ≡ sets
  stays : Stays (following_after recording).transfer (data_after recording) current (acknowledged_whole log)
  read : uploads_done recording ≡ whole

module _ (stamp : ℕ → ℕ) (d : Description) where
  with_request : (contents : Contents) (frame : List ℕ) (log : Log) (recording : List Event) (newest : ℕ) (sets whole : List Complete) → Same d log recording newest sets whole → IsDictionary d contents → AreBytes frame → length frame ≡ 8
      → (is_inside log ≡ true → goes_up newest frame ≡ true)
      → Same d (Exchanged (record { request = frame; contents = contents; answers = reply_to d contents log frame }) ∷ log)
      (and_answers stamp (reply_to d contents log frame) (and_frame stamp Client frame recording))
      (if is_inside log && not (ends_sub_block frame) then number_in frame else 0)
      (write_set (set_by d contents log frame) (length (and_answers stamp (reply_to d contents log frame) (and_frame stamp Client frame recording))) ++ sets)
      (read_served (answered_whole (reply_to d contents log frame) (Exchanged (record { request = frame; contents = contents; answers = reply_to d contents log frame }) ∷ log))
      (length (and_answers stamp (reply_to d contents log frame) (and_frame stamp Client frame recording)))
      ++ (read_served (ended_by (request_in frame) (acknowledged_whole log)) (suc (length recording)) ++ whole))
  with_request contents frame log recording newest sets whole h lawful small long up =
      let one = served d contents log h.current frame h.serves lawful long in
      let answers = reply_to d contents log frame in
      let longer = and_answers stamp answers (and_frame stamp Client frame recording) in
      let next = opened_next d contents h.current frame in
      let set = set_next d contents h.current frame in
      let newer = if is_inside log && not (ends_sub_block frame) then number_in frame else 0 in
      let opens : opened_after log ≡ h.current = h.serves.opens in
      let kept = kept_of (following_after recording).transfer (data_after recording) (open_after recording) in
      let P = Orders newer next set (downloads_done d.rows recording) in
      let step : P (view_of d.rows longer) =
      subst P (sym (hears_all d.rows stamp answers (and_frame stamp Client frame recording)))
      (subst (λ a. P (hears_answers d.rows stamp a (view_of d.rows (and_frame stamp Client frame recording)))) (sym one.replies)
      (subst (λ v. P (hears_answers d.rows stamp (answers_to d contents h.current frame) v)) (sym (hears_frame d.rows stamp Client frame recording))
      (orderly_exchange newer newest d contents stamp frame h.current (view_of d.rows recording) small h.holds kept lawful.description long
      (λ e. up (ap is_in_sub_block opens ∙ e)) (ap (λ x. if is_in_sub_block x && not (ends_sub_block frame) then number_in frame else 0) opens)))) in
      let made = completes d contents log h.current frame h.serves.opens in
      let ended_so = read_served (ended_by (request_in frame) (acknowledged_whole log)) (suc (length recording)) in
      let Q = GoesOn next (acknowledged_next h.current frame) (answered_next d contents h.current frame) (ended_so ++ uploads_done recording) in
      let served_so : Q (seen longer) =
      subst Q (sym (upload_hears_all stamp answers (and_frame stamp Client frame recording)))
      (subst (λ a. Q (upload_hears_answers stamp a (seen (and_frame stamp Client frame recording)))) (sym one.replies)
      (subst (λ v. Q (upload_hears_answers stamp (answers_to d contents h.current frame) v)) (sym (upload_hears_frame stamp Client frame recording))
      (orderly_reads newest d contents stamp frame h.current (acknowledged_whole log) (seen recording) small lawful h.holds h.stays kept
      (λ e. up (ap is_in_sub_block opens ∙ e))))) in
      record {
        current = next;
        serves = one.next;
        holds = step.holds;
        same =
            step.same ∙ ap (λ w. write_set set (length longer) ++ w) h.same
            ∙ ap (λ x. write_set x (length longer) ++ sets) (sym one.sets);
        stays = subst (Stays (following_after longer).transfer (data_after longer) next) (sym made.acknowledged) served_so.stays;
        read =
            served_so.reads ∙ ap (λ w. read_served (answered_next d contents h.current frame) (length longer) ++ (ended_so ++ w)) h.read
            ∙ ap (λ x. read_served x (length longer) ++ (ended_so ++ whole)) (sym made.answered);
      }

  with_frame : (contents : Contents) (frame : List ℕ) (older : List Input) → Same d (log_of d older) (recorded stamp d older) (newest_in d older) (downloads_set stamp d older) (uploads_served stamp d older) → IsDictionary d contents → AreBytes frame → length frame ≡ 8
      → (is_inside (log_of d older) ≡ true → goes_up (newest_in d older) frame ≡ true)
      → Same d (log_of d (Received contents frame ∷ older)) (recorded stamp d (Received contents frame ∷ older)) (newest_in d (Received contents frame ∷ older)) (downloads_set stamp d (Received contents frame ∷ older)) (uploads_served stamp d (Received contents frame ∷ older))
  with_frame contents frame older h lawful small n up = by (length frame == 8) refl
    where
      by : (long : Bool) → (length frame == 8) ≡ long
          → Same d
          (if long then Exchanged (record { request = frame; contents = contents; answers = reply_to d contents (log_of d older) frame }) ∷ log_of d older else log_of d older)
          (and_answers stamp (if long then reply_to d contents (log_of d older) frame else []) (and_frame stamp Client frame (recorded stamp d older)))
          (if is_inside (log_of d older) && not (ends_sub_block frame) then number_in frame else 0)
          (write_set (if long then set_by d contents (log_of d older) frame else None)
          (length (and_answers stamp (if long then reply_to d contents (log_of d older) frame else []) (and_frame stamp Client frame (recorded stamp d older))))
          ++ downloads_set stamp d older)
          (read_served (answered_whole (if long then reply_to d contents (log_of d older) frame else [])
          (if long then Exchanged (record { request = frame; contents = contents; answers = reply_to d contents (log_of d older) frame }) ∷ log_of d older else log_of d older))
          (length (and_answers stamp (if long then reply_to d contents (log_of d older) frame else []) (and_frame stamp Client frame (recorded stamp d older))))
          ++ (read_served (ended_by (request_in frame) (acknowledged_whole (log_of d older))) (suc (length (recorded stamp d older)))
          ++ uploads_served stamp d older))
      by true e = with_request contents frame (log_of d older) (recorded stamp d older) (newest_in d older) (downloads_set stamp d older) (uploads_served stamp d older) h lawful small n up
      by false e = absurd (false≢true (sym e ∙ is_eight (length frame) n))

  with_abort : (log : Log) (recording : List Event) (newest : ℕ) (sets whole : List Complete) → Same d log recording newest sets whole → Same d (TimedOut (time_out_reply log) ∷ log) (and_answers stamp (time_out_reply log) recording) newest sets whole
  with_abort log recording newest sets whole h =
      let v = view_of d.rows recording in
      let c = aborted_closes d.rows stamp (open_key (opened_after log)) 0x05040000 v in
      let k : Closes (downloads_done d.rows recording) (view_of d.rows (and_answers stamp (time_out_reply log) recording)) =
      subst (Closes (downloads_done d.rows recording)) (sym (hears_all d.rows stamp (time_out_reply log) recording)) c in
      let u : Closes (uploads_done recording) (seen (and_answers stamp (time_out_reply log) recording)) =
      subst (Closes (uploads_done recording)) (sym (upload_hears_all stamp (time_out_reply log) recording)) (upload_aborted stamp (open_key (opened_after log)) 0x05040000 (seen recording)) in
      record {
        current = None;
        serves = serves_first d.rows (TimedOut (time_out_reply log) ∷ log) (ended log (time_out_reply log));
        holds = rw k.none refl;
        same = k.same ∙ h.same;
        stays = rw k.none (plain_upload (inr (record { none = refl; no_end = refl })));
        read = u.same ∙ h.read;
      }

  -- dropped outside a sub-block
  drops_orderly : (held : Option Transfer) (got : List ℕ) (current : Option OpenTransfer) (newest : ℕ) → is_in_sub_block current ≡ false → OrderlyIn held got current newest → OrderlyIn held got None newest
  drops_orderly None got current newest o h = refl
  drops_orderly (Some t) got current newest o (plain h) = plain (drops (Some t) got current h)
  drops_orderly (Some t) got current newest o (inside taken h c) = absurd (false≢true (sym o ∙ ap is_in_sub_block c))
  drops_orderly (Some t) got current newest o (all_sent h c) = gone (record { is = h.is.is; stage = h.stage; pending = h.pending }) refl
  drops_orderly (Some t) got current newest o (gone h c) = gone h refl

  drops_upload : (held : Option Transfer) (got : List ℕ) (current : Option OpenTransfer) (ended : Option Read) → IfSome held (λ t. t.taken ≡ digest_of got) → Stays held got current ended → Stays held got None ended
  drops_upload held got current ended kept (plain_upload f) = plain_upload (drops_read ⊥ held got current ended kept f)
  drops_upload held got current ended kept (in_blocks a b x) = plain_upload (aside_follows ⊥ None ended [] [] held got (inr (record { none = refl; no_end = x })) a)

  all_same : (inputs : List Input) → AreInputs d inputs → AreOrderly d inputs → Same d (log_of d inputs) (recorded stamp d inputs) (newest_in d inputs) (downloads_set stamp d inputs) (uploads_served stamp d inputs)
  all_same [] h p = record { current = None; serves = serves_first d.rows [] refl; holds = refl; same = refl; stays = plain_upload (inr (record { none = refl; no_end = refl })); read = refl }
  all_same (Received contents frame ∷ older) h p = with_frame contents frame older (all_same older h.1 p.1) h.0.0 h.0.1 p.0.0 p.0.1
  all_same (Elapsed ∷ older) h p =
      let r = all_same older h.1 p.1 in
      record {
        current = r.current;
        serves = serves_ticked d.rows (log_of d older) r.current r.serves;
        holds = r.holds;
        same = r.same;
        stays = subst (Stays (following_after (recorded stamp d older)).transfer (data_after (recorded stamp d older)) r.current) (sym (ticked_whole (log_of d older))) r.stays;
        read = r.read;
      }
  all_same (Expired ∷ older) h p = with_abort (log_of d older) (recorded stamp d older) (newest_in d older) (downloads_set stamp d older) (uploads_served stamp d older) (all_same older h.1 p.1)
  all_same (Abandoned ∷ older) h p =
      let r = all_same older h.1 p.1 in
      record {
        current = None;
        serves = serves_first d.rows (Dropped ∷ log_of d older) (dropped_since (since_initiate (log_of d older)));
        holds = drops_orderly (following_after (recorded stamp d older)).transfer (data_after (recorded stamp d older)) r.current (newest_in d older) (ap is_in_sub_block (sym r.serves.opens) ∙ p.0) r.holds;
        same = r.same;
        stays = subst (Stays (following_after (recorded stamp d older)).transfer (data_after (recorded stamp d older)) None) (sym (dropped_whole (log_of d older)))
            (drops_upload (following_after (recorded stamp d older)).transfer (data_after (recorded stamp d older)) r.current (acknowledged_whole (log_of d older))
            (kept_of (following_after (recorded stamp d older)).transfer (data_after (recorded stamp d older)) (open_after (recorded stamp d older))) r.stays);
        read = r.read;
      }
  all_same (Started ∷ older) h p =
      let r = all_same older h.1 p.1 in
      record { current = None; serves = serves_first d.rows [] refl; holds = refl; same = r.same; stays = plain_upload (inr (record { none = refl; no_end = refl })); read = r.read }

pub all_are_done : (stamp : ℕ → ℕ) (d : Description) (inputs : List Input) → AreInputs d inputs → AreOrderly d inputs → downloads_done d.rows (recorded stamp d inputs) ≡ downloads_set stamp d inputs
all_are_done stamp d inputs h p = (all_same stamp d inputs h p).same

pub all_are_served : (stamp : ℕ → ℕ) (d : Description) (inputs : List Input) → AreInputs d inputs → AreOrderly d inputs → uploads_done (recorded stamp d inputs) ≡ uploads_served stamp d inputs
all_are_served stamp d inputs h p = (all_same stamp d inputs h p).read

-- where no block download begins they are in order
plain_outside : (d : Description) (inputs : List Input) → AreInputs d inputs → ArePlain inputs → is_inside (log_of d inputs) ≡ false
plain_outside d inputs h p =
    let s = plain_same (λ n. n) d inputs h p in
    ap is_in_sub_block s.serves.opens ∙ exact_outside (following_after (recorded (λ n. n) d inputs)).transfer (data_after (recorded (λ n. n) d inputs)) s.current s.holds

pub plain_are_orderly : (d : Description) (inputs : List Input) → AreInputs d inputs → ArePlain inputs → AreOrderly d inputs
plain_are_orderly d [] h p = tt
plain_are_orderly d (Received contents frame ∷ older) h p = ((p.0.0, λ e. absurd (false≢true (sym (plain_outside d older h.1 p.1) ∙ e))), plain_are_orderly d older h.1 p.1)
plain_are_orderly d (Elapsed ∷ older) h p = (tt, plain_are_orderly d older h.1 p.1)
plain_are_orderly d (Expired ∷ older) h p = (tt, plain_are_orderly d older h.1 p.1)
plain_are_orderly d (Abandoned ∷ older) h p = (plain_outside d older h.1 p.1, plain_are_orderly d older h.1 p.1)
plain_are_orderly d (Started ∷ older) h p = (tt, plain_are_orderly d older h.1 p.1)
