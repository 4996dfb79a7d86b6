-- All frames of a recording, for `access-read`.
use Rattle.std.proofs.Common.{◌≡◌, ℕ, ◌+◌, false, List, [], ◌∷◌, ◌<◌, length, Option, Some, None, refl, sym, ◌⊎◌, subst, arith}
use Rattle.std.specs.Prelude.{◌==◌, IfSome}
use Rattle.std.proofs.lemmas.Bool.{false≢true}
use Rattle.co_value.specs.Numbers.{AreBytes}
use Rattle.co_frame_aborts.specs.AbortCodes.{timed_out as timed_out_code}
use Rattle.co_frame.specs.FrameContent.{FrameContent}
use Rattle.co_frame.specs.SdoResponses.{response_bytes}
use Rattle.co_frame.specs.declared.sdo_response.SdoResponse.TheVariants.{Abort as Refuse}
use Rattle.co_dict.specs.Rows.{Contents}
use Rattle.co_dict.specs.Stores.{Description, IsDescription, IsDictionary}
use Rattle.co_sdo.specs.Log.{Answer, Exchanged, Log, Ticked as Elapsed, TimedOut, Dropped, frames_on}
use Rattle.co_sdo.specs.Opened.{OpenTransfer, opened, opened_after}
use Rattle.co_sdo.specs.OpenTransfers.{open_transfer}
use Rattle.co_sdo.specs.Replies.{answers_to, open_key, reply_to, time_out_reply}
use Rattle.co_sdo.specs.Standing.{is_under_way}
use Rattle.co_sdo.specs.Steps.{opened_next}
use Rattle.co_sdo_laws.proofs.Channel.{Served, ended as channel_ended, served, tick_opens}
use Rattle.co_sheet.specs.Content.{Row}
use Rattle.conode_explain_transfers.specs.declared.kinds.Side.TheVariants.{Client, Server}
use Rattle.conode_explain_transfers.specs.declared.transfer.Transfer.{Transfer}
use Rattle.conode_explain_transfers.specs.Followed.{Following}
use Rattle.conode_compare_rules.specs.declared.kind.FrameKind.{FrameKind}
use Rattle.conode_compare_rules.specs.declared.kind.FrameKind.TheVariants.{Sdo}
use Rattle.conode_compare_nmt.specs.declared.limits.Subject.{Subject}
use Rattle.conode_compare_rules.specs.declared.progress.Progress.{Progress}
use Rattle.conode_compare_rules.specs.declared.verdict.Findings.{Findings}
use Rattle.conode_compare_rules.specs.Gaps.{begun}
use Rattle.conode_compare_laws.specs.ValueFindings.{of_refusals, refusal_differences}
use Rattle.conode_compare_laws.proofs.AnswerExchange.{answer_kind, request_kind}
use Rattle.conode_compare_laws.proofs.AnswerFollowed.{reads}
use Rattle.conode_compare_laws.proofs.AnswerOpened.{exchange_with}
use Rattle.conode_compare_laws.proofs.AnswerOthers.{is_sdo}
use Rattle.conode_compare_laws.proofs.ReadAnswers.{IsSmall, Step, calm_small, refuses, step}
use Rattle.conode_compare_laws.proofs.ReadFrames.{Answers, AreNear, Near, all_fine, client_fine, ignored_near, last_is, no_read, replied, request_goes, still_near}
use Rattle.conode_compare_laws.proofs.Runs.{AllRun}
use Rattle.conode_compare_laws.proofs.ValueFrames.{answer_frame, answers_run, following_on, sdo_run}
use Rattle.conode_compare_laws.proofs.ValueInputs.{Obeys, mapped}
use Rattle.conode_compare_laws.proofs.ValueRefused.{Milds, plain_mild}

-- what both have
pub record Stands (d : Description) (log : Log) (o : Option Transfer) : Type 0 where
  pub under_way : is_under_way d.rows (open_transfer log)
  pub small : IsSmall (opened_after log)
  pub near : IfSome o (Near (opened_after log))

-- where nothing is open on the channel
closed_stands : (d : Description) (log : Log) (o : Option Transfer) → open_transfer log ≡ None → Stands d log o
closed_stands d log o none = record {
  under_way = subst (is_under_way d.rows) (sym none) tt;
  small = subst (λ t. IsSmall (opened t)) (sym none) tt;
  near = subst (λ t. IfSome o (Near (opened t))) (sym none) (still_near None o refl);
}

none_stands : (d : Description) (log : Log) (o : Option Transfer) → Stands d log o → Stands d log None
none_stands d log o s = record { under_way = s.under_way; small = s.small; near = tt }

ticked_stands : (d : Description) (log : Log) (o : Option Transfer) → Stands d log o → Stands d (Elapsed ∷ log) o
ticked_stands d log o s = record {
  under_way = subst (is_under_way d.rows) (sym (tick_opens log)) s.under_way;
  small = subst (λ t. IsSmall (opened t)) (sym (tick_opens log)) s.small;
  near = subst (λ t. IfSome o (Near (opened t))) (sym (tick_opens log)) s.near;
}

module _ (subject : Subject) (rows : List Row) (d : Description) (milds : IsDescription d → Milds rows d) where
  -- answers of which nothing is found, and what both have then
  answers_goes : (micros : ℕ) (answers : List Answer) (q : Progress) (f : Following) (next : Following → Type 0) (After : Option Transfer → Type 0) → q.newest ≡ Some micros → q.dialogue.channel ≡ f
      → Answers subject rows micros answers f next → ((g : Following) → next g → After g.transfer)
      → AllRun refusal_differences subject rows micros q (frames_on (0x580 + subject.node) answers) (λ x. After x.dialogue.channel.transfer)
  answers_goes micros answers q f next After now is h then =
      mapped refusal_differences subject rows micros (frames_on (0x580 + subject.node) answers) q (λ x. x.dialogue.channel ≡ following_on of_refusals refl no_read subject rows micros f answers) (λ x. After x.dialogue.channel.transfer)
      (λ x on. subst (λ (g : Following). After g.transfer) (sym on) (then _ (last_is subject rows micros answers f next h)))
      (answers_run of_refusals refl no_read subject rows micros answers f q now is (all_fine subject rows micros answers f next h))

  -- ---- a request

  module _ (micros : ℕ) (contents : Contents) (log : Log) (frame : FrameContent) (p : Progress) (bytes : AreBytes frame.bytes) (s : Stands d log (begun subject p micros).dialogue.channel.transfer) where
    abbrev f : Following
    f = (begun subject p micros).dialogue.channel

    abbrev more : Log
    more = Exchanged (exchange_with d contents log frame.bytes) ∷ log

    request_runs : frame.id ≡ 0x600 + subject.node → length frame.bytes ≡ 8 → IsDictionary d contents
        → AllRun refusal_differences subject rows micros p (frame ∷ []) (λ q. AllRun refusal_differences subject rows micros q (frames_on (0x580 + subject.node) (reply_to d contents log frame.bytes)) (λ x. Stands d more x.dialogue.channel.transfer))
    request_runs id eight lawful =
        sdo_run of_refusals refl no_read subject rows micros p frame [] Client _ (request_kind subject.node frame id) (client_fine subject rows micros f frame)
        (λ q n next. subst (λ x. AllRun refusal_differences subject rows micros q (frames_on (0x580 + subject.node) x) (λ x. Stands d more x.dialogue.channel.transfer)) (sym one.replies)
        (answers_goes micros (answers_to d contents (opened_after log) frame.bytes) q (reads f micros Client frame.bytes).next (AreNear (opened_next d contents (opened_after log) frame.bytes)) (Stands d more) n next
        (request_goes subject rows micros (opened_after log) (opened_next d contents (opened_after log) frame.bytes) frame.bytes (answers_to d contents (opened_after log) frame.bytes) f made s.near)
        (λ g near. record {
          under_way = one.next.under_way;
          small = subst IsSmall (sym one.next.opens) (calm_small rows (opened_after log) (opened_next d contents (opened_after log) frame.bytes) frame.bytes (answers_to d contents (opened_after log) frame.bytes) s.small made);
          near = subst (λ o. IfSome g.transfer (Near o)) (sym one.next.opens) near;
        })))
      where
        one : Served d contents log (opened_after log) frame.bytes
        one = served d contents log (opened_after log) frame.bytes (record { opens = refl; under_way = s.under_way }) lawful eight

        made : Step rows (opened_after log) (opened_next d contents (opened_after log) frame.bytes) frame.bytes (answers_to d contents (opened_after log) frame.bytes)
        made = step rows d (milds lawful.description) contents frame.bytes bytes (opened_after log) s.small

    -- one that the device ignores
    ignored_runs : frame.id ≡ 0x600 + subject.node → ((length frame.bytes == 8) ≡ false) ⊎ (opened_after log ≡ None) → AllRun refusal_differences subject rows micros p (frame ∷ []) (λ x. Stands d log x.dialogue.channel.transfer)
    ignored_runs id by =
        sdo_run of_refusals refl no_read subject rows micros p frame [] Client _ (request_kind subject.node frame id) (client_fine subject rows micros f frame)
        (λ q n next. subst (λ (g : Following). Stands d log g.transfer) (sym next)
        (record { under_way = s.under_way; small = s.small; near = ignored_near subject rows micros (opened_after log) f frame.bytes by s.near }))

  -- ---- an abort when a transfer times out

  open_small : (current : Option OpenTransfer) → IsSmall current → (open_key current).index < 65536
  open_small None h = omega arith
  open_small (Some o) h = h

  aborted_runs : (micros : ℕ) (log : Log) (q : Progress) → Stands d log (begun subject q micros).dialogue.channel.transfer
      → AllRun refusal_differences subject rows micros q (frames_on (0x580 + subject.node) (time_out_reply log)) (λ x. Stands d (TimedOut (time_out_reply log) ∷ log) x.dialogue.channel.transfer)
  aborted_runs micros log q s =
      sdo_run of_refusals refl no_read subject rows micros q (answer_frame of_refusals refl no_read subject rows micros bytes) [] Server _ (answer_kind subject.node bytes)
      (found.0)
      (λ x n next. closed_stands d (TimedOut (time_out_reply log) ∷ log) x.dialogue.channel.transfer (channel_ended log (time_out_reply log)))
    where
      bytes : List ℕ
      bytes = response_bytes (Refuse (open_key (opened_after log)) (record { 0 = timed_out_code }))

      found : Answers subject rows micros (time_out_reply log) (begun subject q micros).dialogue.channel (λ g. Unit {0})
      found =
          replied subject rows micros (time_out_reply log) (begun subject q micros).dialogue.channel (λ g. Unit {0})
          (refuses (open_key (opened_after log)) timed_out_code refl (open_small (opened_after log) s.small) (plain_mild rows (open_key (opened_after log)) timed_out_code refl)) (λ g. tt)

  -- ---- all of it

  quiet : (kind : FrameKind) (found : Findings) → is_sdo kind ≡ false → refusal_differences kind found ≡ []
  quiet (Sdo side frame) found off = absurd (false≢true (sym off))
  quiet _ found off = refl

  pub obeys : Obeys d subject rows refusal_differences (IsDictionary d) (Stands d)
  obeys = record {
    quiet = quiet;
    first = record { under_way = tt; small = tt; near = tt };
    none = none_stands d;
    ticked = ticked_stands d;
    dropped = λ log o none s. closed_stands d (Dropped ∷ log) o none;
    aborted = aborted_runs;
    request = λ micros contents log frame p id bytes eight lawful s. request_runs micros contents log frame p bytes s id eight lawful;
    ignored = λ micros contents log frame p id bytes lawful by s. ignored_runs micros contents log frame p bytes s id by;
  }
