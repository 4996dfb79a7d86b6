-- What explain knows of an upload and what the channel's log has of it (`Standing`): after a request with its answers, one that the device
-- ignores, and the channel's other events.
use Rattle.std.proofs.Common.{◌≡◌, ℕ, ◌+◌, false, List, [], ◌∷◌, length, Option, None, refl, sym, ap, ◌⊎◌, inl, subst}
use Rattle.std.specs.Prelude.{◌==◌, IfSome}
use Rattle.co_value.specs.Numbers.{AreBytes}
use Rattle.co_frame.specs.FrameContent.{FrameContent}
use Rattle.co_dict.specs.Rows.{Contents, Rows}
use Rattle.co_dict.specs.Stores.{Description, IsDictionary}
use Rattle.co_sdo.specs.Log.{Exchanged, Log, Ticked as Elapsed, Dropped, frames_on}
use Rattle.co_sdo.specs.Opened.{opened, opened_after}
use Rattle.co_sdo.specs.OpenTransfers.{open_transfer}
use Rattle.co_sdo.specs.Replies.{answers_to, reply_to}
use Rattle.co_sdo.specs.Standing.{is_under_way}
use Rattle.co_sdo.specs.Steps.{opened_next}
use Rattle.co_sdo_laws.proofs.Channel.{Served, served, tick_opens}
use Rattle.co_sheet.specs.Content.{Row}
use Rattle.conode_explain_transfers.specs.declared.kinds.Side.TheVariants.{Client}
use Rattle.conode_explain_transfers.specs.declared.transfer.Transfer.{Transfer}
use Rattle.conode_explain_transfers.specs.Digests.{digest_of}
use Rattle.conode_explain_laws.specs.Uploads.{acknowledged_whole}
use Rattle.conode_explain_laws.proofs.AllUploads.{drops}
use Rattle.conode_explain_laws.proofs.UploadExchanges.{EndsWith, exchange}
use Rattle.conode_explain_laws.proofs.UploadStanding.{FollowsIn}
use Rattle.conode_explain_laws.proofs.UploadSteps.{completes, dropped_whole, ticked_whole}
use Rattle.conode_explain_laws.proofs.UploadViews.{hears, hears_answers}
use Rattle.conode_explain_laws.proofs.Views.{View}
use Rattle.conode_compare_nmt.specs.declared.limits.Subject.{Subject}
use Rattle.conode_compare_rules.specs.declared.progress.Progress.{Progress}
use Rattle.conode_compare_rules.specs.Gaps.{begun}
use Rattle.conode_compare_laws.specs.AnswerFindings.{data_differences}
use Rattle.conode_compare_laws.proofs.AnswerDataFrames.{answers_run, mapped, sdo_run}
use Rattle.conode_compare_laws.proofs.AnswerEnds.{AllWhole, IsWhole}
use Rattle.conode_compare_laws.proofs.AnswerExchange.{request_kind}
use Rattle.conode_compare_laws.proofs.AnswerFollowed.{reads}
use Rattle.conode_compare_laws.proofs.AnswerOpened.{exchange_with}
use Rattle.conode_compare_laws.proofs.AnswerIgnored.{ignored_whole}
use Rattle.conode_compare_laws.proofs.AnswerWhole.{exchange_whole, kept_answers, kept_hears}
use Rattle.conode_compare_laws.proofs.Runs.{AllRun}

-- ---- what both have

-- explain's upload follows the channel's, with the data so far
pub record Data (log : Log) (o : Option Transfer) : Type 0 where
  pub got : List ℕ
  pub follows : FollowsIn (Unit {0}) o got (opened_after log) (acknowledged_whole log)
  pub taken : IfSome o (λ t. t.taken ≡ digest_of got)

pub record Standing (rows : Rows) (log : Log) (o : Option Transfer) : Type 0 where
  pub under_way : is_under_way rows (open_transfer log)
  pub holds_data : Data log o

pub none_open : (log : Log) → Data log None
none_open log = record { got = []; follows = inl tt; taken = tt }

pub nothing_known : (rows : Rows) (log : Log) → is_under_way rows (open_transfer log) → Standing rows log None
nothing_known rows log u = record { under_way = u; holds_data = none_open log }

-- ---- other events of the channel

pub standing_ticked : (rows : Rows) (log : Log) (o : Option Transfer) → Standing rows log o → Standing rows (Elapsed ∷ log) o
standing_ticked rows log o s = record {
  under_way = subst (is_under_way rows) (sym (tick_opens log)) s.under_way;
  holds_data = record {
    got = s.holds_data.got;
    follows = subst (λ c. FollowsIn (Unit {0}) o s.holds_data.got c (acknowledged_whole (Elapsed ∷ log))) (sym (ap opened (tick_opens log)))
        (subst (FollowsIn (Unit {0}) o s.holds_data.got (opened_after log)) (sym (ticked_whole log)) s.holds_data.follows);
    taken = s.holds_data.taken;
  };
}

pub standing_dropped : (rows : Rows) (log : Log) (o : Option Transfer) → open_transfer (Dropped ∷ log) ≡ None → Standing rows log o → Standing rows (Dropped ∷ log) o
standing_dropped rows log o none s = record {
  under_way = subst (is_under_way rows) (sym none) tt;
  holds_data = record {
    got = s.holds_data.got;
    follows = subst (λ c. FollowsIn (Unit {0}) o s.holds_data.got c (acknowledged_whole (Dropped ∷ log))) (sym (ap opened none))
        (subst (FollowsIn (Unit {0}) o s.holds_data.got None) (sym (dropped_whole log)) (drops (Unit {0}) o s.holds_data.got (opened_after log) (acknowledged_whole log) s.holds_data.taken s.holds_data.follows));
    taken = s.holds_data.taken;
  };
}

-- ---- a request with its answers

module _ (subject : Subject) (rows : List Row) (micros : ℕ) (d : Description) (contents : Contents) (log : Log) (frame : FrameContent) (p : Progress) where
  abbrev Stands : Progress → Type 0
  Stands q = Standing d.rows (Exchanged (exchange_with d contents log frame.bytes) ∷ log) q.dialogue.channel.transfer

  pub request_runs : frame.id ≡ 0x600 + subject.node → AreBytes frame.bytes → length frame.bytes ≡ 8 → IsDictionary d contents → Standing d.rows log (begun subject p micros).dialogue.channel.transfer
      → AllRun data_differences subject rows micros p (frame ∷ []) (λ q. AllRun data_differences subject rows micros q (frames_on (0x580 + subject.node) (reply_to d contents log frame.bytes)) Stands)
  request_runs id bytes eight lawful s =
      sdo_run subject rows micros p frame [] Client _ (request_kind subject.node frame id) whole.0
      (λ q n next. subst (λ answers. AllRun data_differences subject rows micros q (frames_on (0x580 + subject.node) answers) Stands) (sym one.replies)
      (mapped subject rows micros (frames_on (0x580 + subject.node) (answers_to d contents (opened_after log) frame.bytes)) q (λ x. x.dialogue.channel ≡ last.following) Stands
      (λ x is. subst (λ f. Standing d.rows (Exchanged (exchange_with d contents log frame.bytes) ∷ log) f.transfer) (sym is) stands)
      (answers_run subject rows micros (answers_to d contents (opened_after log) frame.bytes) heard q n next whole.1)))
    where
      v : View
      v = record { following = (begun subject p micros).dialogue.channel; got = s.holds_data.got; done = []; count = 0 }

      heard : View
      heard = hears (λ n. micros) Client frame.bytes v

      last : View
      last = hears_answers (λ n. micros) (answers_to d contents (opened_after log) frame.bytes) heard

      one : Served d contents log (opened_after log) frame.bytes
      one = served d contents log (opened_after log) frame.bytes (record { opens = refl; under_way = s.under_way }) lawful eight

      whole : IsWhole (reads v.following micros Client frame.bytes).says.ended × AllWhole (λ n. micros) (answers_to d contents (opened_after log) frame.bytes) heard
      whole = exchange_whole d contents (λ n. micros) frame.bytes (opened_after log) (acknowledged_whole log) v s.holds_data.follows s.holds_data.taken

      step : EndsWith (Unit {0}) d contents (λ n. micros) frame.bytes (opened_after log) (acknowledged_whole log) [] 0 heard
      step = exchange (Unit {0}) d contents (λ n. micros) frame.bytes (opened_after log) (acknowledged_whole log) v bytes lawful s.holds_data.follows s.holds_data.taken (inl tt)

      stands : Standing d.rows (Exchanged (exchange_with d contents log frame.bytes) ∷ log) last.following.transfer
      stands = record {
        under_way = one.next.under_way;
        holds_data = record {
          got = last.got;
          follows = subst (λ c. FollowsIn (Unit {0}) last.following.transfer last.got c (acknowledged_whole (Exchanged (exchange_with d contents log frame.bytes) ∷ log))) (sym one.next.opens)
              (subst (FollowsIn (Unit {0}) last.following.transfer last.got (opened_next d contents (opened_after log) frame.bytes)) (sym (completes d contents log (opened_after log) frame.bytes refl).acknowledged) step.follows);
          taken = kept_answers (λ n. micros) (answers_to d contents (opened_after log) frame.bytes) heard (kept_hears (λ n. micros) Client frame.bytes v s.holds_data.taken);
        };
      }

  -- one that the device ignores
  pub ignored_runs : frame.id ≡ 0x600 + subject.node → ((length frame.bytes == 8) ≡ false) ⊎ (opened_after log ≡ None) → Standing d.rows log (begun subject p micros).dialogue.channel.transfer
      → AllRun data_differences subject rows micros p (frame ∷ []) (λ q. Standing d.rows log q.dialogue.channel.transfer)
  ignored_runs id ignores s =
      sdo_run subject rows micros p frame [] Client _ (request_kind subject.node frame id) whole.0
      (λ q n next. subst (λ f. Standing d.rows log f.transfer) (sym next)
      (record { under_way = s.under_way; holds_data = record { got = heard.got; follows = whole.1; taken = kept_hears (λ n. micros) Client frame.bytes v s.holds_data.taken } }))
    where
      v : View
      v = record { following = (begun subject p micros).dialogue.channel; got = s.holds_data.got; done = []; count = 0 }

      heard : View
      heard = hears (λ n. micros) Client frame.bytes v

      whole : IsWhole (reads v.following micros Client frame.bytes).says.ended × FollowsIn (Unit {0}) heard.following.transfer heard.got (opened_after log) (acknowledged_whole log)
      whole = ignored_whole (λ n. micros) frame.bytes (opened_after log) (acknowledged_whole log) v ignores s.holds_data.follows s.holds_data.taken
