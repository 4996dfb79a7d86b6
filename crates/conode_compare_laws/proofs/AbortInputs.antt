-- All inputs: the device aborts no transfer as timed out before its time. The client's newest frame that is known, after which the device
-- owes nothing, came as long ago at least as the device has counted ticks since.
use Rattle.std.proofs.Common.{◌≡◌, ℕ, ◌+◌, ◌*◌, ◌≤◌, ◌<◌, ◌≢◌, Bool, true, false, List, [], ◌∷◌, ◌++◌, map, length, Option, Some, None, refl, sym, ap, ◌∙◌, ◌⊎◌, inl, inr, subst, arith}
use Rattle.std.specs.Prelude.{◌==◌, ◌&&◌, if◌then◌else◌, IfSome, filter, is_some, nat_le, nat_lt}
use Rattle.std.specs.List.{AllByRecursion, range_with_len}
use Rattle.std.proofs.lemmas.Bool.{eqb-true, false≢true}
use Rattle.std.proofs.lemmas.Bool.Decides.{nat_tests}
use Rattle.co_frame_aborts.specs.AbortCodes.{timed_out as timed_out_code}
use Rattle.co_frame.specs.FrameContent.{FrameContent}
use Rattle.co_frame.specs.declared.heartbeat.Heartbeat.TheVariants.{BootUp}
use Rattle.co_frame.specs.declared.sdo_response.SdoResponse.TheVariants.{Abort as Refuse}
use Rattle.co_dict.specs.SdoChannels.{is_channel}
use Rattle.co_sdo.specs.Channels.{ChannelSettings, channels_below, settings_for}
use Rattle.co_sdo.specs.Events.{ChannelEvent, exchange_on, frames_at, logs_after, time_out_on, with_each}
use Rattle.co_sdo.specs.Log.{Dropped, Log, Response as Replied, Ticked as Elapsed, TimedOut, answer_bytes, frames_on, ticks_quiet}
use Rattle.co_sdo.specs.Opened.{is_time_over, opened, opened_after}
use Rattle.co_sdo.specs.OpenTransfers.{Since, and_event, open_since, open_transfer, since_initiate}
use Rattle.co_sdo.specs.Replies.{open_key, reply_to, time_out_reply}
use Rattle.co_sdo_laws.proofs.Channel.{ended, tick_opens}
use Rattle.co_node_laws.proofs.Channel.{default_channel}
use Rattle.co_node_laws.proofs.FewExchanged.{few_exchanged}
use Rattle.co_node_parts.specs.declared.nmt_state.NodeState.TheVariants as node
use Rattle.co_node_parts.specs.NmtStates.{is_state}
use Rattle.co_node_model.specs.Device.{contents_of, moment, moments, prescribed, state_of}
use Rattle.co_node_model.specs.Emergencies.{emergency_frames}
use Rattle.co_node_model.specs.Heartbeats.{boot_up, life_frames}
use Rattle.co_node_model.specs.Inputs.{Applied, Framed, Inputs, InputView, Ticked}
use Rattle.co_node_model.specs.Marks.{marked_tick}
use Rattle.co_node_model.specs.Moments.{Constants, Moment, channels}
use Rattle.co_node_model.specs.Sdo.{channel_logs, drops, with_channel_ticks, with_drop}
use Rattle.co_node_model.specs.Sync.{is_sync_id}
use Rattle.co_node_model.specs.Tpdos.{tpdo_frame}
use Rattle.co_sheet.specs.Content.{Row}
use Rattle.conode_compare_transfers.specs.declared.dialogue.Dialogue.{Dialogue}
use Rattle.conode_compare_transfers.specs.Dialogues.{owes_nothing}
use Rattle.conode_compare_rules.specs.declared.kind.FrameKind.{FrameKind}
use Rattle.conode_compare_rules.specs.declared.kind.FrameKind.TheVariants.{Sdo}
use Rattle.conode_compare_nmt.specs.declared.limits.Subject.{Subject}
use Rattle.conode_compare_rules.specs.declared.progress.Progress.{Progress}
use Rattle.conode_compare_rules.specs.declared.verdict.Findings.{Findings}
use Rattle.conode_compare_rules.specs.Gaps.{before_recording, begun}
use Rattle.conode_compare_laws.specs.AnswerFindings.{timeout_differences}
use Rattle.conode_compare_laws.specs.AnswerSenders.{AllSendOther, HaveOtherChannels, IsOther, SendsOther}
use Rattle.conode_compare_laws.specs.Differences.{differences_from, differences_in}
use Rattle.conode_compare_laws.specs.Identifiers.{AreElsewhere, IsAside, IsElsewhere}
use Rattle.conode_compare_laws.specs.Periods.{KnowsTimeout}
use Rattle.conode_compare_laws.specs.Recordings.{AreSpaced, AreUnhurried, Stamped, elapsed, frame_of, heard_from, recording}
use Rattle.conode_compare_laws.proofs.AbortBursts.{EndAt, exchange_runs}
use Rattle.conode_compare_laws.proofs.AbortFrames.{IsAt, client_owing, client_run, once_over, server_run}
use Rattle.conode_compare_laws.proofs.AbortOthers.{begun_has, life_run, others_run}
use Rattle.conode_compare_laws.proofs.AnswerCalm.{another_exchange, calm_exchange}
use Rattle.conode_compare_laws.proofs.AnswerDevice.{IsNumbered, expired_at, found_with, no_exchange_of_event, none_at_event, none_at_frame, none_stopped, numbered, timed_out}
use Rattle.conode_compare_laws.proofs.AnswerExchange.{answer_kind, request_kind}
use Rattle.conode_compare_laws.proofs.AnswerInputs.{nmt_exchange, served_is}
use Rattle.conode_compare_laws.proofs.AnswerTimeOuts.{not_zero, zero_is}
use Rattle.conode_compare_laws.proofs.AnswerOthers.{is_sdo}
use Rattle.conode_compare_laws.proofs.AnswerSteps.{some_map}
use Rattle.conode_compare_laws.proofs.AnswerTransferInputs.{answers_other, nmt_other, not_equal, only_other, same_log}
use Rattle.conode_compare_laws.proofs.Heard.{of_device}
use Rattle.conode_compare_laws.proofs.Pausing.{took}
use Rattle.conode_compare_laws.proofs.Runs.{AllRun, joined, then_none}

-- ---- the client's newest frame, and the ticks that the device has counted

-- after a log nothing is open; or the device owes something, or the ticks since its newest request are no longer than the stamps have it
abbrev IsQuiet : ℕ → Log → Dialogue → Type 0
IsQuiet now log d = (open_transfer log ≡ None) ⊎ (owes_nothing d.newest ≡ true → d.requested + ticks_quiet log * 1000 ≤ now)

none_quiet : (now : ℕ) (log : Log) (d : Dialogue) → d.newest ≡ None → IsQuiet now log d
none_quiet now log d none = inr (λ owes. absurd (false≢true (sym (ap owes_nothing none) ∙ owes)))

owing_quiet : (now : ℕ) (log : Log) (d : Dialogue) → owes_nothing d.newest ≡ false → IsQuiet now log d
owing_quiet now log d off = inr (λ owes. absurd (false≢true (sym off ∙ owes)))

-- after a request
at_quiet : (now : ℕ) (log : Log) (d : Dialogue) → ticks_quiet log ≡ 0 → IsAt now d → IsQuiet now log d
at_quiet now log d zero (inl none) = none_quiet now log d none
at_quiet now log d zero (inr at) = inr (λ owes. omega (arith, zero, at))

later_quiet : (last now : ℕ) (log : Log) (d : Dialogue) → last ≤ now → IsQuiet last log d → IsQuiet now log d
later_quiet last now log d less (inl none) = inl none
later_quiet last now log d less (inr h) = inr (λ owes. let before : d.requested + ticks_quiet log * 1000 ≤ last = h owes in omega arith)

ticked_quiet : (last now : ℕ) (log : Log) (d : Dialogue) → last + 1000 ≤ now → IsQuiet last log d → IsQuiet now (Elapsed ∷ log) d
ticked_quiet last now log d less (inl none) = inl (tick_opens log ∙ none)
ticked_quiet last now log d less (inr h) = inr (λ owes. let before : d.requested + ticks_quiet log * 1000 ≤ last = h owes in omega arith)

dropped_since : (x : Option Since) → open_since (and_event Dropped x) ≡ None
dropped_since None = refl
dropped_since (Some x) = refl

dropped_quiet : (b : Bool) (now : ℕ) (logs : ℕ → Log) (d : Dialogue) → IsQuiet now (logs 0) d → IsQuiet now (with_drop b logs 0) d
dropped_quiet true now logs d h = inl (dropped_since (since_initiate (logs 0)))
dropped_quiet false now logs d h = h

-- the log of the default channel with what an input is to it
abbrev log_at : InputView → Log → Log
log_at (Framed frame) log = log
log_at Ticked log = Elapsed ∷ log
log_at (Applied event) log = log

comes_quiet : (input : InputView) (last now : ℕ) (log : Log) (d : Dialogue) → last + elapsed input ≤ now → IsQuiet last log d → IsQuiet now (log_at input log) d
comes_quiet (Framed frame) last now log d less h = later_quiet last now log d (omega arith) h
comes_quiet Ticked last now log d less h = ticked_quiet last now log d less h
comes_quiet (Applied event) last now log d less h = later_quiet last now log d (omega arith) h

-- ---- the time of the channels

all_timed : (k : Constants) (numbers : List ℕ)
    → AllByRecursion (λ (c : ChannelSettings). c.time ≡ k.time) (map (settings_for k.description k.start k.greatest k.time) (filter (is_channel k.start) numbers))
all_timed k [] = tt
all_timed k (n ∷ numbers) = by (is_channel k.start n) (all_timed k numbers)
  where
    by : (b : Bool) → AllByRecursion (λ (c : ChannelSettings). c.time ≡ k.time) (map (settings_for k.description k.start k.greatest k.time) (filter (is_channel k.start) numbers))
        → AllByRecursion (λ (c : ChannelSettings). c.time ≡ k.time)
        (map (settings_for k.description k.start k.greatest k.time) (if b then n ∷ filter (is_channel k.start) numbers else filter (is_channel k.start) numbers))
    by true later = (refl, later)
    by false later = later

timed : (k : Constants) → AllByRecursion (λ (c : ChannelSettings). c.time ≡ k.time) (channels k)
unfolding channels_below
timed k = all_timed k (range_with_len 0 128)

abbrev IsTimed : Constants → ChannelSettings → Type 0
IsTimed k c = IsNumbered k.description.node c × (c.time ≡ k.time)

both_of : (k : Constants) (all : List ChannelSettings) → AllByRecursion (IsNumbered k.description.node) all → AllByRecursion (λ c. c.time ≡ k.time) all → AllByRecursion (IsTimed k) all
both_of k [] x y = tt
both_of k (c ∷ others) x y = ((x.0, y.0), both_of k others x.1 y.1)

-- it is over: a transfer is open, and as many ticks came since the newest request
record IsOver (time : ℕ) (log : Log) : Type 0 where
  pub lasts : open_transfer log ≢ None
  pub some : 0 < time
  pub enough : time ≤ ticks_quiet log

over_by : (time : ℕ) (log : Log) (lasts some enough : Bool) → is_some (opened_after log) ≡ lasts → nat_lt 0 time ≡ some → nat_le time (ticks_quiet log) ≡ enough → (lasts && (some && enough)) ≡ true → IsOver time log
over_by time log true true true o s e h = record {
  lasts = λ none. absurd (false≢true (ap (λ t. is_some (opened t)) (sym none) ∙ o));
  some = grind (arith, nat_tests);
  enough = grind (arith, nat_tests);
}
over_by time log false some enough o s e h = absurd (false≢true h)
over_by time log true false enough o s e h = absurd (false≢true h)
over_by time log true true false o s e h = absurd (false≢true h)

over : (time : ℕ) (log : Log) → is_time_over time log ≡ true → IsOver time log
over time log h = over_by time log (is_some (opened_after log)) (nat_lt 0 time) (nat_le time (ticks_quiet log)) refl refl refl h

-- ---- an input

no_other : (kind : FrameKind) (found : Findings) → is_sdo kind ≡ false → timeout_differences kind found ≡ []
no_other (Sdo side frame) found off = absurd (false≢true (sym off))
no_other _ found off = refl

abbrev Quiets : ℕ → Log → Progress → Type 0
Quiets now log q = IsQuiet now log q.dialogue

mapped : (subject : Subject) (rows : List Row) (micros : ℕ) (frames : List FrameContent) (p : Progress) (x y : Progress → Type 0) → ((q : Progress) → x q → y q) → AllRun timeout_differences subject rows micros p frames x
    → AllRun timeout_differences subject rows micros p frames y
mapped subject rows micros [] p x y f h = f p h
mapped subject rows micros (frame ∷ later) p x y f h = (h.0, mapped subject rows micros later _ x y f h.1)

none_runs : (event : Option ChannelEvent) (subject : Subject) (rows : List Row) (micros : ℕ) (q : Progress) (after : Progress → Type 0) → event ≡ None → after q → AllRun timeout_differences subject rows micros q (frames_at event) after
none_runs event subject rows micros q after none h = subst (λ e. AllRun timeout_differences subject rows micros q (frames_at e) after) (sym none) h

unticked : (b : Bool) → ◌≡◌ {A = ℕ} (if b then 1000 else 0) 0 → b ≡ false
unticked true e = absurd (omega arith)
unticked false e = refl

-- the log after the exchange of an input
same_ticks : (tick : Bool) (event : Option ChannelEvent) (logs : ℕ → Log) (log : Log) → tick ≡ false → logs_after event logs 0 ≡ log → with_channel_ticks tick (logs_after event logs) 0 ≡ log
same_ticks true event logs log off is = absurd (false≢true (sym off))
same_ticks false event logs log off is = is

none_log : (event : Option ChannelEvent) (logs : ℕ → Log) → event ≡ None → logs_after event logs 0 ≡ logs 0
none_log event logs none = ap (λ e. logs_after e logs 0) none

record Given (k : Constants) (subject : Subject) (before : Inputs) (input : InputView) : Type 0 where
  pub answers : IsElsewhere (0x580 + k.description.node) input
  pub other : SendsOther k (moment k (moments k before) input)
  pub sync : is_sync_id (contents_of k before) (0x600 + k.description.node) ≡ false
  pub channels : AllByRecursion (IsNumbered k.description.node) (channels k)
  pub knows : KnowsTimeout k subject

module _ (k : Constants) (subject : Subject) (rows : List Row) (micros : ℕ) (before : Inputs) where
  abbrev logs : ℕ → Log
  logs = channel_logs (moments k before)

  -- before and after a time-out
  abbrev heard_log : InputView → Log
  heard_log input = with_channel_ticks (marked_tick (moment k (moments k before) input).mark) (logs_after (moment k (moments k before) input).exchange logs) 0

  abbrev last_log : InputView → Log
  last_log input =
      logs_after (moment k (moments k before) input).timed_out (with_channel_ticks (marked_tick (moment k (moments k before) input).mark) (logs_after (moment k (moments k before) input).exchange logs)) 0

  abbrev First : InputView → Progress → Type 0
  First input p =
      AllRun timeout_differences (of_device k subject) rows micros p (frame_of input)
      (λ q. AllRun timeout_differences (of_device k subject) rows micros q (frames_at (moment k (moments k before) input).exchange) (Quiets micros (heard_log input)))

  other_runs : (frames : List FrameContent) (log : Log) (p : Progress) → AllByRecursion (λ frame. IsOther k.description.node frame.id) frames → Quiets micros log p
      → AllRun timeout_differences (of_device k subject) rows micros p frames (Quiets micros log)
  other_runs frames log p other h = others_run timeout_differences no_other (IsQuiet micros log) (none_quiet micros log) (of_device k subject) rows micros frames p other h

  frame_ticks : (frame : FrameContent) → marked_tick (moment k (moments k before) (Framed frame)).mark ≡ false
  frame_ticks frame = unticked _ (took k (moments k before) (Framed frame))

  -- a frame without an answer of the default channel
  unanswered : (frame : FrameContent) (p : Progress) → (moment k (moments k before) (Framed frame)).exchange ≡ None
      → AllRun timeout_differences (of_device k subject) rows micros p (frame ∷ []) (Quiets micros (logs 0)) → First (Framed frame) p
  unanswered frame p none h =
      let e : Option ChannelEvent = (moment k (moments k before) (Framed frame)).exchange in
      let is : heard_log (Framed frame) ≡ logs 0 = same_ticks (marked_tick (moment k (moments k before) (Framed frame)).mark) e logs (logs 0) (frame_ticks frame) (none_log e logs none) in
      mapped (of_device k subject) rows micros (frame ∷ []) p (Quiets micros (logs 0)) _
      (λ q g. none_runs e (of_device k subject) rows micros q (Quiets micros (heard_log (Framed frame))) none (subst (λ log. Quiets micros log q) (sym is) g)) h

  ignored : (frame : FrameContent) (p : Progress) → frame.id ≡ 0x600 + k.description.node → AllRun timeout_differences (of_device k subject) rows micros p (frame ∷ []) (Quiets micros (logs 0))
  ignored frame p id =
      let s : Subject = of_device k subject in
      client_run s rows micros p frame [] (λ d. owes_nothing d.newest ≡ false) (Quiets micros (logs 0)) (request_kind k.description.node frame id)
      (client_owing s.limits.answer (begun s p micros).started (begun s p micros).dialogue micros frame) (λ q g. owing_quiet micros (logs 0) q.dialogue g)

  -- to a request
  abbrev answers : FrameContent → List FrameContent
  answers frame = frames_on (0x580 + k.description.node) (reply_to k.description (contents_of k before) (logs 0) frame.bytes)

  by_request : (frame : FrameContent) (p : Progress) → Given k subject before (Framed frame) → frame.id ≡ 0x600 + k.description.node → First (Framed frame) p
  by_request frame p g id = by (is_state node.Stopped (state_of k before)) (length frame.bytes == 8) refl refl
    where
      m : Moment
      m = moment k (moments k before) (Framed frame)

      by : (stopped eight : Bool) → is_state node.Stopped (state_of k before) ≡ stopped → (length frame.bytes == 8) ≡ eight → First (Framed frame) p
      by true eight on e = unanswered frame p (none_stopped k (moments k before) (Framed frame) on) (ignored frame p id)
      by false false on e = unanswered frame p (served_is k (moments k before) frame false e id g.sync on) (ignored frame p id)
      by false true on e =
          let is = served_is k (moments k before) frame true e id g.sync on in
          let few : length (answers frame) ≤ 127 =
          subst (λ x. length (frames_at x) ≤ 127) is (few_exchanged k before (Framed frame)) in
          let zero : ticks_quiet (heard_log (Framed frame)) ≡ 0 =
          subst (λ x. ticks_quiet (with_channel_ticks (marked_tick m.mark) (logs_after x logs) 0) ≡ 0) (sym is)
          (subst (λ b. ticks_quiet (with_channel_ticks b (logs_after (Some (exchange_on (default_channel k) k.description (contents_of k before) (logs 0) frame.bytes)) logs) 0) ≡ 0) (sym (frame_ticks frame)) refl) in
          subst (λ x. AllRun timeout_differences (of_device k subject) rows micros p (frame ∷ []) (λ q. AllRun timeout_differences (of_device k subject) rows micros q (frames_at x) (Quiets micros (heard_log (Framed frame)))))
          (sym is)
          (mapped (of_device k subject) rows micros (frame ∷ []) p
          (λ q. AllRun timeout_differences (of_device k subject) rows micros q (answers frame) (EndAt micros))
          (λ q. AllRun timeout_differences (of_device k subject) rows micros q (answers frame) (Quiets micros (heard_log (Framed frame))))
          (λ q h. mapped (of_device k subject) rows micros (answers frame) q (EndAt micros) (Quiets micros (heard_log (Framed frame))) (λ x at. at_quiet micros (heard_log (Framed frame)) x.dialogue zero at) h)
          (exchange_runs (of_device k subject) rows micros k.description (contents_of k before) (logs 0) frame p id few))

  first_frames : (input : InputView) (p : Progress) → Given k subject before input → Quiets micros (log_at input (logs 0)) p → First input p
  first_frames Ticked p g h = h
  first_frames (Applied event) p g h =
      let e : Option ChannelEvent = (moment k (moments k before) (Applied event)).exchange in
      let none : e ≡ None = no_exchange_of_event k (moments k before) event in
      let is : heard_log (Applied event) ≡ logs 0 = same_ticks (marked_tick (moment k (moments k before) (Applied event)).mark) e logs (logs 0) (unticked _ (took k (moments k before) (Applied event))) (none_log e logs none) in
      none_runs e (of_device k subject) rows micros p (Quiets micros (heard_log (Applied event))) none (subst (λ log. Quiets micros log p) (sym is) h)
  first_frames (Framed frame) p g h = by (frame.id == 0) (frame.id == 0x600 + k.description.node) refl refl
    where
      by : (command request : Bool) → (frame.id == 0) ≡ command → (frame.id == 0x600 + k.description.node) ≡ request → First (Framed frame) p
      by true request is r = unanswered frame p (nmt_exchange k (moments k before) frame is) (other_runs (frame ∷ []) (logs 0) p (nmt_other k subject rows micros before frame is, tt) h)
      by false true is r = by_request frame p g (eqb-true frame.id (0x600 + k.description.node) r)
      by false false is r =
          let e : Option ChannelEvent = (moment k (moments k before) (Framed frame)).exchange in
          let other : IsOther k.description.node frame.id = (g.answers, not_equal frame.id (0x600 + k.description.node) r) in
          let same : heard_log (Framed frame) ≡ logs 0 =
          same_ticks (marked_tick (moment k (moments k before) (Framed frame)).mark) e logs (logs 0) (frame_ticks frame) (same_log e logs (another_exchange k (moments k before) frame g.channels other.1)) in
          mapped (of_device k subject) rows micros (frame ∷ []) p (Quiets micros (logs 0)) _
          (λ q h. other_runs (frames_at e) (heard_log (Framed frame)) q (only_other k.description.node _ (calm_exchange k (moments k before) frame g.channels other.1)) (subst (λ log. Quiets micros log q) (sym same) h))
          (other_runs (frame ∷ []) (logs 0) p (other, tt) h)

  -- an abort of the default channel, whose time is over
  abort_runs : (c : ChannelSettings) (q : Progress) → KnowsTimeout k subject → c.time ≡ k.time → c.number ≡ 0 → is_time_over c.time (Elapsed ∷ logs c.number) ≡ true → Quiets micros (Elapsed ∷ logs 0) q
      → AllRun timeout_differences (of_device k subject) rows micros q (frames_on (0x580 + k.description.node) (time_out_reply (Elapsed ∷ logs c.number))) (λ x. Unit {0})
  abort_runs c q knows time zero expired h =
      let s : Subject = of_device k subject in
      let bytes : List ℕ = answer_bytes (Replied (Refuse (open_key (opened_after (Elapsed ∷ logs c.number))) (record { 0 = timed_out_code }))) in
      let frame : FrameContent = record { id = 0x580 + k.description.node; bytes = bytes } in
      let own : IsOver k.time (Elapsed ∷ logs 0) = over k.time (Elapsed ∷ logs 0) (subst (λ t. is_time_over t (Elapsed ∷ logs 0) ≡ true) time (subst (λ n. is_time_over c.time (Elapsed ∷ logs n) ≡ true) zero expired)) in
      let here : IsQuiet micros (Elapsed ∷ logs 0) (begun s q micros).dialogue = begun_has (IsQuiet micros (Elapsed ∷ logs 0)) (none_quiet micros (Elapsed ∷ logs 0)) s q micros h in
      server_run s rows micros q frame [] (λ d. Unit {0}) (λ x. Unit {0}) (answer_kind k.description.node bytes)
      (once_over s (begun s q micros).started (begun s q micros).dialogue micros frame k.time knows own.some (waited (begun s q micros).dialogue own here)) tt (λ x g. tt)
    where
      waited : (d : Dialogue) → IsOver k.time (Elapsed ∷ logs 0) → IsQuiet micros (Elapsed ∷ logs 0) d → owes_nothing d.newest ≡ true → d.requested + k.time * 1000 ≤ micros
      waited d own (inl none) owes = absurd (own.lasts none)
      waited d own (inr h) owes = let e : k.time ≤ ticks_quiet (Elapsed ∷ logs 0) = own.enough in let room : d.requested + ticks_quiet (Elapsed ∷ logs 0) * 1000 ≤ micros = h owes in omega arith

  abbrev RunsOf : ChannelEvent → Type 0
  RunsOf e = (q : Progress) → Quiets micros (Elapsed ∷ logs 0) q
      → AllRun timeout_differences (of_device k subject) rows micros q (frames_on e.channel.response e.responses) (Quiets micros (logs_after (Some e) (with_each Elapsed logs) 0))

  one_timed : (c : ChannelSettings) → KnowsTimeout k subject → IsTimed k c → is_time_over c.time (Elapsed ∷ logs c.number) ≡ true → RunsOf (time_out_on c (Elapsed ∷ logs c.number))
  one_timed c knows n expired = by (0 == c.number) refl
    where
      by : (b : Bool) → (0 == c.number) ≡ b → RunsOf (time_out_on c (Elapsed ∷ logs c.number))
      by true is = λ q h.
          subst (λ i. AllRun timeout_differences (of_device k subject) rows micros q (frames_on i (time_out_reply (Elapsed ∷ logs c.number))) (Quiets micros (logs_after (Some (time_out_on c (Elapsed ∷ logs c.number))) (with_each Elapsed logs) 0)))
          (sym (n.0.first (zero_is c.number is)).1)
          (mapped (of_device k subject) rows micros (frames_on (0x580 + k.description.node) (time_out_reply (Elapsed ∷ logs c.number))) q (λ x. Unit {0})
          (Quiets micros (logs_after (Some (time_out_on c (Elapsed ∷ logs c.number))) (with_each Elapsed logs) 0))
          (λ x g. inl (ap (λ b. open_transfer (if b then TimedOut (time_out_reply (Elapsed ∷ logs c.number)) ∷ Elapsed ∷ logs 0 else Elapsed ∷ logs 0)) is ∙ ended (Elapsed ∷ logs 0) (time_out_reply (Elapsed ∷ logs c.number))))
          (abort_runs c q knows n.1 (zero_is c.number is) expired h))
      by false is = λ q h.
          other_runs (frames_on c.response (time_out_reply (Elapsed ∷ logs c.number))) (logs_after (Some (time_out_on c (Elapsed ∷ logs c.number))) (with_each Elapsed logs) 0) q
          (answers_other k.description.node c.response (time_out_reply (Elapsed ∷ logs c.number)) (n.0.other (not_zero c.number is)))
          (subst (λ log. Quiets micros log q) (sym (ap (λ b. if b then TimedOut (time_out_reply (Elapsed ∷ logs c.number)) ∷ Elapsed ∷ logs 0 else Elapsed ∷ logs 0) is)) h)

  runs_by : (event : Option ChannelEvent) → IfSome event RunsOf → (q : Progress) → Quiets micros (Elapsed ∷ logs 0) q
      → AllRun timeout_differences (of_device k subject) rows micros q (frames_at event) (Quiets micros (logs_after event (with_each Elapsed logs) 0))
  runs_by None h q g = g
  runs_by (Some e) h q g = h q g

  tick_runs : Given k subject before Ticked → (q : Progress) → Quiets micros (heard_log Ticked) q
      → AllRun timeout_differences (of_device k subject) rows micros q (frames_at (moment k (moments k before) Ticked).timed_out) (Quiets micros (last_log Ticked))
  tick_runs g q h =
      runs_by (moment k (moments k before) Ticked).timed_out
      (timed_out RunsOf k (moments k before) Ticked
      (some_map (expired_at k (moments k before)) (λ c. IsTimed k c × (is_time_over c.time (Elapsed ∷ logs c.number) ≡ true)) (λ c. RunsOf (time_out_on c (Elapsed ∷ logs c.number)))
      (λ c found. one_timed c g.knows found.0 found.1)
      (found_with (IsTimed k) (λ c. is_time_over c.time (Elapsed ∷ logs c.number)) (channels k) (both_of k (channels k) g.channels (timed k)))))
      q h

  time_runs : (input : InputView) → Given k subject before input → (q : Progress) → Quiets micros (heard_log input) q
      → AllRun timeout_differences (of_device k subject) rows micros q (frames_at (moment k (moments k before) input).timed_out) (Quiets micros (last_log input))
  time_runs Ticked g q h = tick_runs g q h
  time_runs (Framed frame) g q h = no_time_out (Framed frame) (none_at_frame k (moments k before) frame) q h
    where
      no_time_out : (input : InputView) → (moment k (moments k before) input).timed_out ≡ None → (q : Progress) → Quiets micros (heard_log input) q
          → AllRun timeout_differences (of_device k subject) rows micros q (frames_at (moment k (moments k before) input).timed_out) (Quiets micros (last_log input))
      no_time_out input none q h =
          none_runs (moment k (moments k before) input).timed_out (of_device k subject) rows micros q (Quiets micros (last_log input)) none
          (subst (λ log. Quiets micros log q) (sym (none_log (moment k (moments k before) input).timed_out (with_channel_ticks (marked_tick (moment k (moments k before) input).mark) (logs_after (moment k (moments k before) input).exchange logs)) none)) h)
  time_runs (Applied event) g q h =
      let input : InputView = Applied event in
      let none : (moment k (moments k before) input).timed_out ≡ None = none_at_event k (moments k before) event in
      none_runs (moment k (moments k before) input).timed_out (of_device k subject) rows micros q (Quiets micros (last_log input)) none
      (subst (λ log. Quiets micros log q) (sym (none_log (moment k (moments k before) input).timed_out (with_channel_ticks (marked_tick (moment k (moments k before) input).mark) (logs_after (moment k (moments k before) input).exchange logs)) none)) h)

  input_runs : (input : InputView) (p : Progress) → Given k subject before input → Quiets micros (log_at input (logs 0)) p
      → AllRun timeout_differences (of_device k subject) rows micros p (frame_of input ++ prescribed k before input) (Quiets micros (channel_logs (moments k (input ∷ before)) 0))
  input_runs input p given h =
      let s : Subject = of_device k subject in
      let m : Moment = moment k (moments k before) input in
      let a : List FrameContent = frames_at m.exchange in
      let b : List FrameContent = frames_at m.timed_out in
      let c : List FrameContent = emergency_frames m.contents m.emergency in
      let d : List FrameContent = life_frames k.description.node m.life in
      let e : List FrameContent = map (tpdo_frame k.description m.contents) m.due in
      let log : Log = last_log input in
      let heard : Progress → Type 0 = Quiets micros (heard_log input) in
      let last : Progress → Type 0 = Quiets micros log in
      mapped s rows micros (frame_of input ++ prescribed k before input) p last _
      (λ q g. dropped_quiet (drops m (moments k before)) micros (logs_after m.timed_out (with_channel_ticks (marked_tick m.mark) (logs_after m.exchange logs))) q.dialogue g)
      (joined timeout_differences s rows micros (frame_of input) (prescribed k before input) p (λ q. AllRun timeout_differences s rows micros q a heard) last (first_frames input p given h)
      (λ q answered. joined timeout_differences s rows micros (a ++ b ++ c ++ d) e q last last
      (joined timeout_differences s rows micros (a ++ b ++ c) d q last last
      (joined timeout_differences s rows micros (a ++ b) c q last last
      (joined timeout_differences s rows micros a b q heard last answered (λ x g. time_runs input given x g))
      (λ x g. other_runs c log x given.other.emergency g))
      (λ x g. life_run timeout_differences no_other (IsQuiet micros log) (none_quiet micros log) s rows micros m.life x g))
      (λ x g. other_runs e log x given.other.tpdos g)))

-- ---- all inputs

abbrev AllGiven : Constants → Subject → Inputs → List Stamped → Type 0
AllGiven k subject before [] = Unit {0}
AllGiven k subject before (s ∷ later) = Given k subject before s.input × AllGiven k subject (s.input ∷ before) later

given_all : (k : Constants) (subject : Subject) (inputs : List Stamped) (before : Inputs) → KnowsTimeout k subject → AreElsewhere (0x580 + k.description.node) inputs → AllSendOther k before inputs
    → ((all : Inputs) → is_sync_id (contents_of k all) (0x600 + k.description.node) ≡ false) → AllByRecursion (IsNumbered k.description.node) (channels k) → AllGiven k subject before inputs
given_all k subject [] before knows answers other sync all = tt
given_all k subject (s ∷ later) before knows answers other sync all = (
  record { answers = answers.0; other = other.0; sync = sync before; channels = all; knows = knows },
  given_all k subject later (s.input ∷ before) knows answers.1 other.1 sync all,
)

step : (k : Constants) (subject : Subject) (rows : List Row) (s : Stamped) (later : List Stamped) (before : Inputs) (p : Progress) → Given k subject before s.input → Quiets s.micros (log_at s.input (channel_logs (moments k before) 0)) p
    → ((q : Progress) → Quiets s.micros (channel_logs (moments k (s.input ∷ before)) 0) q → differences_from timeout_differences (of_device k subject) rows q (heard_from k (s.input ∷ before) later) ≡ [])
    → differences_from timeout_differences (of_device k subject) rows p (heard_from k before (s ∷ later)) ≡ []
step k subject rows s later before p given h rest =
    then_none timeout_differences (of_device k subject) rows s.micros (frame_of s.input ++ prescribed k before s.input) (heard_from k (s.input ∷ before) later) p
    (Quiets s.micros (channel_logs (moments k (s.input ∷ before)) 0)) (input_runs k subject rows s.micros before s.input p given h) rest

all_none : (k : Constants) (subject : Subject) (rows : List Row) (inputs : List Stamped) (before : Inputs) (last : ℕ) (p : Progress) → AreSpaced last inputs → AllGiven k subject before inputs
    → Quiets last (channel_logs (moments k before) 0) p → differences_from timeout_differences (of_device k subject) rows p (heard_from k before inputs) ≡ []
all_none k subject rows [] before last p time given h = refl
all_none k subject rows (s ∷ later) before last p time given h =
    step k subject rows s later before p given.0 (comes_quiet s.input last s.micros (channel_logs (moments k before) 0) p.dialogue time.0 h)
    (λ q g. all_none k subject rows later (s.input ∷ before) s.micros q time.1 given.1 g)

-- before the first one nothing is open
first_quiet : (input : InputView) (now : ℕ) (d : Dialogue) → IsQuiet now (log_at input []) d
first_quiet (Framed frame) now d = inl refl
first_quiet Ticked now d = inl refl
first_quiet (Applied event) now d = inl refl

of_recording : (k : Constants) (subject : Subject) (rows : List Row) (inputs : List Stamped) → AreUnhurried inputs → AllGiven k subject [] inputs
    → differences_in timeout_differences (of_device k subject) rows (recording k inputs) ≡ []
of_recording k subject rows [] time given = refl
of_recording k subject rows (s ∷ later) time given =
    then_none timeout_differences (of_device k subject) rows s.micros (boot_up k ∷ []) (heard_from k [] (s ∷ later)) (before_recording (of_device k subject)) (λ q. Unit {0})
    (life_run timeout_differences no_other (λ d. Unit {0}) (λ d none. tt) (of_device k subject) rows s.micros (Some BootUp) (before_recording (of_device k subject)) tt)
    (λ q g. step k subject rows s later [] q given.0 (first_quiet s.input s.micros q.dialogue) (λ x h. all_none k subject rows later (s.input ∷ []) s.micros x time given.1 h))

pub no_early_aborts : (k : Constants) (subject : Subject) (rows : List Row) (inputs : List Stamped) → subject.node ≡ k.description.node → KnowsTimeout k subject → AreUnhurried inputs
    → AreElsewhere (0x580 + k.description.node) inputs → AllSendOther k [] inputs → ((all : Inputs) → is_sync_id (contents_of k all) (0x600 + k.description.node) ≡ false) → HaveOtherChannels k
    → AllByRecursion (λ c. IsAside k.description.node c.response) (channels k) → differences_in timeout_differences subject rows (recording k inputs) ≡ []
no_early_aborts k subject rows inputs is knows time answers other sync others aside =
    subst (λ n. differences_in timeout_differences (record subject { node = n }) rows (recording k inputs) ≡ []) (sym is)
    (of_recording k subject rows inputs time (given_all k subject inputs [] knows answers other sync (numbered k others aside)))
