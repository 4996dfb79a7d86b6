-- All inputs of a device: what its transfers show of an entry is what the entry has, where it has that throughout and no expedited
-- download of it is confirmed.
use Rattle.std.proofs.Common.{◌≡◌, ℕ, ◌+◌, Bool, true, false, List, [], ◌∷◌, ◌++◌, map, length, Option, Some, None, refl, sym, ap, ◌∙◌, ◌⊎◌, inl, inr, subst}
use Rattle.std.specs.Prelude.{◌==◌, IfSome}
use Rattle.std.specs.List.{AllByRecursion}
use Rattle.std.proofs.lemmas.Bool.{eqb-true, false≢true}
use Rattle.co_value.specs.declared.key.Key.{Key}
use Rattle.co_frame_aborts.specs.AbortCodes.{timed_out as timed_out_code}
use Rattle.co_frame.specs.FrameContent.{FrameContent}
use Rattle.co_frame.specs.Heartbeats.{heartbeat_bytes}
use Rattle.co_frame.specs.SdoRequests.{request_in}
use Rattle.co_frame.specs.declared.heartbeat.Heartbeat.{Heartbeat}
use Rattle.co_frame.specs.declared.heartbeat.Heartbeat.TheVariants.{BootUp}
use Rattle.co_frame.specs.declared.sdo_request.SdoRequest.{SdoRequest}
use Rattle.co_sdo.specs.Channels.{ChannelSettings}
use Rattle.co_sdo.specs.Events.{ChannelEvent, frames_at, time_out_on}
use Rattle.co_sdo.specs.Log.{Answer, Log, Ticked as Elapsed, answer_bytes, frames_on}
use Rattle.co_sdo.specs.Opened.{is_time_over, opened_after}
use Rattle.co_sdo.specs.OpenTransfers.{is_initiate as initiates}
use Rattle.co_sdo.specs.Replies.{open_key, reply_to, time_out_reply}
use Rattle.co_node_parts.specs.declared.nmt_state.NodeState.TheVariants as node
use Rattle.co_node_parts.specs.NmtStates.{is_state}
use Rattle.co_node_model.specs.Device.{contents_of, moment, moments, prescribed, state_of}
use Rattle.co_node_model.specs.Emergencies.{emergency_frames}
use Rattle.co_node_model.specs.Heartbeats.{boot_up, life_frames}
use Rattle.co_node_model.specs.Inputs.{Applied, Framed, Inputs, InputView, Ticked}
use Rattle.co_node_model.specs.Moments.{Constants, Moment, channels}
use Rattle.co_node_model.specs.Sdo.{channel_logs}
use Rattle.co_node_model.specs.Sync.{is_sync_id}
use Rattle.co_node_model.specs.Tpdos.{tpdo_frame}
use Rattle.conode_explain_transfers.specs.declared.kinds.Side.{Side}
use Rattle.conode_explain_transfers.specs.declared.kinds.Side.TheVariants.{Client, Server}
use Rattle.conode_explain_transfers.specs.declared.transfer.Transfer.{Transfer}
use Rattle.conode_explain_transfers.specs.Followed.{followed}
use Rattle.conode_compare_transfers.specs.declared.dialogue.Dialogue.{Dialogue}
use Rattle.conode_compare_transfers.specs.Dialogues.{dialogue_heard}
use Rattle.conode_explain_transfers.specs.Followed.{Followed, Following}
use Rattle.conode_explain_laws.proofs.Readings.{same as same_reading}
use Rattle.conode_compare_rules.specs.declared.kind.FrameKind.{FrameKind}
use Rattle.conode_compare_rules.specs.declared.kind.FrameKind.TheVariants.{Sdo}
use Rattle.conode_compare_nmt.specs.declared.limits.Subject.{Subject}
use Rattle.conode_compare_rules.specs.declared.progress.Progress.{Progress}
use Rattle.conode_compare_rules.specs.FrameKinds.{data_kind}
use Rattle.conode_compare_rules.specs.Gaps.{before_recording, begun}
use Rattle.conode_compare_rules.specs.Channels.{channel_heard, exchange_noted, late_noted, left_open, may_miss_end}
use Rattle.conode_compare_rules.specs.Progresses.{after_frame, progress_with}
use Rattle.conode_compare_laws.specs.AnswerSenders.{AllSendOther, AreOther, HasBytes, HaveBytes, HaveOtherChannels, IsOther, SendsOther}
use Rattle.conode_compare_laws.specs.Identifiers.{AreElsewhere, IsAside, IsElsewhere}
use Rattle.conode_compare_laws.specs.ShownWords.{AllHaveWord, HasWord, is_expedited_download, number_asked}
use Rattle.conode_compare_laws.specs.Recordings.{Stamped, frame_of, heard_from, recording}
use Rattle.conode_compare_laws.proofs.AnswerDataFrames.{open_channel}
use Rattle.conode_compare_laws.proofs.AnswerCalm.{calm_exchange}
use Rattle.conode_compare_laws.proofs.AnswerDevice.{IsNumbered, expired_at, found_with, no_exchange_of_event, none_at_event, none_at_frame, none_stopped, numbered, timed_out}
use Rattle.conode_compare_laws.proofs.AnswerDialogues.{channel_is}
use Rattle.conode_compare_laws.proofs.AnswerExchange.{answer_kind, request_kind}
use Rattle.conode_compare_laws.proofs.AnswerFollowed.{reads}
use Rattle.conode_compare_laws.proofs.AnswerInputs.{nmt_exchange, served_is}
use Rattle.conode_compare_laws.proofs.AnswerTimeOuts.{not_zero, zero_is}
use Rattle.conode_compare_laws.proofs.AnswerOthers.{begun_has, is_sdo, kind_has, other_kind}
use Rattle.conode_compare_laws.proofs.AnswerSteps.{some_map}
use Rattle.conode_compare_laws.proofs.AnswerTransferInputs.{answers_other, nmt_other, not_equal, only_other}
use Rattle.conode_compare_laws.proofs.ExpeditedAnswers.{AllFit, aborted_fits, answers_fit}
use Rattle.conode_compare_laws.proofs.ExpeditedFrames.{After, Fits, Keeps, server_after}
use Rattle.conode_compare_laws.proofs.ExpeditedRefusals.{AllRefuse, AllRefused, RefusesAt, aborted_refused}
use Rattle.conode_compare_laws.proofs.ExpeditedSame.{AfterSure, server_sure, sure_held}
use Rattle.conode_compare_laws.proofs.ExpeditedWrites.{AfterAll, AllSure, HeardAll, Holds, Next, NotDone, begins, client_all, goes_on, less_held, lifted, server_all, writes}
use Rattle.conode_compare_laws.proofs.Frames.{life_kind}
use Rattle.conode_compare_laws.proofs.Heard.{of_device}
use Rattle.conode_compare_laws.proofs.ShowsWord.{AllShow, Shown, ShowsAt, ShowsFrom, joined_shows, mapped_shows, then_shows}

module _ (key : Key) (word : ℕ) where
  -- ---- what compare has

  abbrev pub Has : Bool → Progress → Type 0
  Has spoilt p = Holds key spoilt p.dialogue.channel.transfer

  not_sdo : (p : Progress) (micros : ℕ) (kind : FrameKind) → is_sdo kind ≡ false → ShowsAt key word p micros kind
  not_sdo p micros (Sdo side frame) off = absurd (false≢true (sym off))
  not_sdo p micros _ off = tt

  kind_shows : (spoilt : Bool) (subject : Subject) (micros : ℕ) (p : Progress) (frame : FrameContent) (later : List FrameContent) (after : Progress → Type 0) → is_sdo (data_kind subject.node frame) ≡ false → Has spoilt p
      → ((q : Progress) → Has spoilt q → AllShow key word subject micros q later after) → AllShow key word subject micros p (frame ∷ later) after
  unfolding progress_with
  kind_shows spoilt subject micros p frame later after off h rest = (
    not_sdo (begun subject p micros) micros (data_kind subject.node frame) off,
    rest (after_frame subject (begun subject p micros) micros (data_kind subject.node frame))
        (kind_has (Holds key spoilt) tt subject (begun subject p micros) micros (data_kind subject.node frame) off (begun_has (Holds key spoilt) tt subject p micros h)),
  )

  pub others_show : (subject : Subject) (micros : ℕ) (frames : List FrameContent) (p : Progress) → AreOther subject.node frames → Has false p → AllShow key word subject micros p frames (Has false)
  others_show subject micros [] p other h = h
  others_show subject micros (frame ∷ later) p other h =
      kind_shows false subject micros p frame later (Has false) (other_kind subject.node frame other.0) h (λ q g. others_show subject micros later q other.1 g)

  pub life_shows : (subject : Subject) (micros : ℕ) (life : Option Heartbeat) (p : Progress) → Has false p → AllShow key word subject micros p (life_frames subject.node life) (Has false)
  life_shows subject micros None p h = h
  life_shows subject micros (Some life) p h =
      kind_shows false subject micros p (record { id = 0x700 + subject.node; bytes = heartbeat_bytes life }) [] (Has false) (ap is_sdo (life_kind subject.node life)) h (λ q g. g)

  -- ---- a frame of the channel

  sdo_after : (subject : Subject) (p : Progress) (micros : ℕ) (side : Side) (frame : FrameContent) (After : Dialogue → Type 0) → After (left_open side (may_miss_end p.nmt micros frame) (dialogue_heard subject.limits.answer p.started p.dialogue micros side frame))
      → After (after_frame subject p micros (Sdo side frame)).dialogue
  unfolding channel_heard exchange_noted late_noted
  sdo_after subject p micros Server frame After h = h
  sdo_after subject p micros Client frame After h = h

  ended_is : (following : Following) (micros : ℕ) (side : Side) (bytes : List ℕ) → (followed following micros side bytes).says.ended ≡ (reads following micros side bytes).says.ended
  ended_is following micros side bytes = ap (λ (f : Followed). f.says.ended) (same_reading following.heard following.transfer micros side bytes bytes).followed

  sdo_shows : (subject : Subject) (micros : ℕ) (p : Progress) (frame : FrameContent) (later : List FrameContent) (side : Side) (Next : Option Transfer → Type 0) (after : Progress → Type 0) → data_kind subject.node frame ≡ Sdo side frame
      → IfSome (reads (begun subject p micros).dialogue.channel micros side frame.bytes).says.ended (Shown key word) → Next (reads (begun subject p micros).dialogue.channel micros side frame.bytes).next.transfer
      → ((q : Progress) → Next q.dialogue.channel.transfer → AllShow key word subject micros q later after) → AllShow key word subject micros p (frame ∷ later) after
  unfolding progress_with
  sdo_shows subject micros p frame later side Next after is shown next rest =
      let q : Progress = begun subject p micros in
      let after_it : Next (after_frame subject q micros (Sdo side frame)).dialogue.channel.transfer =
      sdo_after subject q micros side frame (λ d. Next d.channel.transfer) (subst (λ (f : Following). Next f.transfer) (sym (open_channel side _ _ ∙ channel_is subject.limits.answer q.started q.dialogue micros side frame)) next) in
      subst (λ kind. ShowsAt key word (begun subject p micros) micros kind × AllShow key word subject micros (after_frame subject (begun subject p micros) micros kind) later after) (sym is)
      (subst (λ o. IfSome o (Shown key word)) (sym (ended_is q.dialogue.channel micros side frame.bytes)) shown, rest (after_frame subject q micros (Sdo side frame)) after_it)

  -- answers: to a request that begins no transfer, whatever they are; or such as fit, and confirm no download of the entry
  answers_show : (spoilt : Bool) (subject : Subject) (micros : ℕ) (answers : List Answer) (q : Progress) → (spoilt ≡ true) ⊎ (AllFit key word answers × AllRefused key answers) → Has spoilt q
      → AllShow key word subject micros q (frames_on (0x580 + subject.node) answers) (Has spoilt)
  answers_show spoilt subject micros [] q f h = h
  answers_show spoilt subject micros (answer ∷ later) q f h =
      let p : Progress = begun subject q micros in
      let one : AfterAll key word spoilt (reads p.dialogue.channel micros Server (answer_bytes answer)) =
      server_all key word spoilt p.dialogue.channel micros (answer_bytes answer) (begun_has (Holds key spoilt) tt subject q micros h) (first f) in
      sdo_shows subject micros q (record { id = 0x580 + subject.node; bytes = answer_bytes answer }) (frames_on (0x580 + subject.node) later) Server (Holds key spoilt) (Has spoilt)
      (answer_kind subject.node (answer_bytes answer)) one.ended one.next (λ x g. answers_show spoilt subject micros later x (rest f) g)
    where
      first : (spoilt ≡ true) ⊎ (AllFit key word (answer ∷ later) × AllRefused key (answer ∷ later)) → (spoilt ≡ true) ⊎ (Fits key word (answer_bytes answer) × NotDone key (answer_bytes answer))
      first (inl s) = inl s
      first (inr all) = inr (all.0.0, all.1.0)

      rest : (spoilt ≡ true) ⊎ (AllFit key word (answer ∷ later) × AllRefused key (answer ∷ later)) → (spoilt ≡ true) ⊎ (AllFit key word later × AllRefused key later)
      rest (inl s) = inl s
      rest (inr all) = inr (all.0.1, all.1.1)

  -- answers that fit, to a request that is no expedited download of the entry
  fits_show : (subject : Subject) (micros : ℕ) (answers : List Answer) (q : Progress) → AllFit key word answers → Keeps key false q.dialogue.channel.transfer
      → AllShow key word subject micros q (frames_on (0x580 + subject.node) answers) (λ x. Keeps key false x.dialogue.channel.transfer)
  fits_show subject micros [] q f h = h
  fits_show subject micros (answer ∷ later) q f h =
      let p : Progress = begun subject q micros in
      let one : After key word false (reads p.dialogue.channel micros Server (answer_bytes answer)) =
      server_after key word false p.dialogue.channel micros (answer_bytes answer) (begun_has (Keeps key false) tt subject q micros h) (inr f.0) in
      sdo_shows subject micros q (record { id = 0x580 + subject.node; bytes = answer_bytes answer }) (frames_on (0x580 + subject.node) later) Server (Keeps key false) (λ x. Keeps key false x.dialogue.channel.transfer)
      (answer_kind subject.node (answer_bytes answer)) one.ended one.next (λ x g. fits_show subject micros later x f.1 g)

  -- such answers to one that asks for the number that the entry has
  sure_show : (subject : Subject) (micros : ℕ) (answers : List Answer) (q : Progress) → AllFit key word answers → AllSure key word q.dialogue.channel.transfer
      → AllShow key word subject micros q (frames_on (0x580 + subject.node) answers) (λ x. AllSure key word x.dialogue.channel.transfer)
  sure_show subject micros [] q f h = h
  sure_show subject micros (answer ∷ later) q f h =
      let p : Progress = begun subject q micros in
      let one : AfterSure key word (reads p.dialogue.channel micros Server (answer_bytes answer)) =
      server_sure key word p.dialogue.channel micros (answer_bytes answer) (begun_has (AllSure key word) tt subject q micros h) f.0 in
      sdo_shows subject micros q (record { id = 0x580 + subject.node; bytes = answer_bytes answer }) (frames_on (0x580 + subject.node) later) Server (AllSure key word) (λ x. AllSure key word x.dialogue.channel.transfer)
      (answer_kind subject.node (answer_bytes answer)) one.ended one.next (λ x g. sure_show subject micros later x f.1 g)

  -- a request that isn't answered, and one with its answers
  module _ (subject : Subject) (micros : ℕ) (frame : FrameContent) (p : Progress) (id : frame.id ≡ 0x600 + subject.node) (h : Has false p) where
    heard : HeardAll key word (request_in frame.bytes) (reads (begun subject p micros).dialogue.channel micros Client frame.bytes)
    heard = client_all key word (begun subject p micros).dialogue.channel micros frame.bytes (begun_has (Holds key false) tt subject p micros h)

    any_next : (r : Option SdoRequest) (o : Option Transfer) → Next key word r o → Holds key false o
    any_next r o (begins i k) = lifted key false o k
    any_next r o (writes i own k sure) = k
    any_next r o (goes_on k) = less_held key o k

    pub ignored_shows : AllShow key word subject micros p (frame ∷ []) (Has false)
    ignored_shows =
        sdo_shows subject micros p frame [] Client (Next key word (request_in frame.bytes)) (Has false) (request_kind subject.node frame id) heard.ended heard.next
        (λ q g. any_next (request_in frame.bytes) q.dialogue.channel.transfer g)

    answered : (answers : List Answer) (q : Progress) → (initiates (request_in frame.bytes) ≡ true → AllFit key word answers) → (is_expedited_download key (request_in frame.bytes) ≡ true → (number_asked (request_in frame.bytes) ≡ word) ⊎ AllRefused key answers)
        → Next key word (request_in frame.bytes) q.dialogue.channel.transfer → AllShow key word subject micros q (frames_on (0x580 + subject.node) answers) (Has false)
    answered answers q fit refused (begins i k) =
        mapped_shows key word subject micros (frames_on (0x580 + subject.node) answers) q (λ x. Keeps key false x.dialogue.channel.transfer) (Has false) (λ x g. lifted key false x.dialogue.channel.transfer g)
        (fits_show subject micros answers q (fit i) k)
    answered answers q fit refused (writes i own k sure) = elim (refused own) [
      | inl asked ↦
          mapped_shows key word subject micros (frames_on (0x580 + subject.node) answers) q (λ x. AllSure key word x.dialogue.channel.transfer) (Has false) (λ x g. sure_held key word x.dialogue.channel.transfer g)
          (sure_show subject micros answers q (fit i) (sure asked))
      | inr none ↦ answers_show false subject micros answers q (inr (fit i, none)) k
    ]
    answered answers q fit refused (goes_on k) =
        mapped_shows key word subject micros (frames_on (0x580 + subject.node) answers) q (Has true) (Has false) (λ x g. less_held key x.dialogue.channel.transfer g) (answers_show true subject micros answers q (inl refl) k)

    exchange_shows : (answers : List Answer) → (initiates (request_in frame.bytes) ≡ true → AllFit key word answers) → (is_expedited_download key (request_in frame.bytes) ≡ true → (number_asked (request_in frame.bytes) ≡ word) ⊎ AllRefused key answers)
        → AllShow key word subject micros p (frame ∷ []) (λ q. AllShow key word subject micros q (frames_on (0x580 + subject.node) answers) (Has false))
    exchange_shows answers fit refused =
        sdo_shows subject micros p frame [] Client (Next key word (request_in frame.bytes)) (λ q. AllShow key word subject micros q (frames_on (0x580 + subject.node) answers) (Has false)) (request_kind subject.node frame id)
        heard.ended heard.next (λ q g. answered answers q fit refused g)

  -- ---- an input

  -- the answers to a request with data have this number, and no expedited download that asks for another one is confirmed
  abbrev pub AnswersAt : Constants → Inputs → InputView → Type 0
  AnswersAt k before (Framed frame) =
      frame.id ≡ 0x600 + k.description.node → length frame.bytes ≡ 8 → is_state node.Stopped (state_of k before) ≡ false
      → (initiates (request_in frame.bytes) ≡ true → AllFit key word (reply_to k.description (contents_of k before) (channel_logs (moments k before) 0) frame.bytes))
      × (is_expedited_download key (request_in frame.bytes) ≡ true → (number_asked (request_in frame.bytes) ≡ word) ⊎ AllRefused key (reply_to k.description (contents_of k before) (channel_logs (moments k before) 0) frame.bytes))
  AnswersAt k before Ticked = Unit {0}
  AnswersAt k before (Applied event) = Unit {0}

  -- so where the entry has it
  pub answers_at : (k : Constants) (before : Inputs) (input : InputView) → HasBytes input → RefusesAt key word k before input → HasWord key word (contents_of k before) → AnswersAt k before input
  answers_at k before (Framed frame) bytes refuses has = λ id eight running.
      (λ i. answers_fit key word (contents_of k before) has k.description (opened_after (channel_logs (moments k before) 0)) frame.bytes bytes i, refuses id eight running)
  answers_at k before Ticked bytes refuses has = tt
  answers_at k before (Applied event) bytes refuses has = tt

  pub record Given (k : Constants) (before : Inputs) (input : InputView) : Type 0 where
    pub elsewhere : IsElsewhere (0x580 + k.description.node) input
    pub answers : AnswersAt k before input
    pub other : SendsOther k (moment k (moments k before) input)
    pub sync : is_sync_id (contents_of k before) (0x600 + k.description.node) ≡ false
    pub channels : AllByRecursion (IsNumbered k.description.node) (channels k)

  module _ (k : Constants) (subject : Subject) (micros : ℕ) (before : Inputs) where
    -- the frame that an input is, and the answers to it
    abbrev First : InputView → Progress → Type 0
    First input p =
        AllShow key word (of_device k subject) micros p (frame_of input)
        (λ q. AllShow key word (of_device k subject) micros q (frames_at (moment k (moments k before) input).exchange) (Has false))

    unanswered : (input : InputView) (p : Progress) → (moment k (moments k before) input).exchange ≡ None → AllShow key word (of_device k subject) micros p (frame_of input) (Has false) → First input p
    unanswered input p none h =
        subst (λ e. AllShow key word (of_device k subject) micros p (frame_of input) (λ q. AllShow key word (of_device k subject) micros q (frames_at e) (Has false))) (sym none) h

    by_request : (frame : FrameContent) (p : Progress) → Given k before (Framed frame) → frame.id ≡ 0x600 + k.description.node → Has false p → First (Framed frame) p
    by_request frame p g id h = by (is_state node.Stopped (state_of k before)) (length frame.bytes == 8) refl refl
      where
        by : (stopped eight : Bool) → is_state node.Stopped (state_of k before) ≡ stopped → (length frame.bytes == 8) ≡ eight → First (Framed frame) p
        by true eight on e = unanswered (Framed frame) p (none_stopped k (moments k before) (Framed frame) on) (ignored_shows (of_device k subject) micros frame p id h)
        by false false on e = unanswered (Framed frame) p (served_is k (moments k before) frame false e id g.sync on) (ignored_shows (of_device k subject) micros frame p id h)
        by false true on e =
            subst (λ x. AllShow key word (of_device k subject) micros p (frame ∷ []) (λ q. AllShow key word (of_device k subject) micros q (frames_at x) (Has false))) (sym (served_is k (moments k before) frame true e id g.sync on))
            (exchange_shows (of_device k subject) micros frame p id h (reply_to k.description (contents_of k before) (channel_logs (moments k before) 0) frame.bytes)
            (g.answers id (eqb-true (length frame.bytes) 8 e) on).0 (g.answers id (eqb-true (length frame.bytes) 8 e) on).1)

    first : (input : InputView) (p : Progress) → Given k before input → Has false p → First input p
    first Ticked p g h = h
    first (Applied event) p g h = unanswered (Applied event) p (no_exchange_of_event k (moments k before) event) h
    first (Framed frame) p g h = by (frame.id == 0) (frame.id == 0x600 + k.description.node) refl refl
      where
        by : (command request : Bool) → (frame.id == 0) ≡ command → (frame.id == 0x600 + k.description.node) ≡ request → First (Framed frame) p
        by true request is r =
            unanswered (Framed frame) p (nmt_exchange k (moments k before) frame is) (others_show (of_device k subject) micros (frame ∷ []) p (nmt_other k subject [] micros before frame is, tt) h)
        by false true is r = by_request frame p g (eqb-true frame.id (0x600 + k.description.node) r) h
        by false false is r =
            let other : IsOther k.description.node frame.id = (g.elsewhere, not_equal frame.id (0x600 + k.description.node) r) in
            mapped_shows key word (of_device k subject) micros (frame ∷ []) p (Has false) _
            (λ q x. others_show (of_device k subject) micros (frames_at (moment k (moments k before) (Framed frame)).exchange) q
            (only_other k.description.node _ (calm_exchange k (moments k before) frame g.channels other.1)) x)
            (others_show (of_device k subject) micros (frame ∷ []) p (other, tt) h)

    -- a time-out
    abbrev Shows : ChannelEvent → Type 0
    Shows e = (q : Progress) → Has false q → AllShow key word (of_device k subject) micros q (frames_on e.channel.response e.responses) (Has false)

    one_shows : (c : ChannelSettings) → IsNumbered k.description.node c → Shows (time_out_on c (Elapsed ∷ channel_logs (moments k before) c.number))
    one_shows c n = by (0 == c.number) refl
      where
        log : Log
        log = Elapsed ∷ channel_logs (moments k before) c.number

        by : (b : Bool) → (0 == c.number) ≡ b → Shows (time_out_on c (Elapsed ∷ channel_logs (moments k before) c.number))
        by true is = λ q h.
            subst (λ i. AllShow key word (of_device k subject) micros q (frames_on i (time_out_reply (Elapsed ∷ channel_logs (moments k before) c.number))) (Has false)) (sym (n.first (zero_is c.number is)).1)
            (answers_show false (of_device k subject) micros (time_out_reply (Elapsed ∷ channel_logs (moments k before) c.number)) q
            (inr (aborted_fits key word (open_key (opened_after (Elapsed ∷ channel_logs (moments k before) c.number))) timed_out_code, aborted_refused key (open_key (opened_after (Elapsed ∷ channel_logs (moments k before) c.number))) timed_out_code)) h)
        by false is = λ q h.
            others_show (of_device k subject) micros (frames_on c.response (time_out_reply (Elapsed ∷ channel_logs (moments k before) c.number))) q
            (answers_other k.description.node c.response (time_out_reply (Elapsed ∷ channel_logs (moments k before) c.number)) (n.other (not_zero c.number is))) h

    event_shows : (event : Option ChannelEvent) → IfSome event Shows → (q : Progress) → Has false q → AllShow key word (of_device k subject) micros q (frames_at event) (Has false)
    event_shows None h q g = g
    event_shows (Some e) h q g = h q g

    no_event : (event : Option ChannelEvent) → event ≡ None → (q : Progress) → Has false q → AllShow key word (of_device k subject) micros q (frames_at event) (Has false)
    no_event event none q h = subst (λ e. AllShow key word (of_device k subject) micros q (frames_at e) (Has false)) (sym none) h

    time_shows : (input : InputView) → AllByRecursion (IsNumbered k.description.node) (channels k) → (q : Progress) → Has false q
        → AllShow key word (of_device k subject) micros q (frames_at (moment k (moments k before) input).timed_out) (Has false)
    time_shows Ticked all q h =
        event_shows (moment k (moments k before) Ticked).timed_out
        (timed_out Shows k (moments k before) Ticked
        (some_map (expired_at k (moments k before)) (λ c. IsNumbered k.description.node c × (is_time_over c.time (Elapsed ∷ channel_logs (moments k before) c.number) ≡ true))
        (λ c. Shows (time_out_on c (Elapsed ∷ channel_logs (moments k before) c.number))) (λ c found. one_shows c found.0)
        (found_with (IsNumbered k.description.node) (λ c. is_time_over c.time (Elapsed ∷ channel_logs (moments k before) c.number)) (channels k) all)))
        q h
    time_shows (Framed frame) all q h = no_event (moment k (moments k before) (Framed frame)).timed_out (none_at_frame k (moments k before) frame) q h
    time_shows (Applied event) all q h = no_event (moment k (moments k before) (Applied event)).timed_out (none_at_event k (moments k before) event) q h

    pub input_shows : (input : InputView) (p : Progress) → Given k before input → Has false p → AllShow key word (of_device k subject) micros p (frame_of input ++ prescribed k before input) (Has false)
    input_shows input p g h =
        let s : Subject = of_device k subject in
        let m : Moment = moment k (moments k before) input in
        let a : List FrameContent = frames_at m.exchange in
        let b : List FrameContent = frames_at m.timed_out in
        let c : List FrameContent = emergency_frames m.contents m.emergency in
        let d : List FrameContent = life_frames k.description.node m.life in
        let e : List FrameContent = map (tpdo_frame k.description m.contents) m.due in
        joined_shows key word s micros (frame_of input) (a ++ b ++ c ++ d ++ e) p (λ q. AllShow key word s micros q a (Has false)) (Has false) (first input p g h)
        (λ q answered. joined_shows key word s micros (a ++ b ++ c ++ d) e q (Has false) (Has false)
        (joined_shows key word s micros (a ++ b ++ c) d q (Has false) (Has false)
        (joined_shows key word s micros (a ++ b) c q (Has false) (Has false)
        (joined_shows key word s micros a b q (Has false) (Has false) answered (λ x y. time_shows input g.channels x y))
        (λ x y. others_show s micros c x g.other.emergency y))
        (λ x y. life_shows s micros m.life x y))
        (λ x y. others_show s micros e x g.other.tpdos y))

  -- ---- all inputs

  all_show : (k : Constants) (subject : Subject) (inputs : List Stamped) (before : Inputs) (p : Progress) → AreElsewhere (0x580 + k.description.node) inputs → HaveBytes inputs → AllRefuse key word k before inputs
      → AllHaveWord key word k before inputs → AllSendOther k before inputs → ((all : Inputs) → is_sync_id (contents_of k all) (0x600 + k.description.node) ≡ false) → AllByRecursion (IsNumbered k.description.node) (channels k)
      → Has false p → ShowsFrom key word (of_device k subject) p (heard_from k before inputs)
  all_show k subject [] before p answers bytes confirm words other sync all h = tt
  all_show k subject (s ∷ later) before p answers bytes confirm words other sync all h =
      then_shows key word (of_device k subject) s.micros (frame_of s.input ++ prescribed k before s.input) (heard_from k (s.input ∷ before) later) p (Has false)
      (input_shows k subject s.micros before s.input p (record { elsewhere = answers.0; answers = answers_at k before s.input bytes.0 confirm.0 words.0; other = other.0; sync = sync before; channels = all }) h)
      (λ q g. all_show k subject later (s.input ∷ before) q answers.1 bytes.1 confirm.1 words.1 other.1 sync all g)

  pub recording_shows : (k : Constants) (subject : Subject) (inputs : List Stamped) → AreElsewhere (0x580 + k.description.node) inputs → HaveBytes inputs → AllRefuse key word k [] inputs
      → AllHaveWord key word k [] inputs → AllSendOther k [] inputs → ((all : Inputs) → is_sync_id (contents_of k all) (0x600 + k.description.node) ≡ false) → HaveOtherChannels k
      → AllByRecursion (λ c. IsAside k.description.node c.response) (channels k) → ShowsFrom key word (of_device k subject) (before_recording (of_device k subject)) (recording k inputs)
  recording_shows k subject [] answers bytes confirm words other sync others aside = tt
  recording_shows k subject (s ∷ later) answers bytes confirm words other sync others aside =
      then_shows key word (of_device k subject) s.micros (boot_up k ∷ []) (heard_from k [] (s ∷ later)) (before_recording (of_device k subject)) (Has false)
      (life_shows (of_device k subject) s.micros (Some BootUp) (before_recording (of_device k subject)) tt)
      (λ q g. all_show k subject (s ∷ later) [] q answers bytes confirm words other sync (numbered k others aside) g)
