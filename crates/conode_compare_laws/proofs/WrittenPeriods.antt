-- All inputs of a device whose clients write 1017:00: after a frame that writes it, compare knows nothing of it.
-- A download in segments or in blocks that is open leaves nothing known from its request on.
use Rattle.std.proofs.Common.{◌≡◌, ◌≢◌, ℕ, ◌+◌, Bool, true, false, List, [], ◌∷◌, ◌++◌, length, map, Some, None, refl, sym, ◌∙◌, ◌⊎◌, inl, inr, subst, arith}
use Rattle.std.specs.Prelude.{◌==◌, IfSome}
use Rattle.std.specs.List.{AllByRecursion}
use Rattle.std.proofs.lemmas.Bool.{false≢true, or_parts}
use Rattle.co_frame.specs.FrameContent.{FrameContent}
use Rattle.co_frame.specs.Heartbeats.{state_byte}
use Rattle.co_frame.specs.declared.heartbeat.Heartbeat.TheVariants.{BootUp}
use Rattle.co_profile.specs.Keys.{producer_key}
use Rattle.co_sdo.specs.Events.{frames_at}
use Rattle.co_sdo.specs.OpenTransfers.{open_transfer}
use Rattle.co_sdo.specs.Uploads.{value_at}
use Rattle.co_node_parts.specs.NmtStates.{enters}
use Rattle.co_node_parts.specs.Producers.{is_heartbeat_due}
use Rattle.co_node_parts.specs.declared.nmt_state.NodeState.TheVariants as node
use Rattle.co_node_model.specs.Device.{contents_of, moment, moments, prescribed}
use Rattle.co_node_model.specs.Emergencies.{emergency_frames}
use Rattle.co_node_model.specs.Heartbeats.{boot_up, life_frames, producer_event, producer_log}
use Rattle.co_node_model.specs.Inputs.{Applied, Framed, Inputs, InputView, Ticked}
use Rattle.co_node_model.specs.Moments.{Constants, Moment, channels}
use Rattle.co_node_model.specs.Nmt.{is_reset, state_at, transition_of}
use Rattle.co_node_model.specs.Sdo.{channel_logs}
use Rattle.co_node_model.specs.Sync.{is_sync_id}
use Rattle.co_node_model.specs.Tpdos.{tpdo_frame}
use Rattle.conode_compare_nmt.specs.declared.limits.Subject.{Subject}
use Rattle.conode_compare_rules.specs.declared.progress.Progress.{Progress}
use Rattle.conode_compare_rules.specs.Gaps.{before_recording}
use Rattle.conode_compare_laws.specs.AnswerSenders.{AllSendOther, HasBytes, HaveBytes, HaveOtherChannels, SendsOther}
use Rattle.conode_compare_laws.specs.Identifiers.{AllSendAside, AreElsewhere, AreWithout, IsAside, IsElsewhere, SendsAside}
use Rattle.conode_compare_laws.specs.Periods.{AllFollowPeriod, FollowsPeriod, IsOfClient, IsOfOther, KnowsPeriod, WritesSeen, period_after}
use Rattle.conode_compare_laws.specs.Recordings.{Stamped, frame_of}
use Rattle.conode_compare_laws.specs.ShownWords.{AllAskPeriod, AllHavePeriodBytes, KeepsWord}
use Rattle.conode_compare_laws.proofs.AnswerDevice.{IsNumbered, numbered}
use Rattle.conode_compare_laws.proofs.ExpeditedInputs.{AnswersAt, Given, Has, answers_at, ignored_shows, input_shows, life_shows, others_show}
use Rattle.conode_compare_laws.proofs.ExpeditedRefusals.{refuses}
use Rattle.conode_compare_laws.proofs.Heard.{of_device}
use Rattle.conode_compare_laws.proofs.Heartbeats.{AllFollow, IsUnknown, ShowsAll, ShowsBy, came_without, is_written, life_beats, uncontrolled, without_both, written_no_reset}
use Rattle.conode_compare_laws.proofs.OpenDownloads.{AsksLong, Completes, exchanged, open_after, quiet_at, reset_answers, was_open, written_answers, written_asks}
use Rattle.conode_compare_laws.proofs.ShowsWord.{AllShow, both_shows, joined_shows, mapped_shows, parts}
use Rattle.conode_compare_laws.proofs.UnknownPeriods.{asked_unknown, asks_period, beats_unknown, others_unknown, told_other, told_unknown}

module _ (k : Constants) (subject : Subject) (unknown : subject.facts.before.period ≡ None) (period : ℕ) where
  abbrev own : Subject
  own = of_device k subject

  -- another number than the period
  abbrev other : ℕ
  other = period + 1

  differ : period ≢ other
  differ = λ e. absurd (omega (arith, e))

  abbrev Holding : Progress → Type 0
  Holding p = Has producer_key period false p

  -- as long as a download of it is open
  abbrev WhileOpen : Inputs → Progress → Type 0
  WhileOpen before p = open_after producer_key k before ≡ true → IsUnknown p

  -- ---- an input

  module _ (micros : ℕ) (before : Inputs) (input : InputView) (given : Given producer_key period k before input) (aside : SendsAside k (moment k (moments k before) input)) (control : IsElsewhere (0x700 + k.description.node) input) where
    abbrev Shows : ℕ → List FrameContent → (Progress → Type 0) → Progress → Type 0
    Shows word frames after p = AllShow producer_key word own micros p frames after

    abbrev Sends : ℕ → Progress → Type 0
    Sends word p = AllShow producer_key word own micros p (prescribed k before input) Holding

    -- what the device sends, where it is no boot-up, and shows nothing
    sent_unknown : is_reset (moment k (moments k before) input).mark ≡ false → (p : Progress) → IsUnknown p → Sends period p → Sends other p
        → AllShow producer_key period own micros p (prescribed k before input) (λ q. Holding q × IsUnknown q)
    sent_unknown off p h x y =
        let m : Moment = moment k (moments k before) input in
        let n : ℕ = k.description.node in
        let a : List FrameContent = frames_at m.exchange in
        let b : List FrameContent = frames_at m.timed_out in
        let c : List FrameContent = emergency_frames m.contents m.emergency in
        let d : List FrameContent = life_frames n m.life in
        let e : List FrameContent = map (tpdo_frame k.description m.contents) m.due in
        let show_e : ℕ → Progress → Type 0 = λ word q. AllShow producer_key word own micros q e Holding in
        let show_d : ℕ → Progress → Type 0 = λ word q. AllShow producer_key word own micros q d (show_e word) in
        let first : AreWithout (0x700 + n) (a ++ b ++ c) =
        without_both (0x700 + n) (a ++ b) c (without_both (0x700 + n) a b (uncontrolled n a aside.answers) (uncontrolled n b aside.time_out)) (uncontrolled n c aside.emergency) in
        let beats : IfSome m.life (λ life. (state_byte life == 0) ≡ false) =
        life_beats (is_reset m.mark) (is_heartbeat_due (producer_event m.mark m.contents) (producer_log k (moments k before))) (state_at (m ∷ moments k before)) off in
        joined_shows producer_key period own micros (a ++ b ++ c ++ d) e p (λ q. show_e period q × (show_e other q × IsUnknown q)) (λ q. Holding q × IsUnknown q)
        (joined_shows producer_key period own micros (a ++ b ++ c) d p (λ q. show_d period q × (show_d other q × IsUnknown q)) (λ q. show_e period q × (show_e other q × IsUnknown q))
        (others_unknown period other differ own micros unknown (a ++ b ++ c) p (show_d period) (show_d other) first h
        (parts producer_key period own micros (a ++ b ++ c) d p (show_e period) (parts producer_key period own micros (a ++ b ++ c ++ d) e p Holding x))
        (parts producer_key other own micros (a ++ b ++ c) d p (show_e other) (parts producer_key other own micros (a ++ b ++ c ++ d) e p Holding y)))
        (λ q g. beats_unknown period other differ own micros unknown m.life q (show_e period) (show_e other) beats g.1.1 g.0 g.1.0))
        (λ q g. mapped_shows producer_key period own micros e q (λ r. Holding r × (Holding r × IsUnknown r)) (λ r. Holding r × IsUnknown r) (λ r t. (t.0, t.1.1))
        (others_unknown period other differ own micros unknown e q Holding Holding (uncontrolled n e aside.tpdos) g.1.1 g.0 g.1.0))

    -- the frame that an input is
    first_unknown : (open_after producer_key k before ≡ true) ⊎ AsksLong producer_key k.description.node input → (p : Progress) → WhileOpen before p → Shows period (frame_of input) (Sends period) p → Shows other (frame_of input) (Sends other) p
        → Shows period (frame_of input) (λ q. Sends period q × (Sends other q × IsUnknown q)) p
    first_unknown (inl on) p h a b =
        others_unknown period other differ own micros unknown (frame_of input) p (Sends period) (Sends other) (came_without (0x700 + k.description.node) input control) (h on) a b
    first_unknown (inr asks) p h a b = by input asks a b
      where
        by : (i : InputView) → AsksLong producer_key k.description.node i → Shows period (frame_of i) (Sends period) p → Shows other (frame_of i) (Sends other) p
            → Shows period (frame_of i) (λ q. Sends period q × (Sends other q × IsUnknown q)) p
        by Ticked asks a b = absurd asks
        by (Applied event) asks a b = absurd asks
        by (Framed frame) asks a b = (a.0, (a.1, (b.1, asked_unknown own p micros frame asks.0 (asks_period frame (inr asks.1)))))

    -- one that writes the entry
    writing_unknown : (frame : FrameContent) → input ≡ Framed frame → frame.id ≡ 0x600 + k.description.node → is_written k before (Framed frame) ≡ true → (x : Progress → Type 0) (p : Progress) → Holding p → WhileOpen before p
        → Shows period (frame ∷ []) x p → Shows period (frame ∷ []) (λ q. x q × IsUnknown q) p
    writing_unknown frame is id written x p has h a = by (written_asks producer_key k before given.sync frame id written)
      where
        elsewhere : IsElsewhere (0x700 + k.description.node) (Framed frame)
        elsewhere = subst (IsElsewhere (0x700 + k.description.node)) is control

        by : Completes producer_key (open_transfer (channel_logs (moments k before) 0)) frame.bytes → Shows period (frame ∷ []) (λ q. x q × IsUnknown q) p
        by (inl expedited) = (a.0, (a.1, asked_unknown own p micros frame id (asks_period frame (inl expedited))))
        by (inr last) =
            mapped_shows producer_key period own micros (frame ∷ []) p (λ q. x q × (Holding q × IsUnknown q)) (λ q. x q × IsUnknown q) (λ q g. (g.0, g.1.1))
            (others_unknown period other differ own micros unknown (frame ∷ []) p x Holding (elsewhere, tt) (h last.0) a (ignored_shows producer_key other own micros frame p id has))

    written_unknown : WritesSeen subject.facts.clients producer_key k (moment k (moments k before) input) input → (x : Progress → Type 0) (p : Progress) → Holding p → WhileOpen before p → Shows period (frame_of input) x p
        → Shows period (frame_of input) (λ q. (is_written k before input ≡ true → IsUnknown q) × x q) p
    written_unknown by x p has h a = if_written (is_written k before input) refl
      where
        by_input : (i : InputView) → input ≡ i → IsOfClient k.description.node i ⊎ IsOfOther k.description.node subject.facts.clients i → is_written k before i ≡ true → Shows period (frame_of i) x p → Shows period (frame_of i) (λ q. x q × IsUnknown q) p
        by_input Ticked is (inl client) on a = absurd client
        by_input Ticked is (inr other) on a = absurd other
        by_input (Applied event) is (inl client) on a = absurd client
        by_input (Applied event) is (inr other) on a = absurd other
        by_input (Framed frame) is (inl client) on a = writing_unknown frame is client on x p has h a
        by_input (Framed frame) is (inr told) on a = (a.0, (a.1, told_unknown own p micros frame told))

        if_written : (b : Bool) → is_written k before input ≡ b → Shows period (frame_of input) (λ q. (is_written k before input ≡ true → IsUnknown q) × x q) p
        if_written true is =
            mapped_shows producer_key period own micros (frame_of input) p (λ q. x q × IsUnknown q) _ (λ q g. (λ on. g.1, g.0)) (by_input input refl (by is) is a)
        if_written false is = mapped_shows producer_key period own micros (frame_of input) p x _ (λ q g. (λ on. absurd (false≢true (sym is ∙ on)), g)) a

    shown_by : (word : ℕ) → Given producer_key word k before input → (p : Progress) → Holding p → Shows word (frame_of input) (Sends word) p
    shown_by word g p has = parts producer_key word own micros (frame_of input) (prescribed k before input) p Holding (input_shows producer_key word k subject micros before input p g has)

    pub input_by : WritesSeen subject.facts.clients producer_key k (moment k (moments k before) input) input → (p : Progress) → Holding p → WhileOpen before p
        → Shows period (frame_of input)
        (λ q. (is_written k before input ≡ true → IsUnknown q) × AllShow producer_key period own micros q (prescribed k before input) (λ r. Holding r × WhileOpen (input ∷ before) r)) p
    input_by by p has h = if_open (open_after producer_key k (input ∷ before)) refl
      where
        if_open : (b : Bool) → open_after producer_key k (input ∷ before) ≡ b
            → Shows period (frame_of input)
            (λ q. (is_written k before input ≡ true → IsUnknown q) × AllShow producer_key period own micros q (prescribed k before input) (λ r. Holding r × WhileOpen (input ∷ before) r)) p
        if_open true is =
            let off : is_reset (moment k (moments k before) input).mark ≡ false =
            (or_parts (is_reset (moment k (moments k before) input).mark) (enters node.Stopped (transition_of (moment k (moments k before) input) (moments k before))) (exchanged producer_key k before given.sync input is).0).0 in
            let quiet : Given producer_key other k before input =
            record { elsewhere = given.elsewhere; answers = quiet_at producer_key k before given.sync other input is; other = given.other; sync = given.sync; channels = given.channels } in
            mapped_shows producer_key period own micros (frame_of input) p (λ q. Sends period q × (Sends other q × IsUnknown q)) _
            (λ q g. (λ on. g.1.1, mapped_shows producer_key period own micros (prescribed k before input) q (λ r. Holding r × IsUnknown r) (λ r. Holding r × WhileOpen (input ∷ before) r) (λ r t. (t.0, λ on. t.1)) (sent_unknown off q g.1.1 g.0 g.1.0)))
            (first_unknown (was_open producer_key k before given.sync input given.channels is) p h (shown_by period given p has) (shown_by other quiet p has))
        if_open false is =
            written_unknown by (λ q. AllShow producer_key period own micros q (prescribed k before input) (λ r. Holding r × WhileOpen (input ∷ before) r)) p has h
            (mapped_shows producer_key period own micros (frame_of input) p (Sends period) _
            (λ q g. mapped_shows producer_key period own micros (prescribed k before input) q Holding (λ r. Holding r × WhileOpen (input ∷ before) r) (λ r t. (t, λ on. absurd (false≢true (sym is ∙ on)))) g)
            (shown_by period given p has))

-- ---- all inputs

module _ (k : Constants) (subject : Subject) (unknown : subject.facts.before.period ≡ None) (sync : (all : Inputs) → is_sync_id (contents_of k all) (0x600 + k.description.node) ≡ false) where
  abbrev this : Subject
  this = of_device k subject

  abbrev Holds : Progress → Type 0
  Holds p = Has producer_key 0 false p

  abbrev While : Inputs → Progress → Type 0
  While before p = open_after producer_key k before ≡ true → IsUnknown p

  module _ (micros : ℕ) (before : Inputs) (input : InputView) (elsewhere : IsElsewhere (0x580 + k.description.node) input) (bytes : HasBytes input)
      (wide : (length (value_at (contents_of k before) producer_key) ≡ 0) ⊎ (length (value_at (contents_of k before) producer_key) ≡ 2))
      (asks : KeepsWord producer_key (period_after k (input ∷ before)) k before input) (others : SendsOther k (moment k (moments k before) input)) (all : AllByRecursion (IsNumbered k.description.node) (channels k))
      (follows : FollowsPeriod subject.facts.clients k before input (moment k (moments k before) input)) (control : IsElsewhere (0x700 + k.description.node) input) (aside : SendsAside k (moment k (moments k before) input)) where
    abbrev was : ℕ
    was = period_after k before

    abbrev next : ℕ
    next = period_after k (input ∷ before)

    abbrev sent : List FrameContent
    sent = prescribed k before input

    abbrev resets : Bool
    resets = is_reset (moment k (moments k before) input).mark

    given_by : (word : ℕ) → AnswersAt producer_key word k before input → Given producer_key word k before input
    given_by word answers = record { elsewhere = elsewhere; answers = answers; other = others; sync = sync before; channels = all }

    -- the answers show the number that it has after the input
    next_answers : (w r : Bool) → is_written k before input ≡ w → resets ≡ r → AnswersAt producer_key next k before input
    next_answers true r is reset = written_answers producer_key k before (sync before) next input is asks
    next_answers false true is reset = reset_answers producer_key k before (sync before) next input reset
    next_answers false false is reset =
        answers_at producer_key next k before input bytes (refuses producer_key next k before input (sync before) asks) (record { bytes = wide; number = sym (follows.kept is reset) })

    -- its own frame shows whatever number, and at a reset all frames do
    client_shows : (i : InputView) → IsOfClient k.description.node i ⊎ IsOfOther k.description.node subject.facts.clients i → (p : Progress) → Holds p → AllShow producer_key was this micros p (frame_of i) (λ q. Unit {0})
    client_shows Ticked (inl client) p has = absurd client
    client_shows Ticked (inr other) p has = absurd other
    client_shows (Applied event) (inl client) p has = absurd client
    client_shows (Applied event) (inr other) p has = absurd other
    client_shows (Framed frame) (inl client) p has = mapped_shows producer_key was this micros (frame ∷ []) p Holds (λ q. Unit {0}) (λ q g. tt) (ignored_shows producer_key was this micros frame p client has)
    client_shows (Framed frame) (inr told) p has =
        mapped_shows producer_key was this micros (frame ∷ []) p Holds (λ q. Unit {0}) (λ q g. tt) (others_show producer_key was this micros (frame ∷ []) p (told_other k.description.node subject.facts.clients frame.id told, tt) has)

    forgotten : (word : ℕ) (p : Progress) → AllShow producer_key word this micros p (frame_of input) (λ q. AllShow producer_key word this micros q sent Holds) → AllShow producer_key word this micros p (frame_of input) (λ q. AllShow producer_key word this micros q sent (λ r. Unit {0}))
    forgotten word p g =
        mapped_shows producer_key word this micros (frame_of input) p (λ q. AllShow producer_key word this micros q sent Holds) (λ q. AllShow producer_key word this micros q sent (λ r. Unit {0}))
        (λ q x. mapped_shows producer_key word this micros sent q Holds (λ r. Unit {0}) (λ r y. tt) x) g

    shown_as : (word : ℕ) → AnswersAt producer_key word k before input → (p : Progress) → Holds p → AllShow producer_key word this micros p (frame_of input) (λ q. AllShow producer_key word this micros q sent (λ r. Unit {0}))
    shown_as word answers p has = forgotten word p (parts producer_key word this micros (frame_of input) sent p Holds (input_shows producer_key word k subject micros before input p (given_by word answers) has))

    first_shows : (w r : Bool) → is_written k before input ≡ w → resets ≡ r → (p : Progress) → Holds p
        → AllShow producer_key was this micros p (frame_of input) (λ q. resets ≡ true → AllShow producer_key was this micros q sent (λ r. Unit {0}))
    first_shows true r is reset p has =
        mapped_shows producer_key was this micros (frame_of input) p (λ q. Unit {0}) _ (λ q g. λ on. absurd (false≢true (sym (written_no_reset (moment k (moments k before) input).mark is) ∙ on)))
        (client_shows input (follows.by is) p has)
    first_shows false true is reset p has =
        mapped_shows producer_key was this micros (frame_of input) p (λ q. AllShow producer_key was this micros q sent (λ r. Unit {0})) _ (λ q g. λ on. g) (shown_as was (reset_answers producer_key k before (sync before) was input reset) p has)
    first_shows false false is reset p has =
        mapped_shows producer_key was this micros (frame_of input) p (λ q. AllShow producer_key was this micros q sent (λ r. Unit {0})) _ (λ q g. λ on. g)
        (subst (λ n. AllShow producer_key n this micros p (frame_of input) (λ q. AllShow producer_key n this micros q sent (λ r. Unit {0}))) (follows.kept is reset) (shown_as next (next_answers false false is reset) p has))

    pub each_by : (p : Progress) → Holds p → While before p
        → AllShow producer_key was this micros p (frame_of input)
        (λ q. (is_written k before input ≡ true → IsUnknown q)
        × ((resets ≡ true → AllShow producer_key was this micros q sent (λ r. Unit {0})) × AllShow producer_key next this micros q sent (λ r. Holds r × While (input ∷ before) r)))
    each_by p has h =
        mapped_shows producer_key was this micros (frame_of input) p
        (λ q. (resets ≡ true → AllShow producer_key was this micros q sent (λ r. Unit {0})) × ((is_written k before input ≡ true → IsUnknown q) × AllShow producer_key next this micros q sent (λ r. Holds r × While (input ∷ before) r)))
        _ (λ q g. (g.1.0, (g.0, g.1.1)))
        (both_shows producer_key was this micros next (frame_of input) p _ _ (first_shows (is_written k before input) resets refl refl p has)
        (input_by k subject unknown next micros before input (given_by next (next_answers (is_written k before input) resets refl refl)) aside control follows.by p has h))

  all_by : (inputs : List Stamped) (before : Inputs) (p : Progress) → AreElsewhere (0x580 + k.description.node) inputs → HaveBytes inputs → AllHavePeriodBytes k before inputs → AllAskPeriod k before inputs → AllSendOther k before inputs
      → AllByRecursion (IsNumbered k.description.node) (channels k) → AllFollowPeriod subject.facts.clients k before inputs → AreElsewhere (0x700 + k.description.node) inputs → AllSendAside k before inputs → Holds p → While before p
      → ShowsBy k this p before inputs
  all_by [] before p answers bytes wide asks others all follow control aside has h = tt
  all_by (s ∷ later) before p answers bytes wide asks others all follow control aside has h =
      mapped_shows producer_key (period_after k before) this s.micros (frame_of s.input) p _ _
      (λ q g. (
        g.0,
        (
          g.1.0,
          mapped_shows producer_key (period_after k (s.input ∷ before)) this s.micros (prescribed k before s.input) q (λ r. Holds r × While (s.input ∷ before) r) (λ r. ShowsBy k this r (s.input ∷ before) later)
              (λ r t. all_by later (s.input ∷ before) r answers.1 bytes.1 wide.1 asks.1 others.1 all follow.1 control.1 aside.1 t.0 t.1) g.1.1,
        ),
      ))
      (each_by s.micros before s.input answers.0 bytes.0 wide.0 asks.0 others.0 all follow.0 control.0 aside.0 p has h)

  pub written_shows : (inputs : List Stamped) → AreElsewhere (0x580 + k.description.node) inputs → HaveBytes inputs → AllHavePeriodBytes k [] inputs → AllAskPeriod k [] inputs → AllSendOther k [] inputs → HaveOtherChannels k
      → AllByRecursion (λ c. IsAside k.description.node c.response) (channels k) → AllFollowPeriod subject.facts.clients k [] inputs → AreElsewhere (0x700 + k.description.node) inputs → AllSendAside k [] inputs → ShowsAll k this inputs
  written_shows [] answers bytes wide asks others channels aside follow control sends = tt
  written_shows (s ∷ later) answers bytes wide asks others channels aside follow control sends =
      mapped_shows producer_key (period_after k []) this s.micros (boot_up k ∷ []) (before_recording this) Holds (λ q. ShowsBy k this q [] (s ∷ later))
      (λ q g. all_by (s ∷ later) [] q answers bytes wide asks others (numbered k channels aside) follow control sends g (λ on. absurd (false≢true on)))
      (life_shows producer_key (period_after k []) this s.micros (Some BootUp) (before_recording this) tt)

-- what the period is then
pub written_follows : (k : Constants) (subject : Subject) → subject.facts.before.period ≡ None → KnowsPeriod (period_after k []) subject → (inputs : List Stamped) (before : Inputs) → AllFollowPeriod subject.facts.clients k before inputs → AllFollow k subject before inputs
written_follows k subject unknown knows [] before follow = tt
written_follows k subject unknown knows (s ∷ later) before follow = (
  record {
    kept = follow.0.kept;
    next = subst (λ o. IfSome o (λ n. n ≡ period_after k (s.input ∷ before))) (sym unknown) tt;
    boots = λ reset. subst (λ n. KnowsPeriod n subject) (sym (follow.0.restored reset)) knows;
  },
  written_follows k subject unknown knows later (s.input ∷ before) follow.1,
)
