-- Frames apart from the default channel: those of other services and of other channels, and that the channel takes none of them.
use Rattle.std.proofs.Common.{◌≡◌, ℕ, ◌+◌, ◌≢◌, Bool, true, false, List, [], ◌∷◌, length, Option, Some, None, refl, sym, ◌∙◌, subst}
use Rattle.std.specs.Prelude.{◌==◌, if◌then◌else◌, IfSome}
use Rattle.std.specs.List.{AllByRecursion}
use Rattle.std.proofs.lemmas.Bool.{eqb-true, false≢true, ne_eqb}
use Rattle.co_frame.specs.FrameContent.{FrameContent}
use Rattle.co_frame.specs.Emergencies.{emergency_in}
use Rattle.co_frame.specs.declared.emergency.Emergency.{Emergency}
use Rattle.co_sdo.specs.Channels.{ChannelSettings}
use Rattle.co_sdo.specs.Events.{ChannelEvent, frames_at, receiver}
use Rattle.co_sdo.specs.Log.{Answer, frames_on}
use Rattle.co_sdo.specs.Replies.{reply_to}
use Rattle.co_node_model.specs.Device.{moment}
use Rattle.co_node_model.specs.Inputs.{Applied, Framed, InputView, Ticked}
use Rattle.co_node_model.specs.Moments.{Constants, History, channels, contents_at}
use Rattle.co_node_model.specs.Sdo.{channel_logs}
use Rattle.co_sheet.specs.Content.{Row}
use Rattle.conode_explain_transfers.specs.declared.kinds.Side.TheVariants.{Client, Server}
use Rattle.conode_compare_rules.specs.declared.kind.FrameKind.TheVariants.{Process, Sdo}
use Rattle.conode_compare_nmt.specs.declared.limits.Subject.{Subject}
use Rattle.conode_compare_rules.specs.declared.progress.Progress.{Progress}
use Rattle.conode_compare_rules.specs.FrameKinds.{command_kind, control_kind, data_kind, emergency_kind, emergency_with, length_of}
use Rattle.conode_compare_rules.specs.Gaps.{begun}
use Rattle.conode_compare_laws.specs.AnswerFindings.{answer_differences}
use Rattle.conode_compare_laws.specs.AnswerSenders.{AreOther, BeginsNoBlocks, IsOther}
use Rattle.conode_compare_laws.specs.Identifiers.{AreAside, IsAside}
use Rattle.conode_compare_laws.proofs.Runs.{AllRun}
use Rattle.conode_compare_laws.proofs.Shown.{Stage}
use Rattle.conode_compare_laws.proofs.AnswerSteps.{Holds, apart_quiet, begun_holds, is_apart, some_map}
use Rattle.conode_compare_laws.proofs.AnswerExchange.{cons_runs}
use Rattle.conode_compare_laws.proofs.AnswerDevice.{IsAnother, IsCleanEvent, IsNumbered, exchange_of_frame, found_with, frame_exchange, no_exchange_of_event}

-- ---- frames apart from the channel

-- an identifier of none of these: NMT commands, error control, the default channel
abbrev pub IsCalm : ℕ → ℕ → Type 0
IsCalm node id = IsAside node id × IsOther node id

abbrev pub AreCalm : ℕ → List FrameContent → Type 0
AreCalm node frames = AllByRecursion (λ frame. IsCalm node frame.id) frames

emergency_apart : (length : ℕ) (o : Option Emergency) → is_apart (emergency_with length o) ≡ true
emergency_apart length None = refl
emergency_apart length (Some emergency) = refl

calm_kind : (node : ℕ) (frame : FrameContent) → IsCalm node frame.id → is_apart (data_kind node frame) ≡ true
calm_kind node frame calm =
    by (frame.id == 0) (frame.id == 0x80 + node) (frame.id == 0x580 + node) (frame.id == 0x600 + node) (frame.id == 0x700 + node)
    (ne_eqb frame.id 0 calm.0.0) (ne_eqb frame.id (0x580 + node) calm.1.0) (ne_eqb frame.id (0x600 + node) calm.1.1) (ne_eqb frame.id (0x700 + node) calm.0.1)
  where
    by : (a b c d e : Bool) → a ≡ false → c ≡ false → d ≡ false → e ≡ false
        → is_apart (if a then command_kind node frame
        else (if b then emergency_kind frame
        else (if c then Sdo Server frame
        else (if d then Sdo Client frame
        else (if e then control_kind frame else Process frame.id (length_of frame)))))) ≡ true
    by true b c d e p q r s = absurd (false≢true (sym p))
    by false true c d e p q r s = emergency_apart (length_of frame) (emergency_in frame.bytes)
    by false false true d e p q r s = absurd (false≢true (sym q))
    by false false false true e p q r s = absurd (false≢true (sym r))
    by false false false false true p q r s = absurd (false≢true (sym s))
    by false false false false false p q r s = refl

pub calm_runs : (Idle Inside : Type 0) (subject : Subject) (rows : List Row) (micros : ℕ) (frames : List FrameContent) (stage : Stage) (p : Progress) → AreCalm subject.node frames → Holds Idle Inside stage p
    → AllRun answer_differences subject rows micros p frames (Holds Idle Inside stage)
calm_runs Idle Inside subject rows micros [] stage p calm h = h
calm_runs Idle Inside subject rows micros (frame ∷ later) stage p calm h =
    cons_runs subject rows micros p frame later (data_kind subject.node frame) (Holds Idle Inside stage) (Holds Idle Inside stage) refl
    (apart_quiet Idle Inside subject rows (begun subject p micros) micros (data_kind subject.node frame) stage (calm_kind subject.node frame calm.0) (begun_holds Idle Inside subject p micros stage h))
    (λ q g. calm_runs Idle Inside subject rows micros later stage q calm.1 g)

pub both_calm : (node : ℕ) (frames : List FrameContent) → AreAside node frames → AreOther node frames → AreCalm node frames
both_calm node [] aside other = tt
both_calm node (frame ∷ later) aside other = ((aside.0, other.0), both_calm node later aside.1 other.1)

-- ---- the frames of the channels

pub answers_calm : (node id : ℕ) (answers : List Answer) → IsCalm node id → AreCalm node (frames_on id answers)
answers_calm node id [] calm = tt
answers_calm node id (answer ∷ later) calm = (calm, answers_calm node id later calm)

abbrev CalmEvent : ℕ → ChannelEvent → Type 0
CalmEvent node e = AreCalm node (frames_on e.channel.response e.responses)

calm_event : (node : ℕ) (event : Option ChannelEvent) → IfSome event (CalmEvent node) → AreCalm node (frames_at event)
calm_event node None h = tt
calm_event node (Some e) h = h

pub other_number : (node : ℕ) (c : ChannelSettings) (id : ℕ) → IsNumbered node c → (c.request == id) ≡ true → id ≢ 0x600 + node → c.number ≢ 0
other_number node c id n is other = λ zero. other (sym (eqb-true c.request id is) ∙ (n.first zero).0)

zero_eqb : (n : ℕ) → n ≢ 0 → (0 == n) ≡ false
zero_eqb n h = ne_eqb 0 n (λ e. h (sym e))

-- of a frame that the default channel doesn't take, another one may
module _ (k : Constants) (history : History) (frame : FrameContent) (all : AllByRecursion (IsNumbered k.description.node) (channels k)) (other : frame.id ≢ 0x600 + k.description.node) where
  found_other : (P : ChannelEvent → Type 0) → ((c : ChannelSettings) → IsNumbered k.description.node c → c.number ≢ 0 → P (exchange_of_frame k history frame c)) → IfSome (moment k history (Framed frame)).exchange P
  found_other P h =
      frame_exchange P k history frame
      (some_map (receiver (channels k) frame.id) (λ c. IsNumbered k.description.node c × ((c.request == frame.id) ≡ true)) (λ c. P (exchange_of_frame k history frame c))
      (λ c found. h c found.0 (other_number k.description.node c frame.id found.0 found.1 other)) (found_with (IsNumbered k.description.node) (λ c. c.request == frame.id) (channels k) all))

  pub another_exchange : IsAnother (moment k history (Framed frame)).exchange
  another_exchange = found_other (λ e. (0 == e.channel.number) ≡ false) (λ c n no. zero_eqb c.number no)

  pub calm_exchange : AreCalm k.description.node (frames_at (moment k history (Framed frame)).exchange)
  calm_exchange =
      calm_event k.description.node (moment k history (Framed frame)).exchange
      (found_other (CalmEvent k.description.node) (λ c n no. answers_calm k.description.node c.response (reply_to k.description (contents_at k history) (channel_logs history c.number) frame.bytes) (n.aside, n.other no)))

-- no frame but a request on the default channel adds to its log
pub clean_exchange : (k : Constants) (history : History) (input : InputView) → AllByRecursion (IsNumbered k.description.node) (channels k) → BeginsNoBlocks k.description.node input
    → IfSome (moment k history input).exchange (λ e. (0 == e.channel.number) ≡ true → IsCleanEvent e.event)
clean_exchange k history Ticked all n = tt
clean_exchange k history (Applied event) all n = subst (λ o. IfSome o (λ (e : ChannelEvent). (0 == e.channel.number) ≡ true → IsCleanEvent e.event)) (sym (no_exchange_of_event k history event)) tt
clean_exchange k history (Framed frame) all n =
    frame_exchange (λ e. (0 == e.channel.number) ≡ true → IsCleanEvent e.event) k history frame
    (some_map (receiver (channels k) frame.id) (λ c. IsNumbered k.description.node c × ((c.request == frame.id) ≡ true)) _
    (λ c found zero. n (sym (eqb-true c.request frame.id found.1) ∙ (found.0.first (sym (eqb-true 0 c.number zero))).0))
    (found_with (IsNumbered k.description.node) (λ c. c.request == frame.id) (channels k) all))
