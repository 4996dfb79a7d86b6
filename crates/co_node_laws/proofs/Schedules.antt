-- The condition of the schedule, after all inputs and as it is called at one more.
use Rattle.std.proofs.Common.{◌≡◌, ℕ, ◌-◌, Bool, true, false, cond, List, [], ◌∷◌, Option, Some, None, refl}
use Rattle.co_profile.specs.Indices.{is_within, tpdo_communication}
use Rattle.co_node_model.specs.declared.turn.Turn.TheVariants.{Quiet}
use Rattle.co_value.specs.declared.key.Key.{Key}
use Rattle.co_frame.specs.declared.nmt.NmtService.{NmtService}
use Rattle.co_frame.specs.declared.nmt.NmtService.TheVariants.{Start, Stop, EnterPreOperational, ResetNode, ResetCommunication}
use Rattle.co_dict.specs.Rows.{Contents, number_at}
use Rattle.co_dict.specs.Stores.{Description}
use Rattle.co_pdo.specs.declared.tpdo.Part.{Part}
use Rattle.co_pdo.specs.Schedules.{History as Schedule, AllCurrent}
use Rattle.co_node_parts.specs.declared.nmt_state.NodeState.{NodeState}
use Rattle.co_node_parts.specs.declared.nmt_state.NodeState.TheVariants.{PreOperational, Operational, Stopped}
use Rattle.co_node_parts.specs.declared.nmt_state.LossReaction.{LossReaction}
use Rattle.co_node_parts.specs.declared.nmt_state.LossReaction.TheVariants.{LeaveOperational, NoChange, EnterStopped}
use Rattle.co_node_parts.specs.NmtStates.{StateLog, state_after, reaction_with, after_loss}
use Rattle.co_node_model.specs.declared.mark.Mark.{Mark}
use Rattle.co_node_model.specs.Inputs.{InputView, Inputs}
use Rattle.co_profile.specs.Keys.{error_behaviour_key}
use Rattle.co_node_model.specs.Nmt.{is_reset_by, commanded_event, state_at, state_log}
use Rattle.co_node_model.specs.Tpdos.{part_started, start_turn, turn_by_write, turn_of, turn_with, schedule_log, turn_at, with_turn}
use Rattle.co_node_model.specs.Moments.{Constants, contents_at}
use Rattle.co_node_model.specs.Device.{moment, moments, state_of, contents_of}
use Rattle.co_node_model.specs.Heartbeats.{loss_event}
use Rattle.co_node_model.specs.Marks.{marked_command, marked_key}
use Rattle.co_node_laws.specs.Calls.{is_asked}
use Rattle.co_node_laws.proofs.Below.{Below}
use Rattle.co_node_laws.proofs.Calls.{current_started, current_happened}
use Rattle.co_node_laws.proofs.Received.{MayBecome, changed}
use Rattle.co_node_laws.proofs.Writes.{current_kept, current_written}

-- ---- a reset never ends in operational

no_loss_enters : (reaction : LossReaction) → after_loss reaction PreOperational ≡ Operational → ⊥
no_loss_enters LeaveOperational h = cc
no_loss_enters NoChange h = cc
no_loss_enters EnterStopped h = cc

no_reset : (command : Option NmtService) (lost : List ℕ) (c : Contents) (log : StateLog) → state_after (loss_event lost c ∷ commanded_event command ∷ log) ≡ Operational → is_reset_by command ≡ false
no_reset None lost c log on = refl
no_reset (Some Start) lost c log on = refl
no_reset (Some Stop) lost c log on = refl
no_reset (Some EnterPreOperational) lost c log on = refl
no_reset (Some ResetNode) [] c log on = absurd (cc)
no_reset (Some ResetNode) (sub ∷ lost) c log on = absurd (no_loss_enters (reaction_with (number_at c error_behaviour_key)) on)
no_reset (Some ResetCommunication) [] c log on = absurd (cc)
no_reset (Some ResetCommunication) (sub ∷ lost) c log on = absurd (no_loss_enters (reaction_with (number_at c error_behaviour_key)) on)

-- ---- a write only starts

only_starts : (within : Bool) (n : ℕ) (part : Option Part) → is_asked (cond within (start_turn n part) Quiet) ≡ true → ⊥
only_starts false n part asked = cc
only_starts true n None asked = cc
only_starts true n (Some part) asked = cc

unasked : (key : Key) → is_asked (turn_by_write key) ≡ true → ⊥
unasked key asked = only_starts (is_within tpdo_communication key.index) (key.index - 0x1800) (part_started key.sub) asked

-- ---- one input

module _ (below : Below) where
  stays : (d : Description) (set : Option Key) (mark : Mark) (c e : Contents) (due : List ℕ) (history : Schedule) → MayBecome d set c e → AllCurrent c history → AllCurrent e (with_turn d (turn_with set mark) e due history)
  stays d None mark c e due history may all = current_happened d e due history mark (current_kept c e history may all)
  stays d (Some key) mark c e due history may all = current_written below d c e key may.0 due history may.1 all

  by_state : (d : Description) (before after : NodeState) (mark : Mark) (c e : Contents) (due : List ℕ) (history : Schedule) → after ≡ Operational → (before ≡ Operational → AllCurrent c history) → MayBecome d (marked_key mark) c e
      → AllCurrent e (with_turn d (turn_of mark (record { before = before; after = after })) e due history)
  by_state d before PreOperational mark c e due history on all may = absurd (cc)
  by_state d before Stopped mark c e due history on all may = absurd (cc)
  by_state d PreOperational Operational mark c e due history on all may = current_started e history
  by_state d Stopped Operational mark c e due history on all may = current_started e history
  by_state d Operational Operational mark c e due history on all may = stays d (marked_key mark) mark c e due history may (all refl)

  pub current : (k : Constants) (inputs : Inputs) → state_of k inputs ≡ Operational → AllCurrent (contents_of k inputs) (schedule_log k (moments k inputs))
  current k [] on = absurd (cc)
  current k (input ∷ inputs) on =
      let history = moments k inputs in
      let m = moment k history input in
      by_state k.description (state_at history) (state_at (m ∷ history)) m.mark (contents_at k history) m.contents m.due (schedule_log k history) on (current k inputs)
      (changed below k history input (no_reset (marked_command m.mark) m.lost m.received (state_log history) on))

  -- ---- as the schedule is asked

  asked_in : (d : Description) (set : Option Key) (mark : Mark) (c e : Contents) (history : Schedule) → is_asked (turn_with set mark) ≡ true → MayBecome d set c e → AllCurrent c history → AllCurrent e history
  asked_in d None mark c e history asked may all = current_kept c e history may all
  asked_in d (Some key) mark c e history asked may all = absurd (unasked key asked)

  asked_by : (d : Description) (before after : NodeState) (mark : Mark) (c e : Contents) (history : Schedule) → is_asked (turn_of mark (record { before = before; after = after })) ≡ true → (before ≡ Operational → AllCurrent c history) → (after ≡ Operational → MayBecome d (marked_key mark) c e)
      → AllCurrent e history
  asked_by d before PreOperational mark c e history asked all may = absurd (cc)
  asked_by d before Stopped mark c e history asked all may = absurd (cc)
  asked_by d PreOperational Operational mark c e history asked all may = absurd (cc)
  asked_by d Stopped Operational mark c e history asked all may = absurd (cc)
  asked_by d Operational Operational mark c e history asked all may = asked_in d (marked_key mark) mark c e history asked (may refl) (all refl)

  pub ready : (k : Constants) (inputs : Inputs) (input : InputView) → is_asked (turn_at (moment k (moments k inputs) input) (moments k inputs)) ≡ true
      → AllCurrent (contents_of k (input ∷ inputs)) (schedule_log k (moments k inputs))
  ready k inputs input asked =
      let history = moments k inputs in
      let m = moment k history input in
      asked_by k.description (state_at history) (state_at (m ∷ history)) m.mark (contents_at k history) m.contents (schedule_log k history) asked (current k inputs)
      (λ on. changed below k history input (no_reset (marked_command m.mark) m.lost m.received (state_log history) on))
