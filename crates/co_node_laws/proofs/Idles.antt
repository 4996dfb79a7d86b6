-- Where nothing is due of any part, ticks do nothing but count.
use Rattle.std.proofs.Common.{◌≡◌, ℕ, zero, suc, ◌+◌, ◌-◌, Bool, false, List, [], ◌∷◌, ◌++◌, Option, Some, None, refl, sym, ap, ◌∙◌, subst, arith}
use Rattle.std.specs.Prelude.{◌==◌}
use Rattle.std.specs.List.{find}
use Rattle.std.specs.Option.{option_map_or}
use Rattle.co_frame.specs.declared.emergency.Emergency.{Emergency}
use Rattle.co_dict.specs.Rows.{Contents}
use Rattle.co_dict.specs.Stores.{Description}
use Rattle.co_sdo.specs.Log.{Log, Ticked as TickOfChannel}
use Rattle.co_sdo.specs.Opened.{bytes_held, held_bytes}
use Rattle.co_sdo.proofs.Idles.{opened_tick}
use Rattle.co_sdo.specs.Channels.{ChannelSettings}
use Rattle.co_sdo.specs.Events.{ChannelEvent, NoTimeOutFor, held_on, with_each}
use Rattle.co_pdo.specs.Schedules.{History as Schedule, NoTpdoDueFor, all_due, with_tick as with_tick_of_schedule}
use Rattle.co_pdo.specs.declared.tpdo.Occasion.TheVariants as occasion
use Rattle.co_node_parts.specs.declared.nmt_state.NodeState.{NodeState}
use Rattle.co_node_parts.specs.declared.nmt_state.NodeState.TheVariants.{PreOperational, Operational, Stopped}
use Rattle.co_node_parts.specs.declared.nmt_state.Transition.{Transition}
use Rattle.co_node_parts.specs.NmtStates.{enters}
use Rattle.co_node_parts.specs.RpdoSlots.{taken_at}
use Rattle.co_node_model.specs.declared.mark.Mark.TheVariants as was
use Rattle.co_node_model.specs.Device.{contents_of, frames, held_of, moment, moments, state_of}
use Rattle.co_node_model.specs.Emergencies.{with_emergency}
use Rattle.co_node_model.specs.Heartbeats.{life_of, with_life, with_lost, with_losses}
use Rattle.co_node_model.specs.Inputs.{Inputs, Ticked}
use Rattle.co_node_model.specs.Moments.{Constants, History, Moment, channels, contents_at, nothing_of}
use Rattle.co_node_model.specs.Nmt.{state_at, transition_of}
use Rattle.co_node_model.specs.Rpdos.{slot_event, slot_log, with_pdos, with_taken}
use Rattle.co_node_model.specs.Sdo.{channel_logs, with_drop, with_tick}
use Rattle.co_node_model.specs.Ticks.{IsQuietFor, after_ticks}
use Rattle.co_node_model.specs.Tpdos.{due_at, schedule_log, turn_of, with_tpdos, with_turn}
use Rattle.co_node_laws.specs.Idle.{NothingDueFor}
use Rattle.co_node_laws.proofs.Kept.{none_taken}

-- a tick of which nothing came
abbrev quiet_tick : Contents → Moment
quiet_tick c = with_tick None (nothing_of Ticked c)

-- the NMT state stays
abbrev stays : NodeState → Transition
stays s = record { before = s; after = s }

none_due : (d : Description) (c : Contents) (log : Schedule) (s : NodeState) → (s ≡ Operational → all_due c log occasion.Tick ≡ [])
    → due_at d (turn_of (was.Tick false) (stays s)) c log ≡ []
none_due d c log PreOperational none = refl
none_due d c log Operational none = none refl
none_due d c log Stopped none = refl

not_stopped : (s : NodeState) → enters Stopped (stays s) ≡ false
not_stopped PreOperational = refl
not_stopped Operational = refl
not_stopped Stopped = refl

held_then : (logs : ℕ → Log) (o : Option ChannelSettings)
    → option_map_or (λ c. held_bytes (TickOfChannel ∷ logs c.number)) o 0 ≡ option_map_or (λ c. held_bytes (logs c.number)) o 0
held_then logs None = refl
held_then logs (Some c) = ap bytes_held (opened_tick (logs c.number))

module _ (k : Constants) (h : History) (n : ℕ) (s : NothingDueFor k h (suc n)) where
  no_loss : with_losses k h (quiet_tick (contents_at k h)) ≡ quiet_tick (contents_at k h)
  no_loss = ap (λ (lost : List ℕ). with_lost k.description lost (quiet_tick (contents_at k h))) s.consumers.0

  no_data : with_pdos k h (quiet_tick (contents_at k h)) ≡ quiet_tick (contents_at k h)
  no_data =
      let m : Moment = quiet_tick (contents_at k h) in
      let none : taken_at 512 (slot_event k.description (contents_at k h) (was.Tick false) (transition_of m h)) (slot_log k h) ≡ [] =
      none_taken k.description (contents_at k h) (was.Tick false) (transition_of m h) (slot_log k h) _ None refl refl refl refl in
      ap (λ taken. with_taken k.description [] (taken ++ []) (quiet_tick (contents_at k h))) none

  no_emergency : with_emergency h (quiet_tick (contents_at k h)) ≡ quiet_tick (contents_at k h)
  no_emergency = ap (λ (e : Option Emergency). record (quiet_tick (contents_at k h)) { emergency = e }) s.emergencies.0

  no_life : with_life k h (quiet_tick (contents_at k h)) ≡ quiet_tick (contents_at k h)
  no_life = ap (λ (b : Bool). record (quiet_tick (contents_at k h)) { life = life_of (was.Tick false) (state_at h) b }) s.producer.0

  no_tpdos : with_tpdos k h (quiet_tick (contents_at k h)) ≡ quiet_tick (contents_at k h)
  no_tpdos =
      ap (λ (due : List ℕ). record (quiet_tick (contents_at k h)) { due = due })
      (none_due k.description (contents_at k h) (schedule_log k h) (state_at h) (λ op. (s.tpdos op).0))

  pub is_quiet : moment k h Ticked ≡ quiet_tick (contents_at k h)
  is_quiet =
      ap (λ (o : Option ChannelEvent). with_tpdos k h (with_life k h (with_emergency h (with_pdos k h (with_losses k h (with_tick o (nothing_of Ticked (contents_at k h)))))))) s.transfers.0
      ∙ ap (λ (m : Moment). with_tpdos k h (with_life k h (with_emergency h (with_pdos k h m)))) no_loss
      ∙ ap (λ (m : Moment). with_tpdos k h (with_life k h (with_emergency h m))) no_data
      ∙ ap (λ (m : Moment). with_tpdos k h (with_life k h m)) no_emergency
      ∙ ap (with_tpdos k h) no_life
      ∙ no_tpdos

  transfers_then : channel_logs (quiet_tick (contents_at k h) ∷ h) ≡ with_each TickOfChannel (channel_logs h)
  transfers_then = ap (λ (b : Bool). with_drop b (with_each TickOfChannel (channel_logs h))) (not_stopped (state_at h))

  schedule_then : state_at h ≡ Operational → schedule_log k (quiet_tick (contents_at k h) ∷ h) ≡ with_tick_of_schedule (contents_at k h) [] (schedule_log k h)
  schedule_then op = ap (λ (state : NodeState). with_turn k.description (turn_of (was.Tick false) (stays state)) (contents_at k h) [] (schedule_log k h)) op

  then_quiet : NothingDueFor k (quiet_tick (contents_at k h) ∷ h) n
  then_quiet = record {
    transfers = subst (λ (logs : ℕ → Log). NoTimeOutFor (channels k) n logs) (sym transfers_then) s.transfers.1;
    consumers = s.consumers.1;
    emergencies = s.emergencies.1;
    producer = s.producer.1;
    tpdos = λ op. subst (λ (log : Schedule). NoTpdoDueFor (contents_at k h) n log) (sym (schedule_then op)) (s.tpdos op).1;
  }

  pub next_quiet : NothingDueFor k (moment k h Ticked ∷ h) n
  next_quiet = subst (λ (m : Moment). NothingDueFor k (m ∷ h) n) (sym is_quiet) then_quiet

  pub no_frames : frames k (moment k h Ticked) ≡ []
  no_frames = ap (frames k) is_quiet

  pub same_contents : contents_at k (moment k h Ticked ∷ h) ≡ contents_at k h
  same_contents = ap (λ (m : Moment). contents_at k (m ∷ h)) is_quiet

  pub same_state : state_at (moment k h Ticked ∷ h) ≡ state_at h
  same_state = ap (λ (m : Moment). state_at (m ∷ h)) is_quiet

  pub same_held : (channel : ℕ) → held_on (channels k) (channel_logs (moment k h Ticked ∷ h)) channel ≡ held_on (channels k) (channel_logs h) channel
  same_held channel =
      ap (λ (m : Moment). held_on (channels k) (channel_logs (m ∷ h)) channel) is_quiet
      ∙ ap (λ (logs : ℕ → Log). held_on (channels k) logs channel) transfers_then
      ∙ held_then (channel_logs h) (find (λ c. c.number == channel) (channels k))

-- after some of the ticks
record StillQuiet (k : Constants) (before later : Inputs) (left : ℕ) : Type 0 where
  due : NothingDueFor k (moments k later) left
  entries : contents_of k later ≡ contents_of k before
  state : state_of k later ≡ state_of k before
  held : (channel : ℕ) → held_of k later channel ≡ held_of k before channel

still : (k : Constants) (before : Inputs) (n left count : ℕ) → count ≡ left + n → NothingDueFor k (moments k before) count → StillQuiet k before (after_ticks n before) left
still k before zero left count e s = record {
  due = let same : count ≡ left = omega arith in subst (λ (m : ℕ). NothingDueFor k (moments k before) m) same s;
  entries = refl;
  state = refl;
  held = λ channel. refl;
}
still k before (suc n) left count e s =
    let q : StillQuiet k before (after_ticks n before) (suc left) = still k before n (suc left) count (omega arith) s in
    record {
      due = next_quiet k (moments k (after_ticks n before)) left q.due;
      entries = same_contents k (moments k (after_ticks n before)) left q.due ∙ q.entries;
      state = same_state k (moments k (after_ticks n before)) left q.due ∙ q.state;
      held = λ channel. same_held k (moments k (after_ticks n before)) left q.due channel ∙ q.held channel;
    }

pub quiet_for : (k : Constants) (before : Inputs) (count : ℕ) → NothingDueFor k (moments k before) count → IsQuietFor k before count
quiet_for k before count s = record {
  frames = λ n lt.
      let q : StillQuiet k before (after_ticks n before) (suc (count - n - 1)) = still k before n (suc (count - n - 1)) count (omega arith) s in
      no_frames k (moments k (after_ticks n before)) (count - n - 1) q.due;
  entries = λ n le. (still k before n (count - n) count (omega arith) s).entries;
  state = λ n le. (still k before n (count - n) count (omega arith) s).state;
  held = λ n le. (still k before n (count - n) count (omega arith) s).held;
}
