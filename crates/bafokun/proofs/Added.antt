-- One more lost heartbeat, and one more tick; and the definitions, evaluated.
use Rattle.std.proofs.Common.{◌≡◌, ◌<◌, ◌+◌, ℕ, suc, ◌==◌, Bool, true, false, not, List, [], ◌∷◌, Option, Some, None, length, take, get_or, refl, sym, ap, ◌∙◌, subst, arith}
use Rattle.std.specs.Prelude.{if◌then◌else◌}
use Rattle.std.proofs.lemmas.Bool.Decides.{nat_tests}
use Rattle.std.proofs.lemmas.List.{take_more}
use Rattle.std.proofs.lemmas.Grind.{fold-append}
use Rattle.co_frame.specs.FrameContent.{FrameContent}
use Rattle.co_dict.specs.Rows.{Contents}
use Rattle.co_node_parts.specs.declared.nmt_state.NodeState.{NodeState}
use Rattle.co_node_parts.specs.declared.nmt_state.NodeState.TheVariants.{Operational, PreOperational, Stopped}
use Rattle.co_node_parts.specs.declared.nmt_state.StateEvent.TheVariants as state
use Rattle.co_node_parts.specs.NmtStates.{state_after}
use Rattle.co_node_model.specs.Inputs.{Framed, InputView, Inputs, Ticked}
use Rattle.co_node_model.specs.Moments.{Constants, History, Moment}
use Rattle.co_node_model.specs.Nmt.{state_log}
use Rattle.co_node_model.specs.Heartbeats.{loss_event}
use Rattle.co_node_model.specs.Device.{contents_of, moment, moments, state_of}
use Rattle.co_node_model.specs.Ticks.{after_ticks}
use Rattle.co_node_device.specs.declared.seen.Seen.{Seen}
use Rattle.co_node_device.specs.declared.seen.Seen.TheVariants as seen
use Rattle.co_node_laws.proofs.LossDistances.{elsewhere}
use Rattle.co_node_device.specs.Lasts.{last_losses, last_seen}
use Rattle.bafokun.specs.declared.happened.Events.{Events}
use Rattle.bafokun.specs.declared.ending.Ending.{Ending}
use Rattle.bafokun.specs.declared.held.Held.{Held}
use Rattle.bafokun.specs.declared.handle.Handle.{Handle}
use Rattle.bafokun.specs.Ending.{by_input, by_ticks, ending_in, ending_of}
use Rattle.bafokun.specs.Happened.{and_input, and_ticks, events_in, events_of, left_of, node_at, told_of, with_loss, with_losses, with_seen, with_state}

pub one_more_loss : (contents : Contents) (subs : List ℕ) (i : ℕ) (old now after : Events) → i < length subs
    → now ≡ with_losses contents (take i subs) old → after ≡ with_loss (node_at contents (get_or subs i 0)) now
    → after ≡ with_losses contents (take (i + 1) subs) old
one_more_loss contents subs i old now after below is more =
    more ∙ ap (with_loss (node_at contents (get_or subs i 0))) is
    ∙ sym (fold-append (λ (e : Events) (sub : ℕ). with_loss (node_at contents sub) e) old (take i subs) (get_or subs i 0 ∷ []))
    ∙ sym (ap (λ (some : List ℕ). with_losses contents some old) (take_more subs i 0 below))

plus_one : (n : ℕ) → suc n ≡ n + 1
plus_one n = omega arith

pub one_more_tick : (k : Constants) (before : Inputs) (n : ℕ) (e : Events)
    → and_ticks k before (n + 1) e ≡ and_input k (after_ticks n before) Ticked (and_ticks k before n e)
one_more_tick k before n e =
    subst (λ m. and_ticks k before m e ≡ and_input k (after_ticks n before) Ticked (and_ticks k before n e)) (plus_one n) refl

-- a list that is tested to have no element
pub none_by_test : (xs : List ℕ) → true ≡ (length xs == 0) → xs ≡ []
none_by_test [] e = refl
none_by_test (x ∷ xs) e = let none : length (x ∷ xs) ≡ 0 = grind (arith, nat_tests, e) in absurd (omega (arith, none))

-- what is seen of an input, and the state after it
pub stated : (k : Constants) (past : Inputs) (input : InputView) (old noted after : Events) (s : Seen) (from to : NodeState)
    → s ≡ last_seen k (input ∷ past) → from ≡ state_of k past → to ≡ state_of k (input ∷ past)
    → noted ≡ with_seen s old → after ≡ with_state from to noted
    → after ≡ with_state (state_of k past) (state_of k (input ∷ past)) (with_seen (last_seen k (input ∷ past)) old)
stated k past input old noted after s from to es ef et en ea =
    ea ∙ ap (λ (f : NodeState). with_state f to noted) ef
    ∙ ap (λ (t : NodeState). with_state (state_of k past) t noted) et
    ∙ ap (with_state (state_of k past) (state_of k (input ∷ past))) (en ∙ ap (λ (u : Seen). with_seen u old) es)

-- no other state is entered
same_state : (s : NodeState) (e : Events) → with_state s s e ≡ e
same_state PreOperational e = refl
same_state Operational e = refl
same_state Stopped e = refl

-- a tick at which no heartbeat is lost
pub quiet_tick : (k : Constants) (past : Inputs) (e : Events) → last_losses k (Ticked ∷ past) ≡ [] → and_input k past Ticked e ≡ e
quiet_tick k past e none =
    let history : History = moments k past in
    let m : Moment = moment k history Ticked in
    let loss : m.loss ≡ state.Quiet = ap (λ (subs : List ℕ). loss_event subs m.received) none in
    let same : state_of k (Ticked ∷ past) ≡ state_of k past = ap (λ event. state_after (event ∷ state.Quiet ∷ state_log history)) loss in
    ap (λ (subs : List ℕ). with_losses (contents_of k (Ticked ∷ past)) subs (with_state (state_of k past) (state_of k (Ticked ∷ past)) e)) none
    ∙ ap (λ (t : NodeState). with_state (state_of k past) t e) same ∙ same_state (state_of k past) e

-- a received frame that leaves the NMT state as it is: no heartbeat is lost at it
pub framed : (k : Constants) (past : Inputs) (frame : FrameContent) (old noted : Events) (s : Seen)
    → state_of k (Framed frame ∷ past) ≡ state_of k past → s ≡ last_seen k (Framed frame ∷ past) → noted ≡ with_seen s old
    → noted ≡ and_input k past (Framed frame) old
framed k past frame old noted s same es en =
    let contents = contents_of k (Framed frame ∷ past) in
    let lost : [] ≡ last_losses k (Framed frame ∷ past) = sym (elsewhere k past (Framed frame) refl) in
    let seen : Events = with_seen (last_seen k (Framed frame ∷ past)) old in
    en ∙ ap (λ (u : Seen). with_seen u old) es ∙ sym (same_state (state_of k past) seen)
    ∙ ap (λ (t : NodeState). with_state (state_of k past) t seen) (sym same)
    ∙ ap (λ (subs : List ℕ). with_losses contents subs (with_state (state_of k past) (state_of k (Framed frame ∷ past)) seen)) lost

-- what happened to a held device that is put back
pub events_given : (o : Option Held) (there after : Held) (place : Handle) (f : Events → Events)
    → Some there ≡ o → place.seal.value ≡ Some after → after.events ≡ f there.events → events_of place ≡ f (events_in o)
events_given o there after place f is back did =
    ap events_in back ∙ did ∙ ap (λ (o : Option Held). f (events_in o)) is

-- ---- what ends of the error register

pub one_more_ending : (k : Constants) (before : Inputs) (n : ℕ) (e : Ending)
    → by_ticks k before (n + 1) e ≡ by_input k (after_ticks n before) Ticked (by_ticks k before n e)
one_more_ending k before n e =
    subst (λ m. by_ticks k before m e ≡ by_input k (after_ticks n before) Ticked (by_ticks k before n e)) (plus_one n) refl

-- by a test whether a heartbeat was lost
ending_by : (none : Bool) (e : Ending)
    → (if not none then record e { communication = false } else e) ≡ (if none then e else record e { communication = false })
ending_by true e = refl
ending_by false e = refl

abbrev by_loss : Ending → Bool → Ending
by_loss e lost = if lost then record e { communication = false } else e

pub ending_lost : (none lost : Bool) (e : Ending) → lost ≡ not none → lost ≡ true
    → record e { communication = false } ≡ (if none then e else record e { communication = false })
ending_lost none lost e is so = ap (by_loss e) (sym so ∙ is) ∙ ending_by none e

pub ending_kept : (none lost : Bool) (e : Ending) → lost ≡ not none → lost ≡ false
    → e ≡ (if none then e else record e { communication = false })
ending_kept none lost e is so = ap (by_loss e) (sym so ∙ is) ∙ ending_by none e

-- of a held device that is put back
pub ending_given : (o : Option Held) (there after : Held) (place : Handle) (f : Ending → Ending)
    → Some there ≡ o → place.seal.value ≡ Some after → after.ending ≡ f there.ending → ending_of place ≡ f (ending_in o)
ending_given o there after place f is back did =
    ap ending_in back ∙ did ∙ ap (λ (o : Option Held). f (ending_in o)) is

-- ---- of four nodes, 0 to 3

abbrev none : Events
none = record {
  reset_node = 0;
  reset_communication = 0;
  state = 0;
  sync = 0;
  rpdo = 0;
  heartbeat = 0;
  lost = 0 ∷ 0 ∷ 0 ∷ 0 ∷ [];
  back = 0 ∷ 0 ∷ 0 ∷ 0 ∷ [];
  silent = 0 ∷ 0 ∷ 0 ∷ 0 ∷ [];
}

-- 1016:01 is of node 2, 1016:02 of node 3
abbrev contents : Contents
contents key =
    if key.index == 0x1016 then (if key.sub == 1 then Some (100 ∷ 0 ∷ 2 ∷ 0 ∷ []) else Some (50 ∷ 0 ∷ 3 ∷ 0 ∷ [])) else None

abbrev both_lost : Events
both_lost = record none { heartbeat = 1; lost = 0 ∷ 0 ∷ 1 ∷ 1 ∷ []; silent = 0 ∷ 0 ∷ 1 ∷ 1 ∷ [] }

lost : with_losses contents (1 ∷ 2 ∷ []) none ≡ both_lost
lost = refl

-- node 3 is back, once; node 1 wasn't lost
back : with_seen (seen.Heartbeat 3) both_lost ≡ record both_lost { back = 0 ∷ 0 ∷ 0 ∷ 1 ∷ []; silent = 0 ∷ 0 ∷ 1 ∷ 0 ∷ [] }
back = refl

heard : with_seen (seen.Heartbeat 3) none ≡ none
heard = refl

-- the events of an answer are forgotten, but for the silence of node 2
told : told_of both_lost ≡ Some both_lost
told = refl

left : (left_of both_lost).silent ≡ 0 ∷ 0 ∷ 1 ∷ 1 ∷ []
left = refl

nothing_told : told_of (record none { silent = 0 ∷ 0 ∷ 1 ∷ 0 ∷ [] }) ≡ None
nothing_told = refl

reset : with_seen seen.ResetCommunication none ≡ record none { reset_communication = 1; state = 127 }
reset = refl

-- another state is entered, and none
entered : with_state PreOperational Operational none ≡ record none { state = 5 }
entered = refl

same : with_state Operational Operational none ≡ none
same = refl
