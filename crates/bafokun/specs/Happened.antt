-- What happened to a device since the application asked: what each input since then did.
use Rattle.std.specs.Prelude.{◌≡◌, ℕ, zero, suc, ◌==◌, ◌||◌, not, if◌then◌else◌, Bool, true, false, List, [], ◌∷◌, Option, Some, None, unwrap_or, fold, replicate, slice_index, slice_set}
use Rattle.co_dict.specs.ConsumerHeartbeats.{consumer_key}
use Rattle.co_dict.specs.Rows.{Contents}
use Rattle.co_node_parts.specs.declared.nmt_state.NodeState.{NodeState}
use Rattle.co_node_parts.specs.NmtStates.{is_state}
use Rattle.co_node_model.specs.Inputs.{InputView, Inputs, Ticked}
use Rattle.co_node_model.specs.Moments.{Constants}
use Rattle.co_node_model.specs.Device.{contents_of, state_of}
use Rattle.co_node_model.specs.Ticks.{after_ticks}
use Rattle.co_node_device.specs.declared.seen.Seen.{Seen}
use Rattle.co_node_device.specs.declared.seen.Seen.TheVariants as seen
use Rattle.co_node_device.specs.Lasts.{last_losses, last_seen}
use Rattle.bafokun.specs.declared.happened.Events.{Events}
use Rattle.bafokun.specs.declared.held.Held.{Held}
use Rattle.bafokun.specs.declared.handle.Handle.{Handle}
use Rattle.bafokun.specs.Answers.{state_code}

-- nothing
abbrev pub no_events : Events
no_events = record {
  reset_node = 0;
  reset_communication = 0;
  state = 0;
  sync = 0;
  rpdo = 0;
  heartbeat = 0;
  lost = replicate 128 0;
  back = replicate 128 0;
  silent = replicate 128 0;
}

-- ---- what one input did

-- a heartbeat of a node: it is back, if its heartbeat was lost and none came since
abbrev pub with_heartbeat : ℕ → Events → Events
with_heartbeat node e =
    if slice_index e.silent node == 0 then e
    else record e { heartbeat = 1; back = slice_set e.back node 1; silent = slice_set e.silent node 0 }

-- by what is seen of the input; a reset enters pre-operational (7.2.8.2.1)
abbrev pub with_seen : Seen → Events → Events
with_seen seen.Nothing e = e
with_seen seen.ResetNode e = record e { reset_node = 1; state = 127 }
with_seen seen.ResetCommunication e = record e { reset_communication = 1; state = 127 }
with_seen seen.Sync e = record e { sync = 1 }
with_seen seen.Rpdo e = record e { rpdo = 1 }
with_seen (seen.Heartbeat node) e = with_heartbeat node e

-- by the NMT states before and after it: another one was entered
abbrev pub with_state : NodeState → NodeState → Events → Events
with_state before after e = if is_state before after then e else record e { state = state_code after }

-- the heartbeat of a node was lost
abbrev pub with_loss : ℕ → Events → Events
with_loss node e =
    record e { heartbeat = 1; lost = slice_set e.lost node 1; silent = slice_set e.silent node 1 }

-- the node-ID that an entry of 1016h has: bits 23 to 16, its byte 2; 0 without the entry (7.5.2.19)
abbrev pub node_at : Contents → ℕ → ℕ
node_at contents sub = slice_index (unwrap_or (contents (consumer_key sub)) []) 2

-- the heartbeats of these entries of 1016h were lost
abbrev pub with_losses : Contents → List ℕ → Events → Events
with_losses contents subs e = fold (λ e sub. with_loss (node_at contents sub) e) e subs

-- one more input
abbrev pub and_input : Constants → Inputs → InputView → Events → Events
and_input k before input e =
    with_losses (contents_of k (input ∷ before)) (last_losses k (input ∷ before))
    (with_state (state_of k before) (state_of k (input ∷ before)) (with_seen (last_seen k (input ∷ before)) e))

-- so many ticks
abbrev pub and_ticks : Constants → Inputs → ℕ → Events → Events
and_ticks k before zero e = e
and_ticks k before (suc n) e = and_input k (after_ticks n before) Ticked (and_ticks k before n e)

-- a change of the CAN controller, if it is an input
abbrev pub and_bus : Constants → Inputs → Option InputView → Events → Events
and_bus k before None e = e
and_bus k before (Some input) e = and_input k before input e

-- ---- the answer

-- anything happened
abbrev pub is_any : Events → Bool
is_any e =
    not (e.reset_node == 0) || (not (e.reset_communication == 0) || (not (e.state == 0)
    || (not (e.sync == 0) || (not (e.rpdo == 0) || not (e.heartbeat == 0)))))

-- all is forgotten, but for the nodes whose heartbeat is lost
abbrev pub forgotten : Events → Events
forgotten e = record no_events { silent = e.silent }

-- what the application gets: nothing, if nothing happened
abbrev pub told_of : Events → Option Events
told_of e = if is_any e then Some e else None

-- what is left after the answer
abbrev pub left_of : Events → Events
left_of e = if is_any e then forgotten e else e

-- C gets what happened; if nothing did, nothing changes
abbrev pub IsTold : Option Events → Events → Events → Bool → Type 0
IsTold None before after any = (after ≡ before) × (any ≡ false)
IsTold (Some e) before after any = (after ≡ e) × (any ≡ true)

-- ---- of a device

-- what happened to a held device
abbrev pub events_in : Option Held → Events
events_in None = no_events
events_in (Some held) = held.events

-- what happened to a place's device since the application asked
abbrev pub events_of : Handle → Events
events_of place = events_in place.seal.value
