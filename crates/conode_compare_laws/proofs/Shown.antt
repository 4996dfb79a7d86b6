-- What compare knows of a device's NMT state, and the state that the device is in.
use Rattle.std.proofs.Common.{◌≡◌, ℕ, ◌-◌, Bool, true, false, Option, Some, None, refl, ap, ◌∙◌, arith}
use Rattle.std.specs.Prelude.{if◌then◌else◌}
use Rattle.std.proofs.lemmas.Bool.Decides.{nat_tests}
use Rattle.co_frame.specs.declared.nmt.NmtService.{NmtService}
use Rattle.co_frame.specs.declared.nmt.NmtService.TheVariants.{Start, Stop, EnterPreOperational, ResetNode, ResetCommunication}
use Rattle.co_frame.specs.Heartbeats.{state_byte}
use Rattle.co_node_parts.specs.declared.nmt_state.LossReaction.{LossReaction}
use Rattle.co_node_parts.specs.declared.nmt_state.LossReaction.TheVariants.{LeaveOperational, NoChange, EnterStopped}
use Rattle.co_node_parts.specs.declared.nmt_state.NodeState.{NodeState}
use Rattle.co_node_parts.specs.declared.nmt_state.NodeState.TheVariants as node
use Rattle.co_node_parts.specs.NmtStates.{after_loss, heartbeat_of}
use Rattle.conode_compare_nmt.specs.declared.finding.NmtState.{NmtState}
use Rattle.conode_compare_nmt.specs.declared.finding.NmtState.TheVariants.{Unknown, Initialising, PreOperational, Operational, Stopped}
use Rattle.conode_compare_nmt.specs.declared.limits.Limits.{Limits}
use Rattle.conode_compare_nmt.specs.States.{is_stopped, either_state, freer, is_reset, is_wrong, overdue_in, state_after, state_finding}
use Rattle.conode_compare_transfers.specs.Times.{is_past}

-- compare may have this state for a device that is in that one: nothing, the same, or one from which it has fallen back without a
-- command (1029h)
abbrev pub is_shown : NmtState → NodeState → Bool
is_shown Unknown actual = true
is_shown Initialising actual = false
is_shown PreOperational node.PreOperational = true
is_shown PreOperational node.Operational = false
is_shown PreOperational node.Stopped = true
is_shown Operational actual = true
is_shown Stopped node.PreOperational = false
is_shown Stopped node.Operational = false
is_shown Stopped node.Stopped = true

-- a reset was commanded at this time, and the boot-up hasn't come
abbrev pub AwaitsBootUp : ℕ → NmtState → Option ℕ → Type 0
AwaitsBootUp micros Unknown reset = Unit {0}
AwaitsBootUp micros Initialising reset = reset ≡ Some micros
AwaitsBootUp micros PreOperational reset = ⊥
AwaitsBootUp micros Operational reset = ⊥
AwaitsBootUp micros Stopped reset = ⊥

-- where a device is within an input: it was reset, and its boot-up comes; or it is in a state
pub data Stage : Type 0 where
  boots : Stage
  runs : NodeState → Stage

-- what compare has then: the state, the stamp of the newest reset, and that of the newest boot-up
abbrev pub Fits : ℕ → Stage → NmtState → Option ℕ → Option ℕ → Type 0
Fits micros boots state reset booted = (booted ≡ None) × AwaitsBootUp micros state reset
Fits micros (runs actual) state reset booted = is_shown state actual ≡ true

-- ---- nothing is known

pub fits_nothing : (micros : ℕ) (stage : Stage) (reset : Option ℕ) → Fits micros stage Unknown reset None
fits_nothing micros boots reset = (refl, tt)
fits_nothing micros (runs actual) reset = refl

-- ---- another frame of the device

pub unbooted : (micros : ℕ) (stage : Stage) (state : NmtState) (reset booted : Option ℕ) → Fits micros stage state reset booted → Fits micros stage state reset None
unbooted micros boots state reset booted h = (refl, h.1)
unbooted micros (runs actual) state reset booted h = h

pub or_unknown : (micros : ℕ) (stage : Stage) (b : Bool) (state : NmtState) (reset booted : Option ℕ) → Fits micros stage state reset booted → Fits micros stage (if b then Unknown else state) reset None
or_unknown micros boots true state reset booted h = (refl, tt)
or_unknown micros boots false state reset booted h = (refl, h.1)
or_unknown micros (runs actual) true state reset booted h = refl
or_unknown micros (runs actual) false state reset booted h = h

-- no boot-up is overdue

not_past : (millis micros : ℕ) → is_past micros millis micros ≡ false
not_past millis micros = grind (arith, nat_tests)

at_once : (limits : Limits) (micros : ℕ) (reset : Option ℕ) → reset ≡ Some micros → overdue_in limits Initialising reset micros ≡ None
at_once limits micros reset e =
    ap (λ r. overdue_in limits Initialising r micros) e
    ∙ ap (λ b. if b then Some (micros - micros) else None) (not_past limits.boot micros)

pub none_overdue : (limits : Limits) (micros : ℕ) (stage : Stage) (state : NmtState) (reset booted : Option ℕ) → Fits micros stage state reset booted → overdue_in limits state reset micros ≡ None
none_overdue limits micros stage Unknown reset booted h = refl
none_overdue limits micros boots Initialising reset booted h = at_once limits micros reset h.1
none_overdue limits micros (runs actual) Initialising reset booted h = absurd (cc)
none_overdue limits micros stage PreOperational reset booted h = refl
none_overdue limits micros stage Operational reset booted h = refl
none_overdue limits micros stage Stopped reset booted h = refl

-- ---- a heartbeat

-- the state that it shows
abbrev pub same_state : NodeState → NmtState
same_state node.PreOperational = PreOperational
same_state node.Operational = Operational
same_state node.Stopped = Stopped

pub itself : (actual : NodeState) → is_shown (same_state actual) actual ≡ true
itself node.PreOperational = refl
itself node.Operational = refl
itself node.Stopped = refl

not_wrong : (alone : Bool) (state : NmtState) (actual : NodeState) → is_shown state actual ≡ true → is_wrong alone state (same_state actual) ≡ false
not_wrong alone Unknown actual h = refl
not_wrong alone Initialising actual h = refl
not_wrong alone PreOperational node.PreOperational h = refl
not_wrong alone PreOperational node.Operational h = absurd (cc)
not_wrong alone PreOperational node.Stopped h = refl
not_wrong alone Operational actual h = refl
not_wrong alone Stopped node.PreOperational h = absurd (cc)
not_wrong alone Stopped node.Operational h = absurd (cc)
not_wrong alone Stopped node.Stopped h = refl

-- where the newest command leads to another state, a frame is judged by the freer one
pub freer_not_wrong : (alone : Bool) (state due : NmtState) (actual : NodeState) → is_shown state actual ≡ true → is_wrong alone (freer state due) (same_state actual) ≡ false
freer_not_wrong alone Unknown due actual h = refl
freer_not_wrong alone Initialising due actual h = refl
freer_not_wrong alone PreOperational Operational actual h = refl
freer_not_wrong alone PreOperational Unknown actual h = not_wrong alone PreOperational actual h
freer_not_wrong alone PreOperational Initialising actual h = not_wrong alone PreOperational actual h
freer_not_wrong alone PreOperational PreOperational actual h = not_wrong alone PreOperational actual h
freer_not_wrong alone PreOperational Stopped actual h = not_wrong alone PreOperational actual h
freer_not_wrong alone Operational due actual h = refl
freer_not_wrong alone Stopped Operational actual h = refl
freer_not_wrong alone Stopped PreOperational node.PreOperational h = refl
freer_not_wrong alone Stopped PreOperational node.Operational h = absurd (cc)
freer_not_wrong alone Stopped PreOperational node.Stopped h = refl
freer_not_wrong alone Stopped Unknown actual h = not_wrong alone Stopped actual h
freer_not_wrong alone Stopped Initialising actual h = not_wrong alone Stopped actual h
freer_not_wrong alone Stopped Stopped actual h = not_wrong alone Stopped actual h

pub none_judged : (alone : Bool) (state due : NmtState) (actual : NodeState) → is_shown state actual ≡ true → state_finding alone (freer state due) (state_byte (heartbeat_of actual)) ≡ None
unfolding state_finding
none_judged alone state due node.PreOperational h = rw (freer_not_wrong alone state due node.PreOperational h) refl
none_judged alone state due node.Operational h = rw (freer_not_wrong alone state due node.Operational h) refl
none_judged alone state due node.Stopped h = rw (freer_not_wrong alone state due node.Stopped h) refl

pub freer_running : (state due : NmtState) → is_stopped state ≡ false → is_stopped (freer state due) ≡ false
freer_running Unknown due h = refl
freer_running Initialising due h = refl
freer_running PreOperational Operational h = refl
freer_running PreOperational Unknown h = refl
freer_running PreOperational Initialising h = refl
freer_running PreOperational PreOperational h = refl
freer_running PreOperational Stopped h = refl
freer_running Operational due h = refl
freer_running Stopped due h = absurd (cc)

pub freer_operational : (state due : NmtState) → is_shown state node.Operational ≡ true → freer state due ≡ state
freer_operational Unknown due h = refl
freer_operational Initialising due h = absurd (cc)
freer_operational PreOperational due h = absurd (cc)
freer_operational Operational due h = refl
freer_operational Stopped due h = absurd (cc)

-- ---- a lost heartbeat

pub lost : (state : NmtState) (actual : NodeState) (reaction : LossReaction) → is_shown state actual ≡ true → is_shown state (after_loss reaction actual) ≡ true
lost Unknown actual reaction h = refl
lost Initialising actual reaction h = absurd (cc)
lost Operational actual reaction h = refl
lost PreOperational node.PreOperational LeaveOperational h = refl
lost PreOperational node.PreOperational NoChange h = refl
lost PreOperational node.PreOperational EnterStopped h = refl
lost PreOperational node.Operational reaction h = absurd (cc)
lost PreOperational node.Stopped LeaveOperational h = refl
lost PreOperational node.Stopped NoChange h = refl
lost PreOperational node.Stopped EnterStopped h = refl
lost Stopped node.PreOperational reaction h = absurd (cc)
lost Stopped node.Operational reaction h = absurd (cc)
lost Stopped node.Stopped LeaveOperational h = refl
lost Stopped node.Stopped NoChange h = refl
lost Stopped node.Stopped EnterStopped h = refl

-- ---- a command

-- where the device is after a command, if there was one
abbrev pub stage_after : Option NmtService → NodeState → Stage
stage_after None actual = runs actual
stage_after (Some Start) actual = runs node.Operational
stage_after (Some Stop) actual = runs node.Stopped
stage_after (Some EnterPreOperational) actual = runs node.PreOperational
stage_after (Some ResetNode) actual = boots
stage_after (Some ResetCommunication) actual = boots

start_shown : (own : Bool) (state : NmtState) (actual : NodeState) → is_shown state actual ≡ true → is_shown (state_after Start own state) node.Operational ≡ true
start_shown own Initialising actual h = absurd (cc)
start_shown true Unknown actual h = refl
start_shown true PreOperational actual h = refl
start_shown true Operational actual h = refl
start_shown true Stopped actual h = refl
start_shown false Unknown actual h = refl
start_shown false PreOperational actual h = refl
start_shown false Operational actual h = refl
start_shown false Stopped actual h = refl

stop_shown : (own : Bool) (state : NmtState) (actual : NodeState) → is_shown state actual ≡ true → is_shown (state_after Stop own state) node.Stopped ≡ true
stop_shown own Initialising actual h = absurd (cc)
stop_shown true Unknown actual h = refl
stop_shown true PreOperational actual h = refl
stop_shown true Operational actual h = refl
stop_shown true Stopped actual h = refl
stop_shown false Unknown actual h = refl
stop_shown false PreOperational actual h = refl
stop_shown false Operational actual h = refl
stop_shown false Stopped actual h = refl

enter_shown : (own : Bool) (state : NmtState) (actual : NodeState) → is_shown state actual ≡ true → is_shown (state_after EnterPreOperational own state) node.PreOperational ≡ true
enter_shown own Initialising actual h = absurd (cc)
enter_shown true Unknown actual h = refl
enter_shown true PreOperational actual h = refl
enter_shown true Operational actual h = refl
enter_shown true Stopped actual h = refl
enter_shown false Unknown actual h = refl
enter_shown false PreOperational actual h = refl
enter_shown false Operational actual h = refl
enter_shown false Stopped actual h = refl

node_awaits : (micros : ℕ) (own : Bool) (state : NmtState) (actual : NodeState) → is_shown state actual ≡ true → AwaitsBootUp micros (state_after ResetNode own state) (Some micros)
node_awaits micros own Initialising actual h = absurd (cc)
node_awaits micros true Unknown actual h = tt
node_awaits micros true PreOperational actual h = tt
node_awaits micros true Operational actual h = tt
node_awaits micros true Stopped actual h = tt
node_awaits micros false Unknown actual h = refl
node_awaits micros false PreOperational actual h = refl
node_awaits micros false Operational actual h = refl
node_awaits micros false Stopped actual h = refl

communication_awaits : (micros : ℕ) (own : Bool) (state : NmtState) (actual : NodeState) → is_shown state actual ≡ true → AwaitsBootUp micros (state_after ResetCommunication own state) (Some micros)
communication_awaits micros own Initialising actual h = absurd (cc)
communication_awaits micros true Unknown actual h = tt
communication_awaits micros true PreOperational actual h = tt
communication_awaits micros true Operational actual h = tt
communication_awaits micros true Stopped actual h = tt
communication_awaits micros false Unknown actual h = refl
communication_awaits micros false PreOperational actual h = refl
communication_awaits micros false Operational actual h = refl
communication_awaits micros false Stopped actual h = refl

pub command_fits : (micros : ℕ) (service : NmtService) (own : Bool) (state : NmtState) (actual : NodeState) (reset booted : Option ℕ) → is_shown state actual ≡ true
    → Fits micros (stage_after (Some service) actual) (state_after service own state) (if is_reset service then Some micros else reset) (if is_reset service then None else booted)
command_fits micros Start own state actual reset booted h = start_shown own state actual h
command_fits micros Stop own state actual reset booted h = stop_shown own state actual h
command_fits micros EnterPreOperational own state actual reset booted h = enter_shown own state actual h
command_fits micros ResetNode own state actual reset booted h = (refl, node_awaits micros own state actual h)
command_fits micros ResetCommunication own state actual reset booted h = (refl, communication_awaits micros own state actual h)

-- ---- a command with more than two bytes, which it doesn't take

pub either_shown : (state after : NmtState) (actual : NodeState) → is_shown state actual ≡ true → is_shown (either_state state after) actual ≡ true
either_shown Unknown after actual h = refl
either_shown Initialising after actual h = absurd (cc)
either_shown PreOperational Unknown actual h = refl
either_shown PreOperational Initialising actual h = refl
either_shown PreOperational PreOperational actual h = h
either_shown PreOperational Operational actual h = refl
either_shown PreOperational Stopped actual h = refl
either_shown Operational Unknown actual h = refl
either_shown Operational Initialising actual h = refl
either_shown Operational PreOperational actual h = refl
either_shown Operational Operational actual h = refl
either_shown Operational Stopped actual h = refl
either_shown Stopped Unknown actual h = refl
either_shown Stopped Initialising actual h = refl
either_shown Stopped PreOperational actual h = refl
either_shown Stopped Operational actual h = refl
either_shown Stopped Stopped actual h = h
