-- What single kinds of inputs do.
use Rattle.std.proofs.Common.{◌≡◌, ℕ, true, List, [], ◌∷◌, ◌++◌, Option, Some, None, refl, ap, ◌∙◌}
use Rattle.std.specs.Prelude.{false}
use Rattle.std.specs.List.{filter}
use Rattle.co_frame.specs.FrameContent.{FrameContent}
use Rattle.co_frame.specs.declared.nmt.NmtService.{NmtService}
use Rattle.co_frame.specs.declared.nmt.NmtService.TheVariants.{Start, Stop, EnterPreOperational, ResetNode, ResetCommunication}
use Rattle.co_sdo.specs.Downloads.{Download}
use Rattle.co_sdo.specs.Events.{exchange_of, logs_after, set_of}
use Rattle.co_pdo.specs.Tpdos.{tpdo_numbers}
use Rattle.co_node_parts.specs.declared.nmt_state.NodeState.{NodeState}
use Rattle.co_node_parts.specs.declared.nmt_state.NodeState.TheVariants.{PreOperational, Operational, Stopped}
use Rattle.co_node_parts.specs.declared.rpdo_slots.KeptFrame.{KeptFrame}
use Rattle.co_node_parts.specs.NmtStates.{commanded}
use Rattle.co_node_model.specs.Emergencies.{emergency_frames}
use Rattle.co_node_model.specs.Inputs.{AppView, ChangedAt, Cleared, EventOn, Inputs, InputView, Raised, Written}
use Rattle.co_node_model.specs.Moments.{Constants, channels}
use Rattle.co_node_model.specs.Tpdos.{is_mapped_into}
use Rattle.co_node_laws.specs.ByKind.{
  Kind,
  Tick,
  Commanded,
  Synced,
  Requested,
  Received,
  Heard,
  Ignored,
  Done,
  Refused,
  by_command,
  by_event,
  by_events,
  by_request,
  by_rpdo,
  by_sync,
  device_after,
  device_of,
  frames_of,
  is_inert,
  is_silent_while_stopped,
  kind_of,
  no_frame,
  outcome,
  sent_by,
  state_with,
  with_download,
}
use Rattle.co_node_laws.specs.Devices.{Device, after_sending, emergency_at_end}

pub frames_by : (k : Constants) (inputs : Inputs) (input : InputView) (kind : Kind) → kind_of k (device_of k inputs) input ≡ kind → sent_by k inputs input ≡ frames_of (outcome k kind (device_of k inputs))
frames_by k inputs input kind is = ap (λ other. frames_of (outcome k other (device_of k inputs))) is

pub device_by : (k : Constants) (inputs : Inputs) (input : InputView) (kind : Kind) → kind_of k (device_of k inputs) input ≡ kind
    → device_of k (input ∷ inputs) ≡ device_after (outcome k kind (device_of k inputs))
device_by k inputs input kind is = ap (λ other. device_after (outcome k other (device_of k inputs))) is

pub inert : (k : Constants) (kind : Kind) (d : Device) → is_inert kind ≡ true → outcome k kind d ≡ no_frame d
inert k Tick d is = absurd (cc)
inert k (Commanded service) d is = absurd (cc)
inert k (Synced frame) d is = absurd (cc)
inert k (Requested frame) d is = absurd (cc)
inert k (Received rpdo) d is = absurd (cc)
inert k (Heard c) d is = absurd (cc)
inert k Ignored d is = refl
inert k (Done event) d is = absurd (cc)
inert k (Refused code) d is = refl

silent : (k : Constants) (kind : Kind) (d : Device) → is_silent_while_stopped kind ≡ true → d.state ≡ Stopped → outcome k kind d ≡ no_frame d
silent k Tick d is stopped = absurd (cc)
silent k (Commanded service) d is stopped = absurd (cc)
silent k (Synced frame) d is stopped = ap (λ s. by_sync k frame s d) stopped
silent k (Requested frame) d is stopped = ap (λ s. by_request k frame s d) stopped
silent k (Received rpdo) d is stopped = ap (λ s. by_rpdo k rpdo s d) stopped
silent k (Heard c) d is stopped = absurd (cc)
silent k Ignored d is stopped = absurd (cc)
silent k (Done event) d is stopped = absurd (cc)
silent k (Refused code) d is stopped = absurd (cc)

none_sent : (d : Device) → d.state ≡ Stopped → emergency_at_end false d ≡ None
none_sent d stopped = ap (λ s. emergency_at_end false (record d { state = s })) stopped

pub silent_frames : (k : Constants) (inputs : Inputs) (input : InputView) → (device_of k inputs).state ≡ Stopped → is_silent_while_stopped (kind_of k (device_of k inputs) input) ≡ true
    → sent_by k inputs input ≡ []
silent_frames k inputs input stopped is =
    let d = device_of k inputs in
    ap frames_of (silent k (kind_of k d input) d is stopped)
    ∙ ap (λ e. emergency_frames d.entries e ++ []) (none_sent d stopped)

pub silent_device : (k : Constants) (inputs : Inputs) (input : InputView) → (device_of k inputs).state ≡ Stopped → is_silent_while_stopped (kind_of k (device_of k inputs) input) ≡ true
    → device_of k (input ∷ inputs) ≡ device_of k inputs
silent_device k inputs input stopped is =
    let d = device_of k inputs in
    ap device_after (silent k (kind_of k d input) d is stopped)
    ∙ ap (λ e. after_sending e d) (none_sent d stopped)

-- ---- the NMT state

sync_state : (k : Constants) (frame : FrameContent) (s : NodeState) (d : Device) → (by_sync k frame s d).device.state ≡ d.state
sync_state k frame Stopped d = refl
sync_state k frame PreOperational d = refl
sync_state k frame Operational d = refl

set_state : (set : Option Download) (d : Device) → (with_download set d).state ≡ d.state
set_state None d = refl
set_state (Some w) d = refl

request_state : (k : Constants) (frame : FrameContent) (s : NodeState) (d : Device) → (by_request k frame s d).device.state ≡ d.state
request_state k frame Stopped d = refl
request_state k frame PreOperational d = set_state (set_of (channels k) k.description d.entries d.transfers frame) (record d { transfers = logs_after (exchange_of (channels k) k.description d.entries d.transfers frame) d.transfers })
request_state k frame Operational d = set_state (set_of (channels k) k.description d.entries d.transfers frame) (record d { transfers = logs_after (exchange_of (channels k) k.description d.entries d.transfers frame) d.transfers })

rpdo_state : (k : Constants) (rpdo : KeptFrame) (s : NodeState) (d : Device) → (by_rpdo k rpdo s d).device.state ≡ d.state
rpdo_state k rpdo Stopped d = refl
rpdo_state k rpdo PreOperational d = refl
rpdo_state k rpdo Operational d = refl

events_state : (k : Constants) (numbers : List ℕ) (s : NodeState) (d : Device) → (by_events k numbers s d).device.state ≡ d.state
events_state k numbers Stopped d = refl
events_state k numbers PreOperational d = refl
events_state k numbers Operational d = refl

event_state : (k : Constants) (event : AppView) (d : Device) → (by_event k event d).device.state ≡ d.state
event_state k (Written key bytes) d = refl
event_state k (EventOn n) d = events_state k (n ∷ []) d.state d
event_state k (ChangedAt key) d = events_state k (filter (is_mapped_into k.description d.entries key) tpdo_numbers) d.state d
event_state k (Raised code bits manufacturer) d = refl
event_state k (Cleared bits) d = refl

command_state : (k : Constants) (service : NmtService) (d : Device) → (by_command k service d).device.state ≡ commanded service
command_state k Start d = refl
command_state k Stop d = refl
command_state k EnterPreOperational d = refl
command_state k ResetNode d = refl
command_state k ResetCommunication d = refl

state_by : (k : Constants) (kind : Kind) (d : Device) → (outcome k kind d).device.state ≡ state_with kind d
state_by k Tick d = refl
state_by k (Commanded service) d = command_state k service d
state_by k (Synced frame) d = sync_state k frame d.state d
state_by k (Requested frame) d = request_state k frame d.state d
state_by k (Received rpdo) d = rpdo_state k rpdo d.state d
state_by k (Heard c) d = refl
state_by k Ignored d = refl
state_by k (Done event) d = event_state k event d
state_by k (Refused code) d = refl

pub state_is_by : (k : Constants) (inputs : Inputs) (input : InputView) → (device_of k (input ∷ inputs)).state ≡ state_with (kind_of k (device_of k inputs) input) (device_of k inputs)
state_is_by k inputs input = state_by k (kind_of k (device_of k inputs) input) (device_of k inputs)
