-- A whole device: the order of the services at an input, and all inputs one after another.
use Rattle.std.specs.Prelude.{◌+◌, List, ◌++◌, map, ◌∷◌, [], ℕ}
use Rattle.co_frame.specs.FrameContent.{FrameContent}
use Rattle.co_frame.specs.Nmt.{nmt_command_in}
use Rattle.co_dict.specs.Rows.{Contents}
use Rattle.co_sdo.specs.Standing.{room_after}
use Rattle.co_sdo.specs.Events.{frames_at, held_on}
use Rattle.co_node_parts.specs.declared.nmt_state.NodeState.{NodeState}
use Rattle.co_node_model.specs.Nmt.{service_for, with_service, state_at}
use Rattle.co_node_model.specs.Sync.{with_sync}
use Rattle.co_node_model.specs.Sdo.{with_channel_frame, with_tick, timed_out_at, channel_logs}
use Rattle.co_node_model.specs.Rpdos.{with_rpdo, with_pdos}
use Rattle.co_node_model.specs.Heartbeats.{with_error_control, with_losses, with_life, life_frames}
use Rattle.co_node_model.specs.declared.address.Address.{Address}
use Rattle.co_node_model.specs.declared.address.Address.TheVariants.{Nmt, Sync, Channel, Rpdo, ErrorControl, Nobody}
use Rattle.co_node_model.specs.Moments.{Constants, Moment, History, nothing_of, contents_at, channels}
use Rattle.co_node_model.specs.AppEvents.{with_app_event, event_refusal, app_at}
use Rattle.co_node_model.specs.Addresses.{address_at}
use Rattle.co_node_model.specs.Inputs.{InputView, Framed, Applied, Ticked, Inputs}
use Rattle.co_node_model.specs.Emergencies.{with_emergency, emergency_frames}
use Rattle.co_node_model.specs.Tpdos.{with_tpdos, tpdo_frame, tpdo_count}
use Rattle.co_node_model.specs.declared.app_answer.AppAnswer.{AppAnswer}

-- ---- an input as it is received, by its kind; a frame by its addressee

-- the moment with a received frame, by its addressee
abbrev pub with_frame : Constants → History → Address → FrameContent → Moment → Moment
with_frame k history Nmt frame m =
    with_service k.description.initial (service_for k.description.node (nmt_command_in frame)) m
with_frame k history Sync frame m = with_sync (state_at history) frame m
with_frame k history (Channel j) frame m = with_channel_frame k history frame m
with_frame k history (Rpdo n) frame m = with_rpdo n (state_at history) frame m
with_frame k history (ErrorControl node) frame m = with_error_control node frame m
with_frame k history Nobody frame m = m

-- the moment with a received input
abbrev pub with_input : Constants → History → InputView → Moment → Moment
with_input k history (Framed frame) m = with_frame k history (address_at k history frame.id) frame m
with_input k history Ticked m = with_tick (timed_out_at k history) m
with_input k history (Applied event) m = with_app_event k.description event (event_refusal k.description m.received event) m

-- the moment of an input as received, after a history
abbrev pub received_at : Constants → History → InputView → Moment
received_at k history input = with_input k history input (nothing_of input (contents_at k history))

-- ---- one input, after this history: each service reads the results of those before it

-- the whole moment of an input, after a history
abbrev pub moment : Constants → History → InputView → Moment
moment k history input =
    with_tpdos k history (with_life k history (with_emergency history (with_pdos k history (with_losses k history (received_at k history input)))))

-- ---- the frames of a moment, in their order: SDO, EMCY, boot-up or heartbeat, TPDOs by number

-- all frames of a moment
abbrev pub frames : Constants → Moment → List FrameContent
frames k m =
    frames_at m.exchange ++ frames_at m.timed_out
    ++ emergency_frames m.contents m.emergency
    ++ life_frames k.description.node m.life
    ++ map (tpdo_frame k.description m.contents) m.due

-- ---- over all inputs, the newest first

-- a history with the moment of one more input
abbrev pub and_moment : Constants → InputView → History → History
and_moment k input history = moment k history input ∷ history

-- the moments of all inputs
abbrev pub moments : Constants → Inputs → History
moments k [] = []
moments k (input ∷ inputs) = and_moment k input (moments k inputs)

-- the frames that one more input prescribes
abbrev pub prescribed : Constants → Inputs → InputView → List FrameContent
prescribed k inputs input = frames k (moment k (moments k inputs) input)

-- the NMT state
abbrev pub state_of : Constants → Inputs → NodeState
state_of k inputs = state_at (moments k inputs)

-- the entries
abbrev pub contents_of : Constants → Inputs → Contents
contents_of k inputs = contents_at k (moments k inputs)

-- the answer to the last input, if that was an application event
abbrev pub app_after : Constants → Inputs → AppAnswer
app_after k inputs = app_at (moments k inputs)

-- how many bytes are held for the transfer of SDO channel j, 0 if there is no such channel
abbrev pub held_of : Constants → Inputs → ℕ → ℕ
held_of k inputs j = held_on (channels k) (channel_logs (moments k inputs)) j

-- how many may be held for it: the capacity of the transferred entry plus 889
abbrev pub room_of : Constants → Inputs → ℕ → ℕ
room_of k inputs j = room_after k.description.rows (channel_logs (moments k inputs) j)

-- ---- inputs one after another, the first one first

-- all inputs with some more
abbrev pub after_all : Inputs → List InputView → Inputs
after_all inputs [] = inputs
after_all inputs (input ∷ more) = after_all (input ∷ inputs) more

-- the frames that these inputs prescribe, in their order
abbrev pub all_frames : Constants → Inputs → List InputView → List FrameContent
all_frames k inputs [] = []
all_frames k inputs (input ∷ more) = prescribed k inputs input ++ all_frames k (input ∷ inputs) more

-- ---- how many frames an input prescribes at most

-- by the addressee of a frame, and the number of TPDOs of the dictionary
abbrev pub bound_at : Address → ℕ → ℕ
bound_at Nmt tpdos = 1
bound_at Sync tpdos = tpdos + 1
bound_at (Channel j) tpdos = 128
bound_at (Rpdo n) tpdos = 1
bound_at (ErrorControl node) tpdos = 1
bound_at Nobody tpdos = 1

-- by the kind of input
abbrev pub frame_bound : Constants → Inputs → InputView → ℕ
frame_bound k inputs (Framed frame) = bound_at (address_at k (moments k inputs) frame.id) (tpdo_count k.description.rows)
frame_bound k inputs Ticked = tpdo_count k.description.rows + 2
frame_bound k inputs (Applied event) = tpdo_count k.description.rows + 1
