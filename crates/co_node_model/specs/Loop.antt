-- An SDO client and a node over its default channel (CiA 301, 7.2.4.3 and 7.3.3), in rounds: the
-- node gets one request, or a tick if none waits.
use Rattle.std.specs.Prelude.{ℕ, zero, suc, ◌+◌, ◌||◌, Bool, true, false, List, [], ◌∷◌, ◌++◌, if◌then◌else◌}
use Rattle.co_value.specs.declared.key.Key.{Key}
use Rattle.co_frame.specs.FrameContent.{FrameContent}
use Rattle.co_sdo_client.specs.declared.state.ClientState.{ClientState}
use Rattle.co_sdo_client.specs.declared.mode.Mode.{Mode}
use Rattle.co_sdo_client.specs.Calls.{Call, Download, Event, Ticked as ClientTicked, frames_on}
use Rattle.co_sdo_client.specs.Segments.{initiate_messages}
use Rattle.co_sdo_client.specs.Outcomes.{outcome, asked_by, sent}
use Rattle.co_sdo_client.specs.Standing.{waits, events_with, asked_with}
use Rattle.co_node_model.specs.Inputs.{InputView, Inputs, Framed, Ticked as NodeTicked}
use Rattle.co_node_model.specs.Moments.{Constants}
use Rattle.co_node_model.specs.Device.{prescribed}

-- what never changes: the node, and the call of the client
pub record Loop : Type 0 where
  pub node : Constants
  pub call : Call

-- a download of these bytes to an entry, with their number indicated and without an SDO timeout
abbrev pub download_of : Constants → Key → List ℕ → Mode → Loop
download_of k key bytes mode = record {
  node = k;
  call = record { key = key; mode = mode; time = 0; job = Download bytes true };
}

-- the identifier of the requests of the node's default SDO channel
abbrev pub request_id : Loop → ℕ
request_id l = 0x600 + l.node.description.node

-- the identifier of the responses of that channel
abbrev pub response_id : Loop → ℕ
response_id l = 0x580 + l.node.description.node

-- the events of the client since it began and the inputs of the node since it was built, newest
-- first; and the client's requests that wait for the node, oldest first
pub record BothEnds : Type 0 where
  pub events : List Event
  pub inputs : Inputs
  pub waiting : List FrameContent

-- the client has begun
abbrev pub first_ends : Loop → Inputs → BothEnds
first_ends l before = record { events = []; inputs = before; waiting = frames_on (request_id l) (initiate_messages l.call) }

-- the state of the client
abbrev pub state_at : Loop → BothEnds → ClientState
state_at l e = outcome l.call e.events

-- ---- the node's frames arrive at the client in order; those that are no answers are ignored

-- the events of the client after these frames
abbrev pub events_after : ℕ → List Event → List FrameContent → List Event
events_after id events [] = events
events_after id events (frame ∷ frames) = events_after id (events_with id events frame) frames

-- the frames that the client sends at these frames
abbrev pub asked_after : ℕ → ℕ → Call → List Event → List FrameContent → List FrameContent
asked_after request id call events [] = []
asked_after request id call events (frame ∷ frames) =
    frames_on request (asked_with id call events frame) ++ asked_after request id call (events_with id events frame) frames

-- both ends after these frames of the node
abbrev pub with_frames : Loop → List FrameContent → BothEnds → BothEnds
with_frames l frames e = record e {
  events = events_after (response_id l) e.events frames;
  waiting = e.waiting ++ asked_after (request_id l) (response_id l) l.call e.events frames;
}

-- ---- a round

-- the node takes an input, and its frames arrive at the client
abbrev pub with_input : Loop → InputView → BothEnds → BothEnds
with_input l input e = with_frames l (prescribed l.node e.inputs input) (record e { inputs = input ∷ e.inputs })

-- a tick at the client
abbrev pub with_client_tick : Loop → BothEnds → BothEnds
with_client_tick l e = record e {
  events = ClientTicked ∷ e.events;
  waiting = e.waiting ++ frames_on (request_id l) (asked_by l.call e.events ClientTicked);
}

-- the node takes the oldest of these requests; if there is none, 1 ms elapses at both ends
abbrev pub round_of : Loop → List FrameContent → BothEnds → BothEnds
round_of l [] e = with_input l NodeTicked (with_client_tick l e)
round_of l (request ∷ later) e = with_input l (Framed request) (record e { waiting = later })

-- both ends after a round
abbrev pub after_round : Loop → BothEnds → BothEnds
after_round l e = round_of l e.waiting e

-- the frames of a round: the request, and those that the node sends
abbrev pub frames_of : Loop → List FrameContent → Inputs → List FrameContent
frames_of l [] inputs = prescribed l.node inputs NodeTicked
frames_of l (request ∷ later) inputs = request ∷ prescribed l.node inputs (Framed request)

-- ---- all rounds: while the client or one of its requests waits, and at most a given number

-- a request waits
abbrev pub some_wait : List FrameContent → Bool
some_wait [] = false
some_wait (request ∷ later) = true

-- there is one more round
abbrev pub goes_on : Loop → BothEnds → Bool
goes_on l e = waits (state_at l e) || some_wait e.waiting

-- both ends after these rounds
unfoldable pub rounds : ℕ → Loop → BothEnds → BothEnds
rounds zero l e = e
rounds (suc left) l e = if goes_on l e then rounds left l (after_round l e) else e

-- the frames of these rounds
unfoldable pub frames_in : ℕ → Loop → BothEnds → List FrameContent
frames_in zero l e = []
frames_in (suc left) l e =
    if goes_on l e then frames_of l e.waiting e.inputs ++ frames_in left l (after_round l e) else []

-- ---- from the begin of the client, after earlier inputs of the node

-- the most rounds
abbrev pub most_rounds : ℕ
most_rounds = 20000

-- both ends after all rounds
abbrev pub last_ends : Loop → Inputs → BothEnds
last_ends l before = rounds most_rounds l (first_ends l before)

-- the frames of all rounds
abbrev pub all_frames : Loop → Inputs → List FrameContent
all_frames l before = frames_in most_rounds l (first_ends l before)

-- how many frames the client sent
abbrev pub sent_of : Loop → Inputs → ℕ
sent_of l before = sent l.call (last_ends l before).events
