-- What a client sends, and its state after events, newest first (CiA 301, 7.2.4.3).
use Rattle.std.specs.Prelude.{ℕ, List, [], ◌∷◌, ◌++◌, length}
use Rattle.co_frame.specs.declared.sdo_request.SdoRequest.TheVariants.{Abort}
use Rattle.co_sdo_client.specs.declared.state.ClientState.{ClientState}
use Rattle.co_sdo_client.specs.declared.state.ClientState.TheVariants.{Waiting, Done, Failed}
use Rattle.co_sdo_client.specs.Calls.{Call, Message, Request, Event}
use Rattle.co_sdo_client.specs.Segments.{initiate_messages}
use Rattle.co_sdo_client.specs.Verdicts.{Verdict, GoesOn, Ends, GivesUp, IsAborted, verdict}

-- the state after a verdict
abbrev pub state_by : Verdict → ClientState
state_by (GoesOn messages) = Waiting
state_by (Ends messages value) = Done
state_by (GivesUp code) = Failed (record { 0 = code })
state_by (IsAborted code) = Failed (record { 0 = code })

-- a fault that the client finds is sent as an abort with its key; an abort received is not answered
abbrev pub messages_by : Call → Verdict → List Message
messages_by call (GoesOn messages) = messages
messages_by call (Ends messages value) = messages
messages_by call (GivesUp code) = Request (Abort call.key (record { 0 = code })) ∷ []
messages_by call (IsAborted code) = []

-- the bytes of an upload that a verdict completes
abbrev pub value_by : Verdict → List ℕ
value_by (Ends messages value) = value
value_by _ = []

-- the verdict counts while the client still waits
abbrev pub while_waiting : {A : Type 0} → ClientState → A → A → A
while_waiting Waiting next same = next
while_waiting _ next same = same

-- the state of the client: the first event that ends the transfer decides
abbrev pub outcome : Call → List Event → ClientState
outcome call [] = Waiting
outcome call (event ∷ older) = while_waiting (outcome call older) (state_by (verdict call older event)) (outcome call older)

-- what the client sends at one more event
abbrev pub asked_by : Call → List Event → Event → List Message
asked_by call older event = while_waiting (outcome call older) (messages_by call (verdict call older event)) []

-- what the client sends at the newest event, or when it begins
abbrev pub asked : Call → List Event → List Message
asked call [] = initiate_messages call
asked call (event ∷ older) = asked_by call older event

-- everything that a client has sent, oldest first
abbrev pub all_asked : Call → List Event → List Message
all_asked call [] = initiate_messages call
all_asked call (event ∷ older) = all_asked call older ++ asked_by call older event

-- how many frames it has sent, aborts included
abbrev pub sent : Call → List Event → ℕ
sent call events = length (all_asked call events)

-- the bytes of an upload that is done; none before, and none of a download
abbrev pub result : Call → List Event → List ℕ
result call [] = []
result call (event ∷ older) = while_waiting (outcome call older) (value_by (verdict call older event)) (result call older)
