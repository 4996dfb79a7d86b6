-- Transfers one after the other over one channel, each by a client of its own (CiA 301, 7.2.4.2).
use Rattle.std.specs.Prelude.{◌≡◌, ℕ, ◌*◌, ◌≤◌, ◌<◌, List, [], ◌∷◌, length, map, None, if◌then◌else◌}
use Rattle.co_value.specs.declared.key.Key.{Key}
use Rattle.co_value.specs.Numbers.{AreBytes}
use Rattle.co_sdo_client.specs.declared.mode.Mode.{Mode}
use Rattle.co_sdo_client.specs.declared.mode.Mode.TheVariants.{Plain, Segmented, Block}
use Rattle.co_sdo_client.specs.declared.state.ClientState.{ClientState}
use Rattle.co_sdo_client.specs.Calls.{Job, Download, Upload, Call}
use Rattle.co_sdo_client.specs.Segments.{requests_needed}
use Rattle.co_sdo_client.specs.Outcomes.{outcome, result}
use Rattle.co_dict.specs.Rows.{Contents, written}
use Rattle.co_dict.specs.Stores.{Description, IsDictionary}
use Rattle.co_sdo.specs.Log.{Log}
use Rattle.co_sdo.specs.OpenTransfers.{open_transfer}
use Rattle.co_sdo.specs.Uploads.{value_at}
use Rattle.co_sdo_laws.specs.World.{Setup, World, WorldEvent, world_after}
use Rattle.co_sdo_laws.specs.Undisturbed.{AreCalm, IsJob, IsPermitted, rounds_after, on_their_way, is_short, upload_requests, block_frames, block_upload_frames}

-- ---- what happens

-- a channel between two clients: its SDO timeout (in ms; 0 disables it), the dictionary, its
-- contents, and the channel's past
pub record Server : Type 0 where
  pub time : ℕ
  pub description : Description
  pub contents : Contents
  pub past : Log

-- a transfer: the call of its client, and the events since it began, newest first
pub record Transfer : Type 0 where
  pub call : Call
  pub events : List WorldEvent

-- the calls of these transfers
abbrev pub calls : List Transfer → List Call
calls transfers = map (λ t. t.call) transfers

-- a client that begins, at a server
abbrev pub initiate_at : Server → Call → Setup
initiate_at server call = record {
  call = call;
  time = server.time;
  description = server.description;
  contents = server.contents;
  past = server.past;
}

-- the world at the end of its transfer
abbrev pub end_of : Server → Transfer → World
end_of server t = world_after (initiate_at server t.call) t.events

-- the channel after it
abbrev pub server_after : Server → Transfer → Server
server_after server t = record server {
  contents = (end_of server t).contents;
  past = (end_of server t).log;
}

-- the server after all these transfers, the first one first
abbrev pub server_after_all : Server → List Transfer → Server
server_after_all server [] = server
server_after_all server (t ∷ later) = server_after_all (server_after server t) later

-- the state of each client at the end of its transfer
abbrev pub outcomes : Server → List Transfer → List ClientState
outcomes server [] = []
outcomes server (t ∷ later) =
    outcome t.call (end_of server t).events ∷ outcomes (server_after server t) later

-- the bytes that each client returns then
abbrev pub results : Server → List Transfer → List (List ℕ)
results server [] = []
results server (t ∷ later) =
    result t.call (end_of server t).events ∷ results (server_after server t) later

-- ---- the expected results, by the bytes of the entries alone

-- the contents after a job: the bytes of a download are in its entry
abbrev pub contents_after : Contents → Key → Job → Contents
contents_after contents key (Download bytes tells) = written contents key bytes
contents_after contents key (Upload cap) = contents

-- the contents after all of these, the first one first
abbrev pub contents_after_all : Contents → List Call → Contents
contents_after_all contents [] = contents
contents_after_all contents (call ∷ later) =
    contents_after_all (contents_after contents call.key call.job) later

-- what a job returns: an upload the bytes of its entry, a download none
abbrev pub bytes_given : Contents → Key → Job → List ℕ
bytes_given contents key (Download bytes tells) = []
bytes_given contents key (Upload cap) = value_at contents key

-- what each of these calls returns: an upload the bytes of its entry after the earlier calls
abbrev pub all_bytes_given : Contents → List Call → List (List ℕ)
all_bytes_given contents [] = []
all_bytes_given contents (call ∷ later) =
    bytes_given contents call.key call.job
    ∷ all_bytes_given (contents_after contents call.key call.job) later

-- ---- the conditions

-- a client writes bytes, and has room for the value that it reads
abbrev pub Fits : Contents → Key → Job → Type 0
Fits contents key (Download bytes tells) = AreBytes bytes
Fits contents key (Upload cap) = length (value_at contents key) ≤ cap

-- a call that a client can have, and that the dictionary permits
pub record MayCall (d : Description) (contents : Contents) (call : Call) : Type 0 where
  pub key : call.key.index < 65536
  pub job : IsJob call.job
  pub permitted : IsPermitted d contents call.key call.job
  pub fits : Fits contents call.key call.job

-- the same for each of these calls, with the contents after the earlier ones
abbrev pub MayCallAll : Description → Contents → List Call → Type 0
MayCallAll d contents [] = Unit {0}
MayCallAll d contents (call ∷ later) =
    MayCall d contents call × MayCallAll d (contents_after contents call.key call.job) later

-- an undisturbed transfer that goes on until no frame is on its way
pub record IsWhole (server : Server) (t : Transfer) : Type 0 where
  pub calm : AreCalm (initiate_at server t.call) t.events
  pub rests : on_their_way (end_of server t) ≡ 0

-- the same for each of these transfers, one after the other
abbrev pub AreWhole : Server → List Transfer → Type 0
AreWhole server [] = Unit {0}
AreWhole server (t ∷ later) = IsWhole server t × AreWhole (server_after server t) later

-- no transfer is open, and the contents are a dictionary
pub record IsReady (server : Server) : Type 0 where
  pub idle : open_transfer server.past ≡ None
  pub dictionary : IsDictionary server.description server.contents

-- permitted, undisturbed transfers one after the other
pub record IsChain (server : Server) (transfers : List Transfer) : Type 0 where
  pub ready : IsReady server
  pub permitted : MayCallAll server.description server.contents (calls transfers)
  pub whole : AreWhole server transfers

-- ---- transfers in rounds

-- how many frames a transfer takes, both ways
abbrev pub frames_needed : Mode → Contents → Key → Job → ℕ
frames_needed Plain contents key (Download bytes tells) =
    if is_short (length bytes) then 2 else 2 * requests_needed (length bytes)
frames_needed Segmented contents key (Download bytes tells) = 2 * requests_needed (length bytes)
frames_needed Block contents key (Download bytes tells) = block_frames (length bytes)
frames_needed Plain contents key (Upload cap) = 2 * upload_requests (length (value_at contents key))
frames_needed Segmented contents key (Upload cap) = 2 * upload_requests (length (value_at contents key))
frames_needed Block contents key (Upload cap) = block_upload_frames (length (value_at contents key))

-- a transfer of as many rounds as it has frames
abbrev pub in_rounds : Contents → Call → Transfer
in_rounds contents call = record {
  call = call;
  events = rounds_after (frames_needed call.mode contents call.key call.job) [];
}

-- these transfers, one after the other
abbrev pub all_in_rounds : Contents → List Call → List Transfer
all_in_rounds contents [] = []
all_in_rounds contents (call ∷ later) =
    in_rounds contents call ∷ all_in_rounds (contents_after contents call.key call.job) later
