-- Undisturbed transfers (CiA 301, 7.2.4.2): each frame arrives once and in order, and neither end
-- times out.
use Rattle.std.specs.Prelude.{◌≡◌, ℕ, zero, suc, ◌+◌, ◌*◌, ◌/◌, ◌≤◌, ◌<◌, ◌==◌, ◌&&◌, nat_le, Bool, true, false, not, List, [], ◌∷◌, length, None, if◌then◌else◌}
use Rattle.co_value.specs.declared.key.Key.{Key}
use Rattle.co_sdo_client.specs.declared.mode.Mode.{Mode}
use Rattle.co_sdo_client.specs.declared.mode.Mode.TheVariants.{Plain, Segmented, Block}
use Rattle.co_sdo_client.specs.declared.state.ClientState.{ClientState}
use Rattle.co_sdo_client.specs.declared.state.ClientState.TheVariants.{Waiting, Done}
use Rattle.co_sdo_client.specs.Calls.{Job, Download, Upload, Call, Ticked as TickedAtClient, answers, is_time_over as is_client_over}
use Rattle.co_sdo_client.specs.Segments.{requests_needed, segments_for}
use Rattle.co_sdo_client.specs.Outcomes.{outcome, sent}
use Rattle.co_dict.specs.Rows.{Contents}
use Rattle.co_dict.specs.Stores.{Description, IsDictionary}
use Rattle.co_sdo.specs.Refused.{reading_refusal, completion_refusal}
use Rattle.co_sdo.specs.Log.{Exchanged, Ticked, TimedOut, Dropped, Log}
use Rattle.co_sdo.specs.OpenTransfers.{open_transfer}
use Rattle.co_sdo.specs.Opened.{is_time_over}
use Rattle.co_sdo_laws.specs.World.{Setup, World, Requests, Answers, WorldEvent, Delivered, Lost, Repeated, ClientTicked, ChannelTicked, world_after}

-- ---- undisturbed events

-- an event that loses and repeats no frame, and at which neither end times out: not the client
-- while it waits, not the channel while a transfer is open
abbrev pub IsCalm : Setup → WorldEvent → World → Type 0
IsCalm s (Delivered queue) w = Unit {0}
IsCalm s (Lost queue) w = ⊥
IsCalm s (Repeated queue) w = ⊥
IsCalm s ClientTicked w =
    outcome s.call w.events ≡ Waiting → is_client_over s.call.time (TickedAtClient ∷ w.events) ≡ false
IsCalm s ChannelTicked w = is_time_over s.time (Ticked ∷ w.log) ≡ false

-- each of these events, newest first, is calm in the world before it
abbrev pub AreCalm : Setup → List WorldEvent → Type 0
AreCalm s [] = Unit {0}
AreCalm s (event ∷ older) = IsCalm s event (world_after s older) × AreCalm s older

-- a job that a client can have: at most 65,535 bytes
abbrev pub IsJob : Job → Type 0
IsJob (Download bytes tells) = length bytes ≤ 65535
IsJob (Upload cap) = cap ≤ 65535

-- the dictionary permits the job: the bytes may be written, or the entry may be read
abbrev pub IsPermitted : Description → Contents → Key → Job → Type 0
IsPermitted d contents key (Download bytes tells) = completion_refusal d contents key None bytes ≡ None
IsPermitted d contents key (Upload cap) = reading_refusal d contents key ≡ None

-- a permitted, undisturbed transfer; the channel has no other open when the client begins
pub record IsUndisturbed (s : Setup) (events : List WorldEvent) : Type 0 where
  pub dictionary : IsDictionary s.description s.contents
  pub key : s.call.key.index < 65536
  pub job : IsJob s.call.job
  pub permitted : IsPermitted s.description s.contents s.call.key s.call.job
  pub idle : open_transfer s.past ≡ None
  pub calm : AreCalm s events

-- events followed by `n` rounds: in each the oldest request arrives, and then the oldest answer
abbrev pub rounds_after : ℕ → List WorldEvent → List WorldEvent
rounds_after zero events = events
rounds_after (suc n) events = Delivered Answers ∷ Delivered Requests ∷ rounds_after n events

-- ---- the progress of a transfer

-- how many frames have arrived since the client began, at both ends
abbrev pub arrived : World → ℕ
arrived w = w.received + length (answers w.events)

-- how many frames are on their way
abbrev pub on_their_way : World → ℕ
on_their_way w = length w.requests + length w.answers

-- how many frames a channel has sent: its answers, and the abort of each transfer that timed out
abbrev pub answers_sent : Log → ℕ
answers_sent [] = 0
answers_sent (Exchanged x ∷ older) = answers_sent older + length x.answers
answers_sent (Ticked ∷ older) = answers_sent older
answers_sent (TimedOut answers ∷ older) = answers_sent older + length answers
answers_sent (Dropped ∷ older) = answers_sent older

-- how many frames each end has sent since the client began
pub record HaveSent (s : Setup) (requests answers : ℕ) (w : World) : Type 0 where
  pub client : sent s.call w.events ≡ requests
  pub channel : answers_sent w.log ≡ answers_sent s.past + answers

-- the state of a client that has not failed
abbrev pub done_or_waiting : Bool → ClientState
done_or_waiting done = if done then Done else Waiting

-- a transfer in turns: `needed` requests, each followed by its answer. The client is done exactly
-- when all these frames have arrived. Before that one frame is on its way, and after it none.
pub record GoesInTurns (call : Call) (needed : ℕ) (w : World) : Type 0 where
  pub within : arrived w ≤ 2 * needed
  pub state : outcome call w.events ≡ done_or_waiting (arrived w == 2 * needed)
  pub moves : on_their_way w ≡ (if arrived w == 2 * needed then 0 else 1)
  pub sent : outcome call w.events ≡ Done → sent call w.events ≡ needed

-- a transfer is over: the client is done, the channel has nothing open, and the contents are a
-- dictionary again, so that another client may begin
pub record IsOver (s : Setup) (w : World) : Type 0 where
  pub done : outcome s.call w.events ≡ Done
  pub idle : open_transfer w.log ≡ None
  pub dictionary : IsDictionary s.description w.contents

-- ---- the protocol of a client, by its mode and its job (CiA 301, 7.2.4.2)

-- 1 to 4 bytes are transferred at once
abbrev pub is_short : ℕ → Bool
is_short size = nat_le 1 size && nat_le size 4

-- a plain download of 1 to 4 bytes
abbrev pub is_expedited_download : Mode → Job → Bool
is_expedited_download Plain (Download bytes tells) = is_short (length bytes)
is_expedited_download mode job = false

-- a segmented download, or a plain one of another length
abbrev pub is_segmented_download : Mode → Job → Bool
is_segmented_download Plain (Download bytes tells) = not (is_short (length bytes))
is_segmented_download Segmented (Download bytes tells) = true
is_segmented_download mode job = false

-- an upload that isn't in blocks: expedited or segmented
abbrev pub is_plain_upload : Mode → Job → Bool
is_plain_upload Block (Upload cap) = false
is_plain_upload mode (Upload cap) = true
is_plain_upload mode job = false

-- a download in blocks
abbrev pub is_block_download : Mode → Job → Bool
is_block_download Block (Download bytes tells) = true
is_block_download mode job = false

-- an upload in blocks
abbrev pub is_block_upload : Mode → Job → Bool
is_block_upload Block (Upload cap) = true
is_block_upload mode job = false

-- how many requests an upload of this many bytes needs: initiate, and unless it is expedited one
-- for each seven bytes or fewer, at least one
abbrev pub upload_requests : ℕ → ℕ
upload_requests size = if is_short size then 1 else requests_needed size

-- ---- transfers in blocks (CiA 301, 7.2.4.3.9 to 7.2.4.3.15)

-- how many sub-blocks this many bytes have: one for each 127 segments or fewer
abbrev pub sub_blocks_for : ℕ → ℕ
sub_blocks_for size = (segments_for size + 126) / 127

-- how many frames the client of a block download sends: initiate, the segments and the end
abbrev pub block_download_requests : ℕ → ℕ
block_download_requests size = 1 + segments_for size + 1

-- and the server: the confirmation of initiate, an acknowledgement for each sub-block, and the
-- confirmation of the end
abbrev pub block_download_answers : ℕ → ℕ
block_download_answers size = 1 + sub_blocks_for size + 1

-- how many frames the client of a block upload sends: initiate, start, an acknowledgement for each
-- sub-block, and its end
abbrev pub block_upload_requests : ℕ → ℕ
block_upload_requests size = 1 + 1 + sub_blocks_for size + 1

-- and the server: the confirmation of initiate, the segments and its end
abbrev pub block_upload_answers : ℕ → ℕ
block_upload_answers size = 1 + segments_for size + 1

-- how many frames a block download of this many bytes takes, both ways
abbrev pub block_frames : ℕ → ℕ
block_frames size = block_download_requests size + block_download_answers size

-- and a block upload: one more. The last is the client's end, and the client is done when it has
-- sent it.
abbrev pub block_upload_frames : ℕ → ℕ
block_upload_frames size = block_upload_requests size + block_upload_answers size

-- a transfer in blocks, of `frames` frames in all. The client is done exactly when `needed` of them
-- have arrived. Until the last has arrived at least one is on its way, and after it none.
pub record GoesInBlocks (call : Call) (needed frames : ℕ) (w : World) : Type 0 where
  pub within : arrived w ≤ frames
  pub state : outcome call w.events ≡ done_or_waiting (nat_le needed (arrived w))
  pub moves : arrived w < frames → 1 ≤ on_their_way w
  pub rests : arrived w ≡ frames → on_their_way w ≡ 0
