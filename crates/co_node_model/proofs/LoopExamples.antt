-- Downloads over the default channel of a small device, computed from the definitions.
use Rattle.std.proofs.Common.{◌≡◌, ℕ, List, [], ◌∷◌, refl}
use Rattle.std.specs.Prelude.{replicate}
use Rattle.co_frame.specs.FrameContent.{FrameContent}
use Rattle.co_frame.specs.SdoResponses.{response_row_in}
use Rattle.co_dict.proofs.ExampleDevice.{at}
use Rattle.co_profile.specs.declared.access.Access.TheVariants.{Rw}
use Rattle.co_sdo_client.specs.declared.mode.Mode.{Mode}
use Rattle.co_sdo_client.specs.declared.mode.Mode.TheVariants.{Plain, Block}
use Rattle.co_sdo_client.specs.declared.state.ClientState.{ClientState}
use Rattle.co_sdo_client.specs.declared.state.ClientState.TheVariants.{Waiting, Done, Failed}
use Rattle.co_sdo_client.specs.Outcomes.{sent}
use Rattle.co_node_model.specs.Inputs.{Inputs}
use Rattle.co_node_model.specs.Moments.{Constants}
use Rattle.co_node_model.proofs.ExampleNode.{device, device_with, u16, frame, request, response, stop, searches}
use Rattle.co_node_model.specs.Loop.{Loop, download_of, first_ends, frames_in, rounds, state_at}

-- a download to 2001:00, from its begin on
abbrev of : Constants → Mode → List ℕ → Loop
of k mode bytes = download_of k (at 0x2001 0) bytes mode

abbrev frames_after : ℕ → Loop → Inputs → List FrameContent
frames_after n l before = frames_in n l (first_ends l before)

abbrev state_after : ℕ → Loop → Inputs → ClientState
state_after n l before = state_at l (rounds n l (first_ends l before))

abbrev sent_after : ℕ → Loop → Inputs → ℕ
sent_after n l before = sent l.call (rounds n l (first_ends l before)).events

abbrev ten : List ℕ
ten = 0x30 ∷ 0x31 ∷ 0x32 ∷ 0x33 ∷ 0x34 ∷ 0x35 ∷ 0x36 ∷ 0x37 ∷ 0x38 ∷ 0x39 ∷ []

abbrev four : List ℕ
four = 0x30 ∷ 0x31 ∷ 0x32 ∷ 0x33 ∷ []

abbrev seventeen : List ℕ
seventeen = replicate 17 0x31

-- four bytes at once
at_once : frames_after 2 (of device Plain four) [] ≡ frame 0x605 8 0x2301_2000_3031_3233 ∷ response 0x6001_2000_0000_0000 ∷ []
unfolding searches response_row_in rounds frames_in
at_once = refl

-- then the client is done
at_once_done : state_after 2 (of device Plain four) [] ≡ Done
unfolding searches response_row_in rounds frames_in
at_once_done = refl

-- with one frame
at_once_sent : sent_after 2 (of device Plain four) [] ≡ 1
unfolding searches response_row_in rounds frames_in
at_once_sent = refl

-- seventeen bytes are too many; further rounds give nothing
too_long : frames_after 9 (of device Plain seventeen) [] ≡ frame 0x605 8 0x2101_2000_1100_0000 ∷ response 0x8001_2000_1200_0706 ∷ []
unfolding searches response_row_in rounds frames_in
too_long = refl

-- the client has failed
too_long_failed : state_after 9 (of device Plain seventeen) [] ≡ Failed (record { 0 = 0x06070012 })
unfolding searches response_row_in rounds frames_in
too_long_failed = refl

-- and sent no abort
too_long_sent : sent_after 9 (of device Plain seventeen) [] ≡ 1
unfolding searches response_row_in rounds frames_in
too_long_sent = refl

-- the first of three requests
one_round : frames_after 1 (of device Plain ten) [] ≡ frame 0x605 8 0x2101_2000_0A00_0000 ∷ response 0x6001_2000_0000_0000 ∷ []
unfolding searches response_row_in rounds frames_in
one_round = refl

-- ten bytes in segments
in_segments : frames_after 3 (of device Plain ten) []
    ≡ frame 0x605 8 0x2101_2000_0A00_0000 ∷ response 0x6001_2000_0000_0000 ∷ frame 0x605 8 0x0030_3132_3334_3536 ∷ response 0x2000_0000_0000_0000
    ∷ frame 0x605 8 0x1937_3839_0000_0000 ∷ response 0x3000_0000_0000_0000 ∷ []
unfolding searches response_row_in rounds frames_in
in_segments = refl

-- before the last round it waits
in_segments_waits : state_after 2 (of device Plain ten) [] ≡ Waiting
unfolding searches response_row_in rounds frames_in
in_segments_waits = refl

-- after it it is done
in_segments_done : state_after 3 (of device Plain ten) [] ≡ Done
unfolding searches response_row_in rounds frames_in
in_segments_done = refl

-- with three requests
in_segments_sent : sent_after 3 (of device Plain ten) [] ≡ 3
unfolding searches response_row_in rounds frames_in
in_segments_sent = refl

-- a stopped node doesn't answer
unanswered : frames_after 2 (of device Plain ten) (stop ∷ []) ≡ frame 0x605 8 0x2101_2000_0A00_0000 ∷ []
unfolding searches response_row_in rounds frames_in
unanswered = refl

-- the client waits
unanswered_waits : state_after 2 (of device Plain ten) (stop ∷ []) ≡ Waiting
unfolding searches response_row_in rounds frames_in
unanswered_waits = refl

-- what it sends at ticks is among the frames
heartbeats : frames_after 3 (of (device_with (u16 Rw 0x1017 0 2 ∷ [])) Plain ten) (stop ∷ []) ≡ frame 0x605 8 0x2101_2000_0A00_0000 ∷ frame 0x705 1 4 ∷ []
unfolding searches response_row_in rounds frames_in
heartbeats = refl

-- in a block the segments go after one another
first_of_a_block : frames_after 2 (of device Block ten) []
    ≡ frame 0x605 8 0xC201_2000_0A00_0000 ∷ response 0xA001_2000_7F00_0000 ∷ frame 0x605 8 0x0130_3132_3334_3536 ∷ []
unfolding searches response_row_in rounds frames_in
first_of_a_block = refl

-- a whole block download
in_a_block : frames_after 4 (of device Block ten) []
    ≡ frame 0x605 8 0xC201_2000_0A00_0000 ∷ response 0xA001_2000_7F00_0000 ∷ frame 0x605 8 0x0130_3132_3334_3536 ∷ frame 0x605 8 0x8237_3839_0000_0000
    ∷ response 0xA202_7F00_0000_0000 ∷ frame 0x605 8 0xD100_0000_0000_0000 ∷ response 0xA100_0000_0000_0000 ∷ []
unfolding searches response_row_in rounds frames_in
in_a_block = refl

-- where the channel is inside a sub-block of another client the initiate request is a segment that ends it, and the abort
-- of the client is given to the node
inside_a_sub_block : frames_after 9 (of device Block ten) (request 0xC000_2100_0000_0000 ∷ [])
    ≡ frame 0x605 8 0xC201_2000_0A00_0000 ∷ response 0xA200_7F00_0000_0000 ∷ frame 0x605 8 0x8001_2000_0100_0405 ∷ []
unfolding searches response_row_in rounds frames_in
inside_a_sub_block = refl
