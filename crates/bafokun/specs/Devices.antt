-- The device of a place, and the results of its inputs.
use Rattle.std.specs.Prelude.{◌≡◌, ℕ, ◌≤◌, List, [], ◌∷◌, length, Option, Some, None}
use Rattle.co_frame.specs.FrameContent.{FrameContent}
use Rattle.co_node_model.specs.Inputs.{InputView, Inputs}
use Rattle.co_node_model.specs.Moments.{Constants}
use Rattle.co_node_model.specs.Device.{prescribed, frame_bound}
use Rattle.co_node_model.specs.Heartbeats.{boot_up}
use Rattle.co_node.specs.Nodes.{Stands}
use Rattle.bafokun.specs.declared.frames.CanFrame.{CanFrame}
use Rattle.bafokun.specs.declared.held.Held.{Held}
use Rattle.bafokun.specs.declared.handle.Handle.{Handle}
use Rattle.co_dict_table.specs.Entries.{EntryContent}
use Rattle.bafokun.specs.Frames.{ArePut}

-- this held device is in the state after these inputs, newest first
abbrev pub HasStood : Constants → Option Held → Inputs → Type 0
HasStood k None before = ⊥
HasStood k (Some held) before = Stands k held.node before

-- the place has a device in the state after these inputs
abbrev pub IsDevice : Constants → Handle → Inputs → Type 0
IsDevice k place before = HasStood k place.seal.value before

-- the place has no device
abbrev pub IsEmpty : Handle → Type 0
IsEmpty place = place.seal.value ≡ None

-- the frames of the last input of a held device
abbrev pub frames_of : Option Held → List FrameContent
frames_of None = []
frames_of (Some held) = held.sent.items

-- the frames of the last input of a place's device
abbrev pub sent_of : Handle → List FrameContent
sent_of place = frames_of place.seal.value

-- the entry table of a held device
abbrev pub entries_in : Option Held → List EntryContent
entries_in None = []
entries_in (Some held) = held.entries

-- the entry table of a place's device, in increasing key
abbrev pub entries_of : Handle → List EntryContent
entries_of place = entries_in place.seal.value

-- a held device after one more input
pub record Gave (k : Constants) (before : Inputs) (input : InputView) (held : Held) : Type 0 where
  pub stands : Stands k held.node (input ∷ before)
  pub sent : held.sent.items ≡ prescribed k before input
  pub few : length held.sent.items ≤ frame_bound k before input

-- the result of one more input: exactly the prescribed frames are put into an array, and counted
pub record Gives (k : Constants) (before : Inputs) (input : InputView)
    (place : Handle) (array filled : List CanFrame) (count : ℕ) : Type 0 where
  pub stands : IsDevice k place (input ∷ before)
  pub sent : sent_of place ≡ prescribed k before input
  pub put : ArePut (prescribed k before input) array filled
  pub number : count ≡ length (prescribed k before input)
  pub few : count ≤ frame_bound k before input

-- nothing happens without a device
pub record IsQuiet (place : Handle) (array filled : List CanFrame) (count : ℕ) : Type 0 where
  pub empty : IsEmpty place
  pub same : filled ≡ array
  pub number : count ≡ 0

-- the boot-up, and nothing else; the state of the device stays the same
pub record GivesBootUp (k : Constants) (before : Inputs)
    (place : Handle) (array filled : List CanFrame) (count : ℕ) : Type 0 where
  pub stands : IsDevice k place before
  pub sent : sent_of place ≡ boot_up k ∷ []
  pub put : ArePut (boot_up k ∷ []) array filled
  pub number : count ≡ 1
