-- Several ticks by one call.
use Rattle.std.specs.Prelude.{◌≡◌, ℕ, zero, suc, ◌<◌, ◌≤◌, List, [], length}
use Rattle.co_frame.specs.FrameContent.{FrameContent}
use Rattle.co_node_model.specs.Inputs.{Inputs, Ticked}
use Rattle.co_node_model.specs.Moments.{Constants}
use Rattle.co_node_model.specs.Device.{prescribed}
use Rattle.co_node_model.specs.Ticks.{after_ticks}
use Rattle.co_node.specs.Nodes.{Stands}
use Rattle.bafokun.specs.declared.frames.CanFrame.{CanFrame}
use Rattle.bafokun.specs.declared.held.Held.{Held}
use Rattle.bafokun.specs.declared.handle.Handle.{Handle}
use Rattle.bafokun.specs.Devices.{IsDevice, sent_of}
use Rattle.bafokun.specs.Frames.{ArePut}

-- the frames of the last of these ticks; none if there is no tick
abbrev pub given_last : Constants → Inputs → ℕ → List FrameContent
given_last k before zero = []
given_last k before (suc n) = prescribed k (after_ticks n before) Ticked

-- `count` ticks, at most `most`: those before the last sent nothing, and there are fewer than
-- `most` only if the last one sent frames
pub record AreTicks (k : Constants) (before : Inputs) (most count : ℕ) : Type 0 where
  pub within : count ≤ most
  pub quiet : (n : ℕ) → n < count → given_last k before n ≡ []
  pub early : count < most → given_last k before count ≡ [] → ⊥

-- after them
pub record GaveTicks (k : Constants) (before : Inputs) (most count : ℕ) (held : Held) : Type 0 where
  pub ticks : AreTicks k before most count
  pub stands : Stands k held.node (after_ticks count before)
  pub sent : held.sent.items ≡ given_last k before count

-- after them; the frames of the last one are put into an array
pub record GivesTicks (k : Constants) (before : Inputs) (most count : ℕ)
    (place : Handle) (array filled : List CanFrame) (frames : ℕ) : Type 0 where
  pub ticks : AreTicks k before most count
  pub stands : IsDevice k place (after_ticks count before)
  pub sent : sent_of place ≡ given_last k before count
  pub put : ArePut (given_last k before count) array filled
  pub number : frames ≡ length (given_last k before count)
