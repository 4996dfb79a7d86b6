-- The effect of a refused application event.
use Rattle.std.specs.Prelude.{◌≡◌, ℕ, List, ◌∷◌}
use Rattle.co_frame.specs.FrameContent.{FrameContent}
use Rattle.co_node_model.specs.declared.address.Address.TheVariants.{Nobody}
use Rattle.co_node_model.specs.declared.app_answer.AppAnswer.TheVariants as app
use Rattle.co_node_model.specs.Addresses.{address_at}
use Rattle.co_node_model.specs.Inputs.{AppView, Applied, Framed, Inputs}
use Rattle.co_node_model.specs.Moments.{Constants}
use Rattle.co_node_model.specs.Device.{app_after, contents_of, moments, prescribed}
use Rattle.co_node_device.specs.NodeStanding.{NodeStands}
use Rattle.co_node.specs.declared.node.Node.{Node}
use Rattle.co_node.specs.Nodes.{description_of, entries_of}

-- this frame is for nobody after these inputs
abbrev pub IsForNobody : Constants → Inputs → FrameContent → Type 0
IsForNobody k inputs frame = address_at k (moments k inputs) frame.id ≡ Nobody

-- a device, and the frames it sent, after an application event that was refused with this abort
-- code: no entry changed, and frames and parts are those after a frame for nobody; only the answer
-- differs
pub record AsForNobody (k : Constants) (node : Node) (sent : List FrameContent) (before : Inputs) (event : AppView) (code : ℕ) : Type 0 where
  pub answer : app_after k (Applied event ∷ before) ≡ app.Refused (record { 0 = code })
  pub contents : contents_of k (Applied event ∷ before) ≡ contents_of k before
  pub frames : (frame : FrameContent) → IsForNobody k before frame → sent ≡ prescribed k before (Framed frame)
  pub stands : (frame : FrameContent) → IsForNobody k before frame →
      NodeStands k (description_of node.device.store) (entries_of node.device.store)
      (record node.device.parts { last_app = app.None }) (Framed frame ∷ before)
