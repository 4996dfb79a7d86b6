-- Which frames `compare` takes for TPDOs of a device, and what the laws about them ask of all others.
use Rattle.std.specs.Prelude.{◌≡◌, ℕ, Bool, false, ◌||◌, List, [], ◌∷◌}
use Rattle.std.specs.List.{AllByRecursion}
use Rattle.co_frame.specs.FrameContent.{FrameContent}
use Rattle.co_sdo.specs.Events.{frames_at}
use Rattle.co_node_model.specs.Device.{moment, moments}
use Rattle.co_node_model.specs.Emergencies.{emergency_frames}
use Rattle.co_node_model.specs.Inputs.{InputView, Inputs, Framed, Ticked, Applied}
use Rattle.co_node_model.specs.Moments.{Constants, Moment}
use Rattle.conode_compare_pdos.specs.declared.pdos.Pdos.{Pdos}
use Rattle.conode_compare_pdos.specs.Tpdos.{is_id}
use Rattle.conode_compare_laws.specs.Recordings.{Stamped}

-- one of the four TPDOs that are followed has this identifier
abbrev pub is_followed : Pdos → ℕ → Bool
is_followed pdos id =
    is_id pdos.first.parameters.id id || (is_id pdos.second.parameters.id id || (is_id pdos.third.parameters.id id || is_id pdos.fourth.parameters.id id))

-- an input is no frame with the identifier of one of them
abbrev pub IsNoTpdo : Pdos → InputView → Type 0
IsNoTpdo pdos (Framed frame) = is_followed pdos frame.id ≡ false
IsNoTpdo pdos Ticked = Unit {0}
IsNoTpdo pdos (Applied event) = Unit {0}

-- no other node sends one
abbrev pub AreNoTpdos : Pdos → List Stamped → Type 0
AreNoTpdos pdos inputs = AllByRecursion (λ s. IsNoTpdo pdos s.input) inputs

abbrev pub AreUnfollowed : Pdos → List FrameContent → Type 0
AreUnfollowed pdos frames = AllByRecursion (λ frame. is_followed pdos frame.id ≡ false) frames

-- none of SDO and of EMCY that a device sends at an input has the identifier of one of them
pub record SendsBesideTpdos (pdos : Pdos) (k : Constants) (m : Moment) : Type 0 where
  pub answers : AreUnfollowed pdos (frames_at m.exchange)
  pub time_out : AreUnfollowed pdos (frames_at m.timed_out)
  pub emergency : AreUnfollowed pdos (emergency_frames m.contents m.emergency)

-- at each of these inputs, which come after those before
abbrev pub AllSendBesideTpdos : Pdos → Constants → Inputs → List Stamped → Type 0
AllSendBesideTpdos pdos k before [] = Unit {0}
AllSendBesideTpdos pdos k before (s ∷ later) =
    SendsBesideTpdos pdos k (moment k (moments k before) s.input) × AllSendBesideTpdos pdos k (s.input ∷ before) later
