-- How long a frame of an RPDO waits for a SYNC, over all inputs (CiA 301, 7.2.2.2 and 7.5.2.35).
use Rattle.std.specs.Prelude.{◌≡◌, ℕ, ◌-◌, ◌==◌, ◌&&◌, ◌||◌, not, is_some, Bool, true, false, List, ◌++◌, Option, Some, None, [], ◌∷◌}
use Rattle.std.specs.List.{filter_map, range_with_len}
use Rattle.co_value.specs.declared.key.Key.{Key}
use Rattle.co_frame.specs.FrameContent.{FrameContent}
use Rattle.co_profile.specs.Indices.{rpdo_communication}
use Rattle.co_profile.specs.TransmissionTypes.{is_synchronous}
use Rattle.co_dict.specs.Rows.{Contents}
use Rattle.co_dict.specs.Stores.{Description}
use Rattle.co_node_parts.specs.declared.nmt_state.NodeState.TheVariants.{Operational}
use Rattle.co_node_parts.specs.declared.nmt_state.Transition.{Transition}
use Rattle.co_node_parts.specs.declared.rpdo_slots.KeptFrame.{KeptFrame}
use Rattle.co_node_parts.specs.NmtStates.{is_state, leaves}
use Rattle.co_node_parts.specs.RpdoSlots.{kept_of, numbered}
use Rattle.co_node_model.specs.declared.address.Address.TheVariants.{Rpdo}
use Rattle.co_node_model.specs.Addresses.{address_at}
use Rattle.co_node_model.specs.Inputs.{InputView, Inputs, Framed}
use Rattle.co_node_model.specs.Rpdos.{empties_slot, is_short, rpdo_type, slot_log}
use Rattle.co_node_model.specs.Nmt.{is_reset, transition_of}
use Rattle.co_node_model.specs.declared.mark.Mark.{Mark}
use Rattle.co_node_model.specs.Moments.{Constants}
use Rattle.co_node_model.specs.Device.{contents_of, moments, state_of}
use Rattle.co_node_model.specs.Marks.{marked_key, marked_rpdo, marked_sync}
use Rattle.co_node_laws.specs.Distances.{moment_at}

-- the frame of RPDO n that waits for a SYNC after all inputs, if one does
abbrev pub waiting_frame : Constants → ℕ → Inputs → Option FrameContent
waiting_frame k n inputs = kept_of n (slot_log k (moments k inputs))

-- the COB-ID or the transmission type of RPDO n was written, 1400h + n:01 or 02
abbrev pub renews : ℕ → Option Key → Bool
renews n None = false
renews n (Some key) = empties_slot key && n == key.index - rpdo_communication.0

-- a newer frame of RPDO n was received that waits: the transmission type is 0 to 240, and it isn't
-- too short. A frame that is too short is dropped, and the frame before it stays (7.2.2.4)
abbrev pub is_newer_of : ℕ → Description → Contents → Option KeptFrame → Bool
is_newer_of n d contents None = false
is_newer_of n d contents (Some rpdo) =
    n == rpdo.number && (is_synchronous (rpdo_type contents rpdo.number) && not (is_short d contents rpdo))

-- a SYNC was received in operational
abbrev pub is_effective : Option FrameContent → Transition → Bool
is_effective sync t = is_some sync && is_state Operational t.after

-- an input leaves a frame of RPDO n waiting: it is no reset and no SYNC in operational, operational
-- isn't left, the COB-ID and the transmission type of the RPDO aren't written, and no newer frame
-- replaces it
abbrev pub leaves_waiting : ℕ → Description → Contents → Mark → Transition → Bool
leaves_waiting n d contents mark t =
    not (is_reset mark || leaves Operational t)
    && (not (is_effective (marked_sync mark) t) && (not (renews n (marked_key mark)) && not (is_newer_of n d contents (marked_rpdo mark))))

-- one more input leaves a frame of RPDO n waiting
abbrev pub keeps_waiting : Constants → ℕ → Inputs → InputView → Bool
keeps_waiting k n inputs input =
    leaves_waiting n k.description (contents_of k inputs) (moment_at k inputs input).mark
    (transition_of (moment_at k inputs input) (moments k inputs))

-- all these later inputs, newest first, leave it waiting
abbrev pub all_keep_waiting : Constants → ℕ → Inputs → Inputs → Bool
all_keep_waiting k n inputs [] = true
all_keep_waiting k n inputs (input ∷ later) = keeps_waiting k n (later ++ inputs) input && all_keep_waiting k n inputs later

-- ---- the origin of a waiting frame

-- a frame is accepted to wait after some inputs: it is for RPDO n, in operational, the transmission
-- type is 0 to 240, and it isn't too short
pub record IsAccepted (k : Constants) (n : ℕ) (inputs : Inputs) (frame : FrameContent) : Type 0 where
  pub address : address_at k (moments k inputs) frame.id ≡ Rpdo n
  pub operational : state_of k inputs ≡ Operational
  pub kind : is_synchronous (rpdo_type (contents_of k inputs) n) ≡ true
  pub long : is_short k.description (contents_of k inputs) (record { number = n; frame = frame }) ≡ false

-- a frame is the last that RPDO n accepted, and all inputs since leave it waiting
pub record IsLastAccepted (k : Constants) (n : ℕ) (inputs : Inputs) (frame : FrameContent) : Type 0 where
  pub later : Inputs
  pub before : Inputs
  pub all : inputs ≡ later ++ Framed frame ∷ before
  pub accepted : IsAccepted k n before frame
  pub since : all_keep_waiting k n (Framed frame ∷ before) later ≡ true

-- the frames that wait, by the number of their RPDO
abbrev pub waiting_frames : Constants → Inputs → List KeptFrame
waiting_frames k inputs = filter_map (λ n. numbered n (waiting_frame k n inputs)) (range_with_len 0 512)
