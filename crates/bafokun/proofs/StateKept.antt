-- A frame with another identifier than 0 leaves the NMT state as it is.
use Rattle.std.proofs.Common.{◌≡◌, ◌==◌, ℕ, Bool, true, false, Option, Some, None, ◌∷◌, ◌-◌, refl, sym, ◌∙◌, arith}
use Rattle.std.specs.Prelude.{if◌then◌else◌}
use Rattle.std.proofs.lemmas.Bool.Decides.{nat_tests}
use Rattle.co_frame.specs.FrameContent.{FrameContent}
use Rattle.co_frame.specs.Heartbeats.{heartbeat_in}
use Rattle.co_dict.specs.Rows.{Contents}
use Rattle.co_node_model.specs.declared.address.Address.{Address}
use Rattle.co_node_model.specs.declared.address.Address.TheVariants.{ErrorControl, Nmt, Nobody, Sync}
use Rattle.co_node_model.specs.Addresses.{address_unless_channel, address_unless_rpdo, is_error_control}
use Rattle.co_node_model.specs.Heartbeats.{is_heartbeat}
use Rattle.co_node_model.specs.Inputs.{Framed, Inputs}
use Rattle.co_node_model.specs.Moments.{Constants}
use Rattle.co_node_model.specs.Device.{state_of}
use Rattle.co_node_model.specs.Rpdos.{rpdo_with}
use Rattle.co_node_model.specs.Sync.{is_sync_id}
use Rattle.co_node_laws.specs.Devices.{Device}
use Rattle.co_node_laws.specs.ByKind.{Heard, Ignored, device_of, kind_of, kind_of_frame, state_with}

pub unequal : (id : ℕ) (is : Bool) → is ≡ (id == 0) → (id ≡ 0 → ⊥) → is ≡ false
unequal id false e other = refl
unequal id true e other = absurd (other (grind (arith, nat_tests, e)))

module _ (k : Constants) (d : Device) (frame : FrameContent) where
  -- a frame to this address leaves the state
  abbrev Keeps : Address → Type 0
  Keeps address = state_with (kind_of_frame k address frame) d ≡ d.state

  heard : (b : Bool) (c : ℕ) → state_with (if b then Heard c else Ignored) d ≡ d.state
  heard true c = refl
  heard false c = refl

  last : (is : Bool) (c : ℕ) → Keeps (if is then ErrorControl c else Nobody)
  last true c = heard (is_heartbeat (heartbeat_in frame.bytes)) c
  last false c = refl

  unless_rpdo : (o : Option ℕ) (id : ℕ) → Keeps (address_unless_rpdo o id)
  unless_rpdo (Some n) id = refl
  unless_rpdo None id = last (is_error_control id) (id - 0x700)

  unless_channel : (o : Option ℕ) (contents : Contents) (id : ℕ) → Keeps (address_unless_channel o contents id)
  unless_channel (Some j) contents id = refl
  unless_channel None contents id = unless_rpdo (rpdo_with contents id) id

  unless_nmt : (is sync : Bool) (o : Option ℕ) (contents : Contents) (id : ℕ) → is ≡ false
      → Keeps (if is then Nmt else (if sync then Sync else address_unless_channel o contents id))
  unless_nmt true sync o contents id off = absurd cc
  unless_nmt false true o contents id off = refl
  unless_nmt false false o contents id off = unless_channel o contents id

pub state_kept : (k : Constants) (past : Inputs) (frame : FrameContent)
    → (state_of k past ≡ (device_of k past).state)
    → (state_of k (Framed frame ∷ past) ≡ state_with (kind_of k (device_of k past) (Framed frame)) (device_of k past))
    → (frame.id ≡ 0 → ⊥) → state_of k (Framed frame ∷ past) ≡ state_of k past
state_kept k past frame now law other =
    law ∙ unless_nmt k (device_of k past) frame (frame.id == 0) (is_sync_id (device_of k past).entries frame.id) _ (device_of k past).entries frame.id
    (unequal frame.id (frame.id == 0) refl other)
    ∙ sym now
