-- Changes of the CAN controller as inputs of a device: bus-off, error passive, and their ends
-- (CiA 301, 7.2.7.1 and 7.5.2.32).
use Rattle.std.specs.Prelude.{◌≡◌, ℕ, ◌==◌, if◌then◌else◌, List, [], ◌∷◌, Option, Some, None, unwrap_or, slice_index_or}
use Rattle.co_frame.specs.declared.nmt.NmtService.{NmtService}
use Rattle.co_frame.specs.declared.nmt.NmtService.TheVariants.{Stop, EnterPreOperational}
use Rattle.co_frame.specs.Nmt.{nmt_command_bytes}
use Rattle.co_profile.specs.Keys.{error_behaviour_key, error_register_key}
use Rattle.co_node_parts.specs.declared.nmt_state.LossReaction.{LossReaction}
use Rattle.co_node_parts.specs.declared.nmt_state.LossReaction.TheVariants.{LeaveOperational, NoChange, EnterStopped}
use Rattle.co_node_parts.specs.declared.nmt_state.NodeState.{NodeState}
use Rattle.co_node_parts.specs.declared.nmt_state.NodeState.TheVariants.{PreOperational, Operational, Stopped}
use Rattle.co_node_parts.specs.NmtStates.{reaction_with}
use Rattle.co_node_model.specs.Inputs.{InputView, Inputs, Framed, Applied, Raised, Cleared}
use Rattle.co_node_model.specs.Moments.{Constants}
use Rattle.co_node_model.specs.Device.{contents_of, state_of}
use Rattle.co_node.specs.Nodes.{Stands}
use Rattle.bafokun.specs.declared.frames.CanFrame.{CanFrame}
use Rattle.bafokun.specs.declared.held.Held.{Held}
use Rattle.bafokun.specs.declared.handle.Handle.{Handle}
use Rattle.bafokun.specs.declared.ending.Ending.{Ending}
use Rattle.bafokun.specs.Devices.{Gave, Gives, IsDevice, sent_of}
use Rattle.bafokun.specs.Ending.{by_change, ended_bits}
use Rattle.bafokun.specs.Frames.{ArePut}

-- the first byte of an entry, such as the error register (1001h) or the error behaviour (1029:01);
-- 0 if there is none
abbrev pub byte_of : Option (List ℕ) → ℕ
byte_of bytes = slice_index_or (unwrap_or bytes []) 0 0

-- an error of the CAN interface: it sets bit 4 of the error register, communication error; bit 0 is
-- always set
abbrev pub bus_error : ℕ → InputView
bus_error code = Applied (Raised code 0x10 (0 ∷ 0 ∷ 0 ∷ 0 ∷ 0 ∷ []))

-- an NMT command to all nodes (7.2.8.3.1)
abbrev pub command_to_all : NmtService → InputView
command_to_all service =
    Framed (record { id = 0; bytes = nmt_command_bytes (record { service = service; node = 0 }) })

-- the NMT command that has the effect of a lost heartbeat (7.5.2.32)
abbrev pub by_reaction : LossReaction → NodeState → Option InputView
by_reaction NoChange state = None
by_reaction EnterStopped state = Some (command_to_all Stop)
by_reaction LeaveOperational Operational = Some (command_to_all EnterPreOperational)
by_reaction LeaveOperational PreOperational = None
by_reaction LeaveOperational Stopped = None

-- the input of a change, by which bits of the error register end: 0 error active again, 1 error
-- passive (8120h), 2 bus-off, 3 recovered from bus-off (8140h)
abbrev pub bus_input : Constants → Inputs → Ending → ℕ → Option InputView
bus_input k before e change =
    if change == 0 then Some (Applied (Cleared (ended_bits e (byte_of (contents_of k before error_register_key)))))
    else if change == 1 then Some (bus_error 0x8120)
    else if change == 2
    then by_reaction (reaction_with (byte_of (contents_of k before error_behaviour_key))) (state_of k before)
    else if change == 3 then Some (bus_error 0x8140)
    else None

-- which bits of the error register end after a change
abbrev pub ending_after : Constants → Inputs → ℕ → Ending → Ending
ending_after k before change e = by_change change (byte_of (contents_of k before error_register_key)) e

-- the inputs after a change
abbrev pub after_bus : Option InputView → Inputs → Inputs
after_bus None before = before
after_bus (Some input) before = input ∷ before

-- the device after a change that is no input: nothing happens
pub record IsIdle (k : Constants) (before : Inputs) (held : Held) : Type 0 where
  pub stands : Stands k held.node before
  pub sent : held.sent.items ≡ []

-- a held device after a change
abbrev pub GaveBus : Constants → Inputs → Option InputView → Held → Type 0
GaveBus k before None held = IsIdle k before held
GaveBus k before (Some input) held = Gave k before input held

-- the result of a change that is no input: no frame
pub record GivesNothing (k : Constants) (before : Inputs)
    (place : Handle) (array filled : List CanFrame) (count : ℕ) : Type 0 where
  pub stands : IsDevice k place before
  pub sent : sent_of place ≡ []
  pub put : ArePut [] array filled
  pub number : count ≡ 0

-- the frames of a change, if it is an input
abbrev pub GivesBus : Constants → Inputs → Option InputView → Handle → List CanFrame → List CanFrame → ℕ → Type 0
GivesBus k before None place array filled count = GivesNothing k before place array filled count
GivesBus k before (Some input) place array filled count = Gives k before input place array filled count
