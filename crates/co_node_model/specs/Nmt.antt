-- NMT: commands, resets, and the NMT state (CiA 301, 7.2.8.3.1 and 7.3.2).
use Rattle.std.specs.Prelude.{Bool, true, false, Option, Some, None, ℕ, ◌==◌, ◌||◌, if◌then◌else◌, [], ◌∷◌}
use Rattle.co_frame.specs.declared.nmt.NmtService.{NmtService}
use Rattle.co_frame.specs.declared.nmt.NmtService.TheVariants.{Start, Stop, EnterPreOperational, ResetNode, ResetCommunication}
use Rattle.co_frame.specs.declared.nmt.NmtCommand.{NmtCommand}
use Rattle.co_dict.specs.declared.area.Area.TheVariants.{Communication, All}
use Rattle.co_dict.specs.Rows.{Contents, restored}
use Rattle.co_dict.specs.declared.area.Area.{Area}
use Rattle.co_node_parts.specs.declared.nmt_state.StateEvent.{StateEvent}
use Rattle.co_node_parts.specs.NmtStates.{StateLog, state_after}
use Rattle.co_node_parts.specs.declared.nmt_state.NodeState.{NodeState}
use Rattle.co_node_parts.specs.declared.nmt_state.Transition.{Transition}
use Rattle.co_node_parts.specs.declared.nmt_state.StateEvent.TheVariants as state
use Rattle.co_node_model.specs.declared.mark.Mark.{Mark}
use Rattle.co_node_model.specs.Moments.{Moment, History}
use Rattle.co_node_model.specs.Inputs.{InputView, Framed}
use Rattle.co_node_model.specs.Marks.{command_mark, marked_command}

-- ---- the kinds of commands

-- a service is a reset, of the node or of its communication
abbrev pub resets : NmtService → Bool
resets Start = false
resets Stop = false
resets EnterPreOperational = false
resets ResetNode = true
resets ResetCommunication = true

-- a reset was commanded
abbrev pub is_reset_by : Option NmtService → Bool
is_reset_by None = false
is_reset_by (Some service) = resets service

-- the input was a reset
abbrev pub is_reset : Mark → Bool
is_reset mark = is_reset_by (marked_command mark)

-- the event of a command, if there was one
abbrev pub commanded_event : Option NmtService → StateEvent
commanded_event None = state.Quiet
commanded_event (Some service) = state.Command service

-- the event of the NMT state
abbrev pub state_event : Mark → StateEvent
state_event mark = commanded_event (marked_command mark)

-- ---- a command is received

-- the service of a command for this node or for all nodes
abbrev pub service_for : ℕ → Option NmtCommand → Option NmtService
service_for node None = None
service_for node (Some command) = if command.node == 0 || command.node == node then Some command.service else None

-- the contents after a service: reset node restores all entries, reset communication those of the
-- communication profile
abbrev pub after_service : Contents → Option NmtService → Contents → Contents
after_service initial None contents = contents
after_service initial (Some Start) contents = contents
after_service initial (Some Stop) contents = contents
after_service initial (Some EnterPreOperational) contents = contents
after_service initial (Some ResetNode) contents = restored All initial contents
after_service initial (Some ResetCommunication) contents = restored Communication initial contents

-- the moment with an NMT command, by its service
abbrev pub with_service : Contents → Option NmtService → Moment → Moment
with_service initial service m =
    record m { mark = command_mark service; received = after_service initial service m.received }

-- ---- the state, over all inputs: commands and lost heartbeats

-- the events of the NMT state
abbrev pub state_log : History → StateLog
state_log [] = []
state_log (m ∷ history) = m.loss ∷ state_event m.mark ∷ state_log history

-- the NMT state
abbrev pub state_at : History → NodeState
state_at history = state_after (state_log history)

-- the states before and after an input
abbrev pub transition_of : Moment → History → Transition
transition_of m history = record { before = state_at history; after = state_at (m ∷ history) }

-- the NMT command that resets an area of all nodes (CiA 301, 7.2.8.3.1)
abbrev pub reset_of : Area → InputView
reset_of All = Framed (record { id = 0; bytes = 129 ∷ 0 ∷ [] })
reset_of Communication = Framed (record { id = 0; bytes = 130 ∷ 0 ∷ [] })
